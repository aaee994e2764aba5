use Rattle.ledger.proofs.Restoring.{striking}
use Rattle.ledger.proofs.untouched_line_is_struck.Goals as goal

pub returns : goal.returns
returns c = striking
