use Rattle.ledger.proofs.Examples.{refusals}
use Rattle.ledger.proofs.refusals_stand.Goals as goal

pub returns : goal.returns
returns c = refusals
