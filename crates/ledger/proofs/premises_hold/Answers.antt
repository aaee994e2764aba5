use Rattle.ledger.proofs.Examples.{premises}
use Rattle.ledger.proofs.premises_hold.Goals as goal

pub returns : goal.returns
returns c = premises
