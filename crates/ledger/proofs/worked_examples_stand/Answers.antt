use Rattle.ledger.proofs.Examples.{worked}
use Rattle.ledger.proofs.worked_examples_stand.Goals as goal

pub returns : goal.returns
returns c = worked
