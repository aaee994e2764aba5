use Rattle.ledger.proofs.Examples.{no_mistakes}
use Rattle.ledger.proofs.mistakes_are_impossible.Goals as goal

pub returns : goal.returns
returns c = no_mistakes
