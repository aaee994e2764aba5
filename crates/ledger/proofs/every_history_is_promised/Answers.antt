use Rattle.ledger.proofs.Standing.{every_history}
use Rattle.ledger.proofs.every_history_is_promised.Goals as goal

pub returns : goal.returns
returns c = every_history
