use Rattle.ledger.proofs.Restoring.{answered-offset}
use Rattle.ledger.proofs.offset_is_largest_phandle.Goals as goal

pub returns : goal.returns
returns c = answered-offset
