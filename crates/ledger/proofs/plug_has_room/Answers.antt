use Rattle.ledger.proofs.Restoring.{plugging}
use Rattle.ledger.proofs.plug_has_room.Goals as goal

pub returns : goal.returns
returns c = plugging
