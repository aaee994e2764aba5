use Rattle.store.proofs.Keeps.{store_laws}
use Rattle.store.proofs.store_laws_stand.Goals as goal

pub returns : goal.returns
returns c = store_laws
