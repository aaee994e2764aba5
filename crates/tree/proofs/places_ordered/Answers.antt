use Rattle.tree.proofs.Places.{place-order}
use Rattle.tree.proofs.places_ordered.Goals as goal

pub returns : goal.returns
returns c = place-order
