use Rattle.tree.specs.Places.{Bytes}
use Rattle.tree.proofs.MapLaws.{map_laws}
use Rattle.tree.proofs.Places.{place-order}
use Rattle.tree.proofs.places_lawful.Goals as goal

pub returns : goal.returns
returns c = map_laws Bytes place-order
