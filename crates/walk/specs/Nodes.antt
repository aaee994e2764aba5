-- What a cursor over the nodes of a tree hands out. Assumes nothing.
use Rattle.std.specs.Prelude.{◌≡◌, ℕ, Some, None, Ok, Err, Option, Result}
use Rattle.arrayvec.specs.ArrayVec.{ArrayVec}
use Rattle.tree.specs.Places.{Bytes}
use Rattle.store.specs.Calls.{Meaning}
use Rattle.store.specs.declared.Refusal.{Refusal}
use Rattle.walk.specs.Walks.{next_node}

-- the next node behind p, at which it stands then; behind the last one, and where it is refused, it stays
abbrev pub Gives : Meaning → Bytes → Result (Option (ArrayVec ℕ)) Refusal → Bytes → Type 0
Gives m p (Err e) q = (next_node m p 256 ≡ Err e) × (q ≡ p)
Gives m p (Ok None) q = (next_node m p 256 ≡ Ok None) × (q ≡ p)
Gives m p (Ok (Some x)) q = (next_node m p 256 ≡ Ok (Some x.items)) × (q ≡ x.items)
