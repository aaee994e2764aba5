-- What the inner functions of the walk hold on to. Assumes nothing.
use Rattle.std.specs.Prelude.{◌≡◌, ◌+◌, ◌≤◌, ◌==◌, ◌||◌, Bool, true, [], ◌∷◌, ◌++◌, length, take, Some, None, Ok, Err, Option, Result}
use Rattle.tree.specs.Places.{Bytes, node_at}
use Rattle.tree.specs.Trees.{look}
use Rattle.store.specs.Calls.{Meaning, closed, holds, there}
use Rattle.store.specs.declared.Refusal.{Refusal}
use Rattle.walk.specs.Walks.{next_node}
use Rattle.walk.specs.declared.walk.Child.{Child}

-- it is open, and the node is there
abbrev pub Stands : Meaning → Bytes → Type 0
Stands closed p = ⊥
Stands (holds t) p = look t (node_at p) ≡ Some []

-- a walk stands at p: it is empty, or the node is there
abbrev pub walks : Meaning → Bytes → Bool
walks closed p = true
walks (holds t) p = length p == 0 || there t (node_at p)

-- the child is the next node behind the one at p
pub record Next (m : Meaning) (p : Bytes) (c : Child) : Type 0 where
  pub is : next_node m p 256 ≡ Ok (Some (take c.stem p ++ (47 ∷ c.name.items)))
  pub within : c.stem ≤ length p
  pub short : c.stem + 1 + length c.name.items ≤ 255

-- the question for it is never refused
abbrev pub Finds : Meaning → Bytes → Result (Option Child) Refusal → Type 0
Finds m p (Err e) = ⊥
Finds m p (Ok None) = next_node m p 256 ≡ Ok None
Finds m p (Ok (Some c)) = Next m p c
