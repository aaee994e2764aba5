-- What the definitions of the calls promise over every tree by the rules. Assumes nothing.
use Rattle.std.specs.Prelude.{◌≡◌, true, false, ◌⊎◌, List, [], ◌∷◌, Some, None, Ok, Err, Option, Result, ◌≢◌}
use Rattle.tree.specs.Places.{Bytes, Place, node_at, property_at}
use Rattle.tree.specs.Trees.{look}
use Rattle.store.specs.declared.Refusal.{Refusal}
use Rattle.store.specs.Calls.{Meaning, closed, holds, Good, boot_of, add_node, drop_node, set_property, drop_property, changed, settled, later, least_after}

-- the value at a place, if it is there
abbrev pub seen : Meaning → Place → Option Bytes
seen closed k = None
seen (holds t) k = look t k

-- a write that answers `a` and leaves w at the place k where it is accepted
pub record Writes (m : Meaning) (a : Result (Unit {0}) Refusal) (k : Place) (w : Option Bytes) : Type 0 where
  -- what it leaves is a tree by the rules again
  pub good : Good (settled a (changed m k w) m)
  -- a refused one changes nothing, an accepted one its own place and no other
  pub refused : (e : Refusal) → a ≡ Err e → settled a (changed m k w) m ≡ m
  pub here : a ≡ Ok tt → seen (settled a (changed m k w) m) k ≡ w
  pub elsewhere : (l : Place) → (l ≢ k) → seen (settled a (changed m k w) m) l ≡ seen m l
  pub boot : boot_of (settled a (changed m k w) m) ≡ boot_of m

-- o is the least name behind n among some names, or none where none of them is behind it
pub record Least (n : Bytes) (among : Bytes → Type 0) (o : Option Bytes) : Type 0 where
  pub found : (m : Bytes) → o ≡ Some m → among m × (later n m ≡ true)
  pub least : (m l : Bytes) → o ≡ Some m → among l → later n l ≡ true → later l m ≡ false
  pub missed : o ≡ None → (l : Bytes) → among l → later n l ≡ false

-- one of some names
abbrev pub Among : Bytes → List Bytes → Type 0
Among l [] = ⊥
Among l (m ∷ ms) = (m ≡ l) ⊎ Among l ms

pub record StoreLaws : Type 0 where
  pub add_node_lem : (m : Meaning) (p : Bytes) → Good m → Writes m (add_node m p) (node_at p) (Some [])
  pub drop_node_lem : (m : Meaning) (p : Bytes) → Good m → Writes m (drop_node m p) (node_at p) None
  pub set_property_lem : (m : Meaning) (p n v : Bytes) → Good m → Writes m (set_property m p n v) (property_at p n) (Some v)
  pub drop_property_lem : (m : Meaning) (p n : Bytes) → Good m → Writes m (drop_property m p n) (property_at p n) None
  -- the next name is the least one behind the given one
  pub next_name_lem : (n : Bytes) (ms : List Bytes) → Least n (λ l. Among l ms) (least_after n ms)
