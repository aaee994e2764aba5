-- What goes over a node's children and its properties. Assumes nothing.
use Rattle.std.specs.Prelude.{◌≡◌, ℕ, ◌+◌, ◌<◌, cond, List, [], ◌∷◌, length, drop, Some, None, Option, ◌==◌, nat_le}
use Rattle.std.specs.Borrow.{Bor}
use Rattle.std.specs.Str.{bytes_eq}
use Rattle.tree.specs.Places.{Bytes}
use Rattle.tape.specs.declared.Mark.{Mark}
use Rattle.tape.specs.declared.Spot.{Spot}
use Rattle.tape.specs.declared.iters.Children.{Children}
use Rattle.tape.specs.declared.iters.Properties.{Properties}
use Rattle.tape.specs.Nodes.{Node, Property}
use Rattle.tape.specs.Tapes.{properties_at}

-- a part of a node where it stands, with its name
abbrev pub with_name : {S : Type 0} → S × Bor Bytes → S × Bytes
with_name x = (x.0, x.1.now)

-- the first so named
unfoldable pub first_named : {S : Type 0} → Bytes → List (S × Bytes) → Option S
first_named c [] = None
first_named c (x ∷ xs) = cond (bytes_eq x.1 c) (Some x.0) (first_named c xs)

-- the children of a node of depth m among the nodes behind it, the first of which is at index i
unfoldable pub children_in : (ℕ → Spot) → ℕ → ℕ → List Node → List (Spot × Bytes)
children_in spot m i [] = []
children_in spot m i (n ∷ ns) =
    cond (nat_le n.depth m) [] (cond (n.depth == m + 1) ((spot i, n.name) ∷ children_in spot m (i + 1) ns) (children_in spot m (i + 1) ns))

-- properties, the first of which has number k
unfoldable pub entries : {S : Type 0} → (ℕ → S) → ℕ → List Property → List (S × Bytes)
entries mark k [] = []
entries mark k (x ∷ xs) = (mark k, x.0) ∷ entries mark (k + 1) xs

module _ {T : Type 0} (nodes : T → List Node) (spot : T → ℕ → Spot) (s : Children T) where
  pub record ChildrenReady : Type 0 where
    pub count : s.count ≡ length (nodes s.tape.now)
    pub at : s.at ≡ spot s.tape.now s.at.node

  -- what is left to come
  abbrev pub children_left : List (Spot × Bytes)
  children_left = children_in (spot s.tape.now) s.depth s.at.node (drop s.at.node (nodes s.tape.now))

module _ {T : Type 0} (nodes : T → List Node) (mark : T → ℕ → ℕ → Mark) (s : Properties T) where
  pub record PropertiesReady : Type 0 where
    pub inside : s.at.node < length (nodes s.tape.now)
    pub count : s.count ≡ length (properties_at (nodes s.tape.now) s.at.node)
    pub at : s.at ≡ mark s.tape.now s.at.node s.at.number

  abbrev pub properties_left : List (Mark × Bytes)
  properties_left = entries (mark s.tape.now s.at.node) s.at.number (drop s.at.number (properties_at (nodes s.tape.now) s.at.node))
