-- The names of a node's children and properties as a tape has them. Assumes nothing.
use Rattle.std.specs.Prelude.{◌≡◌, ℕ, ◌+◌, ◌≤◌, true, cond, List, [], ◌∷◌, length, Some, None, Ok, Err, Option, Result, ◌==◌, nat_le}
use Rattle.std.specs.Borrow.{Bor}
use Rattle.store.specs.declared.Refusal.{Refusal}
use Rattle.names.specs.Paths.{path_text, stem}
use Rattle.tree.specs.Places.{Bytes, Place}
use Rattle.store.specs.Calls.{least_after, names}
use Rattle.tape.specs.Nodes.{Node, Property, tree_from}
use Rattle.tape.specs.Tapes.{stem_at}

-- the names of the children of a node of depth m, which begin what stands behind it
unfoldable pub kids : ℕ → List Node → List Bytes
kids m [] = []
kids m (n ∷ ns) = cond (nat_le n.depth m) [] (cond (n.depth == m + 1) (n.name ∷ kids m ns) (kids m ns))

unfoldable pub keys : List Property → List Bytes
keys [] = []
keys (x ∷ xs) = x.0 ∷ keys xs

-- a name where it stands, as its bytes
abbrev pub shown_name : Option (Bor Bytes) → Option Bytes
shown_name None = None
shown_name (Some v) = Some v.now

-- a name that is answered fits a buffer of so many bytes
abbrev pub Held : Result (Option Bytes) Refusal → ℕ → Type 0
Held (Err e) room = Unit {0}
Held (Ok None) room = Unit {0}
Held (Ok (Some v)) room = length v ≤ room

-- o is the least name behind n, among those that places give of the node at an index, and fits the buffer of a name
abbrev pub LeastAt : (Bytes → Place → List Bytes) → ℕ → List Node → ℕ → Bytes → Option Bytes → Type 0
LeastAt on boot ns i n o = (p : Bytes) → path_text p ≡ true → stem_at ns i ≡ stem p →
    (o ≡ least_after n (names (on p) (tree_from boot ns).places)) × ((x : Bytes) → o ≡ Some x → length x ≤ 63)
