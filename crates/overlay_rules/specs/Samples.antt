-- Small overlays, as their located entries, for worked examples. Assumes nothing.
use Rattle.std.specs.Prelude.{ℕ, List, [], ◌∷◌, ◌++◌, Some, None, codes}
use Rattle.tree.specs.Entries.{Entry}
use Rattle.tree.specs.Numbers.{bytes32}
use Rattle.tree.specs.Places.{Bytes}
use Rattle.tree.specs.Trees.{Tree}

abbrev pub node : ℕ → Bytes → Entry
node at p = record { at = at; place = (p, None); value = [] }

abbrev pub property : ℕ → Bytes → Bytes → Bytes → Entry
property at p n v = record { at = at; place = (p, Some n); value = v }

abbrev pub text : Bytes → Bytes
text s = s ++ 0 ∷ []

-- one fragment, whose `__overlay__` stands at 24 of the entries' offsets
abbrev pub fragment : Entry → List Entry → List Entry
fragment target below = node 0 (codes "/") ∷ node 8 (codes "/f") ∷ target ∷ node 24 (codes "/f/__overlay__") ∷ below

abbrev pub to_path : Bytes → Entry
to_path p = property 16 (codes "/f") (codes "target-path") (text p)

abbrev pub to_number : ℕ → Entry
to_number n = property 16 (codes "/f") (codes "target") (bytes32 n)

-- a fixup under a label
abbrev pub fixup : ℕ → Bytes → Bytes → Entry
fixup at l s = property at (codes "/__fixups__") l (text s)

abbrev pub on_body : ℕ → Bytes → Bytes → Entry
on_body at n v = property at (codes "/f/__overlay__") n v

abbrev pub on_cell : ℕ → Bytes → Bytes → Entry
on_cell at n v = property at (codes "/f/__overlay__/c") n v

-- the tree with `/soc/bus`, phandle n, which the label `bus` names
abbrev pub base_with : Bytes → Tree
base_with h = record {
  boot = 0;
  places =
      ((codes "/", None), [])
      ∷ ((codes "/__symbols__", None), [])
      ∷ ((codes "/__symbols__", Some (codes "bus")), text (codes "/soc/bus"))
      ∷ ((codes "/soc", None), [])
      ∷ ((codes "/soc/bus", None), [])
      ∷ ((codes "/soc/bus", Some (codes "phandle")), h)
      ∷ [];
}

abbrev pub base : Tree
base = base_with (bytes32 5)

-- adds `cell@1` with phandle 1 and the symbol `cell` to what the label `bus` names
abbrev pub adds_cell : List Entry
adds_cell =
    fragment (to_number 0)
    (node 32 (codes "/f/__overlay__/cell@1") ∷ property 40 (codes "/f/__overlay__/cell@1") (codes "phandle") (bytes32 1)
    ∷ node 48 (codes "/__symbols__") ∷ property 56 (codes "/__symbols__") (codes "cell") (text (codes "/f/__overlay__/cell@1"))
    ∷ node 64 (codes "/__fixups__") ∷ fixup 72 (codes "bus") (codes "/f:target:0") ∷ [])

-- sets one property of the node that a label names
abbrev pub sets_at : Bytes → Bytes → Bytes → List Entry
sets_at l n v = fragment (to_number 0) (on_body 32 n v ∷ node 48 (codes "/__fixups__") ∷ fixup 56 l (codes "/f:target:0") ∷ [])

-- sets one property of a node by its path
abbrev pub sets_on : Bytes → Bytes → Bytes → List Entry
sets_on p n v = fragment (to_path p) (on_body 32 n v ∷ [])

-- adds a child with phandle 1 to `/soc`
abbrev pub adds_child : Bytes → List Entry
adds_child n = fragment (to_path (codes "/soc")) (node 32 (codes "/f/__overlay__/" ++ n) ∷ property 40 (codes "/f/__overlay__/" ++ n) (codes "phandle") (bytes32 1) ∷ [])
