-- Worked examples of the check. Assumes nothing.
use Rattle.std.specs.Prelude.{◌≡◌, ℕ, true, List, [], ◌∷◌, ◌++◌, replicate, Some, None, codes}
use Rattle.tree.specs.Entries.{Entry, well_listed}
use Rattle.tree.specs.Numbers.{bytes32}
use Rattle.tree.specs.Places.{Bytes}
use Rattle.overlay_rules.specs.Checks.{check}
use Rattle.overlay_rules.specs.Texts.{joined}
use Rattle.overlay_rules.specs.Samples.{node, property, text, fragment, to_path, to_number, fixup, on_body, on_cell}

-- an overlay with a fixup, a local fixup and a symbol
abbrev pub whole : List Entry
whole =
    fragment (to_number 0)
    (on_body 32 (codes "ref") (replicate 8 0) ∷ node 48 (codes "/f/__overlay__/c") ∷ on_cell 56 (codes "phandle") (bytes32 1)
    ∷ on_cell 64 (codes "self") (bytes32 1)
    ∷ node 72 (codes "/__fixups__") ∷ fixup 80 (codes "bus") (codes "/f:target:0") ∷ fixup 84 (codes "clk") (codes "/f/__overlay__:ref:4")
    ∷ node 88 (codes "/__local_fixups__") ∷ node 92 (codes "/__local_fixups__/f") ∷ node 96 (codes "/__local_fixups__/f/__overlay__")
    ∷ node 100 (codes "/__local_fixups__/f/__overlay__/c") ∷ property 104 (codes "/__local_fixups__/f/__overlay__/c") (codes "self") (bytes32 0)
    ∷ node 108 (codes "/__symbols__") ∷ property 112 (codes "/__symbols__") (codes "cell") (text (codes "/f/__overlay__/c")) ∷ [])

-- a body with a value of eight bytes and a fixup
abbrev pub fixed : Bytes → List Entry
fixed s = fragment (to_path (codes "/")) (on_body 32 (codes "ref") (replicate 8 0) ∷ node 48 (codes "/__fixups__") ∷ fixup 56 (codes "bus") s ∷ [])

abbrev pub phandles : Bytes → Bytes → List Entry
phandles a b = fragment (to_path (codes "/")) (on_body 32 (codes "phandle") a ∷ node 48 (codes "/f/__overlay__/c") ∷ on_cell 56 (codes "phandle") b ∷ [])

-- a body with the phandle 1 and a local fixup of `ref`
abbrev pub raised : Bytes → Bytes → List Entry
raised v os =
    fragment (to_path (codes "/"))
    (on_body 32 (codes "phandle") (bytes32 1) ∷ on_body 40 (codes "ref") v
    ∷ node 48 (codes "/__local_fixups__") ∷ node 52 (codes "/__local_fixups__/f") ∷ node 56 (codes "/__local_fixups__/f/__overlay__")
    ∷ property 60 (codes "/__local_fixups__/f/__overlay__") (codes "ref") os ∷ [])

abbrev pub symbol : Bytes → Bytes → List Entry
symbol l v = fragment (to_path (codes "/")) (node 48 (codes "/__symbols__") ∷ property 56 (codes "/__symbols__") l v ∷ [])

-- two labels with a cell each in one value of eight bytes
abbrev pub two_fixups : Bytes → Bytes → List Entry
two_fixups a b =
    fragment (to_path (codes "/"))
    (on_body 32 (codes "ref") (replicate 8 0) ∷ node 48 (codes "/__fixups__") ∷ fixup 56 (codes "a") (codes "/f/__overlay__:ref:" ++ a) ∷ fixup 60 (codes "b") (codes "/f/__overlay__:ref:" ++ b) ∷ [])

-- so many fragments
abbrev pub fragments : ℕ → List Entry
fragments n = node 0 (codes "/") ∷ joined (replicate n (node 8 (codes "/f") ∷ to_path (codes "/") ∷ node 24 (codes "/f/__overlay__") ∷ []))

pub record CheckExamples : Type 0 where
  pub listed : well_listed whole ≡ true
  pub passes : check whole ≡ None
  -- 16: no number of a phandle, three bytes, and the later of two that are the same
  pub zero_handle : check (phandles (bytes32 0) (bytes32 2)) ≡ Some (16, 32)
  pub short_handle : check (phandles (bytes32 1) (0 ∷ 0 ∷ 2 ∷ [])) ≡ Some (16, 56)
  pub twin_handle : check (phandles (bytes32 7) (bytes32 7)) ≡ Some (16, 56)
  -- 20: no fragment; a special child is none
  pub empty : check (node 0 (codes "/") ∷ []) ≡ Some (20, 0)
  pub special : check (node 0 (codes "/") ∷ node 8 (codes "/__fixups__") ∷ node 16 (codes "/__fixups__/__overlay__") ∷ []) ≡ Some (20, 0)
  pub thirty_two : check (fragments 32) ≡ None
  pub thirty_three : check (fragments 33) ≡ Some (20, 0)
  -- 21: at the fragment's node: no target, both, three bytes, no path
  pub no_target : check (node 0 (codes "/") ∷ node 8 (codes "/f") ∷ node 24 (codes "/f/__overlay__") ∷ []) ≡ Some (21, 8)
  pub one_target : check (fragment (to_path (codes "/")) []) ≡ None
  pub both_targets : check (node 0 (codes "/") ∷ node 8 (codes "/f") ∷ to_path (codes "/") ∷ to_number 1 ∷ node 24 (codes "/f/__overlay__") ∷ []) ≡ Some (21, 8)
  pub short_target : check (fragment (property 16 (codes "/f") (codes "target") (0 ∷ 0 ∷ 1 ∷ [])) []) ≡ Some (21, 8)
  pub no_path : check (fragment (to_path (codes "/soc/")) []) ≡ Some (21, 8)
  -- 22: eight bytes take a fixup at 4, and none at 5; needless zeros; a third colon; no such property; a label `phandle`
  pub at_four : check (fixed (codes "/f/__overlay__:ref:4")) ≡ None
  pub at_five : check (fixed (codes "/f/__overlay__:ref:5")) ≡ Some (22, 56)
  pub zeros : check (fixed (codes "/f/__overlay__:ref:04")) ≡ Some (22, 56)
  pub colons : check (fixed (codes "/f/__overlay__:ref:4:")) ≡ Some (22, 56)
  pub absent : check (fixed (codes "/f/__overlay__:reg:4")) ≡ Some (22, 56)
  pub phandle_label : check (fragment (to_path (codes "/")) (on_body 32 (codes "ref") (replicate 8 0) ∷ node 48 (codes "/__fixups__") ∷ fixup 56 (codes "phandle") (codes "/f/__overlay__:ref:4") ∷ [])) ≡ Some (22, 56)
  -- 23: the cell holds no phandle of a body; past the end; not a multiple of four; two that share a byte
  pub local : check (raised (bytes32 1) (bytes32 0)) ≡ None
  pub foreign : check (raised (bytes32 2) (bytes32 0)) ≡ Some (23, 60)
  pub past : check (raised (bytes32 1) (bytes32 1)) ≡ Some (23, 60)
  pub odd : check (raised (bytes32 1) (0 ∷ 0 ∷ [])) ≡ Some (23, 60)
  pub twice : check (raised (bytes32 1) (bytes32 0 ++ bytes32 0)) ≡ Some (23, 60)
  pub side_by_side : check (two_fixups (codes "0") (codes "4")) ≡ None
  pub shared : check (two_fixups (codes "0") (codes "3")) ≡ Some (23, 60)
  pub shared_lower : check (two_fixups (codes "4") (codes "1")) ≡ Some (23, 60)
  pub no_body : check (fragment (to_path (codes "/")) (node 48 (codes "/__local_fixups__") ∷ property 52 (codes "/__local_fixups__") (codes "ref") [] ∷ [])) ≡ Some (23, 52)
  -- 24: no path of a body node, no zero byte, a label `phandle`
  pub names_body : check (symbol (codes "top") (text (codes "/f/__overlay__"))) ≡ None
  pub names_fragment : check (symbol (codes "top") (text (codes "/f"))) ≡ Some (24, 56)
  pub no_zero : check (symbol (codes "top") (codes "/f/__overlay__")) ≡ Some (24, 56)
  pub bad_label : check (symbol (codes "phandle") (text (codes "/f/__overlay__"))) ≡ Some (24, 56)
