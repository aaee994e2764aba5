-- The order of names and of paths. Assumes nothing.
use Rattle.std.specs.Prelude.{ℕ, ◌+◌, cond, List, map, ◌==◌}
use Rattle.std.specs.declared.cmp.Ordering.{Ordering}
use Rattle.std.specs.Ordering as std-orderings
use Rattle.std.specs.Cmp.Lexicographic.{slice_cmp}

-- names by their bytes, a prefix first
abbrev pub name_order : List ℕ → List ℕ → Ordering
name_order a b = slice_cmp std-orderings.nat_cmp a b

-- a `/` comes below every byte of a name
abbrev pub rank : ℕ → ℕ
rank b = cond (b == 47) 0 (b + 1)

-- paths name by name, which is document order: a node, then all below it, then its later siblings
abbrev pub path_order : List ℕ → List ℕ → Ordering
path_order p q = slice_cmp std-orderings.nat_cmp (map rank p) (map rank q)
