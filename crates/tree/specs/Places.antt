-- Places: a node's path, alone or with a property name. Assumes nothing.
use Rattle.std.specs.Prelude.{ℕ, List, map, Some, None, Option}
use Rattle.std.specs.declared.cmp.Ordering.{Ordering}
use Rattle.names.specs.Orders.{rank}
use Rattle.std.specs.Ordering as std-orderings
use Rattle.std.specs.Cmp.Lexicographic.{slice_cmp}
use Rattle.std.specs.Option.{option_cmp}
use Rattle.std.specs.Ordering.{ordering_then}

abbrev pub Bytes : Type 0
Bytes = List ℕ

-- a path as bytes, `/` for the root
abbrev pub Place : Type 0
Place = Bytes × Option Bytes

abbrev pub node_at : Bytes → Place
node_at p = (p, None)

abbrev pub property_at : Bytes → Bytes → Place
property_at p name = (p, Some name)

-- document order: a node, its properties by name, then its children by name with all below them
abbrev pub order : Place → Place → Ordering
order k l = ordering_then (slice_cmp std-orderings.nat_cmp (map rank k.0) (map rank l.0)) (option_cmp (slice_cmp std-orderings.nat_cmp) k.1 l.1)
