-- A tree: its boot CPU number, and its places in document order with their bytes. Assumes nothing.
use Rattle.std.specs.Prelude.{◌≡◌, ℕ, ◌+◌, ◌^◌, ◌<◌, Bool, true, ◌&&◌, List, [], length, Some, None, Option, nat_le}
use Rattle.names.specs.Names.{property_name}
use Rattle.names.specs.Paths.{root, path_text, leaf, parent}
use Rattle.tree.specs.Maps.{find, upd, Rises, total}
use Rattle.tree.specs.Numbers.{pad4}
use Rattle.tree.specs.Places.{Bytes, Place, node_at, order}

-- places with their values, a node's being empty
abbrev pub Places : Type 0
Places = List (Place × Bytes)

pub record Tree : Type 0 where
  pub boot : ℕ
  pub places : Places

-- the value at a place, if it is there
unfoldable pub look : Tree → Place → Option Bytes
look t k = find order t.places k

-- the tree with w at a place: a value put there, or none
unfoldable pub change : Tree → Place → Option Bytes → Tree
change t k w = record { boot = t.boot; places = upd order t.places k w }

-- ---- what the limits count

abbrev pub node_count : Place → Bytes → ℕ
node_count (p, None) v = 1
node_count (p, Some n) v = 0

abbrev pub property_count : Place → Bytes → ℕ
property_count (p, None) v = 0
property_count (p, Some n) v = 1

-- a node: its name and a zero byte, rounded up; a property: its name and a zero byte, and its value rounded up
abbrev pub weigh : Place → Bytes → ℕ
weigh (p, None) v = pad4 (length (leaf p) + 1)
weigh (p, Some n) v = length n + 1 + pad4 (length v)

abbrev pub nodes : Places → ℕ
nodes ps = total node_count ps

abbrev pub properties : Places → ℕ
properties ps = total property_count ps

abbrev pub weight : Places → ℕ
weight ps = total weigh ps

-- the sizes of one place: its path, and its value
abbrev pub short_place : Place → Bytes → Bool
short_place k v = nat_le (length k.0) 255 && nat_le (length v) 4096

-- the counts of all places
abbrev pub roomy : Places → Bool
roomy ps = nat_le (nodes ps) 256 && (nat_le (properties ps) 1024 && nat_le (weight ps) 24576)

-- ---- what is a tree by the rules

-- a path, and a property name, by the rules
abbrev pub named_place : Place → Bool
named_place (p, None) = path_text p
named_place (p, Some n) = path_text p && property_name n

-- the place on which one hangs: a property on its node, a node on its parent; the root on itself
abbrev pub up_place : Place → Place
up_place (p, None) = node_at (parent p)
up_place (p, Some n) = node_at p

pub record Sound (t : Tree) : Type 0 where
  pub rises : Rises order t.places
  pub root : look t (node_at root) ≡ Some []
  -- a node has no bytes of its own
  pub bare : (p v : Bytes) → look t (node_at p) ≡ Some v → v ≡ []
  pub named : (k : Place) (v : Bytes) → look t k ≡ Some v → named_place k ≡ true
  pub hangs : (k : Place) (v : Bytes) → look t k ≡ Some v → look t (up_place k) ≡ Some []
  pub short : (k : Place) (v : Bytes) → look t k ≡ Some v → short_place k v ≡ true
  pub roomy : roomy t.places ≡ true
  pub boot : t.boot < 2 ^ 32
