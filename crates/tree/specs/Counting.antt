-- What is counted of a tree, and the limits. Assumes nothing.
use Rattle.std.specs.Prelude.{ℕ, ◌+◌, ◌-◌, Bool, ◌&&◌, nat_le, nat_lt}
use Rattle.tree.specs.Numbers.{pad4}
use Rattle.tree.specs.declared.counts.Counts.{Counts}

-- what a node weighs whose name has so many bytes, and a property whose name and value have
abbrev pub node_weight : ℕ → ℕ
node_weight name = pad4 (name + 1)

abbrev pub property_weight : ℕ → ℕ → ℕ
property_weight name value = name + 1 + pad4 value

abbrev pub zero : Counts
zero = record { nodes = 0; properties = 0; weight = 0 }

-- ---- one node or property more or less

abbrev pub with_node : Counts → ℕ → Counts
with_node c name = record { nodes = c.nodes + 1; properties = c.properties; weight = c.weight + node_weight name }

abbrev pub with_property : Counts → ℕ → ℕ → Counts
with_property c name value = record { nodes = c.nodes; properties = c.properties + 1; weight = c.weight + property_weight name value }

abbrev pub without_node : Counts → ℕ → Counts
without_node c name = record { nodes = c.nodes - 1; properties = c.properties; weight = c.weight - node_weight name }

abbrev pub without_property : Counts → ℕ → ℕ → Counts
without_property c name value = record { nodes = c.nodes; properties = c.properties - 1; weight = c.weight - property_weight name value }

-- ---- whether the limits let one more in, beside what is counted

-- a node whose path and name have so many bytes
abbrev pub node_fits : Counts → ℕ → ℕ → Bool
node_fits c path name = nat_lt c.nodes 256 && (nat_le path 255 && nat_le (c.weight + node_weight name) 24576)

abbrev pub property_fits : Counts → ℕ → ℕ → Bool
property_fits c name value = nat_lt c.properties 1024 && (nat_le value 4096 && nat_le (c.weight + property_weight name value) 24576)
