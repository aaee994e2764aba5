-- Nodes in records and a byte pool: each record's bytes are the next ones of the pool, so that records hold lengths alone. Assumes nothing.
use Rattle.std.specs.Prelude.{ℕ, ◌+◌, Bool, ◌&&◌, ◌||◌, List, [], ◌∷◌, ◌++◌, map, length, take, drop, ◌==◌, nat_le}
use Rattle.tree.specs.Places.{Bytes}
use Rattle.tape.specs.declared.Mark.{Mark}
use Rattle.tape.specs.declared.Spot.{Spot}
use Rattle.tape.specs.Nodes.{Node, Property}
use Rattle.tape.specs.Tapes.{nth, properties_at}
use Rattle.live.specs.declared.memory.Memory.{Memory}
use Rattle.live.specs.declared.memory.NodeRecord.{NodeRecord}
use Rattle.live.specs.declared.memory.PropertyRecord.{PropertyRecord}

-- ---- how nodes are kept

abbrev pub cell_of : Property → PropertyRecord
cell_of x = record { name = length x.0; value = length x.1 }

unfoldable pub property_bytes : List Property → Bytes
property_bytes [] = []
property_bytes (x ∷ xs) = x.0 ++ (x.1 ++ property_bytes xs)

abbrev pub row_of : Node → NodeRecord
row_of n = record { depth = n.depth; name = length n.name; properties = length n.properties; bytes = length (property_bytes n.properties) }

abbrev pub rows_of : List Node → List NodeRecord
rows_of ns = map row_of ns

unfoldable pub cells_of : List Node → List PropertyRecord
cells_of [] = []
cells_of (n ∷ ns) = map cell_of n.properties ++ cells_of ns

unfoldable pub bytes_of : List Node → Bytes
bytes_of [] = []
bytes_of (n ∷ ns) = n.name ++ (property_bytes n.properties ++ bytes_of ns)

-- ---- what records and a pool spell

unfoldable pub properties_from : List PropertyRecord → Bytes → List Property
properties_from [] pool = []
properties_from (r ∷ rs) pool =
    (take r.name pool, take r.value (drop r.name pool)) ∷ properties_from rs (drop r.value (drop r.name pool))

unfoldable pub nodes_from : List NodeRecord → List PropertyRecord → Bytes → List Node
nodes_from [] ps pool = []
nodes_from (r ∷ rs) ps pool =
    record { depth = r.depth; name = take r.name pool; properties = properties_from (take r.properties ps) (drop r.name pool) } ∷ nodes_from rs (drop r.properties ps) (drop r.bytes (drop r.name pool))

-- ---- the memory of a store, and how much of it is in use

abbrev pub used_rows : Memory → List NodeRecord
used_rows m = take m.nodes.used m.nodes.items.now

abbrev pub used_cells : Memory → List PropertyRecord
used_cells m = take m.properties.used m.properties.items.now

abbrev pub used_bytes : Memory → Bytes
used_bytes m = take m.pool.used m.pool.items.now

abbrev pub held : Memory → List Node
held m = nodes_from (used_rows m) (used_cells m) (used_bytes m)

-- a store in use has room for every tree within the limits
abbrev pub room_for : Memory → Bool
room_for m =
    (m.nodes.used == 0) || (nat_le 256 (length m.nodes.items.now) && (nat_le 1024 (length m.properties.items.now) && nat_le 24576 (length m.pool.items.now)))

-- records as the numbers in them
unfoldable pub flat_rows : List NodeRecord → List ℕ
flat_rows [] = []
flat_rows (r ∷ rs) = r.depth ∷ (r.name ∷ (r.properties ∷ (r.bytes ∷ flat_rows rs)))

unfoldable pub flat_cells : List PropertyRecord → List ℕ
flat_cells [] = []
flat_cells (r ∷ rs) = r.name ∷ (r.value ∷ flat_cells rs)

-- where the node at an index is, and its properties
abbrev pub spot_in : List Node → ℕ → Spot
spot_in ns i = record { node = i; property = length (cells_of (take i ns)); at = length (bytes_of (take i ns)) }

abbrev pub mark_in : List Node → ℕ → ℕ → Mark
mark_in ns i k =
    record { node = i; number = k; property = length (cells_of (take i ns)) + k; at = length (bytes_of (take i ns)) + length (nth ns i).name + length (property_bytes (take k (properties_at ns i))) }
