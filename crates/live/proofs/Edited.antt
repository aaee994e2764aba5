-- Memory after an edit. Assumes nothing.
use Rattle.std.proofs.Common.{◌≡◌, ℕ, ◌+◌, ◌-◌, ◌<◌, ◌≤◌, true, List, [], ◌∷◌, ◌++◌, length, get_or, take, drop, set, sym, refl, ap, ◌∙◌, append_assoc, arith}
use borrow.Rule.Slice.Mut.{set_vals}
use Rattle.std.proofs.lemmas.List.{nil_from_length, length-append, take_at, drop_at, length-set}
use Rattle.tree.specs.Counting.{node_weight, property_weight}
use Rattle.tree.specs.Places.{Bytes}
use Rattle.tape.specs.Nodes.{Node, valid}
use Rattle.tape.specs.declared.Mark.{Mark}
use Rattle.tape.specs.declared.Spot.{Spot}
use Rattle.tape.specs.Tapes.{Here, nth, properties_at, property_of, bare_node, with_node, less_node, with_properties, less_property}
use Rattle.live.specs.declared.memory.Memory.{Memory}
use Rattle.live.specs.declared.memory.NodeRecord.{NodeRecord}
use Rattle.live.specs.declared.memory.PropertyRecord.{PropertyRecord}
use Rattle.live.specs.Records.{cell_of, property_bytes, row_of, rows_of, bytes_of, used_rows, used_cells, used_bytes, held, room_for, spot_in}
use Rattle.splices.specs.Splices.{spliced_in, spliced_out, written}
use Rattle.live.proofs.Fitted.{room-parts, room-from}
use Rattle.live.proofs.Moved.{renew, rows_more, cells_same, bytes-more, weight-more, rows-less, cells-less, bytes-less, weight-less, rows-over, cells_over, bytes-over, bytes_were, weight-over, take-set-in, rows_other, row_put, cells-put, bytes-put, weight-put, row_cut, cells_cut, bytes_cut, weight-cut, dressed}
use Rattle.live.proofs.Kept.{no_row, no_cell, count-is, spot_row, spot-at, spot-property, OnNode}
use Rattle.live.proofs.Whole.{Whole, Renewed}

-- bytes written over others
written-over : (all X Y Z u : Bytes) (at : ℕ) → all ≡ X ++ (Y ++ Z) → at ≡ length X → length u ≡ length Y → written all at u ≡ X ++ (u ++ Z)
written-over all X Y Z u at e a b =
    let z : at + length u ≡ length (X ++ Y) = omega (arith, a, b, length-append X Y) in
    (λ j. take at (e j) ++ (u ++ drop (at + length u) (e j)))
    ∙ (λ j. take_at X (Y ++ Z) at (sym a) j ++ (u ++ (ap (drop (at + length u)) (sym (append_assoc X Y Z)) ∙ drop_at (X ++ Y) Z (at + length u) (sym z)) j))

pub row-within : (m : Memory) (i : ℕ) (r : NodeRecord) → m.nodes.used ≤ length (set m.nodes.items.now i r)
row-within m i r = omega (arith, m.nodes.within, length-set m.nodes.items.now i r)

-- with another record at an index
abbrev pub with_row : Memory → ℕ → NodeRecord → Memory
with_row m i r = record {
  nodes = record { items = set_vals (set m.nodes.items.now i r) m.nodes.items; used = m.nodes.used; within = row-within m i r };
  properties = m.properties;
  pool = m.pool;
  weight = m.weight;
  boot = m.boot;
}

-- of the same size as before, and that was in use
module _ (m x : Memory) (w : Whole m) (some : 0 < length (held m)) where
  room-kept : length x.nodes.items.now ≡ length m.nodes.items.now → length x.properties.items.now ≡ length m.properties.items.now → length x.pool.items.now ≡ length m.pool.items.now → room_for x ≡ true
  room-kept a b c =
      let r = room-parts m w some in
      room-from x.nodes.used (length x.nodes.items.now) (length x.properties.items.now) (length x.pool.items.now) (omega (arith, r.0, a)) (omega (arith, r.1, b)) (omega (arith, r.2, c))

  pub inserted : (i d : ℕ) (name : Bytes) (at : ℕ) → i ≤ length (held m) → at ≡ length (bytes_of (take i (held m)))
      → used_rows x ≡ spliced_in (used_rows m) i (record { depth = d; name = length name; properties = 0; bytes = 0 } ∷ []) → used_cells x ≡ used_cells m → used_bytes x ≡ spliced_in (used_bytes m) at name
      → length x.nodes.items.now ≡ length m.nodes.items.now → length x.properties.items.now ≡ length m.properties.items.now → length x.pool.items.now ≡ length m.pool.items.now
      → x.weight ≡ m.weight + node_weight (length name) → x.boot ≡ m.boot → valid m.boot (with_node (held m) i (bare_node d name)) ≡ true
      → Renewed x (with_node (held m) i (bare_node d name)) m.boot
  unfolding property_bytes
  inserted i d name at low e rows cells bytes a b c weight boot v =
      let ns = held m in
      let back = sym w.bytes in
      renew x (with_node ns i (bare_node d name))
      (rows ∙ ap (λ t. spliced_in t i (row_of (bare_node d name) ∷ [])) (sym w.rows) ∙ rows_more ns i d name)
      (cells ∙ sym w.cells ∙ sym (cells_same ns i d name))
      (bytes ∙ (λ j. spliced_in (back j) (e j) name) ∙ bytes-more ns i d name)
      m.boot boot (omega (arith, weight, w.weight, weight-more ns i d name)) (room-kept a b c) v

  pub removed : (i n : ℕ) (at : ℕ) → (h : i < length (held m)) → at ≡ length (bytes_of (take i (held m))) → n ≡ length (nth (held m) i).name → length (properties_at (held m) i) ≡ 0
      → used_rows x ≡ spliced_out (used_rows m) i 1 → used_cells x ≡ used_cells m → used_bytes x ≡ spliced_out (used_bytes m) at n
      → length x.nodes.items.now ≡ length m.nodes.items.now → length x.properties.items.now ≡ length m.properties.items.now → length x.pool.items.now ≡ length m.pool.items.now
      → x.weight ≡ m.weight - node_weight n → x.boot ≡ m.boot → valid m.boot (less_node (held m) i) ≡ true
      → Renewed x (less_node (held m) i) m.boot
  removed i n at h e f none rows cells bytes a b c weight boot v =
      let ns = held m in
      let bare = nil_from_length (properties_at ns i) none in
      let back = sym w.bytes in
      renew x (less_node ns i)
      (rows ∙ ap (λ t. spliced_out t i 1) (sym w.rows) ∙ rows-less ns i h)
      (cells ∙ sym w.cells ∙ sym (cells-less ns i h bare))
      (bytes ∙ (λ j. spliced_out (back j) (e j) (f j)) ∙ bytes-less ns i h bare)
      m.boot boot (omega (arith, weight, ap node_weight f, w.weight, weight-less ns i h bare)) (room-kept a b c) v

  pub overwritten : (i q : ℕ) (u : Bytes) (at : ℕ) → (h : i < length (held m)) → (l : q < length (properties_at (held m) i)) → (same : length u ≡ length (property_of (held m) i q).1)
      → at ≡ length (bytes_of (take i (held m))) + length (nth (held m) i).name + length (property_bytes (take q (properties_at (held m) i))) + length (property_of (held m) i q).0
      → used_rows x ≡ used_rows m → used_cells x ≡ used_cells m → used_bytes x ≡ written (used_bytes m) at u
      → length x.nodes.items.now ≡ length m.nodes.items.now → length x.properties.items.now ≡ length m.properties.items.now → length x.pool.items.now ≡ length m.pool.items.now
      → x.weight ≡ m.weight → x.boot ≡ m.boot → valid m.boot (with_properties (held m) i (set (properties_at (held m) i) q ((property_of (held m) i q).0, u))) ≡ true
      → Renewed x (with_properties (held m) i (set (properties_at (held m) i) q ((property_of (held m) i q).0, u))) m.boot
  overwritten i q u at h l same e rows cells bytes a b c weight boot v =
      let ns = held m in
      let ps = properties_at ns i in
      let y = property_of ns i q in
      let X = bytes_of (take i ns) ++ ((nth ns i).name ++ (property_bytes (take q ps) ++ y.0)) in
      let Z = property_bytes (drop (q + 1) ps) ++ bytes_of (drop (i + 1) ns) in
      let k : at ≡ length X = omega (arith, e, length-append (bytes_of (take i ns)) ((nth ns i).name ++ (property_bytes (take q ps) ++ y.0)), length-append (nth ns i).name (property_bytes (take q ps) ++ y.0), length-append (property_bytes (take q ps)) y.0) in
      renew x (with_properties ns i (set ps q (y.0, u)))
      (rows ∙ sym w.rows ∙ sym (rows-over ns i h q l u same))
      (cells ∙ sym w.cells ∙ sym (cells_over ns i h q l u same))
      (bytes ∙ written-over (used_bytes m) X y.1 Z u at (sym w.bytes ∙ bytes_were ns i h q l u same) k same ∙ sym (bytes-over ns i h q l u same))
      m.boot boot (weight ∙ w.weight ∙ sym (weight-over ns i h q l u same)) (room-kept a b c) v

-- a property more or less, where x is the memory before the node's record is written
module _ (m x : Memory) (w : Whole m) (s : Spot) (h : Here (held m) (spot_in (held m)) s) (same : x.nodes.used ≡ m.nodes.used) (rows : used_rows x ≡ used_rows m) (a : length x.nodes.items.now ≡ length m.nodes.items.now) where
  abbrev ns : List Node
  ns = held m

  abbrev old : NodeRecord
  old = get_or m.nodes.items.now s.node no_row

  rows-set : (to : NodeRecord → NodeRecord) → used_rows (with_row x s.node (to old)) ≡ set (rows_of ns) s.node (to (row_of (nth ns s.node)))
  rows-set to =
      let low : s.node < x.nodes.used = omega (arith, h.inside, count-is m w, same) in
      let ob = rows ∙ sym w.rows in
      let row = spot_row m w s h in
      take-set-in x.nodes.used s.node x.nodes.items.now (to old) low x.nodes.within ∙ (λ j. set (ob j) s.node (to (row j)))

  size : (to : NodeRecord → NodeRecord) → length (set x.nodes.items.now s.node (to old)) ≡ length m.nodes.items.now
  size to = length-set x.nodes.items.now s.node (to old) ∙ a

  some : 0 < length (held m)
  some = omega (arith, h.inside)

  pub property_inserted : (name value : Bytes) → used_cells x ≡ spliced_in (used_cells m) s.property (cell_of (name, value) ∷ [])
      → used_bytes x ≡ spliced_in (spliced_in (used_bytes m) (s.at + old.name) name) (s.at + old.name + length name) value
      → length x.properties.items.now ≡ length m.properties.items.now → length x.pool.items.now ≡ length m.pool.items.now
      → x.weight ≡ m.weight + property_weight (length name) (length value) → x.boot ≡ m.boot
      → valid m.boot (with_properties ns s.node ((name, value) ∷ properties_at ns s.node)) ≡ true
      → Renewed (with_row x s.node (record { depth = old.depth; name = old.name; properties = old.properties + 1; bytes = old.bytes + (length name + length value) })) (with_properties ns s.node ((name, value) ∷ properties_at ns s.node)) m.boot
  property_inserted name value cells bytes b c weight boot v =
      let i = s.node in
      let ps = properties_at ns i in
      let to : NodeRecord → NodeRecord = λ t. record { depth = t.depth; name = t.name; properties = t.properties + 1; bytes = t.bytes + (length name + length value) } in
      let long : length (property_bytes ps) + length name + length value ≡ length (property_bytes ps) + (length name + length value) = omega arith in
      let made : row_of (dressed ns i h.inside ((name, value) ∷ ps)) ≡ to (row_of (nth ns i)) =
      row_put ns i h.inside name value ∙ (λ j. record { depth = (nth ns i).depth; name = length (nth ns i).name; properties = length ps + 1; bytes = long j }) in
      let oc = sym w.cells in
      let back = sym w.bytes in
      let en = spot-property m w s h in
      let row = spot_row m w s h in
      let ea : s.at + old.name ≡ length (bytes_of (take i ns)) + length (nth ns i).name = λ j. spot-at m w s h j + (row j).name in
      renew (with_row x i (to old)) (with_properties ns i ((name, value) ∷ ps))
      (rows-set to ∙ ap (set (rows_of ns) i) (sym made) ∙ sym (rows_other ns i h.inside ((name, value) ∷ ps)))
      (cells ∙ (λ j. spliced_in (oc j) (en j) (cell_of (name, value) ∷ [])) ∙ cells-put ns i h.inside name value)
      (bytes ∙ (λ j. spliced_in (spliced_in (back j) (ea j) name) (ea j + length name) value) ∙ bytes-put ns i h.inside name value)
      m.boot boot (omega (arith, weight, w.weight, weight-put ns i h.inside name value)) (room-kept m (with_row x i (to old)) w some (size to) b c) v

  module _ (k : Mark) (on : OnNode m s.node k) where
    abbrev cell : PropertyRecord
    cell = get_or m.properties.items.now k.property no_cell

    pub property_removed : used_cells x ≡ spliced_out (used_cells m) k.property 1 → used_bytes x ≡ spliced_out (used_bytes m) k.at (cell.name + cell.value)
        → length x.properties.items.now ≡ length m.properties.items.now → length x.pool.items.now ≡ length m.pool.items.now
        → x.weight ≡ m.weight - property_weight cell.name cell.value → x.boot ≡ m.boot
        → valid m.boot (with_properties ns s.node (less_property (properties_at ns s.node) k.number)) ≡ true
        → Renewed (with_row x s.node (record { depth = old.depth; name = old.name; properties = old.properties - 1; bytes = old.bytes - (cell.name + cell.value) })) (with_properties ns s.node (less_property (properties_at ns s.node) k.number)) m.boot
    property_removed cells bytes b c weight boot v =
        let i = s.node in
        let q = k.number in
        let l = on.within in
        let ps = properties_at ns i in
        let n = cell.name + cell.value in
        let es : n ≡ length (property_of ns i q).0 + length (property_of ns i q).1 = λ j. on.name j + on.value j in
        let to : NodeRecord → NodeRecord = λ t. record { depth = t.depth; name = t.name; properties = t.properties - 1; bytes = t.bytes - n } in
        let less : length (property_bytes ps) - n ≡ length (property_bytes ps) - (length (property_of ns i q).0 + length (property_of ns i q).1) = ap (λ z. length (property_bytes ps) - z) es in
        let made = row_cut ns i h.inside q l (length ps - 1) (length (property_bytes ps) - n) refl less in
        let oc = sym w.cells in
        let back = sym w.bytes in
        let heavy = weight ∙ (λ j. m.weight - property_weight (on.name j) (on.value j)) in
        renew (with_row x i (to old)) (with_properties ns i (less_property ps q))
        (rows-set to ∙ ap (set (rows_of ns) i) (sym made) ∙ sym (rows_other ns i h.inside (less_property ps q)))
        (cells ∙ (λ j. spliced_out (oc j) (on.property j) 1) ∙ cells_cut ns i h.inside q l)
        (bytes ∙ (λ j. spliced_out (back j) k.at n) ∙ bytes_cut ns i h.inside q l k.at n on.at es)
        m.boot boot (omega (arith, heavy, w.weight, weight-cut ns i h.inside q l)) (room-kept m (with_row x i (to old)) w some (size to) b c) v
