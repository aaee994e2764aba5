-- What the memory of the live store keeps. Assumes nothing.
use Rattle.std.proofs.Common.{◌≡◌, ℕ, ◌+◌, ◌<◌, ◌≤◌, List, [], ◌∷◌, ◌++◌, map, length, get_or, take, drop, sym, refl, ap, ◌∙◌, subst, append_assoc, arith}
use Rattle.std.proofs.lemmas.List.{take_at, drop_at, take_more, drop_more, length-append, length-map, length-take-le, get_or-map, get_or-take, take-append-drop, get_or-append-add, get_or_append_left, take-set}
use Rattle.tree.specs.Places.{Bytes}
use Rattle.tape.specs.Nodes.{Node, Property}
use Rattle.tape.specs.Tapes.{nowhere, nth, properties_at, property_of, Counted, properties_of, weight_of}
use Rattle.tape.specs.declared.Mark.{Mark}
use Rattle.tape.specs.declared.Spot.{Spot}
use Rattle.tape.specs.Tapes.{Here, On, with_properties, properties_weight}
use Rattle.tape.proofs.Sums.{within_limits}
use Rattle.live.specs.declared.memory.Memory.{Memory}
use Rattle.live.specs.declared.memory.NodeRecord.{NodeRecord}
use Rattle.live.specs.declared.memory.PropertyRecord.{PropertyRecord}
use Rattle.live.specs.Records.{cell_of, property_bytes, row_of, cells_of, bytes_of, used_bytes, held, spot_in, mark_in}
use Rattle.live.proofs.Whole.{Whole}
use Rattle.live.proofs.Coded.{bytes_join, cells_join, property-bytes_join}

-- ---- a list of nodes around one of them

pub at_index : (ns : List Node) (i : ℕ) → i < length ns → ns ≡ take i ns ++ (nth ns i ∷ drop (i + 1) ns)
at_index ns i h = sym (take-append-drop i ns) ∙ ap (λ t. take i ns ++ t) (drop_more ns i nowhere h)

module _ (ns : List Node) (i : ℕ) (h : i < length ns) where
  abbrev n : Node
  n = nth ns i

  pub bytes-at : bytes_of ns ≡ bytes_of (take i ns) ++ (n.name ++ (property_bytes n.properties ++ bytes_of (drop (i + 1) ns)))
  unfolding bytes_of
  bytes-at = ap bytes_of (at_index ns i h) ∙ bytes_join (take i ns) (n ∷ drop (i + 1) ns)

  pub cells_at_lem : cells_of ns ≡ cells_of (take i ns) ++ (map cell_of n.properties ++ cells_of (drop (i + 1) ns))
  unfolding cells_of
  cells_at_lem = ap cells_of (at_index ns i h) ∙ cells_join (take i ns) (n ∷ drop (i + 1) ns)

  pub bytes_next : length (bytes_of (take (i + 1) ns)) ≡ length (bytes_of (take i ns)) + length n.name + length (property_bytes n.properties)
  unfolding bytes_of
  bytes_next =
      ap (λ t. length (bytes_of t)) (take_more ns i nowhere h) ∙ ap length (bytes_join (take i ns) (n ∷ []))
      ∙ length-append (bytes_of (take i ns)) (n.name ++ (property_bytes n.properties ++ [])) ∙ omega (arith, length-append n.name (property_bytes n.properties ++ []), length-append (property_bytes n.properties) [])

  pub cells-next : length (cells_of (take (i + 1) ns)) ≡ length (cells_of (take i ns)) + length n.properties
  unfolding cells_of
  cells-next =
      ap (λ t. length (cells_of t)) (take_more ns i nowhere h) ∙ ap length (cells_join (take i ns) (n ∷ []))
      ∙ length-append (cells_of (take i ns)) (map cell_of n.properties ++ []) ∙ omega (arith, length-append (map cell_of n.properties) [], length-map n.properties cell_of)

  module _ (k : ℕ) (l : k < length (properties_at ns i)) where
    abbrev x : Property
    x = property_of ns i k

    pub cut_up : properties_at ns i ≡ take k (properties_at ns i) ++ (x ∷ drop (k + 1) (properties_at ns i))
    cut_up = sym (take-append-drop k (properties_at ns i)) ∙ ap (λ t. take k (properties_at ns i) ++ t) (drop_more (properties_at ns i) k ([], []) l)

    -- the pool around a property's name and value
    pub bytes_on : bytes_of ns ≡ (bytes_of (take i ns) ++ (n.name ++ property_bytes (take k (properties_at ns i)))) ++ (x.0 ++ (x.1 ++ (property_bytes (drop (k + 1) (properties_at ns i)) ++ bytes_of (drop (i + 1) ns))))
    unfolding property_bytes
    bytes_on =
        let a = property_bytes (take k (properties_at ns i)) in
        let b = property_bytes (drop (k + 1) (properties_at ns i)) in
        let z = bytes_of (drop (i + 1) ns) in
        bytes-at ∙ ap (λ t. bytes_of (take i ns) ++ (n.name ++ (t ++ z))) (ap property_bytes cut_up ∙ property-bytes_join (take k (properties_at ns i)) (x ∷ drop (k + 1) (properties_at ns i)))
        ∙ simp append_assoc

    pub cell_on : (d : PropertyRecord) → get_or (cells_of ns) (length (cells_of (take i ns)) + k) d ≡ cell_of x
    cell_on d =
        let m = map cell_of (properties_at ns i) in
        ap (λ t. get_or t (length (cells_of (take i ns)) + k) d) cells_at_lem ∙ get_or-append-add (cells_of (take i ns)) _ k d
        ∙ get_or_append_left m (cells_of (drop (i + 1) ns)) d k (omega (arith, l, length-map (properties_at ns i) cell_of)) ∙ get_or-map cell_of (properties_at ns i) k ([], []) d l

    pub on-next : length (property_bytes (take (k + 1) (properties_at ns i))) ≡ length (property_bytes (take k (properties_at ns i))) + length x.0 + length x.1
    unfolding property_bytes
    on-next =
        ap (λ t. length (property_bytes t)) (take_more (properties_at ns i) k ([], []) l) ∙ ap length (property-bytes_join (take k (properties_at ns i)) (x ∷ []))
        ∙ length-append (property_bytes (take k (properties_at ns i))) (x.0 ++ (x.1 ++ [])) ∙ omega (arith, length-append x.0 (x.1 ++ []), length-append x.1 [])

    pub on-short : length (bytes_of (take i ns)) + length n.name + length (property_bytes (take k (properties_at ns i))) + length x.0 + length x.1 ≤ length (bytes_of ns)
    on-short = omega (arith, ap length bytes_on, length-append (bytes_of (take i ns) ++ (n.name ++ property_bytes (take k (properties_at ns i)))) (x.0 ++ (x.1 ++ (property_bytes (drop (k + 1) (properties_at ns i)) ++ bytes_of (drop (i + 1) ns)))), length-append (bytes_of (take i ns)) (n.name ++ property_bytes (take k (properties_at ns i))), length-append n.name (property_bytes (take k (properties_at ns i))), length-append x.0 (x.1 ++ (property_bytes (drop (k + 1) (properties_at ns i)) ++ bytes_of (drop (i + 1) ns))), length-append x.1 (property_bytes (drop (k + 1) (properties_at ns i)) ++ bytes_of (drop (i + 1) ns)))

    pub cells-short : length (cells_of (take i ns)) + k < length (cells_of ns)
    cells-short = omega (arith, ap length cells_at_lem, length-append (cells_of (take i ns)) (map cell_of n.properties ++ cells_of (drop (i + 1) ns)), length-append (map cell_of n.properties) (cells_of (drop (i + 1) ns)), length-map n.properties cell_of, l)

  pub at-short : length (bytes_of (take i ns)) + length n.name + length (property_bytes n.properties) ≤ length (bytes_of ns)
  at-short = omega (arith, ap length bytes-at, length-append (bytes_of (take i ns)) (n.name ++ (property_bytes n.properties ++ bytes_of (drop (i + 1) ns))), length-append n.name (property_bytes n.properties ++ bytes_of (drop (i + 1) ns)), length-append (property_bytes n.properties) (bytes_of (drop (i + 1) ns)))

  pub all-cells : length (cells_of (take i ns)) + length n.properties ≤ length (cells_of ns)
  all-cells = omega (arith, ap length cells_at_lem, length-append (cells_of (take i ns)) (map cell_of n.properties ++ cells_of (drop (i + 1) ns)), length-append (map cell_of n.properties) (cells_of (drop (i + 1) ns)), length-map n.properties cell_of)

-- ---- a part of the pool

part-is : (all X Y Z : Bytes) (at n : ℕ) → all ≡ X ++ (Y ++ Z) → at ≡ length X → n ≡ length Y → take n (drop at all) ≡ Y
part-is all X Y Z at n e a b = ap (λ t. take n (drop at t)) e ∙ ap (take n) (drop_at X (Y ++ Z) at (sym a)) ∙ take_at Y Z n (sym b)

-- ---- what holds of the memory

module _ (m : Memory) (w : Whole m) where
  pub count-is : length (held m) ≡ m.nodes.used
  count-is = sym (length-map (held m) row_of) ∙ ap length w.rows ∙ length-take-le _ _ m.nodes.within

  pub cells_are : length (cells_of (held m)) ≡ m.properties.used
  cells_are = ap length w.cells ∙ length-take-le _ _ m.properties.within

  pub size_is : length (bytes_of (held m)) ≡ m.pool.used
  size_is = ap length w.bytes ∙ length-take-le _ _ m.pool.within

  pub row_is : (i : ℕ) (d : NodeRecord) → i < length (held m) → get_or m.nodes.items.now i d ≡ row_of (nth (held m) i)
  row_is i d h =
      sym (get_or-take m.nodes.used m.nodes.items.now i d (omega (arith, h, count-is))) ∙ ap (λ t. get_or t i d) (sym w.rows) ∙ get_or-map row_of (held m) i nowhere d h

  pub cell_is : (i k : ℕ) (d : PropertyRecord) → (h : i < length (held m)) → k < length (properties_at (held m) i) → get_or m.properties.items.now (length (cells_of (take i (held m))) + k) d ≡ cell_of (property_of (held m) i k)
  cell_is i k d h l =
      sym (get_or-take m.properties.used m.properties.items.now _ d (omega (arith, cells-short (held m) i h k l, cells_are))) ∙ ap (λ t. get_or t (length (cells_of (take i (held m))) + k) d) (sym w.cells) ∙ cell_on (held m) i h k l d

  pool-is : (X Y Z : Bytes) (at n : ℕ) → bytes_of (held m) ≡ X ++ (Y ++ Z) → at ≡ length X → n ≡ length Y → take n (drop at (used_bytes m)) ≡ Y
  pool-is X Y Z at n e a b = part-is (used_bytes m) X Y Z at n (sym w.bytes ∙ e) a b

pub cells_count : (ns : List Node) → properties_of ns ≡ length (cells_of ns)
unfolding properties_of cells_of
cells_count [] = refl
cells_count (n ∷ ns) = omega (arith, cells_count ns, length-append (map cell_of n.properties) (cells_of ns), length-map n.properties cell_of)

pub counts_are : (m : Memory) → Whole m → Counted (held m) (record { nodes = m.nodes.used; properties = m.properties.used; weight = m.weight })
counts_are m w = record { nodes = sym (count-is m w); properties = sym (cells_count (held m) ∙ cells_are m w); weight = w.weight }

-- ---- bounds

properties_light : (xs : List Property) → length (property_bytes xs) ≤ properties_weight xs
unfolding property_bytes properties_weight
properties_light [] = omega arith
properties_light (x ∷ xs) =
    omega (arith, properties_light xs, length-append x.0 (x.1 ++ property_bytes xs), length-append x.1 (property_bytes xs))

-- names and values alone are lighter than what is weighed
pub nodes_light : (ns : List Node) → length (bytes_of ns) ≤ weight_of ns
unfolding bytes_of weight_of
nodes_light [] = omega arith
nodes_light (n ∷ ns) =
    omega (arith, nodes_light ns, properties_light n.properties, length-append n.name (property_bytes n.properties ++ bytes_of ns), length-append (property_bytes n.properties) (bytes_of ns))

pub bounds : (m : Memory) → Whole m → (m.nodes.used ≤ 256) × (m.properties.used ≤ 1024) × (m.pool.used ≤ 24576) × (m.weight ≤ 24576)
bounds m w =
    let r = within_limits m.boot (held m) w.sound in
    (omega (arith, r.0, count-is m w), omega (arith, r.1, cells_count (held m), cells_are m w), omega (arith, r.2, nodes_light (held m), size_is m w), omega (arith, r.2, w.weight))

-- ---- at a spot and at a mark

abbrev pub no_row : NodeRecord
no_row = record { depth = 0; name = 0; properties = 0; bytes = 0 }

abbrev pub no_cell : PropertyRecord
no_cell = record { name = 0; value = 0 }

-- what is known of the record of a node, and of its part of the memory
pub record AtSpot (m : Memory) (s : Spot) : Type 0 where
  pub inside : s.node < length m.nodes.items.now
  pub in-rows : s.node < m.nodes.used
  pub few : m.nodes.used ≤ 256
  pub name : (get_or m.nodes.items.now s.node no_row).name ≡ length (nth (held m) s.node).name
  pub properties : (get_or m.nodes.items.now s.node no_row).properties ≡ length (properties_at (held m) s.node)
  pub bytes : (get_or m.nodes.items.now s.node no_row).bytes ≡ length (property_bytes (properties_at (held m) s.node))
  pub pool : s.at + length (nth (held m) s.node).name + length (property_bytes (properties_at (held m) s.node)) ≤ m.pool.used
  pub small : m.pool.used ≤ 24576
  pub cells : s.property + length (properties_at (held m) s.node) ≤ m.properties.used
  pub few_cells : m.properties.used ≤ 1024

module _ (m : Memory) (w : Whole m) (s : Spot) (h : Here (held m) (spot_in (held m)) s) where
  pub spot_row : get_or m.nodes.items.now s.node no_row ≡ row_of (nth (held m) s.node)
  spot_row = row_is m w s.node no_row h.inside

  pub spot-at : s.at ≡ length (bytes_of (take s.node (held m)))
  spot-at = ap (λ x. x.at) h.is

  pub spot-property : s.property ≡ length (cells_of (take s.node (held m)))
  spot-property = ap (λ x. x.property) h.is

  pub at_spot : AtSpot m s
  at_spot =
      let b = bounds m w in
      record {
        inside = omega (arith, h.inside, count-is m w, m.nodes.within);
        in-rows = omega (arith, h.inside, count-is m w);
        few = b.0;
        name = ap (λ x. x.name) spot_row;
        properties = ap (λ x. x.properties) spot_row;
        bytes = ap (λ x. x.bytes) spot_row;
        pool = omega (arith, at-short (held m) s.node h.inside, spot-at, size_is m w);
        small = b.2;
        cells = omega (arith, all-cells (held m) s.node h.inside, spot-property, cells_are m w);
        few_cells = b.1;
      }

  pub spot-name : (n : ℕ) → n ≡ length (nth (held m) s.node).name → take n (drop s.at (used_bytes m)) ≡ (nth (held m) s.node).name
  spot-name n e = pool-is m w _ (nth (held m) s.node).name _ s.at n (bytes-at (held m) s.node h.inside) spot-at e

-- what is known of the record of a property, and of its part of the pool
pub record AtMark (m : Memory) (k : Mark) : Type 0 where
  pub inside : k.property < length m.properties.items.now
  pub in-cells : k.property < m.properties.used
  pub few : m.properties.used ≤ 1024
  pub number : k.number ≤ k.property
  pub name : (get_or m.properties.items.now k.property no_cell).name ≡ length (property_of (held m) k.node k.number).0
  pub value : (get_or m.properties.items.now k.property no_cell).value ≡ length (property_of (held m) k.node k.number).1
  pub pool : k.at + length (property_of (held m) k.node k.number).0 + length (property_of (held m) k.node k.number).1 ≤ m.pool.used
  pub small : m.pool.used ≤ 24576

module _ (m : Memory) (w : Whole m) (k : Mark) (o : On (held m) (mark_in (held m)) k) where
  pub mark-property : k.property ≡ length (cells_of (take k.node (held m))) + k.number
  mark-property = ap (λ x. x.property) o.is

  pub mark-at : k.at ≡ length (bytes_of (take k.node (held m))) + length (nth (held m) k.node).name + length (property_bytes (take k.number (properties_at (held m) k.node)))
  mark-at = ap (λ x. x.at) o.is

  pub mark_cell : get_or m.properties.items.now k.property no_cell ≡ cell_of (property_of (held m) k.node k.number)
  mark_cell = ap (λ i. get_or m.properties.items.now i no_cell) mark-property ∙ cell_is m w k.node k.number no_cell o.inside o.within

  pub at_mark : AtMark m k
  at_mark =
      let c = cells-short (held m) k.node o.inside k.number o.within in
      let b = bounds m w in
      record {
        inside = omega (arith, c, mark-property, cells_are m w, m.properties.within);
        in-cells = omega (arith, c, mark-property, cells_are m w);
        few = b.1;
        number = omega (arith, mark-property);
        name = ap (λ x. x.name) mark_cell;
        value = ap (λ x. x.value) mark_cell;
        pool = omega (arith, on-short (held m) k.node o.inside k.number o.within, mark-at, size_is m w);
        small = b.2;
      }

  abbrev y : Property
  y = property_of (held m) k.node k.number

  abbrev front : Bytes
  front = bytes_of (take k.node (held m)) ++ ((nth (held m) k.node).name ++ property_bytes (take k.number (properties_at (held m) k.node)))

  abbrev rest : Bytes
  rest = property_bytes (drop (k.number + 1) (properties_at (held m) k.node)) ++ bytes_of (drop (k.node + 1) (held m))

  front_long : k.at ≡ length front
  front_long =
      mark-at ∙ omega (arith, length-append (bytes_of (take k.node (held m))) ((nth (held m) k.node).name ++ property_bytes (take k.number (properties_at (held m) k.node))), length-append (nth (held m) k.node).name (property_bytes (take k.number (properties_at (held m) k.node))))

  around_it : bytes_of (held m) ≡ front ++ (y.0 ++ (y.1 ++ rest))
  around_it = bytes_on (held m) k.node o.inside k.number o.within

  pub mark-name : (n : ℕ) → n ≡ length y.0 → take n (drop k.at (used_bytes m)) ≡ y.0
  mark-name n e = pool-is m w front y.0 (y.1 ++ rest) k.at n around_it front_long e

  pub mark-value : (n u : ℕ) → n ≡ length y.0 → u ≡ length y.1 → take u (drop (k.at + n) (used_bytes m)) ≡ y.1
  mark-value n u e f = pool-is m w (front ++ y.0) y.1 rest (k.at + n) u (around_it ∙ sym (append_assoc front y.0 (y.1 ++ rest))) (omega (arith, front_long, length-append front y.0, e)) f

-- where a property of the node at an index is
pub record OnNode (m : Memory) (i : ℕ) (k : Mark) : Type 0 where
  pub within : k.number < length (properties_at (held m) i)
  pub name : (get_or m.properties.items.now k.property no_cell).name ≡ length (property_of (held m) i k.number).0
  pub value : (get_or m.properties.items.now k.property no_cell).value ≡ length (property_of (held m) i k.number).1
  pub property : k.property ≡ length (cells_of (take i (held m))) + k.number
  pub at : k.at ≡ length (bytes_of (take i (held m))) + length (nth (held m) i).name + length (property_bytes (take k.number (properties_at (held m) i)))

pub on_node : (m : Memory) (w : Whole m) (i : ℕ) (k : Mark) → On (held m) (mark_in (held m)) k → k.node ≡ i → OnNode m i k
on_node m w i k o e =
    let f = at_mark m w k o in
    subst (λ j. OnNode m j k) e (record { within = o.within; name = f.name; value = f.value; property = mark-property m w k o; at = mark-at m w k o })

-- ---- what is read

module _ (m : Memory) (w : Whole m) (s : Spot) (h : Here (held m) (spot_in (held m)) s) (n q b : ℕ) (en : n ≡ length (nth (held m) s.node).name) (eq : q ≡ length (properties_at (held m) s.node)) (eb : b ≡ length (property_bytes (properties_at (held m) s.node))) where
  pub first-is : record { node = s.node; number = 0; property = s.property; at = s.at + n } ≡ mark_in (held m) s.node 0
  unfolding property_bytes
  first-is =
      let p : s.property ≡ length (cells_of (take s.node (held m))) + 0 = omega (arith, spot-property m w s h) in
      let a : s.at + n ≡ length (bytes_of (take s.node (held m))) + length (nth (held m) s.node).name + 0 = omega (arith, spot-at m w s h, en) in
      λ j. record { node = s.node; number = 0; property = p j; at = a j }

  pub next-is : record { node = s.node + 1; property = s.property + q; at = s.at + n + b } ≡ spot_in (held m) (s.node + 1)
  next-is =
      let p : s.property + q ≡ length (cells_of (take (s.node + 1) (held m))) = omega (arith, spot-property m w s h, eq, cells-next (held m) s.node h.inside) in
      let a : s.at + n + b ≡ length (bytes_of (take (s.node + 1) (held m))) = omega (arith, spot-at m w s h, en, eb, bytes_next (held m) s.node h.inside) in
      λ j. record { node = s.node + 1; property = p j; at = a j }

pub behind-is : (m : Memory) (w : Whole m) (k : Mark) (o : On (held m) (mark_in (held m)) k) (n u : ℕ) → n ≡ length (property_of (held m) k.node k.number).0 → u ≡ length (property_of (held m) k.node k.number).1 → record { node = k.node; number = k.number + 1; property = k.property + 1; at = k.at + n + u } ≡ mark_in (held m) k.node (k.number + 1)
behind-is m w k o n u en eu =
    let p : k.property + 1 ≡ length (cells_of (take k.node (held m))) + (k.number + 1) = omega (arith, mark-property m w k o) in
    let a : k.at + n + u ≡ length (bytes_of (take k.node (held m))) + length (nth (held m) k.node).name + length (property_bytes (take (k.number + 1) (properties_at (held m) k.node))) = omega (arith, mark-at m w k o, en, eu, on-next (held m) k.node o.inside k.number o.within) in
    λ j. record { node = k.node; number = k.number + 1; property = p j; at = a j }

-- properties of a node do not move it
pub spot_stays : (ns : List Node) (i : ℕ) (qs : List Property) → spot_in (with_properties ns i qs) i ≡ spot_in ns i
spot_stays ns i qs =
    let e = take-set ns i (record { depth = (nth ns i).depth; name = (nth ns i).name; properties = qs }) in
    λ j. record { node = i; property = length (cells_of (e j)); at = length (bytes_of (e j)) }
