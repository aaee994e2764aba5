-- Every list within the limits fits into the memory. Assumes nothing.
use Rattle.std.proofs.Common.{◌≡◌, ℕ, ◌+◌, ◌<◌, ◌≤◌, true, ◌&&◌, ◌||◌, eqb, leb, List, ◌∷◌, ◌++◌, map, length, take, drop, sym, ap, ⊎_elim, arith}
use Rattle.std.proofs.lemmas.Bool.{and_parts, and_from, or_cases, or_right, eqb-true, leb-true, le-leb}
use Rattle.std.proofs.lemmas.List.{length-append, length-take-le, length-drop, take-append-drop}
use Rattle.tree.specs.Places.{Bytes}
use Rattle.tape.specs.Nodes.{Node, valid}
use Rattle.tape.specs.Tapes.{nth, properties_at, bare_node, with_node, with_properties, weight_of}
use Rattle.tree.specs.Counting.{node_weight, property_weight}
use Rattle.tape.proofs.Sums.{within_limits}
use Rattle.live.specs.declared.memory.Memory.{Memory}
use Rattle.live.specs.Records.{held, cell_of, property_bytes, bytes_of, cells_of}
use Rattle.live.proofs.Whole.{Whole}
use Rattle.live.proofs.Coded.{bytes_join}
use Rattle.live.proofs.Moved.{bytes-more, weight-more, cells-other, bytes-other, weight-put}
use Rattle.live.proofs.Kept.{count-is, cells_are, size_is, nodes_light, cells_count, cells_at_lem, bytes-at}

pub room-parts : (m : Memory) → Whole m → 0 < length (held m) → (256 ≤ length m.nodes.items.now) × (1024 ≤ length m.properties.items.now) × (24576 ≤ length m.pool.items.now)
room-parts m w h =
    ⊎_elim
    (λ e. absurd (omega (arith, eqb-true _ _ e, count-is m w, h)))
    (λ e.
    let a = and_parts (leb 256 (length m.nodes.items.now)) _ e in
    let b = and_parts (leb 1024 (length m.properties.items.now)) (leb 24576 (length m.pool.items.now)) a.1 in
    (leb-true _ _ a.0, leb-true _ _ b.0, leb-true _ _ b.1))
    (or_cases (eqb m.nodes.used 0) _ w.room)

pub room-from : (n a b c : ℕ) → 256 ≤ a → 1024 ≤ b → 24576 ≤ c → (eqb n 0 || (leb 256 a && (leb 1024 b && leb 24576 c))) ≡ true
room-from n a b c x y z = or_right (eqb n 0) _ (and_from _ _ (le-leb _ _ x) (and_from _ _ (le-leb _ _ y) (le-leb _ _ z)))

-- what a list within the limits takes
pub takes : (boot : ℕ) (ms : List Node) → valid boot ms ≡ true → (length ms ≤ 256) × (length (cells_of ms) ≤ 1024) × (length (bytes_of ms) ≤ 24576) × (weight_of ms ≤ 24576)
takes boot ms v =
    let r = within_limits boot ms v in
    (r.0, omega (arith, r.1, cells_count ms), omega (arith, r.2, nodes_light ms), r.2)

-- ---- room for one node more

module _ (m : Memory) (w : Whole m) (open' : 0 < length (held m)) (i d : ℕ) (low : i ≤ length (held m)) (c : Bytes) (v : valid m.boot (with_node (held m) i (bare_node d c)) ≡ true) where
  abbrev ns : List Node
  ns = held m

  abbrev ms : List Node
  ms = with_node (held m) i (bare_node d c)

  more_nodes : length ms ≡ length ns + 1
  more_nodes = omega (arith, length-append (take i ns) (bare_node d c ∷ drop i ns), length-take-le i ns low, length-drop i ns, low)

  more_bytes : length (bytes_of ms) ≡ length (bytes_of ns) + length c
  more_bytes =
      let e = ap length (sym (bytes-more ns i d c)) in
      let a = length-take-le (length (bytes_of (take i ns))) (bytes_of ns) front-short in
      omega (arith, e, a, front-short, length-append (take (length (bytes_of (take i ns))) (bytes_of ns)) (c ++ drop (length (bytes_of (take i ns))) (bytes_of ns)), length-append c (drop (length (bytes_of (take i ns))) (bytes_of ns)), length-drop (length (bytes_of (take i ns))) (bytes_of ns))
    where
      front-short : length (bytes_of (take i ns)) ≤ length (bytes_of ns)
      front-short = omega (arith, ap length (bytes_join (take i ns) (drop i ns)), length-append (bytes_of (take i ns)) (bytes_of (drop i ns)), ap (λ t. length (bytes_of t)) (take-append-drop i ns))

  pub front-in : length (bytes_of (take i ns)) ≤ m.pool.used
  front-in = omega (arith, size_is m w, ap length (bytes_join (take i ns) (drop i ns)), length-append (bytes_of (take i ns)) (bytes_of (drop i ns)), ap (λ t. length (bytes_of t)) (take-append-drop i ns))

  pub node-room : (m.nodes.used + 1 ≤ length m.nodes.items.now) × (m.pool.used + length c ≤ length m.pool.items.now) × (length c ≤ 24576) × (m.weight + node_weight (length c) ≤ 24576)
  node-room =
      let t = takes m.boot ms v in
      let r = room-parts m w open' in
      (omega (arith, t.0, more_nodes, count-is m w, r.0), omega (arith, t.2, more_bytes, size_is m w, r.2), omega (arith, t.2, more_bytes), omega (arith, t.3, weight-more ns i d c, w.weight))

-- ---- room for one property more

module _ (m : Memory) (w : Whole m) (i : ℕ) (h : i < length (held m)) (c u : Bytes) (v : valid m.boot (with_properties (held m) i ((c, u) ∷ properties_at (held m) i)) ≡ true) where
  abbrev ls : List Node
  ls = with_properties (held m) i ((c, u) ∷ properties_at (held m) i)

  more-cells : length (cells_of ls) ≡ length (cells_of (held m)) + 1
  more-cells =
      let ns = held m in
      let ps = properties_at ns i in
      let z = cells_of (drop (i + 1) ns) in
      omega (arith, ap length (cells-other ns i h ((c, u) ∷ ps)), ap length (cells_at_lem ns i h), length-append (cells_of (take i ns)) (map cell_of ((c, u) ∷ ps) ++ z), length-append (cells_of (take i ns)) (map cell_of ps ++ z), length-append (map cell_of ps) z)

  more-pool : length (bytes_of ls) ≡ length (bytes_of (held m)) + length c + length u
  unfolding property_bytes
  more-pool =
      let ns = held m in
      let ps = properties_at ns i in
      let z = bytes_of (drop (i + 1) ns) in
      let n = (nth ns i).name in
      omega (arith, ap length (bytes-other ns i h ((c, u) ∷ ps)), ap length (bytes-at ns i h), length-append (bytes_of (take i ns)) (n ++ (property_bytes ((c, u) ∷ ps) ++ z)), length-append (bytes_of (take i ns)) (n ++ (property_bytes ps ++ z)), length-append n (property_bytes ((c, u) ∷ ps) ++ z), length-append n (property_bytes ps ++ z), length-append (property_bytes ((c, u) ∷ ps)) z, length-append (property_bytes ps) z, length-append c (u ++ property_bytes ps), length-append u (property_bytes ps))

  pub property-room : (m.properties.used + 1 ≤ length m.properties.items.now) × (m.pool.used + length c + length u ≤ length m.pool.items.now) × (m.pool.used + length c + length u ≤ 24576) × (m.weight + property_weight (length c) (length u) ≤ 24576)
  property-room =
      let t = takes m.boot ls v in
      let r = room-parts m w (omega (arith, h)) in
      (omega (arith, t.1, more-cells, cells_are m w, r.1), omega (arith, t.2, more-pool, size_is m w, r.2), omega (arith, t.2, more-pool, size_is m w), omega (arith, t.3, weight-put (held m) i h c u, w.weight))
