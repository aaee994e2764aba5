-- Records and pool after a splice. Assumes nothing.
use Rattle.std.proofs.Common.{◌≡◌, ℕ, suc, ◌+◌, ◌-◌, ◌<◌, ◌≤◌, true, List, [], ◌∷◌, ◌++◌, map, length, take, drop, set, sym, refl, ap, ◌∙◌, append_assoc, add-one, arith}
use Rattle.std.proofs.lemmas.List.{take_at, drop_at, take-append-drop, drop-drop, length-append, length-map, length-take-le, length-drop, length-set, map-append, map-set, take-map, drop-map, set_split, set-append_left, set-get_or, get_or-map}
use Rattle.tree.specs.Places.{Bytes}
use Rattle.tape.specs.Nodes.{Node, Property, valid}
use Rattle.tape.specs.Tapes.{nowhere, nth, properties_at, property_of, bare_node, with_node, less_node, with_properties, less_property, weight_of, properties_weight}
use Rattle.tree.specs.Counting.{node_weight, property_weight}
use Rattle.live.specs.declared.memory.Memory.{Memory}
use Rattle.live.specs.Records.{cell_of, property_bytes, row_of, rows_of, cells_of, bytes_of, nodes_from, used_rows, used_cells, used_bytes, held, room_for}
use Rattle.live.proofs.Whole.{Renewed}
use Rattle.splices.specs.Splices.{spliced_in, spliced_out}
use Rattle.live.proofs.Coded.{nodes_coded, bytes_join, cells_join, property-bytes_join}
use Rattle.live.proofs.Kept.{at_index, cut_up, bytes-at, cells_at_lem, bytes_on}

-- ---- memory that spells a list

module _ (m : Memory) (ms : List Node) (rows : used_rows m ≡ rows_of ms) (cells : used_cells m ≡ cells_of ms) (bytes : used_bytes m ≡ bytes_of ms) where
  held-is : held m ≡ ms
  held-is = (λ j. nodes_from (rows j) (cells j) (bytes j)) ∙ nodes_coded ms

  pub renew : (b : ℕ) → m.boot ≡ b → m.weight ≡ weight_of ms → room_for m ≡ true → valid b ms ≡ true → Renewed m ms b
  renew b eb w r v = record {
    is = held-is;
    boot = eb;
    whole = record {
      rows = ap rows_of held-is ∙ sym rows;
      cells = ap cells_of held-is ∙ sym cells;
      bytes = ap bytes_of held-is ∙ sym bytes;
      weight = w ∙ ap weight_of (sym held-is);
      room = r;
      sound = (λ j. valid (eb j) (held-is j)) ∙ v;
    };
  }

-- ---- lists

pub take-set-in : {X : Type 0} (n i : ℕ) (xs : List X) (a : X) → i < n → n ≤ length xs → take n (set xs i a) ≡ set (take n xs) i a
take-set-in n i xs a h l =
    let k : length (take n xs) ≡ n = length-take-le n xs l in
    let one : take n (set xs i a) ≡ take n (set (take n xs ++ drop n xs) i a) = ap (λ t. take n (set t i a)) (sym (take-append-drop n xs)) in
    one ∙ ap (take n) (set-append_left (take n xs) (drop n xs) i a (omega (arith, h, k))) ∙ take_at (set (take n xs) i a) (drop n xs) n (length-set (take n xs) i a ∙ k)

-- what stands before an index and behind it, with something between
split-in : {X : Type 0} (a b new : List X) (xs : List X) (at : ℕ) → xs ≡ a ++ b → at ≡ length a → spliced_in xs at new ≡ a ++ (new ++ b)
split-in a b new xs at e l =
    (λ j. take at (e j) ++ (new ++ drop at (e j))) ∙ (λ j. take_at a b at (sym l) j ++ (new ++ drop_at a b at (sym l) j))

split-out : {X : Type 0} (a b c : List X) (xs : List X) (at n : ℕ) → xs ≡ a ++ (b ++ c) → at ≡ length a → n ≡ length b → spliced_out xs at n ≡ a ++ c
split-out a b c xs at n e l k =
    (λ j. take at (e j) ++ drop (at + n) (e j))
    ∙ (λ j. take_at a (b ++ c) at (sym l) j ++ (sym (drop-drop n at (a ++ (b ++ c))) ∙ ap (drop n) (drop_at a (b ++ c) at (sym l)) ∙ drop_at b c n (sym k)) j)

regroup : {X : Type 0} (a b c d : List X) → (a ++ b) ++ (c ++ d) ≡ a ++ ((b ++ c) ++ d)
regroup a b c d = simp append_assoc

regroup-more : {X : Type 0} (a n b c d : List X) → (a ++ (n ++ b)) ++ (c ++ d) ≡ a ++ (n ++ ((b ++ c) ++ d))
regroup-more a n b c d = simp append_assoc

weight_join : (xs ys : List Node) → weight_of (xs ++ ys) ≡ weight_of xs + weight_of ys
unfolding weight_of
weight_join [] ys = omega arith
weight_join (n ∷ xs) ys = omega (arith, weight_join xs ys)

properties-weight_join : (xs ys : List Property) → properties_weight (xs ++ ys) ≡ properties_weight xs + properties_weight ys
unfolding properties_weight
properties-weight_join [] ys = omega arith
properties-weight_join (x ∷ xs) ys = omega (arith, properties-weight_join xs ys)

-- ---- a node more

module _ (ns : List Node) (i d : ℕ) (c : Bytes) where
  pub rows_more : spliced_in (rows_of ns) i (row_of (bare_node d c) ∷ []) ≡ rows_of (with_node ns i (bare_node d c))
  rows_more =
      (λ j. take-map row_of i ns j ++ (row_of (bare_node d c) ∷ drop-map row_of i ns j)) ∙ sym (map-append row_of (take i ns) (bare_node d c ∷ drop i ns))

  pub cells_same : cells_of (with_node ns i (bare_node d c)) ≡ cells_of ns
  unfolding cells_of
  cells_same = cells_join (take i ns) (bare_node d c ∷ drop i ns) ∙ sym (cells_join (take i ns) (drop i ns)) ∙ ap cells_of (take-append-drop i ns)

  pub bytes-more : spliced_in (bytes_of ns) (length (bytes_of (take i ns))) c ≡ bytes_of (with_node ns i (bare_node d c))
  unfolding bytes_of property_bytes
  bytes-more =
      split-in (bytes_of (take i ns)) (bytes_of (drop i ns)) c (bytes_of ns) _ (ap bytes_of (sym (take-append-drop i ns)) ∙ bytes_join (take i ns) (drop i ns)) refl
      ∙ sym (bytes_join (take i ns) (bare_node d c ∷ drop i ns))

  pub weight-more : weight_of (with_node ns i (bare_node d c)) ≡ weight_of ns + node_weight (length c)
  unfolding weight_of properties_weight
  weight-more = omega (arith, weight_join (take i ns) (bare_node d c ∷ drop i ns), weight_join (take i ns) (drop i ns), ap weight_of (take-append-drop i ns))

-- ---- a node less

module _ (ns : List Node) (i : ℕ) (h : i < length ns) where
  pub rows-less : spliced_out (rows_of ns) i 1 ≡ rows_of (less_node ns i)
  rows-less = (λ j. take-map row_of i ns j ++ drop-map row_of (i + 1) ns j) ∙ sym (map-append row_of (take i ns) (drop (i + 1) ns))

  module _ (bare : properties_at ns i ≡ []) where
    pub cells-less : cells_of (less_node ns i) ≡ cells_of ns
    cells-less =
        cells_join (take i ns) (drop (i + 1) ns) ∙ sym (cells_at_lem ns i h ∙ ap (λ t. cells_of (take i ns) ++ (map cell_of t ++ cells_of (drop (i + 1) ns))) bare)

    pub bytes-less : spliced_out (bytes_of ns) (length (bytes_of (take i ns))) (length (nth ns i).name) ≡ bytes_of (less_node ns i)
    unfolding property_bytes
    bytes-less =
        split-out (bytes_of (take i ns)) (nth ns i).name (bytes_of (drop (i + 1) ns)) (bytes_of ns) _ _ (bytes-at ns i h ∙ ap (λ t. bytes_of (take i ns) ++ ((nth ns i).name ++ (property_bytes t ++ bytes_of (drop (i + 1) ns)))) bare) refl refl
        ∙ sym (bytes_join (take i ns) (drop (i + 1) ns))

    pub weight-less : weight_of ns ≡ weight_of (less_node ns i) + node_weight (length (nth ns i).name)
    unfolding weight_of properties_weight
    weight-less = omega (arith, ap weight_of (at_index ns i h), weight_join (take i ns) (nth ns i ∷ drop (i + 1) ns), weight_join (take i ns) (drop (i + 1) ns), ap properties_weight bare)

-- ---- other properties

module _ (ns : List Node) (i : ℕ) (h : i < length ns) (qs : List Property) where
  abbrev pub dressed : Node
  dressed = record { depth = (nth ns i).depth; name = (nth ns i).name; properties = qs }

  pub dressed-is : with_properties ns i qs ≡ take i ns ++ (dressed ∷ drop (i + 1) ns)
  dressed-is = set_split ns i dressed h ∙ ap (λ j. take i ns ++ (dressed ∷ drop j ns)) (sym (add-one i))

  pub rows_other : rows_of (with_properties ns i qs) ≡ set (rows_of ns) i (row_of dressed)
  rows_other = map-set row_of ns i dressed

  pub cells-other : cells_of (with_properties ns i qs) ≡ cells_of (take i ns) ++ (map cell_of qs ++ cells_of (drop (i + 1) ns))
  unfolding cells_of
  cells-other = ap cells_of dressed-is ∙ cells_join (take i ns) (dressed ∷ drop (i + 1) ns)

  pub bytes-other : bytes_of (with_properties ns i qs) ≡ bytes_of (take i ns) ++ ((nth ns i).name ++ (property_bytes qs ++ bytes_of (drop (i + 1) ns)))
  unfolding bytes_of
  bytes-other = ap bytes_of dressed-is ∙ bytes_join (take i ns) (dressed ∷ drop (i + 1) ns)

  pub weight-other : weight_of (with_properties ns i qs) + properties_weight (properties_at ns i) ≡ weight_of ns + properties_weight qs
  unfolding weight_of
  weight-other = omega (arith, ap weight_of dressed-is, weight_join (take i ns) (dressed ∷ drop (i + 1) ns), ap weight_of (at_index ns i h), weight_join (take i ns) (nth ns i ∷ drop (i + 1) ns))

module _ (ns : List Node) (i : ℕ) (h : i < length ns) where
  abbrev ps : List Property
  ps = properties_at ns i

  abbrev name : Bytes
  name = (nth ns i).name

  abbrev behind : Bytes
  behind = bytes_of (drop (i + 1) ns)

  -- a property in front
  module _ (c u : Bytes) where
    abbrev more : List Node
    more = with_properties ns i ((c, u) ∷ ps)

    pub cells-put : spliced_in (cells_of ns) (length (cells_of (take i ns))) (cell_of (c, u) ∷ []) ≡ cells_of more
    cells-put =
        split-in (cells_of (take i ns)) (map cell_of ps ++ cells_of (drop (i + 1) ns)) (cell_of (c, u) ∷ []) (cells_of ns) _ (cells_at_lem ns i h) refl ∙ sym (cells-other ns i h ((c, u) ∷ ps))

    pub bytes-put : spliced_in (spliced_in (bytes_of ns) (length (bytes_of (take i ns)) + length name) c) (length (bytes_of (take i ns)) + length name + length c) u ≡ bytes_of more
    unfolding property_bytes
    bytes-put =
        let a = bytes_of (take i ns) ++ name in
        let b = property_bytes ps ++ behind in
        let la : length (bytes_of (take i ns)) + length name ≡ length a = sym (length-append (bytes_of (take i ns)) name) in
        let one = split-in a b c (bytes_of ns) _ (bytes-at ns i h ∙ sym (append_assoc (bytes_of (take i ns)) name b)) la in
        split-in (a ++ c) b u _ _ (one ∙ sym (append_assoc a c b)) (ap (λ k. k + length c) la ∙ sym (length-append a c))
        ∙ (simp append_assoc) ∙ sym (bytes-other ns i h ((c, u) ∷ ps))

    pub row_put : row_of (dressed ns i h ((c, u) ∷ ps)) ≡ record { depth = (nth ns i).depth; name = length name; properties = length ps + 1; bytes = length (property_bytes ps) + length c + length u }
    unfolding property_bytes
    row_put =
        let a : suc (length ps) ≡ length ps + 1 = omega arith in
        let b : length (c ++ (u ++ property_bytes ps)) ≡ length (property_bytes ps) + length c + length u = omega (arith, length-append c (u ++ property_bytes ps), length-append u (property_bytes ps)) in
        λ j. record { depth = (nth ns i).depth; name = length name; properties = a j; bytes = b j }

    pub weight-put : weight_of more ≡ weight_of ns + property_weight (length c) (length u)
    unfolding properties_weight
    weight-put = omega (arith, weight-other ns i h ((c, u) ∷ ps))

  -- a property less
  module _ (k : ℕ) (l : k < length ps) where
    abbrev x : Property
    x = property_of ns i k

    abbrev less : List Node
    less = with_properties ns i (less_property ps k)

    pub cells_cut : spliced_out (cells_of ns) (length (cells_of (take i ns)) + k) 1 ≡ cells_of less
    cells_cut =
        let a = cells_of (take i ns) ++ map cell_of (take k ps) in
        let b = map cell_of (drop (k + 1) ps) ++ cells_of (drop (i + 1) ns) in
        let e : cells_of ns ≡ a ++ ((cell_of x ∷ []) ++ b) = cells_at_lem ns i h ∙ ap (λ t. cells_of (take i ns) ++ (t ++ cells_of (drop (i + 1) ns))) (ap (map cell_of) (cut_up ns i h k l) ∙ map-append cell_of (take k ps) (x ∷ drop (k + 1) ps)) ∙ simp append_assoc in
        let la : length (cells_of (take i ns)) + k ≡ length a = omega (arith, length-append (cells_of (take i ns)) (map cell_of (take k ps)), length-map (take k ps) cell_of, length-take-le k ps (omega (arith, l))) in
        split-out a (cell_of x ∷ []) b (cells_of ns) _ 1 e la refl
        ∙ regroup (cells_of (take i ns)) (map cell_of (take k ps)) (map cell_of (drop (k + 1) ps)) (cells_of (drop (i + 1) ns))
        ∙ sym (cells-other ns i h (less_property ps k) ∙ ap (λ t. cells_of (take i ns) ++ (t ++ cells_of (drop (i + 1) ns))) (map-append cell_of (take k ps) (drop (k + 1) ps)))

    pub bytes_cut : (at n : ℕ) → at ≡ length (bytes_of (take i ns)) + length name + length (property_bytes (take k ps)) → n ≡ length x.0 + length x.1 → spliced_out (bytes_of ns) at n ≡ bytes_of less
    bytes_cut at n ea en =
        let a = bytes_of (take i ns) ++ (name ++ property_bytes (take k ps)) in
        let b = property_bytes (drop (k + 1) ps) ++ behind in
        let e : bytes_of ns ≡ a ++ ((x.0 ++ x.1) ++ b) = bytes_on ns i h k l ∙ ap (λ t. a ++ t) (sym (append_assoc x.0 x.1 b)) in
        let la : at ≡ length a = ea ∙ omega (arith, length-append (bytes_of (take i ns)) (name ++ property_bytes (take k ps)), length-append name (property_bytes (take k ps))) in
        split-out a (x.0 ++ x.1) b (bytes_of ns) at n e la (en ∙ sym (length-append x.0 x.1))
        ∙ regroup-more (bytes_of (take i ns)) name (property_bytes (take k ps)) (property_bytes (drop (k + 1) ps)) behind
        ∙ sym (bytes-other ns i h (less_property ps k) ∙ ap (λ t. bytes_of (take i ns) ++ (name ++ (t ++ behind))) (property-bytes_join (take k ps) (drop (k + 1) ps)))

    bytes-parts : length (property_bytes ps) ≡ length (property_bytes (less_property ps k)) + length x.0 + length x.1
    unfolding property_bytes
    bytes-parts =
        omega (arith, ap (λ t. length (property_bytes t)) (cut_up ns i h k l), ap length (property-bytes_join (take k ps) (x ∷ drop (k + 1) ps)), ap length (property-bytes_join (take k ps) (drop (k + 1) ps)), length-append (property_bytes (take k ps)) (property_bytes (x ∷ drop (k + 1) ps)), length-append (property_bytes (take k ps)) (property_bytes (drop (k + 1) ps)), length-append x.0 (x.1 ++ property_bytes (drop (k + 1) ps)), length-append x.1 (property_bytes (drop (k + 1) ps)))

    count-parts : length ps ≡ length (less_property ps k) + 1
    count-parts = omega (arith, length-append (take k ps) (drop (k + 1) ps), length-take-le k ps (omega (arith, l)), length-drop (k + 1) ps, l)

    pub row_cut : (q b : ℕ) → q ≡ length ps - 1 → b ≡ length (property_bytes ps) - (length x.0 + length x.1) → row_of (dressed ns i h (less_property ps k)) ≡ record { depth = (nth ns i).depth; name = length name; properties = q; bytes = b }
    row_cut q b eq eb =
        let a : length (less_property ps k) ≡ q = omega (arith, eq, count-parts) in
        let d : length (property_bytes (less_property ps k)) ≡ b = omega (arith, eb, bytes-parts) in
        λ j. record { depth = (nth ns i).depth; name = length name; properties = a j; bytes = d j }

    pub cut-sizes : (1 ≤ length ps) × (length x.0 + length x.1 ≤ length (property_bytes ps))
    cut-sizes = (omega (arith, count-parts), omega (arith, bytes-parts))

    pub weight-cut : weight_of ns ≡ weight_of less + property_weight (length x.0) (length x.1)
    unfolding properties_weight
    weight-cut =
        omega (arith, weight-other ns i h (less_property ps k), ap properties_weight (cut_up ns i h k l), properties-weight_join (take k ps) (x ∷ drop (k + 1) ps), properties-weight_join (take k ps) (drop (k + 1) ps))

    -- another value of the same length
    module _ (u : Bytes) (same : length u ≡ length x.1) where
      abbrev over : List Node
      over = with_properties ns i (set ps k (x.0, u))

      set_is : set ps k (x.0, u) ≡ take k ps ++ ((x.0, u) ∷ drop (k + 1) ps)
      set_is = set_split ps k (x.0, u) l ∙ ap (λ j. take k ps ++ ((x.0, u) ∷ drop j ps)) (sym (add-one k))

      pub bytes-over : bytes_of over ≡ (bytes_of (take i ns) ++ (name ++ (property_bytes (take k ps) ++ x.0))) ++ (u ++ (property_bytes (drop (k + 1) ps) ++ behind))
      unfolding property_bytes
      bytes-over =
          bytes-other ns i h (set ps k (x.0, u)) ∙ ap (λ t. bytes_of (take i ns) ++ (name ++ (t ++ behind))) (ap property_bytes set_is ∙ property-bytes_join (take k ps) ((x.0, u) ∷ drop (k + 1) ps)) ∙ simp append_assoc

      pub bytes_were : bytes_of ns ≡ (bytes_of (take i ns) ++ (name ++ (property_bytes (take k ps) ++ x.0))) ++ (x.1 ++ (property_bytes (drop (k + 1) ps) ++ behind))
      bytes_were = bytes_on ns i h k l ∙ simp append_assoc

      cell_same : cell_of (x.0, u) ≡ cell_of x
      cell_same = λ j. record { name = length x.0; value = same j }

      map_same : map cell_of (set ps k (x.0, u)) ≡ map cell_of ps
      map_same = ap (map cell_of) set_is ∙ map-append cell_of (take k ps) ((x.0, u) ∷ drop (k + 1) ps) ∙ ap (λ t. map cell_of (take k ps) ++ (t ∷ map cell_of (drop (k + 1) ps))) cell_same ∙ sym (ap (map cell_of) (cut_up ns i h k l) ∙ map-append cell_of (take k ps) (x ∷ drop (k + 1) ps))

      pub cells_over : cells_of over ≡ cells_of ns
      cells_over = cells-other ns i h (set ps k (x.0, u)) ∙ ap (λ t. cells_of (take i ns) ++ (t ++ cells_of (drop (i + 1) ns))) map_same ∙ sym (cells_at_lem ns i h)

      long_same : length (property_bytes (set ps k (x.0, u))) ≡ length (property_bytes ps)
      unfolding property_bytes
      long_same =
          omega (arith, same, ap (λ t. length (property_bytes t)) set_is, ap length (property-bytes_join (take k ps) ((x.0, u) ∷ drop (k + 1) ps)), ap (λ t. length (property_bytes t)) (cut_up ns i h k l), ap length (property-bytes_join (take k ps) (x ∷ drop (k + 1) ps)), length-append (property_bytes (take k ps)) (property_bytes (x ∷ drop (k + 1) ps)), length-append (property_bytes (take k ps)) (property_bytes ((x.0, u) ∷ drop (k + 1) ps)), length-append x.0 (x.1 ++ property_bytes (drop (k + 1) ps)), length-append x.1 (property_bytes (drop (k + 1) ps)), length-append x.0 (u ++ property_bytes (drop (k + 1) ps)), length-append u (property_bytes (drop (k + 1) ps)))

      pub rows-over : rows_of over ≡ rows_of ns
      rows-over =
          let a : length (set ps k (x.0, u)) ≡ length ps = length-set ps k (x.0, u) in
          let e : row_of (dressed ns i h (set ps k (x.0, u))) ≡ row_of (nth ns i) = λ j. record { depth = (nth ns i).depth; name = length name; properties = a j; bytes = long_same j } in
          rows_other ns i h (set ps k (x.0, u)) ∙ ap (set (rows_of ns) i) (e ∙ sym (get_or-map row_of ns i nowhere (row_of nowhere) h)) ∙ set-get_or (rows_of ns) i (row_of nowhere)

      pub weight-over : weight_of over ≡ weight_of ns
      unfolding properties_weight
      weight-over =
          omega (arith, same, ap (λ t. property_weight (length x.0) t) same, weight-other ns i h (set ps k (x.0, u)), ap properties_weight set_is, properties-weight_join (take k ps) ((x.0, u) ∷ drop (k + 1) ps), ap properties_weight (cut_up ns i h k l), properties-weight_join (take k ps) (x ∷ drop (k + 1) ps))
