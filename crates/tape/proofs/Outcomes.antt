-- What the writes answer, by what was found. Assumes nothing.
use Rattle.std.proofs.Common.{◌≡◌, ℕ, ◌+◌, ◌-◌, ◌<◌, ◌≤◌, true, false, cond, not, ◌&&◌, ◌||◌, eqb, ltb, leb, List, [], ◌∷◌, ◌++◌, length, take, drop, set, is_some, Some, None, Ok, Err, Option, Result, sym, refl, ap, ◌∙◌, subst, ⊎_elim, arith}
use Rattle.std.specs.Str.{bytes_eq}
use Rattle.std.proofs.lemmas.Slice.Eq.{bytes_eq-Decides}
use Rattle.std.proofs.lemmas.List.{at_drop_more, at_drop_all, length-append, length-take-le, length-set, nil_from_length, drop_more, take_more_set}
use Rattle.std.proofs.lemmas.Bool.{and_parts, and_from, and_left, and_right, or_from, or_left, or_right, or_cases, or_parts, not-true, not-false, leb-false, eqb-true, eqb-false, cases_lt, cases_eq, leb-true, le-leb, lt-leb, eq-eqb, cond-true, cond-false, cases_Bool, true≢false}
use Rattle.std.proofs.lemmas.Bool.Decides.{nat_tests}
use Rattle.names.specs.Names.{node_name, property_name}
use Rattle.names.specs.Paths.{root, path_text, stem, leaf, parent}
use Rattle.names.proofs.NameLaws.{node_names, property_names}
use Rattle.names.proofs.PathLaws.{by-root, path_splits, parent_of, root_ends, stem-other}
use Rattle.tree.specs.Maps.{find, Rises, worth}
use Rattle.tree.specs.Places.{Bytes, Place, node_at, property_at, order}
use Rattle.tree.specs.Trees.{Places, Tree, Sound, look, change, property_count, weigh, nodes, properties, weight}
use Rattle.tree.proofs.Maps.{some-none, head-found, find-tail, total-upd}
use Rattle.tree.proofs.Places.{place-order}
use Rattle.store.specs.declared.Refusal.{Refusal}
use Rattle.store.specs.declared.Refusal.TheVariants.{Absent, Present, InUse, Limit}
use Rattle.store.specs.Calls.{holds, Good, there, admitted, none, names, child_on, property_on, in_use, add_node, drop_node, set_property, drop_property, changed, settled}
use Rattle.store.specs.Laws.{Writes}
use Rattle.store.proofs.Keeps.{store_laws, in-names, look-same}
use Rattle.tree.specs.Counting.{node_fits, property_fits, node_weight, property_weight, without_property}
use Rattle.tree.specs.declared.counts.Counts.{Counts}
use Rattle.tape.specs.Nodes.{Node, Property, height, step, ended, path_of, listed, tree_from, meaning_of, fits, shaped, apart, spread, valid, Missing, child_in, property_in}
use Rattle.tape.proofs.Arranged.{seek, seek-none, seek-here}
use Rattle.tape.proofs.Around.{around, node-here}
use Rattle.tape.proofs.Finds.{fit_parts, ended_join}
use Rattle.tape.proofs.Splices.{dressed}
use Rattle.tape.specs.Tapes.{nowhere, nth, properties_at, property_of, stem_at, Counted, aside, busy, bare_node, with_node, less_node, with_properties, less_property}
use Rattle.tape.proofs.Becomes.{Becomes, renewed, after_is, node-added, node_removed, property-added, property_removed, property_replaced, depth_is, twice}
use Rattle.tape.proofs.Looks.{open_is, look_missing, look-node, look-listed, path-of-stem, property-none, property-some}
use Rattle.tape.proofs.Descent.{root-stem, at_index, stem_index, descend_some, descend_none, one_byte}
use Rattle.tape.proofs.Sounds.{parts, sound_open}
use Rattle.tape.proofs.Sums.{nodes_are, properties_are, weight_is, within_limits, admit_new, admit_other, path_join}

-- ---- whether a node has something below it

aside_end : (d : ℕ) (ns : List Node) (j : ℕ) → length ns ≤ j → aside d (drop j ns) ≡ true
aside_end d ns j h = at_drop_all (aside d) ns j h

aside-at : (d : ℕ) (ns : List Node) (j : ℕ) → j < length ns → aside d (drop j ns) ≡ leb (nth ns j).depth d
aside-at d ns j h = at_drop_more (aside d) ns j nowhere h

pub busy-none : (ns : List Node) (i : ℕ) → length (properties_at ns i) ≡ 0 → length ns ≤ i + 1 → false ≡ busy ns i
busy-none ns i e h =
    sym (or_from _ _ (ap not (eq-eqb (length (properties_at ns i)) 0 e)) (ap not (aside_end (nth ns i).depth ns (i + 1) h)))

pub busy-next : (ns : List Node) (i : ℕ) → length (properties_at ns i) ≡ 0 → i + 1 < length ns → ltb (nth ns i).depth (nth ns (i + 1)).depth ≡ busy ns i
busy-next ns i e h =
    let a = aside-at (nth ns i).depth ns (i + 1) h in
    let b : ltb (nth ns i).depth (nth ns (i + 1)).depth ≡ not (leb (nth ns (i + 1)).depth (nth ns i).depth) = grind (arith, nat_tests) in
    b ∙ ap not (sym a) ∙ ap (λ x. x || not (aside (nth ns i).depth (drop (i + 1) ns))) (sym (ap not (eq-eqb (length (properties_at ns i)) 0 e)))

-- ---- paths

pub parent-text : (p : Bytes) → path_text p ≡ true → path_text (parent p) ≡ true
parent-text p h =
    ⊎_elim
    (λ e. ap (λ q. path_text (parent q)) e ∙ ap path_text root_ends.2 ∙ root_ends.0)
    (λ n. (path_splits p h n.0).1)
    (by-root p)

pub sound-of : (boot : ℕ) (ns : List Node) → 0 < length ns → valid boot ns ≡ true → Sound (tree_from boot ns)
sound-of boot [] h v = absurd (omega (arith, h))
sound-of boot (n ∷ ns) h v = sound_open boot n ns v

accepted-sound : (t : Tree) (a : Result (Unit {0}) Refusal) (k : Place) (w : Option Bytes) → Writes (holds t) a k w → a ≡ Ok tt → Sound (change t k w)
accepted-sound t a k w ws e = subst (λ x. Good (settled x (changed (holds t) k w) (holds t))) e ws.good

none-there : (t : Tree) (k : Place) → look t k ≡ None → there t k ≡ false
none-there t k e = ap is_some e

some-there : (t : Tree) (k : Place) (v : Bytes) → look t k ≡ Some v → there t k ≡ true
some-there t k v e = ap is_some e

height-length : (s : Bytes) → height s ≤ length s
unfolding height
height-length [] = omega arith
height-length (b ∷ s) = let r = height-length s in grind (arith, nat_tests)

-- ---- adding a node

module _ (boot : ℕ) (ns : List Node) (v : valid boot ns ≡ true) (h : 0 < length ns) (p : Bytes) (good : path_text p ≡ true) where
  abbrev t : Tree
  t = tree_from boot ns

  add_open : add_node (meaning_of boot ns) p ≡ cond (not (there t (node_at p))) (cond (there t (node_at (parent p))) (cond (admitted t (node_at p) []) (Ok tt) (Err Limit)) (Err Absent)) (Err Present)
  add_open = ap (λ m. add_node m p) (open_is boot ns h) ∙ cond-true (path_text p) _ _ good

  pub add_present : look t (node_at p) ≡ Some [] → Err Present ≡ add_node (meaning_of boot ns) p
  add_present e = sym (add_open ∙ cond-false (not (there t (node_at p))) _ _ (ap not (some-there t (node_at p) [] e)))

  module _ (gone : look t (node_at p) ≡ None) where
    add_two : add_node (meaning_of boot ns) p ≡ cond (there t (node_at (parent p))) (cond (admitted t (node_at p) []) (Ok tt) (Err Limit)) (Err Absent)
    add_two = add_open ∙ cond-true (not (there t (node_at p))) _ _ (ap not (none-there t (node_at p) gone))

    pub add_absent : look t (node_at (parent p)) ≡ None → Err Absent ≡ add_node (meaning_of boot ns) p
    add_absent e = sym (add_two ∙ cond-false (there t (node_at (parent p))) _ _ (none-there t (node_at (parent p)) e))

    pub not_the_root : p ≡ root → ⊥
    not_the_root e = some-none [] (sym (sound-of boot ns h v).root ∙ ap (λ q. look t (node_at q)) (sym e) ∙ gone)

    module _ (i : ℕ) (l : i < length ns) (is : stem_at ns i ≡ stem (parent p)) (c : Counts) (cs : Counted ns c) where
      parent-there : look t (node_at (parent p)) ≡ Some []
      parent-there = look-node boot ns v (parent p) (parent-text p good) i l is

      pub leaf-short : length (leaf p) ≤ 63
      leaf-short = (node_names (leaf p) (path_splits p good not_the_root).2).2

      pub depth-short : length p ≤ 255 → (nth ns i).depth ≤ 255
      depth-short b =
          let e = (path_splits p good not_the_root).0 in
          omega (arith, b, depth_is boot ns v i l, ap height is, height-length (stem (parent p)), sym (length-append (stem (parent p)) (47 ∷ leaf p)) ∙ ap length e)

      pub fits-path : node_fits c (length p) (length (leaf p)) ≡ true → length p ≤ 255
      fits-path e = leb-true _ _ (and_parts (leb (length p) 255) _ (and_parts _ _ e).1).0

      admit_is : admitted t (node_at p) [] ≡ node_fits c (length p) (length (leaf p))
      admit_is =
          let r = within_limits boot ns v in
          let a : nodes t.places + 1 ≡ c.nodes + 1 = omega (arith, nodes_are boot ns v, cs.nodes) in
          let b : leb (properties t.places + 0) 1024 ≡ true = le-leb _ _ (omega (arith, properties_are boot ns v, r.1)) in
          let d : weight t.places + node_weight (length (leaf p)) ≡ c.weight + node_weight (length (leaf p)) = omega (arith, weight_is boot ns v, cs.weight) in
          admit_new t (node_at p) [] gone ∙ (λ j. (leb (length p) 255 && le-leb 0 4096 (omega arith) j) && (leb (a j) 256 && (b j && leb (d j) 24576)))
          ∙ grind (arith, nat_tests)

      add_three : add_node (meaning_of boot ns) p ≡ cond (node_fits c (length p) (length (leaf p))) (Ok tt) (Err Limit)
      add_three =
          add_two ∙ cond-true (there t (node_at (parent p))) _ _ (some-there t (node_at (parent p)) [] parent-there) ∙ ap (λ b. cond b (Ok tt) (Err Limit)) admit_is

      pub add_limit : node_fits c (length p) (length (leaf p)) ≡ false → Err Limit ≡ add_node (meaning_of boot ns) p
      add_limit e = sym (add_three ∙ cond-false _ _ _ e)

      module _ (fit : node_fits c (length p) (length (leaf p)) ≡ true) where
        pub add_done : Ok tt ≡ add_node (meaning_of boot ns) p
        add_done = sym (add_three ∙ cond-true _ _ _ fit)

        becomes : Becomes boot ns (with_node ns (i + 1) (bare_node ((nth ns i).depth + 1) (leaf p))) (node_at p) (Some [])
        becomes = node-added boot ns v i l p good not_the_root is gone

        pub add_valid : valid boot (with_node ns (i + 1) (bare_node ((nth ns i).depth + 1) (leaf p))) ≡ true
        add_valid =
            let e = ap (λ m. add_node m p) (sym (open_is boot ns h)) ∙ sym add_done in
            renewed boot ns _ (node_at p) (Some []) becomes (accepted-sound t _ (node_at p) (Some []) (store_laws.add_node_lem (holds t) p (sound-of boot ns h v)) e)

        pub add_after : meaning_of boot (with_node ns (i + 1) (bare_node ((nth ns i).depth + 1) (leaf p))) ≡ changed (meaning_of boot ns) (node_at p) (Some [])
        add_after = after_is boot ns _ (node_at p) (Some []) h (omega (arith, length-append (take (i + 1) ns) (bare_node ((nth ns i).depth + 1) (leaf p) ∷ drop (i + 1) ns))) becomes

-- ---- dropping a node

pub not_same : (a b : Bytes) → (a ≡ b → ⊥) → bytes_eq a b ≡ false
not_same a b n = ⊎_elim (λ e. absurd (n ((bytes_eq-Decides a b).0 e))) (λ e. e) (cases_Bool (bytes_eq a b))

-- the next node is below a node that it is deeper than
behind-parts : (ns : List Node) → shaped ns ≡ true → (i : ℕ) → i < length ns → (j : i + 1 < length ns) → (1 ≤ (nth ns (i + 1)).depth) × ((nth ns (i + 1)).depth ≤ (nth ns i).depth + 1) × (node_name (nth ns (i + 1)).name ≡ true)
behind-parts ns sh i l j =
    let a = around (take i ns) (drop (i + 1) ns) (nth ns i) (ap shaped (at_index ns i l) ∙ sh) in
    let e : drop (i + 1) ns ≡ nth ns (i + 1) ∷ drop (i + 1 + 1) ns = drop_more ns (i + 1) nowhere j in
    let f = fit_parts _ (nth ns (i + 1)) (drop (i + 1 + 1) ns) (subst (λ t. fits (height (step (ended [] (take i ns)) (nth ns i))) t ≡ true) e a.1) in
    (f.0, omega (arith, f.1, a.0), f.2)

child-first : (m : ℕ) (c : Bytes) (ns : List Node) (j : ℕ) → (h : j < length ns) → (nth ns j).depth ≡ m + 1 → child_in m (nth ns j).name (drop j ns) ≡ Some 0
unfolding child_in
child-first m c ns j h e =
    at_drop_more (child_in m (nth ns j).name) ns j nowhere h
    ∙ cond-false (leb (nth ns j).depth m) _ _ (lt-leb _ _ (omega (arith, e)))
    ∙ cond-true _ (Some 0) _ (and_from _ _ (eq-eqb _ _ e) ((bytes_eq-Decides (nth ns j).name (nth ns j).name).1 refl))

child-aside : (m : ℕ) (c : Bytes) (ns : List Node) → aside m ns ≡ true → child_in m c ns ≡ None
unfolding child_in
child-aside m c [] h = refl
child-aside m c (n ∷ ns) h = cond-true (leb n.depth m) _ _ h

pub look-stem : (boot : ℕ) (ns : List Node) → valid boot ns ≡ true → (i : ℕ) → i < length ns → look (tree_from boot ns) (node_at (path_of (stem_at ns i))) ≡ Some []
unfolding look
look-stem boot ns v i h =
    let ws = parts boot ns v in
    let r = node-here (take i ns) (drop (i + 1) ns) (nth ns i) (ap shaped (at_index ns i h) ∙ ws.shape) (ap (λ t. apart (spread [] t)) (at_index ns i h) ∙ ws.once) in
    (λ k. seek (spread [] (sym (at_index ns i h) k)) (node_at (path_of (stem_index ns i h k)))) ∙ r

none-names : (on : Place → List Bytes) (es : Places) → Rises order es → ((k : Place) (v : Bytes) → find order es k ≡ Some v → on k ≡ []) → none (names on es) ≡ true
unfolding names
none-names on [] s f = refl
none-names on (e ∷ es) s f =
    ap (λ l. none (l ++ names on es)) (f e.0 e.1 (head-found place-order e es))
    ∙ none-names on es s.1 (λ k v g. f k v (find-tail place-order e es k v s g))

module _ (boot : ℕ) (ns : List Node) (v : valid boot ns ≡ true) (h : 0 < length ns) (p : Bytes) (good : path_text p ≡ true) where
  abbrev t' : Tree
  t' = tree_from boot ns

  drop_open : drop_node (meaning_of boot ns) p ≡ cond (there t' (node_at p)) (cond (not (in_use t' p)) (Ok tt) (Err InUse)) (Err Absent)
  drop_open = ap (λ m. drop_node m p) (open_is boot ns h) ∙ cond-true (path_text p) _ _ good

  pub drop-absent : look t' (node_at p) ≡ None → Err Absent ≡ drop_node (meaning_of boot ns) p
  drop-absent e = sym (drop_open ∙ cond-false (there t' (node_at p)) _ _ (none-there t' (node_at p) e))

  module _ (i : ℕ) (l : i < length ns) (is : stem_at ns i ≡ stem p) where
    drop-two : drop_node (meaning_of boot ns) p ≡ cond (not (in_use t' p)) (Ok tt) (Err InUse)
    drop-two = drop_open ∙ cond-true (there t' (node_at p)) _ _ (some-there t' (node_at p) [] (look-node boot ns v p good i l is))

    drop-used : in_use t' p ≡ true → Err InUse ≡ drop_node (meaning_of boot ns) p
    drop-used e = sym (drop-two ∙ cond-false (not (in_use t' p)) _ _ (ap not e))

    pub drop-root : length p ≡ 1 → Err InUse ≡ drop_node (meaning_of boot ns) p
    drop-root e = drop-used (or_left (bytes_eq p root) _ ((bytes_eq-Decides p root).1 (one_byte p good e)))

    -- a property or a child shows in the tree
    with-property : (x : Property) (xs : List Property) → properties_at ns i ≡ x ∷ xs → in_use t' p ≡ true
    unfolding look listed
    with-property x xs e =
        let f : look t' (property_at p x.0) ≡ Some x.1 = look-listed boot ns v p good i l is x.0 ∙ ap (λ q. seek (listed p q) (property_at p x.0)) e ∙ seek-here (property_at p x.0) x.1 (listed p xs) in
        let n : none (property_on p (property_at p x.0)) ≡ false = ap none (cond-true (bytes_eq p p) (x.0 ∷ []) [] ((bytes_eq-Decides p p).1 refl)) in
        or_right (bytes_eq p root) _ (or_right (not (none (names (child_on p) t'.places))) _ (ap not (in-names (property_on p) t'.places (property_at p x.0) x.1 f n)))

    with-child : i + 1 < length ns → (nth ns i).depth < (nth ns (i + 1)).depth → in_use t' p ≡ true
    unfolding look
    with-child j d =
        let ws = parts boot ns v in
        let y = nth ns (i + 1) in
        let q = stem_at ns i in
        let f = behind-parts ns ws.shape i l j in
        let name = f.2 in
        let pl = node_names y.name name in
        let same : child_in (nth ns i).depth y.name (drop (i + 1) ns) ≡ Some 0 = child-first (nth ns i).depth y.name ns (i + 1) j (omega (arith, d, f.1)) in
        let dn = descend_some ns ws.shape ws.once i l y.name pl.0 0 same in
        let z : i + 1 + 0 ≡ i + 1 = omega arith in
        let st : stem_at ns (i + 1) ≡ q ++ (47 ∷ y.name) = ap (stem_at ns) (sym z) ∙ dn.1 in
        let w : look t' (node_at (q ++ (47 ∷ y.name))) ≡ Some [] = ap (λ r. look t' (node_at r)) (sym (ap path_of st ∙ path_join q y.name)) ∙ look-stem boot ns v (i + 1) j in
        let up : parent (q ++ (47 ∷ y.name)) ≡ p = parent_of q y.name pl.0 ∙ ap path_of is ∙ path-of-stem p good in
        let off : bytes_eq (q ++ (47 ∷ y.name)) root ≡ false = not_same (q ++ (47 ∷ y.name)) root (λ e. omega (arith, sym (length-append q (47 ∷ y.name)) ∙ ap length e, pl.1)) in
        let n : none (child_on p (node_at (q ++ (47 ∷ y.name)))) ≡ false = ap none (cond-true _ (leaf (q ++ (47 ∷ y.name)) ∷ []) [] (and_from _ _ (ap not off) ((bytes_eq-Decides _ p).1 up))) in
        or_right (bytes_eq p root) _ (or_left _ (not (none (names (property_on p) t'.places))) (ap not (in-names (child_on p) t'.places (node_at (q ++ (47 ∷ y.name))) [] w n)))

    pub drop-busy : busy ns i ≡ true → Err InUse ≡ drop_node (meaning_of boot ns) p
    drop-busy b =
        drop-used (⊎_elim
        (λ e. go (properties_at ns i) refl (not-true (eqb (length (properties_at ns i)) 0) e))
        (λ e. ⊎_elim
        (λ j. with-child j (leb-false _ _ (sym (aside-at (nth ns i).depth ns (i + 1) j) ∙ not-true _ e)))
        (λ j. absurd (true≢false (sym (aside_end (nth ns i).depth ns (i + 1) j) ∙ not-true _ e)))
        (cases_lt (i + 1) (length ns)))
        (or_cases _ _ b))
      where
        go : (xs : List Property) → properties_at ns i ≡ xs → eqb (length (properties_at ns i)) 0 ≡ false → in_use t' p ≡ true
        go [] e z = absurd (eqb-false _ _ z (ap length e))
        go (x ∷ xs) e z = with-property x xs e

    -- a node that is not busy has none
    module _ (other : length p ≡ 1 → ⊥) (idle : busy ns i ≡ false) where
      bare : properties_at ns i ≡ []
      bare = nil_from_length _ (eqb-true _ _ (not-false _ (or_parts _ _ idle).0))

      off : aside (nth ns i).depth (drop (i + 1) ns) ≡ true
      off = not-false _ (or_parts _ _ idle).1

      no-child : (k : Place) (u : Bytes) → look t' k ≡ Some u → child_on p k ≡ []
      no-child (q, Some n) u e = refl
      no-child (q, None) u e =
          ⊎_elim
          (λ b. absurd (go (and_parts _ _ b)))
          (λ b. cond-false _ (leaf q ∷ []) [] b)
          (cases_Bool (not (bytes_eq q root) && bytes_eq (parent q) p))
        where
          go : (not (bytes_eq q root) ≡ true) × (bytes_eq (parent q) p ≡ true) → ⊥
          go b =
              let ws = parts boot ns v in
              let g : path_text q ≡ true = (sound-of boot ns h v).named (node_at q) u e in
              let nr : q ≡ root → ⊥ = λ z. true≢false (sym ((bytes_eq-Decides q root).1 z) ∙ not-true _ b.0) in
              let sp = path_splits q g nr in
              let own : stem_at ns i ++ (47 ∷ leaf q) ≡ stem q = ap (λ s. s ++ (47 ∷ leaf q)) (is ∙ ap stem (sym ((bytes_eq-Decides (parent q) p).0 b.1))) ∙ sp.0 ∙ sym (stem-other q nr) in
              let m = descend_none ns ws.shape ws.once i l (leaf q) (node_names (leaf q) sp.2).0 (child-aside (nth ns i).depth (leaf q) (drop (i + 1) ns) off) in
              some-none u (sym e ∙ look_missing boot ns v q g (subst (λ s. Missing s [] ns) own m) None)

      no_property : (k : Place) (u : Bytes) → look t' k ≡ Some u → property_on p k ≡ []
      unfolding listed
      no_property (q, None) u e = refl
      no_property (q, Some n) u e =
          ⊎_elim
          (λ b. absurd (go b))
          (λ b. cond-false _ (n ∷ []) [] b)
          (cases_Bool (bytes_eq q p))
        where
          go : bytes_eq q p ≡ true → ⊥
          go b =
              let z = (bytes_eq-Decides q p).0 b in
              some-none u (sym e ∙ ap (λ r. look t' (property_at r n)) z ∙ look-listed boot ns v p good i l is n ∙ ap (λ xs. seek (listed p xs) (property_at p n)) bare ∙ seek-none (property_at p n))

      idle_use : in_use t' p ≡ false
      unfolding look
      idle_use =
          let s = sound-of boot ns h v in
          let r : bytes_eq p root ≡ false = not_same p root (λ e. other (ap length e)) in
          or_from _ _ r (or_from _ _ (ap not (none-names (child_on p) t'.places s.rises no-child)) (ap not (none-names (property_on p) t'.places s.rises no_property)))

      pub drop-done : Ok tt ≡ drop_node (meaning_of boot ns) p
      drop-done = sym (drop-two ∙ cond-true (not (in_use t' p)) _ _ (ap not idle_use))

      not_first : 0 < i
      not_first = ⊎_elim (λ z. absurd (other (first-is z))) (λ z. omega (arith, z)) (cases_eq i 0)
        where
          first-is : i ≡ 0 → length p ≡ 1
          first-is z =
              let e : stem p ≡ [] = sym is ∙ ap (stem_at ns) z ∙ root-stem ns (parts boot ns v).shape h in
              ap length (sym (path-of-stem p good)) ∙ ap (λ s. length (path_of s)) e

      drop-becomes : Becomes boot ns (less_node ns i) (node_at p) None
      drop-becomes = node_removed boot ns v i l p good is not_first bare off

      pub drop-valid : valid boot (less_node ns i) ≡ true
      drop-valid =
          let e = ap (λ m. drop_node m p) (sym (open_is boot ns h)) ∙ sym drop-done in
          renewed boot ns _ (node_at p) None drop-becomes (accepted-sound t' _ (node_at p) None (store_laws.drop_node_lem (holds t') p (sound-of boot ns h v)) e)

      pub drop-after : meaning_of boot (less_node ns i) ≡ changed (meaning_of boot ns) (node_at p) None
      drop-after = after_is boot ns _ (node_at p) None h (omega (arith, not_first, length-append (take i ns) (drop (i + 1) ns), length-take-le i ns (omega (arith, l)))) drop-becomes

      pub drop-bare : length (properties_at ns i) ≡ 0
      drop-bare = ap length bare

-- ---- properties

part-weight : (t : Tree) (k : Place) (u : Bytes) → look t k ≡ Some u → weigh k u ≤ weight t.places
unfolding look
part-weight t k u e = omega (arith, total-upd place-order weigh t.places k None, ap (worth weigh k) e)

part_count : (t : Tree) (p c u : Bytes) → look t (property_at p c) ≡ Some u → 1 ≤ properties t.places
unfolding look
part_count t p c u e =
    omega (arith, total-upd place-order property_count t.places (property_at p c) None, ap (worth property_count (property_at p c)) e)

-- other properties change no path
stem-dressed : (ns : List Node) (i : ℕ) → i < length ns → (qs : List Property) → stem_at (with_properties ns i qs) i ≡ stem_at ns i
unfolding ended step
stem-dressed ns i l qs =
    let e : take (i + 1) (with_properties ns i qs) ≡ take i ns ++ (dressed (nth ns i) qs ∷ []) = take_more_set ns i (dressed (nth ns i) qs) l in
    ap (ended []) e ∙ ended_join [] (take i ns) (dressed (nth ns i) qs ∷ []) ∙ sym (stem_index ns i l)

module _ (boot : ℕ) (ns : List Node) (v : valid boot ns ≡ true) (h : 0 < length ns) (p : Bytes) (good : path_text p ≡ true) (c : Bytes) (name : property_name c ≡ true) where
  abbrev t'' : Tree
  t'' = tree_from boot ns

  set_open : (w : Bytes) → set_property (meaning_of boot ns) p c w ≡ cond (there t'' (node_at p)) (cond (admitted t'' (property_at p c) w) (Ok tt) (Err Limit)) (Err Absent)
  set_open w = ap (λ m. set_property m p c w) (open_is boot ns h) ∙ cond-true (path_text p && property_name c) _ _ (and_from _ _ good name)

  pub set-absent : (w : Bytes) → look t'' (node_at p) ≡ None → Err Absent ≡ set_property (meaning_of boot ns) p c w
  set-absent w e = sym (set_open w ∙ cond-false (there t'' (node_at p)) _ _ (none-there t'' (node_at p) e))

  unset_open : drop_property (meaning_of boot ns) p c ≡ cond (there t'' (node_at p) && there t'' (property_at p c)) (Ok tt) (Err Absent)
  unset_open = ap (λ m. drop_property m p c) (open_is boot ns h) ∙ cond-true (path_text p && property_name c) _ _ (and_from _ _ good name)

  pub unset-no-node : look t'' (node_at p) ≡ None → Err Absent ≡ drop_property (meaning_of boot ns) p c
  unset-no-node e = sym (unset_open ∙ cond-false (there t'' (node_at p) && there t'' (property_at p c)) _ _ (and_left _ _ (none-there t'' (node_at p) e)))

  pub name-short : length c ≤ 31
  name-short = (property_names c name).2

  module _ (i : ℕ) (l : i < length ns) (is : stem_at ns i ≡ stem p) where
    node_in : look t'' (node_at p) ≡ Some []
    node_in = look-node boot ns v p good i l is

    set-two : (w : Bytes) → set_property (meaning_of boot ns) p c w ≡ cond (admitted t'' (property_at p c) w) (Ok tt) (Err Limit)
    set-two w = set_open w ∙ cond-true (there t'' (node_at p)) _ _ (some-there t'' (node_at p) [] node_in)

    path-short : leb (length p) 255 ≡ true
    path-short = (and_parts _ _ ((sound-of boot ns h v).short (node_at p) [] node_in)).0

    set-sound : (w : Bytes) → Ok tt ≡ set_property (meaning_of boot ns) p c w → Sound (change t'' (property_at p c) (Some w))
    set-sound w e =
        accepted-sound t'' _ (property_at p c) (Some w) (store_laws.set_property_lem (holds t'') p c w (sound-of boot ns h v)) (ap (λ m. set_property m p c w) (sym (open_is boot ns h)) ∙ sym e)

    dressed-some : (qs : List Property) → 0 < length (with_properties ns i qs)
    dressed-some qs = omega (arith, h, length-set ns i (dressed (nth ns i) qs))

    -- a new one
    module _ (gone : property_in c (properties_at ns i) ≡ None) where
      not_in : look t'' (property_at p c) ≡ None
      not_in = look-listed boot ns v p good i l is c ∙ property-none p c (properties_at ns i) gone

      pub unset-none : Err Absent ≡ drop_property (meaning_of boot ns) p c
      unset-none = sym (unset_open ∙ cond-false (there t'' (node_at p) && there t'' (property_at p c)) _ _ (and_right _ _ (none-there t'' (property_at p c) not_in)))

      module _ (n : Counts) (cs : Counted ns n) (w : Bytes) where
        admit_add : admitted t'' (property_at p c) w ≡ property_fits n (length c) (length w)
        admit_add =
            let r = within_limits boot ns v in
            let a : leb (nodes t''.places + 0) 256 ≡ true = le-leb _ _ (omega (arith, nodes_are boot ns v, r.0)) in
            let b : properties t''.places + 1 ≡ n.properties + 1 = omega (arith, properties_are boot ns v, cs.properties) in
            let d : weight t''.places + property_weight (length c) (length w) ≡ n.weight + property_weight (length c) (length w) = omega (arith, weight_is boot ns v, cs.weight) in
            admit_new t'' (property_at p c) w not_in ∙ (λ j. (path-short j && leb (length w) 4096) && (a j && (leb (b j) 1024 && leb (d j) 24576)))
            ∙ grind (arith, nat_tests)

        pub new_limit : property_fits n (length c) (length w) ≡ false → Err Limit ≡ set_property (meaning_of boot ns) p c w
        new_limit e = sym (set-two w ∙ cond-false _ _ _ (admit_add ∙ e))

        module _ (fit : property_fits n (length c) (length w) ≡ true) where
          pub new-done : Ok tt ≡ set_property (meaning_of boot ns) p c w
          new-done = sym (set-two w ∙ cond-true _ _ _ (admit_add ∙ fit))

          new-becomes : Becomes boot ns (with_properties ns i ((c, w) ∷ properties_at ns i)) (property_at p c) (Some w)
          new-becomes = property-added boot ns v i l p good is c w not_in

          pub new-valid : valid boot (with_properties ns i ((c, w) ∷ properties_at ns i)) ≡ true
          new-valid = renewed boot ns _ (property_at p c) (Some w) new-becomes (set-sound w new-done)

          pub new-after : meaning_of boot (with_properties ns i ((c, w) ∷ properties_at ns i)) ≡ changed (meaning_of boot ns) (property_at p c) (Some w)
          new-after = after_is boot ns _ (property_at p c) (Some w) h (dressed-some _) new-becomes

    -- one that is there
    module _ (k : ℕ) (found : property_in c (properties_at ns i) ≡ Some k) where
      abbrev old : Bytes
      old = (property_of ns i k).1

      at-k : k < length (properties_at ns i)
      at-k = (property-some p c (properties_at ns i) k found).0

      pub named-k : (property_of ns i k).0 ≡ c
      named-k = (property-some p c (properties_at ns i) k found).1

      is-in : look t'' (property_at p c) ≡ Some old
      is-in = look-listed boot ns v p good i l is c ∙ (property-some p c (properties_at ns i) k found).2

      pub unset-done : Ok tt ≡ drop_property (meaning_of boot ns) p c
      unset-done =
          sym (unset_open ∙ cond-true (there t'' (node_at p) && there t'' (property_at p c)) _ _ (and_from _ _ (some-there t'' (node_at p) [] node_in) (some-there t'' (property_at p c) old is-in)))

      unset-becomes : Becomes boot ns (with_properties ns i (less_property (properties_at ns i) k)) (property_at p c) None
      unset-becomes = property_removed boot ns v i l p good is k at-k c named-k

      pub unset-valid : valid boot (with_properties ns i (less_property (properties_at ns i) k)) ≡ true
      unset-valid =
          renewed boot ns _ (property_at p c) None unset-becomes (accepted-sound t'' _ (property_at p c) None (store_laws.drop_property_lem (holds t'') p c (sound-of boot ns h v)) (ap (λ m. drop_property m p c) (sym (open_is boot ns h)) ∙ sym unset-done))

      pub unset-after : meaning_of boot (with_properties ns i (less_property (properties_at ns i) k)) ≡ changed (meaning_of boot ns) (property_at p c) None
      unset-after = after_is boot ns _ (property_at p c) None h (dressed-some _) unset-becomes

      pub old-short : length old ≤ 4096
      old-short = leb-true _ _ (and_parts _ _ ((sound-of boot ns h v).short (property_at p c) old is-in)).1

      -- what it weighs, and that it counts
      pub old-weight : (n : Counts) → Counted ns n → property_weight (length c) (length old) ≤ n.weight
      old-weight n cs = omega (arith, part-weight t'' (property_at p c) old is-in, weight_is boot ns v, cs.weight)

      pub old-count : (n : Counts) → Counted ns n → 1 ≤ n.properties
      old-count n cs = omega (arith, part_count t'' p c old is-in, properties_are boot ns v, cs.properties)

      module _ (n : Counts) (cs : Counted ns n) (w : Bytes) where
        abbrev rest : ℕ
        rest = n.weight - property_weight (length c) (length old)

        admit_over : admitted t'' (property_at p c) w ≡ property_fits (without_property n (length c) (length old)) (length c) (length w)
        admit_over =
            let r = within_limits boot ns v in
            let a : leb (nodes t''.places) 256 ≡ true = le-leb _ _ (omega (arith, nodes_are boot ns v, r.0)) in
            let b : properties t''.places ≡ n.properties - 1 + 1 = omega (arith, properties_are boot ns v, cs.properties, old-count n cs) in
            let e : weight t''.places ≡ rest + property_weight (length c) (length old) = omega (arith, weight_is boot ns v, cs.weight, old-weight n cs) in
            admit_other t'' p c old w rest is-in e ∙ (λ j. (path-short j && leb (length w) 4096) && (a j && (leb (b j) 1024 && leb (rest + property_weight (length c) (length w)) 24576)))
            ∙ grind (arith, nat_tests)

        pub over_limit : property_fits (without_property n (length c) (length old)) (length c) (length w) ≡ false → Err Limit ≡ set_property (meaning_of boot ns) p c w
        over_limit e = sym (set-two w ∙ cond-false _ _ _ (admit_over ∙ e))

        module _ (fit : property_fits (without_property n (length c) (length old)) (length c) (length w) ≡ true) where
          pub over_done : Ok tt ≡ set_property (meaning_of boot ns) p c w
          over_done = sym (set-two w ∙ cond-true _ _ _ (admit_over ∙ fit))

          over-becomes : Becomes boot ns (with_properties ns i (set (properties_at ns i) k ((property_of ns i k).0, w))) (property_at p c) (Some w)
          over-becomes =
              subst (λ x. Becomes boot ns (with_properties ns i (set (properties_at ns i) k (x, w))) (property_at p c) (Some w)) (sym named-k) (property_replaced boot ns v i l p good is k at-k c named-k w)

          pub over-valid : valid boot (with_properties ns i (set (properties_at ns i) k ((property_of ns i k).0, w))) ≡ true
          over-valid = renewed boot ns _ (property_at p c) (Some w) over-becomes (set-sound w over_done)

          pub over-after : meaning_of boot (with_properties ns i (set (properties_at ns i) k ((property_of ns i k).0, w))) ≡ changed (meaning_of boot ns) (property_at p c) (Some w)
          over-after = after_is boot ns _ (property_at p c) (Some w) h (dressed-some _) over-becomes

          -- taken out, and put in again
          abbrev less : List Node
          less = with_properties ns i (less_property (properties_at ns i) k)

          abbrev again : List Node
          again = with_properties less i ((c, w) ∷ properties_at less i)

          pub less-long : i < length less
          less-long = omega (arith, l, length-set ns i (dressed (nth ns i) (less_property (properties_at ns i) k)))

          less-gone : look (tree_from boot less) (property_at p c) ≡ None
          less-gone = ap (λ x. look x (property_at p c)) unset-becomes.tree ∙ look-same t'' (sound-of boot ns h v) (property_at p c) None

          less-stem : stem_at less i ≡ stem p
          less-stem = stem-dressed ns i l (less_property (properties_at ns i) k) ∙ is

          again-becomes : Becomes boot ns again (property_at p c) (Some w)
          again-becomes = twice boot ns less again (property_at p c) (Some w) unset-becomes (property-added boot less unset-valid i less-long p good less-stem c w less-gone)

          pub again-valid : valid boot again ≡ true
          again-valid = renewed boot ns again (property_at p c) (Some w) again-becomes (set-sound w over_done)

          pub again-after : meaning_of boot again ≡ changed (meaning_of boot ns) (property_at p c) (Some w)
          again-after = after_is boot ns again (property_at p c) (Some w) h (omega (arith, less-long, length-set less i (dressed (nth less i) ((c, w) ∷ properties_at less i)))) again-becomes
