-- The names that a tape has are those that its tree has. Assumes nothing.
use Rattle.std.proofs.Common.{◌≡◌, ℕ, suc, ◌+◌, ◌<◌, Bool, true, false, cond, not, ◌&&◌, eqb, leb, ◌⊎◌, List, [], ◌∷◌, ◌++◌, length, take, drop, Some, None, Option, Ordering, Less, Equal, Greater, sym, refl, ap, ◌∙◌, subst, inl, inr, ⊎_elim, arith}
use Rattle.std.specs.Ordering.{match_ordering as by_order}
use Rattle.std.specs.Str.{bytes_eq}
use Rattle.std.proofs.lemmas.Slice.Eq.{bytes_eq-Decides}
use Rattle.std.proofs.lemmas.List.{length-append}
use Rattle.std.proofs.lemmas.Bool.{true≢false, cond-true, and_parts, and_from, not-true}
use Rattle.names.specs.Names.{node_name, property_name}
use Rattle.names.specs.Paths.{root, path_text, stem, leaf, parent}
use Rattle.names.proofs.NameLaws.{node_names}
use Rattle.names.proofs.PathLaws.{path_splits, parent_of, behind-last, stem-other}
use Rattle.tree.specs.Maps.{find, Rises}
use Rattle.tree.specs.Places.{Bytes, Place, node_at, property_at, order}
use Rattle.tree.specs.Trees.{Places, Tree, look}
use Rattle.tree.proofs.Maps.{some-none, head-found, find-tail}
use Rattle.tree.proofs.Places.{place-order}
use Rattle.store.specs.Calls.{names, child_on, property_on, least_after}
use Rattle.store.specs.Laws.{Among}
use Rattle.store.proofs.Nexts.{same-least, least_law}
use Rattle.tape.specs.Nodes.{Node, Property, shaped, path_of, tree_from, fits, valid, Missing, child_in, property_in, further}
use Rattle.tape.specs.Tapes.{nth, properties_at, stem_at}
use Rattle.tape.proofs.Around.{around}
use Rattle.tape.proofs.Descent.{at_index, descend_none, descend_some}
use Rattle.tape.proofs.Finds.{fit_parts}
use Rattle.tape.proofs.Looks.{look_missing, look-listed, path-of-stem, property-none, property-some}
use Rattle.tape.proofs.Outcomes.{look-stem, not_same, sound-of}
use Rattle.tape.proofs.Sounds.{parts}
use Rattle.tape.proofs.Sums.{path_join}
use Rattle.nexts.specs.Kids.{kids, keys}

-- ---- names of places

among-parts : (l : Bytes) (xs ys : List Bytes) → Among l (xs ++ ys) → Among l xs ⊎ Among l ys
among-parts l [] ys a = inr a
among-parts l (x ∷ xs) ys a = ⊎_elim (λ e. inl (inl e)) (λ b. ⊎_elim (λ c. inl (inr c)) (λ c. inr c) (among-parts l xs ys b)) a

among-left : (l : Bytes) (xs ys : List Bytes) → Among l xs → Among l (xs ++ ys)
among-left l [] ys a = absurd a
among-left l (x ∷ xs) ys a = ⊎_elim (λ e. inl e) (λ b. inr (among-left l xs ys b)) a

among_right : (l : Bytes) (xs ys : List Bytes) → Among l ys → Among l (xs ++ ys)
among_right l [] ys a = a
among_right l (x ∷ xs) ys a = inr (among_right l xs ys a)

names-out : (on : Place → List Bytes) (l : Bytes) (es : Places) → Rises order es → Among l (names on es) → (k : Place) × (v : Bytes) × (find order es k ≡ Some v) × Among l (on k)
unfolding names
names-out on l [] s a = absurd a
names-out on l (e ∷ es) s a =
    ⊎_elim
    (λ b. (e.0, e.1, head-found place-order e es, b))
    (λ b. let r = names-out on l es s.1 b in (r.0, r.1, find-tail place-order e es r.0 r.1 s r.2, r.3))
    (among-parts l (on e.0) (names on es) a)

names_in : (on : Place → List Bytes) (l : Bytes) (es : Places) (k : Place) (v : Bytes) → find order es k ≡ Some v → Among l (on k) → Among l (names on es)
unfolding find names
names_in on l [] k v e a = absurd (some-none v (sym e))
names_in on l (d ∷ es) k v e a = go (order k d.0) refl e (λ f. names_in on l es k v f a)
  where
    go : (r : Ordering) → order k d.0 ≡ r → by_order r None (Some d.1) (find order es k) ≡ Some v → (find order es k ≡ Some v → Among l (names on es)) → Among l (on d.0 ++ names on es)
    go Less q f ih = absurd (some-none v (sym f))
    go Equal q f ih = among-left l (on d.0) (names on es) (subst (λ x. Among l (on x)) (place-order.exact k d.0 q) a)
    go Greater q f ih = among_right l (on d.0) (names on es) (ih f)

-- ---- children

kid_in : (m : ℕ) (l : Bytes) (ns : List Node) (j : ℕ) → child_in m l ns ≡ Some j → Among l (kids m ns)
unfolding child_in kids
kid_in m l [] j e = absurd (some-none j (sym e))
kid_in m l (n ∷ ns) j e = go (leb n.depth m) (eqb n.depth (m + 1)) (bytes_eq n.name l) refl e (child_in m l ns) refl (λ i f. kid_in m l ns i f)
  where
    go : (x y z : Bool) → bytes_eq n.name l ≡ z → cond x None (cond (y && z) (Some 0) (further (child_in m l ns))) ≡ Some j → (o : Option ℕ) → child_in m l ns ≡ o → ((i : ℕ) → child_in m l ns ≡ Some i → Among l (kids m ns)) → Among l (cond x [] (cond y (n.name ∷ kids m ns) (kids m ns)))
    go true y z q f o p ih = absurd (some-none j (sym f))
    go false true true q f o p ih = inl ((bytes_eq-Decides n.name l).0 q)
    go false true false q f None p ih = absurd (some-none j (sym f ∙ ap further p))
    go false true false q f (Some i) p ih = inr (ih i p)
    go false false z q f None p ih = absurd (some-none j (sym f ∙ ap further p))
    go false false z q f (Some i) p ih = ih i p

kid_found : (m : ℕ) (l : Bytes) (ns : List Node) → Among l (kids m ns) → child_in m l ns ≡ None → ⊥
unfolding child_in kids
kid_found m l [] a e = a
kid_found m l (n ∷ ns) a e = go (leb n.depth m) (eqb n.depth (m + 1)) (bytes_eq n.name l) refl a e (child_in m l ns) refl (λ b f. kid_found m l ns b f)
  where
    go : (x y z : Bool) → bytes_eq n.name l ≡ z → Among l (cond x [] (cond y (n.name ∷ kids m ns) (kids m ns))) → cond x None (cond (y && z) (Some 0) (further (child_in m l ns))) ≡ None → (o : Option ℕ) → child_in m l ns ≡ o → (Among l (kids m ns) → child_in m l ns ≡ None → ⊥) → ⊥
    go true y z q b f o p ih = b
    go false true true q b f o p ih = some-none 0 f
    go false true false q b f None p ih = ⊎_elim (λ t. true≢false (sym ((bytes_eq-Decides n.name l).1 t) ∙ q)) (λ t. ih t p) b
    go false true false q b f (Some i) p ih = some-none (suc i) (sym (ap further p) ∙ f)
    go false false z q b f None p ih = ih b p
    go false false z q b f (Some i) p ih = some-none (suc i) (sym (ap further p) ∙ f)

kid_named : (d m : ℕ) (l : Bytes) (ns : List Node) → fits d ns ≡ true → Among l (kids m ns) → node_name l ≡ true
unfolding kids
kid_named d m l [] h a = absurd a
kid_named d m l (n ∷ ns) h a = go (leb n.depth m) (eqb n.depth (m + 1)) a (λ b. kid_named n.depth m l ns (fit_parts d n ns h).3 b)
  where
    go : (x y : Bool) → Among l (cond x [] (cond y (n.name ∷ kids m ns) (kids m ns))) → (Among l (kids m ns) → node_name l ≡ true) → node_name l ≡ true
    go true y b ih = absurd b
    go false true b ih = ⊎_elim (λ t. ap node_name (sym t) ∙ (fit_parts d n ns h).2) ih b
    go false false b ih = ih b

-- ---- properties

key_in : (l : Bytes) (xs : List Property) (j : ℕ) → property_in l xs ≡ Some j → Among l (keys xs)
unfolding property_in keys
key_in l [] j e = absurd (some-none j (sym e))
key_in l (x ∷ xs) j e = go (bytes_eq x.0 l) refl e (property_in l xs) refl (λ i f. key_in l xs i f)
  where
    go : (z : Bool) → bytes_eq x.0 l ≡ z → cond z (Some 0) (further (property_in l xs)) ≡ Some j → (o : Option ℕ) → property_in l xs ≡ o → ((i : ℕ) → property_in l xs ≡ Some i → Among l (keys xs)) → (x.0 ≡ l) ⊎ Among l (keys xs)
    go true q f o p ih = inl ((bytes_eq-Decides x.0 l).0 q)
    go false q f None p ih = absurd (some-none j (sym f ∙ ap further p))
    go false q f (Some i) p ih = inr (ih i p)

key-found : (l : Bytes) (xs : List Property) → Among l (keys xs) → property_in l xs ≡ None → ⊥
unfolding property_in keys
key-found l [] a e = a
key-found l (x ∷ xs) a e = go (bytes_eq x.0 l) refl a e (property_in l xs) refl (λ b f. key-found l xs b f)
  where
    go : (z : Bool) → bytes_eq x.0 l ≡ z → (x.0 ≡ l) ⊎ Among l (keys xs) → cond z (Some 0) (further (property_in l xs)) ≡ None → (o : Option ℕ) → property_in l xs ≡ o → (Among l (keys xs) → property_in l xs ≡ None → ⊥) → ⊥
    go true q b f o p ih = some-none 0 f
    go false q b f None p ih = ⊎_elim (λ t. true≢false (sym ((bytes_eq-Decides x.0 l).1 t) ∙ q)) (λ t. ih t p) b
    go false q b f (Some i) p ih = some-none (suc i) (sym (ap further p) ∙ f)

some_or : (o : Option ℕ) → (o ≡ None → ⊥) → (j : ℕ) × (o ≡ Some j)
some_or None h = absurd (h refl)
some_or (Some j) h = (j, refl)

-- ---- of the node at an index

module _ (boot : ℕ) (ns : List Node) (v : valid boot ns ≡ true) (p : Bytes) (good : path_text p ≡ true) (i : ℕ) (h : i < length ns) (is : stem_at ns i ≡ stem p) where
  abbrev t : Tree
  t = tree_from boot ns

  abbrev m : ℕ
  m = (nth ns i).depth

  abbrev ys : List Node
  ys = drop (i + 1) ns

  open' : 0 < length ns
  open' = omega (arith, h)

  kid_out : (l : Bytes) → Among l (names (child_on p) t.places) → Among l (kids m ys)
  unfolding look
  kid_out l a = let r = names-out (child_on p) l t.places (sound-of boot ns open' v).rises a in go r.0 r.1 r.2 r.3
    where
      go : (k : Place) (u : Bytes) → look t k ≡ Some u → Among l (child_on p k) → Among l (kids m ys)
      go (q, Some n) u e b = absurd b
      go (q, None) u e b = by (not (bytes_eq q root) && bytes_eq (parent q) p) refl b
        where
          by : (x : Bool) → (not (bytes_eq q root) && bytes_eq (parent q) p) ≡ x → Among l (cond x (leaf q ∷ []) []) → Among l (kids m ys)
          by false z d = absurd d
          by true z d =
              let ws = parts boot ns v in
              let b2 = and_parts _ _ z in
              let g : path_text q ≡ true = (sound-of boot ns open' v).named (node_at q) u e in
              let nr : q ≡ root → ⊥ = λ w. true≢false (sym ((bytes_eq-Decides q root).1 w) ∙ not-true _ b2.0) in
              let sp = path_splits q g nr in
              let lq : leaf q ≡ l = ⊎_elim (λ w. w) (λ w. absurd w) d in
              let own : stem_at ns i ++ (47 ∷ leaf q) ≡ stem q = ap (λ s. s ++ (47 ∷ leaf q)) (is ∙ ap stem (sym ((bytes_eq-Decides (parent q) p).0 b2.1))) ∙ sp.0 ∙ sym (stem-other q nr) in
              let there : child_in m (leaf q) ys ≡ None → ⊥ = λ f. some-none u (sym e ∙ look_missing boot ns v q g (subst (λ s. Missing s [] ns) own (descend_none ns ws.shape ws.once i h (leaf q) (node_names (leaf q) sp.2).0 f)) None) in
              let j = some_or (child_in m (leaf q) ys) there in
              subst (λ x. Among x (kids m ys)) lq (kid_in m (leaf q) ys j.0 j.1)

  pub kids-named : (l : Bytes) → Among l (kids m ys) → node_name l ≡ true
  kids-named l a =
      let f = around (take i ns) ys (nth ns i) (ap shaped (at_index ns i h) ∙ (parts boot ns v).shape) in
      kid_named _ m l ys f.1 a

  kid_back : (l : Bytes) → Among l (kids m ys) → Among l (names (child_on p) t.places)
  unfolding look
  kid_back l a =
      let ws = parts boot ns v in
      let pl = node_names l (kids-named l a) in
      let j = some_or (child_in m l ys) (kid_found m l ys a) in
      let d = descend_some ns ws.shape ws.once i h l pl.0 j.0 j.1 in
      let q = stem_at ns i ++ (47 ∷ l) in
      let w : look t (node_at q) ≡ Some [] = ap (λ r. look t (node_at r)) (sym (ap path_of d.1 ∙ path_join (stem_at ns i) l)) ∙ look-stem boot ns v (i + 1 + j.0) d.0 in
      let up : parent q ≡ p = parent_of (stem_at ns i) l pl.0 ∙ ap path_of is ∙ path-of-stem p good in
      let off : bytes_eq q root ≡ false = not_same q root (λ e. omega (arith, sym (length-append (stem_at ns i) (47 ∷ l)) ∙ ap length e, pl.1)) in
      let one : child_on p (node_at q) ≡ leaf q ∷ [] = cond-true _ (leaf q ∷ []) [] (and_from _ _ (ap not off) ((bytes_eq-Decides _ p).1 up)) in
      names_in (child_on p) l t.places (node_at q) [] w (subst (Among l) (sym one) (inl (behind-last q (stem_at ns i) l pl.0)))

  pub kids-same : (n : Bytes) → least_after n (kids m ys) ≡ least_after n (names (child_on p) t.places)
  kids-same n = same-least n _ _ kid_back kid_out

  key-out : (l : Bytes) → Among l (names (property_on p) t.places) → (u : Bytes) × (look t (property_at p l) ≡ Some u)
  unfolding look
  key-out l a = let r = names-out (property_on p) l t.places (sound-of boot ns open' v).rises a in go r.0 r.1 r.2 r.3
    where
      go : (k : Place) (u : Bytes) → look t k ≡ Some u → Among l (property_on p k) → (u : Bytes) × (look t (property_at p l) ≡ Some u)
      go (q, None) u e b = absurd b
      go (q, Some n) u e b = by (bytes_eq q p) refl b
        where
          by : (x : Bool) → bytes_eq q p ≡ x → Among l (cond x (n ∷ []) []) → (u : Bytes) × (look t (property_at p l) ≡ Some u)
          by false z d = absurd d
          by true z d =
              let nl : n ≡ l = ⊎_elim (λ w. w) (λ w. absurd w) d in
              (u, (λ j. look t (property_at (sym ((bytes_eq-Decides q p).0 z) j) (sym nl j))) ∙ e)

  key-there : (l u : Bytes) → look t (property_at p l) ≡ Some u → Among l (keys (properties_at ns i))
  key-there l u e =
      let j = some_or (property_in l (properties_at ns i)) (λ f. some-none u (sym e ∙ look-listed boot ns v p good i h is l ∙ property-none p l (properties_at ns i) f)) in
      key_in l (properties_at ns i) j.0 j.1

  key_back : (l : Bytes) → Among l (keys (properties_at ns i)) → (u : Bytes) × (look t (property_at p l) ≡ Some u)
  key_back l a =
      let j = some_or (property_in l (properties_at ns i)) (key-found l (properties_at ns i) a) in
      (_, look-listed boot ns v p good i h is l ∙ (property-some p l (properties_at ns i) j.0 j.1).2)

  pub keys-named : (l : Bytes) → Among l (keys (properties_at ns i)) → property_name l ≡ true
  keys-named l a = let r = key_back l a in (and_parts (path_text p) (property_name l) ((sound-of boot ns open' v).named (property_at p l) r.0 r.1)).1

  pub keys-same : (n : Bytes) → least_after n (keys (properties_at ns i)) ≡ least_after n (names (property_on p) t.places)
  unfolding look
  keys-same n =
      same-least n _ _
      (λ l a. let r = key_back l a in names_in (property_on p) l t.places (property_at p l) r.0 r.1 (subst (Among l) (sym (cond-true (bytes_eq p p) (l ∷ []) [] ((bytes_eq-Decides p p).1 refl))) (inl refl)))
      (λ l a. let r = key-out l a in key-there l r.0 r.1)

-- the least of some names is one of them
pub least-among : (n x : Bytes) (ms : List Bytes) → least_after n ms ≡ Some x → Among x ms
least-among n x ms e = ((least_law n ms).found x e).0
