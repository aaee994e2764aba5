-- What a walk has yet to come to, for loops over it. Assumes nothing.
use Rattle.std.proofs.Common.{◌≡◌, ℕ, ◌<◌, ◌≤◌, Bool, true, ◌⊎◌, List, [], ◌∷◌, Some, None, Option, Less, sym, refl, ap, ◌∙◌, subst, inl, inr, ⊎_elim, arith}
use Rattle.std.proofs.lemmas.Bool.{cases_Bool, and_parts}
use Rattle.std.specs.Ordering.{is_lt, nat_cmp}
use Rattle.names.specs.Names.{property_name}
use Rattle.names.specs.Orders.{name_order, path_order}
use Rattle.names.specs.Paths.{path_text}
use Rattle.names.proofs.NameLaws.{property_names}
use Rattle.names.proofs.Orders.{name_order_lem, path_order_lem}
use Rattle.tree.specs.Maps.{find, Below, Rises, total}
use Rattle.tree.specs.Places.{Bytes, Place, node_at, property_at, order}
use Rattle.tree.specs.Trees.{Places, Tree, Sound, look, node_count, nodes}
use Rattle.tree.proofs.Maps.{some-none, some_one, find-below, find-tail, head-found}
use Rattle.tree.proofs.Places.{place-order}
use Rattle.store.specs.Calls.{later, least_after, property_on, names}
use Rattle.walk.specs.Walks.{behind, beyond, after, first_path}
use Rattle.walk.proofs.Ancestors.{some_byte}
use Rattle.walk.proofs.Behind.{is-less, less-is, not-less, up-beyond, up-after, behind-here, behind-past, behind-rises, behind-held, behind-find, behind-first, behind-behind, behind-same, behind-none, Head, head_of}
use Rattle.walk.proofs.Least.{least-in, least-least, Ahead, names_in, names-out, property-on, on-property}
use Rattle.walk.proofs.Orders.{less_greater, equal_less, never_less, less-paths, paths-less, paths-same, own-property}
use Rattle.walk.proofs.Runs.{found_in}
use Rattle.std.specs.Cmp.Lexicographic.{slice_cmp}
use Rattle.std.specs.Option.{option_cmp}

-- a sum over an end of a list is at most that over the list
pub total-behind : (f : Place → Bytes → ℕ) (g : Place → Bool) (es : Places) → total f (behind g es) ≤ total f es
unfolding total behind
total-behind f g [] = omega arith
total-behind f g (e ∷ es) =
    ⊎_elim
    (λ h. let z = ap (total f) (behind-here g e es h) in omega arith)
    (λ h. let z = ap (total f) (behind-past g e es h) in let y = total-behind f g es in omega arith)
    (cases_Bool (g e.0))

-- equal where each value of one is that of the other
same_option : (a b : Option Bytes) → ((v : Bytes) → a ≡ Some v → b ≡ Some v) → ((v : Bytes) → b ≡ Some v → a ≡ Some v) → a ≡ b
same_option None None f g = refl
same_option None (Some v) f g = g v refl
same_option (Some v) b f g = sym (f v refl)

module _ (t : Tree) (s : Sound t) where
  -- from the empty path everything is to come
  pub beyond-all : beyond [] t.places ≡ t.places
  unfolding look find behind
  beyond-all = go t.places refl
    where
      go : (es : Places) → t.places ≡ es → beyond [] es ≡ es
      go [] e = refl
      go (d ∷ es) e = behind-here (λ k. is_lt (path_order [] k.0)) d es (first d.0.0 (text d es e))
        where
          text : (d : Place × Bytes) (es : Places) → t.places ≡ d ∷ es → path_text d.0.0 ≡ true
          text ((p, None), v) es e = s.named (node_at p) v (ap (λ z. find order z (node_at p)) e ∙ head-found place-order (node_at p, v) es)
          text ((p, Some n), v) es e = (and_parts (path_text p) (property_name n) (s.named (property_at p n) v (ap (λ z. find order z (property_at p n)) e ∙ head-found place-order (property_at p n, v) es))).0

          first : (p : Bytes) → path_text p ≡ true → is_lt (path_order [] p) ≡ true
          first [] h = let z = some_byte [] h in absurd (omega arith)
          first (b ∷ p) h = refl

  -- one node on
  pub record Step (p q : Bytes) : Type 0 where
    pub there : look t (node_at q) ≡ Some []
    pub rises : Rises order ((node_at q, []) ∷ after (node_at q) t.places)
    pub is : beyond p t.places ≡ (node_at q, []) ∷ after (node_at q) t.places
    pub onward : beyond q (after (node_at q) t.places) ≡ beyond q t.places
    pub less : nodes (beyond q t.places) < nodes (beyond p t.places)
    pub own : (n : Bytes) → find order (after (node_at q) t.places) (property_at q n) ≡ look t (property_at q n)

  pub step : (p q : Bytes) → first_path (beyond p t.places) ≡ Some q → Step p q
  unfolding look total find behind
  step p q e =
      ⊎_elim
      (λ none. absurd (some-none q (sym e ∙ ap first_path none)))
      (λ h.
      let at : h.at ≡ q = some_one (sym (ap first_path h.is) ∙ e) in
      subst (Step p) at (go h))
      (head_of t s p)
    where
      go : (h : Head t s p) → Step p h.at
      go h =
          let q = h.at in
          let r = behind-rises (λ k. is_lt (path_order p k.0)) t.places s.rises in
          let rh : Rises order ((node_at q, []) ∷ h.rest) = subst (Rises order) h.is r in
          let wide : (k : Place) → is_lt (order (node_at q) k) ≡ true → is_lt (path_order p k.0) ≡ true = λ k x. up-beyond p (node_at q) k (less-is (path_order p q) h.later) (is-less (order (node_at q) k) x) in
          let ds : after (node_at q) t.places ≡ h.rest =
          sym (behind-behind (λ k. is_lt (path_order p k.0)) (λ k. is_lt (order (node_at q) k)) wide t.places)
          ∙ ap (after (node_at q)) h.is
          ∙ behind-past (λ k. is_lt (order (node_at q) k)) (node_at q, []) h.rest (not-less (order (node_at q) (node_at q)) (λ z. equal_less (sym (Rattle.tree.proofs.Maps.same place-order (node_at q)) ∙ z)))
          ∙ all h.rest rh.0 in
          let isq : beyond p t.places ≡ (node_at q, []) ∷ after (node_at q) t.places = h.is ∙ ap (λ x. (node_at q, []) ∷ x) (sym ds) in
          let on : beyond q (after (node_at q) t.places) ≡ beyond q t.places = behind-behind (λ k. is_lt (order (node_at q) k)) (λ k. is_lt (path_order q k.0)) (λ k x. less-is (order (node_at q) k) (paths-less q k.0 None k.1 (is-less (path_order q k.0) x))) t.places in
          record {
            there = h.there;
            rises = subst (λ x. Rises order ((node_at q, []) ∷ x)) (sym ds) rh;
            is = isq;
            onward = on;
            less =
                let a = total-behind node_count (λ k. is_lt (path_order q k.0)) (after (node_at q) t.places) in
                let b = ap nodes on in
                let c = ap nodes isq in
                omega arith;
            own = λ n.
                same_option _ _
                (λ v x. behind-held (λ k. is_lt (order (node_at q) k)) t.places (property_at q n) v s.rises x)
                (λ v x. behind-find (λ k. is_lt (order (node_at q) k)) (up-after (node_at q)) t.places (property_at q n) v (less-is (order (node_at q) (property_at q n)) (own-property q n)) x);
          }
        where
          all : (es : Places) → Below order (node_at h.at) es → after (node_at h.at) es ≡ es
          all [] b = refl
          all (d ∷ es) b = behind-here (λ k. is_lt (order (node_at h.at) k)) d es (less-is (order (node_at h.at) d.0) b)

  pub no_step : (p : Bytes) → first_path (beyond p t.places) ≡ None → beyond p t.places ≡ []
  no_step p e = go (beyond p t.places) refl e
    where
      go : (es : Places) → beyond p t.places ≡ es → first_path es ≡ None → beyond p t.places ≡ []
      go [] x f = x
      go (d ∷ es) x f = absurd (some-none d.0.0 f)

  -- ---- the properties of a node

  -- the place at which a walk over the properties of q stands: before them, or at the one named a
  abbrev pub property_key : Bytes → Bytes → Place
  property_key q [] = node_at q
  property_key q (b ∷ a) = property_at q (b ∷ a)

  abbrev pub PropertyTurn : Bytes → Bytes → Option Bytes → Type 0
  PropertyTurn q a None = after (property_key q a) t.places ≡ beyond q t.places
  PropertyTurn q a (Some m) =
      (v : Bytes) × (look t (property_at q m) ≡ Some v) × (property_name m ≡ true) × (after (property_key q a) t.places ≡ (property_at q m, v) ∷ after (property_at q m) t.places)

  module _ (q a : Bytes) (here : look t (node_at q) ≡ Some []) where
    found : List Bytes
    found = names (property_on q) t.places

    -- a property is behind the key just where its name is behind the name
    key_order : (a n : Bytes) → property_name n ≡ true → is_lt (order (property_key q a) (property_at q n)) ≡ later a n
    key_order [] [] g = let z = (property_names [] g).1 in absurd (omega arith)
    key_order [] (b ∷ n) g = ap is_lt (own-property q (b ∷ n))
    key_order (c ∷ a) n g = ap is_lt (paths-same q (Some (c ∷ a)) (Some n))

    key_path : (a : Bytes) (k : Place) → path_order q k.0 ≡ Less → order (property_key q a) k ≡ Less
    key_path [] k l = paths-less q k.0 None k.1 l
    key_path (b ∷ a) k l = paths-less q k.0 (Some (b ∷ a)) k.1 l

    key_less : (a : Bytes) (p : Bytes) (y : Option Bytes) → order (property_key q a) (p, y) ≡ Less → (path_order q p ≡ Less) ⊎ ((q ≡ p) × (y ≡ None → ⊥))
    key_less [] p y l = ⊎_elim inl (λ x. inr (x.0, λ z. equal_less (ap (λ w. (option_cmp (slice_cmp nat_cmp)) None w) (sym z) ∙ x.1))) (less-paths q p None y l)
    key_less (b ∷ a) p y l = ⊎_elim inl (λ x. inr (x.0, λ z. less_greater (sym x.1 ∙ ap (λ w. (option_cmp (slice_cmp nat_cmp)) (Some (b ∷ a)) w) z))) (less-paths q p (Some (b ∷ a)) y l)

    test : Place → Bool
    test k = is_lt (order (property_key q a) k)

    -- what the question finds is a property behind the key
    finds : (m : Bytes) → least_after a found ≡ Some m → (v : Bytes) × (look t (property_at q m) ≡ Some v) × (property_name m ≡ true) × (test (property_at q m) ≡ true)
    unfolding found look test
    finds m e =
        let i = least-in a m found e in
        let o = names-out (property_on q) t.places m s.rises i.0 in
        let k = on-property q m o.0 o.3 in
        let h : find order t.places (property_at q m) ≡ Some o.1 = subst (λ z. find order t.places z ≡ Some o.1) k o.2 in
        let n = (and_parts (path_text q) (property_name m) (s.named (property_at q m) o.1 h)).1 in
        (o.1, h, n, key_order a m n ∙ i.1)

    -- and no property of q behind the key is before it
    misses : (n v : Bytes) → look t (property_at q n) ≡ Some v → test (property_at q n) ≡ true → (m : Bytes) × (least_after a found ≡ Some m) × Ahead m n
    unfolding found look test
    misses n v h l =
        let g = (and_parts (path_text q) (property_name n) (s.named (property_at q n) v h)).1 in
        least-least a n found (names_in (property_on q) t.places (property_at q n) v n h (property-on q n)) (sym (key_order a n g) ∙ l)

    up : (k l : Place) → test k ≡ true → order k l ≡ Less → test l ≡ true
    unfolding test
    up = up-after (property_key q a)

    narrow : (k : Place) → is_lt (path_order q k.0) ≡ true → test k ≡ true
    unfolding test
    narrow k x = less-is (order (property_key q a) k) (key_path a k (is-less (path_order q k.0) x))

    -- the list from the head of what is behind the key
    all_after : (k : Place) (v : Bytes) (ds : Places) → behind test t.places ≡ (k, v) ∷ ds → after k t.places ≡ ds
    unfolding test behind
    all_after k v ds e =
        let r : Rises order ((k, v) ∷ ds) = subst (Rises order) e (behind-rises test t.places s.rises) in
        let first = behind-first test t.places (k, v) ds e in
        sym (behind-behind test (λ l. is_lt (order k l)) (λ l x. up k l first (is-less (order k l) x)) t.places)
        ∙ ap (after k) e
        ∙ behind-past (λ l. is_lt (order k l)) (k, v) ds (not-less (order k k) (λ z. equal_less (sym (Rattle.tree.proofs.Maps.same place-order k) ∙ z)))
        ∙ all ds r.0
      where
        all : (es : Places) → Below order k es → after k es ≡ es
        all [] b = refl
        all (d ∷ es) b = behind-here (λ l. is_lt (order k l)) d es (less-is (order k d.0) b)

    held : (k : Place) (v : Bytes) (ds : Places) → behind test t.places ≡ (k, v) ∷ ds → find order t.places k ≡ Some v
    held k v ds e = behind-held test t.places k v s.rises (ap (λ z. find order z k) e ∙ head-found place-order (k, v) ds)

    -- what is behind the key is on a later path
    past : (k : Place) (v : Bytes) (ds : Places) → behind test t.places ≡ (k, v) ∷ ds → path_order q k.0 ≡ Less → (o : Option Bytes) → least_after a found ≡ o → PropertyTurn q a o
    unfolding test look find
    past k v ds e l None x = sym (behind-same test (λ k. is_lt (path_order q k.0)) narrow t.places (k, v) ds e (less-is (path_order q k.0) l))
    past k v ds e l (Some m) x =
        let f = finds m x in
        let i = behind-find test up t.places (property_at q m) f.0 f.3 f.1 in
        absurd (⊎_elim
        (λ z. never_less q (ap (λ w. path_order q w.0) z.0 ∙ l))
        (λ z. ⊎_elim (λ w. never_less q (path_order_lem.trans q k.0 q l w)) (λ w. never_less q (ap (path_order q) (sym w.0) ∙ l)) (less-paths k.0 q k.1 (Some m) z.0))
        (found_in (property_at q m) f.0 (k, v) ds (ap (λ z. find order z (property_at q m)) (sym e) ∙ i)))

    -- a name that the question finds, by the head of what is behind the key
    by_head : (es : Places) → behind test t.places ≡ es → (o : Option Bytes) → least_after a found ≡ o → PropertyTurn q a o
    unfolding test look find
    by_head [] e None x = sym (behind-none test (λ k. is_lt (path_order q k.0)) narrow t.places e)
    by_head [] e (Some m) x =
        let f = finds m x in
        absurd (some-none f.0 (sym (behind-find test up t.places (property_at q m) f.0 f.3 f.1) ∙ ap (λ z. find order z (property_at q m)) e))
    by_head (((p, None), v) ∷ ds) e o x =
        let l : path_order q p ≡ Less = ⊎_elim (λ z. z) (λ z. absurd (z.1 refl)) (key_less a p None (is-less (order (property_key q a) (node_at p)) (behind-first test t.places (node_at p, v) ds e))) in
        past (node_at p) v ds e l o x
    by_head (((p, Some n), v) ∷ ds) e o x =
        ⊎_elim
        (λ l. past (property_at p n) v ds e l o x)
        (λ z. own (property_at p n) v ds n (λ i. (sym z.0 i, Some n)) e o x)
        (key_less a p (Some n) (is-less (order (property_key q a) (property_at p n)) (behind-first test t.places (property_at p n, v) ds e)))
      where
        own : (k : Place) (v : Bytes) (ds : Places) (n : Bytes) → k ≡ property_at q n → behind test t.places ≡ (k, v) ∷ ds → (o : Option Bytes) → least_after a found ≡ o → PropertyTurn q a o
        own k v ds n z e o x =
            let e2 : behind test t.places ≡ (property_at q n, v) ∷ ds = e ∙ ap (λ w. (w, v) ∷ ds) z in
            let h = held (property_at q n) v ds e2 in
            let l = behind-first test t.places (property_at q n, v) ds e2 in
            let m = misses n v h l in
            let f = finds m.0 m.1 in
            let i = behind-find test up t.places (property_at q m.0) f.0 f.3 f.1 in
            let same : m.0 ≡ n =
            ⊎_elim
            (λ w. w)
            (λ w.
            absurd (⊎_elim
            (λ y. let b : m.0 ≡ n = some_one (ap (λ k. k.1) y.0) in equal_less (sym (name_order_lem.itself n) ∙ ap (λ k. name_order k n) (sym b) ∙ is-less (name_order m.0 n) w))
            (λ y. let b : name_order n m.0 ≡ Less = sym (paths-same q (Some n) (Some m.0)) ∙ y.0 in equal_less (sym (name_order_lem.itself n) ∙ name_order_lem.trans n m.0 n b (is-less (name_order m.0 n) w)))
            (found_in (property_at q m.0) f.0 (property_at q n, v) ds (ap (λ c. find order c (property_at q m.0)) (sym e2) ∙ i))))
            m.2 in
            subst (PropertyTurn q a) (sym m.1 ∙ x)
            (subst (λ w. PropertyTurn q a (Some w)) (sym same)
            (v, h, subst (λ w. property_name w ≡ true) same f.2, e2 ∙ ap (λ w. (property_at q n, v) ∷ w) (sym (all_after (property_at q n) v ds e2))))

    pub property_turn : PropertyTurn q a (least_after a (names (property_on q) t.places))
    unfolding test found
    property_turn = by_head (behind test t.places) refl (least_after a found) refl
