-- One question of a walk: the next child of a node, by what it says of the next node in document order. Assumes nothing.
use Rattle.std.proofs.Common.{◌≡◌, ℕ, ◌+◌, true, cond, eqb, [], ◌∷◌, ◌++◌, length, Some, None, Ordering, Less, Equal, Greater, sym, refl, ap, ◌∙◌, subst, inl, inr, ⊎_elim, true≢false, append_assoc, append-nil, arith}
use Rattle.std.proofs.lemmas.List.{append_cancel_left}
use Rattle.std.proofs.lemmas.Bool.{cases_Bool, cases_order, eqb-true}
use Rattle.std.specs.Ordering.{is_lt, is_eq, ordering_then, ordering_reverse}
use Rattle.names.specs.Names.{node_name}
use Rattle.names.specs.Orders.{name_order, path_order, rank}
use Rattle.names.specs.Paths.{root, path_text, stem, child, leaf, parent, plain}
use Rattle.names.specs.PathLaws.{further}
use Rattle.names.proofs.NameLaws.{node_names}
use Rattle.names.proofs.Orders.{above, path_order_lem, child_after, longer_after, front_shared, siblings}
use Rattle.names.proofs.PathLaws.{by-root, path_starts, path_splits, slashless, stem-root, stem-other, child_leaf}
use Rattle.tree.specs.Maps.{find}
use Rattle.tree.specs.Places.{Bytes, Place, node_at, order}
use Rattle.tree.specs.Trees.{Tree, Sound, look}
use Rattle.tree.proofs.Maps.{some-none, some_one}
use Rattle.store.specs.Calls.{later, least_after, child_on, names}
use Rattle.walk.specs.Walks.{beyond, first_path}
use Rattle.walk.proofs.Ancestors.{front-between, before-slash, slash-split, some_byte}
use Rattle.walk.proofs.Behind.{is-less, less-is, up-beyond, behind-find, behind-same, behind-none, Head, head_of}
use Rattle.walk.proofs.Least.{least-in, least-least, Ahead, names_in, names-out, child-on, on-child}
use Rattle.walk.proofs.Marks.{mark, key, end_of, Asked, mark-plain, mark-none, key-child, end-key}
use Rattle.walk.proofs.Orders.{AtMost, less_greater, equal_less, never_less, most-not-less, root-most}

pub equal_greater : Equal ≡ Greater → ⊥
equal_greater e = true≢false (ap is_eq e)

-- the empty text and the root are not behind what begins with a slash
root-front : (rest : Bytes) → AtMost root (47 ∷ rest)
root-front [] = inl refl
root-front (b ∷ rest) = inr (longer_after root b rest)

key-front : (r w : Bytes) → path_text r ≡ true → (rest : Bytes) × (child r w ≡ 47 ∷ rest)
key-front r w h =
    ⊎_elim
    (λ e. (w, ap (λ x. x ++ (47 ∷ w)) (ap stem e ∙ stem-root)))
    (λ n. let p = path_starts r h in (p.0 ++ (47 ∷ w), ap (λ x. x ++ (47 ∷ w)) (n.1 ∙ p.1)))
    (by-root r)

stem-one : (p q : Bytes) → path_text p ≡ true → path_text q ≡ true → stem p ≡ stem q → p ≡ q
stem-one p q h k e =
    ⊎_elim
    (λ a.
    ⊎_elim
    (λ b. a ∙ sym b)
    (λ b. let z = some_byte q k in let y = ap length (sym b.1 ∙ sym e ∙ ap stem a ∙ stem-root) in absurd (omega arith))
    (by-root q))
    (λ a.
    ⊎_elim
    (λ b. let z = some_byte p h in let y = ap length (sym a.1 ∙ e ∙ ap stem b ∙ stem-root) in absurd (omega arith))
    (λ b. sym a.1 ∙ e ∙ b.1)
    (by-root q))
    (by-root p)

-- a part without a slash that is nothing or goes on with a slash is nothing
further-plain : (x s : Bytes) → plain (x ++ s) ≡ true → further s ≡ true → s ≡ []
further-plain [] [] h f = refl
further-plain [] (b ∷ s) h f = absurd (true≢false (sym f ∙ (slashless b s h).0))
further-plain (a ∷ x) s h f = further-plain x s (slashless a (x ++ s) h).1 f

-- what is below a zero byte begins with a slash, unless it is empty
slash-first : (b : ℕ) (s : Bytes) → path_order (b ∷ s) (0 ∷ []) ≡ Less → b ≡ 47
slash-first b s l =
    ⊎_elim
    (λ t. eqb-true b 47 t)
    (λ f.
    absurd (⊎_elim
    (λ e. tail s (sym l ∙ ap (λ z. ordering_then z (path_order s [])) (Rattle.names.proofs.Orders.level (rank b) 1 e)))
    (⊎_elim
    (λ h. let k : rank b ≡ b + 1 = ap (λ z. cond z 0 (b + 1)) f in omega arith)
    (λ h. less_greater (sym l ∙ ap (λ z. ordering_then z (path_order s [])) (above (rank b) 1 h))))
    (cases_order (rank b) 1)))
    (cases_Bool (eqb b 47))
  where
    tail : (s : Bytes) → Less ≡ path_order s [] → ⊥
    tail [] e = equal_less (sym e)
    tail (x ∷ s) e = less_greater e

-- nothing is below a slash alone but the empty text
below-slash : (s : Bytes) → path_order s (47 ∷ []) ≡ Less → s ≡ []
below-slash [] l = refl
below-slash (b ∷ s) l =
    ⊎_elim
    (λ e. absurd (tail s (sym l ∙ ap (λ z. ordering_then z (path_order s [])) (Rattle.names.proofs.Orders.level (rank b) 0 e))))
    (⊎_elim (λ h. absurd (omega arith)) (λ h. absurd (less_greater (sym l ∙ ap (λ z. ordering_then z (path_order s [])) (above (rank b) 0 h)))))
    (cases_order (rank b) 0)
  where
    tail : (s : Bytes) → Less ≡ path_order s [] → ⊥
    tail [] e = equal_less (sym e)
    tail (x ∷ s) e = less_greater e

module _ (t : Tree) (s : Sound t) where
  text_of : (q : Bytes) → look t (node_at q) ≡ Some [] → path_text q ≡ true
  text_of q h = s.named (node_at q) [] h

  module _ (r a : Bytes) (here : look t (node_at r) ≡ Some []) (asked : Asked a) where
    path : path_text r ≡ true
    path = text_of r here

    not_root : (q : Bytes) → path_order (key r a) q ≡ Less → q ≡ root → ⊥
    not_root q l e =
        let f = key-front r (mark a) path in
        most-not-less root (key r a) (subst (AtMost root) (sym f.1) (root-front f.0)) (ap (path_order (key r a)) (sym e) ∙ l)

    -- the next node, where it is below r, is a child of r
    below-is-child : (h : Head t s (key r a)) (y : Bytes) → h.at ≡ stem r ++ (47 ∷ y) → parent h.at ≡ r
    below-is-child h y e =
        let q = h.at in
        let w = path_splits q (text_of q h.there) (not_root q h.later) in
        let n = node_names (leaf q) w.2 in
        let z = parent q in
        let up = s.hangs (node_at q) [] h.there in
        let zq : path_order z q ≡ Less = ap (path_order z) (sym w.0) ∙ child_after z (leaf q) n.1 in
        let ahead : path_order (key r a) z ≡ Less → ⊥ = λ l. most-not-less q z (h.first z up l) zq in
        let c = slash-split (stem r) (stem z) y (leaf q) (sym e ∙ sym w.0) n.0 in
        go c.0 c.1 c.2 w ahead
      where
        go : (x : Bytes) → stem (parent h.at) ≡ stem r ++ x → further x ≡ true → (child (parent h.at) (leaf h.at) ≡ h.at) × (path_text (parent h.at) ≡ true) × (node_name (leaf h.at) ≡ true) → (path_order (key r a) (parent h.at) ≡ Less → ⊥) → parent h.at ≡ r
        go [] e f w ahead = stem-one (parent h.at) r w.1 path (e ∙ append-nil (stem r))
        go (b ∷ y) e f w ahead =
            let q = h.at in
            let z = parent q in
            let u : Bytes = key r a in
            let e2 : stem z ≡ child r y = e ∙ ap (λ v. stem r ++ (v ∷ y)) (eqb-true b 47 f) in
            let other : z ≡ root → ⊥ = λ k. let fr = key-front r y path in let x = ap length (sym (ap stem k ∙ stem-root) ∙ e2 ∙ fr.1) in absurd (omega arith) in
            let own : stem z ≡ z = stem-other z other in
            let lq : path_order u (z ++ (47 ∷ leaf q)) ≡ Less = ap (path_order u) (ap (λ v. v ++ (47 ∷ leaf q)) (sym own) ∙ w.0) ∙ h.later in
            let fb = front-between z u (47 ∷ leaf q) ahead lq in
            let fs : further fb.0 ≡ true = before-slash fb.0 (leaf q) (sym (front_shared z fb.0 (47 ∷ leaf q)) ∙ ap (λ v. path_order v (z ++ (47 ∷ leaf q))) (sym fb.1) ∙ lq) in
            let both : stem r ++ (47 ∷ mark a) ≡ stem r ++ (47 ∷ (y ++ fb.0)) = fb.1 ∙ ap (λ v. v ++ fb.0) (sym own ∙ e2) ∙ append_assoc (stem r) (47 ∷ y) fb.0 in
            let cons : 47 ∷ mark a ≡ 47 ∷ (y ++ fb.0) = append_cancel_left (stem r) (47 ∷ mark a) (47 ∷ (y ++ fb.0)) both in
            let ma : mark a ≡ y ++ fb.0 = cc in
            let none : fb.0 ≡ [] = further-plain y fb.0 (ap plain (sym ma) ∙ mark-plain a asked) fs in
            let my : mark a ≡ y = ma ∙ ap (λ v. y ++ v) none ∙ append-nil y in
            let zu : z ≡ child r (mark a) = sym own ∙ e2 ∙ ap (child r) (sym my) in
            let lz : leaf z ≡ mark a = ap leaf zu ∙ child_leaf r (mark a) (mark-plain a asked) in
            let nz = (path_splits z w.1 other).2 in
            absurd (mark-none a (ap node_name (sym lz) ∙ nz))

    -- such a child has a name behind a, so that the question finds it or an earlier one
    child-found : (h : Head t s (key r a)) → parent h.at ≡ r → (child r (leaf h.at) ≡ h.at) × ((m : Bytes) × (least_after a (names (child_on r) t.places) ≡ Some m) × Ahead m (leaf h.at))
    unfolding look
    child-found h e =
        let q = h.at in
        let top = not_root q h.later in
        let w = path_splits q (text_of q h.there) top in
        let c : child r (leaf q) ≡ q = ap (λ v. child v (leaf q)) (sym e) ∙ w.0 in
        let l : later a (leaf q) ≡ true = sym (key-child r a (leaf q) asked w.2) ∙ less-is (path_order (key r a) (child r (leaf q))) (ap (path_order (key r a)) c ∙ h.later) in
        let i = names_in (child_on r) t.places (node_at q) [] (leaf q) h.there (child-on r q top e) in
        (c, least-least a (leaf q) (names (child_on r) t.places) i l)

    pub record Found (m : Bytes) : Type 0 where
      pub good : node_name m ≡ true
      pub there : look t (node_at (child r m)) ≡ Some []
      pub first : first_path (beyond (key r a) t.places) ≡ Some (child r m)

    child_of : (m : Bytes) → least_after a (names (child_on r) t.places) ≡ Some m → (node_name m ≡ true) × (look t (node_at (child r m)) ≡ Some []) × (later a m ≡ true)
    unfolding look
    child_of m e =
        let i = least-in a m (names (child_on r) t.places) e in
        let o = names-out (child_on r) t.places m s.rises i.0 in
        let k = on-child r m o.0 o.3 in
        let c = o.0.0 in
        let held : find order t.places (node_at c) ≡ Some o.1 = subst (λ v. find order t.places v ≡ Some o.1) k.0 o.2 in
        let bare = s.bare c o.1 held in
        let w = path_splits c (s.named (node_at c) o.1 held) k.1 in
        let is : c ≡ child r m = sym w.0 ∙ (λ j. child (k.2 j) (k.3 j)) in
        (ap node_name (sym k.3) ∙ w.2, subst (λ v. find order t.places (node_at v) ≡ Some []) is (held ∙ ap Some bare), i.1)

    pub on_some : (m : Bytes) → least_after a (names (child_on r) t.places) ≡ Some m → Found m
    unfolding look find
    on_some m e =
        let k = child_of m e in
        let c : Bytes = child r m in
        let u : Bytes = key r a in
        let uc : path_order u c ≡ Less = is-less (path_order u c) (key-child r a m asked k.0 ∙ k.2) in
        record {
          good = k.0;
          there = k.1;
          first = ⊎_elim
              (λ none. absurd (some-none [] (sym (behind-find (λ x. is_lt (path_order u x.0)) (up-beyond u) t.places (node_at c) [] (less-is (path_order u c) uc) k.1) ∙ ap (λ v. find order v (node_at c)) none)))
              (λ h. ap first_path h.is ∙ ap Some (⊎_elim (λ x. x) (λ x. absurd (before h x)) (h.first c k.1 uc)))
              (head_of t s u);
        }
      where
        before : (h : Head t s (key r a)) → path_order h.at (child r m) ≡ Less → ⊥
        before h x =
            let q = h.at in
            let k = child_of m e in
            let F : Bytes = stem r ++ (47 ∷ []) in
            let fu : AtMost F (key r a) = subst (AtMost F) (append_assoc (stem r) (47 ∷ []) (mark a)) (front_most F (mark a)) in
            let nf : path_order q F ≡ Less → ⊥ = λ l. never_less q (path_order_lem.trans q (key r a) q (⊎_elim (λ z. ap (path_order q) (sym z) ∙ l) (λ z. path_order_lem.trans q F (key r a) l z) fu) h.later) in
            let y = front-between F q m nf (ap (path_order q) (append_assoc (stem r) (47 ∷ []) m) ∙ x) in
            let p = below-is-child h y.0 (y.1 ∙ append_assoc (stem r) (47 ∷ []) y.0) in
            let f = child-found h p in
            let same : f.1.0 ≡ m = some_one (sym f.1.1 ∙ e) in
            ⊎_elim
            (λ z. never_less q (subst (λ v. path_order q v ≡ Less) (ap (child r) (sym same ∙ z) ∙ f.0) x))
            (λ z.
            let n = node_names (leaf q) (path_splits q (text_of q h.there) (not_root q h.later)).2 in
            let cq : path_order (child r m) (child r (leaf q)) ≡ Less = siblings r m (leaf q) (node_names m k.0).0 n.0 ∙ is-less (name_order m (leaf q)) (ap (λ v. later v (leaf q)) (sym same) ∙ z) in
            never_less q (path_order_lem.trans q (child r m) q x (ap (path_order (child r m)) (sym f.0) ∙ cq)))
            f.1.2
          where
            front_most : (x y : Bytes) → AtMost x (x ++ y)
            front_most x [] = inl (sym (append-nil x))
            front_most x (b ∷ y) = inr (longer_after x b y)

    key_end : path_order (key r a) (end_of r) ≡ Less
    key_end = front_shared (stem r) (47 ∷ mark a) (0 ∷ [])

    past_end : (k : Place) → is_lt (path_order (end_of r) k.0) ≡ true → is_lt (path_order (key r a) k.0) ≡ true
    past_end k h = less-is (path_order (key r a) k.0) (path_order_lem.trans (key r a) (end_of r) k.0 key_end (is-less (path_order (end_of r) k.0) h))

    -- no path is the end of a node
    not_end : (q : Bytes) → look t (node_at q) ≡ Some [] → (q ≡ root → ⊥) → q ≡ end_of r → ⊥
    not_end q th top e =
        ⊎_elim
        (λ z. let p = path_starts q (text_of q th) in let y : 47 ∷ p.0 ≡ 0 ∷ [] = sym p.1 ∙ e ∙ ap (λ v. v ++ (0 ∷ [])) (ap stem z ∙ stem-root) in let x : ◌≡◌ {A = ℕ} 47 0 = cc in omega arith)
        (λ z.
        let w = path_splits r path z.0 in
        let g : leaf q ≡ mark (leaf r) = ap leaf (e ∙ end-key r path z.0) ∙ child_leaf (parent r) (mark (leaf r)) (mark-plain (leaf r) (inr w.2)) in
        mark-none (leaf r) (ap node_name (sym g) ∙ (path_splits q (text_of q th) top).2))
        (by-root r)

    pub on_none : least_after a (names (child_on r) t.places) ≡ None → beyond (key r a) t.places ≡ beyond (end_of r) t.places
    on_none e =
        ⊎_elim
        (λ none. sym (behind-none (λ k. is_lt (path_order (key r a) k.0)) (λ k. is_lt (path_order (end_of r) k.0)) past_end t.places none))
        (λ h. sym (behind-same (λ k. is_lt (path_order (key r a) k.0)) (λ k. is_lt (path_order (end_of r) k.0)) past_end t.places (node_at h.at, []) h.rest h.is (less-is (path_order (end_of r) h.at) (go h (path_order (end_of r) h.at) refl))))
        (head_of t s (key r a))
      where
        -- the next node is not below r
        apart : (h : Head t s (key r a)) (y : Bytes) → h.at ≡ stem r ++ (47 ∷ y) → ⊥
        apart h y x = let f = child-found h (below-is-child h y x) in some-none f.1.0 (sym f.1.1 ∙ e)

        cut : (h : Head t s (key r a)) (x : Bytes) → h.at ≡ stem r ++ x → path_order h.at (end_of r) ≡ Less → ⊥
        cut h [] x l =
            let k : path_order (key r a) (stem r ++ []) ≡ Less = ap (path_order (key r a)) (sym x) ∙ h.later in
            less_greater (sym k ∙ front_shared (stem r) (47 ∷ mark a) [])
        cut h (b ∷ y) x l =
            let k : path_order (b ∷ y) (0 ∷ []) ≡ Less = sym (front_shared (stem r) (b ∷ y) (0 ∷ [])) ∙ ap (λ v. path_order v (end_of r)) (sym x) ∙ l in
            apart h y (x ∙ ap (λ v. stem r ++ (v ∷ y)) (slash-first b y k))

        go : (h : Head t s (key r a)) (o : Ordering) → path_order (end_of r) h.at ≡ o → path_order (end_of r) h.at ≡ Less
        go h Less p = p
        go h Equal p = absurd (not_end h.at h.there (not_root h.at h.later) (sym (path_order_lem.exact (end_of r) h.at p)))
        go h Greater p =
            let l : path_order h.at (end_of r) ≡ Less = path_order_lem.flip h.at (end_of r) ∙ ap ordering_reverse p in
            let ns : path_order h.at (stem r) ≡ Less → ⊥ = λ z. never_less h.at (path_order_lem.trans h.at (stem r) h.at z (path_order_lem.trans (stem r) (key r a) h.at (longer_after (stem r) 47 (mark a)) h.later)) in
            let f = front-between (stem r) h.at (0 ∷ []) ns l in
            absurd (cut h f.0 f.1 l)

  -- a walk from a node begins before its children
  pub on_start : (r : Bytes) → look t (node_at r) ≡ Some [] → beyond r t.places ≡ beyond (key r []) t.places
  on_start r here =
      ⊎_elim
      (λ e. ap (λ v. beyond v t.places) (e ∙ sym (ap (λ v. child v []) e ∙ ap (λ v. v ++ (47 ∷ [])) stem-root)))
      (λ n.
      let own : key r [] ≡ r ++ (47 ∷ []) = ap (λ v. v ++ (47 ∷ [])) n.1 in
      let rk : path_order r (key r []) ≡ Less = ap (path_order r) own ∙ longer_after r 47 [] in
      let past : (k : Place) → is_lt (path_order (key r []) k.0) ≡ true → is_lt (path_order r k.0) ≡ true = λ k h. less-is (path_order r k.0) (path_order_lem.trans r (key r []) k.0 rk (is-less (path_order (key r []) k.0) h)) in
      ⊎_elim
      (λ none. sym (behind-none (λ k. is_lt (path_order r k.0)) (λ k. is_lt (path_order (key r []) k.0)) past t.places none))
      (λ h. sym (behind-same (λ k. is_lt (path_order r k.0)) (λ k. is_lt (path_order (key r []) k.0)) past t.places (node_at h.at, []) h.rest h.is (less-is (path_order (key r []) h.at) (go n.1 h (path_order (key r []) h.at) refl))))
      (head_of t s r))
      (by-root r)
    where
      go : stem r ≡ r → (h : Head t s r) (o : Ordering) → path_order (key r []) h.at ≡ o → path_order (key r []) h.at ≡ Less
      go st h Less p = p
      go st h Equal p =
          let q = h.at in
          let e : q ≡ child r [] = sym (path_order_lem.exact (key r []) q p) in
          let top : q ≡ root → ⊥ = λ z. most-not-less root r (root-most r (text_of r here)) (ap (path_order r) (sym z) ∙ h.later) in
          absurd (mark-none [] (ap node_name (sym (ap leaf e ∙ child_leaf r [] refl)) ∙ (path_splits q (text_of q h.there) top).2))
      go st h Greater p =
          let q = h.at in
          let l : path_order q (r ++ (47 ∷ [])) ≡ Less = ap (path_order q) (ap (λ v. v ++ (47 ∷ [])) (sym st)) ∙ path_order_lem.flip q (key r []) ∙ ap ordering_reverse p in
          let f = front-between r q (47 ∷ []) (λ z. never_less r (path_order_lem.trans r q r h.later z)) l in
          let b = below-slash f.0 (sym (front_shared r f.0 (47 ∷ [])) ∙ ap (λ v. path_order v (r ++ (47 ∷ []))) (sym f.1) ∙ l) in
          absurd (never_less r (ap (path_order r) (sym (f.1 ∙ ap (λ v. r ++ v) b ∙ append-nil r)) ∙ h.later))

  -- nothing is behind the root and all below it
  pub on_top : beyond (end_of root) t.places ≡ []
  on_top =
      ⊎_elim
      (λ e. e)
      (λ h.
      let p = path_starts h.at (text_of h.at h.there) in
      let l : path_order (0 ∷ []) (47 ∷ p.0) ≡ Less = (λ i. path_order (ap (λ v. v ++ (0 ∷ [])) (sym stem-root) i) (sym p.1 i)) ∙ h.later in
      absurd (less_greater (sym l)))
      (head_of t s (end_of root))

  -- the empty path starts at the root
  pub on_empty : first_path (beyond [] t.places) ≡ Some root
  unfolding look find
  on_empty =
      ⊎_elim
      (λ none. absurd (some-none [] (sym (behind-find (λ x. is_lt (path_order [] x.0)) (up-beyond []) t.places (node_at root) [] refl s.root) ∙ ap (λ v. find order v (node_at root)) none)))
      (λ h. ap first_path h.is ∙ ap Some (⊎_elim (λ x. x) (λ x. absurd (most-not-less root h.at (root-most h.at (text_of h.at h.there)) x)) (h.first root s.root refl)))
      (head_of t s [])
