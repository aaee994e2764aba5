-- The laws of finite maps, by look-up: same key, other key, order kept, equal look-ups are one list, sums. Assumes nothing.
use Rattle.std.proofs.Common.{◌≡◌, ℕ, ◌+◌, List, [], ◌∷◌, is_some, Some, None, Option, Ordering, Less, Equal, Greater, sym, refl, ap, ◌∙◌, subst, true≢false, arith}
use Rattle.std.specs.Ordering.{match_ordering as by_order, ordering_reverse, is_lt, is_gt}
use Rattle.tree.specs.Maps.{Ordered, entry, find, upd, Below, Rises, worth, total}

fixed : (r : Ordering) → r ≡ ordering_reverse r → r ≡ Equal
fixed Less e = absurd (true≢false (ap is_lt e))
fixed Equal e = refl
fixed Greater e = absurd (true≢false (ap is_gt e))

pub same : {K : Type 0} {c : K → K → Ordering} (o : Ordered c) (x : K) → c x x ≡ Equal
same {c} o x = fixed (c x x) (o.flip x x)

pub some-none : {X : Type 0} (v : X) → Some v ≡ None → ⊥
some-none v e = true≢false (ap is_some e)

pub some_one : {X : Type 0} {v w : X} → Some v ≡ Some w → v ≡ w
some_one e = cc

module _ {K X : Type 0} {c : K → K → Ordering} (o : Ordered c) where
  pub find-below : (q : K) (es : List (K × X)) → Below c q es → find c es q ≡ None
  unfolding find
  find-below q [] b = refl
  find-below q (e ∷ es) b = rw b

  find-entry : (k : K) (w : Option X) (es : List (K × X)) → Below c k es → find c (entry k w es) k ≡ w
  unfolding find
  find-entry k None es b = find-below k es b
  find-entry k (Some v) es b = rw (same o)

  pub find-same : (es : List (K × X)) (k : K) (w : Option X) → Rises c es → find c (upd c es k w) k ≡ w
  unfolding find upd
  find-same [] k w s = find-entry k w [] tt
  find-same (e ∷ es) k w s = go (c k e.0) refl (find-same es k w s.1)
    where
      go : (r : Ordering) → c k e.0 ≡ r → find c (upd c es k w) k ≡ w
          → find c (by_order r (entry k w (e ∷ es)) (entry k w es) (e ∷ upd c es k w)) k ≡ w
      go Less p ih = find-entry k w (e ∷ es) p
      go Equal p ih = find-entry k w es (subst (λ z. Below c z es) (sym (o.exact k e.0 p)) s.0)
      go Greater p ih = rw p ih

  below-below : (q k : K) (es : List (K × X)) → c q k ≡ Less → Below c k es → Below c q es
  below-below q k [] l b = tt
  below-below q k (e ∷ es) l b = o.trans q k e.0 l b

  beside : (k q : K) (w : Option X) (es : List (K × X)) → (q ≡ k → ⊥) → (c q k ≡ Less → find c es q ≡ None) → find c (entry k w es) q ≡ find c es q
  unfolding find
  beside k q None es n h = refl
  beside k q (Some v) es n h = go (c q k) refl
    where
      go : (r : Ordering) → c q k ≡ r → find c ((k, v) ∷ es) q ≡ find c es q
      go Less p = rw p (sym (h p))
      go Equal p = absurd (n (o.exact q k p))
      go Greater p = rw p

  -- what is elsewhere stays
  pub find-other : (es : List (K × X)) (k q : K) (w : Option X) → Rises c es → (q ≡ k → ⊥) → find c (upd c es k w) q ≡ find c es q
  unfolding find upd
  find-other [] k q w s n = beside k q w [] n (λ l. refl)
  find-other (e ∷ es) k q w s n = go (c k e.0) refl (find-other es k q w s.1 n)
    where
      go : (r : Ordering) → c k e.0 ≡ r → find c (upd c es k w) q ≡ find c es q
          → find c (by_order r (entry k w (e ∷ es)) (entry k w es) (e ∷ upd c es k w)) q ≡ find c (e ∷ es) q
      go Less p ih = beside k q w (e ∷ es) n (λ l. find-below q (e ∷ es) (o.trans q k e.0 l p))
      go Equal p ih =
          let t : k ≡ e.0 = o.exact k e.0 p in
          beside k q w es n (λ l. find-below q es (below-below q e.0 es (rw t at l) s.0))
          ∙ sym (beside e.0 q (Some e.1) es (λ z. n (z ∙ sym t)) (λ l. find-below q es (below-below q e.0 es l s.0)))
      go Greater p ih = ap (λ z. by_order (c q e.0) None (Some e.1) z) ih

  below-entry : (z k : K) (w : Option X) (es : List (K × X)) → c z k ≡ Less → Below c z es → Below c z (entry k w es)
  below-entry z k None es l b = b
  below-entry z k (Some v) es l b = l

  rises-entry : (k : K) (w : Option X) (es : List (K × X)) → Below c k es → Rises c es → Rises c (entry k w es)
  rises-entry k None es b s = s
  rises-entry k (Some v) es b s = (b, s)

  below-upd : (z k : K) (w : Option X) (es : List (K × X)) → c z k ≡ Less → Below c z es → Rises c es → Below c z (upd c es k w)
  unfolding upd
  below-upd z k w [] l b s = below-entry z k w [] l tt
  below-upd z k w (e ∷ es) l b s = go (c k e.0) refl
    where
      go : (r : Ordering) → c k e.0 ≡ r → Below c z (by_order r (entry k w (e ∷ es)) (entry k w es) (e ∷ upd c es k w))
      go Less p = below-entry z k w (e ∷ es) l b
      go Equal p = below-entry z k w es l (below-below z e.0 es b s.0)
      go Greater p = b

  pub rises-upd : (es : List (K × X)) (k : K) (w : Option X) → Rises c es → Rises c (upd c es k w)
  unfolding upd
  rises-upd [] k w s = rises-entry k w [] tt tt
  rises-upd (e ∷ es) k w s = go (c k e.0) refl (rises-upd es k w s.1)
    where
      go : (r : Ordering) → c k e.0 ≡ r → Rises c (upd c es k w)
          → Rises c (by_order r (entry k w (e ∷ es)) (entry k w es) (e ∷ upd c es k w))
      go Less p ih = rises-entry k w (e ∷ es) p s
      go Equal p ih = rises-entry k w es (subst (λ z. Below c z es) (sym (o.exact k e.0 p)) s.0) s.1
      go Greater p ih = (below-upd e.0 k w es (o.flip e.0 k ∙ ap ordering_reverse p) s.0 s.1, ih)

  pub head-found : (e : K × X) (es : List (K × X)) → find c (e ∷ es) e.0 ≡ Some e.1
  unfolding find
  head-found e es = rw (same o)

  -- below a list nothing is found, and behind its head what the tail has
  module _ (e d : K × X) (es ds : List (K × X)) (s : Rises c (e ∷ es)) (t : Rises c (d ∷ ds)) (h : (q : K) → find c (e ∷ es) q ≡ find c (d ∷ ds) q) where
    by_heads : (r : Ordering) → c e.0 d.0 ≡ r → c e.0 d.0 ≡ Equal
    by_heads Less p = absurd (some-none e.1 (sym (head-found e es) ∙ h e.0 ∙ find-below e.0 (d ∷ ds) p))
    by_heads Equal p = p
    by_heads Greater p = absurd (some-none d.1 (sym (head-found d ds) ∙ sym (h d.0) ∙ find-below d.0 (e ∷ es) (o.flip d.0 e.0 ∙ ap ordering_reverse p)))

    keys : e.0 ≡ d.0
    keys = o.exact e.0 d.0 (by_heads (c e.0 d.0) refl)

    values : e.1 ≡ d.1
    values = some_one (sym (head-found e es) ∙ h e.0 ∙ ap (find c (d ∷ ds)) keys ∙ head-found d ds)

    -- a key at or below the head is in neither tail
    tails : (q : K) → find c es q ≡ find c ds q
    unfolding find
    tails q = go (c q e.0) refl
      where
        go : (r : Ordering) → c q e.0 ≡ r → find c es q ≡ find c ds q
        go Less p = find-below q es (below-below q e.0 es p s.0) ∙ sym (find-below q ds (below-below q d.0 ds (rw keys at p) t.0))
        go Equal p =
            let z : q ≡ e.0 = o.exact q e.0 p in
            ap (find c es) z ∙ find-below e.0 es s.0 ∙ sym (find-below d.0 ds t.0) ∙ ap (find c ds) (sym keys ∙ sym z)
        go Greater p =
            let g : c q d.0 ≡ Greater = rw keys at p in
            let hq : find c (e ∷ es) q ≡ find c (d ∷ ds) q = h q in
            rw (p, g) at hq

  pub find-tail : (e : K × X) (es : List (K × X)) (k : K) (v : X) → Rises c (e ∷ es) → find c es k ≡ Some v → find c (e ∷ es) k ≡ Some v
  unfolding find
  find-tail e es k v s h = go (c k e.0) refl
    where
      go : (r : Ordering) → c k e.0 ≡ r → find c (e ∷ es) k ≡ Some v
      go Less p = absurd (some-none v (sym h ∙ find-below k es (below-below k e.0 es p s.0)))
      go Equal p = absurd (some-none v (sym h ∙ find-below k es (subst (λ z. Below c z es) (sym (o.exact k e.0 p)) s.0)))
      go Greater p = rw p h

  -- two maps with the same finds are one list
  pub ext : (es ds : List (K × X)) → Rises c es → Rises c ds → ((q : K) → find c es q ≡ find c ds q) → es ≡ ds
  unfolding find
  ext [] [] s t h = refl
  ext [] (d ∷ ds) s t h = absurd (some-none d.1 (sym (head-found d ds) ∙ sym (h d.0)))
  ext (e ∷ es) [] s t h = absurd (some-none e.1 (sym (head-found e es) ∙ h e.0))
  ext (e ∷ es) (d ∷ ds) s t h =
      let ih = ext es ds s.1 t.1 (tails e d es ds s t h) in
      λ i. (keys e d es ds s t h i, values e d es ds s t h i) ∷ ih i

  total-entry : (f : K → X → ℕ) (k : K) (w : Option X) (es : List (K × X)) → total f (entry k w es) ≡ worth f k w + total f es
  unfolding total
  total-entry f k None es = omega arith
  total-entry f k (Some v) es = refl

  pub total-upd : (f : K → X → ℕ) (es : List (K × X)) (k : K) (w : Option X) → total f (upd c es k w) + worth f k (find c es k) ≡ total f es + worth f k w
  unfolding total upd find
  total-upd f [] k w = omega (arith, total-entry f k w [])
  total-upd f (e ∷ es) k w = go (c k e.0) refl (total-upd f es k w)
    where
      go : (r : Ordering) → c k e.0 ≡ r → total f (upd c es k w) + worth f k (find c es k) ≡ total f es + worth f k w
          → total f (by_order r (entry k w (e ∷ es)) (entry k w es) (e ∷ upd c es k w)) + worth f k (by_order r None (Some e.1) (find c es k)) ≡ total f (e ∷ es) + worth f k w
      go Less p ih = omega (arith, total-entry f k w (e ∷ es))
      go Equal p ih = omega (arith, total-entry f k w es, ap (λ z. f z e.1) (o.exact k e.0 p))
      go Greater p ih = omega (arith, ih)
