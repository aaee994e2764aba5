-- Ends of a list of places. Assumes nothing.
use Rattle.std.proofs.Common.{◌≡◌, ℕ, Bool, true, false, ◌⊎◌, [], ◌∷◌, Some, None, Ordering, Less, Equal, Greater, sym, refl, ap, ◌∙◌, subst, inl, inr, ⊎_elim, true≢false, arith}
use Rattle.std.specs.Ordering.{is_lt}
use Rattle.std.proofs.lemmas.Bool.{cases_Bool, cond-true, cond-false}
use Rattle.names.specs.Orders.{path_order}
use Rattle.names.proofs.Orders.{path_order_lem}
use Rattle.tree.specs.Maps.{find, Rises}
use Rattle.tree.specs.Places.{Bytes, Place, node_at, property_at, order}
use Rattle.tree.specs.Trees.{Places, Tree, Sound, look}
use Rattle.tree.proofs.Maps.{some-none, find-below, find-tail, head-found}
use Rattle.tree.proofs.Places.{place-order}
use Rattle.walk.specs.Walks.{behind, beyond}
use Rattle.walk.proofs.Orders.{AtMost, less-paths, node-less, own-property}
use Rattle.walk.proofs.Runs.{found_in}

pub is-less : (r : Ordering) → is_lt r ≡ true → r ≡ Less
is-less Less e = refl
is-less Equal e = absurd (true≢false (sym e))
is-less Greater e = absurd (true≢false (sym e))

pub less-is : (r : Ordering) → r ≡ Less → is_lt r ≡ true
less-is r e = ap is_lt e

pub not-less : (r : Ordering) → (r ≡ Less → ⊥) → is_lt r ≡ false
not-less r n = ⊎_elim (λ t. absurd (n (is-less r t))) (λ f. f) (cases_Bool (is_lt r))

-- what is behind a place that passes, passes
abbrev pub Up : (Place → Bool) → Type 0
Up f = (k l : Place) → f k ≡ true → order k l ≡ Less → f l ≡ true

pub up-beyond : (p : Bytes) → Up (λ k. is_lt (path_order p k.0))
up-beyond p k l h o =
    let a = is-less (path_order p k.0) h in
    less-is (path_order p l.0) (⊎_elim (λ b. path_order_lem.trans p k.0 l.0 a b) (λ b. ap (path_order p) (sym b.0) ∙ a) (less-paths k.0 l.0 k.1 l.1 o))

pub up-after : (p : Place) → Up (λ k. is_lt (order p k))
up-after p k l h o = less-is (order p l) (place-order.trans p k l (is-less (order p k) h) o)

module _ (f : Place → Bool) where
  pub behind-here : (e : Place × Bytes) (es : Places) → f e.0 ≡ true → behind f (e ∷ es) ≡ e ∷ es
  unfolding behind
  behind-here e es h = cond-true (f e.0) (e ∷ es) (behind f es) h

  pub behind-past : (e : Place × Bytes) (es : Places) → f e.0 ≡ false → behind f (e ∷ es) ≡ behind f es
  unfolding behind
  behind-past e es h = cond-false (f e.0) (e ∷ es) (behind f es) h

  pub behind-rises : (es : Places) → Rises order es → Rises order (behind f es)
  unfolding behind
  behind-rises [] r = tt
  behind-rises (e ∷ es) r =
      ⊎_elim
      (λ h. subst (Rises order) (sym (behind-here e es h)) r)
      (λ h. subst (Rises order) (sym (behind-past e es h)) (behind-rises es r.1))
      (cases_Bool (f e.0))

  -- what it has is of the list
  pub behind-held : (es : Places) (k : Place) (v : Bytes) → Rises order es → find order (behind f es) k ≡ Some v → find order es k ≡ Some v
  unfolding behind
  behind-held [] k v r h = h
  behind-held (e ∷ es) k v r h =
      ⊎_elim
      (λ t. subst (λ x. find order x k ≡ Some v) (behind-here e es t) h)
      (λ t. find-tail place-order e es k v r (behind-held es k v r.1 (subst (λ x. find order x k ≡ Some v) (behind-past e es t) h)))
      (cases_Bool (f e.0))

  -- what passes is in it
  pub behind-find : Up f → (es : Places) (k : Place) (v : Bytes) → f k ≡ true → find order es k ≡ Some v → find order (behind f es) k ≡ Some v
  unfolding behind
  behind-find u [] k v g h = h
  behind-find u (e ∷ es) k v g h =
      ⊎_elim
      (λ t. subst (λ x. find order x k ≡ Some v) (sym (behind-here e es t)) h)
      (λ t.
      subst (λ x. find order x k ≡ Some v) (sym (behind-past e es t))
      (⊎_elim
      (λ x. absurd (true≢false (sym g ∙ ap f x.0 ∙ t)))
      (λ x. behind-find u es k v g x.1)
      (found_in k v e es h)))
      (cases_Bool (f e.0))

  pub behind-first : (es : Places) (e : Place × Bytes) (ds : Places) → behind f es ≡ e ∷ ds → f e.0 ≡ true
  unfolding behind
  behind-first [] e ds h = let z : ◌≡◌ {A = ℕ} 0 1 = cc in absurd (omega arith)
  behind-first (d ∷ es) e ds h =
      ⊎_elim
      (λ t. let x : d ∷ es ≡ e ∷ ds = sym (behind-here d es t) ∙ h in let y : d ≡ e = cc in ap (λ z. f z.0) (sym y) ∙ t)
      (λ t. behind-first es e ds (sym (behind-past d es t) ∙ h))
      (cases_Bool (f d.0))

-- what passes the narrower test is found in what passes the wider
pub behind-behind : (f g : Place → Bool) → ((k : Place) → g k ≡ true → f k ≡ true) → (es : Places) → behind g (behind f es) ≡ behind g es
unfolding behind
behind-behind f g n [] = refl
behind-behind f g n (e ∷ es) =
    ⊎_elim
    (λ t. ap (behind g) (behind-here f e es t))
    (λ t.
    let k : g e.0 ≡ false = ⊎_elim (λ x. absurd (true≢false (sym (n e.0 x) ∙ t))) (λ x. x) (cases_Bool (g e.0)) in
    ap (behind g) (behind-past f e es t) ∙ behind-behind f g n es ∙ sym (behind-past g e es k))
    (cases_Bool (f e.0))

-- the two are one where the first of the wider passes the narrower
pub behind-same : (f g : Place → Bool) → ((k : Place) → g k ≡ true → f k ≡ true) → (es : Places) (e : Place × Bytes) (ds : Places) → behind f es ≡ e ∷ ds → g e.0 ≡ true → behind g es ≡ behind f es
behind-same f g n es e ds h x =
    sym (behind-behind f g n es) ∙ ap (behind g) h ∙ behind-here g e ds x ∙ sym h

pub behind-none : (f g : Place → Bool) → ((k : Place) → g k ≡ true → f k ≡ true) → (es : Places) → behind f es ≡ [] → behind g es ≡ behind f es
unfolding behind
behind-none f g n es h = sym (behind-behind f g n es) ∙ ap (behind g) h ∙ sym h

module _ (t : Tree) (s : Sound t) where
  -- the first node behind a path
  pub record Head (u : Bytes) : Type 0 where
    pub at : Bytes
    pub rest : Places
    pub is : beyond u t.places ≡ (node_at at, []) ∷ rest
    pub later : path_order u at ≡ Less
    pub there : look t (node_at at) ≡ Some []
    pub first : (x : Bytes) → look t (node_at x) ≡ Some [] → path_order u x ≡ Less → AtMost at x

  head_from : (u : Bytes) (e : Place × Bytes) (ds : Places) → beyond u t.places ≡ e ∷ ds → Head u
  unfolding look
  head_from u ((q, None), v) ds is =
      let held : find order t.places (node_at q) ≡ Some v = behind-held (λ k. is_lt (path_order u k.0)) t.places (node_at q) v s.rises (ap (λ x. find order x (node_at q)) is ∙ head-found place-order (node_at q, v) ds) in
      let bare : v ≡ [] = s.bare q v held in
      record {
        at = q;
        rest = ds;
        is = is ∙ ap (λ x. (node_at q, x) ∷ ds) bare;
        later = is-less (path_order u q) (behind-first (λ k. is_lt (path_order u k.0)) t.places (node_at q, v) ds is);
        there = held ∙ ap Some bare;
        first = λ x h l.
            let f = behind-find (λ k. is_lt (path_order u k.0)) (up-beyond u) t.places (node_at x) [] (less-is (path_order u x) l) h in
            ⊎_elim (λ y. inl (sym (ap (λ z. z.0) y.0))) (λ y. inr (node-less q x y.0)) (found_in (node_at x) [] (node_at q, v) ds (ap (λ z. find order z (node_at x)) (sym is) ∙ f));
      }
  head_from u ((q, Some n), v) ds is =
      let held : find order t.places (property_at q n) ≡ Some v = behind-held (λ k. is_lt (path_order u k.0)) t.places (property_at q n) v s.rises (ap (λ x. find order x (property_at q n)) is ∙ head-found place-order (property_at q n, v) ds) in
      let l = behind-first (λ k. is_lt (path_order u k.0)) t.places (property_at q n, v) ds is in
      let f = behind-find (λ k. is_lt (path_order u k.0)) (up-beyond u) t.places (node_at q) [] l (s.hangs (property_at q n) v held) in
      absurd (some-none [] (sym f ∙ ap (λ z. find order z (node_at q)) is ∙ find-below place-order (node_at q) ((property_at q n, v) ∷ ds) (own-property q n)))

  pub head_of : (u : Bytes) → (beyond u t.places ≡ []) ⊎ Head u
  head_of u = go (beyond u t.places) refl
    where
      go : (es : Places) → beyond u t.places ≡ es → (beyond u t.places ≡ []) ⊎ Head u
      go [] e = inl e
      go (d ∷ ds) e = inr (head_from u d ds e)
