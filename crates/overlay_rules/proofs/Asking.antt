-- What a query answers and asks, at one tree and at two that agree where it asked. Assumes nothing.
use Rattle.std.proofs.Common.{◌≡◌, ℕ, List, [], ◌∷◌, ◌++◌, Some, None, Ok, Err, Option, Result, sym, refl, ap, ◌∙◌, subst, inl, inr, ⊎_elim, append_assoc, arith}
use Rattle.std.specs.List.{AllByRecursion}
use Rattle.tree.specs.Phandles.{holder}
use Rattle.tree.specs.Places.{Bytes, Place}
use Rattle.tree.specs.Trees.{Tree, look}
use Rattle.tree.proofs.Maps.{some-none}
use Rattle.overlay_rules.specs.Queries.{Query, done, refuse, ask, seek, ◌>>=◌, run, sought, asked, need, stop_at, for_each}
use Rattle.overlay_rules.specs.Overlays.{phandle_at}
use Rattle.overlay_rules.specs.Laws.{Rising, In, Unique, Fewer, SameAt}
use Rattle.overlay_rules.proofs.Lists.{all-at, all_left, all_right, in-cases, in_left, in_right}
use Rattle.overlay_rules.proofs.Looks.{holder-found, holder-some}

pub err_ok : {A B : Type 0} (b : B) (a : A) → Err b ≡ Ok a → ⊥
err_ok b a e = let z : ◌≡◌ {A = ℕ} 0 1 = cc in omega arith

pub ok_one : {A B : Type 0} {a b : A} → ◌≡◌ {A = Result A B} (Ok a) (Ok b) → a ≡ b
ok_one e = cc

-- both trees name the same holder, or both none
holder-same : (s t : Tree) (n : ℕ) → Rising s → Rising t → Fewer s t → Unique t → AllByRecursion (SameAt s t) (sought (holder t n)) → holder s n ≡ holder t n
holder-same s t n rs rt k u h = go (holder s n) (holder t n) refl refl h
  where
    go : (a b : Option Bytes) → holder s n ≡ a → holder t n ≡ b → AllByRecursion (SameAt s t) (sought b) → a ≡ b
    go None None f g h = refl
    go None (Some q) f g h =
        let x = holder-found t n q rt g in
        let same : SameAt s t (phandle_at q) = all-at (SameAt s t) (phandle_at q) (phandle_at q ∷ []) h (inl refl) in
        let z = holder-some s n q x.0 (same ∙ x.1) x.2 in
        absurd (some-none z.0 (sym z.1 ∙ f))
    go (Some p) None f g h =
        let x = holder-found s n p rs f in
        let z = holder-some t n p x.0 (k p x.0 x.1) x.2 in
        absurd (some-none z.0 (sym z.1 ∙ g))
    go (Some p) (Some q) f g h =
        let x = holder-found s n p rs f in
        let y = holder-found t n q rt g in
        ap Some (u p q x.0 y.0 (k p x.0 x.1) y.1 (x.2 ∙ sym y.2))

-- two trees that agree where a query asked answer alike
pub run-same : {A : Type 0} (s t : Tree) (m : Query A) → Rising s → Rising t → Fewer s t → Unique t → AllByRecursion (SameAt s t) (asked t m) → (run s m ≡ run t m) × (asked s m ≡ asked t m)
unfolding run asked
run-same s t (done a) rs rt k u h = (refl, refl)
run-same s t (refuse c p) rs rt k u h = (refl, refl)
run-same s t (ask q g) rs rt k u h =
    let ih = run-same s t (g (look t q)) rs rt k u h.1 in
    (ap (λ w. run s (g w)) h.0 ∙ ih.0, ap (λ w. q ∷ asked s (g w)) h.0 ∙ ap (λ z. q ∷ z) ih.1)
run-same s t (seek n g) rs rt k u h =
    let w = holder-same s t n rs rt k u (all_left (SameAt s t) (sought (holder t n)) (asked t (g (holder t n))) h) in
    let ih = run-same s t (g (holder t n)) rs rt k u (all_right (SameAt s t) (sought (holder t n)) (asked t (g (holder t n))) h) in
    (ap (λ z. run s (g z)) w ∙ ih.0, ap (λ z. sought z ++ asked s (g z)) w ∙ ap (λ z. sought (holder t n) ++ z) ih.1)

-- ---- an answer of two steps splits in two, and so does what it asks

pub run_bind : {A B : Type 0} (t : Tree) (m : Query A) (f : A → Query B) (b : B) → run t (m >>= f) ≡ Ok b → (a : A) × (run t m ≡ Ok a) × (run t (f a) ≡ Ok b)
unfolding run ◌>>=◌
run_bind t (done a) f b h = (a, refl, h)
run_bind t (refuse c p) f b h = absurd (err_ok _ _ h)
run_bind t (ask k g) f b h = run_bind t (g (look t k)) f b h
run_bind t (seek n g) f b h = run_bind t (g (holder t n)) f b h

pub asked_bind : {A B : Type 0} (t : Tree) (m : Query A) (f : A → Query B) (a : A) → run t m ≡ Ok a → asked t (m >>= f) ≡ asked t m ++ asked t (f a)
unfolding run asked ◌>>=◌
asked_bind t (done b) f a h = ap (λ z. asked t (f z)) (ok_one h)
asked_bind t (refuse c p) f a h = absurd (err_ok _ _ h)
asked_bind t (ask k g) f a h = ap (λ z. k ∷ z) (asked_bind t (g (look t k)) f a h)
asked_bind t (seek n g) f a h =
    ap (λ z. sought (holder t n) ++ z) (asked_bind t (g (holder t n)) f a h) ∙ sym (append_assoc (sought (holder t n)) (asked t (g (holder t n))) (asked t (f a)))

pub needed : {A : Type 0} (t : Tree) (o : Option A) (c p : ℕ) (a : A) → run t (need o c p) ≡ Ok a → o ≡ Some a
unfolding run
needed t None c p a h = absurd (err_ok _ _ h)
needed t (Some b) c p a h = ap Some (ok_one h)

-- a needed value is there, and the rest goes on with it
pub record Goes {A B : Type 0} (t : Tree) (o : Option A) (c p : ℕ) (f : A → Query B) (b : B) : Type 0 where
  pub value : A
  pub is : o ≡ Some value
  pub rest : run t (f value) ≡ Ok b
  pub asks : asked t (need o c p >>= f) ≡ asked t (f value)

pub goes : {A B : Type 0} (t : Tree) (o : Option A) (c p : ℕ) (f : A → Query B) (b : B) → run t (need o c p >>= f) ≡ Ok b → Goes t o c p f b
unfolding run asked ◌>>=◌
goes t None c p f b h = absurd (err_ok _ _ h)
goes t (Some a) c p f b h = record { value = a; is = refl; rest = h; asks = refl }

pub need-asks : {A : Type 0} (t : Tree) (o : Option A) (c p : ℕ) → asked t (need o c p) ≡ []
unfolding asked
need-asks t None c p = refl
need-asks t (Some a) c p = refl

pub stop-none : (t : Tree) (c : ℕ) (o : Option ℕ) (u : Unit {0}) → run t (stop_at c o) ≡ Ok u → o ≡ None
unfolding run
stop-none t c None u h = refl
stop-none t c (Some p) u h = absurd (err_ok _ _ h)

pub stop-asks : (t : Tree) (c : ℕ) (o : Option ℕ) → asked t (stop_at c o) ≡ []
unfolding asked
stop-asks t c None = refl
stop-asks t c (Some p) = refl

-- ---- one after the other

-- what each element gave
pub data Gave {A B : Type 0} (t : Tree) (f : A → Query B) : List A → List B → Type 0 where
  none : Gave t f [] []
  more : {a : A} {b : B} {xs : List A} {bs : List B} → run t (f a) ≡ Ok b → Gave t f xs bs → Gave t f (a ∷ xs) (b ∷ bs)

pub gave : {A B : Type 0} (t : Tree) (f : A → Query B) (xs : List A) (bs : List B) → run t (for_each f xs) ≡ Ok bs → Gave t f xs bs
unfolding for_each run
gave t f [] bs h = subst (Gave t f []) (ok_one h) none
gave t f (x ∷ xs) bs h =
    let a = run_bind t (f x) _ bs h in
    let b = run_bind t (for_each f xs) _ bs a.2 in
    subst (Gave t f (x ∷ xs)) (ok_one b.2) (more a.1 (gave t f xs b.0 b.1))

-- each answer comes from an element, and each element has its answer
pub gave-from : {A B : Type 0} (t : Tree) (f : A → Query B) (xs : List A) (bs : List B) (b : B) → Gave t f xs bs → In b bs → (a : A) × In a xs × (run t (f a) ≡ Ok b)
gave-from t f [] [] b none i = absurd i
gave-from t f [] (c ∷ bs) b g i = elim g [ ]
gave-from t f (x ∷ xs) [] b g i = elim g [ ]
gave-from t f (x ∷ xs) (c ∷ bs) b (more h g) (inl e) = (x, inl refl, subst (λ z. run t (f x) ≡ Ok z) (sym e) h)
gave-from t f (x ∷ xs) (c ∷ bs) b (more h g) (inr i) = let r = gave-from t f xs bs b g i in (r.0, inr r.1, r.2)

pub gave-to : {A B : Type 0} (t : Tree) (f : A → Query B) (xs : List A) (bs : List B) (a : A) → Gave t f xs bs → In a xs → (b : B) × In b bs × (run t (f a) ≡ Ok b)
gave-to t f [] [] a none i = absurd i
gave-to t f [] (c ∷ bs) a g i = elim g [ ]
gave-to t f (x ∷ xs) [] a g i = elim g [ ]
gave-to t f (x ∷ xs) (c ∷ bs) a (more h g) (inl e) = (c, inl refl, subst (λ z. run t (f z) ≡ Ok c) (sym e) h)
gave-to t f (x ∷ xs) (c ∷ bs) a (more h g) (inr i) = let r = gave-to t f xs bs a g i in (r.0, inr r.1, r.2)

-- what was asked was asked for one of them
pub asked-each : {A B : Type 0} (t : Tree) (f : A → Query B) (xs : List A) (bs : List B) (k : Place) → run t (for_each f xs) ≡ Ok bs → In k (asked t (for_each f xs)) → (a : A) × In a xs × In k (asked t (f a))
unfolding for_each asked run
asked-each t f [] bs k h i = absurd i
asked-each t f (x ∷ xs) bs k h i =
    let a = run_bind t (f x) _ bs h in
    let b = run_bind t (for_each f xs) _ bs a.2 in
    let e = asked_bind t (f x) _ a.0 a.1 in
    ⊎_elim
    (λ j. (x, inl refl, j))
    (λ j.
    let j2 = subst (In k) (asked_bind t (for_each f xs) _ b.0 b.1) j in
    ⊎_elim
    (λ l. let r = asked-each t f xs b.0 k b.1 l in (r.0, inr r.1, r.2))
    (λ l. absurd l)
    (in-cases k (asked t (for_each f xs)) _ j2))
    (in-cases k (asked t (f x)) _ (subst (In k) e i))

pub each-asked : {A B : Type 0} (t : Tree) (f : A → Query B) (xs : List A) (bs : List B) (k : Place) (a : A) → run t (for_each f xs) ≡ Ok bs → In a xs → In k (asked t (f a)) → In k (asked t (for_each f xs))
unfolding for_each asked run
each-asked t f [] bs k a h i j = absurd i
each-asked t f (x ∷ xs) bs k a h i j =
    let q = run_bind t (f x) _ bs h in
    let b = run_bind t (for_each f xs) _ bs q.2 in
    let e = asked_bind t (f x) _ q.0 q.1 in
    let g = asked_bind t (for_each f xs) _ b.0 b.1 in
    subst (In k) (sym e) (⊎_elim
    (λ p. in_left k (asked t (f x)) _ (subst (λ z. In k (asked t (f z))) p j))
    (λ l. in_right k (asked t (f x)) _ (subst (In k) (sym g) (in_left k (asked t (for_each f xs)) _ (each-asked t f xs b.0 k a b.1 l j))))
    i)
