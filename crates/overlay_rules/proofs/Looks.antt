-- Look-up and change of trees, and who has a phandle. Assumes nothing.
use Rattle.std.proofs.Common.{◌≡◌, ℕ, ◌≤◌, Bool, true, false, cond, ◌||◌, eqb, ◌⊎◌, List, [], ◌∷◌, ◌++◌, Some, None, codes, Option, Ordering, Less, Equal, Greater, sym, refl, ap, ◌∙◌, subst, inl, inr, ⊎_elim, true≢false, arith}
use Rattle.std.specs.Ordering.{match_ordering as by_order}
use Rattle.std.proofs.lemmas.Slice.Eq.{bytes_eq-Decides}
use Rattle.std.proofs.lemmas.Bool.{or_left, or_right, and_parts, and_from, eq-eqb, eqb-true, not-true, not_from_false}
use Rattle.tree.specs.Entries.{same_place}
use Rattle.tree.specs.Maps.{find, Rises}
use Rattle.tree.specs.Numbers.{be32}
use Rattle.tree.specs.Phandles.{is_phandle, handle_on, handles, valid_handle, shares_with, distinct_handles, phandle_rule, largest_of, largest_phandle, holder_of, holder}
use Rattle.tree.specs.Places.{Bytes, Place, order}
use Rattle.tree.specs.Trees.{Places, Tree, look, change}
use Rattle.tree.proofs.Listed.{same_self, same-only}
use Rattle.tree.proofs.Maps.{some-none, some_one, find-same, find-other, rises-upd, ext, head-found, find-below, find-tail}
use Rattle.tree.proofs.MapLaws.{decide}
use Rattle.tree.proofs.Places.{place-order}
use Rattle.overlay_rules.specs.Overlays.{phandle_at}
use Rattle.overlay_rules.specs.Laws.{Rising, In, Valid, Unique}
use Rattle.overlay_rules.proofs.Lists.{all-at, all_from, each_all, all-each, in-cases, in_left, in_right}

pub look-same : (t : Tree) (k : Place) (w : Option Bytes) → Rising t → look (change t k w) k ≡ w
unfolding look change
look-same t k w r = find-same place-order t.places k w r

pub look-other : (t : Tree) (k q : Place) (w : Option Bytes) → Rising t → (q ≡ k → ⊥) → look (change t k w) q ≡ look t q
unfolding look change
look-other t k q w r n = find-other place-order t.places k q w r n

pub rises-change : (t : Tree) (k : Place) (w : Option Bytes) → Rising t → Rising (change t k w)
unfolding change
rises-change t k w r = rises-upd place-order t.places k w r

pub boot-change : (t : Tree) (k : Place) (w : Option Bytes) → (change t k w).boot ≡ t.boot
unfolding change
boot-change t k w = refl

-- equal look-ups, equal trees
pub tree-ext : (s t : Tree) → s.boot ≡ t.boot → Rising s → Rising t → ((q : Place) → look s q ≡ look t q) → s ≡ t
unfolding look
tree-ext s t b rs rt h = let e = ext place-order s.places t.places rs rt h in λ i. record { boot = b i; places = e i }

pub decide-place : (x y : Place) → (x ≡ y) ⊎ (x ≡ y → ⊥)
decide-place = decide place-order

pub place-not : (k l : Place) → same_place k l ≡ false → k ≡ l → ⊥
place-not k l h e = true≢false (sym (same_self l) ∙ ap (λ z. same_place z l) (sym e) ∙ h)

pub not-place : (k l : Place) → (k ≡ l → ⊥) → same_place k l ≡ false
not-place k l n = go (same_place k l) refl
  where
    go : (b : Bool) → same_place k l ≡ b → same_place k l ≡ false
    go true e = absurd (n (same-only k l e))
    go false e = e

-- ---- handles

-- the phandle property's name
pub is-phandle : (n : Bytes) → is_phandle n ≡ true → n ≡ codes "phandle"
is-phandle n h = (bytes_eq-Decides n (codes "phandle")).0 h

-- a phandle of a list of them
abbrev pub Has : Bytes → Bytes → List (Bytes × Bytes) → Type 0
Has p v hs = In {A = Bytes × Bytes} (p, v) hs

on_in : (k : Place) (v p w : Bytes) → Has p w (handle_on k v) → (k ≡ phandle_at p) × (v ≡ w)
on_in (q, None) v p w i = absurd i
on_in (q, Some n) v p w i = go (is_phandle n) refl i
  where
    go : (b : Bool) → is_phandle n ≡ b → Has p w (cond b ((q, v) ∷ []) []) → ((q, Some n) ≡ phandle_at p) × (v ≡ w)
    go true e (inl f) = let m = is-phandle n e in ((λ i. ((sym f i).0, Some (m i))), sym (ap (λ z. z.1) f))
    go true e (inr j) = absurd j
    go false e i = absurd i

in_on : (k : Place) (v p : Bytes) → k ≡ phandle_at p → Has p v (handle_on k v)
in_on k v p e = subst (λ z. Has p v (handle_on z v)) (sym e) (inl refl)

pub handles-find : (es : Places) (p v : Bytes) → Rises order es → Has p v (handles es) → find order es (phandle_at p) ≡ Some v
unfolding handles
handles-find [] p v r i = absurd i
handles-find (e ∷ es) p v r i = ⊎_elim
    (λ j. let h = on_in e.0 e.1 p v j in ap (find order (e ∷ es)) (sym h.0) ∙ head-found place-order e es ∙ ap Some h.1)
    (λ j. find-tail place-order e es (phandle_at p) v r (handles-find es p v r.1 j))
    (in-cases _ (handle_on e.0 e.1) (handles es) i)

pub find-handles : (es : Places) (p v : Bytes) → find order es (phandle_at p) ≡ Some v → Has p v (handles es)
unfolding handles find
find-handles [] p v h = absurd (some-none v (sym h))
find-handles (e ∷ es) p v h = go (order (phandle_at p) e.0) refl (find-handles es p v) h
  where
    go : (o : Ordering) → order (phandle_at p) e.0 ≡ o → (find order es (phandle_at p) ≡ Some v → Has p v (handles es))
        → by_order o None (Some e.1) (find order es (phandle_at p)) ≡ Some v → Has p v (handle_on e.0 e.1 ++ handles es)
    go Less a ih g = absurd (some-none v (sym g))
    go Equal a ih g = in_left _ (handle_on e.0 e.1) (handles es) (subst (λ z. Has p z (handle_on e.0 e.1)) (some_one g) (in_on e.0 e.1 p (sym (place-order.exact _ _ a))))
    go Greater a ih g = in_right _ (handle_on e.0 e.1) (handles es) (ih g)

pub holder-has : (n : ℕ) (hs : List (Bytes × Bytes)) (p : Bytes) → holder_of n hs ≡ Some p → (v : Bytes) × Has p v hs × (be32 v 0 ≡ n)
unfolding holder_of
holder-has n [] p h = absurd (some-none p (sym h))
holder-has n (x ∷ hs) p h = go (eqb (be32 x.1 0) n) refl (holder-has n hs p) h
  where
    go : (b : Bool) → eqb (be32 x.1 0) n ≡ b → (holder_of n hs ≡ Some p → (v : Bytes) × Has p v hs × (be32 v 0 ≡ n)) → cond b (Some x.0) (holder_of n hs) ≡ Some p → (v : Bytes) × Has p v (x ∷ hs) × (be32 v 0 ≡ n)
    go true e ih h = (x.1, inl (λ i. (some_one (sym h) i, x.1)), eqb-true _ _ e)
    go false e ih h = let r = ih h in (r.0, inr r.1, r.2)

pub has-holder : (n : ℕ) (hs : List (Bytes × Bytes)) (p v : Bytes) → Has p v hs → be32 v 0 ≡ n → (q : Bytes) × (holder_of n hs ≡ Some q)
unfolding holder_of
has-holder n [] p v i e = absurd i
has-holder n (x ∷ hs) p v (inl f) e = (x.0, ap (λ b. cond b (Some x.0) (holder_of n hs)) (eq-eqb _ _ (ap (λ z. be32 z.1 0) (sym f) ∙ e)))
has-holder n (x ∷ hs) p v (inr i) e = go (eqb (be32 x.1 0) n) (has-holder n hs p v i e)
  where
    go : (b : Bool) → (q : Bytes) × (holder_of n hs ≡ Some q) → (q : Bytes) × (cond b (Some x.0) (holder_of n hs) ≡ Some q)
    go true r = (x.0, refl)
    go false r = r

-- who has a phandle
pub holder-found : (t : Tree) (n : ℕ) (p : Bytes) → Rising t → holder t n ≡ Some p → (v : Bytes) × (look t (phandle_at p) ≡ Some v) × (be32 v 0 ≡ n)
unfolding look
holder-found t n p r h = let x = holder-has n (handles t.places) p h in (x.0, handles-find t.places p x.0 r x.1, x.2)

pub holder-some : (t : Tree) (n : ℕ) (p v : Bytes) → look t (phandle_at p) ≡ Some v → be32 v 0 ≡ n → (q : Bytes) × (holder t n ≡ Some q)
unfolding look
holder-some t n p v h e = has-holder n (handles t.places) p v (find-handles t.places p v h) e

-- ---- the phandle rule

shares-has : (n : ℕ) (hs : List (Bytes × Bytes)) (p v : Bytes) → Has p v hs → be32 v 0 ≡ n → shares_with n hs ≡ true
shares-has n [] p v i e = absurd i
shares-has n (x ∷ hs) p v (inl f) e = or_left _ _ (eq-eqb _ _ (ap (λ z. be32 z.1 0) (sym f) ∙ e))
shares-has n (x ∷ hs) p v (inr i) e = or_right _ _ (shares-has n hs p v i e)

has-shares : (n : ℕ) (hs : List (Bytes × Bytes)) → shares_with n hs ≡ true → (p : Bytes) × (v : Bytes) × Has p v hs × (be32 v 0 ≡ n)
has-shares n [] h = absurd (true≢false (sym h))
has-shares n (x ∷ hs) h = go (eqb (be32 x.1 0) n) refl (has-shares n hs) h
  where
    go : (b : Bool) → eqb (be32 x.1 0) n ≡ b → (shares_with n hs ≡ true → (p : Bytes) × (v : Bytes) × Has p v hs × (be32 v 0 ≡ n)) → (b || shares_with n hs) ≡ true → (p : Bytes) × (v : Bytes) × Has p v (x ∷ hs) × (be32 v 0 ≡ n)
    go true e ih h = (x.0, x.1, inl refl, eqb-true _ _ e)
    go false e ih h = let r = ih h in (r.0, r.1, inr r.2, r.3)

distinct-one : (hs : List (Bytes × Bytes)) (p q v w : Bytes) → distinct_handles hs ≡ true → Has p v hs → Has q w hs → be32 v 0 ≡ be32 w 0 → p ≡ q
unfolding distinct_handles
distinct-one [] p q v w d i j e = absurd i
distinct-one (x ∷ hs) p q v w d (inl f) (inl g) e = ap (λ z. z.0) (f ∙ sym g)
distinct-one (x ∷ hs) p q v w d (inl f) (inr j) e =
    absurd (true≢false (sym (shares-has (be32 x.1 0) hs q w j (sym e ∙ ap (λ z. be32 z.1 0) f)) ∙ not-true _ (and_parts _ _ d).0))
distinct-one (x ∷ hs) p q v w d (inr i) (inl g) e =
    absurd (true≢false (sym (shares-has (be32 x.1 0) hs p v i (e ∙ ap (λ z. be32 z.1 0) g)) ∙ not-true _ (and_parts _ _ d).0))
distinct-one (x ∷ hs) p q v w d (inr i) (inr j) e = distinct-one hs p q v w (and_parts _ _ d).1 i j e

pub rule-unique : (t : Tree) → phandle_rule t ≡ true → Unique t
unfolding look
rule-unique t h p q v w a b e = distinct-one (handles t.places) p q v w (and_parts _ _ h).1 (find-handles t.places p v a) (find-handles t.places q w b) e

pub rule-valid : (t : Tree) → phandle_rule t ≡ true → Valid t
unfolding look
rule-valid t h p v a = all-at (λ (x : Bytes × Bytes). valid_handle x.1 ≡ true) (p, v) (handles t.places) (each_all _ (handles t.places) (and_parts _ _ h).0) (find-handles t.places p v a)

abbrev One : List (Bytes × Bytes) → Type 0
One hs = (p q v w : Bytes) → Has p v hs → Has q w hs → be32 v 0 ≡ be32 w 0 → p ≡ q

distinct_from : (es : Places) → Rises order es → One (handles es) → distinct_handles (handles es) ≡ true
unfolding handles distinct_handles
distinct_from [] r o = refl
distinct_from (((q, None), u) ∷ es) r o = distinct_from es r.1 o
distinct_from (((q, Some n), u) ∷ es) r o = go (is_phandle n) refl (distinct_from es r.1) o
  where
    go : (b : Bool) → is_phandle n ≡ b → (One (handles es) → distinct_handles (handles es) ≡ true) → One (cond b ((q, u) ∷ []) [] ++ handles es) → distinct_handles (cond b ((q, u) ∷ []) [] ++ handles es) ≡ true
    go false e ih o = ih o
    go true e ih o = and_from _ _ (not_from_false _ (alone (shares_with (be32 u 0) (handles es)) refl)) (ih (λ p q v w i j. o p q v w (inr i) (inr j)))
      where
        alone : (b : Bool) → shares_with (be32 u 0) (handles es) ≡ b → shares_with (be32 u 0) (handles es) ≡ false
        alone false f = f
        alone true f =
            let x = has-shares (be32 u 0) (handles es) f in
            let k : q ≡ x.0 = o q x.0 u x.1 (inl refl) (inr x.2) (sym x.3) in
            let g = handles-find es x.0 x.1 r.1 x.2 in
            let z : (q, Some n) ≡ phandle_at x.0 = λ i. (k i, Some (is-phandle n e i)) in
            absurd (some-none x.1 (sym g ∙ ap (find order es) (sym z) ∙ find-below place-order (q, Some n) es r.0))

pub rule-from : (t : Tree) → Rising t → Valid t → Unique t → phandle_rule t ≡ true
unfolding look
rule-from t r a u =
    and_from _ _
    (all-each _ (handles t.places) (all_from _ (handles t.places) (λ x i. a x.0 x.1 (handles-find t.places x.0 x.1 r i))))
    (distinct_from t.places r (λ p q v w i j. u p q v w (handles-find t.places p v r i) (handles-find t.places q w r j)))

-- no phandle is above the largest
largest_has : (hs : List (Bytes × Bytes)) (p v : Bytes) → Has p v hs → be32 v 0 ≤ largest_of hs
unfolding largest_of
largest_has [] p v i = absurd i
largest_has (x ∷ hs) p v (inl e) = let z : be32 v 0 ≡ be32 x.1 0 = ap (λ y. be32 y.1 0) e in omega (arith, z)
largest_has (x ∷ hs) p v (inr i) = omega (arith, largest_has hs p v i)

pub at-most_largest : (t : Tree) (p v : Bytes) → look t (phandle_at p) ≡ Some v → be32 v 0 ≤ largest_phandle t
unfolding look
at-most_largest t p v h = largest_has (handles t.places) p v (find-handles t.places p v h)
