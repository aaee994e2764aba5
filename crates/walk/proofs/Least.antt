-- The next name, and the names that places give. Assumes nothing.
use Rattle.std.proofs.Common.{◌≡◌, true, false, cond, not, ◌&&◌, ◌⊎◌, List, [], ◌∷◌, ◌++◌, Some, None, Option, Ordering, Less, Equal, Greater, sym, refl, ap, ◌∙◌, subst, inl, inr, ⊎_elim, true≢false}
use Rattle.std.specs.Ordering.{is_lt, ordering_reverse}
use Rattle.std.specs.Str.{bytes_eq}
use Rattle.std.proofs.lemmas.Slice.Eq.{bytes_eq-Decides}
use Rattle.std.proofs.lemmas.Bool.{cases_Bool, cond-true, cond-false, and_parts, and_from, not-true, not_from_false}
use Rattle.names.specs.Orders.{name_order}
use Rattle.names.specs.Paths.{root, leaf, parent}
use Rattle.names.proofs.Orders.{name_order_lem}
use Rattle.tree.specs.Maps.{find, Rises}
use Rattle.tree.specs.Places.{Bytes, Place, node_at, property_at, order}
use Rattle.tree.specs.Trees.{Places}
use Rattle.tree.proofs.Maps.{some-none, some_one, find-tail, head-found}
use Rattle.tree.proofs.Places.{place-order}
use Rattle.store.specs.Calls.{later, least, least_after, child_on, property_on, names}
use Rattle.walk.proofs.Ancestors.{In}
use Rattle.walk.proofs.Behind.{is-less, less-is}
use Rattle.walk.proofs.Runs.{found_in}

pub least-in : (n m : Bytes) (ms : List Bytes) → least_after n ms ≡ Some m → In m ms × (later n m ≡ true)
unfolding least_after
least-in n m [] e = absurd (some-none m (sym e))
least-in n m (x ∷ ms) e = go (least_after n ms) refl (least-in n m ms)
  where
    go : (o : Option Bytes) → least_after n ms ≡ o → (least_after n ms ≡ Some m → In m ms × (later n m ≡ true)) → In m (x ∷ ms) × (later n m ≡ true)
    go o h ih =
        ⊎_elim
        (λ t. on o h (sym (ap (λ z. cond z (least x (least_after n ms)) (least_after n ms)) t) ∙ e) t)
        (λ f. let r = ih (sym (ap (λ z. cond z (least x (least_after n ms)) (least_after n ms)) f) ∙ e) in (inr r.0, r.1))
        (cases_Bool (later n x))
      where
        one : x ≡ m → later n x ≡ true → In m (x ∷ ms) × (later n m ≡ true)
        one z t = (inl (sym z), ap (later n) (sym z) ∙ t)

        on : (o : Option Bytes) → least_after n ms ≡ o → least x (least_after n ms) ≡ Some m → later n x ≡ true → In m (x ∷ ms) × (later n m ≡ true)
        on None q f t = one (some_one (sym (ap (least x) q) ∙ f)) t
        on (Some l) q f t =
            let g : cond (later x l) (Some x) (Some l) ≡ Some m = sym (ap (least x) q) ∙ f in
            ⊎_elim
            (λ a. one (some_one (sym (ap (λ z. cond z (Some x) (Some l)) a) ∙ g)) t)
            (λ a. let r = ih (q ∙ sym (ap (λ z. cond z (Some x) (Some l)) a) ∙ g) in (inr r.0, r.1))
            (cases_Bool (later x l))

pub later_trans : (a b c : Bytes) → later a b ≡ true → later b c ≡ true → later a c ≡ true
later_trans a b c g h = less-is (name_order a c) (name_order_lem.trans a b c (is-less (name_order a b) g) (is-less (name_order b c) h))

-- of two names the same, the first or the second is later
later_either : (a b : Bytes) → later a b ≡ false → (b ≡ a) ⊎ (later b a ≡ true)
later_either a b f = go (name_order a b) refl
  where
    go : (r : Ordering) → name_order a b ≡ r → (b ≡ a) ⊎ (later b a ≡ true)
    go Less e = absurd (true≢false (sym (ap is_lt e) ∙ f))
    go Equal e = inl (sym (name_order_lem.exact a b e))
    go Greater e = inr (ap is_lt (name_order_lem.flip b a ∙ ap ordering_reverse e))

abbrev pub Ahead : Bytes → Bytes → Type 0
Ahead m l = (m ≡ l) ⊎ (later m l ≡ true)

-- a name behind n: the answer is that name or an earlier one
pub least-least : (n l : Bytes) (ms : List Bytes) → In l ms → later n l ≡ true → (m : Bytes) × (least_after n ms ≡ Some m) × Ahead m l
unfolding least_after
least-least n l [] i h = absurd i
least-least n l (x ∷ ms) i h =
    ⊎_elim
    (λ t.
    let c : cond (later n x) (least x (least_after n ms)) (least_after n ms) ≡ least x (least_after n ms) = ap (λ z. cond z (least x (least_after n ms)) (least_after n ms)) t in
    let r = ⊎_elim (λ e. first (least_after n ms) (sym e)) (λ j. let y = least-least n l ms j h in second (least_after n ms) y.0 y.1 y.2) i in
    (r.0, c ∙ r.1, r.2))
    (λ f.
    let c : cond (later n x) (least x (least_after n ms)) (least_after n ms) ≡ least_after n ms = ap (λ z. cond z (least x (least_after n ms)) (least_after n ms)) f in
    ⊎_elim
    (λ e. absurd (true≢false (sym h ∙ ap (later n) e ∙ f)))
    (λ j. let y = least-least n l ms j h in (y.0, c ∙ y.1, y.2))
    i)
    (cases_Bool (later n x))
  where
    first : (o : Option Bytes) → x ≡ l → (m : Bytes) × (least x o ≡ Some m) × Ahead m l
    first None e = (x, refl, inl e)
    first (Some y) e =
        ⊎_elim
        (λ a. (x, ap (λ z. cond z (Some x) (Some y)) a, inl e))
        (λ a. (y, ap (λ z. cond z (Some x) (Some y)) a, ⊎_elim (λ q. inl (q ∙ e)) (λ q. inr (subst (λ z. later y z ≡ true) e q)) (later_either x y a)))
        (cases_Bool (later x y))

    second : (o : Option Bytes) (y : Bytes) → o ≡ Some y → Ahead y l → (m : Bytes) × (least x o ≡ Some m) × Ahead m l
    second None y e a = absurd (some-none y (sym e))
    second (Some z) y e a =
        let k : z ≡ y = some_one e in
        ⊎_elim
        (λ b. (x, ap (λ w. cond w (Some x) (Some z)) b, inr (⊎_elim (λ q. subst (λ w. later x w ≡ true) (k ∙ q) b) (λ q. later_trans x y l (subst (λ w. later x w ≡ true) k b) q) a)))
        (λ b. (y, ap (λ w. cond w (Some x) (Some z)) b ∙ ap Some k, a))
        (cases_Bool (later x z))

-- ---- names that places give

in_left : (m : Bytes) (xs ys : List Bytes) → In m xs → In m (xs ++ ys)
in_left m [] ys i = absurd i
in_left m (x ∷ xs) ys i = ⊎_elim inl (λ j. inr (in_left m xs ys j)) i

in_right : (m : Bytes) (xs ys : List Bytes) → In m ys → In m (xs ++ ys)
in_right m [] ys i = i
in_right m (x ∷ xs) ys i = inr (in_right m xs ys i)

in_either : (m : Bytes) (xs ys : List Bytes) → In m (xs ++ ys) → In m xs ⊎ In m ys
in_either m [] ys i = inr i
in_either m (x ∷ xs) ys i = ⊎_elim (λ e. inl (inl e)) (λ j. ⊎_elim (λ a. inl (inr a)) inr (in_either m xs ys j)) i

pub names_in : (on : Place → List Bytes) (es : Places) (k : Place) (v m : Bytes) → find order es k ≡ Some v → In m (on k) → In m (names on es)
unfolding find names
names_in on [] k v m e i = absurd (some-none v (sym e))
names_in on (d ∷ es) k v m e i =
    ⊎_elim
    (λ x. in_left m (on d.0) (names on es) (subst (λ z. In m (on z)) x.0 i))
    (λ x. in_right m (on d.0) (names on es) (names_in on es k v m x.1 i))
    (found_in k v d es e)

pub names-out : (on : Place → List Bytes) (es : Places) (m : Bytes) → Rises order es → In m (names on es) → (k : Place) × (v : Bytes) × (find order es k ≡ Some v) × In m (on k)
unfolding names
names-out on [] m r i = absurd i
names-out on (d ∷ es) m r i =
    ⊎_elim
    (λ a. (d.0, d.1, head-found place-order d es, a))
    (λ a. let x = names-out on es m r.1 a in (x.0, x.1, find-tail place-order d es x.0 x.1 r x.2, x.3))
    (in_either m (on d.0) (names on es) i)

-- a child's name
pub child-on : (p q : Bytes) → (q ≡ root → ⊥) → parent q ≡ p → In (leaf q) (child_on p (node_at q))
child-on p q n e =
    let a : bytes_eq (parent q) p ≡ true = (bytes_eq-Decides (parent q) p).1 e in
    let b : bytes_eq q root ≡ false = ⊎_elim (λ t. absurd (n ((bytes_eq-Decides q root).0 t))) (λ f. f) (cases_Bool (bytes_eq q root)) in
    let c : (not (bytes_eq q root) && bytes_eq (parent q) p) ≡ true = and_from _ _ (not_from_false (bytes_eq q root) b) a in
    subst (In (leaf q)) (sym (cond-true (not (bytes_eq q root) && bytes_eq (parent q) p) (leaf q ∷ []) [] c)) (inl refl)

pub on-child : (p m : Bytes) (k : Place) → In m (child_on p k) → (k ≡ node_at k.0) × (k.0 ≡ root → ⊥) × (parent k.0 ≡ p) × (leaf k.0 ≡ m)
on-child p m (q, None) i =
    ⊎_elim
    (λ t.
    let c = and_parts (not (bytes_eq q root)) (bytes_eq (parent q) p) t in
    let j = subst (In m) (cond-true (not (bytes_eq q root) && bytes_eq (parent q) p) (leaf q ∷ []) [] t) i in (
      refl,
      λ e. true≢false (sym ((bytes_eq-Decides q root).1 e) ∙ not-true (bytes_eq q root) c.0),
      (bytes_eq-Decides (parent q) p).0 c.1,
      ⊎_elim sym absurd j,
    ))
    (λ f. absurd (subst (In m) (cond-false (not (bytes_eq q root) && bytes_eq (parent q) p) (leaf q ∷ []) [] f) i))
    (cases_Bool (not (bytes_eq q root) && bytes_eq (parent q) p))
on-child p m (q, Some n) i = absurd i

-- a property's name
pub property-on : (p n : Bytes) → In n (property_on p (property_at p n))
property-on p n = subst (In n) (sym (cond-true (bytes_eq p p) (n ∷ []) [] ((bytes_eq-Decides p p).1 refl))) (inl refl)

pub on-property : (p m : Bytes) (k : Place) → In m (property_on p k) → k ≡ property_at p m
on-property p m (q, None) i = absurd i
on-property p m (q, Some n) i =
    ⊎_elim
    (λ t.
    let e = (bytes_eq-Decides q p).0 t in
    ⊎_elim (λ z. λ j. (e j, Some (sym z j))) absurd (subst (In m) (cond-true (bytes_eq q p) (n ∷ []) [] t) i))
    (λ f. absurd (subst (In m) (cond-false (bytes_eq q p) (n ∷ []) [] f) i))
    (cases_Bool (bytes_eq q p))
