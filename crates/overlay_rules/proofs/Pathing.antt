-- Paths as bytes: their last name, what stands behind a path, and images. Assumes nothing.
use Rattle.std.proofs.Common.{◌≡◌, ℕ, ◌+◌, ◌<◌, Bool, true, false, cond, ◌&&◌, eqb, ◌⊎◌, List, [], ◌∷◌, ◌++◌, length, take, drop, Some, None, Option, sym, refl, ap, ◌∙◌, subst, inl, inr, ⊎_elim, true≢false, arith}
use Rattle.std.specs.Str.{bytes_eq}
use Rattle.std.proofs.lemmas.Slice.Eq.{bytes_eq-Decides}
use Rattle.std.proofs.lemmas.List.{append-nil, append_assoc, length-append, take-append-drop, take_at, drop_at, nil_from_length}
use Rattle.std.proofs.lemmas.Bool.{and_parts, and_from, or_cases, or_from, or_right, eqb-true, eqb-false, ne_eqb, cond-true, cond-false, not-true, not_from_false}
use Rattle.names.specs.Names.{each, node_name}
use Rattle.names.specs.Paths.{root, parts, path_text, stem, under, plain, parent}
use Rattle.names.proofs.PathLaws.{parent_of, parts_join, under_some}
use Rattle.tree.specs.Places.{Bytes}
use Rattle.tree.proofs.Maps.{some-none, some_one}
use Rattle.overlay_rules.specs.Texts.{slashed, behind}
use Rattle.overlay_rules.specs.Plans.{Located, image_by, image_of}
use Rattle.overlay_rules.specs.Laws.{In}

-- ---- what stands behind a path

pub behind-is : (p q r : Bytes) → behind p q ≡ Some r → (q ≡ p ++ r) × (slashed r ≡ true)
unfolding behind
behind-is p q r h = go (bytes_eq (take (length p) q) p && slashed (drop (length p) q)) refl h
  where
    go : (b : Bool) → (bytes_eq (take (length p) q) p && slashed (drop (length p) q)) ≡ b → cond b (Some (drop (length p) q)) None ≡ Some r → (q ≡ p ++ r) × (slashed r ≡ true)
    go false e h = absurd (some-none r (sym h))
    go true e h =
        let a = and_parts _ _ e in
        let x = (bytes_eq-Decides (take (length p) q) p).0 a.0 in
        let y = some_one h in
        (sym (take-append-drop (length p) q) ∙ (λ i. x i ++ y i), ap slashed (sym y) ∙ a.1)

pub behind-from : (p r : Bytes) → slashed r ≡ true → behind p (p ++ r) ≡ Some r
unfolding behind
behind-from p r h =
    let a = take_at p r (length p) refl in
    let b = drop_at p r (length p) refl in
    cond-true _ _ _ (and_from _ _ ((bytes_eq-Decides (take (length p) (p ++ r)) p).1 a) (ap slashed b ∙ h)) ∙ ap Some b

-- ---- the last name

-- every text is without a `/`, or has a last one
pub record Last (xs : Bytes) : Type 0 where
  pub pre : Bytes
  pub name : Bytes
  pub is : xs ≡ pre ++ (47 ∷ name)
  pub free : plain name ≡ true

split-last : (xs : Bytes) → (plain xs ≡ true) ⊎ Last xs
split-last [] = inl refl
split-last (b ∷ xs) = ⊎_elim
    (λ h. go (eqb b 47) refl h)
    (λ l. inr (record { pre = b ∷ l.pre; name = l.name; is = ap (λ z. b ∷ z) l.is; free = l.free }))
    (split-last xs)
  where
    go : (c : Bool) → eqb b 47 ≡ c → plain xs ≡ true → (plain (b ∷ xs) ≡ true) ⊎ Last (b ∷ xs)
    go true e h = inr (record { pre = []; name = xs; is = ap (λ z. z ∷ xs) (eqb-true b 47 e); free = h })
    go false e h = inl (and_from _ _ (not_from_false _ e) h)

pub last_of : (bs : Bytes) → Last (47 ∷ bs)
last_of bs = ⊎_elim
    (λ h. record { pre = []; name = bs; is = refl; free = h })
    (λ l. record { pre = 47 ∷ l.pre; name = l.name; is = ap (λ z. 47 ∷ z) l.is; free = l.free })
    (split-last bs)

-- ---- names of paths

each_join : {A : Type 0} (p : A → Bool) (xs ys : List A) → each p xs ≡ true → each p ys ≡ true → each p (xs ++ ys) ≡ true
each_join p [] ys h k = k
each_join p (x ∷ xs) ys h k = let a = and_parts _ _ h in and_from _ _ a.0 (each_join p xs ys a.1 k)

each_right : {A : Type 0} (p : A → Bool) (xs ys : List A) → each p (xs ++ ys) ≡ true → each p ys ≡ true
each_right p [] ys h = h
each_right p (x ∷ xs) ys h = each_right p xs ys (and_parts _ _ h).1

-- the names behind a path
names-behind : (a bs : Bytes) → 0 < length a → path_text (a ++ (47 ∷ bs)) ≡ true → each node_name (parts [] bs) ≡ true
unfolding path_text
names-behind [] bs l h = absurd (omega arith)
names-behind (x ∷ a) bs l h =
    let y = and_parts _ _ h in
    ⊎_elim
    (λ z. absurd (eqb-false _ _ (ne_eqb (length (a ++ (47 ∷ bs))) 0 (λ e. too_short e)) (eqb-true _ _ z)))
    (λ z. each_right node_name (parts [] a) (parts [] bs) (ap (each node_name) (sym (parts_join [] a bs)) ∙ z))
    (or_cases _ _ y.1)
  where
    too_short : length (a ++ (47 ∷ bs)) ≡ 0 → ⊥
    too_short e = omega (arith, length-append a (47 ∷ bs), e)

head-slash : (x : ℕ) (xs : Bytes) → path_text (x ∷ xs) ≡ true → x ≡ 47
unfolding path_text
head-slash x xs h = eqb-true _ _ (and_parts _ _ h).0

tail-names : (x : ℕ) (xs : Bytes) → path_text (x ∷ xs) ≡ true → (x ∷ xs ≡ root → ⊥) → each node_name (parts [] xs) ≡ true
unfolding path_text
tail-names x xs h n = ⊎_elim
    (λ z. absurd (n (λ i. head-slash x xs h i ∷ nil_from_length xs (eqb-true _ _ z) i)))
    (λ z. z)
    (or_cases _ _ (and_parts _ _ h).1)

-- a path joined with what stands behind another is a path
stem-path : (p bs : Bytes) → path_text p ≡ true → each node_name (parts [] bs) ≡ true → path_text (stem p ++ (47 ∷ bs)) ≡ true
unfolding path_text stem
stem-path [] bs h k = absurd (true≢false (sym h))
stem-path (x ∷ p) bs h k = go (bytes_eq (x ∷ p) root) refl
  where
    go : (b : Bool) → bytes_eq (x ∷ p) root ≡ b → path_text (cond b [] (x ∷ p) ++ (47 ∷ bs)) ≡ true
    go true e = or_right (eqb (length bs) 0) _ k
    go false e =
        let t = tail-names x p h (λ z. true≢false (sym ((bytes_eq-Decides (x ∷ p) root).1 z) ∙ e)) in
        and_from _ _ (and_parts _ _ h).0 (or_right (eqb (length (p ++ (47 ∷ bs))) 0) _ (ap (each node_name) (parts_join [] p bs) ∙ each_join node_name (parts [] p) (parts [] bs) t k))

under_more : (p : Bytes) (b : ℕ) (r : Bytes) → under p (b ∷ r) ≡ stem p ++ (b ∷ r)
under_more p b r = under_some p (b ∷ r) (omega arith)

pub path-under : (p a r : Bytes) → path_text p ≡ true → 0 < length a → path_text (a ++ r) ≡ true → slashed r ≡ true → path_text (under p r) ≡ true
path-under p a [] hp l h s = hp
path-under p a (b ∷ bs) hp l h s =
    let e : b ≡ 47 = eqb-true b 47 s in
    let k = names-behind a bs l (subst (λ z. path_text (a ++ (z ∷ bs)) ≡ true) e h) in
    ap path_text (under_more p b bs) ∙ subst (λ z. path_text (stem p ++ (z ∷ bs)) ≡ true) (sym e) (stem-path p bs hp k)

stem-root : (q : Bytes) → bytes_eq q root ≡ true → stem q ≡ []
unfolding stem
stem-root q e = cond-true _ _ _ e

stem-same : (q : Bytes) → bytes_eq q root ≡ false → stem q ≡ q
unfolding stem
stem-same q e = cond-false _ _ _ e

empty-path : (q : Bytes) → path_text q ≡ true → length q ≡ 0 → ⊥
unfolding path_text
empty-path [] h e = true≢false (sym h)
empty-path (x ∷ q) h e = omega arith

-- the parent of what is joined to a path
pub parent-under : (p pre name : Bytes) → plain name ≡ true → path_text p ≡ true → parent (under p (pre ++ (47 ∷ name))) ≡ under p pre
parent-under p pre name f h =
    let e : under p (pre ++ (47 ∷ name)) ≡ (stem p ++ pre) ++ (47 ∷ name) = cond-false _ _ _ (ne_eqb (length (pre ++ (47 ∷ name))) 0 (λ z. long z)) ∙ sym (append_assoc (stem p) pre (47 ∷ name)) in
    ap parent e ∙ parent_of (stem p ++ pre) name f ∙ go pre
  where
    long : length (pre ++ (47 ∷ name)) ≡ 0 → ⊥
    long z = omega (arith, length-append pre (47 ∷ name), z)

    at-stem : (q : Bytes) → path_text q ≡ true → cond (eqb (length (stem q)) 0) root (stem q) ≡ q
    at-stem q h = by (bytes_eq q root) refl
      where
        by : (b : Bool) → bytes_eq q root ≡ b → cond (eqb (length (stem q)) 0) root (stem q) ≡ q
        by true e = let z : stem q ≡ [] = stem-root q e in ap (λ y. cond (eqb (length y) 0) root y) z ∙ sym ((bytes_eq-Decides q root).0 e)
        by false e = let z : stem q ≡ q = stem-same q e in ap (λ y. cond (eqb (length y) 0) root y) z ∙ cond-false _ _ _ (ne_eqb (length q) 0 (λ y. empty-path q h y))

    go : (r : Bytes) → cond (eqb (length (stem p ++ r)) 0) root (stem p ++ r) ≡ under p r
    go [] = ap (λ z. cond (eqb (length z) 0) root z) (append-nil (stem p)) ∙ at-stem p h
    go (b ∷ r) = cond-false _ _ _ (ne_eqb (length (stem p ++ (b ∷ r))) 0 (λ z. omega (arith, length-append (stem p) (b ∷ r), z))) ∙ sym (under_more p b r)

-- ---- images

-- the fragment that a path lies in: the first whose body it is or is below
pub record Match (ls : List Located) (q : Bytes) : Type 0 where
  pub located : Located
  pub listed : In located ls
  pub rest : Bytes
  pub is : behind located.body q ≡ Some rest
  pub image : image_of ls q ≡ under located.to rest
  -- and so for the path above
  pub above : (pre name : Bytes) → rest ≡ pre ++ (47 ∷ name) → image_of ls (located.body ++ pre) ≡ under located.to pre

slashed-front : (pre name : Bytes) → slashed (pre ++ (47 ∷ name)) ≡ true → slashed pre ≡ true
slashed-front [] name h = refl
slashed-front (b ∷ pre) name h = h

slashed_join : (x name : Bytes) → slashed x ≡ true → slashed (x ++ (47 ∷ name)) ≡ true
slashed_join [] name h = refl
slashed_join (b ∷ x) name h = h

-- what is not below a body, its parent is not either
not-above : (p q a name : Bytes) → behind p q ≡ None → q ≡ a ++ (47 ∷ name) → behind p a ≡ None
not-above p q a name h e = go (behind p a) refl
  where
    go : (o : Option Bytes) → behind p a ≡ o → behind p a ≡ None
    go None f = f
    go (Some x) f =
        let y = behind-is p a x f in
        let z : q ≡ p ++ (x ++ (47 ∷ name)) = e ∙ ap (λ w. w ++ (47 ∷ name)) y.0 ∙ append_assoc p x (47 ∷ name) in
        absurd (some-none _ (sym (ap (behind p) z ∙ behind-from p (x ++ (47 ∷ name)) (slashed_join x name y.1)) ∙ h))

match-here : (l : Located) (ls : List Located) (q r : Bytes) → behind l.body q ≡ Some r → Match (l ∷ ls) q
unfolding image_of
match-here l ls q r h = record {
  located = l;
  listed = inl refl;
  rest = r;
  is = h;
  image = ap (image_by l.to (image_of ls q)) h;
  above = λ pre name e.
      ap (image_by l.to (image_of ls (l.body ++ pre))) (behind-from l.body pre (slashed-front pre name (ap slashed (sym e) ∙ (behind-is l.body q r h).1)));
}

match-later : (l : Located) (ls : List Located) (q : Bytes) → behind l.body q ≡ None → Match ls q → Match (l ∷ ls) q
unfolding image_of
match-later l ls q h m = record {
  located = m.located;
  listed = inr m.listed;
  rest = m.rest;
  is = m.is;
  image = ap (image_by l.to (image_of ls q)) h ∙ m.image;
  above = λ pre name e.
      let z : q ≡ (m.located.body ++ pre) ++ (47 ∷ name) = (behind-is m.located.body q m.rest m.is).0 ∙ ap (λ w. m.located.body ++ w) e ∙ sym (append_assoc m.located.body pre (47 ∷ name)) in
      ap (image_by l.to (image_of ls (m.located.body ++ pre))) (not-above l.body q (m.located.body ++ pre) name h z) ∙ m.above pre name e;
}

pub match : (ls : List Located) (q : Bytes) (l : Located) (r : Bytes) → In l ls → behind l.body q ≡ Some r → Match ls q
match [] q l r i h = absurd i
match (x ∷ ls) q l r i h = go (behind x.body q) refl (match ls q l r) i
  where
    go : (o : Option Bytes) → behind x.body q ≡ o → (In l ls → behind l.body q ≡ Some r → Match ls q) → In l (x ∷ ls) → Match (x ∷ ls) q
    go (Some y) e ih i = match-here x ls q y e
    go None e ih (inl p) = absurd (some-none r (sym h ∙ ap (λ z. behind z.body q) p ∙ e))
    go None e ih (inr j) = match-later x ls q e (ih j h)

-- ---- how many slashes

unfoldable pub slashes : Bytes → ℕ
slashes [] = 0
slashes (b ∷ xs) = cond (eqb b 47) 1 0 + slashes xs

pub slashes_join : (xs ys : Bytes) → slashes (xs ++ ys) ≡ slashes xs + slashes ys
unfolding slashes
slashes_join [] ys = omega arith
slashes_join (b ∷ xs) ys = omega (arith, slashes_join xs ys)

slashes-plain : (xs : Bytes) → plain xs ≡ true → slashes xs ≡ 0
unfolding slashes
slashes-plain [] h = refl
slashes-plain (b ∷ xs) h = let a = and_parts _ _ h in ap (λ c. cond c 1 0 + slashes xs) (not-true _ a.0) ∙ omega (arith, slashes-plain xs a.1)

double-slash : (name : Bytes) → path_text (47 ∷ 47 ∷ name) ≡ false
unfolding path_text parts node_name
double-slash name = or_from (eqb (length (47 ∷ name)) 0) false (ne_eqb (length (47 ∷ name)) 0 (λ e. omega (arith, e))) refl

-- a root child's path has one
pub child-slashes : (p : Bytes) → path_text p ≡ true → (p ≡ root → ⊥) → parent p ≡ root → slashes p ≡ 1
unfolding slashes
child-slashes [] h n e = absurd (empty-path [] h refl)
child-slashes (x ∷ bs) h n e =
    let s = head-slash x bs h in
    ⊎_elim
    (λ f. ap (λ z. cond (eqb z 47) 1 0 + slashes bs) s ∙ omega (arith, slashes-plain bs f))
    (λ l.
    let q : x ∷ bs ≡ (47 ∷ l.pre) ++ (47 ∷ l.name) = λ i. s i ∷ l.is i in
    let o : cond (eqb (length (47 ∷ l.pre)) 0) root (47 ∷ l.pre) ≡ 47 ∷ l.pre = cond-false _ _ _ (ne_eqb (length (47 ∷ l.pre)) 0 (λ z. omega (arith, z))) in
    let r : 47 ∷ l.pre ≡ root = sym o ∙ sym (parent_of (47 ∷ l.pre) l.name l.free) ∙ ap parent (sym q) ∙ e in
    let m : l.pre ≡ [] = tail-eq r in
    absurd (true≢false (sym h ∙ ap path_text (q ∙ ap (λ z. (47 ∷ z) ++ (47 ∷ l.name)) m) ∙ double-slash l.name)))
    (split-last bs)
  where
    tail-eq : {a b : ℕ} {xs ys : Bytes} → a ∷ xs ≡ b ∷ ys → xs ≡ ys
    tail-eq e = cc
