-- Lists: what holds of all, of one, and of those that are picked. Assumes nothing.
use Rattle.std.proofs.Common.{◌≡◌, ℕ, Bool, true, false, ◌&&◌, ◌||◌, ◌⊎◌, List, [], ◌∷◌, ◌++◌, map, Some, None, Option, sym, refl, ap, ◌∙◌, subst, inl, inr, ⊎_elim, true≢false, arith}
use Rattle.std.specs.List.{AllByRecursion}
use Rattle.std.proofs.lemmas.Bool.{or_parts, or_left, or_right, and_parts}
use Rattle.names.specs.Names.{each}
use Rattle.tree.specs.Entries.{some}
use Rattle.overlay_rules.specs.Texts.{given, pick, joined}
use Rattle.overlay_rules.specs.Laws.{In}

pub all-at : {A : Type 0} (P : A → Type 0) (a : A) (xs : List A) → AllByRecursion P xs → In a xs → P a
all-at P a [] h i = absurd i
all-at P a (x ∷ xs) h (inl e) = subst P (sym e) h.0
all-at P a (x ∷ xs) h (inr i) = all-at P a xs h.1 i

pub all_from : {A : Type 0} (P : A → Type 0) (xs : List A) → ((a : A) → In a xs → P a) → AllByRecursion P xs
all_from P [] f = tt
all_from P (x ∷ xs) f = (f x (inl refl), all_from P xs (λ a i. f a (inr i)))

pub all_left : {A : Type 0} (P : A → Type 0) (xs ys : List A) → AllByRecursion P (xs ++ ys) → AllByRecursion P xs
all_left P [] ys h = tt
all_left P (x ∷ xs) ys h = (h.0, all_left P xs ys h.1)

pub all_right : {A : Type 0} (P : A → Type 0) (xs ys : List A) → AllByRecursion P (xs ++ ys) → AllByRecursion P ys
all_right P [] ys h = h
all_right P (x ∷ xs) ys h = all_right P xs ys h.1

pub all_both : {A : Type 0} (P : A → Type 0) (xs ys : List A) → AllByRecursion P xs → AllByRecursion P ys → AllByRecursion P (xs ++ ys)
all_both P [] ys h k = k
all_both P (x ∷ xs) ys h k = (h.0, all_both P xs ys h.1 k)

pub all_map : {A : Type 0} (P Q : A → Type 0) → ((a : A) → P a → Q a) → (xs : List A) → AllByRecursion P xs → AllByRecursion Q xs
all_map P Q f [] h = tt
all_map P Q f (x ∷ xs) h = (f x h.0, all_map P Q f xs h.1)

pub in_left : {A : Type 0} (a : A) (xs ys : List A) → In a xs → In a (xs ++ ys)
in_left a [] ys i = absurd i
in_left a (x ∷ xs) ys (inl e) = inl e
in_left a (x ∷ xs) ys (inr i) = inr (in_left a xs ys i)

pub in_right : {A : Type 0} (a : A) (xs ys : List A) → In a ys → In a (xs ++ ys)
in_right a [] ys i = i
in_right a (x ∷ xs) ys i = inr (in_right a xs ys i)

pub in-cases : {A : Type 0} (a : A) (xs ys : List A) → In a (xs ++ ys) → In a xs ⊎ In a ys
in-cases a [] ys i = inr i
in-cases a (x ∷ xs) ys (inl e) = inl (inl e)
in-cases a (x ∷ xs) ys (inr i) = ⊎_elim (λ j. inl (inr j)) (λ j. inr j) (in-cases a xs ys i)

pub in_map : {A B : Type 0} (f : A → B) (a : A) (xs : List A) → In a xs → In (f a) (map f xs)
in_map f a [] i = absurd i
in_map f a (x ∷ xs) (inl e) = inl (ap f e)
in_map f a (x ∷ xs) (inr i) = inr (in_map f a xs i)

pub in-map-from : {A B : Type 0} (f : A → B) (b : B) (xs : List A) → In b (map f xs) → (a : A) × In a xs × (b ≡ f a)
in-map-from f b [] i = absurd i
in-map-from f b (x ∷ xs) (inl e) = (x, inl refl, e)
in-map-from f b (x ∷ xs) (inr i) = let r = in-map-from f b xs i in (r.0, inr r.1, r.2)

pub in-joined : {A B : Type 0} (f : A → List B) (b : B) (a : A) (xs : List A) → In a xs → In b (f a) → In b (joined (map f xs))
in-joined f b a [] i j = absurd i
in-joined f b a (x ∷ xs) (inl e) j = in_left b (f x) _ (subst (λ z. In b (f z)) e j)
in-joined f b a (x ∷ xs) (inr i) j = in_right b (f x) _ (in-joined f b a xs i j)

pub in-joined-from : {A B : Type 0} (f : A → List B) (b : B) (xs : List A) → In b (joined (map f xs)) → (a : A) × In a xs × In b (f a)
in-joined-from f b [] i = absurd i
in-joined-from f b (x ∷ xs) i = ⊎_elim (λ j. (x, inl refl, j)) (λ j. let r = in-joined-from f b xs j in (r.0, inr r.1, r.2)) (in-cases b (f x) _ i)

in-given : {A : Type 0} (a : A) (o : Option A) (xs : List A) → In a (given o xs) → (o ≡ Some a) ⊎ In a xs
in-given a None xs i = inr i
in-given a (Some x) xs (inl e) = inl (ap Some (sym e))
in-given a (Some x) xs (inr i) = inr i

given-in : {A : Type 0} (a : A) (o : Option A) (xs : List A) → (o ≡ Some a) ⊎ In a xs → In a (given o xs)
given-in a None xs (inl e) = let z : ◌≡◌ {A = ℕ} 0 1 = cc in absurd (omega arith)
given-in a None xs (inr i) = i
given-in a (Some x) xs (inl e) = inl (cc)
given-in a (Some x) xs (inr i) = inr i

pub in-pick : {A B : Type 0} (f : A → Option B) (b : B) (a : A) (xs : List A) → In a xs → f a ≡ Some b → In b (pick f xs)
in-pick f b a [] i h = absurd i
in-pick f b a (x ∷ xs) (inl e) h = given-in b (f x) _ (inl (ap f (sym e) ∙ h))
in-pick f b a (x ∷ xs) (inr i) h = given-in b (f x) _ (inr (in-pick f b a xs i h))

pub in-pick-from : {A B : Type 0} (f : A → Option B) (b : B) (xs : List A) → In b (pick f xs) → (a : A) × In a xs × (f a ≡ Some b)
in-pick-from f b [] i = absurd i
in-pick-from f b (x ∷ xs) i = ⊎_elim (λ e. (x, inl refl, e)) (λ j. let r = in-pick-from f b xs j in (r.0, inr r.1, r.2)) (in-given b (f x) _ i)

pub some-false : {A : Type 0} (p : A → Bool) (xs : List A) → some p xs ≡ false → AllByRecursion (λ x. p x ≡ false) xs
some-false p [] h = tt
some-false p (x ∷ xs) h = let n = or_parts _ _ h in (n.0, some-false p xs n.1)

pub some-true : {A : Type 0} (p : A → Bool) (xs : List A) → some p xs ≡ true → (a : A) × In a xs × (p a ≡ true)
some-true p [] h = absurd (true≢false (sym h))
some-true {A} p (x ∷ xs) h = go (p x) refl (some-true p xs) h
  where
    go : (b : Bool) → p x ≡ b → (some p xs ≡ true → (a : A) × In a xs × (p a ≡ true)) → (b || some p xs) ≡ true → (a : A) × In a (x ∷ xs) × (p a ≡ true)
    go true e ih h = (x, inl refl, e)
    go false e ih h = let r = ih h in (r.0, inr r.1, r.2)

pub some_in : {A : Type 0} (p : A → Bool) (a : A) (xs : List A) → In a xs → p a ≡ true → some p xs ≡ true
some_in p a [] i h = absurd i
some_in p a (x ∷ xs) (inl e) h = or_left _ _ (ap p (sym e) ∙ h)
some_in p a (x ∷ xs) (inr i) h = or_right _ _ (some_in p a xs i h)

pub none-some : {A : Type 0} (p : A → Bool) (xs : List A) → ((a : A) → In a xs → p a ≡ true → ⊥) → some p xs ≡ false
none-some p xs n = go (some p xs) refl
  where
    go : (b : Bool) → some p xs ≡ b → some p xs ≡ false
    go false e = e
    go true e = let r = some-true p xs e in absurd (n r.0 r.1 r.2)

pub each_all : {A : Type 0} (p : A → Bool) (xs : List A) → each p xs ≡ true → AllByRecursion (λ x. p x ≡ true) xs
each_all p [] h = tt
each_all p (x ∷ xs) h = let n = and_parts _ _ h in (n.0, each_all p xs n.1)

pub all-each : {A : Type 0} (p : A → Bool) (xs : List A) → AllByRecursion (λ x. p x ≡ true) xs → each p xs ≡ true
all-each p [] h = refl
all-each p (x ∷ xs) h = ap (λ b. b && each p xs) h.0 ∙ all-each p xs h.1
