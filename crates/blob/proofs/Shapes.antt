-- `token_at` finds what is a token, and nothing else. Assumes nothing.
use Rattle.std.proofs.Common.{◌≡◌, ℕ, suc, ◌+◌, ◌<◌, ◌≤◌, Bool, true, false, eqb, List, [], ◌∷◌, ◌++◌, length, take, Some, None, Option, sym, refl, ap, ◌∙◌, subst, arith, length-append, take_at, lt-ltb, ne_eqb, eqb-true}
use borrow.Author.Tests.{clash, eqb-false}
use Rattle.std.proofs.lemmas.Bool.Decides.{nat_tests}
use Rattle.std.specs.List.{between, AllByRecursion}
use Rattle.names.specs.Names.{before}
use Rattle.tree.specs.Numbers.{be32, pad4}
use Rattle.blob.specs.Tokens.{Tok, begin, property, end, nop, finish, text_at, begin_at, property_at, token_at}
use Rattle.blob.specs.Grammar.{Text, IsToken, TokenSound, TokenComplete, TokenUnique, TokenAhead}
use Rattle.blob.proofs.Steps.{token-next}
use Rattle.blob.specs.declared.types.Layout.{Layout}

-- a list cut at its first zero
pub record Cut (xs : List ℕ) : Type 0 where
  pub rest : List ℕ
  pub split : xs ≡ take (before 0 xs) xs ++ (0 ∷ rest)
  pub full : AllByRecursion (λ b. b ≡ 0 → ⊥) (take (before 0 xs) xs)

cut-cons : (x : ℕ) (xs : List ℕ) (t : Bool) → eqb x 0 ≡ t → (t ≡ false → Cut xs) → Cut (x ∷ xs)
cut-cons x xs true e h = record { rest = xs; split = rw e (ap (λ y. y ∷ xs) (eqb-true x 0 e)); full = rw e tt }
cut-cons x xs false e h =
    let c = h refl in
    record { rest = c.rest; split = rw e (ap (λ ys. x ∷ ys) c.split); full = rw e (eqb-false x 0 e, c.full) }

cut : (xs : List ℕ) → before 0 xs < length xs → Cut xs
cut [] h = absurd (omega arith)
cut (x ∷ xs) h = cut-cons x xs (eqb x 0) refl (λ e. cut xs (let k : suc (before 0 xs) < suc (length xs) = rw e at h in omega arith))

before-is : (name rest : List ℕ) → AllByRecursion (λ b. b ≡ 0 → ⊥) name → before 0 (name ++ (0 ∷ rest)) ≡ length name
before-is [] rest a = refl
before-is (x ∷ name) rest a = rw (ne_eqb x 0 a.0) (ap suc (before-is name rest a.1))

module _ (bs : List ℕ) (from to : ℕ) (name : List ℕ) where
  pub text-sound : text_at bs from to ≡ Some name → Text bs from to name
  unfolding text_at
  text-sound e =
      let xs : List ℕ = between from to bs in
      let lt : before 0 xs < length xs = grind (arith, nat_tests) in
      let same : take (before 0 xs) xs ≡ name = grind (arith, nat_tests) in
      let c = cut xs lt in
      record { rest = c.rest; split = subst (λ n. xs ≡ n ++ (0 ∷ c.rest)) same c.split; full = subst (λ n. AllByRecursion (λ b. b ≡ 0 → ⊥) n) same c.full }

  pub text_complete : Text bs from to name → text_at bs from to ≡ Some name
  unfolding text_at
  text_complete x =
      let n = before-is name x.rest x.full in
      rw (x.split, n, length-append, take_at name (0 ∷ x.rest) (length name) refl, lt-ltb (length name) (length name + length (0 ∷ x.rest)) (omega arith))

module _ (bs : List ℕ) (l : Layout) (p : ℕ) where
  -- what a token with a name came from
  Begun : Tok → ℕ → Type 0
  Begun t n = (name : List ℕ) × (t ≡ begin name) × (text_at bs (p + 4) l.end ≡ Some name) × (n ≡ p + 4 + pad4 (length name + 1)) × (n ≤ l.end)

  begin-is : (t : Tok) (n : ℕ) → begin_at bs l p ≡ Some (t, n) → Begun t n
  unfolding begin_at Begun
  begin-is t n e = go (text_at bs (p + 4) l.end) refl
    where
      go : (o : Option (List ℕ)) → text_at bs (p + 4) l.end ≡ o → Begun t n
      go None h = let z : ◌≡◌ {A = ℕ} 0 1 = grind (arith, nat_tests) in absurd (omega arith)
      go (Some name) h = (name, grind (arith, nat_tests), h, grind (arith, nat_tests), grind (arith, nat_tests))

  Held : Tok → ℕ → Type 0
  Held t n =
      (name : List ℕ) × (t ≡ property name (between (p + 12) (p + 12 + be32 bs (p + 4)) bs)) × (text_at bs (l.strings + be32 bs (p + 8)) l.strings_end ≡ Some name)
      × (n ≡ p + 12 + pad4 (be32 bs (p + 4))) × (n ≤ l.end)

  property-is : (t : Tok) (n : ℕ) → property_at bs l p ≡ Some (t, n) → Held t n
  unfolding property_at Held
  property-is t n e = go (text_at bs (l.strings + be32 bs (p + 8)) l.strings_end) refl
    where
      go : (o : Option (List ℕ)) → text_at bs (l.strings + be32 bs (p + 8)) l.strings_end ≡ o → Held t n
      go None h = let z : ◌≡◌ {A = ℕ} 0 1 = grind (arith, nat_tests) in absurd (omega arith)
      go (Some name) h = (name, grind (arith, nat_tests), h, grind (arith, nat_tests), grind (arith, nat_tests))

  -- the same of a token whose name is known
  begin-named : (name : List ℕ) (n : ℕ) → begin_at bs l p ≡ Some (begin name, n) → (text_at bs (p + 4) l.end ≡ Some name) × (n ≡ p + 4 + pad4 (length name + 1)) × (n ≤ l.end)
  unfolding Begun
  begin-named name n e = go (begin-is (begin name) n e)
    where
      go : Begun (begin name) n → (text_at bs (p + 4) l.end ≡ Some name) × (n ≡ p + 4 + pad4 (length name + 1)) × (n ≤ l.end)
      go (x, t, h, k, w) = let same : x ≡ name = cc in (h ∙ ap Some same, rw (← same) k, w)

  property-named : (name value : List ℕ) (n : ℕ) → property_at bs l p ≡ Some (property name value, n)
      → (text_at bs (l.strings + be32 bs (p + 8)) l.strings_end ≡ Some name) × (value ≡ between (p + 12) (p + 12 + be32 bs (p + 4)) bs)
      × (n ≡ p + 12 + pad4 (be32 bs (p + 4))) × (n ≤ l.end)
  unfolding Held
  property-named name value n e = go (property-is (property name value) n e)
    where
      go : Held (property name value) n → (text_at bs (l.strings + be32 bs (p + 8)) l.strings_end ≡ Some name) × (value ≡ between (p + 12) (p + 12 + be32 bs (p + 4)) bs)
          × (n ≡ p + 12 + pad4 (be32 bs (p + 4))) × (n ≤ l.end)
      go (x, t, h, k, w) = let same : x ≡ name = cc in (h ∙ ap Some same, cc, k, w)

-- which kind of token: what no other kind gives
abbrev is_begin : Tok → Bool
is_begin (begin name) = true
is_begin (property name value) = false
is_begin end = false
is_begin nop = false
is_begin finish = false

abbrev is_property : Tok → Bool
is_property (begin name) = false
is_property (property name value) = true
is_property end = false
is_property nop = false
is_property finish = false

module _ (bs : List ℕ) (l : Layout) (p : ℕ) (n : ℕ) where
  not-begin : (t : Tok) → is_begin t ≡ false → begin_at bs l p ≡ Some (t, n) → ⊥
  unfolding Begun
  not-begin t f e = let b = begin-is bs l p t n e in let g : true ≡ false = sym (ap is_begin b.1) ∙ f in clash (sym g)

  not-property : (t : Tok) → is_property t ≡ false → property_at bs l p ≡ Some (t, n) → ⊥
  unfolding Held
  not-property t f e = let b = property-is bs l p t n e in let g : true ≡ false = sym (ap is_property b.1) ∙ f in clash (sym g)

  sound : (t : Tok) → token_at bs l p ≡ Some (t, n) → IsToken bs l p t n
  unfolding token_at
  sound (begin name) e =
      let q = not-property (begin name) refl in
      let b = begin-named bs l p name n (grind (arith, nat_tests)) in
      record { kind = grind (arith, nat_tests); text = text-sound bs (p + 4) l.end name b.0; next = b.1; held = b.2 }
  sound (property name value) e =
      let q = not-begin (property name value) refl in
      let b = property-named bs l p name value n (grind (arith, nat_tests)) in
      record { kind = grind (arith, nat_tests); text = text-sound bs (l.strings + be32 bs (p + 8)) l.strings_end name b.0; bytes = b.1; next = b.2; held = b.3 }
  sound end e =
      let b = not-begin end refl in
      let q = not-property end refl in
      record { kind = grind (arith, nat_tests); next = grind (arith, nat_tests); held = grind (arith, nat_tests) }
  sound nop e =
      let b = not-begin nop refl in
      let q = not-property nop refl in
      record { kind = grind (arith, nat_tests); next = grind (arith, nat_tests); held = grind (arith, nat_tests) }
  sound finish e =
      let b = not-begin finish refl in
      let q = not-property finish refl in
      (record { kind = grind (arith, nat_tests); next = grind (arith, nat_tests); held = grind (arith, nat_tests) }, grind (arith, nat_tests))

  complete : (t : Tok) → IsToken bs l p t n → token_at bs l p ≡ Some (t, n)
  unfolding token_at begin_at property_at
  complete (begin name) i =
      let x = text_complete bs (p + 4) l.end name i.text in
      grind (arith, nat_tests)
  complete (property name value) i =
      let x = text_complete bs (l.strings + be32 bs (p + 8)) l.strings_end name i.text in
      grind (arith, nat_tests)
  complete end i = grind (arith, nat_tests)
  complete nop i = grind (arith, nat_tests)
  complete finish i = grind (arith, nat_tests)

pub token-sound : TokenSound
token-sound bs l p t n = sound bs l p n t

pub token-complete : TokenComplete
token-complete bs l p t n = complete bs l p n t

one_answer : (o : Option (Tok × ℕ)) (t u : Tok) (n m : ℕ) → o ≡ Some (t, n) → o ≡ Some (u, m) → (t ≡ u) × (n ≡ m)
one_answer o t u n m a b = let e : ◌≡◌ {A = Tok × ℕ} (t, n) (u, m) = cc in (ap (λ s. s.0) e, ap (λ s. s.1) e)

pub token-unique : TokenUnique
token-unique bs l p t u n m a b = one_answer (token_at bs l p) t u n m (complete bs l p n t a) (complete bs l p m u b)

pub token-ahead : TokenAhead
token-ahead bs l p t n i = token-next bs l p t n (complete bs l p n t i)
