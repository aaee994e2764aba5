-- The tokens. Assumes nothing.
use Rattle.std.proofs.Common.{◌≡◌, ℕ, ◌+◌, ◌-◌, ◌<◌, ◌≤◌, leb, List, length, take, IfSome, Some, None, Option, sym, subst, arith, leb-true}
use Rattle.std.proofs.lemmas.Bool.{cond_both}
use Rattle.std.proofs.lemmas.Bool.Decides.{nat_tests}
use Rattle.std.specs.List.{between}
use Rattle.names.specs.Names.{before}
use Rattle.tree.specs.Numbers.{be32, pad4}
use Rattle.blob.specs.Tokens.{Tok, tok_of, step_of, property, text_at, on_text, within, begin_at, property_at, token_at}
use Rattle.blob.specs.declared.types.Layout.{Layout}
use Rattle.blob.specs.declared.types.Step.{Step}

pub text-none : (bs : List ℕ) (from to : ℕ) → to ≤ from → None ≡ text_at bs from to
unfolding text_at
text-none bs from to h = let z : to - from ≡ 0 = omega arith in rw z

-- the text of a part, by how many bytes come before its first zero byte
module _ (bs part : List ℕ) (from to n : ℕ) (is : part ≡ between from to bs) (e : n ≡ before 0 part) where
  pub text-first : n < length part → Some (take n part) ≡ text_at bs from to
  unfolding text_at
  text-first l = grind (arith, nat_tests)

  pub text-open : length part ≤ n → None ≡ text_at bs from to
  unfolding text_at
  text-open l = grind (arith, nat_tests)

-- a token has four bytes at least, and ends within the block
abbrev pub Bounded : ℕ → ℕ → Option (Tok × ℕ) → Type 0
Bounded p stop None = Unit {0}
Bounded p stop (Some s) = (p + 4 ≤ s.1) × (s.1 ≤ stop)

module _ (p stop : ℕ) where
  on-text : (o : Option (List ℕ)) (f : List ℕ → Option (Tok × ℕ)) → ((name : List ℕ) → Bounded p stop (f name)) → Bounded p stop (on_text o f)
  on-text None f h = tt
  on-text (Some name) f h = h name

  within-stop : (next : ℕ) (t : Tok) → p + 4 ≤ next → Bounded p stop (within next stop t)
  within-stop next t h = cond_both (leb next stop) _ _ (Bounded p stop) (λ e. (h, leb-true _ _ e)) (λ _. tt)

module _ (bs : List ℕ) (l : Layout) (p : ℕ) where
  begin_bounded : Bounded p l.end (begin_at bs l p)
  unfolding begin_at
  begin_bounded = on-text p l.end _ _ (λ name. within-stop p l.end _ _ (omega arith))

  property_bounded : Bounded p l.end (property_at bs l p)
  unfolding property_at
  property_bounded =
      let n : ℕ = be32 bs (p + 4) in
      let f : List ℕ → Option (Tok × ℕ) = λ name. Some (property name (between (p + 12) (p + 12 + n) bs), p + 12 + pad4 n) in
      cond_both (leb (p + 12) l.end) _ _ (Bounded p l.end)
      (λ _. cond_both (leb (p + 12 + pad4 n) l.end) _ _ (Bounded p l.end) (λ e. on-text p l.end _ f (λ name. (omega arith, leb-true _ _ e))) (λ _. tt))
      (λ _. tt)

  at_some : (o : Option (Tok × ℕ)) (t : Tok) (n : ℕ) → Bounded p l.end o → o ≡ Some (t, n) → (p + 4 ≤ n) × (n ≤ l.end)
  at_some o t n b e = subst (Bounded p l.end) e b

  pub token-next : (t : Tok) (n : ℕ) → token_at bs l p ≡ Some (t, n) → (p + 4 ≤ n) × (n ≤ l.end)
  unfolding token_at
  token-next t n e =
      let b = at_some (begin_at bs l p) t n begin_bounded in
      let q = at_some (property_at bs l p) t n property_bounded in
      grind (arith, nat_tests)

  pub step-bounds : (r : Option Step) → step_of r ≡ token_at bs l p → IfSome r (λ s. (p + 4 ≤ s.next) × (s.next ≤ l.end))
  step-bounds None e = tt
  step-bounds (Some s) e = token-next (tok_of s.token) s.next (sym e)
