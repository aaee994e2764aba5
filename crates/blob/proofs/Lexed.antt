-- The tokens from an offset on, one step at a time. Assumes nothing.
use Rattle.std.proofs.Common.{◌≡◌, ℕ, zero, suc, ◌+◌, ◌-◌, ◌<◌, ◌≤◌, List, [], ◌∷◌, Some, None, Option, refl, ap, arith}
use Rattle.blob.specs.Lexing.{Tokens, more, lex, tokens_from, Rising, NoToken, Follow, TokensFollow, TokensOnly, TokensRise}
use Rattle.blob.specs.Tokens.{Tok, token_at}
use Rattle.blob.specs.declared.types.Layout.{Layout}
use Rattle.blob.proofs.Shapes.{token-sound, token-complete}
use Rattle.blob.proofs.Steps.{token-next}

more_same : (p : ℕ) (o : Option (Tok × ℕ)) (k m : ℕ → Tokens) → ((s : Tok × ℕ) → o ≡ Some s → k s.1 ≡ m s.1) → more p o k ≡ more p o m
more_same p None k m h = refl
more_same p (Some s) k m h = ap (λ ts. (p, Some s.0) ∷ ts) (h s refl)

more-rising : (p b : ℕ) (o : Option (Tok × ℕ)) (k : ℕ → Tokens) → b ≤ p → ((s : Tok × ℕ) → o ≡ Some s → Rising (p + 1) (k s.1)) → Rising b (more p o k)
more-rising p b None k h r = (h, tt)
more-rising p b (Some s) k h r = (h, r s refl)

module _ (bs : List ℕ) (l : Layout) where
  -- any number past the bytes that are left will do
  lex-same : (n m p : ℕ) → l.end - p < n → l.end - p < m → lex bs l n p ≡ lex bs l m p
  unfolding lex
  lex-same zero m p h k = absurd (omega arith)
  lex-same (suc n) zero p h k = absurd (omega arith)
  lex-same (suc n) (suc m) p h k =
      more_same p (token_at bs l p) _ _
      (λ s e. lex-same n m s.1 (omega (arith, token-next bs l p s.0 s.1 e)) (omega (arith, token-next bs l p s.0 s.1 e)))

  lex-rising : (n p b : ℕ) → b ≤ p → Rising b (lex bs l n p)
  unfolding lex
  lex-rising zero p b h = (h, tt)
  lex-rising (suc n) p b h = more-rising p b (token_at bs l p) _ h (λ s e. lex-rising n s.1 (p + 1) (omega (arith, token-next bs l p s.0 s.1 e)))

  module _ (p : ℕ) where
    pub tokens_none : token_at bs l p ≡ None → tokens_from bs l p ≡ (p, None) ∷ []
    unfolding lex tokens_from
    tokens_none e = rw e

    pub tokens-some : (t : Tok) (next : ℕ) → token_at bs l p ≡ Some (t, next) → tokens_from bs l p ≡ (p, Some t) ∷ tokens_from bs l next
    unfolding lex tokens_from
    tokens-some t next e =
        let b = token-next bs l p t next e in
        rw e (ap (λ ts. (p, Some t) ∷ ts) (lex-same (l.end - p) (suc (l.end - next)) next (omega arith) (omega arith)))

    -- the first token stands at p
    pub tokens-at : (ts : Tokens) × (o : Option Tok) × (tokens_from bs l p ≡ (p, o) ∷ ts)
    unfolding lex tokens_from
    tokens-at = head (token_at bs l p)
      where
        head : (o : Option (Tok × ℕ)) → (ts : Tokens) × (t : Option Tok) × (more p o (λ q. lex bs l (l.end - p) q) ≡ (p, t) ∷ ts)
        head None = ([], None, refl)
        head (Some s) = (lex bs l (l.end - p) s.1, Some s.0, refl)

    none-there : token_at bs l p ≡ None → NoToken bs l p
    none-there e t n i = let q = token-complete bs l p t n i in let z : ◌≡◌ {A = ℕ} 0 1 = cc in absurd (omega arith)

    there-none : NoToken bs l p → token_at bs l p ≡ None
    there-none h = go (token_at bs l p) refl
      where
        go : (o : Option (Tok × ℕ)) → token_at bs l p ≡ o → token_at bs l p ≡ None
        go None e = e
        go (Some s) e = absurd (h s.0 s.1 (token-sound bs l p s.0 s.1 e))

  follow-on : (p : ℕ) (o : Option (Tok × ℕ)) → token_at bs l p ≡ o → ((s : Tok × ℕ) → o ≡ Some s → Follow bs l s.1 (tokens_from bs l s.1)) → Follow bs l p (tokens_from bs l p)
  follow-on p None e k = rw (tokens_none p e) (refl, none-there p e, refl)
  follow-on p (Some s) e k = rw (tokens-some p s.0 s.1 e) (refl, (s.1, token-sound bs l p s.0 s.1 e, k s refl))

  -- by what is left of the block
  follow-from : (n p : ℕ) → l.end - p < n → Follow bs l p (tokens_from bs l p)
  follow-from zero p h = absurd (omega arith)
  follow-from (suc n) p h = follow-on p (token_at bs l p) refl (λ s e. follow-from n s.1 (omega (arith, token-next bs l p s.0 s.1 e)))

  follow-only : (ts : Tokens) (p : ℕ) → Follow bs l p ts → ts ≡ tokens_from bs l p
  follow-only [] p f = absurd f
  follow-only ((at, None) ∷ ts) p f = rw (tokens_none p (there-none p f.1), f.0, f.2)
  follow-only ((at, Some t) ∷ ts) p f =
      let n : ℕ = f.1.0 in
      rw (tokens-some p t n (token-complete bs l p t n f.1.1), f.0) (ap (λ us. (p, Some t) ∷ us) (follow-only ts n f.1.2))

pub tokens-follow : TokensFollow
tokens-follow bs l p = follow-from bs l (suc (l.end - p)) p (omega arith)

pub tokens-only : TokensOnly
tokens-only bs l p ts f = follow-only bs l ts p f

pub tokens_rise : TokensRise
unfolding tokens_from
tokens_rise bs l p = lex-rising bs l _ p p (omega arith)
