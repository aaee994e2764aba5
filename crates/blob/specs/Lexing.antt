-- The tokens of a structure block as one list. Assumes nothing.
use Rattle.std.specs.Prelude.{◌≡◌, ℕ, zero, suc, ◌+◌, ◌-◌, ◌≤◌, List, [], ◌∷◌, Some, None, Option}
use Rattle.blob.specs.Grammar.{IsToken}
use Rattle.blob.specs.Tokens.{Tok, token_at}
use Rattle.blob.specs.declared.types.Layout.{Layout}

-- tokens with their byte offsets; the last one is faulty
abbrev pub Tokens : Type 0
Tokens = List (ℕ × Option Tok)

-- the token at p, if it is sound, and then k of where the next one starts
abbrev pub more : ℕ → Option (Tok × ℕ) → (ℕ → Tokens) → Tokens
more p None k = (p, None) ∷ []
more p (Some s) k = (p, Some s.0) ∷ k s.1

-- the tokens from p on, up to a faulty one; n is past their number
unfoldable pub lex : List ℕ → Layout → ℕ → ℕ → Tokens
lex bs l zero p = (p, None) ∷ []
lex bs l (suc n) p = more p (token_at bs l p) (λ q. lex bs l n q)

-- the tokens from p on, up to a faulty one, which is at the end of the block if nowhere before
unfoldable pub tokens_from : List ℕ → Layout → ℕ → Tokens
tokens_from bs l p = lex bs l (suc (l.end - p)) p

-- offsets rise, from b on
abbrev pub Rising : ℕ → Tokens → Type 0
Rising b [] = Unit {0}
Rising b (x ∷ ts) = (b ≤ x.0) × Rising (x.0 + 1) ts

-- ---- the same in words of the format

-- no token stands at p
abbrev pub NoToken : List ℕ → Layout → ℕ → Type 0
NoToken bs l p = (t : Tok) (n : ℕ) → IsToken bs l p t n → ⊥

-- ts are the tokens from p on: each starts where the one before it ends, and the last is none by the format
abbrev pub Follow : List ℕ → Layout → ℕ → Tokens → Type 0
Follow bs l p [] = ⊥
Follow bs l p ((at, None) ∷ ts) = (at ≡ p) × NoToken bs l p × (ts ≡ [])
Follow bs l p ((at, Some t) ∷ ts) = (at ≡ p) × ((n : ℕ) × IsToken bs l p t n × Follow bs l n ts)

abbrev pub TokensFollow : Type 0
TokensFollow = (bs : List ℕ) (l : Layout) (p : ℕ) → Follow bs l p (tokens_from bs l p)

abbrev pub TokensOnly : Type 0
TokensOnly = (bs : List ℕ) (l : Layout) (p : ℕ) (ts : Tokens) → Follow bs l p ts → ts ≡ tokens_from bs l p

abbrev pub TokensRise : Type 0
TokensRise = (bs : List ℕ) (l : Layout) (p : ℕ) → Rising p (tokens_from bs l p)
