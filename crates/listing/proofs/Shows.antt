-- Steps of how the bytes of a value are shown.
use Rattle.std.proofs.Common.{◌≡◌, ℕ, zero, suc, ◌+◌, ◌/◌, ◌%◌, ◌<◌, ◌≤◌, ◌==◌, min, nat_lt, Bool, true, false, cond, not, ◌&&◌, List, [], ◌∷◌, ◌++◌, length, slice_index, get_or, take, drop, Option, MatchOption, refl, sym, ap, subst, ◌∙◌, append_assoc, append-nil, length-append, true≢false, inl, inr, arith, Bor}
use Rattle.std.specs.Fn.{Mut, CalledAt, ComputesKey}
use Rattle.std.specs.List.{list_all, onto_first, IsFirstMatchOrLen}
use Rattle.std.specs.Slice.Iter.{split_inclusive_rest, split_inclusive_callee}
use Rattle.std.specs.declared.slice.SplitInclusive.{SplitInclusive}
use Rattle.std.proofs.lemmas.Fn.{always_returns_same}
use Rattle.std.proofs.lemmas.Iterator.{YieldsList}
use Rattle.std.proofs.lemmas.Iterator.Splits.{YieldsList-from_shown_while}
use Rattle.std.proofs.lemmas.List.{at_drop_more, at_drop_all, take_more}
use Rattle.std.proofs.lemmas.Bool.{and_parts, cases_lt, eqb-true}
use Rattle.std.proofs.lemmas.Bool.Decides.{nat_tests}
use Rattle.hex.specs.Hex.{encode_lower, encode_with, lower_digits}
use Rattle.listing.specs.Shown.{hex_digit, hex, printable, zero_last, ended, runs, is_text, shown_byte, shown_bytes}

-- ---- hexadecimal

-- the first n digits agree, as a test that computes
abbrev agree : ℕ → Bool
agree zero = true
agree (suc n) = slice_index lower_digits n == hex_digit n && agree n

agree_at : (n k : ℕ) → agree n ≡ true → k < n → slice_index lower_digits k ≡ hex_digit k
agree_at zero k h lt = absurd (omega arith)
agree_at (suc n) k h lt =
    let parts = and_parts (slice_index lower_digits n == hex_digit n) (agree n) h in
    elim (cases_lt k n) [
      | inl below ↦ agree_at n k parts.1 below
      | inr top ↦
          let e : k ≡ n = omega arith in
          rw e (eqb-true _ _ parts.0)
    ]

pub hex_byte : (b : ℕ) → b < 256 → encode_lower (b ∷ []) ≡ hex (b ∷ [])
unfolding encode_with
hex_byte b fits =
    let x = agree_at 16 (b / 16) refl (omega arith) in
    let y = agree_at 16 (b % 16) refl (omega arith) in
    λ i. x i ∷ y i ∷ []

pub hex-more :
    (was bs v₀ v₁ ds : List ℕ)
    (i : ℕ) →
    i < length bs →
    v₀ ++ hex (drop i bs) ≡ was →
    ds ≡ hex (get_or bs i 0 ∷ []) →
    v₁ ≡ v₀ ++ ds →
    v₁ ++ hex (drop (i + 1) bs) ≡ was
hex-more was bs v₀ v₁ ds i h e d p =
    let rest = hex (drop (i + 1) bs) in
    ap (λ (xs : List ℕ). xs ++ rest) (p ∙ ap (λ (xs : List ℕ). v₀ ++ xs) d)
    ∙ append_assoc v₀ (hex (get_or bs i 0 ∷ [])) rest
    ∙ ap (λ (xs : List ℕ). v₀ ++ xs) (sym (at_drop_more hex bs i 0 h))
    ∙ e

pub hex-all : (was bs v : List ℕ) (i : ℕ) → length bs ≤ i → v ++ hex (drop i bs) ≡ was → v ≡ was
hex-all was bs v i h e = sym (append-nil v) ∙ ap (λ xs. v ++ xs) (sym (at_drop_all hex bs i h)) ∙ e

-- ---- the parts that `split_inclusive` gives

-- each with the element that ended it
abbrev pub cuts : (ℕ → Bool) → List ℕ → List (List ℕ)
cuts p [] = []
cuts p (x ∷ xs) = cond (p x) ((x ∷ []) ∷ cuts p xs) (onto_first x (cuts p xs))

cut : (p : ℕ → Bool) (x rest : List ℕ) (i : ℕ) → length x ≡ min (i + 1) (length (x ++ rest)) → IsFirstMatchOrLen p (x ++ rest) i → 0 < length (x ++ rest) → cuts p (x ++ rest) ≡ x ∷ cuts p rest
cut p [] rest i l h s = absurd (omega arith)
cut p (y ∷ []) rest zero l h s = ap (λ (b : Bool). cond b ((y ∷ []) ∷ cuts p rest) (onto_first y (cuts p rest))) (h.1 (omega arith) y)
cut p (y ∷ []) [] (suc i) l h s = ap (λ (b : Bool). cond b ((y ∷ []) ∷ []) (onto_first y [])) (h.0 0 y (omega arith) (omega arith))
cut p (y ∷ []) (z ∷ rest) (suc i) l h s = absurd (omega arith)
cut p (y ∷ z ∷ x) rest zero l h s = absurd (omega arith)
cut p (y ∷ z ∷ x) rest (suc i) l h s =
    ap (λ (b : Bool). cond b ((y ∷ []) ∷ cuts p (z ∷ x ++ rest)) (onto_first y (cuts p (z ∷ x ++ rest)))) (h.0 0 y (omega arith) (omega arith))
    ∙ ap (onto_first y) (cut p (z ∷ x) rest i (omega arith) (λ k d a b. h.0 (suc k) d (omega arith) (omega arith), λ b d. h.1 (omega arith) d) (omega arith))

-- the clause of `next`
abbrev pub inclusive_steps : {F : Type 0} → Mut F (Bor ℕ × Unit {0}) Bool → SplitInclusive ℕ F → Option (Bor (List ℕ)) → SplitInclusive ℕ F → Type 0
inclusive_steps g s r t = MatchOption r ((length (split_inclusive_rest s) ≡ 0) × (t ≡ s))
    (λ x. (split_inclusive_rest s ≡ x.now ++ split_inclusive_rest t)
    × ((i : ℕ) × (length x.now ≡ min (i + 1) (length (split_inclusive_rest s))) × ((p : ℕ → Bool) → ComputesKey g p (split_inclusive_callee s) → ComputesKey g p (split_inclusive_callee t) × IsFirstMatchOrLen p (split_inclusive_rest s) i))
    × (0 < length (split_inclusive_rest s)))

cut-all : (p : ℕ → Bool) (xs x rest : List ℕ) (i : ℕ) → xs ≡ x ++ rest → length x ≡ min (i + 1) (length xs) → IsFirstMatchOrLen p xs i → 0 < length xs → cuts p xs ≡ x ∷ cuts p rest
cut-all p xs x rest i e l h s = ap (cuts p) e ∙ cut p x rest i (rw e at l) (rw e at h) (rw e at s)

none-left : (p : ℕ → Bool) (xs : List ℕ) → length xs ≡ 0 → length (cuts p xs) ≡ 0
none-left p [] h = refl
none-left p (x ∷ xs) h = absurd (omega arith)

pub YieldsList-from_cuts :
    {F : Type 0}
    {s : SplitInclusive ℕ F}
    (g : Mut F (Bor ℕ × Unit {0}) Bool)
    (p : ℕ → Bool)
    {f : F}
    (xs : List ℕ) →
    split_inclusive_rest s ≡ xs →
    split_inclusive_callee s ≡ f →
    ((x : ℕ) (b : Bool) (q : F) → CalledAt g f x b q → (q ≡ f) × (b ≡ p x)) →
    YieldsList (inclusive_steps g) (λ x. x.now) s (cuts p xs)
YieldsList-from_cuts {s = s} g p {f} xs rest closure tests =
    subst (λ ys. YieldsList (inclusive_steps g) (λ x. x.now) s (cuts p ys)) rest
    (YieldsList-from_shown_while (inclusive_steps g) (λ x. x.now) (λ t. cuts p (split_inclusive_rest t)) (λ t. ComputesKey g p (split_inclusive_callee t))
    (λ t u h k. none-left p (split_inclusive_rest t) k.0)
    (λ t x u h k. let m = k.1.2 p h in (m.0, cut-all p (split_inclusive_rest t) x.now (split_inclusive_rest u) k.1.0 k.0 k.1.1 m.1 k.2))
    s (subst (ComputesKey g p) (sym closure) (always_returns_same g (λ a r. r ≡ p a.0.now) f (λ a r q k. let m = tests a.0.now r q (record { shown = a.0; shows = refl; called = k }) in (m.1, m.0)))))

-- ---- text

-- what is not printable ends a part
abbrev pub other : ℕ → Bool
other b = not (printable b)

-- the parts are ended; `began` where something stands before the first
abbrev ends : Bool → List (List ℕ) → Bool
ends false ps = list_all ended ps
ends true [] = false
ends true (p ∷ ps) = zero_last p && list_all ended ps

end-zero : (began : Bool) (x : ℕ) (ps : List (List ℕ)) → (x == 0) ≡ true → (began && list_all ended ps) ≡ ends began ((x ∷ []) ∷ ps)
end-zero true x ps e = ap (λ (b : Bool). b && list_all ended ps) (sym e)
end-zero false x ps e = refl

end-other : (began : Bool) (x : ℕ) (ps : List (List ℕ)) → (x == 0) ≡ false → false ≡ ends began ((x ∷ []) ∷ ps)
end-other true x ps e = ap (λ (b : Bool). b && list_all ended ps) (sym e)
end-other false x ps e = refl

end-grows : (began : Bool) (x : ℕ) (ps : List (List ℕ)) → (x == 0) ≡ false → ends true ps ≡ ends began (onto_first x ps)
end-grows began x [] e = end-other began x [] e
end-grows began x ([] ∷ ps) e = end-other began x ps e
end-grows true x ((y ∷ p) ∷ ps) e = refl
end-grows false x ((y ∷ p) ∷ ps) e =
    let n : nat_lt 1 (length (x ∷ y ∷ p)) ≡ true = grind (arith, nat_tests) in
    ap (λ (b : Bool). (b && zero_last (y ∷ p)) && list_all ended ps) (sym n)

part-step :
    (began : Bool)
    (x : ℕ)
    (r s : Bool)
    (ps : List (List ℕ)) →
    r ≡ ends false ps →
    s ≡ ends true ps →
    cond (x == 0) (began && r) (printable x && s) ≡ ends began (cond (not (printable x)) ((x ∷ []) ∷ ps) (onto_first x ps))
part-step began x r s ps p q = go (x == 0) (printable x) refl refl
  where
    go : (z w : Bool) → (x == 0) ≡ z → printable x ≡ w → cond z (began && r) (w && s) ≡ ends began (cond (not w) ((x ∷ []) ∷ ps) (onto_first x ps))
    go true true e f = absurd (true≢false (sym f ∙ ap printable (eqb-true x 0 e)))
    go true false e f = ap (λ (b : Bool). began && b) p ∙ end-zero began x ps e
    go false true e f = q ∙ end-grows began x ps e
    go false false e f = end-other began x ps e

runs-cuts : (began : Bool) (xs : List ℕ) → runs began xs ≡ ends began (cuts other xs)
runs-cuts true [] = refl
runs-cuts false [] = refl
runs-cuts began (x ∷ xs) = part-step began x _ _ (cuts other xs) (runs-cuts false xs) (runs-cuts true xs)

text-ends : (v xs : List ℕ) (z : ℕ) → v ≡ xs ++ (z ∷ []) → is_text v ≡ runs false (xs ++ (z ∷ []))
text-ends v xs z p =
    let n : length v ≡ length xs + 1 = ap length p ∙ length-append xs (z ∷ []) in
    let some : not (length v == 0) ≡ true = grind (arith, nat_tests) in
    ap (λ (b : Bool). b && runs false v) some ∙ ap (λ (l : List ℕ). runs false l) p

pub text_cuts : (v xs : List ℕ) (z : ℕ) → v ≡ xs ++ (z ∷ []) → list_all ended (cuts other v) ≡ is_text v
text_cuts v xs z p = sym (runs-cuts false v) ∙ ap (runs false) p ∙ sym (text-ends v xs z p)

pub ended_last : (part text : List ℕ) (z : ℕ) → part ≡ text ++ (z ∷ []) → (z == 0 && not (length text == 0)) ≡ ended part
ended_last part text z p =
    let n : length part ≡ length text + 1 = ap length p ∙ length-append text (z ∷ []) in
    let l : zero_last part ≡ (z == 0) = ap zero_last p ∙ last text z in
    let some : nat_lt 1 (length part) ≡ not (length text == 0) = grind (arith, nat_tests) in
    swap (z == 0) (not (length text == 0)) ∙ λ i. sym some i && sym l i
  where
    last : (xs : List ℕ) (z : ℕ) → zero_last (xs ++ (z ∷ [])) ≡ (z == 0)
    last [] z = refl
    last (x ∷ []) z = refl
    last (x ∷ y ∷ xs) z = last (y ∷ xs) z

    swap : (a b : Bool) → (a && b) ≡ (b && a)
    swap true true = refl
    swap true false = refl
    swap false true = refl
    swap false false = refl

-- what does not end with a zero byte is none
shut : (b m n : Bool) → cond b (m && false) (n && false) ≡ false
shut true true n = refl
shut true false n = refl
shut false m true = refl
shut false m false = refl

runs-open : (began : Bool) (xs : List ℕ) (z : ℕ) → (z == 0) ≡ false → runs began (xs ++ (z ∷ [])) ≡ false
runs-open began [] z e = ap (λ (b : Bool). cond b (began && true) (printable z && false)) e ∙ shut false began (printable z)
runs-open began (x ∷ xs) z e =
    (λ i. cond (x == 0) (began && runs-open false xs z e i) (printable x && runs-open true xs z e i)) ∙ shut (x == 0) began (printable x)

pub text_open : (v xs : List ℕ) (z : ℕ) → v ≡ xs ++ (z ∷ []) → (z == 0) ≡ false → false ≡ is_text v
text_open v xs z p e = sym (text-ends v xs z p ∙ runs-open false xs z e)

-- ---- between quotes

pub shown-more :
    (v : List ℕ)
    (i : ℕ) →
    i < length v →
    shown_bytes (take (i + 1) v) ≡ shown_bytes (take i v) ++ shown_byte (get_or v i 0)
shown-more v i h = ap shown_bytes (take_more v i 0 h) ∙ shown-last (take i v) (get_or v i 0)
  where
    shown-last : (xs : List ℕ) (b : ℕ) → shown_bytes (xs ++ (b ∷ [])) ≡ shown_bytes xs ++ shown_byte b
    shown-last [] b = append-nil (shown_byte b)
    shown-last (x ∷ xs) b = ap (λ l. shown_byte x ++ l) (shown-last xs b) ∙ sym (append_assoc (shown_byte x) (shown_bytes xs) (shown_byte b))
