-- Bytes written behind others. Assumes nothing.
use Rattle.std.proofs.Common.{◌≡◌, ℕ, suc, ◌+◌, ◌-◌, ◌≤◌, [], ◌∷◌, ◌++◌, length, take, drop, replicate, sym, ap, ◌∙◌, append_assoc, arith, length-append}
use Rattle.std.proofs.lemmas.List.{take_at, drop_at, take-take}
use Rattle.std.specs.List.{between}
use Rattle.tree.specs.Numbers.{pad4}
use Rattle.tree.specs.Places.{Bytes}
use Rattle.packed.specs.Packing.{padded}
use Rattle.splices.specs.Splices.{spliced_in, spliced_out}

-- a zero byte behind a text, and padding
pub padding : (name : Bytes) (n : ℕ) → n ≡ pad4 (length name + 1) - length name → name ++ replicate n 0 ≡ padded (name ++ (0 ∷ []))
padding name n e =
    let a = length-append name (0 ∷ []) in
    let b = ap pad4 a in
    let j : ℕ = pad4 (length (name ++ (0 ∷ []))) - length (name ++ (0 ∷ [])) in
    let z : n ≡ suc j = omega arith in
    ap (λ k. name ++ replicate k 0) z ∙ sym (append_assoc name (0 ∷ []) (replicate j 0))

-- what was brought in
pub brought-in : (m n : Bytes) (f t a b : Bytes) (used at j k : ℕ) → take k m ≡ f ++ t → k ≡ used + j → length f ≡ used → length t ≡ j → f ≡ a ++ b → length a ≡ at
    → take k n ≡ spliced_in (take used m) at (between used k m) → take k n ≡ a ++ (t ++ b)
brought-in m n f t a b used at j k e ek lf lt s la h =
    let low : used ≤ k = omega arith in
    let one : take used m ≡ f = sym (take-take used k m low) ∙ ap (take used) e ∙ take_at f t used lf in
    let w : k - used ≡ j = omega arith in
    let two : between used k m ≡ t =
    Rattle.std.proofs.lemmas.Slice.between_is m used k ∙ ap (drop used) e ∙ drop_at f t used lf in
    let p : take at f ≡ a = ap (take at) s ∙ take_at a b at la in
    let q : drop at f ≡ b = ap (drop at) s ∙ drop_at a b at la in
    h ∙ (λ i. take at (one i) ++ (two i ++ drop at (one i))) ∙ (λ i. p i ++ (t ++ q i))

-- what was taken out
pub taken_out : (m n : Bytes) (a t b : Bytes) (used at j k : ℕ) → take used m ≡ a ++ (t ++ b) → length a ≡ at → length t ≡ j → take k n ≡ spliced_out (take used m) at j → take k n ≡ a ++ b
taken_out m n a t b used at j k e la lt h =
    let p : take at (take used m) ≡ a = ap (take at) e ∙ take_at a (t ++ b) at la in
    let la2 = length-append a t in
    let q : drop (at + j) (take used m) ≡ b = ap (drop (at + j)) (e ∙ sym (append_assoc a t b)) ∙ drop_at (a ++ t) b (at + j) (omega arith) in
    h ∙ (λ i. p i ++ q i)
