-- A text that is read by parts of one length: where the run of a test ends, part by part. Assumes nothing.
use Rattle.std.proofs.Common.{◌≡◌, ℕ, zero, suc, ◌+◌, ◌-◌, ◌*◌, ◌<◌, ◌≤◌, Bool, not, List, [], ◌∷◌, length, get_or, take, drop, Option, Some, None, sym, refl, ap, ◌∙◌, arith, length-drop}
use native.Mathlib.Nat.{mul-suc, mul-zero}
use Rattle.std.specs.List.{position, position_or_len, prefix_len}
use Rattle.std.specs.Simd.{first_chunks}
use Rattle.std.proofs.lemmas.List.{drop-drop}
use Rattle.std.proofs.lemmas.Bool.Decides.{nat_tests}
use Rattle.std.specs.Option.{unwrap_or}
use Rattle.names.proofs.Words.{unless_first}

-- part i of those of length n starts at m
part-from : (n c : ℕ) (s : List ℕ) (i m : ℕ) → i < c → m ≡ n * i → get_or (first_chunks n c s) i [] ≡ take n (drop m s)
part-from n zero s i m h e = absurd (omega arith)
part-from n (suc c) s zero m h e = ap (λ k. take n (drop k s)) (sym (e ∙ mul-zero n))
part-from n (suc c) s (suc i) m h e =
    let f : n + n * i ≡ m = omega (arith, e, mul-suc n i) in
    part-from n c (drop n s) i (n * i) (omega arith) refl
    ∙ ap (take n) (drop-drop (n * i) n s)
    ∙ ap (λ k. take n (drop k s)) f

pub part-at : (n c : ℕ) (s : List ℕ) (parts : List (List ℕ)) (i m : ℕ) → parts ≡ first_chunks n c s → i < c → m ≡ n * i → get_or parts i [] ≡ take n (drop m s)
part-at n c s parts i m f h e = ap (λ xs. get_or xs i []) f ∙ part-from n c s i m h e

-- the run ends in the first n bytes, or goes through them
run-front : (p : ℕ → Bool) (n : ℕ) (t : List ℕ) → prefix_len p (take n t) < length (take n t) → prefix_len p t ≡ prefix_len p (take n t)
run-front p zero t h = absurd (omega arith)
run-front p (suc n) [] h = absurd (omega arith)
run-front p (suc n) (x ∷ t) h = let i = run-front p n t in grind (arith, nat_tests)

run-through : (p : ℕ → Bool) (n : ℕ) (t : List ℕ) → n ≤ length t → length (take n t) ≤ prefix_len p (take n t) → prefix_len p t ≡ n + prefix_len p (drop n t)
run-through p zero t l h = omega arith
run-through p (suc n) [] l h = absurd (omega arith)
run-through p (suc n) (x ∷ t) l h = let i = run-through p n t in grind (arith, nat_tests)

-- a loop over the parts for the first byte that passes, which has come to the part from m on
module _ (q : ℕ → Bool) (n m : ℕ) (s x : List ℕ) (r : Option ℕ) (is : x ≡ take n (drop m s)) (fits : m + n ≤ length s) (found : r ≡ position q x) (inv : position_or_len q s ≡ m + position_or_len q (drop m s)) where
  pub part-ends : (k : ℕ) → r ≡ Some k → m + k ≡ position_or_len q s
  part-ends k e = let a = run-front (λ y. not (q y)) n (drop m s) in grind (arith, nat_tests)

  pub part-passes : r ≡ None → position_or_len q s ≡ (m + n) + position_or_len q (drop (m + n) s)
  part-passes e =
      let a = run-through (λ y. not (q y)) n (drop m s) in
      let d = drop-drop n m s in
      let l = length-drop m s in
      grind (arith, nat_tests)

-- the bytes behind the last part
pub parts-end : (q : ℕ → Bool) (m : ℕ) (s t : List ℕ) → m ≤ length s → t ≡ drop m s → position_or_len q s ≡ m + position_or_len q (drop m s) → length s - length t + unwrap_or (position q t) (length t) ≡ position_or_len q s
parts-end q m s t l e inv =
    let a = unless_first q t in
    let b = ap length e in
    let c = ap (position_or_len q) e in
    omega (arith, a, b, c, inv, length-drop m s)
