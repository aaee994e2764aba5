-- What a rotation leaves of the used part of a list. Assumes nothing.
use Rattle.std.proofs.Common.{◌≡◌, ℕ, ◌+◌, ◌-◌, ◌≤◌, List, ◌++◌, length, take, drop, sym, ap, ◌∙◌, append_assoc, arith, length-drop}
use borrow.Rule.Slice.PartMut.{put_mid}
use Rattle.std.proofs.lemmas.List.{length-append, length-take-le, take_at, drop-drop, take-take, drop-take}
use Rattle.std.specs.List.{between}
use Rattle.std.proofs.Math.Seq.{take-append-add}
use Rattle.splices.specs.Splices.{spliced_in, spliced_out, written}

-- a part behind the used one, brought into it
pub brought : {X : Type 0} (xs ys : List X) (used at n k : ℕ) → at ≤ used → used + n ≤ length xs → k ≡ used + n - at
    → ys ≡ drop (length (take (used + n - at) (drop at xs)) - n) (take (used + n - at) (drop at xs)) ++ take (length (take (used + n - at) (drop at xs)) - n) (take (used + n - at) (drop at xs))
    → take (used + n) (put_mid at k xs ys) ≡ spliced_in (take used xs) at (between used (used + n) xs)
brought xs ys used at n k low room ek e =
    let part = take (used + n - at) (drop at xs) in
    let lw : length part ≡ used + n - at = length-take-le (used + n - at) (drop at xs) (omega (arith, length-drop at xs)) in
    let m : length part - n ≡ used - at = omega (arith, lw) in
    let z : at + (used - at) ≡ used = omega arith in
    let tail : take (length part - n) part ≡ drop at (take used xs) =
    ap (λ j. take j part) m ∙ take-take (used - at) (used + n - at) (drop at xs) (omega arith) ∙ sym (drop-take at (used - at) xs) ∙ ap (λ j. drop at (take j xs)) z in
    let y : used + n - at ≡ used - at + n = omega arith in
    let w : used + n - used ≡ n = omega arith in
    let front : drop (length part - n) part ≡ between used (used + n) xs =
    ap (λ j. drop j part) m ∙ ap (λ j. drop (used - at) (take j (drop at xs))) y ∙ drop-take (used - at) n (drop at xs)
    ∙ ap (take n) (drop-drop (used - at) at xs ∙ ap (λ j. drop j xs) z) ∙ ap (λ j. take j (drop used xs)) (sym w) in
    let a : take at xs ≡ take at (take used xs) = sym (take-take at used xs low) in
    let whole : put_mid at k xs ys ≡ (take at (take used xs) ++ (between used (used + n) xs ++ drop at (take used xs))) ++ drop k (drop at xs) =
    (λ i. a i ++ ((e ∙ (λ j. front j ++ tail j)) i ++ drop k (drop at xs)))
    ∙ sym (append_assoc (take at (take used xs)) (between used (used + n) xs ++ drop at (take used xs)) (drop k (drop at xs))) in
    let lu : length (take used xs) ≡ used = length-take-le used xs (omega arith) in
    let size : length (take at (take used xs) ++ (between used (used + n) xs ++ drop at (take used xs))) ≡ used + n =
    length-append (take at (take used xs)) (between used (used + n) xs ++ drop at (take used xs))
    ∙ omega (arith, length-append (between used (used + n) xs) (drop at (take used xs)), length-take-le at (take used xs) (omega arith), length-drop at (take used xs), length-take-le (used + n - used) (drop used xs) (omega (arith, length-drop used xs))) in
    ap (take (used + n)) whole ∙ take_at _ (drop k (drop at xs)) (used + n) size

-- a part taken out by a rotation to its end
pub closed : {X : Type 0} (xs ys : List X) (used at n k : ℕ) → at + n ≤ used → used ≤ length xs → k ≡ used - at → ys ≡ drop n (take (used - at) (drop at xs)) ++ take n (take (used - at) (drop at xs)) → take (used - n) (put_mid at k xs ys) ≡ spliced_out (take used xs) at n
closed xs ys used at n k low room ek e =
    let mid = take (used - at) (drop at xs) in
    let lm : length mid ≡ used - at = length-take-le (used - at) (drop at xs) (omega (arith, length-drop at xs)) in
    let whole : put_mid at k xs ys ≡ (take at xs ++ drop n mid) ++ (take n mid ++ drop k (drop at xs)) =
    (λ i. take at xs ++ (e i ++ drop k (drop at xs))) ∙ ap (λ t. take at xs ++ t) (append_assoc (drop n mid) (take n mid) (drop k (drop at xs))) ∙ sym (append_assoc (take at xs) (drop n mid) (take n mid ++ drop k (drop at xs))) in
    let size : length (take at xs ++ drop n mid) ≡ used - n = length-append (take at xs) (drop n mid) ∙ omega (arith, length-take-le at xs (omega arith), length-drop n mid, lm) in
    let a : take at (take used xs) ≡ take at xs = take-take at used xs (omega arith) in
    let z : at + (used - at) ≡ used = omega arith in
    let b : drop (at + n) (take used xs) ≡ drop n mid = sym (drop-drop n at (take used xs)) ∙ ap (drop n) (ap (λ j. drop at (take j xs)) (sym z) ∙ drop-take at (used - at) xs) in
    ap (take (used - n)) whole ∙ take_at (take at xs ++ drop n mid) _ (used - n) size ∙ (λ i. sym a i ++ sym b i)

-- a part of the used elements
pub part-is : {X : Type 0} (xs : List X) (used at n k : ℕ) → at + n ≤ used → k ≡ n → take k (drop at xs) ≡ take n (drop at (take used xs))
part-is xs used at n k low e =
    let z : at + (used - at) ≡ used = omega arith in
    ap (λ j. take j (drop at xs)) e
    ∙ sym (ap (take n) (ap (λ j. drop at (take j xs)) (sym z) ∙ drop-take at (used - at) xs) ∙ take-take n (used - at) (drop at xs) (omega arith))

-- what is written over used elements stays among them
pub written-within : {X : Type 0} (xs new : List X) (used at : ℕ) → at + length new ≤ used → used ≤ length xs → take used (written xs at new) ≡ written (take used xs) at new
written-within xs new used at low room =
    let j : ℕ = at + length new in
    let r : ℕ = used - (at + length new) in
    let z : at + length new + r ≡ used = omega arith in
    let l : length (take at xs ++ new) + r ≡ used = omega (arith, length-append (take at xs) new, length-take-le at xs (omega arith)) in
    let a : take at (take used xs) ≡ take at xs = take-take at used xs (omega arith) in
    let b : drop (at + length new) (take used xs) ≡ take r (drop (at + length new) xs) = ap (λ k. drop (at + length new) (take k xs)) (sym z) ∙ drop-take (at + length new) r xs in
    ap (take used) (sym (append_assoc (take at xs) new (drop j xs))) ∙ ap (λ k. take k ((take at xs ++ new) ++ drop j xs)) (sym l)
    ∙ take-append-add (take at xs ++ new) (drop j xs) r ∙ append_assoc (take at xs) new (take r (drop j xs)) ∙ (λ i. sym a i ++ (new ++ sym b i))
