-- Numbers and texts as they stand in bytes. Assumes nothing.
use Rattle.std.proofs.Common.{◌≡◌, ℕ, zero, suc, ◌+◌, ◌-◌, ◌^◌, ◌<◌, ◌≤◌, [], ◌∷◌, ◌++◌, length, get_or, take, drop, replicate, sym, refl, ap, ◌∙◌, add-zero, add_assoc, arith, length-append}
use Rattle.std.proofs.lemmas.List.{get_or-append-add, drop_at, drop-drop, length-replicate}
use Rattle.std.specs.List.{between}
use Rattle.tree.specs.Numbers.{be32, bytes32, pad4}
use Rattle.tree.specs.Places.{Bytes}
use Rattle.writer.specs.Written.{padded}

-- behind a front
pub be32-behind : (xs ys : Bytes) (i : ℕ) → be32 (xs ++ ys) (length xs + i) ≡ be32 ys i
unfolding be32
be32-behind xs ys i =
    let a = get_or-append-add xs ys i 0 in
    let b : get_or (xs ++ ys) (length xs + i + 1) 0 ≡ get_or ys (i + 1) 0 = ap (λ k. get_or (xs ++ ys) k 0) (add_assoc (length xs) i 1) ∙ get_or-append-add xs ys (i + 1) 0 in
    let c : get_or (xs ++ ys) (length xs + i + 2) 0 ≡ get_or ys (i + 2) 0 = ap (λ k. get_or (xs ++ ys) k 0) (add_assoc (length xs) i 2) ∙ get_or-append-add xs ys (i + 2) 0 in
    let d : get_or (xs ++ ys) (length xs + i + 3) 0 ≡ get_or ys (i + 3) 0 = ap (λ k. get_or (xs ++ ys) k 0) (add_assoc (length xs) i 3) ∙ get_or-append-add xs ys (i + 3) 0 in
    omega arith

-- the four bytes of a number are that number
pub be32-bytes : (n : ℕ) (ys : Bytes) → n < 2 ^ 32 → be32 (bytes32 n ++ ys) 0 ≡ n
unfolding be32
be32-bytes n ys h = omega arith

pub be32-here : (xs ys : Bytes) (n : ℕ) → n < 2 ^ 32 → be32 (xs ++ (bytes32 n ++ ys)) (length xs) ≡ n
be32-here xs ys n h = ap (be32 (xs ++ (bytes32 n ++ ys))) (sym (add-zero (length xs))) ∙ be32-behind xs (bytes32 n ++ ys) 0 ∙ be32-bytes n ys h

-- the bytes of a part that stands behind a front
pub take_through : (n : ℕ) (xs ys : Bytes) → length xs ≤ n → take n (xs ++ ys) ≡ xs ++ take (n - length xs) ys
take_through n [] ys h = let z : n - 0 ≡ n = omega arith in ap (λ k. take k ys) (sym z)
take_through zero (x ∷ xs) ys h = absurd (omega arith)
take_through (suc n) (x ∷ xs) ys h =
    let r = take_through n xs ys (omega arith) in
    let e : suc n - suc (length xs) ≡ n - length xs = omega arith in
    ap (λ zs. x ∷ zs) (r ∙ ap (λ k. xs ++ take k ys) (sym e))

pub between-behind : (xs ys : Bytes) (i j : ℕ) → between (length xs + i) (length xs + j) (xs ++ ys) ≡ between i j ys
between-behind xs ys i j =
    let e : length xs + j - (length xs + i) ≡ j - i = omega arith in
    (λ k. take (e k) (drop (length xs + i) (xs ++ ys)))
    ∙ ap (take (j - i)) (sym (drop-drop i (length xs) (xs ++ ys)) ∙ ap (drop i) (drop_at xs ys (length xs) refl))

pub length-padded : (v : Bytes) → length (padded v) ≡ pad4 (length v)
length-padded v = let a = length-append v (replicate (pad4 (length v) - length v) 0) in let b : length (replicate {A = ℕ} (pad4 (length v) - length v) 0) ≡ pad4 (length v) - length v = length-replicate (pad4 (length v) - length v) 0 in omega arith
