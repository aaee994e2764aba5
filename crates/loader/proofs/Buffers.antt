-- Writes into the buffer of a path. Assumes nothing.
use Rattle.std.proofs.Common.{◌≡◌, ℕ, zero, suc, ◌+◌, ◌-◌, ◌<◌, ◌≤◌, max, List, [], ◌∷◌, ◌++◌, length, get_or, take, drop, set, sym, refl, ap, ◌∙◌, append_assoc, arith}
use borrow.Rule.Slice.PartMut.{put_mid}
use Rattle.std.proofs.lemmas.List.{take_more_set, drop-drop, drop-set-lt, take_at, length-append, length-take-le, get_or-take, take-take}
use Rattle.names.specs.Paths.{parent}
use Rattle.loader.specs.Trails.{path_on}
use Rattle.loader.specs.declared.trail.Trail.{Trail}
use Rattle.loader.proofs.Trails.{parent_front, parent_within}

-- a byte, and then a part straight after it
pub marked : (xs : List ℕ) (b s k : ℕ) (ys : List ℕ) → b + 1 + length ys ≤ length xs → k ≡ length ys → put_mid (b + 1) k (set xs b s) ys ≡ take b xs ++ (s ∷ (ys ++ drop (b + 1 + length ys) xs))
marked xs b s k ys h e =
    let front = take_more_set xs b s (omega arith) in
    let back : drop k (drop (b + 1) (set xs b s)) ≡ drop (b + 1 + length ys) xs = drop-drop k (b + 1) (set xs b s) ∙ drop-set-lt (b + 1 + k) xs b s (omega arith) ∙ ap (λ n. drop (b + 1 + n) xs) e in
    (λ i. front i ++ (ys ++ back i)) ∙ append_assoc (take b xs) (s ∷ []) (ys ++ drop (b + 1 + length ys) xs)

-- the front of what was so written
pub took : (xs name rest : List ℕ) (b s : ℕ) → b ≤ length xs → take (b + 1 + length name) (take b xs ++ (s ∷ (name ++ rest))) ≡ take b xs ++ (s ∷ name)
took xs name rest b s h =
    let n : length (take b xs ++ (s ∷ name)) ≡ b + 1 + length name = length-append (take b xs) (s ∷ name) ∙ omega (arith, length-take-le b xs h) in
    ap (take (b + 1 + length name)) (sym (append_assoc (take b xs) (s ∷ name) rest)) ∙ take_at (take b xs ++ (s ∷ name)) rest (b + 1 + length name) n

-- the slash in front stays
pub first-kept : (xs ys : List ℕ) (b : ℕ) → get_or xs 0 0 ≡ 47 → get_or (take b xs ++ (47 ∷ ys)) 0 0 ≡ 47
first-kept xs ys zero h = refl
first-kept [] ys (suc b) h = refl
first-kept (x ∷ xs) ys (suc b) h = h

pub path-some : (t : Trail) → 0 < length (path_on t)
path-some t = let l = length-take-le t.len t.bytes t.held in let a = t.least in omega arith

path-slash : (t : Trail) → get_or (path_on t) 0 0 ≡ 47
path-slash t = let a = t.least in get_or-take t.len t.bytes 0 0 (omega arith) ∙ t.slash

-- what going back to the parent leaves: less, but for the root
pub parent-short : (t : Trail) → length (parent (path_on t)) ≤ max 1 (t.len - 1)
parent-short t = let a = parent_within (path_on t) in let l = length-take-le t.len t.bytes t.held in omega arith

pub parent-front : (t : Trail) → take (length (parent (path_on t))) t.bytes ≡ parent (path_on t)
parent-front t =
    let a = parent-short t in
    let b = t.least in
    sym (take-take (length (parent (path_on t))) t.len t.bytes (omega arith)) ∙ parent_front (path_on t) (path-slash t)
