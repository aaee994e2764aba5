-- Paths in the front of a buffer. Assumes nothing.
use Rattle.std.proofs.Common.{◌≡◌, ℕ, ◌+◌, ◌-◌, ◌<◌, ◌≤◌, max, zero, suc, false, eqb, [], ◌∷◌, length, get_or, take, sym, ap, ◌∙◌, ⊎_elim, arith}
use Rattle.std.proofs.lemmas.Bool.{cases_Bool, cond-true, cond-false}
use Rattle.std.proofs.lemmas.Grind.{common_steps}
use Rattle.std.proofs.lemmas.List.{length-take, length-take-le}
use Rattle.names.specs.Paths.{root, leaf, parent}
use Rattle.tree.specs.Places.{Bytes}

pub take_one : (p : Bytes) → get_or p 0 0 ≡ 47 → take 1 p ≡ root
take_one [] e = let z : ◌≡◌ {A = ℕ} 0 47 = e in absurd (omega arith)
take_one (x ∷ xs) e = ap (λ z. z ∷ []) e

-- the parent is the front of as many bytes, and begins with a slash too
pub parent_front : (p : Bytes) → get_or p 0 0 ≡ 47 → take (length (parent p)) p ≡ parent p
unfolding parent
parent_front p e =
    let n : ℕ = length p - (length (leaf p) + 1) in
    ⊎_elim
    (λ t. let z = cond-true (eqb n 0) root (take n p) t in ap (λ x. take (length x) p) z ∙ take_one p e ∙ sym z)
    (λ f.
    let z = cond-false (eqb n 0) root (take n p) f in
    ap (λ x. take (length x) p) z ∙ ap (λ k. take k p) (length-take-le n p (omega arith)) ∙ sym z)
    (cases_Bool (eqb n 0))

pub parent_slash : (p : Bytes) → get_or p 0 0 ≡ 47 → get_or (parent p) 0 0 ≡ 47
unfolding parent
parent_slash p e =
    let n : ℕ = length p - (length (leaf p) + 1) in
    ⊎_elim
    (λ t. ap (λ x. get_or x 0 0) (cond-true (eqb n 0) root (take n p) t))
    (λ f. ap (λ x. get_or x 0 0) (cond-false (eqb n 0) root (take n p) f) ∙ go p n e f)
    (cases_Bool (eqb n 0))
  where
    go : (p : Bytes) (n : ℕ) → get_or p 0 0 ≡ 47 → eqb n 0 ≡ false → get_or (take n p) 0 0 ≡ 47
    go p zero e f = let z : ◌≡◌ {A = ℕ} 0 1 = cc in absurd (omega arith)
    go [] (suc n) e f = e
    go (x ∷ xs) (suc n) e f = e

-- how long it is
pub some_parent : (p : Bytes) → 0 < length (parent p)
unfolding parent
some_parent p = grind (arith, common_steps)

pub parent_within : (p : Bytes) → length (parent p) ≤ max 1 (length p - 1)
unfolding parent
parent_within p = let l = length-take (length p - (length (leaf p) + 1)) p in grind (arith, common_steps)
