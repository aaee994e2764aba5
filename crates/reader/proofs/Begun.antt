-- The test whether a name stands at an offset. Assumes nothing.
use Rattle.std.proofs.Common.{◌≡◌, ℕ, ◌&&◌, ◌||◌, eqb, List, [], ◌∷◌, ◌++◌, length, take, drop, refl, ap, ◌∙◌, arith}
use Rattle.std.specs.List.{AllByRecursion, list_any, starts_with}
use Rattle.std.specs.Str.{bytes_eq}
use Rattle.std.specs.Cmp.Lexicographic.{pointwise}
use Rattle.std.proofs.lemmas.Bool.Decides.{nat_tests}
use Rattle.std.proofs.lemmas.Bool.{ne_eqb}
use Rattle.tree.specs.Places.{Bytes}
use Rattle.reader.specs.Verdict.{has}
use Rattle.reader.specs.Seen.{begins, At, Spells}

-- the name, and then a zero byte
pub begins-parts : (name bs : Bytes) → (starts_with eqb bs name && starts_with eqb (drop (length name) bs) (0 ∷ [])) ≡ begins name bs
begins-parts [] bs = refl
begins-parts (x ∷ name) [] = refl
begins-parts (x ∷ name) (b ∷ bs) = let r = begins-parts name bs in grind (arith, nat_tests)

-- the same where as many bytes as the name has are compared with it
pub begins-text : (name bs : Bytes) → (starts_with eqb (drop (length name) bs) (0 ∷ []) && pointwise eqb (take (length name) bs) name) ≡ begins name bs
begins-text [] [] = refl
begins-text [] (b ∷ bs) = grind (arith, nat_tests)
begins-text (x ∷ name) [] = grind (arith, nat_tests)
begins-text (x ∷ name) (b ∷ bs) = let r = begins-text name bs in grind (arith, nat_tests)

-- where a name stands with its zero byte, the test says whether it is that name
begins-is : (name n rest : Bytes) → AllByRecursion (λ b. b ≡ 0 → ⊥) name → AllByRecursion (λ b. b ≡ 0 → ⊥) n → begins name (n ++ (0 ∷ rest)) ≡ bytes_eq n name
begins-is [] [] rest f a = grind (arith, nat_tests)
begins-is (x ∷ name) [] rest f a = let z = ne_eqb x 0 f.0 in grind (arith, nat_tests)
begins-is [] (b ∷ n) rest f a = let z = ne_eqb b 0 a.0 in grind (arith, nat_tests)
begins-is (x ∷ name) (b ∷ n) rest f a = let r = begins-is name n rest f.1 a.1 in grind (arith, nat_tests)

pub among-has : (bs name : Bytes) (os : List ℕ) (ns : List Bytes) → AllByRecursion (λ b. b ≡ 0 → ⊥) name → Spells bs os ns → list_any (λ o. begins name (drop o bs)) os ≡ has name ns
among-has bs name [] [] f s = refl
among-has bs name [] (n ∷ ns) f s = absurd s
among-has bs name (o ∷ os) [] f s = absurd s
among-has bs name (o ∷ os) (n ∷ ns) f s =
    let a = s.0 in
    let h = ap (begins name) a.split ∙ begins-is name n a.rest f a.full in
    let r = among-has bs name os ns f s.1 in
    λ i. h i || r i

pub spells-push : (bs : Bytes) (os : List ℕ) (ns : List Bytes) (o : ℕ) (n : Bytes) → Spells bs os ns → At bs o n → Spells bs (os ++ (o ∷ [])) (ns ++ (n ∷ []))
spells-push bs [] [] o n s a = (a, tt)
spells-push bs [] (m ∷ ns) o n s a = absurd s
spells-push bs (p ∷ os) [] o n s a = absurd s
spells-push bs (p ∷ os) (m ∷ ns) o n s a = (s.0, spells-push bs os ns o n s.1 a)
