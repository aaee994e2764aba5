-- Lists of names with none twice. Assumes nothing.
use Rattle.std.proofs.Common.{◌≡◌, true, false, cond, not, ◌||◌, List, [], ◌∷◌, ◌++◌, sym, refl, ap, append_assoc, append-nil, arith}
use Rattle.std.specs.Str.{bytes_eq}
use Rattle.std.proofs.lemmas.Slice.Eq.{bytes_eq-Decides}
use Rattle.std.proofs.lemmas.Bool.Decides.{nat_tests, same_from_decides}
use Rattle.std.proofs.lemmas.Bool.{and_parts, or_parts}
use Rattle.tree.specs.Places.{Bytes}
use Rattle.reader.specs.Verdict.{has, Open, kids}
use Rattle.reader.specs.Format.{distinct}

pub has_append : (n : Bytes) (ns ms : List Bytes) → has n (ns ++ ms) ≡ (has n ns || has n ms)
has_append n [] ms = refl
has_append n (x ∷ ns) ms = let h = has_append n ns ms in grind (arith, nat_tests)

same_comm : (a b : Bytes) → bytes_eq a b ≡ bytes_eq b a
same_comm a b =
    same_from_decides (bytes_eq a b) (bytes_eq b a) (bytes_eq-Decides a b)
    (let d = bytes_eq-Decides b a in (λ e. sym (d.0 e), λ e. d.1 (sym e)))

-- one name more at the end, that is not among the others
pub distinct_push : (ns : List Bytes) (n : Bytes) → distinct ns ≡ true → has n ns ≡ false → distinct (ns ++ (n ∷ [])) ≡ true
unfolding distinct
distinct_push [] n d h = refl
distinct_push (x ∷ ns) n d h =
    let p = and_parts (not (has x ns)) (distinct ns) d in
    let q = or_parts (bytes_eq x n) (has n ns) h in
    let r = distinct_push ns n p.1 q.1 in
    let a = has_append x ns (n ∷ []) in
    let s = same_comm x n in
    grind (arith, nat_tests)

-- a name between others is not among those before it
pub distinct_apart : (ns : List Bytes) (n : Bytes) (ms : List Bytes) → distinct (ns ++ (n ∷ ms)) ≡ true → has n ns ≡ false
unfolding distinct
distinct_apart [] n ms d = refl
distinct_apart (x ∷ ns) n ms d =
    let p = and_parts (not (has x (ns ++ (n ∷ ms)))) (distinct (ns ++ (n ∷ ms))) d in
    let r = distinct_apart ns n ms p.1 in
    let a = has_append x ns (n ∷ ms) in
    let s = same_comm x n in
    grind (arith, nat_tests)

-- the same names, bracketed otherwise
pub distinct_shift : (ns : List Bytes) (n : Bytes) (ms : List Bytes) → distinct ((ns ++ (n ∷ [])) ++ ms) ≡ distinct (ns ++ (n ∷ ms))
distinct_shift ns n ms = ap distinct (append_assoc ns (n ∷ []) ms)

pub distinct-end : (ns : List Bytes) → distinct (ns ++ []) ≡ distinct ns
distinct-end ns = ap distinct (append-nil ns)

pub kids-distinct : (g : Open) → distinct g.names ≡ true → distinct (kids g) ≡ true
unfolding distinct
kids-distinct g d = elim g.children as (λ b. distinct (cond b g.names []) ≡ true) [ true ↦ d | false ↦ refl ]
