-- The tokens of nodes. Assumes nothing.
use Rattle.std.proofs.Common.{◌≡◌, ℕ, zero, suc, ◌+◌, ◌-◌, ◌*◌, ◌≤◌, true, List, [], ◌∷◌, ◌++◌, length, sym, refl, ap, ◌∙◌, append_assoc, arith}
use Rattle.tree.specs.Numbers.{pad4}
use Rattle.blob.specs.Tokens.{Tok, begin, finish}
use Rattle.tape.specs.Nodes.{Node, Property, shaped, fits}
use Rattle.tape.specs.Tapes.{properties_of, weight_of, properties_weight}
use Rattle.tape.proofs.Around.{root-parts}
use Rattle.tape.proofs.Finds.{fit_parts}
use Rattle.packed.specs.Packing.{size_of, names_of, ends, property_tokens, tokens_of, front, open_after, leading, gathered}
use Rattle.packed.specs.Stands.{NodeLaws}
use Rattle.packed.proofs.Tokens.{size_join, names_join, size-ends, names-ends, size-one, names-one}

pub tokens_join : (o : ℕ) (xs ys : List Node) → tokens_of o (xs ++ ys) ≡ front o xs ++ tokens_of (open_after o xs) ys
unfolding tokens_of front open_after
tokens_join o [] ys = refl
tokens_join o (n ∷ xs) ys =
    let h = tokens_join (n.depth + 1) xs ys in
    let us : List Tok = tokens_of (open_after (n.depth + 1) xs) ys in
    let ps : List Tok = property_tokens n.properties in
    let fs : List Tok = front (n.depth + 1) xs in
    let es : List Tok = ends (o - n.depth) in
    ap (λ z. es ++ (begin n.name ∷ (ps ++ z))) h
    ∙ ap (λ z. es ++ (begin n.name ∷ z)) (sym (append_assoc ps fs us))
    ∙ sym (append_assoc es (begin n.name ∷ (ps ++ fs)) us)

pub front_join : (o : ℕ) (xs ys : List Node) → front o (xs ++ ys) ≡ front o xs ++ front (open_after o xs) ys
unfolding front open_after
front_join o [] ys = refl
front_join o (n ∷ xs) ys =
    let h = front_join (n.depth + 1) xs ys in
    let us : List Tok = front (open_after (n.depth + 1) xs) ys in
    let ps : List Tok = property_tokens n.properties in
    let fs : List Tok = front (n.depth + 1) xs in
    let es : List Tok = ends (o - n.depth) in
    ap (λ z. es ++ (begin n.name ∷ (ps ++ z))) h
    ∙ ap (λ z. es ++ (begin n.name ∷ z)) (sym (append_assoc ps fs us))
    ∙ sym (append_assoc es (begin n.name ∷ (ps ++ fs)) us)

pub open_join : (o : ℕ) (xs ys : List Node) → open_after o (xs ++ ys) ≡ open_after (open_after o xs) ys
unfolding open_after
open_join o [] ys = refl
open_join o (n ∷ xs) ys = open_join (n.depth + 1) xs ys

-- ---- back again

gathered-ends : (o j : ℕ) (ts : List Tok) → gathered o (ends j ++ ts) ≡ gathered (o - j) ts
unfolding gathered
gathered-ends o zero ts = let z : o - 0 ≡ o = omega arith in ap (λ n. gathered n ts) (sym z)
gathered-ends o (suc j) ts = gathered-ends (o - 1) j ts ∙ ap (λ n. gathered n ts) (let z : o - 1 - j ≡ o - suc j = omega arith in z)

gathered-properties : (o : ℕ) (xs : List Property) (ts : List Tok) → gathered o (property_tokens xs ++ ts) ≡ gathered o ts
unfolding gathered
gathered-properties o [] ts = refl
gathered-properties o (x ∷ xs) ts = gathered-properties o xs ts

-- tokens that begin with an end, a begin or a finish token
leading-ends : (j : ℕ) (t : Tok) (ts : List Tok) → leading (t ∷ ts) ≡ [] → leading (ends j ++ (t ∷ ts)) ≡ []
unfolding leading
leading-ends zero t ts h = h
leading-ends (suc j) t ts h = refl

leading-tokens : (o : ℕ) (ns : List Node) → leading (tokens_of o ns) ≡ []
unfolding tokens_of leading
leading-tokens o [] = leading-ends o finish [] refl
leading-tokens o (n ∷ ns) = leading-ends (o - n.depth) (begin n.name) _ refl

leading-properties : (xs : List Property) (ts : List Tok) → leading ts ≡ [] → leading (property_tokens xs ++ ts) ≡ xs
unfolding leading
leading-properties [] ts h = h
leading-properties (x ∷ xs) ts h = ap (λ z. x ∷ z) (leading-properties xs ts h)

gathered-one : (o : ℕ) (n : Node) (ns : List Node) → n.depth ≤ o → gathered o (tokens_of o (n ∷ ns)) ≡ n ∷ gathered (n.depth + 1) (tokens_of (n.depth + 1) ns)
unfolding tokens_of gathered
gathered-one o n ns h =
    let us : List Tok = tokens_of (n.depth + 1) ns in
    let ps : List Tok = property_tokens n.properties in
    let d : o - (o - n.depth) ≡ n.depth = omega arith in
    let e : gathered o (ends (o - n.depth) ++ (begin n.name ∷ (ps ++ us))) ≡ gathered n.depth (begin n.name ∷ (ps ++ us)) =
    gathered-ends o (o - n.depth) (begin n.name ∷ (ps ++ us)) ∙ ap (λ k. gathered k (begin n.name ∷ (ps ++ us))) d in
    e ∙ (λ i. record { depth = n.depth; name = n.name; properties = leading-properties n.properties us (leading-tokens (n.depth + 1) ns) i } ∷ gathered-properties (n.depth + 1) n.properties us i)

gathered-fits : (d : ℕ) (ns : List Node) → fits d ns ≡ true → gathered (d + 1) (tokens_of (d + 1) ns) ≡ ns
unfolding tokens_of gathered
gathered-fits d [] h = gathered-ends (d + 1) (d + 1) (finish ∷ [])
gathered-fits d (n ∷ ns) h =
    let p = fit_parts d n ns h in
    gathered-one (d + 1) n ns p.1 ∙ ap (λ z. n ∷ z) (gathered-fits n.depth ns p.3)

pub gathered-back : (ns : List Node) → shaped ns ≡ true → gathered 0 (tokens_of 0 ns) ≡ ns
unfolding tokens_of gathered
gathered-back [] h = refl
gathered-back (n ∷ ns) h =
    let p = root-parts n ns h in
    let z = p.0 in
    gathered-one 0 n ns (omega arith) ∙ ap (λ z. n ∷ z) ((λ i. gathered (z i + 1) (tokens_of (z i + 1) ns)) ∙ gathered-fits 0 ns p.2)

-- ---- sizes

properties-size : (xs : List Property) → size_of (property_tokens xs) + names_of (property_tokens xs) ≡ 12 * length xs + properties_weight xs
unfolding size_of names_of properties_weight
properties-size [] = refl
properties-size (x ∷ xs) = let h = properties-size xs in omega arith

sizes-one : (o : ℕ) (n : Node) (us : List Tok) → n.depth ≤ o
    → size_of (ends (o - n.depth) ++ (begin n.name ∷ (property_tokens n.properties ++ us))) + names_of (ends (o - n.depth) ++ (begin n.name ∷ (property_tokens n.properties ++ us)))
    ≡ 4 * (o - n.depth) + (4 + pad4 (length n.name + 1)) + (12 * length n.properties + properties_weight n.properties) + (size_of us + names_of us)
sizes-one o n us h =
    let ps : List Tok = property_tokens n.properties in
    let ts : List Tok = begin n.name ∷ (ps ++ us) in
    let a = size_join (ends (o - n.depth)) ts in
    let b = names_join (ends (o - n.depth)) ts in
    let c = size-one (begin n.name) (ps ++ us) in
    let d = names-one (begin n.name) (ps ++ us) in
    let e = size_join ps us in
    let f = names_join ps us in
    let g = properties-size n.properties in
    let i = size-ends (o - n.depth) in
    let j = names-ends (o - n.depth) in
    omega arith

sizes-fit : (d : ℕ) (ns : List Node) → fits d ns ≡ true → size_of (tokens_of (d + 1) ns) + names_of (tokens_of (d + 1) ns) ≡ 4 * (d + 1) + 4 + 8 * length ns + 12 * properties_of ns + weight_of ns
unfolding tokens_of properties_of weight_of
sizes-fit d [] h =
    let a = size_join (ends (d + 1)) (finish ∷ []) in
    let b = names_join (ends (d + 1)) (finish ∷ []) in
    let c = size-one finish [] in
    let e = names-one finish [] in
    let f = size-ends (d + 1) in
    let g = names-ends (d + 1) in
    let x : size_of [] ≡ 0 = size-ends 0 in
    let y : names_of [] ≡ 0 = names-ends 0 in
    omega arith
sizes-fit d (n ∷ ns) h =
    let p = fit_parts d n ns h in
    let q = p.1 in
    let r = sizes-fit n.depth ns p.3 in
    let s = sizes-one (d + 1) n (tokens_of (n.depth + 1) ns) q in
    omega arith

pub sizes : (ns : List Node) → shaped ns ≡ true → size_of (tokens_of 0 ns) + names_of (tokens_of 0 ns) ≡ 4 + 8 * length ns + 12 * properties_of ns + weight_of ns
unfolding tokens_of properties_of weight_of
sizes [] h =
    let c = size-one finish [] in
    let e = names-one finish [] in
    let x : size_of [] ≡ 0 = size-ends 0 in
    let y : names_of [] ≡ 0 = names-ends 0 in
    omega arith
sizes (n ∷ ns) h =
    let p = root-parts n ns h in
    let z = p.0 in
    let r : size_of (tokens_of (n.depth + 1) ns) + names_of (tokens_of (n.depth + 1) ns) ≡ 4 * (0 + 1) + 4 + 8 * length ns + 12 * properties_of ns + weight_of ns = (λ i. size_of (tokens_of (z i + 1) ns) + names_of (tokens_of (z i + 1) ns)) ∙ sizes-fit 0 ns p.2 in
    let s = sizes-one 0 n (tokens_of (n.depth + 1) ns) (omega arith) in
    omega arith

pub node_laws : NodeLaws
node_laws = record { parted = tokens_join; back = gathered-back; weighs = sizes }
