-- How long the blocks are. Assumes nothing.
use Rattle.std.proofs.Common.{◌≡◌, ℕ, ◌+◌, ◌*◌, ◌≤◌, true, false, List, [], ◌∷◌, ◌++◌, length, refl, ap, arith, length-append}
use Rattle.std.specs.Str.{bytes_eq}
use Rattle.std.proofs.lemmas.Slice.Eq.{bytes_eq-Decides}
use Rattle.std.proofs.lemmas.Bool.{cond-true, cond-false, cases_Bool}
use Rattle.names.specs.Paths.{root, leaf, parent}
use Rattle.tree.specs.Maps.{total}
use Rattle.tree.specs.Numbers.{pad4}
use Rattle.tree.specs.Places.{Bytes, node_at, property_at}
use Rattle.tree.specs.Trees.{Places, nodes, properties, weight}
use Rattle.blob.specs.Tokens.{Tok, begin, property, end}
use Rattle.walk.specs.Runs.{Runs, run_end, run_root, run_property, run_node, run_leave}
use Rattle.writer.specs.Strings.{name_offset, with_name, strings}
use Rattle.writer.specs.Written.{Piece, token_bytes, spelt, ends, pieces}
use Rattle.writer.proofs.Bytes.{length-padded}
use Rattle.writer.proofs.Strings.{strings_laws}

pub same_test : (p q : Bytes) → p ≡ q → bytes_eq p q ≡ true
same_test p q = (bytes_eq-Decides p q).1

pub other_test : (p q : Bytes) → (p ≡ q → ⊥) → bytes_eq p q ≡ false
other_test p q n = mathlib.Core.Logic.⊎_elim (λ t. absurd (n ((bytes_eq-Decides p q).0 t))) (λ f. f) (cases_Bool (bytes_eq p q))

-- one place more
pub pieces-node : (p q : Bytes) (v : Bytes) (ps : List Bytes) (block : Bytes) (es : Places) → parent q ≡ p → pieces (p ∷ ps) block ((node_at q, v) ∷ es) ≡ (begin (leaf q), 0) ∷ pieces (q ∷ p ∷ ps) block es
unfolding pieces
pieces-node p q v ps block es e = cond-true (bytes_eq (parent q) p) _ _ (same_test (parent q) p e)

pub pieces-leave : (p q : Bytes) (v : Bytes) (ps : List Bytes) (block : Bytes) (es : Places) → (parent q ≡ p → ⊥) → pieces (p ∷ ps) block ((node_at q, v) ∷ es) ≡ (end, 0) ∷ pieces ps block ((node_at q, v) ∷ es)
unfolding pieces
pieces-leave p q v ps block es n = cond-false (bytes_eq (parent q) p) _ _ (other_test (parent q) p n)

pub pieces-property : (p n v : Bytes) (ps : List Bytes) (block : Bytes) (es : Places) → pieces ps block ((property_at p n, v) ∷ es) ≡ (property n v, name_offset block n) ∷ pieces ps (with_name block n) es
unfolding pieces
pieces-property p n v ps block es = refl

pub length-begin : (name : Bytes) (o : ℕ) → length (token_bytes (begin name) o) ≡ 4 + pad4 (length name + 1)
length-begin name o =
    let a = length-padded (name ++ (0 ∷ [])) in
    let b = length-append name (0 ∷ []) in
    let c : pad4 (length (name ++ (0 ∷ []))) ≡ pad4 (length name + 1) = ap pad4 b in
    omega arith

pub length-property : (name value : Bytes) (o : ℕ) → length (token_bytes (property name value) o) ≡ 12 + pad4 (length value)
length-property name value o = let a = length-padded value in omega arith

spelt-more : (t : Tok) (o : ℕ) (xs : List Piece) → length (spelt ((t, o) ∷ xs)) ≡ length (token_bytes t o) + length (spelt xs)
unfolding spelt
spelt-more t o xs = length-append (token_bytes t o) (spelt xs)

ends-size : (ps : List Bytes) → length (spelt (ends ps)) ≡ 4 * length ps + 4
unfolding spelt
ends-size [] = refl
ends-size (p ∷ ps) = let h = ends-size ps in omega arith

-- both blocks together, by what the limits count
pub both-size : {ps : List Bytes} {es : Places} → Runs ps es → (block : Bytes)
    → length (spelt (pieces ps block es)) + length (strings block es) ≤ 4 * length ps + 4 + length block + 8 * nodes es + 12 * properties es + weight es
unfolding pieces strings total
both-size {ps} run_end block = omega (arith, ends-size ps)
both-size (run_root {es} r) block =
    let h = both-size r block in
    let a = spelt-more (begin (leaf root)) 0 (pieces (root ∷ []) block es) in
    let b = length-begin (leaf root) 0 in
    omega arith
both-size (run_property {p} {n} {v} {ps} {es} g r) block =
    let h = both-size r (with_name block n) in
    let a = spelt-more (property n v) (name_offset block n) (pieces (p ∷ ps) (with_name block n) es) in
    let b = length-property n v (name_offset block n) in
    let c = strings_laws.small block n in
    omega arith
both-size (run_node {p} {q} {ps} {es} e f g r) block =
    let h = both-size r block in
    let a = spelt-more (begin (leaf q)) 0 (pieces (q ∷ p ∷ ps) block es) in
    let b = length-begin (leaf q) 0 in
    let c = ap (λ xs. length (spelt xs)) (pieces-node p q [] ps block es e) in
    omega arith
both-size (run_leave {p} {q} {ps} {es} n r) block =
    let h = both-size r block in
    let a = spelt-more end 0 (pieces ps block ((node_at q, []) ∷ es)) in
    let c = ap (λ xs. length (spelt xs)) (pieces-leave p q [] ps block es n) in
    omega arith
