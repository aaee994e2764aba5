-- What the names of nodes and properties have in common: no slash, and few bytes. Assumes nothing.
use Rattle.std.proofs.Common.{◌≡◌, ℕ, suc, ◌≤◌, Bool, true, false, not, ◌&&◌, eqb, leb, List, [], ◌∷◌, length, take, drop, sym, refl, ap, ◌∙◌, ⊎_elim, arith, length-drop}
use Rattle.std.proofs.lemmas.List.{length-take-le}
use Rattle.std.proofs.lemmas.Bool.{and_parts, and_from, cases_eq, eqb-true, leb-true, eq-eqb, ne_eqb, cond-true, cond-false, not_from_false, true≢false}
use Rattle.names.specs.Names.{node_byte, property_byte, before, each, word, node_name, property_name}
use Rattle.names.specs.Paths.{plain}
use Rattle.names.specs.PathLaws.{NodeNames, PropertyNames}
use Rattle.names.proofs.Words.{before-within}

-- what holds of a byte that passes holds of each
each_from : (p q : ℕ → Bool) → ((x : ℕ) → p x ≡ true → q x ≡ true) → (s : List ℕ) → each p s ≡ true → each q s ≡ true
each_from p q f [] e = refl
each_from p q f (x ∷ s) e =
    let k = and_parts (p x) (each p s) e in
    and_from (q x) (each q s) (f x k.0) (each_from p q f s k.1)

-- a list, put together again at its first b
each-around : (q : ℕ → Bool) (b : ℕ) → q b ≡ true → (s : List ℕ) → each q (take (before b s) s) ≡ true → each q (drop (suc (before b s)) s) ≡ true → each q s ≡ true
each-around q b o [] t d = refl
each-around q b o (x ∷ s) t d = go (each-around q b o s) (eqb x b) refl
  where
    go : (each q (take (before b s) s) ≡ true → each q (drop (suc (before b s)) s) ≡ true → each q s ≡ true) → (v : Bool) → eqb x b ≡ v → (q x && each q s) ≡ true
    go h true e =
        let k = cond-true (eqb x b) 0 (suc (before b s)) e in
        and_from (q x) (each q s) (ap q (eqb-true x b e) ∙ o) (ap (λ n. each q (drop (suc n) (x ∷ s))) (sym k) ∙ d)
    go h false e =
        let k = cond-false (eqb x b) 0 (suc (before b s)) e in
        let f = and_parts (q x) (each q (take (before b s) s)) (ap (λ n. each q (take n (x ∷ s))) (sym k) ∙ t) in
        and_from (q x) (each q s) f.0 (h f.1 (ap (λ n. each q (drop (suc n) (x ∷ s))) (sym k) ∙ d))

node-out : node_byte 47 ≡ false
unfolding node_byte
node-out = refl

property-out : property_byte 47 ≡ false
unfolding property_byte node_byte
property-out = refl

no_slash : (p : ℕ → Bool) → p 47 ≡ false → (x : ℕ) → p x ≡ true → not (eqb x 47) ≡ true
no_slash p o x e = not_from_false (eqb x 47) (ne_eqb x 47 (λ q. true≢false (sym e ∙ ap p q ∙ o)))

-- a word's length, and that it has no slash
word-parts : (p : ℕ → Bool) → p 47 ≡ false → (s : List ℕ) → word p s ≡ true → (plain s ≡ true) × (1 ≤ length s) × (length s ≤ 31)
word-parts p o s e =
    let k = and_parts (leb 1 (length s) && leb (length s) 31) (each p s) e in
    let l = and_parts (leb 1 (length s)) (leb (length s) 31) k.0 in
    (each_from p (λ b. not (eqb b 47)) (no_slash p o) s k.1, leb-true 1 (length s) l.0, leb-true (length s) 31 l.1)

pub property_names : PropertyNames
unfolding property_name
property_names n e = word-parts property_byte property-out n e

pub node_names : NodeNames
unfolding node_name
node_names n e =
    ⊎_elim
    (λ q.
    let w : word node_byte n ≡ true = sym (cond-true _ _ _ (eq-eqb _ _ q)) ∙ e in
    let k = word-parts node_byte node-out n w in
    (k.0, k.1, omega arith))
    (λ q.
    let w : (word node_byte (take (before 64 n) n) && word node_byte (drop (suc (before 64 n)) n)) ≡ true = sym (cond-false _ _ _ (ne_eqb _ _ q)) ∙ e in
    let k = and_parts (word node_byte (take (before 64 n) n)) (word node_byte (drop (suc (before 64 n)) n)) w in
    let f = word-parts node_byte node-out (take (before 64 n) n) k.0 in
    let g = word-parts node_byte node-out (drop (suc (before 64 n)) n) k.1 in
    let i = before-within 64 n in
    let l = length-take-le (before 64 n) n i in
    let m = length-drop (suc (before 64 n)) n in
    (each-around (λ b. not (eqb b 47)) 64 refl n f.0 g.0, omega arith, omega arith))
    (cases_eq (before 64 n) (length n))
