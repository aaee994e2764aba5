-- Names have no zero byte. Assumes nothing.
use Rattle.std.proofs.Common.{◌≡◌, ℕ, suc, Bool, true, false, ◌&&◌, eqb, leb, [], ◌∷◌, length, take, drop, sym, refl, ap, ◌∙◌, subst, ⊎_elim}
use Rattle.std.specs.List.{AllByRecursion}
use Rattle.std.proofs.lemmas.Bool.{and_parts, cases_eq, eqb-true, eq-eqb, ne_eqb, cond-true, cond-false, true≢false}
use Rattle.names.specs.Names.{node_byte, property_byte, before, each, word, node_name, property_name}
use Rattle.tree.specs.Places.{Bytes}

abbrev pub Full : Bytes → Type 0
Full name = AllByRecursion (λ b. b ≡ 0 → ⊥) name

full-each : (p : ℕ → Bool) → p 0 ≡ false → (s : Bytes) → each p s ≡ true → Full s
full-each p o [] e = tt
full-each p o (x ∷ s) e =
    let k = and_parts (p x) (each p s) e in
    (λ z. true≢false (sym k.0 ∙ ap p z ∙ o), full-each p o s k.1)

full-word : (p : ℕ → Bool) → p 0 ≡ false → (s : Bytes) → word p s ≡ true → Full s
full-word p o s e = full-each p o s (and_parts (leb 1 (length s) && leb (length s) 31) (each p s) e).1

full-around : (s : Bytes) → Full (take (before 64 s) s) → Full (drop (suc (before 64 s)) s) → Full s
full-around [] t d = tt
full-around (x ∷ s) t d = go (full-around s) (eqb x 64) refl
  where
    go : (Full (take (before 64 s) s) → Full (drop (suc (before 64 s)) s) → Full s) → (v : Bool) → eqb x 64 ≡ v → Full (x ∷ s)
    go h true e =
        let k = cond-true (eqb x 64) 0 (suc (before 64 s)) e in
        let z : x ≡ 64 = eqb-true x 64 e in
        (λ w. let y : ◌≡◌ {A = ℕ} 64 0 = sym z ∙ w in true≢false (ap (λ n. eqb n 64) y), subst (λ n. Full (drop (suc n) (x ∷ s))) k d)
    go h false e =
        let k = cond-false (eqb x 64) 0 (suc (before 64 s)) e in
        let f = subst (λ n. Full (take n (x ∷ s))) k t in
        (f.0, h f.1 (subst (λ n. Full (drop (suc n) (x ∷ s))) k d))

node-zero : node_byte 0 ≡ false
unfolding node_byte
node-zero = refl

property-zero : property_byte 0 ≡ false
unfolding property_byte node_byte
property-zero = refl

pub full-property : (n : Bytes) → property_name n ≡ true → Full n
unfolding property_name
full-property n e = full-word property_byte property-zero n e

pub full-node : (n : Bytes) → node_name n ≡ true → Full n
unfolding node_name
full-node n e =
    ⊎_elim
    (λ q. full-word node_byte node-zero n (sym (cond-true _ _ _ (eq-eqb _ _ q)) ∙ e))
    (λ q.
    let w : (word node_byte (take (before 64 n) n) && word node_byte (drop (suc (before 64 n)) n)) ≡ true = sym (cond-false _ _ _ (ne_eqb _ _ q)) ∙ e in
    let k = and_parts (word node_byte (take (before 64 n) n)) (word node_byte (drop (suc (before 64 n)) n)) w in
    full-around n (full-word node_byte node-zero (take (before 64 n) n) k.0) (full-word node_byte node-zero (drop (suc (before 64 n)) n) k.1))
    (cases_eq (before 64 n) (length n))
