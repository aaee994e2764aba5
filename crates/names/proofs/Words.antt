-- Words of names: the first place of a byte, the end of a run, and a node name by its first run. Assumes nothing.
use Rattle.std.proofs.Common.{◌≡◌, ℕ, suc, ◌+◌, ◌-◌, ◌<◌, ◌≤◌, Bool, true, false, not, ◌&&◌, ◌==◌, eqb, leb, List, [], ◌∷◌, length, get_or, take, drop, sym, refl, ap, ◌∙◌, ⊎_elim, add-one, one-add, arith}
use Rattle.std.specs.List.{list_all, position, position_or_len, prefix_len}
use Rattle.std.specs.Option.{unwrap_or}
use Rattle.std.proofs.lemmas.List.{length-take-le, take_all, take_rest}
use Rattle.std.proofs.lemmas.List.Sums.{prefix_len-le-length}
use Rattle.std.proofs.lemmas.Bool.{cases_eq, eq-eqb, ne_eqb, cond-true, cond-false, and_from, and_left, and_right, true≢false}
use Rattle.std.proofs.lemmas.Bool.Decides.{nat_tests}
use Rattle.names.specs.Names.{node_byte, before, each, word, node_name}

pub before-within : (b : ℕ) (s : List ℕ) → before b s ≤ length s
before-within b [] = omega arith
before-within b (x ∷ s) = let h = before-within b s in grind (arith, nat_tests)

pub each-all : {A : Type 0} (p : A → Bool) (xs : List A) → list_all p xs ≡ each p xs
each-all p [] = refl
each-all p (x ∷ xs) = ap (λ v. p x && v) (each-all p xs)

-- the first place that passes, or the length where none does
pub unless_first : {X : Type 0} (p : X → Bool) (s : List X) → unwrap_or (position p s) (length s) ≡ position_or_len p s
unless_first p s = grind (arith, nat_tests, prefix_len-le-length (λ x. not (p x)) s)

pub before-first : (b : ℕ) (s : List ℕ) → position_or_len (λ x. x == b) s ≡ before b s
before-first b [] = refl
before-first b (x ∷ s) = let h = before-first b s in grind (arith, nat_tests)

pub before-position : (b : ℕ) (s : List ℕ) → unwrap_or (position (λ x. x == b) s) (length s) ≡ before b s
before-position b s = unless_first (λ x. x == b) s ∙ before-first b s

pub run-first : (p : ℕ → Bool) (s : List ℕ) → position_or_len (λ x. not (p x)) s ≡ prefix_len p s
run-first p [] = refl
run-first p (x ∷ s) = let h = run-first p s in grind (arith, nat_tests)

pub run-position : (p : ℕ → Bool) (s : List ℕ) → unwrap_or (position (λ x. not (p x)) s) (length s) ≡ prefix_len p s
run-position p s = unless_first (λ x. not (p x)) s ∙ run-first p s

-- the run is the whole list where each passes
pub each-run : (p : ℕ → Bool) (s : List ℕ) → each p s ≡ eqb (prefix_len p s) (length s)
each-run p [] = refl
each-run p (x ∷ s) = let h = each-run p s in grind (arith, nat_tests)

lead_yes : (p : ℕ → Bool) (x : ℕ) (s : List ℕ) → p x ≡ true → prefix_len p (x ∷ s) ≡ suc (prefix_len p s)
lead_yes p x s e = cond-true (p x) (1 + prefix_len p s) 0 e ∙ one-add (prefix_len p s)

lead-no : (p : ℕ → Bool) (x : ℕ) (s : List ℕ) → p x ≡ false → prefix_len p (x ∷ s) ≡ 0
lead-no p x s e = cond-false (p x) (1 + prefix_len p s) 0 e

each-front : (p : ℕ → Bool) (s : List ℕ) → each p (take (prefix_len p s) s) ≡ true
each-front p [] = refl
each-front p (x ∷ s) = go (each-front p s) (p x) refl
  where
    go : each p (take (prefix_len p s) s) ≡ true → (v : Bool) → p x ≡ v → each p (take (prefix_len p (x ∷ s)) (x ∷ s)) ≡ true
    go h true e = ap (λ n. each p (take n (x ∷ s))) (lead_yes p x s e) ∙ and_from (p x) (each p (take (prefix_len p s) s)) e h
    go h false e = ap (λ n. each p (take n (x ∷ s))) (lead-no p x s e)

-- b is not of the alphabet, so no run passes it
module _ (p : ℕ → Bool) (b : ℕ) (out : p b ≡ false) where
  pass : (x : ℕ) (s : List ℕ) → p x ≡ true → before b (x ∷ s) ≡ suc (before b s)
  pass x s e =
      cond-false (eqb x b) 0 (suc (before b s)) (ne_eqb x b (λ q. true≢false (sym e ∙ ap p q ∙ out)))

  before-whole : (s : List ℕ) → prefix_len p s ≡ length s → before b s ≡ length s
  before-whole [] e = refl
  before-whole (x ∷ s) e = go (before-whole s) (p x) refl
    where
      go : (prefix_len p s ≡ length s → before b s ≡ length s) → (v : Bool) → p x ≡ v → before b (x ∷ s) ≡ suc (length s)
      go h true f = pass x s f ∙ ap suc (h (omega (arith, lead_yes p x s f)))
      go h false f = absurd (omega (arith, lead-no p x s f))

  before_here : (s : List ℕ) → prefix_len p s < length s → get_or s (prefix_len p s) 0 ≡ b → before b s ≡ prefix_len p s
  before_here [] l e = refl
  before_here (x ∷ s) l e = go (before_here s) (p x) refl
    where
      go : (prefix_len p s < length s → get_or s (prefix_len p s) 0 ≡ b → before b s ≡ prefix_len p s) → (v : Bool) → p x ≡ v → before b (x ∷ s) ≡ prefix_len p (x ∷ s)
      go h true f =
          let k = lead_yes p x s f in
          pass x s f ∙ ap suc (h (omega arith) (ap (λ n. get_or (x ∷ s) n 0) (sym k) ∙ e)) ∙ sym k
      go h false f =
          let k = lead-no p x s f in
          cond-true (eqb x b) 0 (suc (before b s)) (eq-eqb x b (ap (λ n. get_or (x ∷ s) n 0) (sym k) ∙ e)) ∙ sym k

  fault : (s : List ℕ) → prefix_len p s < length s → (get_or s (prefix_len p s) 0 ≡ b → ⊥) → each p (take (before b s) s) ≡ false
  fault [] l e = absurd (omega arith)
  fault (x ∷ s) l e = go (fault s) (p x) refl
    where
      go : (prefix_len p s < length s → (get_or s (prefix_len p s) 0 ≡ b → ⊥) → each p (take (before b s) s) ≡ false) → (v : Bool) → p x ≡ v → each p (take (before b (x ∷ s)) (x ∷ s)) ≡ false
      go h true f =
          let k = lead_yes p x s f in
          ap (λ n. each p (take n (x ∷ s))) (pass x s f)
          ∙ and_right (p x) _ (h (omega arith) (λ q. e (ap (λ n. get_or (x ∷ s) n 0) k ∙ q)))
      go h false f =
          let k = lead-no p x s f in
          let q : eqb x b ≡ false = ne_eqb x b (λ q. e (ap (λ n. get_or (x ∷ s) n 0) k ∙ q)) in
          ap (λ n. each p (take n (x ∷ s))) (cond-false (eqb x b) 0 (suc (before b s)) q)
          ∙ and_left (p x) (each p (take (before b s) s)) f

at_out : node_byte 64 ≡ false
unfolding node_byte
at_out = refl

-- a node name, cut at the end of its first run
module _ (s : List ℕ) (n : ℕ) (run : n ≡ prefix_len node_byte s) where
  pub name-one : n ≡ length s → node_name s ≡ (leb 1 n && leb n 31)
  unfolding node_name
  name-one e =
      let k = before-whole node_byte 64 at_out s (sym run ∙ e) in
      let h : each node_byte s ≡ true = each-run node_byte s ∙ eq-eqb _ _ (sym run ∙ e) in
      grind (arith, nat_tests)

  pub name_fails : n < length s → (get_or s n 0 ≡ 64 → ⊥) → node_name s ≡ false
  unfolding node_name
  name_fails l e =
      let k = fault node_byte 64 at_out s (omega arith) (λ q. e (ap (λ m. get_or s m 0) run ∙ q)) in
      ⊎_elim
      (λ q.
      let t : each node_byte s ≡ false = ap (each node_byte) (sym (take_all (before 64 s) s (omega arith))) ∙ k in
      grind (arith, nat_tests))
      (λ q. grind (arith, nat_tests))
      (cases_eq (before 64 s) (length s))

  pub name-two : n < length s → get_or s n 0 ≡ 64 → node_name s ≡ ((leb 1 n && leb n 31) && word node_byte (take (length s - (n + 1)) (drop (n + 1) s)))
  unfolding node_name
  name-two l e =
      let k : before 64 s ≡ n = before_here node_byte 64 at_out s (omega arith) (ap (λ m. get_or s m 0) (sym run) ∙ e) ∙ sym run in
      let t : take (length s - (n + 1)) (drop (n + 1) s) ≡ drop (suc n) s = take_rest s (n + 1) ∙ ap (λ m. drop m s) (add-one n) in
      let f : each node_byte (take n s) ≡ true = rw run (each-front node_byte s) in
      let m : length (take n s) ≡ n = length-take-le n s (omega arith) in
      rw (k, t, ne_eqb n (length s) (λ q. omega arith), m, f) (grind (arith, nat_tests))
