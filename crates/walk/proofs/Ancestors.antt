-- What comes between a node and its child is below that node. Assumes nothing.
use Rattle.std.proofs.Common.{◌≡◌, ℕ, ◌+◌, ◌<◌, true, eqb, ◌⊎◌, List, [], ◌∷◌, ◌++◌, length, Ordering, Less, sym, refl, ap, ◌∙◌, inl, inr, ⊎_elim, true≢false, arith, length-append}
use Rattle.std.proofs.lemmas.Bool.Decides.{nat_tests}
use Rattle.std.proofs.lemmas.Bool.{cases_order, cases_Bool, eqb-true, eq-eqb}
use Rattle.std.specs.Str.{bytes_eq}
use Rattle.std.proofs.lemmas.Slice.Eq.{bytes_eq-Decides}
use Rattle.std.specs.Ordering.{ordering_then}
use Rattle.names.specs.Orders.{path_order, rank}
use Rattle.names.specs.Paths.{root, path_text, stem, child, leaf, plain}
use Rattle.names.specs.PathLaws.{further}
use Rattle.names.proofs.NameLaws.{node_names}
use Rattle.names.proofs.Orders.{below, above, level, rank-one, front_shared}
use Rattle.names.proofs.PathLaws.{by-root, root_ends, path_starts, path_splits, slashless, stem-root}
use Rattle.tree.specs.Places.{Bytes}
use Rattle.walk.specs.Runs.{Chain}
use Rattle.walk.proofs.Orders.{less_greater}
use Rattle.std.specs.Ordering as std-orderings

pub cases-bytes : (p q : Bytes) → (p ≡ q) ⊎ (p ≡ q → ⊥)
cases-bytes p q =
    let d = bytes_eq-Decides p q in
    ⊎_elim (λ t. inl (d.0 t)) (λ f. inr (λ e. true≢false (sym (d.1 e) ∙ f))) (cases_Bool (bytes_eq p q))

-- what lies between q and something that q begins begins with q
pub front-between : (q x y : Bytes) → (path_order x q ≡ Less → ⊥) → path_order x (q ++ y) ≡ Less → (s : Bytes) × (x ≡ q ++ s)
front-between [] x y g l = (x, refl)
front-between (b ∷ q) [] y g l = absurd (g refl)
front-between (b ∷ q) (a ∷ x) y g l =
    ⊎_elim
    (λ e.
    let z : a ≡ b = rank-one a b e in
    let k : (o : Ordering) → ordering_then (std-orderings.nat_cmp (rank a) (rank b)) o ≡ o = λ o. ap (λ c. ordering_then c o) (level (rank a) (rank b) e) in
    let r = front-between q x y (λ h. g (k (path_order x q) ∙ h)) (sym (k (path_order x (q ++ y))) ∙ l) in
    (r.0, λ i. z i ∷ r.1 i))
    (⊎_elim
    (λ h. absurd (g (ap (λ c. ordering_then c (path_order x q)) (below (rank a) (rank b) h))))
    (λ h. absurd (less_greater (sym l ∙ ap (λ c. ordering_then c (path_order x (q ++ y))) (above (rank a) (rank b) h)))))
    (cases_order (rank a) (rank b))

-- what is before a slash and more is nothing, or goes on with a slash
pub before-slash : (s n : Bytes) → path_order s (47 ∷ n) ≡ Less → further s ≡ true
before-slash [] n l = refl
before-slash (b ∷ s) n l =
    ⊎_elim (λ t. t) (λ f. absurd (less_greater (sym l ∙ ap (λ c. ordering_then c (path_order s n)) (above (rank b) 0 (grind (arith, nat_tests)))))) (cases_Bool (eqb b 47))

-- of two ways to cut a text at a slash, with no slash behind the second, the second is not the earlier
pub slash-split : (x y m n : Bytes) → x ++ (47 ∷ m) ≡ y ++ (47 ∷ n) → plain n ≡ true → (s : Bytes) × (y ≡ x ++ s) × (further s ≡ true)
slash-split [] [] m n e h = ([], refl, refl)
slash-split [] (b ∷ y) m n e h = let z : b ≡ 47 = cc in (b ∷ y, refl, eq-eqb b 47 z)
slash-split (a ∷ x) [] m n e h = let z : x ++ (47 ∷ m) ≡ n = cc in absurd (no x n z h)
  where
    no : (x n : Bytes) → x ++ (47 ∷ m) ≡ n → plain n ≡ true → ⊥
    no [] [] z h = let y : ◌≡◌ {A = ℕ} 0 1 = cc in omega arith
    no [] (b ∷ n) z h = let y : b ≡ 47 = cc in true≢false (sym (eq-eqb b 47 y) ∙ (slashless b n h).0)
    no (c ∷ x) [] z h = let y : ◌≡◌ {A = ℕ} 0 1 = cc in omega arith
    no (c ∷ x) (b ∷ n) z h = let y : x ++ (47 ∷ m) ≡ n = cc in no x n y (slashless b n h).1
slash-split (a ∷ x) (b ∷ y) m n e h =
    let z : x ++ (47 ∷ m) ≡ y ++ (47 ∷ n) = cc in
    let w : b ≡ a = cc in
    let r = slash-split x y m n z h in
    (r.0, λ i. w i ∷ r.1 i, r.2)

-- q is among the paths
abbrev pub In : Bytes → List Bytes → Type 0
In q [] = ⊥
In q (p ∷ ps) = (q ≡ p) ⊎ In q ps

pub chain-text : (c : Bytes) (ps : List Bytes) → Chain (c ∷ ps) → path_text c ≡ true
chain-text c [] h = ap path_text h ∙ root_ends.0
chain-text c (d ∷ ps) h = h.0

pub some_byte : (p : Bytes) → path_text p ≡ true → 0 < length p
some_byte p h = let e = ap length (path_starts p h).1 in omega arith

stem-none : (q : Bytes) → path_text q ≡ true → stem q ≡ [] → q ≡ root
stem-none q h e = ⊎_elim (λ r. r) (λ s. let z = some_byte q h in let y = ap length (sym s.1 ∙ e) in absurd (omega arith)) (by-root q)

nil-parts : (x y : Bytes) → [] ≡ x ++ y → x ≡ []
nil-parts [] y e = refl
nil-parts (a ∷ x) y e = let z : ◌≡◌ {A = ℕ} 0 1 = cc in absurd (omega arith)

-- what begins a path up to a slash or its end is among its ancestors
in-chain : (ps : List Bytes) (c q s : Bytes) → Chain (c ∷ ps) → path_text q ≡ true → further s ≡ true → c ≡ stem q ++ s → In q (c ∷ ps)
in-chain [] c q s h t f e =
    ⊎_elim
    (λ r. inl (r ∙ sym h))
    (λ r.
    let a : root ≡ q ++ s = sym h ∙ e ∙ ap (λ x. x ++ s) r.1 in
    let b = path_starts q t in
    let z : 47 ∷ [] ≡ 47 ∷ (b.0 ++ s) = a ∙ ap (λ x. x ++ s) b.1 in
    let y : [] ≡ b.0 ++ s = cc in
    absurd (r.0 (b.1 ∙ ap (λ x. 47 ∷ x) (nil-parts b.0 s y))))
    (by-root q)
in-chain (d ∷ ps) c q [] h t f e =
    let l : length (stem q ++ []) ≡ length (stem q) + 0 = length-append (stem q) [] in
    let a = some_byte c h.0 in
    let k = ap length e in
    ⊎_elim
    (λ r. let z : length (stem q) ≡ 0 = ap (λ x. length (stem x)) r ∙ ap length stem-root in absurd (omega arith))
    (λ r. inl (sym (e ∙ mathlib.Core.List.append-nil (stem q) ∙ r.1)))
    (by-root q)
in-chain (d ∷ ps) c q (b ∷ s) h t f e =
    let p = path_splits c h.0 h.1 in
    let n = node_names (leaf c) p.2 in
    let w : stem q ++ (47 ∷ s) ≡ stem d ++ (47 ∷ leaf c) = ap (λ x. stem q ++ (x ∷ s)) (sym (eqb-true b 47 f)) ∙ sym e ∙ sym p.0 ∙ ap (λ x. child x (leaf c)) h.2 in
    let r = slash-split (stem q) (stem d) s (leaf c) w n.0 in
    inr (⊎_elim
    (λ z.
    let y : [] ≡ stem q ++ r.0 = sym (ap stem z ∙ stem-root) ∙ r.1 in
    inl (stem-none q t (nil-parts (stem q) r.0 y) ∙ sym z))
    (λ z. in-chain ps d q r.0 h.3 t r.2 (sym z.1 ∙ r.1))
    (by-root d))

-- a node that is not behind c, with a child behind c, is an ancestor of c or c itself
pub ancestor : (ps : List Bytes) (c q n : Bytes) → Chain (c ∷ ps) → path_text q ≡ true → (path_order c q ≡ Less → ⊥) → path_order c (child q n) ≡ Less → In q (c ∷ ps)
ancestor ps c q n h t m l =
    ⊎_elim
    (λ r.
    let a = path_starts c (chain-text c ps h) in
    in-chain ps c q c h t (ap further a.1) (ap (λ x. x ++ c) (sym (ap stem r ∙ stem-root))))
    (λ r.
    let k : path_order c (q ++ (47 ∷ n)) ≡ Less = ap (λ x. path_order c (x ++ (47 ∷ n))) (sym r.1) ∙ l in
    let s = front-between q c (47 ∷ n) m k in
    let g : path_order s.0 (47 ∷ n) ≡ Less = sym (front_shared q s.0 (47 ∷ n)) ∙ ap (λ x. path_order x (q ++ (47 ∷ n))) (sym s.1) ∙ k in
    in-chain ps c q s.0 h t (before-slash s.0 n g) (s.1 ∙ ap (λ x. x ++ s.0) (sym r.1)))
    (by-root q)
