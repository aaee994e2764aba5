-- The loops over paths: to the last slash, along a shared front, from name to name. Assumes nothing.
use Rattle.std.proofs.Common.{◌≡◌, ℕ, zero, suc, ◌+◌, ◌-◌, ◌<◌, ◌≤◌, min, Bool, true, false, cond, not, ◌&&◌, eqb, List, [], ◌∷◌, ◌++◌, length, get_or, take, drop, Ordering, sym, refl, ap, ◌∙◌, subst, ⊎_elim, suc-le-suc, zero-le, le_of_suc-le-suc, not-suc-le-zero, one-add, arith, length-drop, append_assoc, append-nil}
use native.Mathlib.Nat.{sub-zero}
use Rattle.std.specs.List.{common_prefix_len, onto_first, position, position_or_len, slice_split, zip}
use Rattle.std.specs.Option.{unwrap_or}
use Rattle.std.specs.Ordering as std-orderings
use Rattle.std.specs.Ordering.{ordering_then}
use Rattle.std.proofs.lemmas.List.{drop_all, drop_more, take-append-drop, take_rest}
use Rattle.std.proofs.lemmas.Slice.Zip.{length-zip}
use Rattle.std.proofs.lemmas.Bool.{and_from, and_left, or_left, cases_order, eqb-true, eqb-false, eq-eqb, ne_eqb, cond-true, cond-false, not_from_false}
use Rattle.std.proofs.lemmas.Bool.Decides.{nat_tests}
use Rattle.names.specs.Names.{each, node_name}
use Rattle.names.specs.Orders.{path_order, rank}
use Rattle.names.specs.Paths.{root, parts, path_text, plain, behind_last, leaf, parent}
use Rattle.names.proofs.Orders.{below, above, level, rank-one}
use Rattle.names.proofs.PathLaws.{behind-plain, behind-last, text-names}
use Rattle.names.proofs.Words.{unless_first}

-- ---- to the last slash

apart : (p : List ℕ) (i : ℕ) → i < length p → p ≡ take i p ++ (get_or p i 0 ∷ drop (i + 1) p)
apart p i l = sym (take-append-drop i p) ∙ ap (λ x. take i p ++ x) (drop_more p i 0 l)

-- a loop from the end that has seen no slash from i + 1 on
module _ (p : List ℕ) (i : ℕ) (l : i < length p) (inv : plain (drop (i + 1) p) ≡ true) where
  pub slash-found : get_or p i 0 ≡ 47 → drop (i + 1) p ≡ leaf p
  slash-found e =
      let s : p ≡ take i p ++ (47 ∷ drop (i + 1) p) = apart p i l ∙ ap (λ b. take i p ++ (b ∷ drop (i + 1) p)) e in
      sym (ap (behind_last p) s ∙ behind-last p (take i p) (drop (i + 1) p) inv)

-- no slash from n on
pub plain-behind : (p : List ℕ) (n : ℕ) → ((k : ℕ) → n ≤ k → k < length p → get_or p k 0 ≡ 47 → ⊥) → plain (drop n p) ≡ true
plain-behind [] n h = ap plain (drop_all n [] (omega arith))
plain-behind (b ∷ p) zero h =
    let i = plain-behind p 0 (λ k l m. h (suc k) (omega arith) (omega arith)) in
    and_from (not (eqb b 47)) (plain p) (not_from_false (eqb b 47) (ne_eqb b 47 (h 0 (omega arith) (omega arith)))) i
plain-behind (b ∷ p) (suc n) h = plain-behind p n (λ k l m. h (suc k) (omega arith) (omega arith))

pub slash-none : (p : List ℕ) → plain p ≡ true → p ≡ leaf p
slash-none p h = sym (behind-plain p p h)

-- ---- along a shared front

-- the first place where two texts differ, or the end of the shorter
front-zip : (a b : List ℕ) → position_or_len (λ p. not (eqb p.0 p.1)) (zip a b) ≡ common_prefix_len eqb a b
front-zip [] b = refl
front-zip (x ∷ a) [] = refl
front-zip (x ∷ a) (y ∷ b) = let h = front-zip a b in grind (arith, nat_tests)

zip-front : (a b : List ℕ) (n : ℕ) → n ≡ min (length a) (length b) → zip (take n a) (take n b) ≡ zip a b
zip-front [] b zero e = refl
zip-front [] b (suc n) e = refl
zip-front (x ∷ a) [] zero e = refl
zip-front (x ∷ a) [] (suc n) e = refl
zip-front (x ∷ a) (y ∷ b) zero e = absurd (omega arith)
zip-front (x ∷ a) (y ∷ b) (suc n) e = ap (λ p. (x, y) ∷ p) (zip-front a b n (omega arith))

pub front-position : (a b : List ℕ) (n : ℕ) → n ≡ min (length a) (length b) → unwrap_or (position (λ p. not (eqb p.0 p.1)) (zip (take n a) (take n b))) n ≡ common_prefix_len eqb a b
front-position a b n e =
    (λ i. unwrap_or (position (λ p. not (eqb p.0 p.1)) (zip-front a b n e i)) ((e ∙ sym (length-zip a b)) i))
    ∙ unless_first (λ p. not (eqb p.0 p.1)) (zip a b)
    ∙ front-zip a b

-- a comparison that tells two numbers apart decides
decides : (x y : ℕ) (o : Ordering) → (x ≡ y → ⊥) → ordering_then (std-orderings.nat_cmp x y) o ≡ std-orderings.nat_cmp x y
decides x y o n =
    ⊎_elim
    (λ e. absurd (n e))
    (⊎_elim
    (λ l. ap (λ k. ordering_then k o) (below x y l) ∙ sym (below x y l))
    (λ l. ap (λ k. ordering_then k o) (above x y l) ∙ sym (above x y l)))
    (cases_order x y)

common_yes : (x y : ℕ) (a b : List ℕ) → eqb x y ≡ true → common_prefix_len eqb (x ∷ a) (y ∷ b) ≡ suc (common_prefix_len eqb a b)
common_yes x y a b e = cond-true (eqb x y) (1 + common_prefix_len eqb a b) 0 e ∙ one-add (common_prefix_len eqb a b)

common_no : (x y : ℕ) (a b : List ℕ) → eqb x y ≡ false → common_prefix_len eqb (x ∷ a) (y ∷ b) ≡ 0
common_no x y a b e = cond-false (eqb x y) (1 + common_prefix_len eqb a b) 0 e

-- equal first bytes do not count
skip : (x y : ℕ) (a b : List ℕ) → eqb x y ≡ true → path_order (x ∷ a) (y ∷ b) ≡ path_order a b
skip x y a b e = ap (λ o. ordering_then o (path_order a b)) (level (rank x) (rank y) (ap rank (eqb-true x y e)))

-- the first difference decides
abbrev ByByte : List ℕ → List ℕ → ℕ → Type 0
ByByte a b n =
    n < length a →
    n < length b →
    path_order a b ≡ std-orderings.nat_cmp (rank (get_or a n 0)) (rank (get_or b n 0))

by_first : (a b : List ℕ) → ByByte a b (common_prefix_len eqb a b)
by_first [] b l m = absurd (omega arith)
by_first (x ∷ a) [] l m = absurd (omega arith)
by_first (x ∷ a) (y ∷ b) l m = go (by_first a b) (eqb x y) refl l m
  where
    go : ByByte a b (common_prefix_len eqb a b) → (v : Bool) → eqb x y ≡ v → ByByte (x ∷ a) (y ∷ b) (common_prefix_len eqb (x ∷ a) (y ∷ b))
    go h true e =
        subst (ByByte (x ∷ a) (y ∷ b)) (sym (common_yes x y a b e)) (λ l m. skip x y a b e ∙ h (omega arith) (omega arith))
    go h false e =
        subst (ByByte (x ∷ a) (y ∷ b)) (sym (common_no x y a b e))
        (λ l m. decides (rank x) (rank y) (path_order a b) (λ q. eqb-false x y e (rank-one x y q)))

pub by_byte : (a b : List ℕ) (n : ℕ) → n ≡ common_prefix_len eqb a b → ByByte a b n
by_byte a b n e = subst (ByByte a b) (sym e) (by_first a b)

-- one begins with the other, so the lengths decide
abbrev ByLength : List ℕ → List ℕ → ℕ → Type 0
ByLength a b n = (n < length a → length b ≤ n) → path_order a b ≡ std-orderings.nat_cmp (length a) (length b)

by_lengths : (a b : List ℕ) → ByLength a b (common_prefix_len eqb a b)
by_lengths [] [] o = refl
by_lengths [] (y ∷ b) o = sym (below 0 (suc (length b)) (omega arith))
by_lengths (x ∷ a) [] o = sym (above (suc (length a)) 0 (omega arith))
by_lengths (x ∷ a) (y ∷ b) o = go (by_lengths a b) (eqb x y) refl o
  where
    shifted : (m n : ℕ) → std-orderings.nat_cmp m n ≡ std-orderings.nat_cmp (suc m) (suc n)
    shifted m n =
        ⊎_elim
        (λ e. level m n e ∙ sym (level (suc m) (suc n) (ap suc e)))
        (⊎_elim
        (λ l. below m n l ∙ sym (below (suc m) (suc n) (omega arith)))
        (λ l. above m n l ∙ sym (above (suc m) (suc n) (omega arith))))
        (cases_order m n)

    go : ByLength a b (common_prefix_len eqb a b) → (v : Bool) → eqb x y ≡ v → ByLength (x ∷ a) (y ∷ b) (common_prefix_len eqb (x ∷ a) (y ∷ b))
    go h true e =
        subst (ByLength (x ∷ a) (y ∷ b)) (sym (common_yes x y a b e))
        (λ o. skip x y a b e ∙ h (λ l. le_of_suc-le-suc (o (suc-le-suc l))) ∙ shifted (length a) (length b))
    go h false e =
        subst (ByLength (x ∷ a) (y ∷ b)) (sym (common_no x y a b e)) (λ o. absurd (not-suc-le-zero (o (suc-le-suc zero-le))))

pub by_length : (a b : List ℕ) (n : ℕ) → n ≡ common_prefix_len eqb a b → ByLength a b n
by_length a b n e = subst (ByLength a b) (sym e) (by_lengths a b)

-- ---- the parent

parent-start : (p : List ℕ) (r : ℕ) → r ≤ length p → drop r p ≡ leaf p → parent p ≡ cond (eqb (r - 1) 0) root (take (r - 1) p)
unfolding parent
parent-start p r l e =
    let k : length p - (length (leaf p) + 1) ≡ r - 1 = omega (arith, ap length e, length-drop r p) in
    ap (λ n. cond (eqb n 0) root (take n p)) k

-- r is where the last name starts
module _ (p : List ℕ) (r : ℕ) (l : r ≤ length p) (is : drop r p ≡ leaf p) where
  pub parent-root : r ≤ 1 → root ≡ parent p
  parent-root h = sym (parent-start p r l is ∙ cond-true (eqb (r - 1) 0) root (take (r - 1) p) (eq-eqb (r - 1) 0 (omega arith)))

  pub parent-part : 1 < r → take (r - 1 - 0) p ≡ parent p
  parent-part h =
      let n : r - 1 ≡ 0 → ⊥ = λ e. omega arith in
      ap (λ k. take k p) (sub-zero (r - 1))
      ∙ sym (parent-start p r l is ∙ cond-false (eqb (r - 1) 0) root (take (r - 1) p) (ne_eqb (r - 1) 0 n))

-- ---- from name to name

-- a text before the first of some parts
abbrev onto : List ℕ → List (List ℕ) → List (List ℕ)
onto cur [] = cur ∷ []
onto cur (x ∷ xs) = (cur ++ x) ∷ xs

onto_more : (cur : List ℕ) (b : ℕ) (xs : List (List ℕ)) → onto (cur ++ (b ∷ [])) xs ≡ onto cur (onto_first b xs)
onto_more cur b [] = refl
onto_more cur b (x ∷ xs) = ap (λ y. y ∷ xs) (append_assoc cur (b ∷ []) x)

onto-first : (b : ℕ) (xs : List (List ℕ)) → onto [] (onto_first b xs) ≡ onto_first b xs
onto-first b [] = refl
onto-first b (x ∷ xs) = refl

onto-split : (p : ℕ → Bool) (s : List ℕ) → onto [] (slice_split p s) ≡ slice_split p s
onto-split p [] = refl
onto-split p (b ∷ s) = go (p b)
  where
    go : (v : Bool) → onto [] (cond v ([] ∷ slice_split p s) (onto_first b (slice_split p s))) ≡ cond v ([] ∷ slice_split p s) (onto_first b (slice_split p s))
    go true = refl
    go false = onto-first b (slice_split p s)

parts-onto : (cur s : List ℕ) → parts cur s ≡ onto cur (slice_split (λ b. eqb b 47) s)
unfolding parts
parts-onto cur [] = ap (λ x. x ∷ []) (sym (append-nil cur))
parts-onto cur (b ∷ s) = go (parts-onto [] s) (parts-onto (cur ++ (b ∷ [])) s) (eqb b 47)
  where
    go : parts [] s ≡ onto [] (slice_split (λ b. eqb b 47) s) → parts (cur ++ (b ∷ [])) s ≡ onto (cur ++ (b ∷ [])) (slice_split (λ b. eqb b 47) s) → (v : Bool) → cond v (cur ∷ parts [] s) (parts (cur ++ (b ∷ [])) s) ≡ onto cur (cond v ([] ∷ slice_split (λ b. eqb b 47) s) (onto_first b (slice_split (λ b. eqb b 47) s)))
    go e f true = (λ i. sym (append-nil cur) i ∷ (e ∙ onto-split (λ b. eqb b 47) s) i)
    go e f false = f ∙ onto_more cur b (slice_split (λ b. eqb b 47) s)

pub parts-split : (s : List ℕ) → slice_split (λ b. eqb b 47) s ≡ parts [] s
parts-split s = sym (parts-onto [] s ∙ onto-split (λ b. eqb b 47) s)

-- ---- the text of a path, by its first byte and its length

pub path_empty : (s : List ℕ) → length s ≡ 0 → path_text s ≡ false
unfolding path_text
path_empty [] e = refl
path_empty (b ∷ bs) e = absurd (omega arith)

pub path-other : (s : List ℕ) → (get_or s 0 0 ≡ 47 → ⊥) → path_text s ≡ false
unfolding path_text
path-other [] e = refl
path-other (b ∷ bs) e = and_left (eqb b 47) _ (ne_eqb b 47 e)

pub path-root : (s : List ℕ) → get_or s 0 0 ≡ 47 → length s ≡ 1 → path_text s ≡ true
unfolding path_text
path-root [] e l = absurd (omega arith)
path-root (b ∷ bs) e l =
    and_from (eqb b 47) _ (eq-eqb b 47 e) (or_left (eqb (length bs) 0) _ (eq-eqb (length bs) 0 (omega arith)))

pub path_names : (s : List ℕ) → get_or s 0 0 ≡ 47 → (length s ≡ 1 → ⊥) → path_text s ≡ each node_name (parts [] (take (length s - 1) (drop 1 s)))
path_names [] e l = absurd (omega arith)
path_names (b ∷ bs) e l =
    text-names b bs (λ q. l (ap length q))
    ∙ (λ i. eq-eqb b 47 e i && each node_name (parts [] (sym (take_rest (b ∷ bs) 1) i)))
