-- The first names of a path, and the paths of nodes one after another. Assumes nothing.
use Rattle.std.proofs.Common.{◌≡◌, ℕ, suc, ◌+◌, ◌-◌, ◌<◌, ◌≤◌, Bool, true, false, cond, not, eqb, [], ◌∷◌, ◌++◌, sym, refl, ap, ◌∙◌, subst, arith}
use Rattle.std.proofs.lemmas.Bool.{cond-true, cond-false, and_parts, eqb-true, eqb-false, eq-eqb, ne_eqb, not-true}
use Rattle.std.proofs.lemmas.Bool.Decides.{nat_tests}
use Rattle.names.specs.Paths.{plain}
use Rattle.tree.specs.Places.{Bytes}
use Rattle.tape.specs.Nodes.{Node, cut, height, step}

pub plain-height : (c : Bytes) → plain c ≡ true → height c ≡ 0
unfolding height
plain-height [] h = refl
plain-height (b ∷ bs) h =
    let p = and_parts (not (eqb b 47)) (plain bs) h in
    cond-false (eqb b 47) _ _ (not-true (eqb b 47) p.0) ∙ plain-height bs p.1

pub height_join : (a b : Bytes) → height (a ++ b) ≡ height a + height b
unfolding height
height_join [] b = omega arith
height_join (x ∷ a) b = let r = height_join a b in grind (arith, nat_tests)

pub height-child : (s c : Bytes) → plain c ≡ true → height (s ++ (47 ∷ c)) ≡ height s + 1
unfolding height
height-child s c h = height_join s (47 ∷ c) ∙ omega (arith, plain-height c h)

pub cut_all : (d : ℕ) (s : Bytes) → height s ≤ d → cut d s ≡ s
unfolding cut height
cut_all d [] h = refl
cut_all d (b ∷ bs) h = go (eqb b 47) refl (λ k. cut_all (d - 1) bs k) (λ k. cut_all d bs k)
  where
    go : (x : Bool) → eqb b 47 ≡ x → (height bs ≤ d - 1 → cut (d - 1) bs ≡ bs) → (height bs ≤ d → cut d bs ≡ bs) → cond x (cond (eqb d 0) [] (b ∷ cut (d - 1) bs)) (b ∷ cut d bs) ≡ b ∷ bs
    go true e f g =
        let k : suc (height bs) ≤ d = subst (λ n. n ≤ d) (cond-true (eqb b 47) (suc (height bs)) (height bs) e) h in
        cond-false (eqb d 0) _ _ (ne_eqb d 0 (λ z. omega arith)) ∙ ap (λ t. b ∷ t) (f (omega arith))
    go false e f g = let k : height bs ≤ d = subst (λ n. n ≤ d) (cond-false (eqb b 47) (suc (height bs)) (height bs) e) h in ap (λ t. b ∷ t) (g k)

pub cut_join : (d : ℕ) (s t : Bytes) → d ≤ height s → cut d (s ++ (47 ∷ t)) ≡ cut d s
unfolding cut height
cut_join d [] t h = cond-true (eqb d 0) _ _ (eq-eqb d 0 (omega arith))
cut_join d (b ∷ bs) t h = go (eqb b 47) refl (λ k. cut_join (d - 1) bs t k) (λ k. cut_join d bs t k)
  where
    go : (x : Bool) → eqb b 47 ≡ x → (d - 1 ≤ height bs → cut (d - 1) (bs ++ (47 ∷ t)) ≡ cut (d - 1) bs) → (d ≤ height bs → cut d (bs ++ (47 ∷ t)) ≡ cut d bs) → cond x (cond (eqb d 0) [] (b ∷ cut (d - 1) (bs ++ (47 ∷ t)))) (b ∷ cut d (bs ++ (47 ∷ t))) ≡ cond x (cond (eqb d 0) [] (b ∷ cut (d - 1) bs)) (b ∷ cut d bs)
    go true e f g =
        let k : d ≤ suc (height bs) = subst (λ n. d ≤ n) (cond-true (eqb b 47) (suc (height bs)) (height bs) e) h in
        ap (λ y. cond (eqb d 0) [] (b ∷ y)) (f (omega arith))
    go false e f g = let k : d ≤ height bs = subst (λ n. d ≤ n) (cond-false (eqb b 47) (suc (height bs)) (height bs) e) h in ap (λ y. b ∷ y) (g k)

pub cut-cut : (d e : ℕ) (s : Bytes) → d ≤ e → cut d (cut e s) ≡ cut d s
unfolding cut
cut-cut d e [] h = refl
cut-cut d e (b ∷ bs) h = go (eqb b 47) refl (eqb e 0) refl (cut-cut (d - 1) (e - 1) bs (omega arith)) (cut-cut d e bs h)
  where
    go : (x : Bool) → eqb b 47 ≡ x → (y : Bool) → eqb e 0 ≡ y → cut (d - 1) (cut (e - 1) bs) ≡ cut (d - 1) bs → cut d (cut e bs) ≡ cut d bs → cut d (cond x (cond y [] (b ∷ cut (e - 1) bs)) (b ∷ cut e bs)) ≡ cond x (cond (eqb d 0) [] (b ∷ cut (d - 1) bs)) (b ∷ cut d bs)
    go true p true q f g = sym (cond-true (eqb d 0) _ _ (eq-eqb d 0 (omega (arith, eqb-true e 0 q))))
    go true p false q f g = cond-true (eqb b 47) _ _ p ∙ ap (λ z. cond (eqb d 0) [] (b ∷ z)) f
    go false p y q f g = cond-false (eqb b 47) _ _ p ∙ ap (λ z. b ∷ z) g

pub height-cut : (d : ℕ) (s : Bytes) → d ≤ height s → height (cut d s) ≡ d
unfolding cut height
height-cut d [] h = omega arith
height-cut d (b ∷ bs) h = go (eqb b 47) refl (eqb d 0) refl (λ k. height-cut (d - 1) bs k) (λ k. height-cut d bs k)
  where
    go : (x : Bool) → eqb b 47 ≡ x → (y : Bool) → eqb d 0 ≡ y → (d - 1 ≤ height bs → height (cut (d - 1) bs) ≡ d - 1) → (d ≤ height bs → height (cut d bs) ≡ d) → height (cond x (cond y [] (b ∷ cut (d - 1) bs)) (b ∷ cut d bs)) ≡ d
    go true e true q f g = sym (eqb-true d 0 q)
    go true e false q f g =
        let k : d ≤ suc (height bs) = subst (λ n. d ≤ n) (cond-true (eqb b 47) (suc (height bs)) (height bs) e) h in
        cond-true (eqb b 47) _ _ e ∙ omega (arith, f (omega arith), eqb-false d 0 q)
    go false e y q f g =
        let k : d ≤ height bs = subst (λ n. d ≤ n) (cond-false (eqb b 47) (suc (height bs)) (height bs) e) h in
        cond-false (eqb b 47) _ _ e ∙ g k

-- one node further
module _ (s : Bytes) (n : Node) (low : 1 ≤ n.depth) (high : n.depth ≤ height s + 1) (name : plain n.name ≡ true) where
  pub step_is : step s n ≡ cut (n.depth - 1) s ++ (47 ∷ n.name)
  unfolding step
  step_is = cond-false (eqb n.depth 0) _ _ (ne_eqb n.depth 0 (λ z. omega arith))

  pub step-height : height (step s n) ≡ n.depth
  step-height =
      ap height step_is ∙ height-child (cut (n.depth - 1) s) n.name name
      ∙ omega (arith, height-cut (n.depth - 1) s (omega arith))

  pub step_cut : (k : ℕ) → k < n.depth → cut k (step s n) ≡ cut k s
  step_cut k h =
      ap (cut k) step_is ∙ cut_join k (cut (n.depth - 1) s) n.name (omega (arith, height-cut (n.depth - 1) s (omega arith)))
      ∙ cut-cut k (n.depth - 1) s (omega arith)
