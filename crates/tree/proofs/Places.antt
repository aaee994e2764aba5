-- The order of places is one. Assumes nothing.
use Rattle.std.proofs.Common.{◌≡◌, ℕ, List, [], ◌∷◌, map, Some, None, sym, refl, ap, ◌∙◌, true≢false, arith}
use Rattle.std.proofs.lemmas.Bool.Decides.{nat_tests}
use Rattle.std.specs.Ordering.{is_lt, is_gt, ordering_then, ordering_reverse}
use Rattle.std.specs.declared.cmp.Ordering.{Ordering}
use Rattle.std.specs.declared.cmp.Ordering.TheVariants.{Less, Equal, Greater}
use Rattle.std.specs.Cmp.{IsTotalOrder}
use Rattle.std.specs.Cmp.Lexicographic.{slice_cmp, options_total}
use Rattle.std.specs.Option.{option_cmp}
use Rattle.std.proofs.lemmas.Cmp.{nat_list_cmp_total}
use Rattle.std.proofs.lemmas.Map.Lookups.{CmpEqualImpliesEq, exact_bytes, exact_pairs}
use Rattle.names.specs.Orders.{rank}
use Rattle.tree.specs.Maps.{Ordered}
use Rattle.tree.specs.Places.{Place, order}
use Rattle.std.specs.Ordering as std-orderings

exact-optional : CmpEqualImpliesEq (option_cmp (slice_cmp std-orderings.nat_cmp))
exact-optional None None e = refl
exact-optional None (Some y) e = absurd (true≢false (ap is_lt e))
exact-optional (Some x) None e = absurd (true≢false (ap is_gt e))
exact-optional (Some x) (Some y) e = ap Some (exact_bytes x y e)

-- ---- a pair by its first part, then by its second

reverse-then : (p q : Ordering) → ordering_then (ordering_reverse p) (ordering_reverse q) ≡ ordering_reverse (ordering_then p q)
reverse-then Less q = refl
reverse-then Equal q = refl
reverse-then Greater q = refl

module _ {A B : Type 0} {R : A → A → Ordering} {S : B → B → Ordering} (r : IsTotalOrder R) (s : IsTotalOrder S) where
  pairs_flip : (x y : A × B) → ordering_then (R x.0 y.0) (S x.1 y.1) ≡ ordering_reverse (ordering_then (R y.0 x.0) (S y.1 x.1))
  pairs_flip x y = (λ i. ordering_then (r.antisymm x.0 y.0 i) (s.antisymm x.1 y.1 i)) ∙ reverse-then (R y.0 x.0) (S y.1 x.1)

  -- what is level with the second is as far from the first
  level_last : (a b c : A) → R b c ≡ Equal → R a c ≡ R a b
  level_last a b c e = r.antisymm a c ∙ ap ordering_reverse (sym (r.congr b c a e)) ∙ sym (r.antisymm a b)

  pairs_trans : (x y z : A × B) → ordering_then (R x.0 y.0) (S x.1 y.1) ≡ Less → ordering_then (R y.0 z.0) (S y.1 z.1) ≡ Less → ordering_then (R x.0 z.0) (S x.1 z.1) ≡ Less
  pairs_trans x y z h g = go (R x.0 y.0) (R y.0 z.0) refl refl h g
    where
      go : (p q : Ordering) → R x.0 y.0 ≡ p → R y.0 z.0 ≡ q → ordering_then p (S x.1 y.1) ≡ Less → ordering_then q (S y.1 z.1) ≡ Less → ordering_then (R x.0 z.0) (S x.1 z.1) ≡ Less
      go Less Less e f h g = ap (λ o. ordering_then o (S x.1 z.1)) (r.trans x.0 y.0 z.0 e f)
      go Less Equal e f h g = ap (λ o. ordering_then o (S x.1 z.1)) (level_last x.0 y.0 z.0 f ∙ e)
      go Less Greater e f h g = absurd (true≢false (ap is_gt g))
      go Equal Less e f h g = ap (λ o. ordering_then o (S x.1 z.1)) (r.congr x.0 y.0 z.0 e ∙ f)
      go Equal Equal e f h g = ap (λ o. ordering_then o (S x.1 z.1)) (r.congr x.0 y.0 z.0 e ∙ f) ∙ s.trans x.1 y.1 z.1 h g
      go Equal Greater e f h g = absurd (true≢false (ap is_gt g))
      go Greater q e f h g = absurd (true≢false (ap is_gt h))

rank-one : (a b : ℕ) → rank a ≡ rank b → a ≡ b
rank-one a b e = grind (arith, nat_tests)

pub rank-all : (x y : List ℕ) → map rank x ≡ map rank y → x ≡ y
rank-all [] [] e = refl
rank-all [] (b ∷ y) e = let z : ◌≡◌ {A = ℕ} 0 1 = cc in absurd (omega arith)
rank-all (a ∷ x) [] e = let z : ◌≡◌ {A = ℕ} 0 1 = cc in absurd (omega arith)
rank-all (a ∷ x) (b ∷ y) e =
    let h : rank a ≡ rank b = cc in
    let t : map rank x ≡ map rank y = cc in
    λ i. rank-one a b h i ∷ rank-all x y t i

ranked : Place → Place
ranked k = (map rank k.0, k.1)

pub place-order : Ordered order
unfolding ranked
place-order =
    let o = options_total nat_list_cmp_total in
    record {
      flip = λ x y. pairs_flip nat_list_cmp_total o (ranked x) (ranked y);
      trans = λ x y z. pairs_trans nat_list_cmp_total o (ranked x) (ranked y) (ranked z);
      exact = λ x y e.
          let s = exact_pairs (slice_cmp std-orderings.nat_cmp) (option_cmp (slice_cmp std-orderings.nat_cmp)) exact_bytes exact-optional (ranked x) (ranked y) e in
          λ i. (rank-all x.0 y.0 (ap (λ p. p.0) s) i, (s i).1);
    }
