-- The order of places by the order of paths. Assumes nothing.
use Rattle.std.proofs.Common.{◌≡◌, true, ◌⊎◌, [], ◌∷◌, Some, None, Option, Ordering, Less, Equal, Greater, sym, refl, ap, ◌∙◌, inl, inr, ⊎_elim, true≢false}
use Rattle.std.specs.Ordering.{is_lt, is_eq, ordering_then, nat_cmp}
use Rattle.names.specs.Orders.{path_order}
use Rattle.names.specs.Paths.{root, path_text}
use Rattle.names.proofs.Orders.{path_order_lem, longer_after}
use Rattle.names.proofs.PathLaws.{path_starts}
use Rattle.tree.specs.Places.{Bytes, node_at, property_at, order}
use Rattle.std.specs.Cmp.Lexicographic.{slice_cmp}
use Rattle.std.specs.Option.{option_cmp}

pub less_greater : Less ≡ Greater → ⊥
less_greater e = true≢false (ap is_lt e)

pub equal_less : Equal ≡ Less → ⊥
equal_less e = true≢false (ap is_eq e)

pub paths-less : (p q : Bytes) (x y : Option Bytes) → path_order p q ≡ Less → order (p, x) (q, y) ≡ Less
paths-less p q x y e = ap (λ o. ordering_then o ((option_cmp (slice_cmp nat_cmp)) x y)) e

pub paths-same : (p : Bytes) (x y : Option Bytes) → order (p, x) (p, y) ≡ (option_cmp (slice_cmp nat_cmp)) x y
paths-same p x y = ap (λ o. ordering_then o ((option_cmp (slice_cmp nat_cmp)) x y)) (path_order_lem.itself p)

then_less : (r s : Ordering) → ordering_then r s ≡ Less → (r ≡ Less) ⊎ ((r ≡ Equal) × (s ≡ Less))
then_less Less s e = inl refl
then_less Equal s e = inr (refl, e)
then_less Greater s e = absurd (less_greater (sym e))

-- an earlier place is on an earlier path, or on the same
pub less-paths : (p q : Bytes) (x y : Option Bytes) → order (p, x) (q, y) ≡ Less → (path_order p q ≡ Less) ⊎ ((p ≡ q) × ((option_cmp (slice_cmp nat_cmp)) x y ≡ Less))
less-paths p q x y e =
    ⊎_elim (λ l. inl l) (λ s. inr (path_order_lem.exact p q s.0, s.1)) (then_less (path_order p q) ((option_cmp (slice_cmp nat_cmp)) x y) e)

-- two nodes
pub node-less : (p q : Bytes) → order (node_at p) (node_at q) ≡ Less → path_order p q ≡ Less
node-less p q e = ⊎_elim (λ l. l) (λ s. absurd (equal_less s.1)) (less-paths p q None None e)

-- the node of a property is before it
pub own-property : (p n : Bytes) → order (node_at p) (property_at p n) ≡ Less
own-property p n = paths-same p None (Some n)

-- at most: the same path or an earlier one
abbrev pub AtMost : Bytes → Bytes → Type 0
AtMost p q = (p ≡ q) ⊎ (path_order p q ≡ Less)

pub never_less : (p : Bytes) → path_order p p ≡ Less → ⊥
never_less p e = equal_less (sym (path_order_lem.itself p) ∙ e)

pub most-less : (p q r : Bytes) → AtMost p q → path_order q r ≡ Less → path_order p r ≡ Less
most-less p q r m l = ⊎_elim (λ e. ap (λ x. path_order x r) e ∙ l) (λ k. path_order_lem.trans p q r k l) m

pub most-not-less : (p q : Bytes) → AtMost p q → path_order q p ≡ Less → ⊥
most-not-less p q m l = never_less p (most-less p q p m l)

-- no path is before the root
pub root-most : (p : Bytes) → path_text p ≡ true → AtMost root p
root-most p h = go (path_starts p h).0 (path_starts p h).1
  where
    go : (r : Bytes) → p ≡ 47 ∷ r → AtMost root p
    go [] e = inl (sym e)
    go (b ∷ r) e = inr (ap (path_order root) e ∙ longer_after root b r)
