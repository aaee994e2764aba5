-- A finite map as the list of its keys and values, the keys strictly rising, for any key with a total order. Assumes nothing.
use Rattle.std.specs.Prelude.{◌≡◌, ℕ, ◌+◌, List, [], ◌∷◌, Some, None, Option}
use Rattle.std.specs.declared.cmp.Ordering.TheVariants.{Less, Equal}
use Rattle.std.specs.declared.cmp.Ordering.{Ordering}
use Rattle.std.specs.Ordering.{ordering_reverse, match_ordering as by_order}

-- c is a strict order's comparison, that tells all keys apart
pub record Ordered {K : Type 0} (c : K → K → Ordering) : Type 0 where
  pub flip : (x y : K) → c x y ≡ ordering_reverse (c y x)
  pub trans : (x y z : K) → c x y ≡ Less → c y z ≡ Less → c x z ≡ Less
  pub exact : (x y : K) → c x y ≡ Equal → x ≡ y

-- the entry of k in front, unless there is none
abbrev pub entry : {K X : Type 0} → K → Option X → List (K × X) → List (K × X)
entry k None es = es
entry k (Some v) es = (k, v) ∷ es

module _ {K X : Type 0} (c : K → K → Ordering) where
  -- the value at q, if any
  unfoldable pub find : List (K × X) → K → Option X
  find [] q = None
  find (e ∷ es) q = by_order (c q e.0) None (Some e.1) (find es q)

  -- the map with w at k: a value put there, or none
  unfoldable pub upd : List (K × X) → K → Option X → List (K × X)
  upd [] k w = entry k w []
  upd (e ∷ es) k w = by_order (c k e.0) (entry k w (e ∷ es)) (entry k w es) (e ∷ upd es k w)

  abbrev pub Below : K → List (K × X) → Type 0
  Below k [] = Unit {0}
  Below k (e ∷ es) = c k e.0 ≡ Less

  abbrev pub Rises : List (K × X) → Type 0
  Rises [] = Unit {0}
  Rises (e ∷ es) = Below e.0 es × Rises es

-- what an entry counts, and what all of them count
abbrev pub worth : {K X : Type 0} → (K → X → ℕ) → K → Option X → ℕ
worth f k None = 0
worth f k (Some v) = f k v

unfoldable pub total : {K X : Type 0} → (K → X → ℕ) → List (K × X) → ℕ
total f [] = 0
total f (e ∷ es) = f e.0 e.1 + total f es
