-- What holds of finite maps over any key with a total order, and so of trees by their places. Assumes nothing.
use Rattle.std.specs.Prelude.{◌≡◌, ℕ, ◌+◌, List, Option, ◌≢◌}
use Rattle.std.specs.declared.cmp.Ordering.{Ordering}
use Rattle.tree.specs.Maps.{Ordered, find, upd, Rises, worth, total}
use Rattle.tree.specs.Places.{Bytes, order}

pub record MapLaws {K : Type 0} (X : Type 0) (c : K → K → Ordering) : Type 0 where
  -- what is put at a key is found there
  pub found : (t : List (K × X)) (k : K) (w : Option X) → Rises c t → find c (upd c t k w) k ≡ w
  -- what is at another key stays
  pub kept : (t : List (K × X)) (k q : K) (w : Option X) → Rises c t → (q ≢ k) → find c (upd c t k w) q ≡ find c t q
  pub rises : (t : List (K × X)) (k : K) (w : Option X) → Rises c t → Rises c (upd c t k w)
  -- changes at two keys may change places
  pub swap : (t : List (K × X)) (k j : K) (v w : Option X) → Rises c t → (k ≢ j) → upd c (upd c t k v) j w ≡ upd c (upd c t j w) k v
  -- the earlier value undoes a change
  pub back : (t : List (K × X)) (k : K) (w : Option X) → Rises c t → upd c (upd c t k w) k (find c t k) ≡ t
  -- a sum over the map changes by what the key counts
  pub counts : (f : K → X → ℕ) (t : List (K × X)) (k : K) (w : Option X) → total f (upd c t k w) + worth f k (find c t k) ≡ total f t + worth f k w
  -- equal look-ups, equal maps
  pub same : (s t : List (K × X)) → Rises c s → Rises c t → ((q : K) → find c s q ≡ find c t q) → s ≡ t

-- they hold of trees, whose keys are places
abbrev pub PlacesLawful : Type 0
PlacesLawful = MapLaws Bytes order

abbrev pub PlacesOrdered : Type 0
PlacesOrdered = Ordered order
