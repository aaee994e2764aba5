-- A rule of a table, shown at all of its entries by one test that antt computes. Assumes nothing.
use Rattle.std.proofs.Common.{◌≡◌, ℕ, zero, suc, ◌+◌, ◌<◌, Bool, true, ◌&&◌, List, [], ◌∷◌, length, get_or, le_of_suc-le-suc, not-suc-le-zero, add-zero, add-suc, suc-add, zero-add}
use Rattle.std.proofs.lemmas.Bool.{and_parts}

module _ {A : Type 0} (same : A → A → Bool) (f : ℕ → A) where
  -- each entry is f of its place, counted from i
  abbrev pub follows : ℕ → List A → Bool
  follows i [] = true
  follows i (x ∷ xs) = same x (f i) && follows (suc i) xs

  module _ (told : (x y : A) → same x y ≡ true → x ≡ y) (d : A) where
    from : (xs : List A) (i : ℕ) → follows i xs ≡ true → (k : ℕ) → k < length xs → get_or xs k d ≡ f (i + k)
    from [] i t k h = absurd (not-suc-le-zero h)
    from (x ∷ xs) i t zero h = rw add-zero (told x (f i) (and_parts (same x (f i)) (follows (suc i) xs) t).0)
    from (x ∷ xs) i t (suc k) h =
        rw (add-suc, ← suc-add) (from xs (suc i) (and_parts (same x (f i)) (follows (suc i) xs) t).1 k (le_of_suc-le-suc h))

    -- n is the table's length
    pub entry : (n : ℕ) (xs : List A) (k : ℕ) → follows 0 xs ≡ true → length xs ≡ n → k < n → get_or xs k d ≡ f k
    entry n xs k t l h = rw zero-add at (from xs 0 t k (rw l h))
