-- Elements put into a list, or taken out. Assumes nothing.
use Rattle.std.specs.Prelude.{ℕ, ◌+◌, List, ◌++◌, length, take, drop}

-- new elements at an index
abbrev pub spliced_in : {X : Type 0} → List X → ℕ → List X → List X
spliced_in xs at new = take at xs ++ (new ++ drop at xs)

-- without n elements from an index on
abbrev pub spliced_out : {X : Type 0} → List X → ℕ → ℕ → List X
spliced_out xs at n = take at xs ++ drop (at + n) xs

-- with new elements written from an index on
abbrev pub written : {X : Type 0} → List X → ℕ → List X → List X
written xs at new = take at xs ++ (new ++ drop (at + length new) xs)
