-- The names that an open node has so far, as a table of the offsets where they begin. Assumes nothing.
use Rattle.std.specs.Prelude.{◌≡◌, ℕ, ◌+◌, ◌≤◌, Bool, List, [], ◌∷◌, ◌++◌, length, drop, ◌==◌, ◌≢◌}
use Rattle.std.specs.List.{AllByRecursion, starts_with}
use Rattle.tree.specs.Places.{Bytes}
use Rattle.tree.specs.declared.counts.Counts.{Counts}

-- the bytes begin with the name and a zero byte
abbrev pub begins : Bytes → Bytes → Bool
begins name bs = starts_with (λ a b. a == b) bs (name ++ (0 ∷ []))

-- the name stands at the offset, with a zero byte behind it
pub record At (bs : Bytes) (o : ℕ) (name : Bytes) : Type 0 where
  pub rest : Bytes
  pub split : drop o bs ≡ name ++ (0 ∷ rest)
  pub full : AllByRecursion (λ b. b ≢ 0) name

-- these names stand at these offsets
abbrev pub Spells : Bytes → List ℕ → List Bytes → Type 0
Spells bs [] [] = Unit {0}
Spells bs [] (n ∷ ns) = ⊥
Spells bs (o ∷ os) [] = ⊥
Spells bs (o ∷ os) (n ∷ ns) = At bs o n × Spells bs os ns

-- the counts are within the limits, and the table has room for what may still come
pub record Bounded (seen : List ℕ) (c : Counts) : Type 0 where
  pub names : length seen ≤ c.nodes + c.properties
  pub nodes : c.nodes ≤ 256
  pub properties : c.properties ≤ 1024
  pub weight : c.weight ≤ 24576
