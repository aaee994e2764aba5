-- Headers of blobs. Assumes nothing.
use Rattle.std.specs.Prelude.{◌≡◌, ℕ, ◌++◌}
use Rattle.tree.specs.Places.{Bytes}
use Rattle.packed.specs.Packing.{header_bytes}

-- a header with the sizes of other blocks
abbrev pub Resized : Bytes → ℕ → ℕ → Bytes → Type 0
Resized xs n s ys = (boot n₀ s₀ : ℕ) (rest : Bytes) → xs ≡ header_bytes boot n₀ s₀ ++ rest → ys ≡ header_bytes boot n s ++ rest
