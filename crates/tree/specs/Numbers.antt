-- Numbers of blobs and of values. Assumes nothing.
use Rattle.std.specs.Prelude.{ℕ, ◌+◌, ◌*◌, ◌/◌, ◌%◌, List, [], ◌∷◌, slice_index}

-- the big-endian number in the four bytes at i
unfoldable pub be32 : List ℕ → ℕ → ℕ
be32 s i = slice_index s i * 16777216 + slice_index s (i + 1) * 65536 + slice_index s (i + 2) * 256 + slice_index s (i + 3)

-- the four bytes of a number
abbrev pub bytes32 : ℕ → List ℕ
bytes32 n = n / 256 / 256 / 256 % 256 ∷ n / 256 / 256 % 256 ∷ n / 256 % 256 ∷ n % 256 ∷ []

-- rounded up to a multiple of 4
abbrev pub pad4 : ℕ → ℕ
pad4 n = (n + 3) / 4 * 4
