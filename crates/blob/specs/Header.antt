-- The header of a blob: ten 32-bit numbers, big-endian, from its first byte on. Assumes nothing.
use Rattle.std.specs.Prelude.{ℕ, ◌+◌, ◌%◌, ◌≤◌, Bool, cond, ◌&&◌, List, length, Ok, Err, Result, ◌==◌, nat_le}
use Rattle.std.specs.List.{between}
use Rattle.names.specs.Names.{each}
use Rattle.tree.specs.Numbers.{be32}
use Rattle.blob.specs.declared.types.Layout.{Layout}
use Rattle.blob.specs.declared.types.Refusal.{Refusal}
use Rattle.blob.specs.declared.types.Refusal.TheVariants.{NotABlob, Version, Blocks, TooLarge}

-- ---- the ten numbers

abbrev pub magic_number : List ℕ → ℕ
magic_number bs = be32 bs 0

abbrev pub total_size : List ℕ → ℕ
total_size bs = be32 bs 4

abbrev pub structure_offset : List ℕ → ℕ
structure_offset bs = be32 bs 8

abbrev pub strings_offset : List ℕ → ℕ
strings_offset bs = be32 bs 12

abbrev pub reservation_offset : List ℕ → ℕ
reservation_offset bs = be32 bs 16

abbrev pub version_number : List ℕ → ℕ
version_number bs = be32 bs 20

abbrev pub last_compatible : List ℕ → ℕ
last_compatible bs = be32 bs 24

abbrev pub boot_cpu : List ℕ → ℕ
boot_cpu bs = be32 bs 28

abbrev pub strings_size : List ℕ → ℕ
strings_size bs = be32 bs 32

abbrev pub structure_size : List ℕ → ℕ
structure_size bs = be32 bs 36

-- ---- the tests, in their order

-- 40 bytes, the magic number, and a total size from 40 to the buffer's length
unfoldable pub identified : List ℕ → Bool
identified bs = nat_le 40 (length bs) && (magic_number bs == 0xd00d_feed && (nat_le 40 (total_size bs) && nat_le (total_size bs) (length bs)))

unfoldable pub versioned : List ℕ → Bool
versioned bs = version_number bs == 17 && last_compatible bs == 16

abbrev pub is_zero : ℕ → Bool
is_zero b = b == 0

-- 16 zero bytes from i on
abbrev pub empty_at : List ℕ → ℕ → Bool
empty_at bs i = each is_zero (between i (i + 16) bs)

-- each block within the total size, the two offsets divided, and the reservation block empty
unfoldable pub placed : List ℕ → Bool
placed bs =
    nat_le (structure_offset bs + structure_size bs) (total_size bs) && (nat_le (strings_offset bs + strings_size bs) (total_size bs) && (nat_le (reservation_offset bs + 16) (total_size bs)
    && (reservation_offset bs % 8 == 0 && (structure_offset bs % 4 == 0 && empty_at bs (reservation_offset bs)))))

abbrev pub layout_of : List ℕ → Layout
layout_of bs = record {
  start = structure_offset bs;
  end = structure_offset bs + structure_size bs;
  strings = strings_offset bs;
  strings_end = strings_offset bs + strings_size bs;
  boot = boot_cpu bs;
}

-- what a header gives: where the blocks lie, or the first refusal that applies
unfoldable pub header : List ℕ → Result Layout Refusal
header bs =
    cond (identified bs) (cond (versioned bs) (cond (placed bs) (cond (nat_le (total_size bs) 40960) (Ok (layout_of bs)) (Err TooLarge)) (Err Blocks)) (Err Version)) (Err NotABlob)

-- the blocks lie within the bytes
pub record Within (bs : List ℕ) (l : Layout) : Type 0 where
  pub structure_order : l.start ≤ l.end
  pub structure : l.end ≤ length bs
  pub strings_order : l.strings ≤ l.strings_end
  pub strings : l.strings_end ≤ length bs
