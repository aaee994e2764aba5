-- What a header and a token are, in words of the format; `header` and `token_at` find them. Assumes nothing.
use Rattle.std.specs.Prelude.{◌≡◌, ℕ, ◌+◌, ◌%◌, ◌<◌, ◌≤◌, List, ◌∷◌, ◌++◌, length, Some, Ok, Result, ◌≢◌, slice_index}
use Rattle.std.specs.List.{between, AllByRecursion}
use Rattle.tree.specs.Numbers.{be32, pad4}
use Rattle.blob.specs.Header.{magic_number, total_size, structure_offset, strings_offset, reservation_offset, version_number, last_compatible, boot_cpu, strings_size, structure_size}
use Rattle.blob.specs.Tokens.{Tok, begin, property, end, nop, finish, token_at}
use Rattle.blob.specs.declared.types.Layout.{Layout}
use Rattle.blob.specs.declared.types.Refusal.{Refusal}

-- ---- the header

-- bs begins with a header, whose blocks lie as l says
pub record Header (bs : List ℕ) (l : Layout) : Type 0 where
  -- the ten numbers are there, and the first is the magic one
  pub whole : 40 ≤ length bs
  pub magic : magic_number bs ≡ 0xd00d_feed
  -- the blob holds its header, ends within the bytes, and has at most 40,960 of them
  pub least : 40 ≤ total_size bs
  pub held : total_size bs ≤ length bs
  pub small : total_size bs ≤ 40960
  pub version : version_number bs ≡ 17
  pub compatible : last_compatible bs ≡ 16
  -- each block ends within the total size
  pub structure_held : structure_offset bs + structure_size bs ≤ total_size bs
  pub strings_held : strings_offset bs + strings_size bs ≤ total_size bs
  pub reservation_held : reservation_offset bs + 16 ≤ total_size bs
  -- 4 and 8 divide these offsets
  pub structure_aligned : structure_offset bs % 4 ≡ 0
  pub reservation_aligned : reservation_offset bs % 8 ≡ 0
  -- no memory is reserved
  pub empty : (k : ℕ) → k < 16 → slice_index bs (reservation_offset bs + k) ≡ 0
  pub start : l.start ≡ structure_offset bs
  pub stop : l.end ≡ structure_offset bs + structure_size bs
  pub strings : l.strings ≡ strings_offset bs
  pub strings_stop : l.strings_end ≡ strings_offset bs + strings_size bs
  pub boot : l.boot ≡ boot_cpu bs

-- r is Ok just where there is such a header, and then says where the blocks lie
abbrev pub Accepts : List ℕ → Result Layout Refusal → Type 0
Accepts bs r = (l : Layout) → (r ≡ Ok l → Header bs l) × (Header bs l → r ≡ Ok l)

-- ---- tokens

-- name, with no zero byte in it, and then a zero byte stand from `from` on, before `to`
pub record Text (bs : List ℕ) (from to : ℕ) (name : List ℕ) : Type 0 where
  pub rest : List ℕ
  pub split : between from to bs ≡ name ++ (0 ∷ rest)
  pub full : AllByRecursion (λ b. b ≢ 0) name

-- a token of four bytes: its number alone
pub record Mark (bs : List ℕ) (l : Layout) (p number n : ℕ) : Type 0 where
  pub kind : be32 bs p ≡ number
  pub next : n ≡ p + 4
  pub held : n ≤ l.end

-- a node begins: 1, its name with a zero byte, padding to 4
pub record Begins (bs : List ℕ) (l : Layout) (p : ℕ) (name : List ℕ) (n : ℕ) : Type 0 where
  pub kind : be32 bs p ≡ 1
  pub text : Text bs (p + 4) l.end name
  pub next : n ≡ p + 4 + pad4 (length name + 1)
  pub held : n ≤ l.end

-- a property: 3, the value's length, the name's offset in the strings block, the value, padding to 4
pub record Holds (bs : List ℕ) (l : Layout) (p : ℕ) (name value : List ℕ) (n : ℕ) : Type 0 where
  pub kind : be32 bs p ≡ 3
  pub text : Text bs (l.strings + be32 bs (p + 8)) l.strings_end name
  pub bytes : value ≡ between (p + 12) (p + 12 + be32 bs (p + 4)) bs
  pub next : n ≡ p + 12 + pad4 (be32 bs (p + 4))
  pub held : n ≤ l.end

-- the token t stands at p, all of it in the structure block, and the next one starts at n
abbrev pub IsToken : List ℕ → Layout → ℕ → Tok → ℕ → Type 0
IsToken bs l p (begin name) n = Begins bs l p name n
IsToken bs l p (property name value) n = Holds bs l p name value n
IsToken bs l p end n = Mark bs l p 2 n
IsToken bs l p nop n = Mark bs l p 4 n
-- the last four bytes of the block
IsToken bs l p finish n = Mark bs l p 9 n × (n ≡ l.end)

abbrev pub TokenSound : Type 0
TokenSound = (bs : List ℕ) (l : Layout) (p : ℕ) (t : Tok) (n : ℕ) → token_at bs l p ≡ Some (t, n) → IsToken bs l p t n

abbrev pub TokenComplete : Type 0
TokenComplete = (bs : List ℕ) (l : Layout) (p : ℕ) (t : Tok) (n : ℕ) → IsToken bs l p t n → token_at bs l p ≡ Some (t, n)

-- at most one token stands at a place
abbrev pub TokenUnique : Type 0
TokenUnique = (bs : List ℕ) (l : Layout) (p : ℕ) (t u : Tok) (n m : ℕ) → IsToken bs l p t n → IsToken bs l p u m → (t ≡ u) × (n ≡ m)

-- a token has four bytes at least, and ends within the block
abbrev pub TokenAhead : Type 0
TokenAhead = (bs : List ℕ) (l : Layout) (p : ℕ) (t : Tok) (n : ℕ) → IsToken bs l p t n → (p + 4 ≤ n) × (n ≤ l.end)
