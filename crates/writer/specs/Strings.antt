-- The layout of the strings block: where each property's name stands in it. Only the laws below are used elsewhere, so that another
-- layout can take its place. Assumes nothing.
use Rattle.std.specs.Prelude.{◌≡◌, ℕ, ◌+◌, ◌≤◌, [], ◌∷◌, ◌++◌, length, drop, Some, None}
use Rattle.tree.specs.Places.{Bytes, Place}
use Rattle.tree.specs.Trees.{Places}

-- one string for each property, in document order: a name goes behind the block so far
unfoldable pub name_offset : Bytes → Bytes → ℕ
name_offset block name = length block

-- the block with that name
unfoldable pub with_name : Bytes → Bytes → Bytes
with_name block name = block ++ (name ++ (0 ∷ []))

abbrev pub with_place : Bytes → Place → Bytes
with_place block (p, None) = block
with_place block (p, Some name) = with_name block name

-- the block with the names of all properties
unfoldable pub strings : Bytes → Places → Bytes
strings block [] = block
strings block (e ∷ es) = strings (with_place block e.0) es

-- what any layout keeps
pub record StringsLaws : Type 0 where
  -- a block only grows at its end
  pub grows : (block name : Bytes) → (more : Bytes) × (with_name block name ≡ block ++ more)
  -- the name stands at its offset, with a zero byte behind it
  pub stands : (block name : Bytes) → (rest : Bytes) × (drop (name_offset block name) (with_name block name) ≡ name ++ (0 ∷ rest))
  -- there is at most one string for each property
  pub small : (block name : Bytes) → length (with_name block name) ≤ length block + (length name + 1)
  pub within : (block name : Bytes) → name_offset block name ≤ length block
