-- The blob of a tree: a header, an empty reservation block, the structure block, the strings block. Assumes nothing.
use Rattle.std.specs.Prelude.{◌≡◌, ℕ, ◌+◌, ◌-◌, ◌≤◌, true, cond, List, [], ◌∷◌, ◌++◌, length, replicate, Some, None, Ok}
use Rattle.std.specs.Str.{bytes_eq}
use Rattle.names.specs.Paths.{leaf, parent}
use Rattle.tree.specs.Entries.{Entry, tree_of}
use Rattle.tree.specs.Numbers.{bytes32, pad4}
use Rattle.tree.specs.Places.{Bytes, Place}
use Rattle.tree.specs.Trees.{Places, Tree, Sound}
use Rattle.blob.specs.Tokens.{Tok, begin, property, end, nop, finish}
use Rattle.reader.specs.Format.{Blob, within}
use Rattle.reader.specs.Reading.{reading}
use Rattle.writer.specs.Strings.{name_offset, with_name, strings}

-- ---- tokens

-- a token, and for a property the offset of its name in the strings block
abbrev pub Piece : Type 0
Piece = Tok × ℕ

-- zero bytes up to a multiple of 4
abbrev pub padded : Bytes → Bytes
padded v = v ++ replicate (pad4 (length v) - length v) 0

abbrev pub token_bytes : Tok → ℕ → Bytes
token_bytes (begin name) o = bytes32 1 ++ padded (name ++ (0 ∷ []))
token_bytes (property name value) o = bytes32 3 ++ (bytes32 (length value) ++ (bytes32 o ++ padded value))
token_bytes end o = bytes32 2
token_bytes nop o = bytes32 4
token_bytes finish o = bytes32 9

unfoldable pub spelt : List Piece → Bytes
spelt [] = []
spelt (x ∷ xs) = token_bytes x.0 x.1 ++ spelt xs

-- the end of every open node, and of the block
abbrev pub ends : List Bytes → List Piece
ends [] = (finish, 0) ∷ []
ends (p ∷ ps) = (end, 0) ∷ ends ps

-- a node comes where its parent is the innermost open node; until then open nodes end
abbrev pub opens : Bytes → List Bytes → (List Bytes → List Piece) → List Piece
opens q [] k = (begin (leaf q), 0) ∷ k (q ∷ [])
opens q (p ∷ ps) k = cond (bytes_eq (parent q) p) ((begin (leaf q), 0) ∷ k (q ∷ p ∷ ps)) ((end, 0) ∷ opens q ps k)

-- what one place adds, and then the rest, by the open nodes and the strings block so far
abbrev pub pieces_on : Place → Bytes → List Bytes → Bytes → (List Bytes → Bytes → List Piece) → List Piece
pieces_on (q, None) v ps block k = opens q ps (λ qs. k qs block)
pieces_on (q, Some name) v ps block k = (property name v, name_offset block name) ∷ k ps (with_name block name)

-- the tokens of places in document order, with the end tokens put in
unfoldable pub pieces : List Bytes → Bytes → Places → List Piece
pieces ps block [] = ends ps
pieces ps block (e ∷ es) = pieces_on e.0 e.1 ps block (λ qs b. pieces qs b es)

-- ---- blocks

unfoldable pub structure_block : Tree → Bytes
structure_block t = spelt (pieces [] [] t.places)

unfoldable pub strings_block : Tree → Bytes
strings_block t = strings [] t.places

-- the ten numbers: the structure block is at 56, the strings block right behind it
abbrev pub header_bytes : ℕ → ℕ → ℕ → Bytes
header_bytes structure_size strings_size boot =
    bytes32 0xd00d_feed
    ++ (bytes32 (56 + structure_size + strings_size)
    ++ (bytes32 56
    ++ (bytes32 (56 + structure_size)
    ++ (bytes32 40
    ++ (bytes32 17 ++ (bytes32 16 ++ (bytes32 boot ++ (bytes32 strings_size ++ bytes32 structure_size))))))))

-- a header, 16 zero bytes, the two blocks
unfoldable pub written : Tree → Bytes
written t =
    header_bytes (length (structure_block t)) (length (strings_block t)) t.boot
    ++ (replicate 16 0 ++ (structure_block t ++ strings_block t))

-- ---- what is written is a blob of that tree

pub record Image (t : Tree) : Type 0 where
  -- it fits any buffer of 40,960 bytes
  pub small : length (written t) ≤ 38972
  pub entries : List Entry
  -- it is a blob by the format, within the limits, whose entries make the tree
  pub blob : Blob (written t) t.boot entries
  pub within : within entries ≡ true
  pub same : tree_of t.boot entries ≡ t
  -- so that reading it yields the tree
  pub read : reading (written t) ≡ Ok (t.boot, entries)

abbrev pub Images : Type 0
Images = (t : Tree) → Sound t → Image t
