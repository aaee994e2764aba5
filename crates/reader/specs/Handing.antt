-- The tokens that are handed out, one at a time. Assumes nothing.
use Rattle.std.specs.Prelude.{◌≡◌, ℕ, Bool, true, false, ◌&&◌, [], ◌∷◌, length, Some, None, Option, ◌==◌}
use Rattle.names.specs.Names.{each, node_name}
use Rattle.tree.specs.Places.{Bytes}
use Rattle.blob.specs.Tokens.{Tok, begin, property, end, nop, finish}
use Rattle.blob.specs.Lexing.{tokens_from}
use Rattle.blob.specs.declared.types.Layout.{Layout}
use Rattle.reader.specs.declared.tokens.Item.{Item}
use Rattle.reader.specs.declared.tokens.Item.TheVariants.{Begin, Property, End}
use Rattle.reader.specs.Format.{Spelt}
use Rattle.reader.specs.Reading.{sound, entries, tokens_of, entries_of}

-- an item by what its parts hold, with its offset
abbrev pub item_of : Item → ℕ × Tok
item_of (Begin at name) = (at, begin name.now)
item_of (Property at name value) = (at, property name.now value.now)
item_of (End at) = (at, end)

-- tokens up to the end token of the block
abbrev pub until_on : ℕ → Tok → Spelt → Spelt
until_on p (begin name) ts = (p, begin name) ∷ ts
until_on p (property name value) ts = (p, property name value) ∷ ts
until_on p end ts = (p, end) ∷ ts
until_on p nop ts = (p, nop) ∷ ts
until_on p finish ts = []

unfoldable pub until : Spelt → Spelt
until [] = []
until (x ∷ ts) = until_on x.0 x.1 (until ts)

-- what is still to be handed out from the offset p on: the tokens without the skipped ones
abbrev pub ahead : Bytes → Layout → ℕ → Spelt
ahead bs l p = until (sound (tokens_from bs l p))

-- one item is handed out, or nothing was left
abbrev pub Handed : Option Item → Spelt → Spelt → Type 0
Handed None was is = (was ≡ []) × (is ≡ [])
Handed (Some i) was is = was ≡ item_of i ∷ is

-- a node's name is one by the rules
abbrev pub named_item : ℕ × Tok → Bool
named_item (p, begin name) = node_name name
named_item (p, property name value) = true
named_item (p, end) = true
named_item (p, nop) = true
named_item (p, finish) = true

abbrev pub is_root : ℕ × Tok → Bool
is_root (p, begin name) = length name == 0
is_root (p, property name value) = false
is_root (p, end) = false
is_root (p, nop) = false
is_root (p, finish) = false

-- the root's beginning comes first, and all other nodes have names
abbrev pub named_tokens : Spelt → Bool
named_tokens [] = false
named_tokens (x ∷ xs) = is_root x && each named_item xs

-- a cursor at the start of a blob's tokens: what it will hand out, and that these are the entries
pub record Starts (bs : Bytes) (l : Layout) (xs : Spelt) : Type 0 where
  pub tokens : xs ≡ until (tokens_of bs l)
  pub entries : entries [] xs ≡ entries_of bs l
