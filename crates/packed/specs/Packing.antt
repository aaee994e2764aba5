-- The blob of a list of nodes: header, an empty reservation block, the structure block, and the strings block with one string for each
-- property, in the order of the properties. Assumes nothing.
use Rattle.std.specs.Prelude.{ℕ, ◌+◌, ◌-◌, List, [], ◌∷◌, ◌++◌, map, length, take, replicate}
use Rattle.tree.specs.Numbers.{bytes32, pad4}
use Rattle.tree.specs.Places.{Bytes}
use Rattle.blob.specs.Tokens.{Tok, begin, property, end, nop, finish}
use Rattle.tape.specs.Nodes.{Node, Property}
use Rattle.tape.specs.Tapes.{nth, properties_at}
use Rattle.tape.specs.declared.Mark.{Mark}
use Rattle.tape.specs.declared.Spot.{Spot}

-- ---- tokens

-- zero bytes up to a multiple of 4
abbrev pub padded : Bytes → Bytes
padded v = v ++ replicate (pad4 (length v) - length v) 0

-- a token whose name, if it is a property's, stands at k in the strings block
abbrev pub token_bytes : ℕ → Tok → Bytes
token_bytes k (begin name) = bytes32 1 ++ padded (name ++ (0 ∷ []))
token_bytes k (property name value) = bytes32 3 ++ (bytes32 (length value) ++ (bytes32 k ++ padded value))
token_bytes k end = bytes32 2
token_bytes k nop = bytes32 4
token_bytes k finish = bytes32 9

abbrev pub token_size : Tok → ℕ
token_size (begin name) = 4 + pad4 (length name + 1)
token_size (property name value) = 12 + pad4 (length value)
token_size end = 4
token_size nop = 4
token_size finish = 4

-- what a token adds to the strings block
abbrev pub name_bytes : Tok → Bytes
name_bytes (begin name) = []
name_bytes (property name value) = name ++ (0 ∷ [])
name_bytes end = []
name_bytes nop = []
name_bytes finish = []

abbrev pub name_size : Tok → ℕ
name_size (begin name) = 0
name_size (property name value) = length name + 1
name_size end = 0
name_size nop = 0
name_size finish = 0

-- tokens whose names stand one after another from k on in the strings block
unfoldable pub structure : ℕ → List Tok → Bytes
structure k [] = []
structure k (t ∷ ts) = token_bytes k t ++ structure (k + name_size t) ts

unfoldable pub strings : List Tok → Bytes
strings [] = []
strings (t ∷ ts) = name_bytes t ++ strings ts

unfoldable pub size_of : List Tok → ℕ
size_of [] = 0
size_of (t ∷ ts) = token_size t + size_of ts

unfoldable pub names_of : List Tok → ℕ
names_of [] = 0
names_of (t ∷ ts) = name_size t + names_of ts

-- ---- the blob

-- the ten numbers, by the sizes of the two blocks
abbrev pub header_bytes : ℕ → ℕ → ℕ → Bytes
header_bytes boot n s =
    bytes32 0xd00d_feed
    ++ (bytes32 (56 + n + s)
    ++ (bytes32 56
    ++ (bytes32 (56 + n)
    ++ (bytes32 40
    ++ (bytes32 17 ++ (bytes32 16 ++ (bytes32 boot ++ (bytes32 s ++ bytes32 n))))))))

unfoldable pub packed : ℕ → List Tok → Bytes
packed boot ts =
    header_bytes boot (size_of ts) (names_of ts) ++ (replicate 16 0 ++ (structure 0 ts ++ strings ts))

-- ---- the tokens of nodes

abbrev pub ends : ℕ → List Tok
ends n = replicate n end

abbrev pub property_tokens : List Property → List Tok
property_tokens xs = map (λ x. property x.0 x.1) xs

-- the tokens of nodes that come where o nodes are open: those end that do not hold the next node, and in the end all of them
unfoldable pub tokens_of : ℕ → List Node → List Tok
tokens_of o [] = ends o ++ (finish ∷ [])
tokens_of o (n ∷ ns) =
    ends (o - n.depth) ++ (begin n.name ∷ (property_tokens n.properties ++ tokens_of (n.depth + 1) ns))

-- the same without what ends behind the last of them
unfoldable pub front : ℕ → List Node → List Tok
front o [] = []
front o (n ∷ ns) =
    ends (o - n.depth) ++ (begin n.name ∷ (property_tokens n.properties ++ front (n.depth + 1) ns))

-- how many nodes are open behind them
unfoldable pub open_after : ℕ → List Node → ℕ
open_after o [] = o
open_after o (n ∷ ns) = open_after (n.depth + 1) ns

-- ---- places in the blob

-- where the tokens of the node at an index begin, end tokens of others among them, with the number of open nodes there
unfoldable pub spot_of : List Node → ℕ → Spot
spot_of ns i = record { node = i; property = open_after 0 (take i ns); at = 56 + size_of (front 0 (take i ns)) }

-- where its begin token is, and its first property
unfoldable pub begin_of : List Node → ℕ → ℕ
begin_of ns i = (spot_of ns i).at + size_of (ends ((spot_of ns i).property - (nth ns i).depth))

unfoldable pub first_of : List Node → ℕ → ℕ
first_of ns i = begin_of ns i + token_size (begin (nth ns i).name)

unfoldable pub mark_of : List Node → ℕ → ℕ → Mark
mark_of ns i k =
    record { node = i; number = k; property = 0; at = first_of ns i + size_of (property_tokens (take k (properties_at ns i))) }

-- ---- the nodes of tokens

-- the properties that come first
unfoldable pub leading : List Tok → List Property
leading [] = []
leading (begin name ∷ ts) = []
leading (property name value ∷ ts) = (name, value) ∷ leading ts
leading (end ∷ ts) = []
leading (nop ∷ ts) = []
leading (finish ∷ ts) = []

-- the nodes of tokens that come where o nodes are open
unfoldable pub gathered : ℕ → List Tok → List Node
gathered o [] = []
gathered o (begin name ∷ ts) = record { depth = o; name = name; properties = leading ts } ∷ gathered (o + 1) ts
gathered o (property name value ∷ ts) = gathered o ts
gathered o (end ∷ ts) = gathered (o - 1) ts
gathered o (nop ∷ ts) = gathered o ts
gathered o (finish ∷ ts) = []
