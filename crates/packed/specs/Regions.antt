-- The memory of the packed store, and the nodes that it holds. Assumes nothing.
use Rattle.std.specs.Prelude.{◌≡◌, ℕ, ◌+◌, ◌≤◌, Bool, true, cond, ◌&&◌, List, [], ◌∷◌, ◌++◌, length, take, drop, Some, None, ◌==◌, ◌≢◌, nat_le}
use Rattle.std.specs.List.{AllByRecursion}
use Rattle.std.specs.Str.{bytes_eq}
use Rattle.tree.specs.Places.{Bytes}
use Rattle.blob.specs.Lexing.{Tokens, tokens_from}
use Rattle.blob.specs.Tokens.{Tok, begin, property, end, nop, finish}
use Rattle.blob.specs.declared.types.Layout.{Layout}
use Rattle.tape.specs.Nodes.{Node, valid}
use Rattle.tape.specs.Tapes.{properties_of}
use Rattle.packed.specs.Packing.{structure, size_of, names_of, packed, tokens_of, gathered}
use Rattle.packed.specs.declared.region.Region.{Region}

-- the bytes lent
abbrev pub memory : Region → Bytes
memory x = x.bytes.now

-- where the blocks lie, and the size of the blob
abbrev pub layout : Region → Layout
layout x = record {
  start = 56;
  end = 56 + x.structure;
  strings = 56 + x.structure;
  strings_end = 56 + x.structure + x.strings;
  boot = x.boot;
}

abbrev pub size : Region → ℕ
size x = 56 + x.structure + x.strings

-- tokens without their offsets, up to a faulty one
unfoldable pub bare : Tokens → List Tok
bare [] = []
bare ((p, None) ∷ ts) = []
bare ((p, Some t) ∷ ts) = t ∷ bare ts

-- the nodes of the blob in front of the memory
unfoldable pub read : Region → List Node
read x = gathered 0 (bare (tokens_from (memory x) (layout x) 56))

-- none while closed
unfoldable pub nodes_of : Region → List Node
nodes_of x = cond (x.nodes == 0) [] (read x)

-- the front of the memory is the blob of these nodes, which are valid; the numbers are theirs
abbrev pub holds : Region → List Node → Bool
holds x ns =
    nat_le 40960 (length (memory x)) && (bytes_eq (take (size x) (memory x)) (packed x.boot (tokens_of 0 ns)) && (x.structure == size_of (tokens_of 0 ns)
    && (x.strings == names_of (tokens_of 0 ns) && (x.nodes == length ns && (x.properties == properties_of ns && valid x.boot ns)))))

-- what always holds of the memory: closed, or it holds its nodes
unfoldable pub intact : Region → Bool
intact x = cond (x.nodes == 0) true (holds x (read x))

-- ---- what holds while the store is open

-- the front of the memory is the blob of these tokens
pub record Holding (x : Region) (ts : List Tok) : Type 0 where
  pub room : 40960 ≤ length (memory x)
  pub structure : x.structure ≡ size_of ts
  pub strings : x.strings ≡ names_of ts
  pub small : 56 + size_of ts + names_of ts ≤ 40960
  pub front : take (56 + size_of ts + names_of ts) (memory x) ≡ packed x.boot ts

-- names without a zero byte
abbrev pub IsFull : Tok → Type 0
IsFull (begin name) = AllByRecursion (λ b. b ≢ 0) name
IsFull (property name value) = AllByRecursion (λ b. b ≢ 0) name
IsFull end = Unit {0}
IsFull nop = Unit {0}
IsFull finish = Unit {0}

pub record Open (x : Region) : Type 0 where
  pub holding : Holding x (tokens_of 0 (nodes_of x))
  pub named : AllByRecursion IsFull (tokens_of 0 (nodes_of x))
  pub nodes : x.nodes ≡ length (nodes_of x)
  pub properties : x.properties ≡ properties_of (nodes_of x)
  pub valid : valid x.boot (nodes_of x) ≡ true

-- ---- tokens in bytes

-- from p on stand these tokens, whose names are from k on in the strings block, and then `rest`
abbrev pub At : Bytes → ℕ → ℕ → List Tok → Bytes → Type 0
At bs p k ts rest = drop p bs ≡ structure k ts ++ rest
