-- What holds of the blob of a list of nodes. Assumes nothing.
use Rattle.std.specs.Prelude.{◌≡◌, ℕ, ◌+◌, ◌*◌, true, List, ◌++◌, length}
use Rattle.blob.specs.Tokens.{Tok}
use Rattle.tape.specs.Nodes.{Node, shaped}
use Rattle.tape.specs.Tapes.{properties_of, weight_of}
use Rattle.packed.specs.Packing.{structure, strings, size_of, names_of, tokens_of, front, open_after, gathered}

pub record TokenLaws : Type 0 where
  -- lengths
  pub size : (k : ℕ) (ts : List Tok) → length (structure k ts) ≡ size_of ts
  pub names : (ts : List Tok) → length (strings ts) ≡ names_of ts
  -- parts
  pub split : (k : ℕ) (ts us : List Tok) → structure k (ts ++ us) ≡ structure k ts ++ structure (k + names_of ts) us
  pub strung : (ts us : List Tok) → strings (ts ++ us) ≡ strings ts ++ strings us

pub record NodeLaws : Type 0 where
  -- the tokens of the first nodes, and then those of the others
  pub parted : (o : ℕ) (xs ys : List Node) → tokens_of o (xs ++ ys) ≡ front o xs ++ tokens_of (open_after o xs) ys
  -- the nodes are found again in their tokens
  pub back : (ns : List Node) → shaped ns ≡ true → gathered 0 (tokens_of 0 ns) ≡ ns
  -- both blocks together, by what the limits count
  pub weighs : (ns : List Node) → shaped ns ≡ true → size_of (tokens_of 0 ns) + names_of (tokens_of 0 ns) ≡ 4 + 8 * length ns + 12 * properties_of ns + weight_of ns
