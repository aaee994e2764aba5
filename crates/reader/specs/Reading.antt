-- What reading a blob comes to: its entries in order, or the refusal. Assumes nothing.
use Rattle.std.specs.Prelude.{◌≡◌, ℕ, true, List, [], ◌∷◌, Some, None, Ok, Err, Option, Result}
use Rattle.names.specs.Paths.{root, child}
use Rattle.tree.specs.Places.{Bytes}
use Rattle.tree.specs.Entries.{Entry, listed}
use Rattle.tree.specs.Trees.{nodes, properties, weight}
use Rattle.blob.specs.Tokens.{Tok, begin, property, end, nop, finish}
use Rattle.blob.specs.Lexing.{Tokens, tokens_from}
use Rattle.blob.specs.Header.{header}
use Rattle.blob.specs.declared.types.Layout.{Layout}
use Rattle.blob.specs.declared.types.Refusal.{Refusal}
use Rattle.tree.specs.declared.counts.Counts.{Counts}
use Rattle.tree.specs.Counting.{zero}
use Rattle.reader.specs.Verdict.{verdict}
use Rattle.reader.specs.Format.{Spelt, keep_on, node_entry, property_entry, Blob, within}

-- the tokens up to the first fault, without the skipped ones
abbrev pub sound_on : ℕ → Option Tok → Spelt → Spelt
sound_on p None ts = []
sound_on p (Some t) ts = keep_on p t ts

unfoldable pub sound : Tokens → Spelt
sound [] = []
sound (x ∷ ts) = sound_on x.0 x.1 (sound ts)

-- the path of a node in the open nodes, whose paths are given, the innermost first
abbrev pub path_in : List Bytes → Bytes → Bytes
path_in [] name = root
path_in (p ∷ ps) name = child p name

abbrev pub innermost : List Bytes → Bytes
innermost [] = root
innermost (p ∷ ps) = p

abbrev pub outer : List Bytes → List Bytes
outer [] = []
outer (p ∷ ps) = ps

-- the entries of tokens in the open nodes
abbrev pub entry_on : List Bytes → ℕ → Tok → (List Bytes → List Entry) → List Entry
entry_on ps p (begin name) k = node_entry p (path_in ps name) ∷ k (path_in ps name ∷ ps)
entry_on ps p (property name value) k = property_entry p (innermost ps) name value ∷ k ps
entry_on ps p end k = k (outer ps)
entry_on ps p nop k = k ps
entry_on ps p finish k = []

unfoldable pub entries : List Bytes → Spelt → List Entry
entries ps [] = []
entries ps (x ∷ ts) = entry_on ps x.0 x.1 (λ qs. entries qs ts)

-- what the structure block lists
abbrev pub tokens_of : Bytes → Layout → Spelt
tokens_of bs l = sound (tokens_from bs l l.start)

abbrev pub entries_of : Bytes → Layout → List Entry
entries_of bs l = entries [] (tokens_of bs l)

abbrev pub given : {A : Type 0} → A → Result Counts Refusal → Result A Refusal
given es (Ok c) = Ok es
given es (Err e) = Err e

abbrev pub structure : Bytes → Result Layout Refusal → Result (ℕ × List Entry) Refusal
structure bs (Ok l) = given (l.boot, entries_of bs l) (verdict [] zero (tokens_from bs l l.start))
structure bs (Err e) = Err e

-- the boot CPU number and the entries, or the refusal: the header's, or that of the first faulty token
abbrev pub reading : Bytes → Result (ℕ × List Entry) Refusal
reading bs = structure bs (header bs)

-- the counts are those of the entries
pub record Tally (c : Counts) (es : List Entry) : Type 0 where
  pub nodes : c.nodes ≡ nodes (listed es)
  pub properties : c.properties ≡ properties (listed es)
  pub weight : c.weight ≡ weight (listed es)

-- accepted exactly where the bytes are a blob within the limits, with just its entries
pub record Exact (bs : Bytes) : Type 0 where
  pub sound : (boot : ℕ) (es : List Entry) → reading bs ≡ Ok (boot, es) → Blob bs boot es × (within es ≡ true)
  pub complete : (boot : ℕ) (es : List Entry) → Blob bs boot es → within es ≡ true → reading bs ≡ Ok (boot, es)
  -- bytes list one thing only, within the limits or not
  pub unique : (b d : ℕ) (es fs : List Entry) → Blob bs b es → Blob bs d fs → (b ≡ d) × (es ≡ fs)
