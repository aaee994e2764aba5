-- What the inner functions of the reader do to the rest of the reading, to the counts and to the table of names.
-- Assumes nothing.
use Rattle.std.specs.Prelude.{◌≡◌, ℕ, ◌+◌, ◌≤◌, List, [], ◌∷◌, ◌++◌, length, take, drop, Some, None, Ok, Err, Result}
use Rattle.tree.specs.Counting.{with_property}
use Rattle.tree.specs.Places.{Bytes}
use Rattle.tree.specs.declared.counts.Counts.{Counts}
use Rattle.blob.specs.Lexing.{tokens_from}
use Rattle.blob.specs.declared.blob.Blob.{Blob}
use Rattle.blob.specs.declared.types.Refusal.{Refusal}
use Rattle.reader.specs.declared.reader.Reader.{Reader}
use Rattle.reader.specs.Seen.{Spells}
use Rattle.reader.specs.Verdict.{Open, verdict, property_fault}

-- the names of the innermost open node, whose part of the table begins at base; what lies below is as it was
pub record Named (bs : Bytes) (base : ℕ) (was is : List ℕ) (names : List Bytes) : Type 0 where
  pub below : take base is ≡ take base was
  pub above : base ≤ length is
  pub spells : Spells bs (drop base is) names

-- reading on from p in these open nodes
abbrev pub from : Reader → List Open → ℕ → Result Counts Refusal
from r gs p = verdict gs r.counts (tokens_from r.blob.bytes.now r.blob.layout p)

-- a part of the blob b was read, from p on: what was left before has the verdict of what is left behind it, or is so refused
abbrev pub Went : (List Open → Result Counts Refusal) → Blob → Reader → ℕ → (List Open → List Open) → Type 0 → Result ℕ Refusal → Type 0
Went was b is p after P (Ok next) = (p + 4 ≤ next) × (next ≤ b.layout.end) × (is.blob ≡ b) × P × ((gs : List Open) → was gs ≡ from is (after gs) next)
Went was b is p after P (Err e) = (gs : List Open) → was gs ≡ Err e

-- a part was read from p on, in the open node g
abbrev pub Passed : Reader → Reader → ℕ → Open → (List Open → List Open) → Type 0 → Result ℕ Refusal → Type 0
Passed was is p g after P r = Went (λ gs. from was (g ∷ gs) p) was.blob is p after P r

-- what a property did: it was refused, or is counted and its name is in the table
abbrev pub Noted : Reader → Reader → ℕ → List Bytes → ℕ → Bytes → Bytes → Result (Unit {0}) Refusal → Type 0
Noted was is base ns p name value (Ok u) =
    (property_fault ns was.counts p name value ≡ None) × (is.counts ≡ with_property was.counts (length name) (length value)) × (is.blob ≡ was.blob)
    × Named was.blob.bytes.now base was.seen.at.items is.seen.at.items (ns ++ (name ∷ []))
Noted was is base ns p name value (Err e) = property_fault ns was.counts p name value ≡ Some e
