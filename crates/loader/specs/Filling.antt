-- What filling a store leaves in it. Assumes nothing.
use Rattle.std.specs.Prelude.{◌≡◌, ℕ, ◌^◌, ◌<◌, true, List, [], Ok, Result}
use Rattle.store.specs.Calls.{Meaning, holds}
use Rattle.store.specs.declared.Refusal.{Refusal}
use Rattle.tree.specs.Entries.{Entry, listed, tree_of, well_listed}
use Rattle.tree.specs.Trees.{roomy}
use Rattle.reader.specs.Format.{Spelt}
use Rattle.reader.specs.Handing.{named_tokens}
use Rattle.reader.specs.Reading.{entries}
use Rattle.loader.specs.Loading.{root_tree}

-- all tokens of a blob, the root's beginning too
pub record BlobFeeds (xs : Spelt) (boot : ℕ) (es : List Entry) : Type 0 where
  pub lists : entries [] xs ≡ es
  pub named : named_tokens xs ≡ true
  pub good : well_listed es ≡ true
  pub room : roomy (listed es) ≡ true
  pub low : boot < 2 ^ 32

abbrev pub Loads : Spelt → Meaning → Result (Unit {0}) Refusal → Meaning → Type 0
Loads xs was r is = (boot : ℕ) (es : List Entry) → BlobFeeds xs boot es → was ≡ holds (root_tree boot) → (r ≡ Ok tt) × (is ≡ holds (tree_of boot es))
