-- What holds of located entries. Assumes nothing.
use Rattle.std.specs.Prelude.{◌≡◌, ℕ, ◌^◌, ◌<◌, true, List}
use Rattle.tree.specs.Entries.{Entry, tree_of, listed, well_listed}
use Rattle.tree.specs.Trees.{roomy, Sound}

-- entries in a good order, within the counts, make a tree by the rules
abbrev pub ListedSound : Type 0
ListedSound = (boot : ℕ) (es : List Entry) → well_listed es ≡ true → roomy (listed es) ≡ true → boot < 2 ^ 32 → Sound (tree_of boot es)
