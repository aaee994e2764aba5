-- Filling a store from what a blob lists: the root alone, then one write for each entry. Assumes nothing.
use Rattle.std.specs.Prelude.{ℕ, List, [], ◌∷◌, Some}
use Rattle.names.specs.Paths.{root}
use Rattle.tree.specs.Entries.{Entry}
use Rattle.tree.specs.Places.{node_at}
use Rattle.tree.specs.Trees.{Tree, change}

-- the root alone
abbrev pub root_tree : ℕ → Tree
root_tree boot = record { boot = boot; places = (node_at root, []) ∷ [] }

-- one write after the other
unfoldable pub grow : Tree → List Entry → Tree
grow t [] = t
grow t (e ∷ es) = grow (change t e.place (Some e.value)) es
