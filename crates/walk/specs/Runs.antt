-- Document order as a run over the nodes that are open. Assumes nothing.
use Rattle.std.specs.Prelude.{◌≡◌, true, List, [], ◌∷◌, ◌≢◌}
use Rattle.names.specs.Names.{node_name, property_name}
use Rattle.names.specs.Paths.{root, path_text, child, leaf, parent}
use Rattle.tree.specs.Places.{Bytes, node_at, property_at}
use Rattle.tree.specs.Trees.{Places, Tree, Sound}

-- the open nodes, the innermost first: each is the parent of the one before it, and the last is the root
abbrev pub Chain : List Bytes → Type 0
Chain [] = ⊥
Chain (p ∷ []) = p ≡ root
Chain (p ∷ q ∷ ps) = (path_text p ≡ true) × (p ≢ root) × (parent p ≡ q) × Chain (q ∷ ps)

-- these places come next where these nodes are open: properties of the innermost node and nodes below it, a node that is not below it once it is left
pub data Runs : List Bytes → Places → Type 0 where
  run_end : {ps : List Bytes} → Runs ps []
  run_root : {es : Places} → Runs (root ∷ []) es → Runs [] ((node_at root, []) ∷ es)
  run_property : {p n v : Bytes} {ps : List Bytes} {es : Places} → property_name n ≡ true → Runs (p ∷ ps) es → Runs (p ∷ ps) ((property_at p n, v) ∷ es)
  run_node : {p q : Bytes} {ps : List Bytes} {es : Places} → parent q ≡ p → child p (leaf q) ≡ q → node_name (leaf q) ≡ true → Runs (q ∷ p ∷ ps) es → Runs (p ∷ ps) ((node_at q, []) ∷ es)
  run_leave : {p q : Bytes} {ps : List Bytes} {es : Places} → (parent q ≢ p) → Runs ps ((node_at q, []) ∷ es) → Runs (p ∷ ps) ((node_at q, []) ∷ es)

-- the places of a tree are such a run, from no open node on
abbrev pub TreeRuns : Type 0
TreeRuns = (t : Tree) → Sound t → Runs [] t.places
