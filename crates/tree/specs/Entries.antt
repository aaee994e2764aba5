-- Located entries: what a blob lists, in its own order, each with its token's byte offset. Assumes nothing.
use Rattle.std.specs.Prelude.{ℕ, Bool, true, false, not, ◌&&◌, ◌||◌, List, [], ◌∷◌, map, length, Some, None, ◌==◌}
use Rattle.names.specs.Paths.{root}
use Rattle.std.specs.Ordering.{is_eq}
use Rattle.tree.specs.Maps.{upd}
use Rattle.tree.specs.Places.{Bytes, Place, node_at, order}
use Rattle.tree.specs.Trees.{Places, Tree, named_place, short_place, up_place}

-- a node or a property; a node has no bytes
pub record Entry : Type 0 where
  pub at : ℕ
  pub place : Place
  pub value : Bytes

-- all entries, inserted
unfoldable pub inserted : List Entry → Places
inserted [] = []
inserted (e ∷ es) = upd order (inserted es) e.place (Some e.value)

abbrev pub tree_of : ℕ → List Entry → Tree
tree_of boot es = record { boot = boot; places = inserted es }

-- the places and values alone
abbrev pub listed : List Entry → Places
listed es = map (λ e. (e.place, e.value)) es

-- ---- entries in a good order

abbrev pub same_place : Place → Place → Bool
same_place k l = is_eq (order k l)

-- one of them passes
abbrev pub some : {A : Type 0} → (A → Bool) → List A → Bool
some p [] = false
some p (x ∷ xs) = p x || some p xs

-- is the place among these?
abbrev pub among_places : Place → List Place → Bool
among_places k ls = some (same_place k) ls

-- a node has no bytes
abbrev pub bare : Place → Bytes → Bool
bare (p, None) v = length v == 0
bare (p, Some n) v = true

-- named by the rules, within the sizes, at a place of its own, behind the place on which it hangs
abbrev pub listed_next : List Place → Entry → Bool
listed_next seen e =
    (named_place e.place && (short_place e.place e.value && bare e.place e.value))
    && (not (among_places e.place seen) && among_places (up_place e.place) seen)

-- so one after the other, behind the places seen
unfoldable pub listed_from : List Place → List Entry → Bool
listed_from seen [] = true
listed_from seen (e ∷ es) = listed_next seen e && listed_from (e.place ∷ seen) es

-- the root's node first, then all else in a good order
abbrev pub well_listed : List Entry → Bool
well_listed [] = false
well_listed (e ∷ es) = same_place e.place (node_at root) && (length e.value == 0 && listed_from (node_at root ∷ []) es)
