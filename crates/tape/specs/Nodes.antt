-- A tree as a list of nodes, each before all that is below it: what a store keeps, in any order of siblings. Assumes nothing.
use Rattle.std.specs.Prelude.{ℕ, suc, ◌+◌, ◌-◌, ◌^◌, Bool, true, false, cond, not, ◌&&◌, List, [], ◌∷◌, ◌++◌, length, is_some, Some, None, Option, ◌==◌, ◌≢◌, nat_le}
use Rattle.std.specs.Str.{bytes_eq}
use Rattle.names.specs.Names.{each, node_name}
use Rattle.names.specs.Paths.{root}
use Rattle.tree.specs.Maps.{find, upd}
use Rattle.tree.specs.Places.{Bytes, Place, node_at, property_at, order}
use Rattle.tree.specs.Trees.{Places, Tree, look, roomy, short_place, named_place, up_place}
use Rattle.store.specs.Calls.{Meaning, closed, holds}

-- a property: its name and its value
abbrev pub Property : Type 0
Property = Bytes × Bytes

-- a node: how many names its path has, its own name, and its properties. The root has depth 0 and no name.
pub record Node : Type 0 where
  pub depth : ℕ
  pub name : Bytes
  pub properties : List Property

-- the first d names of a path with a `/` before each of its names
unfoldable pub cut : ℕ → Bytes → Bytes
cut d [] = []
cut d (b ∷ bs) = cond (b == 47) (cond (d == 0) [] (b ∷ cut (d - 1) bs)) (b ∷ cut d bs)

-- how many names it has
unfoldable pub height : Bytes → ℕ
height [] = 0
height (b ∷ bs) = cond (b == 47) (suc (height bs)) (height bs)

-- the path of a node that comes next after one at s; the root's is empty here
unfoldable pub step : Bytes → Node → Bytes
step s n = cond (n.depth == 0) [] (cut (n.depth - 1) s ++ (47 ∷ n.name))

-- the path of the last of some nodes that come after one at s
unfoldable pub ended : Bytes → List Node → Bytes
ended s [] = s
ended s (n ∷ ns) = ended (step s n) ns

-- that path as calls pass it
abbrev pub path_of : Bytes → Bytes
path_of s = cond (length s == 0) root s

-- the properties of the node at p, as places with their values
unfoldable pub listed : Bytes → List Property → Places
listed p [] = []
listed p (x ∷ xs) = (property_at p x.0, x.1) ∷ listed p xs

-- all places of nodes that come after one at s, in the list's own order
unfoldable pub spread : Bytes → List Node → Places
spread s [] = []
spread s (n ∷ ns) =
    (node_at (path_of (step s n)), []) ∷ (listed (path_of (step s n)) n.properties ++ spread (step s n) ns)

-- places in document order
unfoldable pub arranged : Places → Places
arranged [] = []
arranged (e ∷ es) = upd order (arranged es) e.0 (Some e.1)

abbrev pub tree_from : ℕ → List Node → Tree
tree_from boot ns = record { boot = boot; places = arranged (spread [] ns) }

-- without nodes it is closed
abbrev pub meaning_of : ℕ → List Node → Meaning
meaning_of boot [] = closed
meaning_of boot (n ∷ ns) = holds (tree_from boot (n ∷ ns))

-- ---- what always holds of such a list

-- a node below one of depth d at the most, or beside it or above; not the root
abbrev pub fitting : ℕ → Node → Bool
fitting d n = (nat_le 1 n.depth && nat_le n.depth (d + 1)) && node_name n.name

unfoldable pub fits : ℕ → List Node → Bool
fits d [] = true
fits d (n ∷ ns) = fitting d n && fits n.depth ns

-- the root comes first
abbrev pub shaped : List Node → Bool
shaped [] = true
shaped (n ∷ ns) = (n.depth == 0 && length n.name == 0) && fits 0 ns

-- no place comes twice
unfoldable pub apart : Places → Bool
apart [] = true
apart (e ∷ es) = not (is_some (find order (arranged es) e.0)) && apart es

-- the paths of nodes that come after one at s all pass
abbrev pub Every : (Bytes → Type 0) → Bytes → List Node → Type 0
Every P s [] = Unit {0}
Every P s (n ∷ ns) = P (step s n) × Every P (step s n) ns

-- no node has that path
abbrev pub Missing : Bytes → Bytes → List Node → Type 0
Missing b s ns = Every (λ x. x ≢ b) s ns

-- ---- searches

abbrev pub further : Option ℕ → Option ℕ
further None = None
further (Some k) = Some (suc k)

-- the child so named of a node of depth m, among the nodes behind it: how many stand before it
unfoldable pub child_in : ℕ → Bytes → List Node → Option ℕ
child_in m c [] = None
child_in m c (n ∷ ns) =
    cond (nat_le n.depth m) None (cond (n.depth == m + 1 && bytes_eq n.name c) (Some 0) (further (child_in m c ns)))

-- the property so named: how many stand before it
unfoldable pub property_in : Bytes → List Property → Option ℕ
property_in c [] = None
property_in c (x ∷ xs) = cond (bytes_eq x.0 c) (Some 0) (further (property_in c xs))

-- ---- the rules for a tree, as a test

abbrev pub bare_on : Place → Bytes → Bool
bare_on (p, None) v = length v == 0
bare_on (p, Some n) v = true

-- an empty value is there
abbrev pub blank : Option Bytes → Bool
blank None = false
blank (Some v) = length v == 0

abbrev pub sound_place : Tree → Place × Bytes → Bool
sound_place t e =
    bare_on e.0 e.1 && (named_place e.0 && (blank (look t (up_place e.0)) && short_place e.0 e.1))

unfoldable pub sound_tree : Tree → Bool
sound_tree t =
    blank (look t (node_at root)) && (each (sound_place t) t.places && (roomy t.places && nat_le (t.boot + 1) (2 ^ 32)))

-- an open list holds a tree by the rules
abbrev pub sound_nodes : ℕ → List Node → Bool
sound_nodes boot [] = true
sound_nodes boot (n ∷ ns) = sound_tree (tree_from boot (n ∷ ns))

-- all of it
abbrev pub valid : ℕ → List Node → Bool
valid boot ns = shaped ns && (apart (spread [] ns) && sound_nodes boot ns)
