-- Paths as the bytes that calls pass: `/` for the root, else a `/` before each name below it. Assumes nothing.
use Rattle.std.specs.Prelude.{ℕ, ◌+◌, ◌-◌, Bool, false, cond, not, ◌&&◌, ◌||◌, List, [], ◌∷◌, ◌++◌, length, take, ◌==◌}
use Rattle.std.specs.Str.{bytes_eq}
use Rattle.names.specs.Names.{each, node_name}

abbrev pub root : List ℕ
root = 47 ∷ []

-- the names that slashes part; `cur` is the start of the first
unfoldable pub parts : List ℕ → List ℕ → List (List ℕ)
parts cur [] = cur ∷ []
parts cur (b ∷ bs) = cond (b == 47) (cur ∷ parts [] bs) (parts (cur ++ (b ∷ [])) bs)

-- `/`, or a `/` before each of some node names. Its length is not limited here.
unfoldable pub path_text : List ℕ → Bool
path_text [] = false
path_text (b ∷ bs) = b == 47 && (length bs == 0 || each node_name (parts [] bs))

-- a path as what stands before a further `/`: nothing for the root
unfoldable pub stem : List ℕ → List ℕ
stem p = cond (bytes_eq p root) [] p

-- the path of the child so named
abbrev pub child : List ℕ → List ℕ → List ℕ
child p name = stem p ++ (47 ∷ name)

-- the path of what is at r below p, r being empty or with a `/` before each name
abbrev pub under : List ℕ → List ℕ → List ℕ
under p r = cond (length r == 0) p (stem p ++ r)

-- no `/` in it
abbrev pub plain : List ℕ → Bool
plain xs = each (λ b. not (b == 47)) xs

-- what stands behind the last `/`, `cur` where there is none
unfoldable pub behind_last : List ℕ → List ℕ → List ℕ
behind_last cur [] = cur
behind_last cur (b ∷ bs) = cond (b == 47) (behind_last bs bs) (behind_last cur bs)

-- the last name of a path; the root's is empty
abbrev pub leaf : List ℕ → List ℕ
leaf p = behind_last p p

-- the path without its last name; the root is its own
unfoldable pub parent : List ℕ → List ℕ
parent p = let n = length p - (length (leaf p) + 1) in cond (n == 0) root (take n p)
