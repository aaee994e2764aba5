-- Phandles: numbers by which one node refers to another. Assumes nothing.
use Rattle.std.specs.Prelude.{ℕ, max, Bool, true, false, cond, not, ◌&&◌, ◌||◌, List, [], ◌∷◌, ◌++◌, length, Some, None, codes, Option, ◌==◌, nat_le}
use Rattle.std.specs.Str.{bytes_eq}
use Rattle.names.specs.Names.{each}
use Rattle.tree.specs.Numbers.{be32}
use Rattle.tree.specs.Places.{Bytes, Place}
use Rattle.tree.specs.Trees.{Places, Tree}

-- which property names are phandles: the one definition of it
abbrev pub is_phandle : Bytes → Bool
is_phandle name = bytes_eq name (codes "phandle")

-- a node's phandle: its path and the value
abbrev pub handle_on : Place → Bytes → List (Bytes × Bytes)
handle_on (p, None) v = []
handle_on (p, Some n) v = cond (is_phandle n) ((p, v) ∷ []) []

-- all phandles, in document order
unfoldable pub handles : Places → List (Bytes × Bytes)
handles [] = []
handles (e ∷ es) = handle_on e.0 e.1 ++ handles es

-- four bytes, a number from 1 to 0xfffffffe
abbrev pub valid_handle : Bytes → Bool
valid_handle v = length v == 4 && (nat_le 1 (be32 v 0) && nat_le (be32 v 0) 4294967294)

abbrev pub shares_with : ℕ → List (Bytes × Bytes) → Bool
shares_with n [] = false
shares_with n (h ∷ hs) = be32 h.1 0 == n || shares_with n hs

unfoldable pub distinct_handles : List (Bytes × Bytes) → Bool
distinct_handles [] = true
distinct_handles (h ∷ hs) = not (shares_with (be32 h.1 0) hs) && distinct_handles hs

-- the phandle rule: each is valid, and no two nodes share one
abbrev pub phandle_rule : Tree → Bool
phandle_rule t = each (λ h. valid_handle h.1) (handles t.places) && distinct_handles (handles t.places)

-- the largest, 0 if there is none
unfoldable pub largest_of : List (Bytes × Bytes) → ℕ
largest_of [] = 0
largest_of (h ∷ hs) = max (be32 h.1 0) (largest_of hs)

abbrev pub largest_phandle : Tree → ℕ
largest_phandle t = largest_of (handles t.places)

-- the node with the phandle n, if there is one
unfoldable pub holder_of : ℕ → List (Bytes × Bytes) → Option Bytes
holder_of n [] = None
holder_of n (h ∷ hs) = cond (be32 h.1 0 == n) (Some h.0) (holder_of n hs)

abbrev pub holder : Tree → ℕ → Option Bytes
holder t n = holder_of n (handles t.places)
