-- A walk over the nodes of a tree in document order. Assumes nothing.
use Rattle.std.specs.Prelude.{ℕ, Bool, cond, ◌||◌, [], ◌∷◌, length, Some, None, Err, Option, Result, ◌==◌, nat_le}
use Rattle.std.specs.Ordering.{is_lt}
use Rattle.names.specs.Orders.{path_order}
use Rattle.names.specs.Paths.{path_text}
use Rattle.tree.specs.Places.{Bytes, Place, node_at, order}
use Rattle.tree.specs.Trees.{Places}
use Rattle.store.specs.Calls.{Meaning, closed, holds, tested, there}
use Rattle.store.specs.declared.Refusal.{Refusal}
use Rattle.store.specs.declared.Refusal.TheVariants.{BadName, Absent, Short, Closed}

-- the places from the first that passes on
unfoldable pub behind : (Place → Bool) → Places → Places
behind test [] = []
behind test (e ∷ es) = cond (test e.0) (e ∷ es) (behind test es)

-- those on later paths than p
abbrev pub beyond : Bytes → Places → Places
beyond p es = behind (λ k. is_lt (path_order p k.0)) es

-- those behind a place
abbrev pub after : Place → Places → Places
after k es = behind (λ l. is_lt (order k l)) es

abbrev pub first_path : Places → Option Bytes
first_path [] = None
first_path (e ∷ es) = Some e.0.0

-- the node behind the one at p, or none behind the last; the empty path starts. A path takes a buffer of 256 bytes
abbrev pub next_node : Meaning → Bytes → ℕ → Result (Option Bytes) Refusal
next_node closed p room = Err Closed
next_node (holds t) p room =
    tested ((length p == 0 || path_text p, BadName) ∷ (length p == 0 || there t (node_at p), Absent) ∷ (nat_le 256 room, Short) ∷ []) (first_path (beyond p t.places))
