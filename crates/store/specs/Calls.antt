-- What each call answers and what the store holds after it, by what it held before and the argument bytes. Assumes nothing.
use Rattle.std.specs.Prelude.{ℕ, Bool, true, false, cond, not, ◌&&◌, ◌||◌, List, [], ◌∷◌, ◌++◌, length, drop, is_some, Some, None, Ok, Err, Option, Result, ◌==◌, nat_le}
use Rattle.std.specs.Ordering.{is_lt}
use Rattle.std.specs.Str.{bytes_eq}
use Rattle.names.specs.Names.{node_name, property_name}
use Rattle.names.specs.Orders.{name_order}
use Rattle.names.specs.Paths.{root, path_text, leaf, parent}
use Rattle.tree.specs.Places.{Bytes, Place, node_at, property_at}
use Rattle.tree.specs.Trees.{Places, Tree, Sound, look, change, short_place, roomy}
use Rattle.store.specs.declared.Refusal.{Refusal}
use Rattle.store.specs.declared.Refusal.TheVariants.{BadName, Absent, Present, InUse, Limit, Short, Closed}

-- what a readable tree or a store means: the tree that it holds now, or that it is closed
pub data Meaning : Type 0 where
  closed : Meaning
  holds : Tree → Meaning

-- what an open one holds is a tree by the rules
abbrev pub Good : Meaning → Type 0
Good closed = Unit {0}
Good (holds t) = Sound t

-- ---- refusals

abbrev pub number : Refusal → ℕ
number BadName = 50
number Absent = 51
number Present = 52
number InUse = 53
number Limit = 54
number Short = 55
number Closed = 56

-- a refusal's number and place: a store's refusals are at no token
abbrev pub numbered : Refusal → ℕ × ℕ
numbered e = (number e, 0)

-- the refusal of the first test that fails; the answer where all pass
abbrev pub tested : {A : Type 0} → List (Bool × Refusal) → A → Result A Refusal
tested [] a = Ok a
tested (t ∷ ts) a = cond t.0 (tested ts a) (Err t.1)

-- ---- questions

abbrev pub there : Tree → Place → Bool
there t k = is_some (look t k)

-- is a node there
abbrev pub has_node : Meaning → Bytes → Result Bool Refusal
has_node closed p = Err Closed
has_node (holds t) p = tested ((path_text p, BadName) ∷ []) (there t (node_at p))

-- a property's value, or absent
abbrev pub value_at : Meaning → Bytes → Bytes → Result (Option Bytes) Refusal
value_at closed p n = Err Closed
value_at (holds t) p n = tested ((path_text p && property_name n, BadName) ∷ []) (look t (property_at p n))

-- the length of what is there
abbrev pub length_of : Result (Option Bytes) Refusal → Result (Option ℕ) Refusal
length_of (Err e) = Err e
length_of (Ok None) = Ok None
length_of (Ok (Some v)) = Ok (Some (length v))

-- bytes written at the start of a buffer; those past them stay
abbrev pub over : Bytes → Bytes → Bytes
over v out = v ++ drop (length v) out

-- what a copy of a value to a buffer of so many bytes answers: its length
abbrev pub copied : Result (Option Bytes) Refusal → ℕ → Result ℕ Refusal
copied (Err e) room = Err e
copied (Ok None) room = Err Absent
copied (Ok (Some v)) room = tested ((nat_le (length v) room, Short) ∷ []) (length v)

-- what that buffer holds then
abbrev pub filled : Result (Option Bytes) Refusal → Bytes → Bytes
filled (Err e) out = out
filled (Ok None) out = out
filled (Ok (Some v)) out = cond (nat_le (length v) (length out)) (over v out) out

-- whether m comes behind n in the order of names
abbrev pub later : Bytes → Bytes → Bool
later n m = is_lt (name_order n m)

-- the least of m and of what else was found
abbrev pub least : Bytes → Option Bytes → Option Bytes
least m None = Some m
least m (Some l) = cond (later m l) (Some m) (Some l)

-- the least of some names that comes behind n
unfoldable pub least_after : Bytes → List Bytes → Option Bytes
least_after n [] = None
least_after n (m ∷ ms) = cond (later n m) (least m (least_after n ms)) (least_after n ms)

-- the name of the child of p that a place is, if it is one
abbrev pub child_on : Bytes → Place → List Bytes
child_on p (q, None) = cond (not (bytes_eq q root) && bytes_eq (parent q) p) (leaf q ∷ []) []
child_on p (q, Some n) = []

-- the name of the property of p that a place is, if it is one
abbrev pub property_on : Bytes → Place → List Bytes
property_on p (q, None) = []
property_on p (q, Some n) = cond (bytes_eq q p) (n ∷ []) []

-- the names that places give
unfoldable pub names : (Place → List Bytes) → Places → List Bytes
names on [] = []
names on (e ∷ es) = on e.0 ++ names on es

-- the least name behind n, which is a name by its rule or empty, among those of the node at p, or absent; a name takes a buffer of 63 bytes
abbrev pub next_name : (Bytes → Bool) → (Bytes → Place → List Bytes) → Meaning → Bytes → Bytes → ℕ → Result (Option Bytes) Refusal
next_name rule on closed p n room = Err Closed
next_name rule on (holds t) p n room =
    tested ((path_text p && (length n == 0 || rule n), BadName) ∷ (there t (node_at p), Absent) ∷ (nat_le 63 room, Short) ∷ []) (least_after n (names (on p) t.places))

abbrev pub next_child : Meaning → Bytes → Bytes → ℕ → Result (Option Bytes) Refusal
next_child m p n room = next_name node_name child_on m p n room

abbrev pub next_property : Meaning → Bytes → Bytes → ℕ → Result (Option Bytes) Refusal
next_property m p n room = next_name property_name property_on m p n room

-- what the buffer of a name holds then
abbrev pub named : Result (Option Bytes) Refusal → Bytes → Bytes
named (Err e) out = out
named (Ok None) out = out
named (Ok (Some v)) out = over v out

abbrev pub boot_of : Meaning → Result ℕ Refusal
boot_of closed = Err Closed
boot_of (holds t) = Ok t.boot

-- ---- writes

-- whether the limits let v stand at a place
abbrev pub admitted : Tree → Place → Bytes → Bool
admitted t k v = short_place k v && roomy (change t k (Some v)).places

abbrev pub none : List Bytes → Bool
none [] = true
none (m ∷ ms) = false

-- a node that may not be dropped: the root, or one with children or properties
abbrev pub in_use : Tree → Bytes → Bool
in_use t p =
    bytes_eq p root || (not (none (names (child_on p) t.places)) || not (none (names (property_on p) t.places)))

abbrev pub add_node : Meaning → Bytes → Result (Unit {0}) Refusal
add_node closed p = Err Closed
add_node (holds t) p =
    tested ((path_text p, BadName) ∷ (not (there t (node_at p)), Present) ∷ (there t (node_at (parent p)), Absent) ∷ (admitted t (node_at p) [], Limit) ∷ []) tt

abbrev pub drop_node : Meaning → Bytes → Result (Unit {0}) Refusal
drop_node closed p = Err Closed
drop_node (holds t) p = tested ((path_text p, BadName) ∷ (there t (node_at p), Absent) ∷ (not (in_use t p), InUse) ∷ []) tt

abbrev pub set_property : Meaning → Bytes → Bytes → Bytes → Result (Unit {0}) Refusal
set_property closed p n v = Err Closed
set_property (holds t) p n v =
    tested ((path_text p && property_name n, BadName) ∷ (there t (node_at p), Absent) ∷ (admitted t (property_at p n) v, Limit) ∷ []) tt

abbrev pub drop_property : Meaning → Bytes → Bytes → Result (Unit {0}) Refusal
drop_property closed p n = Err Closed
drop_property (holds t) p n =
    tested ((path_text p && property_name n, BadName) ∷ (there t (node_at p) && there t (property_at p n), Absent) ∷ []) tt

-- the meaning with w at a place: a value put there, or none
abbrev pub changed : Meaning → Place → Option Bytes → Meaning
changed closed k w = closed
changed (holds t) k w = holds (change t k w)

-- an accepted write leaves `new`, a refused one what was there
abbrev pub settled : Result (Unit {0}) Refusal → Meaning → Meaning → Meaning
settled (Ok u) new old = new
settled (Err e) new old = old
