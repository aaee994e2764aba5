-- The items of a blob as writes to a store, up to the first that is refused. Assumes nothing.
use Rattle.std.specs.Prelude.{ℕ, cond, [], ◌∷◌, length, Some, Ok, Err, Result, nat_le}
use Rattle.names.specs.Paths.{child, parent}
use Rattle.store.specs.Calls.{Meaning, add_node, set_property, changed}
use Rattle.store.specs.declared.Refusal.{Refusal}
use Rattle.store.specs.declared.Refusal.TheVariants.{Limit}
use Rattle.tree.specs.Places.{Bytes, node_at, property_at}
use Rattle.blob.specs.Tokens.{Tok, begin, property, end, nop, finish}
use Rattle.reader.specs.Format.{Spelt}

-- what is answered to one item in the open node at p; a node whose path is too long is refused before the store is asked
abbrev pub answered : ℕ × Tok → Bytes → Meaning → Result (Unit {0}) Refusal
answered (at, begin name) p m = cond (nat_le (length (child p name)) 255) (add_node m (child p name)) (Err Limit)
answered (at, property name value) p m = set_property m p name value
answered (at, end) p m = Ok tt
answered (at, nop) p m = Ok tt
answered (at, finish) p m = Ok tt

-- what the store holds behind it, if it is not refused
abbrev pub written : ℕ × Tok → Bytes → Meaning → Meaning
written (at, begin name) p m = changed m (node_at (child p name)) (Some [])
written (at, property name value) p m = changed m (property_at p name) (Some value)
written (at, end) p m = m
written (at, nop) p m = m
written (at, finish) p m = m

-- the open node behind it
abbrev pub onward : ℕ × Tok → Bytes → Bytes
onward (at, begin name) p = child p name
onward (at, property name value) p = p
onward (at, end) p = parent p
onward (at, nop) p = p
onward (at, finish) p = p

-- the rest where this one is not refused
abbrev pub then_run : Result (Unit {0}) Refusal → Result (Unit {0}) Refusal × Meaning → Meaning → Result (Unit {0}) Refusal × Meaning
then_run (Ok u) rest m = rest
then_run (Err e) rest m = (Err e, m)

-- one after the other: the answer, and what the store holds then
unfoldable pub run : Spelt → Bytes → Meaning → Result (Unit {0}) Refusal × Meaning
run [] p m = (Ok tt, m)
run (x ∷ xs) p m = then_run (answered x p m) (run xs (onward x p) (written x p m)) m
