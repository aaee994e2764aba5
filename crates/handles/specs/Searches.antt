-- What the searches for phandles answer. Assumes nothing.
use Rattle.std.specs.Prelude.{ℕ, Bool, [], ◌∷◌, Some, None, Ok, Err, codes, Option, Result, nat_le}
use Rattle.tree.specs.Numbers.{be32}
use Rattle.tree.specs.Phandles.{largest_phandle, holder, phandle_rule}
use Rattle.tree.specs.Places.{Bytes, property_at}
use Rattle.tree.specs.Trees.{look}
use Rattle.store.specs.Calls.{Meaning, closed, holds, tested}
use Rattle.store.specs.declared.Refusal.{Refusal}
use Rattle.store.specs.declared.Refusal.TheVariants.{Closed, Short}

-- the largest phandle, 0 if there is none
abbrev pub largest_in : Meaning → Result ℕ Refusal
largest_in closed = Err Closed
largest_in (holds t) = Ok (largest_phandle t)

-- the path of the node that has a phandle, or none; a path takes a buffer of 256 bytes
abbrev pub holder_in : Meaning → ℕ → ℕ → Result (Option Bytes) Refusal
holder_in closed n room = Err Closed
holder_in (holds t) n room = tested ((nat_le 256 room, Short) ∷ []) (holder t n)

-- whether the phandle rule holds
abbrev pub rule_in : Meaning → Result Bool Refusal
rule_in closed = Err Closed
rule_in (holds t) = Ok (phandle_rule t)

-- ---- one node

-- the value of a node's phandle, if it has one
abbrev pub handle_at : Meaning → Bytes → Option Bytes
handle_at closed p = None
handle_at (holds t) p = look t (property_at p (codes "phandle"))

-- its number
abbrev pub noted : Option Bytes → Option ℕ
noted None = None
noted (Some v) = Some (be32 v 0)
