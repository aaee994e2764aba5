use Rattle.std.proofs.Common.{◌≡◌, ◌++◌, take, vec_items}
use Rattle.listing.specs.Shown.{shown_bytes}
use Rattle.listing.proofs.text.push_quoted.Given as goal

abbrev pub invariant-loop-b : goal.invariant-loop-b
invariant-loop-b l = vec_items l.out ≡ vec_items l.initial.out ++ shown_bytes (take l.b-index l.b-items)
