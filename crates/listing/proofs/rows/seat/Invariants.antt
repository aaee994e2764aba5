use Rattle.std.proofs.Common.{◌≡◌, ◌++◌, take, drop}
use Rattle.listing.specs.Rows.{placed, keyed, with}
use Rattle.listing.proofs.rows.seat.Given as goal

abbrev pub invariant-loop-i : goal.invariant-loop-i
invariant-loop-i l =
    with (placed l.rows) (keyed l.row) ≡ take l.i (placed l.rows) ++ with (drop l.i (placed l.rows)) (keyed l.row)
