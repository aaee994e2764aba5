use Rattle.std.proofs.Common.{◌≡◌, vec_items}
use Rattle.std.specs.Vec.Iter.{into_iter_items}
use Rattle.listing.specs.Rows.{placed, held, arranged_on, arranged}
use Rattle.listing.proofs.rows.arrange.Given as goal

abbrev pub invariant-loop-row : goal.invariant-loop-row
invariant-loop-row l =
    arranged_on (held l.sorted.entries) (placed (into_iter_items l.row-iterator.iter)) ≡ arranged (placed (vec_items l.fn.rows))
