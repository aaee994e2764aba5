use Rattle.listing.proofs.Arranging.{arrange_more, placed-last}
use Rattle.listing.proofs.rows.arrange.Goals as goal

pub loop-row-preserved : goal.loop-row-preserved
loop-row-preserved c = arrange_more _ _ _ _ _ _ c.loop-row.invariant (placed-last _ _ _ c.in-Some.ensures.steps) c.in_ok-enter_row.ensures
