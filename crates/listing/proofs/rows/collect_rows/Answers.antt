use Rattle.listing.proofs.Collecting.{none_left}
use Rattle.listing.proofs.rows.collect_rows.Goals as goal

pub returns : goal.returns
returns c = none_left _ _ _ _ c.loop-item.invariant c.in-None.ensures.steps.1.0
