use Rattle.std.proofs.Common.{[], None, vec_items, refl, ◌∙◌}
use Rattle.listing.proofs.Collecting.{row_more}
use Rattle.listing.proofs.rows.Collector.enter.Goals as goal

pub returns-clause-rows : goal.returns-clause-rows
returns-clause-rows c =
    row_more (vec_items c.args.self.now.rows) _ _ _ None [] c.in_ok-push.ensures.items refl (c.in_ok-from_slice.ensures.items ∙ c.as_slice.ensures.value ∙ c.in_ok-path.ensures)
