use Rattle.std.proofs.Common.{ap, ◌∙◌}
use Rattle.listing.specs.Rows.{held}
use Rattle.listing.proofs.Arranging.{held_insert}
use Rattle.listing.proofs.rows.enter_row.Goals as goal

pub returns : goal.returns
returns c = ap held c.in_ok-insert.ensures.entries ∙ held_insert c.args.sorted.now.entries c.args.row.place c.args.row.value
