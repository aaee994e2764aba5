use Rattle.overlay_rules.proofs.Noting.{records_what_it_touches}
use Rattle.overlay_rules.proofs.records_what_it_touches.Goals as goal

pub returns : goal.returns
returns c = records_what_it_touches
