use Rattle.overlay_rules.proofs.Merging.{merges-by-steps}
use Rattle.overlay_rules.proofs.merge_goes_by_the_rules.Goals as goal

pub returns : goal.returns
returns c = merges-by-steps
