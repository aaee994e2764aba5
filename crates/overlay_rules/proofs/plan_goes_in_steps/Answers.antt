use Rattle.overlay_rules.proofs.Stepping.{in-steps}
use Rattle.overlay_rules.proofs.plan_goes_in_steps.Goals as goal

pub returns : goal.returns
returns c = in-steps
