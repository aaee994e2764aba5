use Rattle.overlay_rules.proofs.Examples.{plan_examples}
use Rattle.overlay_rules.proofs.plan_examples_stand.Goals as goal

pub returns : goal.returns
returns c = plan_examples
