use Rattle.overlay_rules.proofs.Examples.{check_examples}
use Rattle.overlay_rules.proofs.check_examples_stand.Goals as goal

pub returns : goal.returns
returns c = check_examples
