use Rattle.walk.proofs.Runs.{tree-runs}
use Rattle.walk.proofs.walk.order_stands.Goals as goal

pub returns : goal.returns
returns c = tree-runs
