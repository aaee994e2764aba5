use Rattle.names.proofs.Walks.{parent-root, parent-part}
use Rattle.names.proofs.paths.parent_of.Goals as goal

pub returns-then-start-le1 : goal.returns-then-start-le1
returns-then-start-le1 c =
    parent-root c.args.path.now _ c.leaf_start-start.ensures.within c.leaf_start-start.ensures.value c.if-start-le1.true

pub returns : goal.returns
returns c =
    parent-part c.args.path.now _ c.leaf_start-start.ensures.within c.leaf_start-start.ensures.value c.if-start-le1.false
