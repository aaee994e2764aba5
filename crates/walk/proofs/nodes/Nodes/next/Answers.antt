use Rattle.std.proofs.Common.{Ok, ap, ◌∙◌}
use Rattle.walk.proofs.Walking.{turned, stands_walks}
use Rattle.walk.proofs.nodes.Nodes.next.Goals as goal

pub invariant_of-self-2 : goal.invariant_of-self-2
invariant_of-self-2 g c =
    let M = g.R.Readable.meaning c.args.self.now.tree.now in
    let good = g.R.Readable.good c.args.self.now.tree.now in
    record { walking = stands_walks M _ (turned M _ _ _ c.next_node.result c.in-Some.len good c.next_node.ensures.answer c.next_node.ensures.buffer (c.in_ok-len.was ∙ ap Ok c.in-Some.is)) }
