use Rattle.std.proofs.Common.{◌≡◌, ◌-◌}
use Rattle.tape.specs.Iters.{ChildrenReady, children_left}
use Rattle.tape.proofs.iters.ChildrenIterator.next.Given as goal

abbrev pub invariant-loop-self : goal.invariant-loop-self
invariant-loop-self g l = record {
  ready : ChildrenReady g.T.Tape.nodes g.T.Tape.spot l.self;
  left : children_left g.T.Tape.nodes g.T.Tape.spot l.self ≡ children_left g.T.Tape.nodes g.T.Tape.spot l.initial.self;
}

abbrev pub decreases-loop-self : goal.decreases-loop-self
decreases-loop-self g l = l.self.count - l.self.at.node
