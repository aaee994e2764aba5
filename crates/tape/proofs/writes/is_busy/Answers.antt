use Rattle.std.proofs.Common.{◌+◌, ltb, ap, ◌∙◌, arith}
use Rattle.tape.specs.Tapes.{nth}
use Rattle.tape.proofs.Outcomes.{busy-next}
use Rattle.tape.proofs.writes.is_busy.Goals as goal

pub returns-then-head-counts : goal.returns-then-head-counts
returns-then-head-counts g c =
    let t = c.args.t.now in
    let ns = g.T.Tape.nodes t in
    let i = ap (λ s. s.node) c.head-head.ensures.next ∙ g.T.Tape.spotted t (c.args.at.node + 1) in
    (λ j. ltb (c.head-head.ensures.depth j) ((c.head.ensures.depth ∙ ap (λ k. (nth ns k).depth) i) j))
    ∙ busy-next ns c.args.at.node (omega (arith, c.head-head.ensures.properties, c.if-head-gt0.false)) (omega (arith, i, c.counts.ensures.nodes, c.if-head-counts.true))
