use Rattle.std.proofs.Common.{◌+◌, ap, ◌∙◌, rules}
use Rattle.tape.specs.Iters.{children_left, first_named}
use Rattle.tape.proofs.Steps.{child-first, finds-first, mapped}
use Rattle.tape.proofs.search.find_child.Goals as goal

pub returns : goal.returns
returns g c =
    mapped (λ x. x.0) _ c.find.result c.map.result (λ x y k. search rules) c.map.ensures.cases
    ∙ finds-first (children_left g.T.Tape.nodes g.T.Tape.spot) _ _ c.args.name.now (λ x b h k. search rules) c.children_of.result c.find.new.self c.find.result c.find.ensures.ran
    ∙ ap (first_named c.args.name.now) c.children_of.ensures.left
    ∙ child-first (g.T.Tape.spot c.args.t.now) _ c.args.name.now (c.args.from.node + 1) _
