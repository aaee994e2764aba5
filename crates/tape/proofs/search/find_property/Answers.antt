use Rattle.std.proofs.Common.{ap, ◌∙◌, rules}
use Rattle.tape.specs.Iters.{first_named, properties_left}
use Rattle.tape.proofs.Looks.{owned}
use Rattle.tape.proofs.Steps.{finds-first, mapped, property-first}
use Rattle.tape.proofs.search.find_property.Goals as goal

pub returns-clause-value : goal.returns-clause-value
returns-clause-value g c =
    mapped (λ x. x.0) _ c.find.result c.map.result (λ x y k. search rules) c.map.ensures.cases
    ∙ finds-first (properties_left g.T.Tape.nodes g.T.Tape.mark) _ _ c.args.name.now (λ x b h k. search rules) c.properties_of.result c.find.new.self c.find.result c.find.ensures.ran
    ∙ ap (first_named c.args.name.now) c.properties_of.ensures.left
    ∙ property-first (g.T.Tape.mark c.args.t.now c.args.at.node) c.args.name.now 0 _

pub returns-clause-owned : goal.returns-clause-owned
returns-clause-owned g c =
    let t = c.args.t.now in
    owned (g.T.Tape.nodes t) (g.T.Tape.mark t) (g.T.Tape.numbered t) c.args.at.node c.requires.inside c.args.name.now c.map.result (returns-clause-value g c)
