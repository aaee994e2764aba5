use Rattle.std.proofs.Common.{rules, eqb, not, ap, ◌∙◌, take}
use Rattle.std.proofs.lemmas.Iterator.{YieldsList-from_slice, YieldsList-from_zip}
use Rattle.std.proofs.lemmas.Iterator.Search.{position_from_yields_List}
use Rattle.std.specs.Option.{unwrap_or}
use borrow.Author.Tests.{tests}
use Rattle.names.proofs.Walks.{front-position}
use Rattle.names.proofs.paths.shared.Goals as goal

pub returns : goal.returns
returns c =
    let k = position_from_yields_List (λ p. not (eqb p.0 p.1)) c.position.new.self _ c.position.result c.position.ensures.ran (YieldsList-from_zip (YieldsList-from_slice (take c.min-n.result c.args.a.now) (search rules)) (YieldsList-from_slice (take c.min-n.result c.args.b.now) (search rules))) (λ x b q k. search (rules, tests)) in
    c.unwrap_or.ensures ∙ ap (λ o. unwrap_or o c.min-n.result) k ∙ front-position c.args.a.now c.args.b.now c.min-n.result c.min-n.ensures
