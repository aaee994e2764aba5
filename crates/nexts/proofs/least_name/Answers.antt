use Rattle.std.proofs.Common.{◌∙◌, rules}
use Rattle.std.proofs.lemmas.Iterator.{YieldsList, YieldsList-from_map_by}
use Rattle.std.proofs.lemmas.Iterator.Consumers.{YieldsList-at, YieldsList-from_filter}
use Rattle.store.specs.Calls.{later}
use Rattle.tape.specs.Iters.{with_name}
use Rattle.nexts.proofs.Kin.{picks-least, least_is}
use Rattle.nexts.proofs.least_name.Goals as goal

pub returns : goal.returns
returns g c xs h =
    let n = c.args.after.now in
    let road : YieldsList g.I.Iterator.next_gives with_name c.args.parts xs = record { runs = h } in
    picks-least c.filter.result c.min_by.result
    (YieldsList-from_filter _ (later n) (YieldsList-at c.filter.ensures.source (YieldsList-from_map_by _ (λ x. x.now) (λ y. y.1) (YieldsList-at c.map.ensures.source road) c.map.ensures.closure (λ x r q k. search rules))) c.filter.ensures.closure (λ x b q k. search rules))
    c.min_by.ensures.ran (λ v w o q k. search rules)
    ∙ least_is n _
