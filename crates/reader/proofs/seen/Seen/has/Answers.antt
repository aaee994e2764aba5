use Rattle.std.proofs.Common.{◌≡◌, drop, rules, tests, ap, ◌∙◌}
use Rattle.std.specs.List.{list_any}
use Rattle.std.proofs.lemmas.Iterator.{YieldsList-from_slice}
use Rattle.std.proofs.lemmas.Iterator.Search.{any_from_yields_List}
use Rattle.std.proofs.lemmas.List.{take_rest}
use Rattle.reader.specs.Seen.{begins}
use Rattle.reader.proofs.seen.Seen.has.Goals as goal

pub returns : goal.returns
returns c =
    let e : c.in-Some.own.now ≡ drop c.args.base c.args.self.now.at.items =
    c.in-Some.ensures.lookup.0.2 ∙ take_rest c.as_slice.result.now c.args.base ∙ ap (drop c.args.base) c.as_slice.ensures.value in
    any_from_yields_List (λ o. begins c.args.name.now (drop o c.args.bytes.now)) _ _ _ c.any.ensures.ran (YieldsList-from_slice c.in-Some.own.now c.iter.ensures.rest)
    (λ x b q k. search (rules, tests))
    ∙ ap (list_any (λ o. begins c.args.name.now (drop o c.args.bytes.now))) e
