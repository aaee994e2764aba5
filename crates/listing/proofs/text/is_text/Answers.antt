use Rattle.std.proofs.Common.{◌≡◌, false, ◌==◌, rules, tests, ◌∙◌, arith}
use Rattle.std.proofs.lemmas.Bool.Decides.{nat_tests}
use Rattle.std.proofs.lemmas.Iterator.Search.{all_from_yields_List}
use Rattle.listing.specs.Shown.{ended}
use Rattle.listing.proofs.Shows.{other, YieldsList-from_cuts, text_cuts, text_open}
use Rattle.listing.proofs.text.is_text.Goals as goal

pub returns-then-end-eq0 : goal.returns-then-end-eq0
returns-then-end-eq0 c =
    let v = c.args.value.now in
    all_from_yields_List ended _ _ _ c.all.ensures.ran
    (YieldsList-from_cuts _ other v c.split_inclusive.ensures.rest c.split_inclusive.ensures.closure (λ x b q k. search (rules, tests)))
    (λ x b q k. search (rules, tests))
    ∙ text_cuts v _ c.in-Some.end.now c.in-Some.ensures.cases.0

pub returns-else-end-eq0 : goal.returns-else-end-eq0
returns-else-end-eq0 c =
    let n = c.if-end-eq0.false in
    let e : (c.in-Some.end.now == 0) ≡ false = grind (arith, nat_tests) in
    e ∙ text_open c.args.value.now _ c.in-Some.end.now c.in-Some.ensures.cases.0 e
