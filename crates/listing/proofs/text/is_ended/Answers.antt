use Rattle.std.proofs.Common.{arith}
use Rattle.std.proofs.lemmas.Bool.Decides.{nat_tests}
use Rattle.listing.proofs.Shows.{ended_last}
use Rattle.listing.proofs.text.is_ended.Goals as goal

pub returns-then-end-eq0 : goal.returns-then-end-eq0
returns-then-end-eq0 c =
    let m = ended_last c.args.part.now c.in-Some.text.now c.in-Some.end.now c.in-Some.ensures.cases.0 in
    let z = c.if-end-eq0.true in
    let e = c.is_empty.ensures in
    grind (arith, nat_tests)

pub returns-else-end-eq0 : goal.returns-else-end-eq0
returns-else-end-eq0 c =
    let m = ended_last c.args.part.now c.in-Some.text.now c.in-Some.end.now c.in-Some.ensures.cases.0 in
    let z = c.if-end-eq0.false in
    grind (arith, nat_tests)
