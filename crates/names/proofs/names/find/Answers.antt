use Rattle.std.proofs.Common.{◌≡◌, rules, ◌+◌, ◌-◌, ◌*◌, ◌/◌, ◌==◌, refl, ap, ◌∙◌, length, drop, subst, arith}
use Rattle.std.proofs.lemmas.Iterator.{YieldsList-from_slice}
use Rattle.std.proofs.lemmas.Iterator.Search.{position_from_yields_List}
use Rattle.std.specs.List.{position_or_len}
use Rattle.std.specs.Option.{unwrap_or}
use borrow.Author.Tests.{tests}
use Rattle.names.proofs.Chunks.{part-at, part-ends, part-passes, parts-end}
use Rattle.names.proofs.Words.{before-first}
use Rattle.names.proofs.names.find.Goals as goal

pub returns-in-Some-clause-value : goal.returns-in-Some-clause-value
returns-in-Some-clause-value c =
    let k = position_from_yields_List (λ x. x == c.args.b) _ _ c.position.result c.position.ensures.ran (YieldsList-from_slice _ c.iter.ensures.rest) (λ x b q k. search (rules, tests)) in
    let l = c.as_chunks.ensures.front_len in
    let x = part-at 8 _ c.args.s.now c.as_chunks.result.0.now c.loop-i.i (8 * c.loop-i.i) c.as_chunks.ensures.front (omega arith) refl in
    part-ends (λ x. x == c.args.b) 8 (8 * c.loop-i.i) c.args.s.now _ c.position.result x (omega arith) k c.loop-i.invariant c.in-Some.k c.in-Some.is
    ∙ before-first c.args.b c.args.s.now

pub loop-i-preserved : goal.loop-i-preserved
loop-i-preserved c =
    let k = position_from_yields_List (λ x. x == c.args.b) _ _ c.position.result c.position.ensures.ran (YieldsList-from_slice _ c.iter.ensures.rest) (λ x b q k. search (rules, tests)) in
    let l = c.as_chunks.ensures.front_len in
    let x = part-at 8 _ c.args.s.now c.as_chunks.result.0.now c.loop-i.i (8 * c.loop-i.i) c.as_chunks.ensures.front (omega arith) refl in
    let e : 8 * c.loop-i.i + 8 ≡ 8 * (c.loop-i.i + 1) = omega arith in
    subst (λ m. position_or_len (λ x. x == c.args.b) c.args.s.now ≡ m + position_or_len (λ x. x == c.args.b) (drop m c.args.s.now)) e
    (part-passes (λ x. x == c.args.b) 8 (8 * c.loop-i.i) c.args.s.now _ c.position.result x (omega arith) k c.loop-i.invariant c.in_default.is)

pub returns-clause-value : goal.returns-clause-value
returns-clause-value c =
    let k = position_from_yields_List (λ x. x == c.args.b) _ _ c.position-2.result c.position-2.ensures.ran (YieldsList-from_slice c.as_chunks.result.1.now c.iter-2.ensures.rest) (λ x b q k. search (rules, tests)) in
    let v = c.unwrap_or-k.ensures ∙ ap (λ o. unwrap_or o (length c.as_chunks.result.1.now)) k in
    let m : c.loop-i.i ≡ length c.args.s.now / 8 = omega (arith, c.as_chunks.ensures.front_len) in
    let b : c.as_chunks.result.1.now ≡ drop (8 * c.loop-i.i) c.args.s.now = c.as_chunks.ensures.back ∙ ap (λ j. drop j c.args.s.now) (omega arith) in
    ap (λ j. length c.args.s.now - length c.as_chunks.result.1.now + j) v
    ∙ parts-end (λ x. x == c.args.b) (8 * c.loop-i.i) c.args.s.now c.as_chunks.result.1.now (omega arith) b c.loop-i.invariant
    ∙ before-first c.args.b c.args.s.now
