use Rattle.std.proofs.Common.{sym, ap, ◌∙◌, arith}
use Rattle.blob.specs.Tokens.{tok_of}
use Rattle.reader.specs.Handing.{ahead}
use Rattle.reader.proofs.Handing.{hand_on, ahead_none, ahead-some, ahead-skipped}
use Rattle.reader.proofs.cursor.TokensIterator.next.Goals as goal

pub returns-in-Begin-clause-steps : goal.returns-in-Begin-clause-steps
returns-in-Begin-clause-steps c =
    let r = c.loop-step.self in
    let s = ahead-some r.blob.bytes.now r.blob.layout r.next _ _ (sym c.in-Some.ensures.value) in
    let b = c.in-Some.ensures.bounds in
    (c.loop-step.invariant.1, c.loop-step.invariant.2 ∙ s ∙ ap (λ k. hand_on r.next (tok_of k) (ahead r.blob.bytes.now r.blob.layout c.in-Some.step.next)) c.in-Begin.is, omega arith)

pub returns-in-Property-clause-steps : goal.returns-in-Property-clause-steps
returns-in-Property-clause-steps c =
    let r = c.loop-step.self in
    let s = ahead-some r.blob.bytes.now r.blob.layout r.next _ _ (sym c.in-Some.ensures.value) in
    let b = c.in-Some.ensures.bounds in
    (c.loop-step.invariant.1, c.loop-step.invariant.2 ∙ s ∙ ap (λ k. hand_on r.next (tok_of k) (ahead r.blob.bytes.now r.blob.layout c.in-Some.step.next)) c.in-Property.is, omega arith)

pub returns-in-End-clause-steps : goal.returns-in-End-clause-steps
returns-in-End-clause-steps c =
    let r = c.loop-step.self in
    let s = ahead-some r.blob.bytes.now r.blob.layout r.next _ _ (sym c.in-Some.ensures.value) in
    let b = c.in-Some.ensures.bounds in
    (c.loop-step.invariant.1, c.loop-step.invariant.2 ∙ s ∙ ap (λ k. hand_on r.next (tok_of k) (ahead r.blob.bytes.now r.blob.layout c.in-Some.step.next)) c.in-End.is, omega arith)

pub loop-step-preserved : goal.loop-step-preserved
loop-step-preserved c =
    let r = c.loop-step.self in
    let b = c.in-Some.ensures.bounds in
    (omega arith, c.loop-step.invariant.1, c.loop-step.invariant.2 ∙ ahead-skipped r.blob.bytes.now r.blob.layout r.next _ _ c.in-Nop.is (sym c.in-Some.ensures.value))

pub returns-clause-steps : goal.returns-clause-steps
returns-clause-steps c =
    let r = c.loop-step.self in
    let n = ahead_none r.blob.bytes.now r.blob.layout r.next (sym c.in_default.ensures.value) in
    (c.loop-step.invariant.1, (c.loop-step.invariant.2 ∙ n, n), tt)
