use Rattle.std.proofs.Common.{◌≡◌, ◌+◌, ◌≤◌, true, false, [], ◌∷◌, ◌++◌, length, cond, take, drop, sym, ap, ◌∙◌, subst, arith}
use Rattle.std.specs.Option.{ok_or}
use Rattle.std.proofs.lemmas.Result.{err_from_is_err_and}
use Rattle.std.proofs.lemmas.List.{take_all}
use Rattle.std.proofs.lemmas.Bool.Decides.{nat_tests}
use Rattle.tree.specs.Counting.{with_property}
use Rattle.blob.specs.Lexing.{tokens_from}
use Rattle.blob.specs.declared.types.Refusal.TheVariants.{Limit}
use Rattle.reader.specs.Passing.{Named, from}
use Rattle.reader.specs.Seen.{Spells}
use Rattle.reader.specs.Verdict.{opened, kids, verdict}
use Rattle.reader.proofs.Begun.{among-has}
use Rattle.reader.proofs.Noting.{push-named, node-stands}
use Rattle.reader.proofs.Passing.{stepped, unstepped, node_bad, node-used, node_over, node-entered, counted, uncounted, forgotten, kept, kin-named, named_then, passed-node}
use Rattle.reader.proofs.reader.Reader.+read_body_read_node.Goals as goal
use Rattle.reader.proofs.reader.Reader.+read_body_read_node.Goals.{read_node-then-not-frame, read_node-else-not-frame, read_node-then-not-is_node_name-via-then-not-is_node_name, read_node-then-not-is_node_name-via-else-not-is_node_name+then-has}

pub read_body-returns-in_err-step : goal.read_body-returns-in_err-step
read_body-returns-in_err-step t c =
    let r = c.loop-step.self in
    let e = err_from_is_err_and c.from_residual.result c.from_residual.ensures.1 in
    let n = unstepped r c.loop-step.p _ _ _ c.token_at.ensures.value (sym c.in_err-step.was ∙ c.ok_or.ensures.value) in
    rw (e.1, e.2, n.0) (λ gs. c.loop-step.invariant.4.2 gs ∙ n.1 _)

pub read_body-returns-then-children : goal.read_body-returns-then-children
read_body-returns-then-children t c = λ gs.
    let r = c.loop-step.self in
    let i = c.loop-step.invariant.4.2 gs in
    let a = stepped r c.loop-step.p _ _ _ _ c.token_at.ensures.value c.token_at.ensures.bounds (sym c.in_ok-step.was ∙ c.ok_or.ensures.value) c.in-Property.is in
    let s = a.reads (opened c.args.path c.loop-step.children c.loop-step.invariant.4.0 ∷ gs) in
    grind (arith, nat_tests)

pub read_body-returns-in_err-read_property-in-Property : goal.read_body-returns-in_err-read_property-in-Property
read_body-returns-in_err-read_property-in-Property t c =
    let r = c.loop-step.self in
    let e = err_from_is_err_and c.from_residual-in_err-read_property-in-Property.result c.from_residual-in_err-read_property-in-Property.ensures.1 in
    let v = c.loop-step.invariant in
    let f = c.in_err-read_property-in-Property.ensures v.4.0 (subst (λ b. Spells b.bytes.now (drop c.len-base.result r.seen.at.items) v.4.0) (sym v.2) v.4.1.spells) in
    let a = stepped r c.loop-step.p _ _ _ _ c.token_at.ensures.value c.token_at.ensures.bounds (sym c.in_ok-step.was ∙ c.ok_or.ensures.value) c.in-Property.is in
    rw (e.1, e.2) (λ gs.
    let i = c.loop-step.invariant.4.2 gs in
    let s = a.reads (opened c.args.path c.loop-step.children c.loop-step.invariant.4.0 ∷ gs) in
    grind (arith, nat_tests))

pub read_body-loop-step-preserved-in-Property : goal.read_body-loop-step-preserved-in-Property
read_body-loop-step-preserved-in-Property t c =
    let r = c.loop-step.self in
    let v = c.loop-step.invariant in
    let new = c.read_property.new.self in
    let name = c.in-Property.name.now in
    let value = c.in-Property.value.now in
    let a = stepped r c.loop-step.p _ _ _ _ c.token_at.ensures.value c.token_at.ensures.bounds (sym c.in_ok-step.was ∙ c.ok_or.ensures.value) c.in-Property.is in
    let f = c.in_ok-read_property-in-Property.ensures v.4.0 (subst (λ b. Spells b.bytes.now (drop c.len-base.result r.seen.at.items) v.4.0) (sym v.2) v.4.1.spells) in (
      omega arith,
      subst (λ b. c.in_ok-step.step.next ≤ b.layout.end) v.2 a.stays,
      f.2 ∙ v.2,
      v.3,
      (
        _,
        named_then c.args.self.now.blob.bytes.now c.len-base.result c.args.self.now.seen.at.items r.seen.at.items new.seen.at.items _ _ v.4.1
            (subst (λ b. Named b.bytes.now c.len-base.result r.seen.at.items new.seen.at.items (v.4.0 ++ (name ∷ []))) v.2 f.3),
        λ gs.
            let s = a.reads (opened c.args.path c.loop-step.children v.4.0 ∷ gs) in
            let fault = f.0 in
            let w : from r (opened c.args.path c.loop-step.children v.4.0 ∷ gs) c.loop-step.p
            ≡ verdict (opened c.args.path false (v.4.0 ++ (name ∷ [])) ∷ gs) (with_property r.counts (length name) (length value)) (tokens_from r.blob.bytes.now r.blob.layout c.in_ok-step.step.next) =
            grind (arith, nat_tests) in
            v.4.2 gs ∙ w
            ∙ (λ i. verdict (opened c.args.path (sym c.if-children.false i) (v.4.0 ++ (name ∷ [])) ∷ gs) (sym f.1 i) (tokens_from (sym f.2 i).bytes.now (sym f.2 i).layout c.in_ok-step.step.next)),
      ),
    )

pub read_body-returns-in-End : goal.read_body-returns-in-End
read_body-returns-in-End t c =
    let r = c.loop-step.self in
    let v = c.loop-step.invariant in
    let a = stepped r c.loop-step.p _ _ _ _ c.token_at.ensures.value c.token_at.ensures.bounds (sym c.in_ok-step.was ∙ c.ok_or.ensures.value) c.in-End.is in (
      omega arith,
      subst (λ b. c.in_ok-step.step.next ≤ b.layout.end) v.2 a.stays,
      v.2,
      c.truncate.ensures.items ∙ v.4.1.below ∙ take_all c.len-base.result c.args.self.now.seen.at.items (omega arith),
      λ gs. v.4.2 gs ∙ a.reads (opened c.args.path c.loop-step.children v.4.0 ∷ gs),
    )

pub read_body-loop-step-preserved : goal.read_body-loop-step-preserved
read_body-loop-step-preserved t c =
    let r = c.loop-step.self in
    let v = c.loop-step.invariant in
    let a = stepped r c.loop-step.p _ _ _ _ c.token_at.ensures.value c.token_at.ensures.bounds (sym c.in_ok-step.was ∙ c.ok_or.ensures.value) c.in-Nop.is in (
      omega arith,
      subst (λ b. c.in_ok-step.step.next ≤ b.layout.end) v.2 a.stays,
      v.2,
      v.3,
      (v.4.0, v.4.1, λ gs. v.4.2 gs ∙ a.reads (opened c.args.path c.loop-step.children v.4.0 ∷ gs)),
    )

pub read_body-returns-in-Finish : goal.read_body-returns-in-Finish
read_body-returns-in-Finish t c = λ gs.
    let r = c.loop-step.self in
    let v = c.loop-step.invariant in
    let a = stepped r c.loop-step.p _ _ _ _ c.token_at.ensures.value c.token_at.ensures.bounds (sym c.in_ok-step.was ∙ c.ok_or.ensures.value) c.in-Finish.is in
    v.4.2 gs ∙ a.reads (opened c.args.path c.loop-step.children v.4.0 ∷ gs)

pub read_node-returns-then-not-is_node_name : goal.read_node-returns-then-not-is_node_name
read_node-returns-then-not-is_node_name t c = λ ns s gs.
    let r = c.args.self.now in
    let f = c.args.frame in
    let g = opened f.path f.children ns in
    let o : c.if-not-frame.self.1.1.0.at.items ≡ cond f.children r.seen.at.items (take f.base r.seen.at.items) =
    (elim c.if-not-frame.branch [
      | read_node-then-not-frame w ↦ forgotten f.children f.base _ _ w.if-not-frame.true (ap (λ x. x.1.1.0.at.items) w.self-is ∙ w.truncate.ensures.items)
      | read_node-else-not-frame w ↦ kept f.children f.base _ _ w.if-not-frame.false (ap (λ x. x.1.1.0.at.items) w.self-is)
    ]) in
    let k = kin-named r.blob.bytes.now f.base f.path f.children ns r.seen.at.items _ c.requires.above o s in
    let here = node-stands r.blob.bytes.now r.blob.layout c.args.at c.args.name.now _ c.requires.token in
    let h = among-has r.blob.bytes.now c.args.name.now _ _ here.full k.spells in
    elim c.then-not-is_node_name.branch [
      | read_node-then-not-is_node_name-via-then-not-is_node_name w ↦ node_bad r c.args.at c.args.next g gs c.args.name.now c.requires.token (sym c.is_node_name.ensures ∙ w.if-not-is_node_name.true)
      | read_node-then-not-is_node_name-via-else-not-is_node_name+then-has w ↦
          node-used r c.args.at c.args.next g gs c.args.name.now c.requires.token (sym c.is_node_name.ensures ∙ w.if-not-is_node_name.false) (sym h ∙ sym w.has.ensures ∙ w.if-has.true)
    ]

pub read_node-returns-in_err-self : goal.read_node-returns-in_err-self
read_node-returns-in_err-self t c =
    let r = c.args.self.now in
    let f = c.args.frame in
    let e = err_from_is_err_and c.from_residual.result c.from_residual.ensures.1 in
    let u = uncounted _ _ _ _ (sym c.in_err-self.was ∙ c.ok_or.ensures.value ∙ ap (λ o. ok_or o (Limit c.args.at)) c.adding_node.ensures) in
    rw (e.1, e.2, u.1) (λ ns s gs.
    let o : c.if-not-frame.self.1.1.0.at.items ≡ cond f.children r.seen.at.items (take f.base r.seen.at.items) =
    (elim c.if-not-frame.branch [
      | read_node-then-not-frame w ↦ forgotten f.children f.base _ _ w.if-not-frame.true (ap (λ x. x.1.1.0.at.items) w.self-is ∙ w.truncate.ensures.items)
      | read_node-else-not-frame w ↦ kept f.children f.base _ _ w.if-not-frame.false (ap (λ x. x.1.1.0.at.items) w.self-is)
    ]) in
    let k = kin-named r.blob.bytes.now f.base f.path f.children ns r.seen.at.items _ c.requires.above o s in
    let here = node-stands r.blob.bytes.now r.blob.layout c.args.at c.args.name.now _ c.requires.token in
    let h = among-has r.blob.bytes.now c.args.name.now _ _ here.full k.spells in
    node_over r c.args.at c.args.next (opened f.path f.children ns) gs c.args.name.now c.requires.token (sym c.is_node_name.ensures ∙ c.if-not-is_node_name.false) (sym h ∙ sym c.has.ensures ∙ c.if-has.false) u.0)

pub read_node-returns : goal.read_node-returns
read_node-returns t c = λ ns s.
    let r = c.args.self.now in
    let f = c.args.frame in
    let g = opened f.path f.children ns in
    let o : c.if-not-frame.self.1.1.0.at.items ≡ cond f.children r.seen.at.items (take f.base r.seen.at.items) =
    (elim c.if-not-frame.branch [
      | read_node-then-not-frame w ↦ forgotten f.children f.base _ _ w.if-not-frame.true (ap (λ x. x.1.1.0.at.items) w.self-is ∙ w.truncate.ensures.items)
      | read_node-else-not-frame w ↦ kept f.children f.base _ _ w.if-not-frame.false (ap (λ x. x.1.1.0.at.items) w.self-is)
    ]) in
    let k = kin-named r.blob.bytes.now f.base f.path f.children ns r.seen.at.items _ c.requires.above o s in
    let here = node-stands r.blob.bytes.now r.blob.layout c.args.at c.args.name.now _ c.requires.token in
    let h = among-has r.blob.bytes.now c.args.name.now _ _ here.full k.spells in
    let p = push-named r.blob.bytes.now f.base _ c.args.name.now _ _ c.push.new.self.at.items k.above c.push.ensures k.spells here in
    let n = named_then r.blob.bytes.now f.base r.seen.at.items _ _ _ _ k p in
    let m = counted _ _ _ _ (sym c.in_ok-self.was ∙ c.ok_or.ensures.value ∙ ap (λ o. ok_or o (Limit c.args.at)) c.adding_node.ensures) in
    passed-node _ _ r.blob c.read_body.new.self c.args.at c.args.next _ _ _ c.read_body.result c.read_body.ensures (omega arith)
    (λ e. subst (λ xs. Named r.blob.bytes.now f.base r.seen.at.items xs (kids g ++ (c.args.name.now ∷ []))) (sym e) n)
    (λ gs. node-entered r c.args.at c.args.next g gs c.args.name.now c.requires.token (sym c.is_node_name.ensures ∙ c.if-not-is_node_name.false) (sym h ∙ sym c.has.ensures ∙ c.if-has.false) m.0
    ∙ ap (λ d. verdict (opened (f.path + 1 + length c.args.name.now) false [] ∷ opened f.path true (kids g ++ (c.args.name.now ∷ [])) ∷ gs) d (tokens_from r.blob.bytes.now r.blob.layout c.args.next)) (sym m.1))
