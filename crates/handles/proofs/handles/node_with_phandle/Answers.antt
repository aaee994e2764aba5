use Rattle.std.proofs.Common.{◌≡◌, ℕ, ◌-◌, eqb, List, ◌++◌, length, take, drop, Some, Ok, refl, sym, ap, ◌∙◌, subst, arith}
use Rattle.std.specs.Option.{option_eq}
use Rattle.store.specs.Calls.{length_of, named}
use Rattle.tree.specs.Phandles.{holder_of}
use Rattle.walk.specs.Steps.{Stands}
use Rattle.walk.proofs.Walking.{turn_to, turn_none, ok_one}
use Rattle.handles.specs.Searches.{handle_at, noted}
use Rattle.handles.proofs.Rests.{rest, all, rest-start}
use Rattle.handles.proofs.Folds.{holder-is, found_here, found-later, found-never}
use Rattle.handles.proofs.handles.node_with_phandle.Goals as goal

pub loop-path-init : goal.loop-path-init
loop-path-init g c = record {
  tree = c.new-nodes.ensures.tree;
  so_far =
      let M = g.R.Readable.meaning c.args.tree.now in
      subst (λ p. holder_of c.args.number (rest M p) ≡ holder_of c.args.number (all M)) (sym c.new-nodes.ensures.start) (ap (holder_of c.args.number) (rest-start M (g.R.Readable.good c.args.tree.now)));
  out = refl;
}

pub phandle_at-requires : goal.phandle_at-requires
phandle_at-requires g c =
    let M = g.R.Readable.meaning c.args.tree.now in
    let t = turn_to M _ _ _ _ _ (g.R.Readable.good c.args.tree.now) (ap g.R.Readable.meaning c.loop-path.invariant.tree) c.in_ok-path.ensures.answer c.in-Some.is in
    subst (Stands M) (sym (c.deref.ensures.0 ∙ t.same)) t.reached.stands

pub returns-then-eq : goal.returns-then-eq
returns-then-eq g c =
    let M = g.R.Readable.meaning c.args.tree.now in
    let good = g.R.Readable.good c.args.tree.now in
    let t = turn_to M _ _ _ _ _ good (ap g.R.Readable.meaning c.loop-path.invariant.tree) c.in_ok-path.ensures.answer c.in-Some.is in
    let q : List ℕ = take c.next.new.self.len c.next.new.self.path in
    let same : c.deref.result.now ≡ q = c.deref.ensures.0 ∙ t.same in
    let h : c.in_ok-phandle_at.field-0 ≡ noted (handle_at M q) = ok_one (sym c.in_ok-phandle_at.was ∙ c.phandle_at.ensures) ∙ ap (λ p. noted (handle_at M p)) same in
    let hit = sym (ap (λ o. option_eq eqb o (Some c.args.number)) h) ∙ sym c.eq.ensures ∙ c.if-eq.true in
    let all = found_here M _ q c.args.number good t.is hit c.loop-path.invariant.so_far in
    let is = holder-is M c.in_ok-boot_cpu.field-0 c.args.number (length c.args.out.now) (sym c.boot_cpu.ensures ∙ c.in_ok-boot_cpu.was) (omega arith) ∙ ap Ok all in
    let size : c.len-n.result ≡ length q = c.len-n.ensures.value ∙ ap length t.same in
    let zero : c.len-n.result - 0 ≡ length q = omega arith in
    record {
      answer = ap (λ x. Ok (Some x)) size ∙ ap length_of (sym is);
      buffer = (λ i. (c.copy_from_slice.ensures.after ∙ c.deref-then-eq.ensures.0 ∙ t.same) i ++ drop (zero i) (c.loop-path.invariant.out i)) ∙ ap (λ x. named x c.args.out.now) (sym is);
    }

pub loop-path-smaller : goal.loop-path-smaller
loop-path-smaller g c =
    (turn_to (g.R.Readable.meaning c.args.tree.now) _ _ _ _ _ (g.R.Readable.good c.args.tree.now) (ap g.R.Readable.meaning c.loop-path.invariant.tree) c.in_ok-path.ensures.answer c.in-Some.is).reached.less

pub loop-path-preserved : goal.loop-path-preserved
loop-path-preserved g c =
    let M = g.R.Readable.meaning c.args.tree.now in
    let good = g.R.Readable.good c.args.tree.now in
    let t = turn_to M _ _ _ _ _ good (ap g.R.Readable.meaning c.loop-path.invariant.tree) c.in_ok-path.ensures.answer c.in-Some.is in
    let q : List ℕ = take c.next.new.self.len c.next.new.self.path in
    let h : c.in_ok-phandle_at.field-0 ≡ noted (handle_at M q) = ok_one (sym c.in_ok-phandle_at.was ∙ c.phandle_at.ensures) ∙ ap (λ p. noted (handle_at M p)) (c.deref.ensures.0 ∙ t.same) in
    let miss = sym (ap (λ o. option_eq eqb o (Some c.args.number)) h) ∙ sym c.eq.ensures ∙ c.if-eq.false in
    record {
      tree = ap (λ b. b.now) c.next.ensures.tree ∙ c.loop-path.invariant.tree;
      so_far = found-later M _ q c.args.number good t.is miss c.loop-path.invariant.so_far;
      out = c.loop-path.invariant.out;
    }

pub returns : goal.returns
returns g c =
    let M = g.R.Readable.meaning c.args.tree.now in
    let good = g.R.Readable.good c.args.tree.now in
    let all = found-never M _ c.args.number good (turn_none M _ _ _ _ (ap g.R.Readable.meaning c.loop-path.invariant.tree) c.in_ok-path.ensures.answer c.in_default.is) c.loop-path.invariant.so_far in
    let is = holder-is M c.in_ok-boot_cpu.field-0 c.args.number (length c.args.out.now) (sym c.boot_cpu.ensures ∙ c.in_ok-boot_cpu.was) (omega arith) ∙ ap Ok all in
    record { answer = ap length_of (sym is); buffer = c.loop-path.invariant.out ∙ ap (λ x. named x c.args.out.now) (sym is) }
