use Rattle.std.proofs.Common.{◌≡◌, max, take, sym, ap, ◌∙◌, subst}
use Rattle.std.specs.Option.{unwrap_or}
use Rattle.tree.specs.Phandles.{largest_of}
use Rattle.walk.specs.Steps.{Stands}
use Rattle.walk.proofs.Walking.{turn_to, turn_none, ok_one}
use Rattle.handles.specs.Searches.{handle_at, noted}
use Rattle.handles.proofs.Rests.{rest, all}
use Rattle.handles.proofs.Folds.{largest_start, largest_step, largest_done}
use Rattle.handles.proofs.handles.largest_phandle.Goals as goal

pub loop-path-init : goal.loop-path-init
loop-path-init g c = record {
  tree = c.new-nodes.ensures.tree;
  so_far =
      let M = g.R.Readable.meaning c.args.tree.now in
      subst (λ p. max 0 (largest_of (rest M p)) ≡ largest_of (all M)) (sym c.new-nodes.ensures.start) (largest_start M (g.R.Readable.good c.args.tree.now));
}

pub phandle_at-requires : goal.phandle_at-requires
phandle_at-requires g c =
    let M = g.R.Readable.meaning c.args.tree.now in
    let t = turn_to M _ _ _ _ _ (g.R.Readable.good c.args.tree.now) (ap g.R.Readable.meaning c.loop-path.invariant.tree) c.in_ok-path.ensures.answer c.in-Some.is in
    subst (Stands M) (sym (c.deref.ensures.0 ∙ t.same)) t.reached.stands

pub loop-path-smaller : goal.loop-path-smaller
loop-path-smaller g c =
    (turn_to (g.R.Readable.meaning c.args.tree.now) _ _ _ _ _ (g.R.Readable.good c.args.tree.now) (ap g.R.Readable.meaning c.loop-path.invariant.tree) c.in_ok-path.ensures.answer c.in-Some.is).reached.less

pub loop-path-preserved : goal.loop-path-preserved
loop-path-preserved g c =
    let M = g.R.Readable.meaning c.args.tree.now in
    let t = turn_to M _ _ _ _ _ (g.R.Readable.good c.args.tree.now) (ap g.R.Readable.meaning c.loop-path.invariant.tree) c.in_ok-path.ensures.answer c.in-Some.is in
    let h : c.in_ok-phandle_at.field-0 ≡ noted (handle_at M (take c.next.new.self.len c.next.new.self.path)) =
    ok_one (sym c.in_ok-phandle_at.was ∙ c.phandle_at.ensures) ∙ ap (λ p. noted (handle_at M p)) (c.deref.ensures.0 ∙ t.same) in
    record {
      tree = ap (λ b. b.now) c.next.ensures.tree ∙ c.loop-path.invariant.tree;
      so_far = largest_step M _ _ c.loop-path.best _ (g.R.Readable.good c.args.tree.now) t.is (c.max-best.ensures ∙ ap (max c.loop-path.best) (c.unwrap_or.ensures ∙ ap (λ o. unwrap_or o 0) h)) c.loop-path.invariant.so_far;
    }

pub returns : goal.returns
returns g c =
    let M = g.R.Readable.meaning c.args.tree.now in
    largest_done M _ c.loop-path.best (g.R.Readable.good c.args.tree.now) (turn_none M _ _ _ _ (ap g.R.Readable.meaning c.loop-path.invariant.tree) c.in_ok-path.ensures.answer c.in_default.is) c.loop-path.invariant.so_far
