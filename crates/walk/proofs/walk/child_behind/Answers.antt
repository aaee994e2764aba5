use Rattle.std.proofs.Common.{◌<◌, length, take, Ok, sym, ap, ◌∙◌, subst, arith}
use Rattle.std.proofs.lemmas.List.{take_all}
use Rattle.walk.proofs.Climbs.{standing_start, turn_end, turn_up, turn_some}
use Rattle.walk.proofs.walk.child_behind.Goals as goal

pub loop-n-init : goal.loop-n-init
loop-n-init g c = record {
  stands = standing_start (g.R.Readable.meaning c.args.tree.now) c.args.path.now (g.R.Readable.good c.args.tree.now) c.requires;
  front = take_all (length c.args.path.now) c.args.path.now (omega arith);
}

pub returns-in-Some : goal.returns-in-Some
returns-in-Some g c =
    turn_some (g.R.Readable.meaning c.args.tree.now) c.args.path.now c.loop-n.open.now c.loop-n.after.now (g.R.Readable.good c.args.tree.now) c.requires c.loop-n.invariant.stands c.loop-n.invariant.front c.next_child.result c.next_child.ensures.answer c.in-Some.n _ _ (c.in_ok-n.was ∙ ap Ok c.in-Some.is)
    c.stem_len-stem.ensures.within c.stem_len-stem.ensures.front (c.truncate.ensures.items ∙ ap (take c.in-Some.n) (c.from-name.ensures.0 ∙ c.next_child.ensures.buffer))

pub returns-then-open-le1 : goal.returns-then-open-le1
returns-then-open-le1 g c =
    turn_end (g.R.Readable.meaning c.args.tree.now) c.args.path.now c.loop-n.open.now c.loop-n.after.now (g.R.Readable.good c.args.tree.now) c.requires c.loop-n.invariant.stands c.loop-n.invariant.front c.next_child.result c.next_child.ensures.answer (c.in_ok-n.was ∙ ap Ok c.in_default.is) c.if-open-le1.true

pub loop-n-smaller : goal.loop-n-smaller
loop-n-smaller g c =
    let u = turn_up (g.R.Readable.meaning c.args.tree.now) c.args.path.now c.loop-n.open.now c.loop-n.after.now (g.R.Readable.good c.args.tree.now) c.requires c.loop-n.invariant.stands c.loop-n.invariant.front c.next_child.result c.next_child.ensures.answer (c.in_ok-n.was ∙ ap Ok c.in_default.is) c.if-open-le1.false in
    subst (λ x. length x < length c.loop-n.open.now) (sym c.parent_of-open.ensures) u.less

pub loop-n-preserved : goal.loop-n-preserved
loop-n-preserved g c =
    let u = turn_up (g.R.Readable.meaning c.args.tree.now) c.args.path.now c.loop-n.open.now c.loop-n.after.now (g.R.Readable.good c.args.tree.now) c.requires c.loop-n.invariant.stands c.loop-n.invariant.front c.next_child.result c.next_child.ensures.answer (c.in_ok-n.was ∙ ap Ok c.in_default.is) c.if-open-le1.false in
    record {
      stands = rw (c.parent_of-open.ensures, c.leaf_of-after.ensures) u.stands;
      front = rw c.parent_of-open.ensures u.front;
    }
