use Rattle.std.proofs.Common.{◌≡◌, max, take}
use Rattle.tree.specs.Phandles.{largest_of}
use Rattle.walk.proofs.Walking.{left}
use Rattle.handles.proofs.Rests.{rest, all}
use Rattle.handles.proofs.handles.largest_phandle.Given as goal

abbrev pub invariant-loop-path : goal.invariant-loop-path
invariant-loop-path g l = record {
  tree : l.nodes.tree.now ≡ l.tree;
  so_far : max l.best (largest_of (rest (g.R.Readable.meaning l.tree) (take l.nodes.len l.nodes.path))) ≡ largest_of (all (g.R.Readable.meaning l.tree));
}

abbrev pub decreases-loop-path : goal.decreases-loop-path
decreases-loop-path g l = left (g.R.Readable.meaning l.tree) (take l.nodes.len l.nodes.path)
