use Rattle.std.proofs.Common.{◌≡◌, take}
use Rattle.tree.specs.Phandles.{holder_of}
use Rattle.walk.proofs.Walking.{left}
use Rattle.handles.proofs.Rests.{rest, all}
use Rattle.handles.proofs.handles.node_with_phandle.Given as goal

abbrev pub invariant-loop-path : goal.invariant-loop-path
invariant-loop-path g l = record {
  tree : l.nodes.tree.now ≡ l.tree;
  so_far : holder_of l.number (rest (g.R.Readable.meaning l.tree) (take l.nodes.len l.nodes.path)) ≡ holder_of l.number (all (g.R.Readable.meaning l.tree));
  out : l.out ≡ l.initial.out;
}

abbrev pub decreases-loop-path : goal.decreases-loop-path
decreases-loop-path g l = left (g.R.Readable.meaning l.tree) (take l.nodes.len l.nodes.path)
