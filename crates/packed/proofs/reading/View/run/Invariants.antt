use Rattle.std.proofs.Common.{◌≡◌, ◌-◌, ◌≤◌, length}
use Rattle.tape.specs.Tapes.{properties_at}
use Rattle.packed.specs.Packing.{mark_of}
use Rattle.packed.specs.Regions.{nodes_of}
use Rattle.packed.proofs.reading.View.run.Given as goal

abbrev pub invariant-loop-bytes : goal.invariant-loop-bytes
invariant-loop-bytes l =
    (l.count ≤ length (properties_at (nodes_of l.self.region.now) l.fn.s.node)) × (l.at ≡ (mark_of (nodes_of l.self.region.now) l.fn.s.node l.count).at)

abbrev pub decreases-loop-bytes : goal.decreases-loop-bytes
decreases-loop-bytes l = 40960 - l.at
