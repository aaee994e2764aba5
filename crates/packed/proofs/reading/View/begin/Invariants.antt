use Rattle.std.proofs.Common.{◌≡◌, ◌+◌, ◌-◌, ◌≤◌}
use Rattle.tape.specs.Tapes.{nth}
use Rattle.packed.specs.Packing.{ends, size_of}
use Rattle.packed.specs.Regions.{nodes_of}
use Rattle.packed.proofs.reading.View.begin.Given as goal

abbrev pub invariant-loop-bytes : goal.invariant-loop-bytes
invariant-loop-bytes l =
    (l.at ≡ l.fn.s.at + size_of (ends (l.fn.s.property - l.depth))) × ((nth (nodes_of l.self.region.now) l.fn.s.node).depth ≤ l.depth) × (l.depth ≤ l.fn.s.property)

abbrev pub decreases-loop-bytes : goal.decreases-loop-bytes
decreases-loop-bytes l = l.depth
