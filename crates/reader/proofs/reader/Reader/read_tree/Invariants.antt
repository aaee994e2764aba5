use Rattle.std.proofs.Common.{◌≡◌, ◌-◌, ◌≤◌, []}
use Rattle.reader.specs.Passing.{from}
use Rattle.reader.proofs.reader.Reader.read_tree.Given as goal

abbrev pub invariant-loop-step : goal.invariant-loop-step
invariant-loop-step l =
    (l.p ≤ l.initial.self.blob.layout.end) × (l.self.blob ≡ l.initial.self.blob) × (l.self.seen.at.items ≡ [])
    × (from l.initial.self [] l.initial.self.blob.layout.start ≡ from l.self [] l.p)

abbrev pub decreases-loop-step : goal.decreases-loop-step
decreases-loop-step l = l.initial.self.blob.layout.end - l.p
