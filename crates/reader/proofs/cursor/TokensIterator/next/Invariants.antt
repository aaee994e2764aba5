use Rattle.std.proofs.Common.{◌≡◌, ◌-◌, ◌≤◌}
use Rattle.reader.specs.Handing.{ahead}
use Rattle.reader.proofs.cursor.TokensIterator.next.Given as goal

abbrev pub invariant-loop-step : goal.invariant-loop-step
invariant-loop-step l =
    (l.initial.self.next ≤ l.self.next) × (l.self.blob ≡ l.initial.self.blob)
    × (ahead l.initial.self.blob.bytes.now l.initial.self.blob.layout l.initial.self.next ≡ ahead l.self.blob.bytes.now l.self.blob.layout l.self.next)

abbrev pub decreases-loop-step : goal.decreases-loop-step
decreases-loop-step l = l.self.blob.layout.end - l.self.next
