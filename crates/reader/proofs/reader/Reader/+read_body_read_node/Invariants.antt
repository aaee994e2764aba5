use Rattle.std.proofs.Common.{◌≡◌, ◌+◌, ◌-◌, ◌*◌, ◌≤◌, false, List, [], ◌∷◌, length}
use Rattle.tree.specs.Places.{Bytes}
use Rattle.reader.specs.Passing.{Named, from}
use Rattle.reader.specs.Verdict.{Open, opened}
use Rattle.reader.proofs.reader.Reader.+read_body_read_node.Given as goal

abbrev pub decreases-read_body : goal.decreases-read_body
decreases-read_body l = 2 * (l.self.now.blob.layout.end - l.start) + 1

abbrev pub decreases-read_node : goal.decreases-read_node
decreases-read_node l = 2 * (l.self.now.blob.layout.end - l.at)

abbrev pub invariant-read_body-loop-step : goal.invariant-read_body-loop-step
invariant-read_body-loop-step l =
    (l.start ≤ l.p) × (l.p ≤ l.initial.self.blob.layout.end) × (l.self.blob ≡ l.initial.self.blob) × (l.base ≡ length l.initial.self.seen.at.items)
    × ((ns : List Bytes) × Named l.initial.self.blob.bytes.now l.base l.initial.self.seen.at.items l.self.seen.at.items ns
    × ((gs : List Open) → from l.initial.self (opened l.path false [] ∷ gs) l.start ≡ from l.self (opened l.path l.children ns ∷ gs) l.p))

abbrev pub decreases-read_body-loop-step : goal.decreases-read_body-loop-step
decreases-read_body-loop-step l = l.initial.self.blob.layout.end - l.p
