use Rattle.std.proofs.Common.{◌≡◌, length, take}
use Rattle.walk.proofs.Climbs.{Standing}
use Rattle.walk.proofs.walk.child_behind.Given as goal

abbrev pub invariant-loop-n : goal.invariant-loop-n
invariant-loop-n g l = record { stands : Standing (g.R.Readable.meaning l.tree) l.path l.open l.after; front : take (length l.open) l.path ≡ l.open }

abbrev pub decreases-loop-n : goal.decreases-loop-n
decreases-loop-n g l = length l.open
