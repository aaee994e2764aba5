use Rattle.std.proofs.Common.{◌≡◌, ◌+◌, ◌*◌, ◌==◌, drop}
use Rattle.std.specs.List.{position_or_len}
use Rattle.names.proofs.names.find.Given as goal

abbrev pub invariant-loop-i : goal.invariant-loop-i
invariant-loop-i l =
    position_or_len (λ x. x == l.b) l.s ≡ 8 * l.i + position_or_len (λ x. x == l.b) (drop (8 * l.i) l.s)
