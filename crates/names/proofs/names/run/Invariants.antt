use Rattle.std.proofs.Common.{◌≡◌, ◌+◌, ◌*◌, not, drop}
use Rattle.std.specs.List.{position_or_len}
use Rattle.names.proofs.names.run.Given as goal

abbrev pub invariant-loop-i : goal.invariant-loop-i
invariant-loop-i g l =
    position_or_len (λ x. not (g.A.Alphabet.holds x)) l.s ≡ 4 * l.i + position_or_len (λ x. not (g.A.Alphabet.holds x)) (drop (4 * l.i) l.s)
