use Rattle.std.proofs.Common.{sym, ◌∙◌, ⊎_elim, arith}
use Rattle.names.proofs.Walks.{by_byte, by_length}
use Rattle.names.proofs.paths.compare_paths.Goals as goal
use Rattle.std.specs.Ordering.{nat_cmp}

pub returns-then-n-b : goal.returns-then-n-b
returns-then-n-b c =
    c.cmp.ensures
    ∙ (λ i. nat_cmp (c.ranked.ensures i) (c.ranked-then-n-b.ensures i))
    ∙ sym (by_byte _ _ _ c.shared-n.ensures c.if-n-a.true c.if-n-b.true)

pub returns-else-n-a : goal.returns-else-n-a
returns-else-n-a c =
    c.cmp-else-n-a.ensures
    ∙ sym
    (by_length c.args.a.now c.args.b.now c.shared-n.result c.shared-n.ensures
    (λ l. ⊎_elim (λ w. w.1) (λ w. absurd (omega arith)) c.else-n-a.either))
