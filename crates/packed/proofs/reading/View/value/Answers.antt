use Rattle.std.proofs.Common.{◌+◌, ◌≤◌, length, ap, ◌∙◌, arith, rules}
use Rattle.std.specs.List.{between}
use Rattle.tree.specs.Numbers.{be32}
use Rattle.packed.proofs.Places.{at_mark, value-is}
use Rattle.packed.proofs.reading.View.value.Goals as goal

pub overflow_add-from : goal.overflow_add-from
overflow_add-from c = let f = at_mark c.args.self.now c.args.m c.requires in omega arith

pub overflow_add-m : goal.overflow_add-m
overflow_add-m c = let f = at_mark c.args.self.now c.args.m c.requires in omega arith

pub be32_at-requires : goal.be32_at-requires
be32_at-requires c = let f = at_mark c.args.self.now c.args.m c.requires in omega (arith, ap length c.as_bytes-bytes.ensures)

pub overflow_add-to : goal.overflow_add-to
overflow_add-to c = let f = at_mark c.args.self.now c.args.m c.requires in omega (arith, c.be32_at.ensures, ap (λ z. be32 z (c.args.m.at + 4)) c.as_bytes-bytes.ensures, ap length c.as_bytes-bytes.ensures)

pub slice_bounds-result-end : goal.slice_bounds-result-end
slice_bounds-result-end c =
    let f = at_mark c.args.self.now c.args.m c.requires in
    let q : c.args.m.at + 12 + c.be32_at.result ≤ length c.as_bytes-bytes.result.now = omega (arith, c.be32_at.ensures, ap (λ z. be32 z (c.args.m.at + 4)) c.as_bytes-bytes.ensures, ap length c.as_bytes-bytes.ensures) in
    search rules

pub returns : goal.returns
returns c =
    ap (between (c.args.m.at + 12) (c.args.m.at + 12 + c.be32_at.result)) c.as_bytes-bytes.ensures ∙ value-is c.args.self.now c.args.m c.requires c.be32_at.result (c.be32_at.ensures ∙ ap (λ z. be32 z (c.args.m.at + 4)) c.as_bytes-bytes.ensures)
