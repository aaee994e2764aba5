use Rattle.std.proofs.Common.{◌+◌, length, ap, ◌∙◌, arith}
use Rattle.tree.specs.Numbers.{be32, pad4}
use Rattle.packed.proofs.Places.{at_mark, behind-is}
use Rattle.packed.proofs.reading.View.behind.Goals as goal

pub overflow_add-m : goal.overflow_add-m
overflow_add-m c = let f = at_mark c.args.self.now c.args.m c.requires in omega arith

pub be32_at-n-requires : goal.be32_at-n-requires
be32_at-n-requires c = let f = at_mark c.args.self.now c.args.m c.requires in omega (arith, ap length c.as_bytes-bytes.ensures)

pub overflow_add-result : goal.overflow_add-result
overflow_add-result c = let f = at_mark c.args.self.now c.args.m c.requires in omega arith

pub overflow_add-result-2 : goal.overflow_add-result-2
overflow_add-result-2 c = let f = at_mark c.args.self.now c.args.m c.requires in omega arith

pub overflow_add-result-3 : goal.overflow_add-result-3
overflow_add-result-3 c = let f = at_mark c.args.self.now c.args.m c.requires in omega (arith, c.rounded4.ensures, ap pad4 (c.be32_at-n.ensures ∙ ap (λ z. be32 z (c.args.m.at + 4)) c.as_bytes-bytes.ensures ∙ f.size))

pub returns : goal.returns
returns c = behind-is c.args.self.now c.args.m c.requires c.be32_at-n.result c.rounded4.result (c.be32_at-n.ensures ∙ ap (λ z. be32 z (c.args.m.at + 4)) c.as_bytes-bytes.ensures) c.rounded4.ensures
