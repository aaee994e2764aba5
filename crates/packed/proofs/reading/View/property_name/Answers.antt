use Rattle.std.proofs.Common.{◌+◌, length, ap, ◌∙◌, arith, rules}
use Rattle.tree.specs.Numbers.{be32}
use Rattle.blob.specs.Tokens.{text_at}
use Rattle.packed.proofs.Places.{at_mark, string-is}
use Rattle.packed.proofs.reading.View.property_name.Goals as goal

pub overflow_add-strings : goal.overflow_add-strings
overflow_add-strings c = let f = at_mark c.args.self.now c.args.m c.requires in omega arith

pub overflow_add-m : goal.overflow_add-m
overflow_add-m c = let f = at_mark c.args.self.now c.args.m c.requires in omega arith

pub be32_at-requires : goal.be32_at-requires
be32_at-requires c = let f = at_mark c.args.self.now c.args.m c.requires in omega (arith, ap length c.as_bytes-bytes.ensures)

pub overflow_add-from : goal.overflow_add-from
overflow_add-from c = let f = at_mark c.args.self.now c.args.m c.requires in omega (arith, c.be32_at.ensures, ap (λ z. be32 z (c.args.m.at + 8)) c.as_bytes-bytes.ensures)

pub overflow_add-end : goal.overflow_add-end
overflow_add-end c = let f = at_mark c.args.self.now c.args.m c.requires in omega arith

pub text_at-requires : goal.text_at-requires
text_at-requires c = let f = at_mark c.args.self.now c.args.m c.requires in omega (arith, ap length c.as_bytes-bytes.ensures)

pub unwrap-requires : goal.unwrap-requires
unwrap-requires c = let t = c.text_at.ensures.value ∙ ap (λ z. text_at z (56 + c.args.self.now.region.now.structure + c.be32_at.result) (56 + c.args.self.now.region.now.structure + c.args.self.now.region.now.strings)) c.as_bytes-bytes.ensures ∙ string-is c.args.self.now c.args.m c.requires c.be32_at.result (c.be32_at.ensures ∙ ap (λ z. be32 z (c.args.m.at + 8)) c.as_bytes-bytes.ensures) in search rules

pub returns : goal.returns
returns c = let t = c.text_at.ensures.value ∙ ap (λ z. text_at z (56 + c.args.self.now.region.now.structure + c.be32_at.result) (56 + c.args.self.now.region.now.structure + c.args.self.now.region.now.strings)) c.as_bytes-bytes.ensures ∙ string-is c.args.self.now c.args.m c.requires c.be32_at.result (c.be32_at.ensures ∙ ap (λ z. be32 z (c.args.m.at + 8)) c.as_bytes-bytes.ensures) in search rules
