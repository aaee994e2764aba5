use Rattle.std.proofs.Common.{◌+◌, length, ap, ◌∙◌, arith, rules}
use Rattle.blob.specs.Tokens.{text_at}
use Rattle.packed.proofs.Places.{at_spot, name-is}
use Rattle.packed.proofs.reading.View.name.Goals as goal

pub overflow_add-from : goal.overflow_add-from
overflow_add-from c = let f = at_spot c.args.self.now c.args.s c.requires in omega (arith, c.begin-b.ensures.at)

pub overflow_add-to : goal.overflow_add-to
overflow_add-to c = let f = at_spot c.args.self.now c.args.s c.requires in omega arith

pub text_at-requires : goal.text_at-requires
text_at-requires c = let f = (at_spot c.args.self.now c.args.s c.requires).held in omega (arith, ap length c.as_bytes-bytes.ensures)

pub unwrap-requires : goal.unwrap-requires
unwrap-requires c = let t = c.text_at.ensures.value ∙ ap (λ z. text_at z (c.begin-b.result.at + 4) (56 + c.args.self.now.region.now.structure)) c.as_bytes-bytes.ensures ∙ name-is c.args.self.now c.args.s c.requires c.begin-b.result.at c.begin-b.ensures.at in search rules

pub returns : goal.returns
returns c = let t = c.text_at.ensures.value ∙ ap (λ z. text_at z (c.begin-b.result.at + 4) (56 + c.args.self.now.region.now.structure)) c.as_bytes-bytes.ensures ∙ name-is c.args.self.now c.args.s c.requires c.begin-b.result.at c.begin-b.ensures.at in search rules
