use Rattle.std.proofs.Common.{rules, ap, ◌∙◌, arith}
use Rattle.blob.specs.Tokens.{bytes_of}
use Rattle.blob.proofs.Steps.{text-none, text-first, text-open}
use Rattle.blob.proofs.text.text_at.Goals as goal

pub returns-in_err-part-clause-value : goal.returns-in_err-part-clause-value
returns-in_err-part-clause-value c = let h = c.in_err-part.ensures.lookup in ap bytes_of c.from_residual.ensures ∙ text-none _ _ _ (omega (arith, h))

pub returns-then-n-part-clause-value : goal.returns-then-n-part-clause-value
returns-then-n-part-clause-value c =
    text-first c.args.bytes.now c.in_ok-part.part.now c.args.from c.args.to c.find-n.result (search rules) c.find-n.ensures.value c.if-n-part.true

pub returns-else-n-part-clause-value : goal.returns-else-n-part-clause-value
returns-else-n-part-clause-value c =
    text-open c.args.bytes.now c.in_ok-part.part.now c.args.from c.args.to c.find-n.result (search rules) c.find-n.ensures.value c.if-n-part.false
