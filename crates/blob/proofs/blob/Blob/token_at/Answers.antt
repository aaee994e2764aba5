use Rattle.std.proofs.Common.{arith}
use Rattle.std.proofs.lemmas.Bool.Decides.{nat_tests}
use Rattle.blob.specs.Tokens.{token_at}
use Rattle.blob.proofs.Steps.{step-bounds}
use Rattle.blob.proofs.blob.Blob.token_at.Goals as goal

pub returns-in-Begin-clause-bounds : goal.returns-in-Begin-clause-bounds
unfolding token_at
returns-in-Begin-clause-bounds c = step-bounds c.args.self.now.bytes.now c.args.self.now.layout c.args.p _ (grind (arith, nat_tests))

pub returns-in-Property-clause-bounds : goal.returns-in-Property-clause-bounds
unfolding token_at
returns-in-Property-clause-bounds c = step-bounds c.args.self.now.bytes.now c.args.self.now.layout c.args.p _ (grind (arith, nat_tests))
