use Rattle.std.proofs.Common.{rules}
use Rattle.tape.proofs.search.open_named.Goals as goal

pub returns : goal.returns
returns g c = c.open_named_with.ensures c.args.named (λ r p. search rules)
