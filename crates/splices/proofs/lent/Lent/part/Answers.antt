use Rattle.std.proofs.Common.{arith}
use Rattle.splices.proofs.Gap.{part-is}
use Rattle.splices.proofs.lent.Lent.part.Goals as goal

pub returns : goal.returns
returns g c = part-is c.args.self.now.items.now c.args.self.now.used c.args.at c.args.n _ c.requires (omega arith)
