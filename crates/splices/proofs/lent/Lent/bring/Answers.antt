use Rattle.std.proofs.Common.{refl}
use Rattle.splices.proofs.Gap.{brought}
use Rattle.splices.proofs.lent.Lent.bring.Goals as goal

pub returns-clause-items : goal.returns-clause-items
returns-clause-items g c = brought c.args.self.now.items.now c.rotate_right.new.self c.args.self.now.used c.args.at c.args.n _ c.requires.order c.requires.room refl c.rotate_right.ensures.after
