use Rattle.std.proofs.Common.{refl}
use Rattle.splices.proofs.Gap.{closed}
use Rattle.splices.proofs.lent.Lent.remove.Goals as goal

pub returns-clause-items : goal.returns-clause-items
returns-clause-items g c = closed c.args.self.now.items.now c.rotate_left.new.self c.args.self.now.used c.args.at c.args.n _ c.requires.order c.args.self.now.within refl c.rotate_left.ensures.after
