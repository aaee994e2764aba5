use Rattle.std.proofs.Common.{ap, ◌∙◌, take}
use Rattle.splices.proofs.Gap.{written-within}
use Rattle.splices.proofs.lent.Lent.overwrite.Goals as goal

pub returns-clause-items : goal.returns-clause-items
returns-clause-items g c =
    ap (take c.args.self.now.used) c.put.ensures ∙ written-within c.args.self.now.items.now c.args.new.now c.args.self.now.used c.args.at c.requires.order c.args.self.now.within
