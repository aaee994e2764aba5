use Rattle.live.proofs.Kept.{counts_are}
use Rattle.live.proofs.Whole.{whole}
use Rattle.live.proofs.live_store.LiveTape.counts.Goals as goal

pub returns : goal.returns
returns c = counts_are c.args.self.now.memory (whole c.args.self.now)
