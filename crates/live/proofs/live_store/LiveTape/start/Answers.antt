use Rattle.std.proofs.Common.{refl}
use Rattle.live.specs.Records.{cells_of, bytes_of}
use Rattle.live.proofs.live_store.LiveTape.start.Goals as goal

pub returns : goal.returns
unfolding cells_of bytes_of
returns c = refl
