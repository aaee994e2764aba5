use Rattle.overlay_rules.proofs.Touching.{asks_what_it_reads}
use Rattle.overlay_rules.proofs.asks_what_it_reads.Goals as goal

pub returns : goal.returns
returns c = asks_what_it_reads
