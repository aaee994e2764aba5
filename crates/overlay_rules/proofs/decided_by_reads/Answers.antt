use Rattle.overlay_rules.proofs.Touching.{decided_by-reads}
use Rattle.overlay_rules.proofs.decided_by_reads.Goals as goal

pub returns : goal.returns
returns c = decided_by-reads
