use Rattle.ledger.proofs.Logging.{log_laws}
use Rattle.ledger.proofs.log_tells_lines.Goals as goal

pub returns : goal.returns
returns c = log_laws
