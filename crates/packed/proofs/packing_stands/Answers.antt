use Rattle.packed.proofs.Tokens.{token_laws}
use Rattle.packed.proofs.Nodes.{node_laws}
use Rattle.packed.proofs.packing_stands.Goals as goal

pub returns : goal.returns
returns c = record { tokens = token_laws; nodes = node_laws }
