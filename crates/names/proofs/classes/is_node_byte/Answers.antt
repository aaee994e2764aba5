use Rattle.std.proofs.Common.{◌∙◌}
use Rattle.names.proofs.Bytes.{node_class}
use Rattle.names.proofs.classes.is_node_byte.Goals as goal

pub returns : goal.returns
returns c = c.eq.ensures ∙ node_class _ _ c.class_of.ensures
