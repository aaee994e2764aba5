use Rattle.std.proofs.Common.{◌∙◌}
use Rattle.names.proofs.Bytes.{property_class}
use Rattle.names.proofs.classes.is_property_byte.Goals as goal

pub returns : goal.returns
returns c = c.ne.ensures ∙ property_class _ _ c.class_of.ensures
