use Rattle.names.specs.Names.{property_name}
use Rattle.names.proofs.names.is_property_name.Goals as goal

pub returns : goal.returns
unfolding property_name
returns c = c.is_word.ensures
