use Rattle.std.proofs.Common.{rules}
use Rattle.names.specs.Classes.{class_of}
use Rattle.names.specs.Names.{property_byte, node_byte}
use Rattle.names.proofs.Bytes.{class_entry}
use Rattle.names.proofs.classes.class_of.Goals as goal

pub returns : goal.returns
unfolding class_of property_byte node_byte
returns c = search (rules, class_entry)
