-- The class of a byte: the names in which it may stand. Assumes nothing.
use Rattle.std.specs.Prelude.{ℕ, cond}
use Rattle.names.specs.declared.classes.Class.{Class}
use Rattle.names.specs.declared.classes.Class.TheVariants.{Neither, Property, Both}
use Rattle.names.specs.Names.{node_byte, property_byte}

-- in names of both kinds, in those of properties alone, or in none
unfoldable pub class_of : ℕ → Class
class_of b = cond (node_byte b) Both (cond (property_byte b) Property Neither)
