-- The classes of bytes. Assumes nothing.
use Rattle.std.proofs.Common.{◌≡◌, ℕ, ◌<◌, Bool, true, false, cond, not, ◌||◌, List, length, get_or, refl, ap, ◌∙◌}
use denote.Enum.Bare.{sameb, same_true}
use Rattle.names.specs.contracts.classes.Class.{the_type}
use Rattle.names.specs.declared.classes.Class.{Class}
use Rattle.names.specs.declared.classes.Class.TheVariants.{Neither, Property, Both}
use Rattle.names.specs.Classes.{class_of}
use Rattle.names.specs.Names.{node_byte, property_byte}
use Rattle.names.proofs.Table.{follows, entry}

abbrev pub same_class : Class → Class → Bool
same_class = sameb the_type

pub class_entry : (xs : List Class) (k : ℕ) (d : Class) → follows same_class class_of 0 xs ≡ true → length xs ≡ 256 → k < 256 → get_or xs k d ≡ class_of k
class_entry xs k d = entry same_class class_of (same_true the_type tt) d 256 xs k

-- a class says in which names
abbrev in_nodes : Class → Bool
in_nodes k = same_class k Both

abbrev in_properties : Class → Bool
in_properties k = not (same_class k Neither)

in-nodes : (p q : Bool) → in_nodes (cond p Both (cond q Property Neither)) ≡ p
in-nodes true q = refl
in-nodes false true = refl
in-nodes false false = refl

in-properties : (p o : Bool) → in_properties (cond p Both (cond (p || o) Property Neither)) ≡ (p || o)
in-properties true o = refl
in-properties false true = refl
in-properties false false = refl

pub node_class : (b : ℕ) (k : Class) → k ≡ class_of b → in_nodes k ≡ node_byte b
unfolding class_of
node_class b k e = ap in_nodes e ∙ in-nodes (node_byte b) (property_byte b)

pub property_class : (b : ℕ) (k : Class) → k ≡ class_of b → in_properties k ≡ property_byte b
unfolding class_of property_byte
property_class b k e = ap in_properties e ∙ in-properties (node_byte b) _
