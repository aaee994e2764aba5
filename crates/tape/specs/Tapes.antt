-- Spots on a tape of nodes, and what is read there. Assumes nothing.
use Rattle.std.specs.Prelude.{◌≡◌, ℕ, ◌+◌, ◌<◌, Bool, true, false, not, ◌&&◌, ◌||◌, ◌⊎◌, List, [], ◌∷◌, ◌++◌, length, take, drop, Some, None, Ok, Err, Option, Result, ◌==◌, nat_le, slice_index_or, slice_set}
use Rattle.std.specs.Borrow.{Bor}
use Rattle.names.specs.Paths.{path_text, stem}
use Rattle.store.specs.declared.Refusal.{Refusal}
use Rattle.store.specs.declared.Refusal.TheVariants.{BadName, Closed}
use Rattle.tree.specs.Counting.{node_weight, property_weight}
use Rattle.tree.specs.Places.{Bytes}
use Rattle.tree.specs.declared.counts.Counts.{Counts}
use Rattle.tape.specs.declared.Head.{Head}
use Rattle.tape.specs.declared.Mark.{Mark}
use Rattle.tape.specs.declared.Spot.{Spot}
use Rattle.tape.specs.Nodes.{Node, Property, ended, Missing, property_in}

abbrev pub nowhere : Node
nowhere = record { depth = 0; name = []; properties = [] }

-- the node at an index, and its properties
abbrev pub nth : List Node → ℕ → Node
nth ns i = slice_index_or ns i nowhere

abbrev pub properties_at : List Node → ℕ → List Property
properties_at ns i = (nth ns i).properties

abbrev pub property_of : List Node → ℕ → ℕ → Property
property_of ns i k = slice_index_or (properties_at ns i) k ([], [])

-- the path of the node at an index, the root's being empty
abbrev pub stem_at : List Node → ℕ → Bytes
stem_at ns i = ended [] (take (i + 1) ns)

-- a spot is a node's
pub record Here (ns : List Node) (spot : ℕ → Spot) (s : Spot) : Type 0 where
  pub inside : s.node < length ns
  pub is : s ≡ spot s.node

-- a mark is a property's
pub record On (ns : List Node) (mark : ℕ → ℕ → Mark) (m : Mark) : Type 0 where
  pub inside : m.node < length ns
  pub within : m.number < length (properties_at ns m.node)
  pub is : m ≡ mark m.node m.number

-- what is read at a node's spot
pub record Reads (ns : List Node) (spot : ℕ → Spot) (mark : ℕ → ℕ → Mark) (s : Spot) (h : Head) : Type 0 where
  pub depth : h.depth ≡ (nth ns s.node).depth
  pub properties : h.properties ≡ length (properties_at ns s.node)
  pub first : h.first ≡ mark s.node 0
  pub next : h.next ≡ spot (s.node + 1)

-- what is so many places behind the one at i
abbrev pub placed : {S : Type 0} → (ℕ → S) → ℕ → Option ℕ → Option S
placed spot i None = None
placed spot i (Some k) = Some (spot (i + k))

-- a search for the node at a path: its spot, or none where no node has it
abbrev pub Located : List Node → (ℕ → Spot) → Bytes → Option Spot → Type 0
Located ns spot b None = Missing b [] ns
Located ns spot b (Some s) = Here ns spot s × (stem_at ns s.node ≡ b)

-- a search among the properties of the node at an index: the mark of the one so named, or none where no one is
abbrev pub Owned : List Node → (ℕ → ℕ → Mark) → ℕ → Bytes → Option Mark → Type 0
Owned ns mark i c None = property_in c (properties_at ns i) ≡ None
Owned ns mark i c (Some m) = On ns mark m × (m.node ≡ i) × (property_in c (properties_at ns i) ≡ Some m.number)

-- ---- how a call begins

-- the tape is closed, or a path or another name breaks its rule
abbrev pub Refused : List Node → Bytes → Bool → Refusal → Type 0
Refused ns p named e =
    ((length ns ≡ 0) × (e ≡ Closed)) ⊎ ((0 < length ns) × ((path_text p && named) ≡ false) × (e ≡ BadName))

-- the tape is open, the names are by their rules, and the node at the path was searched for
pub record Entered (ns : List Node) (spot : ℕ → Spot) (p : Bytes) (b : Bool) (o : Option Spot) : Type 0 where
  pub opened : 0 < length ns
  pub path : path_text p ≡ true
  pub named : b ≡ true
  pub at : Located ns spot (stem p) o

abbrev pub Opened : List Node → (ℕ → Spot) → Bytes → Bool → Result (Option Spot) Refusal → Type 0
Opened ns spot p named (Err e) = Refused ns p named e
Opened ns spot p named (Ok o) = Entered ns spot p named o

-- ---- what nodes count

unfoldable pub properties_weight : List Property → ℕ
properties_weight [] = 0
properties_weight (x ∷ xs) = property_weight (length x.0) (length x.1) + properties_weight xs

unfoldable pub weight_of : List Node → ℕ
weight_of [] = 0
weight_of (n ∷ ns) = node_weight (length n.name) + properties_weight n.properties + weight_of ns

unfoldable pub properties_of : List Node → ℕ
properties_of [] = 0
properties_of (n ∷ ns) = length n.properties + properties_of ns

pub record Counted (ns : List Node) (c : Counts) : Type 0 where
  pub nodes : c.nodes ≡ length ns
  pub properties : c.properties ≡ properties_of ns
  pub weight : c.weight ≡ weight_of ns

-- ---- what splices leave

abbrev pub bare_node : ℕ → Bytes → Node
bare_node depth name = record { depth = depth; name = name; properties = [] }

abbrev pub with_node : List Node → ℕ → Node → List Node
with_node ns i n = take i ns ++ (n ∷ drop i ns)

abbrev pub less_node : List Node → ℕ → List Node
less_node ns i = take i ns ++ drop (i + 1) ns

-- other properties at a node
abbrev pub with_properties : List Node → ℕ → List Property → List Node
with_properties ns i xs = slice_set ns i (record { depth = (nth ns i).depth; name = (nth ns i).name; properties = xs })

abbrev pub less_property : List Property → ℕ → List Property
less_property xs k = take k xs ++ drop (k + 1) xs

-- ---- what a node's neighbours say of it

-- the node that comes first is not below depth d
abbrev pub aside : ℕ → List Node → Bool
aside d [] = true
aside d (n ∷ ns) = nat_le n.depth d

-- the node at an index has properties or children
abbrev pub busy : List Node → ℕ → Bool
busy ns i = not (length (properties_at ns i) == 0) || not (aside (nth ns i).depth (drop (i + 1) ns))

-- ---- what a question is answered with

-- a part of the tape, as its bytes
abbrev pub shown : Result (Option (Bor Bytes)) Refusal → Result (Option Bytes) Refusal
shown (Err e) = Err e
shown (Ok None) = Ok None
shown (Ok (Some v)) = Ok (Some v.now)
