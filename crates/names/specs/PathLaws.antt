-- Laws of names, paths and their order. Each is demanded by the contract of `paths::path_laws_stand`. Assumes nothing.
use Rattle.std.specs.Prelude.{◌≡◌, ℕ, ◌+◌, ◌<◌, ◌≤◌, Bool, true, ◌&&◌, List, [], ◌∷◌, ◌++◌, length, ◌==◌, ◌≢◌}
use Rattle.std.specs.declared.cmp.Ordering.TheVariants.{Less, Equal}
use Rattle.std.specs.declared.cmp.Ordering.{Ordering}
use Rattle.std.specs.Ordering.{ordering_reverse}
use Rattle.names.specs.Names.{node_name, property_name}
use Rattle.names.specs.Orders.{name_order, path_order}
use Rattle.names.specs.Paths.{root, path_text, stem, child, under, plain, leaf, parent}

-- ---- names

-- a name has no slash, and 1 to 63 or 1 to 31 bytes
abbrev pub NodeNames : Type 0
NodeNames = (n : List ℕ) → node_name n ≡ true → (plain n ≡ true) × (1 ≤ length n) × (length n ≤ 63)

abbrev pub PropertyNames : Type 0
PropertyNames = (n : List ℕ) → property_name n ≡ true → (plain n ≡ true) × (1 ≤ length n) × (length n ≤ 31)

-- ---- a path and its last name

abbrev pub RootEnds : Type 0
RootEnds = (path_text root ≡ true) × (leaf root ≡ []) × (parent root ≡ root) × (stem root ≡ [])

-- a path has a byte, the first being a slash
abbrev pub PathStarts : Type 0
PathStarts = (p : List ℕ) → path_text p ≡ true → (rest : List ℕ) × (p ≡ 47 ∷ rest)

abbrev pub ChildLeaf : Type 0
ChildLeaf = (p n : List ℕ) → plain n ≡ true → leaf (child p n) ≡ n

abbrev pub ChildParent : Type 0
ChildParent = (p n : List ℕ) → 0 < length p → plain n ≡ true → parent (child p n) ≡ p

abbrev pub ChildOnly : Type 0
ChildOnly =
    (p q n m : List ℕ) →
    0 < length p →
    0 < length q →
    plain n ≡ true →
    plain m ≡ true →
    child p n ≡ child q m →
    (p ≡ q) × (n ≡ m)

-- the child of a path by a node's name is a path, and there are no others
abbrev pub ChildText : Type 0
ChildText =
    (p n : List ℕ) →
    0 < length p →
    0 < length n →
    plain n ≡ true →
    path_text (child p n) ≡ (path_text p && node_name n)

-- each path but the root is a child, of its parent by its last name
abbrev pub PathSplits : Type 0
PathSplits =
    (p : List ℕ) →
    path_text p ≡ true →
    (p ≢ root) →
    (child (parent p) (leaf p) ≡ p) × (path_text (parent p) ≡ true) × (node_name (leaf p) ≡ true)

abbrev pub ChildLength : Type 0
ChildLength = (p n : List ℕ) → length (child p n) ≡ length (stem p) + 1 + length n

-- a child is longer than its parent, and is not the root
abbrev pub ChildLonger : Type 0
ChildLonger = (p n : List ℕ) → 0 < length n → (length p < length (child p n)) × (1 < length (child p n))

-- ---- what is below a path

-- nothing, or what goes on with a slash
abbrev pub further : List ℕ → Bool
further [] = true
further (b ∷ bs) = b == 47

abbrev pub UnderNothing : Type 0
UnderNothing = (p : List ℕ) → under p [] ≡ p

abbrev pub UnderChild : Type 0
UnderChild = (p r n : List ℕ) → (r ≢ root) → under p (r ++ (47 ∷ n)) ≡ child (under p r) n

abbrev pub UnderText : Type 0
UnderText =
    (p r : List ℕ) →
    path_text p ≡ true →
    path_text r ≡ true →
    (r ≢ root) →
    path_text (under p r) ≡ true

abbrev pub UnderOnly : Type 0
UnderOnly =
    (p r s : List ℕ) →
    (r ≢ root) →
    (s ≢ root) →
    under p r ≡ under p s →
    r ≡ s

abbrev pub UnderLength : Type 0
UnderLength = (p r : List ℕ) → 0 < length r → length (under p r) ≡ length (stem p) + length r

-- ---- order

-- c is a strict order's comparison, that tells all lists apart
pub record Exactly (c : List ℕ → List ℕ → Ordering) : Type 0 where
  pub flip : (x y : List ℕ) → c x y ≡ ordering_reverse (c y x)
  pub trans : (x y z : List ℕ) → c x y ≡ Less → c y z ≡ Less → c x z ≡ Less
  pub exact : (x y : List ℕ) → c x y ≡ Equal → x ≡ y
  pub itself : (x : List ℕ) → c x x ≡ Equal

-- a node comes before its children
abbrev pub ChildAfter : Type 0
ChildAfter = (p n : List ℕ) → 0 < length n → path_order p (child p n) ≡ Less

-- and before all that is below it
abbrev pub LongerAfter : Type 0
LongerAfter = (p : List ℕ) (b : ℕ) (r : List ℕ) → path_order p (p ++ (b ∷ r)) ≡ Less

-- a shared front does not count
abbrev pub FrontShared : Type 0
FrontShared = (p r s : List ℕ) → path_order (p ++ r) (p ++ s) ≡ path_order r s

abbrev pub Siblings : Type 0
Siblings =
    (p n m : List ℕ) →
    plain n ≡ true →
    plain m ≡ true →
    path_order (child p n) (child p m) ≡ name_order n m

-- what is below two siblings is ordered as they are
abbrev pub SiblingsBelow : Type 0
SiblingsBelow =
    (p n m r s : List ℕ) →
    plain n ≡ true →
    plain m ≡ true →
    (n ≢ m) →
    further r ≡ true →
    further s ≡ true →
    path_order (child p n ++ r) (child p m ++ s) ≡ name_order n m

-- all of them
pub record PathLaws : Type 0 where
  pub node_names : NodeNames
  pub property_names : PropertyNames
  pub root_ends : RootEnds
  pub path_starts : PathStarts
  pub child_leaf : ChildLeaf
  pub child_parent : ChildParent
  pub child_only : ChildOnly
  pub child_text : ChildText
  pub path_splits : PathSplits
  pub child_length : ChildLength
  pub child_longer : ChildLonger
  pub under_nothing : UnderNothing
  pub under_child : UnderChild
  pub under_text : UnderText
  pub under_only : UnderOnly
  pub under_length : UnderLength
  pub name_order_lem : Exactly name_order
  pub path_order_lem : Exactly path_order
  pub child_after : ChildAfter
  pub longer_after : LongerAfter
  pub front_shared : FrontShared
  pub siblings : Siblings
  pub siblings_below : SiblingsBelow
