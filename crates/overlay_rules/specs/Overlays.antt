-- An overlay, read off the located entries of its blob. Assumes nothing.
use Rattle.std.specs.Prelude.{ℕ, zero, suc, ◌/◌, Bool, cond, not, ◌&&◌, ◌||◌, List, [], ◌∷◌, ◌++◌, map, length, drop, is_some, Some, None, codes, Option}
use Rattle.std.specs.Str.{bytes_eq}
use Rattle.names.specs.Paths.{root, parent}
use Rattle.tree.specs.Entries.{Entry, same_place, some}
use Rattle.tree.specs.Numbers.{be32}
use Rattle.tree.specs.Places.{Bytes, Place, node_at, property_at}
use Rattle.overlay_rules.specs.Texts.{pick, joined, zero_ended, split, decimal, behind}

-- ---- places of an overlay

abbrev pub symbols_path : Bytes
symbols_path = codes "/__symbols__"

abbrev pub fixups_path : Bytes
fixups_path = codes "/__fixups__"

abbrev pub locals_path : Bytes
locals_path = codes "/__local_fixups__"

-- the property by which a node is referred to
abbrev pub phandle_at : Bytes → Place
phandle_at p = property_at p (codes "phandle")

abbrev pub target_at : Bytes → Place
target_at p = property_at p (codes "target")

abbrev pub target_path_at : Bytes → Place
target_path_at p = property_at p (codes "target-path")

abbrev pub special : Bytes → Bool
special p = bytes_eq p symbols_path || (bytes_eq p fixups_path || bytes_eq p locals_path)

-- a fragment's body is its child `__overlay__`, and all below
abbrev pub body_path : Bytes → Bytes
body_path p = p ++ codes "/__overlay__"

-- the value at a place, if it is listed
unfoldable pub value_at : List Entry → Place → Option Bytes
value_at [] k = None
value_at (e ∷ es) k = cond (same_place e.place k) (Some e.value) (value_at es k)

abbrev pub is_listed : List Entry → Place → Bool
is_listed es k = is_some (value_at es k)

-- a root child with a child `__overlay__`, and none of the special three
abbrev pub is_fragment_path : List Entry → Bytes → Bool
is_fragment_path es p =
    not (bytes_eq p root) && (bytes_eq (parent p) root && (not (special p) && is_listed es (node_at (body_path p))))

abbrev pub fragment_of : List Entry → Entry → Place → Option Entry
fragment_of es e (p, None) = cond (is_fragment_path es p) (Some e) None
fragment_of es e (p, Some n) = None

-- the nodes of the fragments, in blob order
unfoldable pub fragment_nodes : List Entry → List Entry
fragment_nodes es = pick (λ e. fragment_of es e e.place) es

-- in some fragment's body
abbrev pub in_body : List Entry → Bytes → Bool
in_body fs q = some (λ f. is_some (behind (body_path f.place.0) q)) fs

-- the entries of all bodies: nodes and properties
unfoldable pub body_entries : List Entry → List Entry
body_entries es =
    let fs = fragment_nodes es in
    pick (λ e. cond (in_body fs e.place.0) (Some e) None) es

-- ---- cells that are filled or raised

-- four bytes of a property, as a fixup names them
pub record Spot : Type 0 where
  pub path : Bytes
  pub name : Bytes
  pub offset : ℕ

abbrev pub spot_at : Bytes → Bytes → Option ℕ → Option Spot
spot_at p n None = None
spot_at p n (Some o) = Some (record { path = p; name = n; offset = o })

-- `path:property:offset`
abbrev pub spot_of : List Bytes → Option Spot
spot_of [] = None
spot_of (p ∷ []) = None
spot_of (p ∷ (n ∷ [])) = None
spot_of (p ∷ (n ∷ (o ∷ []))) = spot_at p n (decimal o)
spot_of (p ∷ (n ∷ (o ∷ (x ∷ xs)))) = None

-- the strings of a value, each with its zero byte; none where it has none, or does not end with one
abbrev pub strings_in : Option Bytes → List Bytes
strings_in None = []
strings_in (Some s) = split 0 [] s

unfoldable pub strings : Bytes → List Bytes
strings v = strings_in (zero_ended v)

-- the cells that a fixup names
unfoldable pub spots : Bytes → List Spot
spots v = pick (λ s. spot_of (split 58 [] s)) (strings v)

-- 32-bit numbers, one after the other
unfoldable pub numbers_from : ℕ → Bytes → List ℕ
numbers_from zero v = []
numbers_from (suc n) v = be32 v 0 ∷ numbers_from n (drop 4 v)

abbrev pub numbers : Bytes → List ℕ
numbers v = numbers_from (length v / 4) v

-- the cells that a local fixup names, whose path below `__local_fixups__` is r
abbrev pub local_spots : Bytes → Bytes → Bytes → List Spot
local_spots r n v = map (λ o. record { path = r; name = n; offset = o }) (numbers v)

-- a label of `__fixups__`: its property's token, its name, and its cells
pub record Label : Type 0 where
  pub at : ℕ
  pub name : Bytes
  pub spots : List Spot

abbrev pub label_of : Entry → Place → Option Label
label_of e (p, None) = None
label_of e (p, Some n) = cond (bytes_eq p fixups_path) (Some (record { at = e.at; name = n; spots = spots e.value })) None

unfoldable pub labels_of : List Entry → List Label
labels_of es = pick (λ e. label_of e e.place) es

-- the cells of a property below `__local_fixups__`
abbrev pub locals_behind : Bytes → Bytes → Option Bytes → List Spot
locals_behind n v None = []
locals_behind n v (Some r) = local_spots r n v

abbrev pub locals_of : Entry → Place → List Spot
locals_of e (p, None) = []
locals_of e (p, Some n) = locals_behind n e.value (behind locals_path p)

-- a cell takes a label's phandle, or is raised
pub record Cell : Type 0 where
  pub offset : ℕ
  pub label : Option Bytes

abbrev pub cell_for : Bytes → Bytes → Option Bytes → Spot → Option Cell
cell_for p n l s = cond (bytes_eq s.path p && bytes_eq s.name n) (Some (record { offset = s.offset; label = l })) None

-- the cells of a property
unfoldable pub cells_of : List Entry → Bytes → Bytes → List Cell
cells_of es p n =
    joined (map (λ l. pick (cell_for p n (Some l.name)) l.spots) (labels_of es))
    ++ joined (map (λ e. pick (cell_for p n None) (locals_of e e.place)) es)

-- ---- the overlay

pub data Target : Type 0 where
  by_path : Bytes → Target
  by_number : ℕ → Target
  by_label : Bytes → Target

pub record Fragment : Type 0 where
  pub at : ℕ
  -- the path of `__overlay__`
  pub body : Bytes
  pub target : Target

-- a node or a property of a body, with the cells of its value
pub record Item : Type 0 where
  pub at : ℕ
  pub place : Place
  pub value : Bytes
  pub cells : List Cell

-- a label for a body node, by the path that it has in the overlay
pub record Symbol : Type 0 where
  pub at : ℕ
  pub label : Bytes
  pub path : Bytes

pub record Overlay : Type 0 where
  pub labels : List Label
  pub fragments : List Fragment
  pub items : List Item
  pub symbols : List Symbol

-- a number that a fixup fills goes by the label
abbrev pub numbered : Bytes → List Cell → Target
numbered v [] = by_number (be32 v 0)
numbered v (c ∷ cs) = elim c.label [ None ↦ by_number (be32 v 0) | Some l ↦ by_label l ]

abbrev pub path_in : Option Bytes → Target
path_in None = by_number 0
path_in (Some p) = by_path p

abbrev pub target_by : List Cell → Option Bytes → Option Bytes → Target
target_by cs (Some v) w = numbered v cs
target_by cs None (Some w) = path_in (zero_ended w)
target_by cs None None = by_number 0

unfoldable pub target_of : List Entry → Bytes → Target
target_of es p = target_by (cells_of es p (codes "target")) (value_at es (target_at p)) (value_at es (target_path_at p))

abbrev pub cells_at : List Entry → Place → List Cell
cells_at es (p, None) = []
cells_at es (p, Some n) = cells_of es p n

abbrev pub symbol_by : ℕ → Bytes → Option Bytes → Option Symbol
symbol_by at n None = None
symbol_by at n (Some p) = Some (record { at = at; label = n; path = p })

abbrev pub symbol_of : Entry → Place → Option Symbol
symbol_of e (p, None) = None
symbol_of e (p, Some n) = cond (bytes_eq p symbols_path) (symbol_by e.at n (zero_ended e.value)) None

unfoldable pub overlay_of : List Entry → Overlay
overlay_of es = record {
  labels = labels_of es;
  fragments = map (λ f. record { at = f.at; body = body_path f.place.0; target = target_of es f.place.0 }) (fragment_nodes es);
  items = map (λ e. record { at = e.at; place = e.place; value = e.value; cells = cells_at es e.place }) (body_entries es);
  symbols = pick (λ e. symbol_of e e.place) es;
}
