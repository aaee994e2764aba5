-- The plan of a merge at an offset, as questions to the tree before the merge, and the merge. Assumes nothing.
use Rattle.std.specs.Prelude.{ℕ, ◌+◌, min, max, Bool, true, false, cond, ◌||◌, ltb, List, [], ◌∷◌, ◌++◌, map, length, take, drop, Some, None, Option, nat_lt}
use Rattle.std.specs.Str.{bytes_eq}
use Rattle.names.specs.Paths.{under}
use Rattle.tree.specs.Entries.{Entry, listed, same_place, some}
use Rattle.tree.specs.Maps.{total}
use Rattle.tree.specs.Numbers.{be32, bytes32}
use Rattle.tree.specs.Phandles.{is_phandle, handles, holder_of}
use Rattle.tree.specs.Places.{Bytes, Place, node_at, property_at}
use Rattle.tree.specs.Trees.{Places, Tree, change, node_count, property_count, weigh}
use Rattle.overlay_rules.specs.Texts.{pick, joined, zero_ended, behind}
use Rattle.overlay_rules.specs.Overlays.{symbols_path, phandle_at, Cell, Label, Target, by_path, by_number, by_label, Fragment, Item, Symbol, Overlay}
use Rattle.overlay_rules.specs.Queries.{Query, done, ask, seek, ◌>>=◌, need, stop_at, for_each}

-- ---- labels: the tree's symbol is a path and a zero byte, and that node has a phandle

-- a label with the node that it names, and that node's phandle
pub record Known : Type 0 where
  pub name : Bytes
  pub path : Bytes
  pub number : ℕ

unfoldable pub labelled : Label → Query Known
labelled l = do
  w ← ask (property_at symbols_path l.name) done
  v ← need w 32 l.at
  p ← need (zero_ended v) 32 l.at
  u ← ask (node_at p) done
  n ← need u 32 l.at
  h ← ask (phandle_at p) done
  b ← need h 32 l.at
  done (record { name = l.name; path = p; number = be32 b 0 })

-- what a label stands for
unfoldable pub known : List Known → Bytes → Known
known [] l = record { name = l; path = []; number = 0 }
known (k ∷ ks) l = cond (bytes_eq k.name l) k (known ks l)

-- ---- targets: a path or a phandle, found in the tree before the merge

-- a fragment's `__overlay__`, its target's path, and what was read to find it
pub record Located : Type 0 where
  pub body : Bytes
  pub to : Bytes
  pub reads : List Place

unfoldable pub node_there : Fragment → List Place → Bytes → Query Located
node_there f rs p = do
  u ← ask (node_at p) done
  n ← need u 33 f.at
  done (record { body = f.body; to = p; reads = rs ++ node_at p ∷ [] })

unfoldable pub number_there : Fragment → ℕ → Query Located
number_there f n = do
  w ← seek n done
  p ← need w 33 f.at
  node_there f (phandle_at p ∷ []) p

abbrev pub located : List Known → Fragment → Target → Query Located
located env f (by_path p) = node_there f [] p
located env f (by_number n) = number_there f n
located env f (by_label l) = number_there f (known env l).number

-- ---- images: each body node at its target's path joined with its path below `__overlay__`

abbrev pub image_by : Bytes → Bytes → Option Bytes → Bytes
image_by to other None = other
image_by to other (Some r) = under to r

unfoldable pub image_of : List Located → Bytes → Bytes
image_of [] q = q
image_of (l ∷ ls) q = image_by l.to (image_of ls q) (behind l.body q)

-- four bytes of a value replaced by a number
abbrev pub with_cell : Bytes → ℕ → ℕ → Bytes
with_cell v o n = take o v ++ (bytes32 n ++ drop (o + 4) v)

-- a label's cell takes its phandle, a locally fixed one is raised
abbrev pub cell_number : List Known → ℕ → Bytes → Cell → Option Bytes → ℕ
cell_number env d v c None = be32 v c.offset + d
cell_number env d v c (Some l) = (known env l).number

unfoldable pub filled : List Known → ℕ → Bytes → Bytes → List Cell → Bytes
filled env d v w [] = w
filled env d v w (c ∷ cs) = filled env d v (with_cell w c.offset (cell_number env d v c c.label)) cs

-- a value's final bytes: a phandle is raised, other values have their cells filled and raised
abbrev pub final_bytes : List Known → ℕ → Item → Place → Bytes
final_bytes env d i (p, None) = i.value
final_bytes env d i (p, Some n) = cond (is_phandle n) (bytes32 (be32 i.value 0 + d)) (filled env d i.value i.value i.cells)

abbrev pub image_entry : List Known → ℕ → List Located → Item → Entry
image_entry env d ls i = record { at = i.at; place = (image_of ls i.place.0, i.place.1); value = final_bytes env d i i.place }

-- a symbol is set to its node's image path and a zero byte
abbrev pub symbol_entry : List Located → Symbol → Entry
symbol_entry ls s = record { at = s.at; place = property_at symbols_path s.label; value = image_of ls s.path ++ 0 ∷ [] }

abbrev pub images : List Known → ℕ → List Located → Overlay → List Entry
images env d ls v = map (image_entry env d ls) v.items ++ map (symbol_entry ls) v.symbols

-- ---- what is read, and what is written

pub data Touch : Type 0 where
  there : Place → Touch
  put : Entry → Touch

abbrev pub if_there : Entry → Option Bytes → Touch
if_there e None = put e
if_there e (Some v) = there e.place

-- a body node whose image is there is read; else it is created; each property is set
abbrev pub touch : Entry → Place → Query Touch
touch e (p, None) = ask e.place (λ w. done (if_there e w))
touch e (p, Some n) = done (put e)

abbrev pub put_in : Touch → Option Entry
put_in (there k) = None
put_in (put e) = Some e

abbrev pub there_in : Touch → Option Place
there_in (there k) = Some k
there_in (put e) = None

-- ---- refusals of writes, each at the lowest token at fault

abbrev pub lower : Option ℕ → Option ℕ → Option ℕ
lower None b = b
lower (Some m) None = Some m
lower (Some m) (Some n) = Some (min m n)

unfoldable pub lowest : {A : Type 0} → (A → Option ℕ) → List A → Option ℕ
lowest f [] = None
lowest f (x ∷ xs) = lower (f x) (lowest f xs)

-- 35: the later token of two that write one place
abbrev pub later_of : Entry → Entry → Option ℕ
later_of e f = cond (same_place e.place f.place) (Some (max e.at f.at)) None

unfoldable pub twice : List Entry → Option ℕ
twice [] = None
twice (w ∷ ws) = lower (lowest (later_of w) ws) (twice ws)

-- 36: a `phandle` or a property of `/__symbols__` that is there
abbrev pub once : Place → Bool
once (p, None) = false
once (p, Some n) = is_phandle n || bytes_eq p symbols_path

abbrev pub again_at : ℕ → Option Bytes → Option ℕ
again_at at None = None
again_at at (Some v) = Some at

unfoldable pub again : Entry → Query (Option ℕ)
again e = cond (once e.place) (ask e.place (λ w. done (again_at e.at w))) (done None)

-- 37: a path over 255 bytes
abbrev pub long_at : Entry → Option ℕ
long_at e = cond (nat_lt 255 (length e.place.0)) (Some e.at) None

-- ---- share and references

-- what an overlay counts against the limits
pub record Share : Type 0 where
  pub nodes : ℕ
  pub properties : ℕ
  pub weight : ℕ

abbrev pub share_of : Places → Share
share_of ps = record { nodes = total node_count ps; properties = total property_count ps; weight = total weigh ps }

-- not an `__overlay__` itself
abbrev pub below_top : Overlay → Item → Place → Option Item
below_top v i (p, None) = cond (some (λ f. bytes_eq f.body p) v.fragments) None (Some i)
below_top v i (p, Some n) = Some i

-- the body nodes below `__overlay__`, the body properties, and the symbols as set
abbrev pub shared : List Known → ℕ → List Located → Overlay → List Entry
shared env d ls v = map (image_entry env d ls) (pick (λ i. below_top v i i.place) v.items) ++ map (symbol_entry ls) v.symbols

-- four bytes of a property, and the node that they refer to
pub record Reference : Type 0 where
  pub place : Place
  pub offset : ℕ
  pub meant : Bytes

abbrev pub item_places : Overlay → Places
item_places v = map (λ i. (i.place, i.value)) v.items

abbrev pub image_if : List Located → Option Bytes → Bytes
image_if ls None = []
image_if ls (Some q) = image_of ls q

-- the labelled node, or the image of the body node whose phandle the cell held
abbrev pub meant_by : List Known → List Located → Overlay → Item → Cell → Option Bytes → Bytes
meant_by env ls v i c None = image_if ls (holder_of (be32 i.value c.offset) (handles (item_places v)))
meant_by env ls v i c (Some l) = (known env l).path

abbrev pub cells_in : Item → Place → List Cell
cells_in i (p, None) = []
cells_in i (p, Some n) = cond (is_phandle n) [] i.cells

abbrev pub item_references : List Known → List Located → Overlay → Item → List Reference
item_references env ls v i = map (λ c. record { place = (image_of ls i.place.0, i.place.1); offset = c.offset; meant = meant_by env ls v i c c.label }) (cells_in i i.place)

-- ---- the plan

pub record Plan : Type 0 where
  pub reads : List Place
  pub writes : List Entry
  pub share : Share
  pub references : List Reference

-- the phandles of the bodies
abbrev pub overlay_handles : Overlay → List ℕ
overlay_handles v = map (λ h. be32 h.1 0) (handles (item_places v))

-- 34: a raised phandle passes 0xfffffffe, place 0
abbrev pub raised_past : ℕ → List ℕ → Option ℕ
raised_past d ns = cond (some (λ n. ltb 4294967294 (n + d)) ns) (Some 0) None

abbrev pub any : {A : Type 0} → List A → Bool
any [] = false
any (x ∷ xs) = true

abbrev pub has_labels : Overlay → Bool
has_labels v = any v.labels || any v.symbols

unfoldable pub read_symbols : Overlay → Query (Unit {0})
read_symbols v = cond (has_labels v) (ask (node_at symbols_path) (λ u. done tt)) (done tt)

abbrev pub known_reads : Known → List Place
known_reads k = property_at symbols_path k.name ∷ node_at k.path ∷ phandle_at k.path ∷ []

-- the rules' list of what is read: `/__symbols__` if there are labels; each label's symbol, node and phandle; the targets, with
-- their phandles where they go by number; the images that were there
abbrev pub reads_of : Overlay → List Known → List Located → List Touch → List Place
reads_of v env ls ts = cond (has_labels v) (node_at symbols_path ∷ []) [] ++ (joined (map known_reads env) ++ (joined (map (λ l. l.reads) ls) ++ pick there_in ts))

unfoldable pub planned : List Known → ℕ → List Located → Overlay → List Touch → Plan
planned env d ls v ts = record {
  reads = reads_of v env ls ts;
  writes = pick put_in ts;
  share = share_of (listed (shared env d ls v));
  references = joined (map (item_references env ls v) v.items);
}

-- what is written, unless a place is written twice, or set again, or too long
unfoldable pub allowed : List Entry → Query (Unit {0})
allowed ws = do
  a ← stop_at 35 (twice ws)
  fs ← for_each again ws
  b ← stop_at 36 (lowest (λ f. f) fs)
  stop_at 37 (lowest long_at ws)

unfoldable pub plan : Overlay → ℕ → Query Plan
plan v d = do
  u ← read_symbols v
  env ← for_each labelled v.labels
  ls ← for_each (λ f. located env f f.target) v.fragments
  n ← stop_at 34 (raised_past d (overlay_handles v))
  ts ← for_each (λ e. touch e e.place) (images env d ls v)
  c ← allowed (pick put_in ts)
  done (planned env d ls v ts)

-- ---- the merge

unfoldable pub apply : List Entry → Tree → Tree
apply [] t = t
apply (e ∷ es) t = apply es (change t e.place (Some e.value))
