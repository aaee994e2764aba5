-- What a merge leaves, by the five steps of the rules. Assumes nothing.
use Rattle.std.specs.Prelude.{◌≡◌, ℕ, ◌+◌, ◌≤◌, true, List, [], ◌∷◌, ◌++◌, Some, None, Ok, ◌≢◌}
use Rattle.std.specs.List.{AllByRecursion}
use Rattle.tree.specs.Entries.{Entry, well_listed}
use Rattle.tree.specs.Numbers.{be32}
use Rattle.tree.specs.Places.{Bytes, Place, node_at, property_at}
use Rattle.tree.specs.Trees.{Tree, look, Sound}
use Rattle.overlay_rules.specs.Checks.{check}
use Rattle.overlay_rules.specs.Laws.{In}
use Rattle.overlay_rules.specs.Overlays.{symbols_path, phandle_at, Label, Target, by_path, by_number, by_label, Fragment, Item, Symbol, Overlay, overlay_of}
use Rattle.overlay_rules.specs.Plans.{Known, known, Located, image_of, final_bytes, overlay_handles, Plan, plan, apply}
use Rattle.overlay_rules.specs.Queries.{run}

-- the node p has the phandle n
abbrev pub HasPhandle : Tree → Bytes → ℕ → Type 0
HasPhandle t p n = (h : Bytes) × (look t (phandle_at p) ≡ Some h) × (be32 h 0 ≡ n)

-- step 1: the tree's symbol for a label is a path and a zero byte, that node is there and has the phandle
pub record LabelKnown (t : Tree) (l : Label) (k : Known) : Type 0 where
  pub name : k.name ≡ l.name
  pub symbol : look t (property_at symbols_path l.name) ≡ Some (k.path ++ 0 ∷ [])
  pub node : look t (node_at k.path) ≡ Some []
  pub phandle : HasPhandle t k.path k.number

-- step 3: a target by its path, by its phandle, or by the phandle of its label
abbrev pub Aimed : Tree → List Known → Target → Bytes → Type 0
Aimed t env (by_path p) to = to ≡ p
Aimed t env (by_number n) to = HasPhandle t to n
Aimed t env (by_label l) to = HasPhandle t to (known env l).number

pub record TargetFound (t : Tree) (env : List Known) (f : Fragment) (l : Located) : Type 0 where
  pub body : l.body ≡ f.body
  pub node : look t (node_at l.to) ≡ Some []
  pub aimed : Aimed t env f.target l.to

pub record Merges (t : Tree) (v : Overlay) (d : ℕ) (after : Tree) : Type 0 where
  pub env : List Known
  pub ls : List Located
  pub labels : (l : Label) → In l v.labels → (k : Known) × In k env × LabelKnown t l k
  -- step 2 stays within the numbers of phandles
  pub raised : AllByRecursion (λ n. n + d ≤ 4294967294) (overlay_handles v)
  pub targets : (f : Fragment) → In f v.fragments → (l : Located) × In l ls × TargetFound t env f l
  -- step 4: every image is there, every body property is set there to its final bytes
  pub nodes : (i : Item) → In i v.items → i.place.1 ≡ None → look after (node_at (image_of ls i.place.0)) ≡ Some []
  pub properties : (i : Item) (n : Bytes) → In i v.items → i.place.1 ≡ Some n → look after (property_at (image_of ls i.place.0) n) ≡ Some (final_bytes env d i i.place)
  -- step 5
  pub symbols : (s : Symbol) → In s v.symbols → look after (property_at symbols_path s.label) ≡ Some (image_of ls s.path ++ 0 ∷ [])
  -- all else stays
  pub elsewhere : (k : Place) → ((i : Item) → In i v.items → k ≢ (image_of ls i.place.0, i.place.1)) → ((s : Symbol) → In s v.symbols → k ≢ property_at symbols_path s.label) → look after k ≡ look t k
  pub boot : after.boot ≡ t.boot

abbrev pub MergesBySteps : Type 0
MergesBySteps = (t : Tree) (es : List Entry) (d : ℕ) (p : Plan) → Sound t → well_listed es ≡ true → check es ≡ None → run t (plan (overlay_of es) d) ≡ Ok p → Merges t (overlay_of es) d (apply p.writes t)
