-- Words for laws of trees: who has a phandle, and where two trees agree. Assumes nothing.
use Rattle.std.specs.Prelude.{◌≡◌, ℕ, ◌+◌, ◌≤◌, true, ◌⊎◌, List, [], ◌∷◌, length, Some, Ok, ◌≢◌}
use Rattle.std.specs.List.{AllByRecursion}
use Rattle.tree.specs.Entries.{Entry}
use Rattle.tree.specs.Maps.{Rises}
use Rattle.tree.specs.Numbers.{be32}
use Rattle.tree.specs.Phandles.{valid_handle}
use Rattle.tree.specs.Places.{Bytes, Place, node_at, order}
use Rattle.tree.specs.Trees.{Tree, look}
use Rattle.overlay_rules.specs.Overlays.{symbols_path, phandle_at, Overlay}
use Rattle.overlay_rules.specs.Plans.{Plan, Reference, plan}
use Rattle.overlay_rules.specs.Queries.{run, asked}
use Rattle.overlay_rules.specs.Records.{Note, notes}

abbrev pub Rising : Tree → Type 0
Rising t = Rises order t.places

abbrev pub In : {A : Type 0} → A → List A → Type 0
In a [] = ⊥
In a (b ∷ bs) = (a ≡ b) ⊎ In a bs

-- each phandle is a number from 1 to 0xfffffffe in four bytes
abbrev pub Valid : Tree → Type 0
Valid t = (p v : Bytes) → look t (phandle_at p) ≡ Some v → valid_handle v ≡ true

-- no two nodes share a phandle
abbrev pub Unique : Tree → Type 0
Unique t = (p q v w : Bytes) → look t (phandle_at p) ≡ Some v → look t (phandle_at q) ≡ Some w → be32 v 0 ≡ be32 w 0 → p ≡ q

-- s has no phandle that t lacks
abbrev pub Fewer : Tree → Tree → Type 0
Fewer s t = (p v : Bytes) → look s (phandle_at p) ≡ Some v → look t (phandle_at p) ≡ Some v

abbrev pub SameAt : Tree → Tree → Place → Type 0
SameAt s t k = look s k ≡ look t k

-- none of the entries is at the place
abbrev pub Free : List Entry → Place → Type 0
Free ws k = AllByRecursion (λ e. k ≢ e.place) ws

-- s and t differ at most where ws write
abbrev pub Off : List Entry → Tree → Tree → Type 0
Off ws s t = (k : Place) → Free ws k → look s k ≡ look t k

-- ---- what a plan asks, and what it reads and writes

-- one of the entries is at the place
abbrev pub WritesAt : List Entry → Place → Type 0
WritesAt ws k = (e : Entry) × In e ws × (k ≡ e.place)

-- The places that a plan asked for are those of the rules' list of reads and those that it writes, and all of that list it asked for.
pub record Asks (t : Tree) (v : Overlay) (d : ℕ) (p : Plan) : Type 0 where
  pub only : (k : Place) → In k (asked t (plan v d)) → In k p.reads ⊎ WritesAt p.writes k
  pub all : (k : Place) → In k p.reads → In k (asked t (plan v d))

abbrev pub AsksWhatItReads : Type 0
AsksWhatItReads = (t : Tree) (v : Overlay) (d : ℕ) (p : Plan) → run t (plan v d) ≡ Ok p → Asks t v d p

-- What a plan asks decides it: a tree that agrees at the places asked, and has no phandle more, gives the same plan.
abbrev pub DecidedByReads : Type 0
DecidedByReads = (s t : Tree) (v : Overlay) (d : ℕ) → Rising s → Rising t → Fewer s t → Unique t → AllByRecursion (SameAt s t) (asked t (plan v d)) → run s (plan v d) ≡ run t (plan v d)

-- the four bytes of a reference are the phandle of the node that it is meant for
pub record Points (t : Tree) (r : Reference) : Type 0 where
  pub value : Bytes
  pub value_is : look t r.place ≡ Some value
  pub within : r.offset + 4 ≤ length value
  pub handle : Bytes
  pub handle_is : look t (phandle_at r.meant) ≡ Some handle
  pub number : be32 value r.offset ≡ be32 handle 0

-- ---- the record

-- no two entries are at one place
abbrev pub ApartNotes : List Note → Type 0
ApartNotes [] = Unit {0}
ApartNotes (n ∷ ns) = AllByRecursion (λ m. n.place ≢ m.place) ns × ApartNotes ns

-- The record has one entry for each place that is read or written, and no other; no place is both.
pub record Records (t : Tree) (p : Plan) : Type 0 where
  pub one : ApartNotes (notes p t)
  pub read : (k : Place) → In k p.reads → (n : Note) × In n (notes p t) × (n.place ≡ k)
  pub write : (e : Entry) → In e p.writes → (n : Note) × In n (notes p t) × (n.place ≡ e.place)
  pub only : (n : Note) → In n (notes p t) → In n.place p.reads ⊎ WritesAt p.writes n.place
  pub never_both : (k : Place) → In k p.reads → WritesAt p.writes k → ⊥

-- for a tree that a stack was opened on
abbrev pub RecordsWhatItTouches : Type 0
RecordsWhatItTouches = (t : Tree) (v : Overlay) (d : ℕ) (p : Plan) → Rising t → look t (node_at symbols_path) ≡ Some [] → run t (plan v d) ≡ Ok p → Records t p
