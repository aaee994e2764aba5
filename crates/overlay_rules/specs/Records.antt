-- The record of a merge: one entry for each touched place, and what it takes to restore the tree. Assumes nothing.
use Rattle.std.specs.Prelude.{ℕ, ◌+◌, Bool, true, false, cond, List, [], ◌∷◌, ◌++◌, map, length, Some, None, Option}
use Rattle.tree.specs.Entries.{Entry, same_place, some}
use Rattle.tree.specs.Places.{Bytes, Place}
use Rattle.tree.specs.Trees.{Tree, look, change}
use Rattle.overlay_rules.specs.Plans.{Plan}

-- read; a node created; or what value a property had before, if any
pub data Mark : Type 0 where
  was_read : Mark
  created : Mark
  earlier : Option Bytes → Mark

pub record Note : Type 0 where
  pub place : Place
  pub mark : Mark

-- each once, in the order of the first
unfoldable pub distinct : List Place → List Place → List Place
distinct seen [] = []
distinct seen (k ∷ ks) = cond (some (same_place k) seen) (distinct seen ks) (k ∷ distinct (k ∷ seen) ks)

abbrev pub mark_of : Tree → Place → Mark
mark_of t (p, None) = created
mark_of t (p, Some n) = earlier (look t (p, Some n))

abbrev pub read_note : Place → Note
read_note k = record { place = k; mark = was_read }

abbrev pub write_note : Tree → Entry → Note
write_note t e = record { place = e.place; mark = mark_of t e.place }

-- the entries of a plan, t being the tree before the merge
unfoldable pub notes : Plan → Tree → List Note
notes p t = map read_note (distinct [] p.reads) ++ map (write_note t) p.writes

-- ---- restoring

abbrev pub put_back : Place → Mark → Tree → Tree
put_back k was_read t = t
put_back k created t = change t k None
put_back k (earlier w) t = change t k w

-- the last first
unfoldable pub restore : List Note → Tree → Tree
restore [] t = t
restore (n ∷ ns) t = put_back n.place n.mark (restore ns t)

-- ---- what an entry saves: its path, its property name, the earlier value

abbrev pub length_if : Option Bytes → ℕ
length_if None = 0
length_if (Some v) = length v

abbrev pub mark_bytes : Mark → ℕ
mark_bytes was_read = 0
mark_bytes created = 0
mark_bytes (earlier w) = length_if w

abbrev pub note_bytes : Note → ℕ
note_bytes n = length n.place.0 + (length_if n.place.1 + mark_bytes n.mark)

unfoldable pub saved_bytes : List Note → ℕ
saved_bytes [] = 0
saved_bytes (n ∷ ns) = note_bytes n + saved_bytes ns

-- ---- who touches what was written

abbrev pub written : Mark → Bool
written was_read = false
written created = true
written (earlier w) = true

-- a place was written, by these entries
abbrev pub wrote : List Note → Place → Bool
wrote ns k = some (λ n. cond (written n.mark) (same_place n.place k) false) ns

-- one of ys is at a place that xs wrote
abbrev pub touches : List Note → List Note → Bool
touches xs ys = some (λ y. wrote xs y.place) ys
