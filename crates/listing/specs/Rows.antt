-- The rows of a listing: places with their values. Assumes nothing.
use Rattle.std.specs.Prelude.{◌≡◌, ℕ, ◌+◌, ◌<◌, ◌≤◌, List, [], ◌∷◌, ◌++◌, map, reverse, length, take, drop, Some, Ok, Err, vec_items, Result, Vec}
use Rattle.std.specs.declared.cmp.Ordering.{Ordering}
use Rattle.std.specs.declared.alloc.Global.{Global}
use Rattle.std.specs.Cmp.{IsTotalOrder}
use Rattle.std.specs.Option.{option_map}
use Rattle.std.specs.Borrow.{Bor}
use Rattle.std.proofs.Common.{ap}
use Rattle.reader.specs.Format.{Spelt}
use Rattle.reader.specs.Reading.{entries}
use Rattle.tree.specs.Entries.{listed}
use Rattle.tree.specs.Maps.{upd}
use Rattle.tree.specs.Places.{Bytes, Place, order}
use Rattle.tree.specs.Trees.{Places}
use Rattle.tree.proofs.Places.{place-order}
use Rattle.listing.specs.declared.rows.Place.{Place as RowPlace}
use Rattle.listing.specs.declared.rows.Row.{Row}

-- a place by what its parts hold
abbrev pub place_of : RowPlace → Place
place_of p = (vec_items p.path, option_map (λ x. x.now) p.name)

-- document order
abbrev pub place_order : RowPlace → RowPlace → Ordering
place_order p q = order (place_of p) (place_of q)

-- which is a total order
pub place_total : IsTotalOrder place_order
place_total = record {
  antisymm = λ x y. place-order.flip (place_of x) (place_of y);
  trans = λ x y z. place-order.trans (place_of x) (place_of y) (place_of z);
  congr = λ x y z e. ap (λ (p : Place). order p (place_of z)) (place-order.exact (place_of x) (place_of y) e);
}

-- the place of a row, and its value
abbrev pub keyed : Row → Place × Bytes
keyed r = (place_of r.place, r.value.now)

abbrev pub placed : List Row → Places
placed rs = map keyed rs

-- the same of a map's entries
abbrev pub held_one : RowPlace × Bor Bytes → Place × Bytes
held_one e = (place_of e.0, e.1.now)

abbrev pub held : List (RowPlace × Bor Bytes) → Places
held es = map held_one es

-- the places with e put where document order has it
abbrev pub with : Places → Place × Bytes → Places
with ps e = upd order ps e.0 (Some e.1)

-- where e is to be put: it replaces what is there, or goes before it
abbrev pub Seated : Places → Place × Bytes → Result ℕ ℕ → Type 0
Seated ps e (Ok i) = (i < length ps) × (with ps e ≡ take i ps ++ (e ∷ drop (i + 1) ps))
Seated ps e (Err i) = (i ≤ length ps) × (with ps e ≡ take i ps ++ (e ∷ drop i ps))

-- all of them put into acc, from the last to the first
abbrev pub arranged_on : Places → Places → Places
arranged_on acc [] = acc
arranged_on acc (e ∷ es) = with (arranged_on acc es) e

abbrev pub arranged : Places → Places
arranged ps = arranged_on [] ps

-- the paths of open nodes, which are kept with the innermost last, as a list with the innermost first
abbrev pub stacked : List (Vec ℕ Global) → List Bytes
stacked vs = reverse (map vec_items vs)

-- the places listed so far, and those of the tokens to come in the open nodes
abbrev pub told : Places → List Bytes → Spelt → Places
told ps stack ts = ps ++ listed (entries stack ts)
