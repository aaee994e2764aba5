-- What always holds of the memory of a live store. Assumes nothing.
use Rattle.std.proofs.Common.{◌≡◌, ℕ, true, List, [], ◌∷◌, length, refl, ap, arith}
use Rattle.tape.specs.Nodes.{Node, valid}
use Rattle.tape.specs.Tapes.{weight_of}
use Rattle.live.specs.declared.live_store.Live.{Live}
use Rattle.live.specs.declared.live_store.View.{View}
use Rattle.live.specs.declared.memory.Memory.{Memory}
use Rattle.live.specs.declared.memory.NodeRecord.{NodeRecord}
use Rattle.live.specs.declared.memory.PropertyRecord.{PropertyRecord}
use Rattle.live.specs.Records.{flat_rows, flat_cells, rows_of, cells_of, bytes_of, used_rows, used_cells, used_bytes, held, room_for}

pub record Whole (m : Memory) : Type 0 where
  pub rows : rows_of (held m) ≡ used_rows m
  pub cells : cells_of (held m) ≡ used_cells m
  pub bytes : bytes_of (held m) ≡ used_bytes m
  pub weight : m.weight ≡ weight_of (held m)
  pub room : room_for m ≡ true
  pub sound : valid m.boot (held m) ≡ true

-- memory that was made to hold ms, with that boot CPU number
pub record Renewed (m : Memory) (ms : List Node) (number : ℕ) : Type 0 where
  pub is : held m ≡ ms
  pub boot : m.boot ≡ number
  pub whole : Whole m

-- records are known by the numbers in them
rows-only : (xs ys : List NodeRecord) → flat_rows xs ≡ flat_rows ys → xs ≡ ys
unfolding flat_rows
rows-only [] [] e = refl
rows-only [] (y ∷ ys) e = absurd (omega (arith, ap length e))
rows-only (x ∷ xs) [] e = absurd (omega (arith, ap length e))
rows-only (x ∷ xs) (y ∷ ys) e =
    let a : x.depth ≡ y.depth = cc in
    let b : x.name ≡ y.name = cc in
    let c : x.properties ≡ y.properties = cc in
    let d : x.bytes ≡ y.bytes = cc in
    let f : flat_rows xs ≡ flat_rows ys = cc in
    λ j. record { depth = a j; name = b j; properties = c j; bytes = d j } ∷ rows-only xs ys f j

cells-only : (xs ys : List PropertyRecord) → flat_cells xs ≡ flat_cells ys → xs ≡ ys
unfolding flat_cells
cells-only [] [] e = refl
cells-only [] (y ∷ ys) e = absurd (omega (arith, ap length e))
cells-only (x ∷ xs) [] e = absurd (omega (arith, ap length e))
cells-only (x ∷ xs) (y ∷ ys) e =
    let a : x.name ≡ y.name = cc in
    let b : x.value ≡ y.value = cc in
    let f : flat_cells xs ≡ flat_cells ys = cc in
    λ j. record { name = a j; value = b j } ∷ cells-only xs ys f j

pub whole : (s : Live) → Whole s.memory
whole s = record {
  rows = rows-only _ _ s.rows;
  cells = cells-only _ _ s.cells;
  bytes = s.bytes;
  weight = s.weight;
  room = s.room;
  sound = s.sound;
}

pub viewed : (v : View) → Whole v.memory.now
viewed v = record {
  rows = rows-only _ _ v.rows;
  cells = cells-only _ _ v.cells;
  bytes = v.bytes;
  weight = v.weight;
  room = v.room;
  sound = v.sound;
}
