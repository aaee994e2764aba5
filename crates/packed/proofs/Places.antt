-- What is known of the tokens at a spot and at a mark. Assumes nothing.
use Rattle.std.proofs.Common.{◌≡◌, ℕ, ◌+◌, ◌<◌, ◌≤◌, Some, length, ap, ◌∙◌, arith}
use Rattle.std.specs.List.{between}
use Rattle.names.specs.Names.{before}
use Rattle.tree.specs.Numbers.{be32, pad4}
use Rattle.blob.specs.Tokens.{text_at}
use Rattle.tape.specs.declared.Mark.{Mark}
use Rattle.tape.specs.declared.Spot.{Spot}
use Rattle.tape.specs.Tapes.{Here, On, nth, property_of}
use Rattle.tape.proofs.Sounds.{parts}
use Rattle.tape.proofs.Sums.{within_limits}
use Rattle.packed.specs.Packing.{spot_of, begin_of, first_of, mark_of}
use Rattle.packed.specs.Regions.{memory, nodes_of, Open}
use Rattle.packed.specs.declared.reading.View.{View}
use Rattle.packed.specs.declared.region.Region.{Region}
use Rattle.packed.proofs.Decoded.{opened}
use Rattle.packed.proofs.Marks.{name-room, name-long, name_text, property-room, size-here, offset-here, value-here, string_text, mark-next, properties-within}
use Rattle.packed.proofs.Spots.{depth_small}

pub open_at : (v : View) (i : ℕ) → i < length (nodes_of v.region.now) → Open v.region.now
open_at v i l = opened v.region.now v.intact (omega arith)

-- ---- at a spot

pub record AtSpot (x : Region) (s : Spot) : Type 0 where
  pub low : begin_of (nodes_of x) s.node + (4 + pad4 (length (nth (nodes_of x) s.node).name + 1)) ≤ 56 + x.structure
  pub held : 56 + x.structure ≤ length (memory x)
  pub small : 56 + x.structure + x.strings ≤ 40960
  pub few : s.node < 256
  pub depth : (nth (nodes_of x) s.node).depth < 256

module _ (v : View) (s : Spot) (h : Here (nodes_of v.region.now) (spot_of (nodes_of v.region.now)) s) where
  pub at_spot : AtSpot v.region.now s
  at_spot =
      let x = v.region.now in
      let l = h.inside in
      let o = open_at v s.node h.inside in
      let r = name-room x o s.node h.inside in
      let w = (within_limits x.boot (nodes_of x) o.valid).0 in
      let d = depth_small (nodes_of x) s.node (parts x.boot (nodes_of x) o.valid).shape h.inside in
      record { low = r.0; held = r.1; small = r.2; few = omega arith; depth = omega arith }

  pub name-length-is : (at n : ℕ) → at ≡ begin_of (nodes_of v.region.now) s.node → n ≡ before 0 (between (at + 4) (56 + v.region.now.structure) (memory v.region.now)) → n ≡ length (nth (nodes_of v.region.now) s.node).name
  name-length-is at n e f =
      f ∙ ap (λ k. before 0 (between (k + 4) (56 + v.region.now.structure) (memory v.region.now))) e ∙ name-long v.region.now (open_at v s.node h.inside) s.node h.inside

  pub name-is : (at : ℕ) → at ≡ begin_of (nodes_of v.region.now) s.node → text_at (memory v.region.now) (at + 4) (56 + v.region.now.structure) ≡ Some (nth (nodes_of v.region.now) s.node).name
  name-is at e = ap (λ k. text_at (memory v.region.now) (k + 4) (56 + v.region.now.structure)) e ∙ name_text v.region.now (open_at v s.node h.inside) s.node h.inside

  pub first-is : (at n r : ℕ) → at ≡ begin_of (nodes_of v.region.now) s.node → n ≡ length (nth (nodes_of v.region.now) s.node).name → r ≡ pad4 (n + 1) → at + 4 + r ≡ first_of (nodes_of v.region.now) s.node
  unfolding first_of
  first-is at n r e f g = let z = ap (λ k. pad4 (k + 1)) f in omega arith

-- ---- at a mark

pub record AtMark (x : Region) (m : Mark) : Type 0 where
  pub low : m.at + (12 + pad4 (length (property_of (nodes_of x) m.node m.number).1)) ≤ 56 + x.structure
  pub small : 56 + x.structure + x.strings ≤ 40960
  pub room : 40960 ≤ length (memory x)
  pub number : m.number < 1024
  pub size : be32 (memory x) (m.at + 4) ≡ length (property_of (nodes_of x) m.node m.number).1
  pub string : be32 (memory x) (m.at + 8) + (length (property_of (nodes_of x) m.node m.number).0 + 1) ≤ x.strings

module _ (v : View) (m : Mark) (h : On (nodes_of v.region.now) (mark_of (nodes_of v.region.now)) m) where
  abbrev o : Open v.region.now
  o = open_at v m.node h.inside

  pub at_mark : AtMark v.region.now m
  at_mark =
      let r = property-room v.region.now o m.node h.inside m.number h.within in
      let e = ap (λ z. z.at) h.is in
      let w = (within_limits v.region.now.boot (nodes_of v.region.now) o.valid).1 in
      let k = properties-within (nodes_of v.region.now) m.node in
      let l = h.within in
      let f = ap (λ z. be32 (memory v.region.now) (z.at + 8)) h.is ∙ offset-here v.region.now o m.node h.inside m.number h.within in
      record {
        low = omega (arith, r.0);
        small = r.1;
        room = r.2;
        number = omega arith;
        size = ap (λ z. be32 (memory v.region.now) (z.at + 4)) h.is ∙ size-here v.region.now o m.node h.inside m.number h.within;
        string = omega (arith, r.3, f);
      }

  pub value-is : (n : ℕ) → n ≡ be32 (memory v.region.now) (m.at + 4) → between (m.at + 12) (m.at + 12 + n) (memory v.region.now) ≡ (property_of (nodes_of v.region.now) m.node m.number).1
  value-is n e =
      let s = e ∙ at_mark.size in
      (λ i. between ((h.is i).at + 12) ((h.is i).at + 12 + s i) (memory v.region.now)) ∙ value-here v.region.now o m.node h.inside m.number h.within

  pub behind-is : (n r : ℕ) → n ≡ be32 (memory v.region.now) (m.at + 4) → r ≡ pad4 n → record { node = m.node; number = m.number + 1; property = 0; at = m.at + 12 + r } ≡ mark_of (nodes_of v.region.now) m.node (m.number + 1)
  unfolding mark_of
  behind-is n r e f =
      let s = ap pad4 (e ∙ at_mark.size) in
      let q = mark-next v.region.now o m.node h.inside m.number h.within in
      let d = ap (λ z. z.at) h.is in
      let t : m.at + 12 + r ≡ (mark_of (nodes_of v.region.now) m.node (m.number + 1)).at = omega arith in
      λ j. record { node = m.node; number = m.number + 1; property = 0; at = t j }

  -- a property's name, where k is its offset in the strings block
  pub string-is : (k : ℕ) → k ≡ be32 (memory v.region.now) (m.at + 8) → text_at (memory v.region.now) (56 + v.region.now.structure + k) (56 + v.region.now.structure + v.region.now.strings) ≡ Some (property_of (nodes_of v.region.now) m.node m.number).0
  string-is k e =
      let offset = e ∙ ap (λ z. be32 (memory v.region.now) (z.at + 8)) h.is ∙ offset-here v.region.now o m.node h.inside m.number h.within in
      ap (λ z. text_at (memory v.region.now) (56 + v.region.now.structure + z) (56 + v.region.now.structure + v.region.now.strings)) offset
      ∙ string_text v.region.now o m.node h.inside m.number h.within
