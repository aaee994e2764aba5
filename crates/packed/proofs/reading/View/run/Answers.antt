use Rattle.std.proofs.Common.{◌≡◌, ℕ, ◌+◌, ◌<◌, ◌≤◌, length, sym, ap, ◌∙◌, subst, ⊎_elim, arith}
use Rattle.std.proofs.lemmas.Bool.{cases_lt}
use Rattle.tree.specs.Numbers.{be32, pad4}
use Rattle.tape.specs.Tapes.{properties_at, property_of, Here}
use Rattle.tape.specs.declared.Spot.{Spot}
use Rattle.tape.proofs.Sums.{within_limits}
use Rattle.packed.specs.Packing.{spot_of, mark_of}
use Rattle.packed.specs.Regions.{memory, nodes_of, Open}
use Rattle.packed.specs.declared.reading.View.{View}
use Rattle.packed.proofs.Marks.{past_last, kind-here, mark-room, mark-next, size-here, property-room, first-mark, properties-within}
use Rattle.packed.proofs.Places.{open_at}
use Rattle.packed.proofs.reading.View.run.Goals as goal

module _ (v : View) (s : Spot) (h : Here (nodes_of v.region.now) (spot_of (nodes_of v.region.now)) s) (at count : ℕ)
    (low : count ≤ length (properties_at (nodes_of v.region.now) s.node)) (is : at ≡ (mark_of (nodes_of v.region.now) s.node count).at) where
  abbrev o : Open v.region.now
  o = open_at v s.node h.inside

  abbrev all : ℕ
  all = length (properties_at (nodes_of v.region.now) s.node)

  few : count ≤ 1024
  few = omega (arith, (within_limits v.region.now.boot (nodes_of v.region.now) o.valid).1, properties-within (nodes_of v.region.now) s.node)

  room : (at + 4 ≤ length (memory v.region.now)) × (at + 4 ≤ 40960)
  room = subst (λ n. (n + 4 ≤ length (memory v.region.now)) × (n + 4 ≤ 40960)) (sym is) (mark-room v.region.now o s.node h.inside count)

  more : be32 (memory v.region.now) at ≡ 3 → count < all
  more e = ⊎_elim (λ l. l) (λ l. absurd (past_last v.region.now o s.node h.inside count l (ap (be32 (memory v.region.now)) (sym is) ∙ e))) (cases_lt count all)

  last : (be32 (memory v.region.now) at ≡ 3 → ⊥) → count ≡ all
  last n =
      ⊎_elim
      (λ l. absurd (n (ap (be32 (memory v.region.now)) is ∙ kind-here v.region.now o s.node h.inside count l)))
      (λ (l : all ≤ count). let z : count ≡ all = omega arith in z)
      (cases_lt count all)

  module _ (e : be32 (memory v.region.now) at ≡ 3) where
    size : be32 (memory v.region.now) (at + 4) ≡ length (property_of (nodes_of v.region.now) s.node count).1
    size = ap (λ n. be32 (memory v.region.now) (n + 4)) is ∙ size-here v.region.now o s.node h.inside count (more e)

    inside : (at + (12 + pad4 (be32 (memory v.region.now) (at + 4))) ≤ 40960) × (at + 8 ≤ length (memory v.region.now))
    inside =
        let r = property-room v.region.now o s.node h.inside count (more e) in
        let k = ap pad4 size in
        (omega (arith, r.0, r.1), omega (arith, r.0, r.1, r.2))

    next : at + (12 + pad4 (be32 (memory v.region.now) (at + 4))) ≡ (mark_of (nodes_of v.region.now) s.node (count + 1)).at
    next =
        let k = ap pad4 size in
        let m = mark-next v.region.now o s.node h.inside count (more e) in
        omega arith

pub loop-bytes-init : goal.loop-bytes-init
loop-bytes-init c = (omega arith, c.requires.from ∙ first-mark c.args.self.now.region.now (open_at c.args.self.now _ c.requires.here.inside) c.args.s.node c.requires.here.inside)

pub be32_at-requires : goal.be32_at-requires
be32_at-requires c = let r = (room c.args.self.now c.args.s c.requires.here c.loop-bytes.at c.loop-bytes.count c.loop-bytes.invariant.0 c.loop-bytes.invariant.1).0 in omega (arith, ap length c.as_bytes-bytes.ensures)

pub overflow_add-at : goal.overflow_add-at
overflow_add-at c = let r = (room c.args.self.now c.args.s c.requires.here c.loop-bytes.at c.loop-bytes.count c.loop-bytes.invariant.0 c.loop-bytes.invariant.1).1 in omega arith

pub be32_at-n-requires : goal.be32_at-n-requires
be32_at-n-requires c = let r = (inside c.args.self.now c.args.s c.requires.here c.loop-bytes.at c.loop-bytes.count c.loop-bytes.invariant.0 c.loop-bytes.invariant.1 (omega (arith, ap (λ z. be32 z c.loop-bytes.at) c.as_bytes-bytes.ensures))).1 in omega (arith, ap length c.as_bytes-bytes.ensures)

pub overflow_add-at-in-loop-bytes-2 : goal.overflow_add-at-in-loop-bytes-2
overflow_add-at-in-loop-bytes-2 c =
    let r = (inside c.args.self.now c.args.s c.requires.here c.loop-bytes.at c.loop-bytes.count c.loop-bytes.invariant.0 c.loop-bytes.invariant.1 (omega (arith, ap (λ z. be32 z c.loop-bytes.at) c.as_bytes-bytes.ensures))).0 in
    let w = ap pad4 (c.be32_at-n.ensures ∙ ap (λ z. be32 z (c.loop-bytes.at + 4)) c.as_bytes-bytes.ensures) in
    omega arith

pub overflow_add-count : goal.overflow_add-count
overflow_add-count c = let r = few c.args.self.now c.args.s c.requires.here c.loop-bytes.at c.loop-bytes.count c.loop-bytes.invariant.0 c.loop-bytes.invariant.1 in omega arith

pub loop-bytes-smaller : goal.loop-bytes-smaller
loop-bytes-smaller c = let r = (room c.args.self.now c.args.s c.requires.here c.loop-bytes.at c.loop-bytes.count c.loop-bytes.invariant.0 c.loop-bytes.invariant.1).1 in omega arith

pub loop-bytes-preserved : goal.loop-bytes-preserved
loop-bytes-preserved c =
    let m = more c.args.self.now c.args.s c.requires.here c.loop-bytes.at c.loop-bytes.count c.loop-bytes.invariant.0 c.loop-bytes.invariant.1 (omega (arith, ap (λ z. be32 z c.loop-bytes.at) c.as_bytes-bytes.ensures)) in
    let n = next c.args.self.now c.args.s c.requires.here c.loop-bytes.at c.loop-bytes.count c.loop-bytes.invariant.0 c.loop-bytes.invariant.1 (omega (arith, ap (λ z. be32 z c.loop-bytes.at) c.as_bytes-bytes.ensures)) in
    let w = ap pad4 (c.be32_at-n.ensures ∙ ap (λ z. be32 z (c.loop-bytes.at + 4)) c.as_bytes-bytes.ensures) in
    (omega arith, omega arith)

pub returns : goal.returns
returns c =
    record {
      count = last c.args.self.now c.args.s c.requires.here c.loop-bytes.at c.loop-bytes.count c.loop-bytes.invariant.0 c.loop-bytes.invariant.1 (λ k. c.loop-bytes-test.false (c.be32_at.ensures ∙ ap (λ z. be32 z c.loop-bytes.at) c.as_bytes-bytes.ensures ∙ k));
      end = c.loop-bytes.invariant.1;
    }
