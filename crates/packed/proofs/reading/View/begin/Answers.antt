use Rattle.std.proofs.Common.{◌≡◌, ℕ, ◌+◌, ◌-◌, ◌<◌, ◌≤◌, List, ◌∷◌, ◌++◌, length, drop, sym, ap, ◌∙◌, subst, ⊎_elim, arith}
use Rattle.std.proofs.lemmas.Bool.{cases_eq}
use Rattle.tree.specs.Numbers.{be32}
use Rattle.blob.specs.Tokens.{Tok, begin}
use Rattle.tape.specs.Tapes.{nth, Here}
use Rattle.tape.specs.declared.Spot.{Spot}
use Rattle.packed.specs.Packing.{ends, size_of, spot_of, begin_of, property_tokens, tokens_of}
use Rattle.packed.specs.Regions.{memory, nodes_of}
use Rattle.packed.specs.declared.reading.View.{View}
use Rattle.packed.proofs.Cursors.{Cursor}
use Rattle.packed.proofs.Places.{open_at}
use Rattle.packed.proofs.Spots.{deep, at-ends, room_for, kind-end, kind-past}
use Rattle.packed.proofs.Tokens.{size_join, size-one, size-ends}
use Rattle.packed.proofs.reading.View.begin.Goals as goal

module _ (v : View) (s : Spot) (h : Here (nodes_of v.region.now) (spot_of (nodes_of v.region.now)) s) where
  abbrev d : ℕ
  d = (nth (nodes_of v.region.now) s.node).depth

  abbrev name : Tok
  name = begin (nth (nodes_of v.region.now) s.node).name

  us : List Tok
  us = property_tokens (nth (nodes_of v.region.now) s.node).properties ++ tokens_of (d + 1) (drop (s.node + 1) (nodes_of v.region.now))

  low : d ≤ s.property
  low = let e = ap (λ z. z.property) h.is in let a = deep v.region.now (open_at v s.node h.inside) s.node h.inside in omega arith

  module _ (at e : ℕ) (inv : (at ≡ s.at + size_of (ends (s.property - e))) × (d ≤ e) × (e ≤ s.property)) where
    cur : Cursor v.region.now at (ends (e - d) ++ (name ∷ us))
    unfolding us
    cur =
        let q = ap (λ z. z.property) h.is in
        let i = inv.2 in
        subst (λ n. Cursor v.region.now n (ends (e - d) ++ (name ∷ us))) (ap (λ z. z.at + size_of (ends (z.property - e))) (sym h.is) ∙ sym inv.0) (at-ends v.region.now (open_at v s.node h.inside) s.node h.inside e inv.1 (omega arith))

    room : (at + 4 ≤ length (memory v.region.now)) × (at + 4 ≤ 40960)
    room =
        let r = room_for v.region.now at (ends (e - d) ++ (name ∷ us)) cur in
        let a = size_join (ends (e - d)) (name ∷ us) in
        let c = size-one name us in
        (omega (arith, r.0), omega (arith, r.1))

    more : be32 (memory v.region.now) at ≡ 2 → d < e
    more k = ⊎_elim (λ (z : e - d ≡ 0). let q = kind-past v.region.now at (e - d) name us cur z in absurd (omega arith)) (λ (z : e - d ≡ 0 → ⊥). let i = inv.1 in omega arith) (cases_eq (e - d) 0)

    last : (be32 (memory v.region.now) at ≡ 2 → ⊥) → e ≡ d
    last k = ⊎_elim (λ (z : e - d ≡ 0). let i = inv.1 in omega arith) (λ (z : e - d ≡ 0 → ⊥). absurd (k (kind-end v.region.now at (e - d) (name ∷ us) cur (omega arith)))) (cases_eq (e - d) 0)

    done : e ≡ d → at ≡ begin_of (nodes_of v.region.now) s.node
    unfolding begin_of
    done k = inv.0 ∙ ap (λ n. s.at + size_of (ends (s.property - n))) k ∙ ap (λ z. z.at + size_of (ends (z.property - d))) h.is

pub loop-bytes-init : goal.loop-bytes-init
loop-bytes-init c =
    let l = low c.args.self.now c.args.s c.requires in
    let z = size-ends (c.args.s.property - c.args.s.property) in
    (omega arith, omega arith, omega arith)

pub be32_at-requires : goal.be32_at-requires
be32_at-requires c = let r = (room c.args.self.now c.args.s c.requires c.loop-bytes.at c.loop-bytes.depth c.loop-bytes.invariant).0 in omega (arith, ap length c.as_bytes-bytes.ensures)

pub overflow_add-at : goal.overflow_add-at
overflow_add-at c = let r = (room c.args.self.now c.args.s c.requires c.loop-bytes.at c.loop-bytes.depth c.loop-bytes.invariant).1 in omega arith

pub overflow_sub-depth : goal.overflow_sub-depth
overflow_sub-depth c = let r = more c.args.self.now c.args.s c.requires c.loop-bytes.at c.loop-bytes.depth c.loop-bytes.invariant (omega (arith, ap (λ z. be32 z c.loop-bytes.at) c.as_bytes-bytes.ensures)) in omega arith

pub loop-bytes-smaller : goal.loop-bytes-smaller
loop-bytes-smaller c = let r = more c.args.self.now c.args.s c.requires c.loop-bytes.at c.loop-bytes.depth c.loop-bytes.invariant (omega (arith, ap (λ z. be32 z c.loop-bytes.at) c.as_bytes-bytes.ensures)) in omega arith

pub loop-bytes-preserved : goal.loop-bytes-preserved
loop-bytes-preserved c =
    let r = more c.args.self.now c.args.s c.requires c.loop-bytes.at c.loop-bytes.depth c.loop-bytes.invariant (omega (arith, ap (λ z. be32 z c.loop-bytes.at) c.as_bytes-bytes.ensures)) in
    let a = size-ends (c.args.s.property - c.loop-bytes.depth) in
    let b = size-ends (c.args.s.property - (c.loop-bytes.depth - 1)) in
    let i = c.loop-bytes.invariant in
    (omega arith, omega arith, omega arith)

pub returns : goal.returns
returns c =
    let e = last c.args.self.now c.args.s c.requires c.loop-bytes.at c.loop-bytes.depth c.loop-bytes.invariant (λ k. c.loop-bytes-test.false (c.be32_at.ensures ∙ ap (λ z. be32 z c.loop-bytes.at) c.as_bytes-bytes.ensures ∙ k)) in
    record { depth = e; at = done c.args.self.now c.args.s c.requires c.loop-bytes.at c.loop-bytes.depth c.loop-bytes.invariant e }
