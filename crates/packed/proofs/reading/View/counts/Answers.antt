use Rattle.std.proofs.Common.{◌≡◌, ◌+◌, ◌*◌, ◌≤◌, length, sym, ap, ◌∙◌, arith}
use Rattle.tape.specs.Tapes.{properties_of, weight_of}
use Rattle.tape.proofs.Sounds.{parts}
use Rattle.tape.proofs.Sums.{within_limits}
use Rattle.packed.specs.Regions.{nodes_of, Open}
use Rattle.packed.specs.declared.region.Region.{Region}
use Rattle.packed.proofs.Decoded.{opened_some, closed_none}
use Rattle.packed.proofs.Nodes.{sizes}
use Rattle.packed.proofs.reading.View.counts.Goals as goal

module _ (x : Region) (o : Open x) where
  few : (x.nodes ≤ 256) × (x.properties ≤ 1024)
  few = let w = within_limits x.boot (nodes_of x) o.valid in let a = w.0 in let b = w.1 in let n = o.nodes in let p = o.properties in (omega arith, omega arith)

  weighs : x.structure + x.strings ≡ 4 + 8 * x.nodes + 12 * x.properties + weight_of (nodes_of x)
  weighs =
      let s = sizes (nodes_of x) (parts x.boot (nodes_of x) o.valid).shape in
      let n = o.nodes in
      let p = o.properties in
      let a = o.holding.structure in
      let b = o.holding.strings in
      omega arith

  small : x.structure + x.strings ≤ 40960
  small = let a = o.holding.structure in let b = o.holding.strings in let s = o.holding.small in omega arith

pub returns-then-x-eq0 : goal.returns-then-x-eq0
unfolding properties_of weight_of
returns-then-x-eq0 c =
    let e = closed_none c.args.self.now.region.now c.if-x-eq0.true in
    let z = c.zero.ensures in
    record { nodes = ap (λ k. k.nodes) z ∙ ap length (sym e); properties = ap (λ k. k.properties) z ∙ ap properties_of (sym e); weight = ap (λ k. k.weight) z ∙ ap weight_of (sym e) }

pub overflow_mul-tokens : goal.overflow_mul-tokens
overflow_mul-tokens c = let f = (few c.args.self.now.region.now (opened_some c.args.self.now.region.now c.args.self.now.intact c.if-x-eq0.false)).0 in omega arith

pub overflow_add-tokens : goal.overflow_add-tokens
overflow_add-tokens c = let f = (few c.args.self.now.region.now (opened_some c.args.self.now.region.now c.args.self.now.intact c.if-x-eq0.false)).0 in omega arith

pub overflow_mul-tokens-2 : goal.overflow_mul-tokens-2
overflow_mul-tokens-2 c = let f = (few c.args.self.now.region.now (opened_some c.args.self.now.region.now c.args.self.now.intact c.if-x-eq0.false)).1 in omega arith

pub overflow_add-tokens-2 : goal.overflow_add-tokens-2
overflow_add-tokens-2 c =
    let f = (few c.args.self.now.region.now (opened_some c.args.self.now.region.now c.args.self.now.intact c.if-x-eq0.false)).0 in
    let g = (few c.args.self.now.region.now (opened_some c.args.self.now.region.now c.args.self.now.intact c.if-x-eq0.false)).1 in
    omega arith

pub overflow_add-result : goal.overflow_add-result
overflow_add-result c = let s = small c.args.self.now.region.now (opened_some c.args.self.now.region.now c.args.self.now.intact c.if-x-eq0.false) in omega arith

pub overflow_sub-result : goal.overflow_sub-result
overflow_sub-result c = let w = weighs c.args.self.now.region.now (opened_some c.args.self.now.region.now c.args.self.now.intact c.if-x-eq0.false) in omega arith

pub returns : goal.returns
returns c =
    let o = opened_some c.args.self.now.region.now c.args.self.now.intact c.if-x-eq0.false in
    let w = weighs c.args.self.now.region.now o in
    record { nodes = o.nodes; properties = o.properties; weight = omega arith }
