use Rattle.std.proofs.Common.{◌-◌, refl, ap, ◌∙◌, arith}
use Rattle.tree.specs.Counting.{property_weight}
use Rattle.live.specs.declared.memory.Memory.{Memory}
use Rattle.live.specs.Records.{flat_rows, flat_cells, held, spot_in}
use Rattle.live.proofs.Edited.{property_removed}
use Rattle.live.proofs.Kept.{at_spot, at_mark, on_node, spot_stays}
use Rattle.live.proofs.Moved.{cut-sizes, weight-cut}
use Rattle.live.proofs.Whole.{whole}
use Rattle.live.proofs.live_store.LiveTape.remove_property.Goals as goal

pub offset_bounds-memory-m : goal.offset_bounds-memory-m
offset_bounds-memory-m c = let g = at_mark c.args.self.now.memory (whole c.args.self.now) c.args.m c.requires.on.0 in omega arith

pub bounds-memory-m : goal.bounds-memory-m
bounds-memory-m c = let g = at_mark c.args.self.now.memory (whole c.args.self.now) c.args.m c.requires.on.0 in g.inside

pub overflow_add-n : goal.overflow_add-n
overflow_add-n c = let g = at_mark c.args.self.now.memory (whole c.args.self.now) c.args.m c.requires.on.0 in omega arith

pub offset_bounds-memory-s : goal.offset_bounds-memory-s
offset_bounds-memory-s c = let f = at_spot c.args.self.now.memory (whole c.args.self.now) c.args.s c.requires.here in omega arith

pub bounds-memory-s : goal.bounds-memory-s
bounds-memory-s c = let f = at_spot c.args.self.now.memory (whole c.args.self.now) c.args.s c.requires.here in f.inside

pub overflow_sub-r : goal.overflow_sub-r
overflow_sub-r c =
    let m = c.args.self.now.memory in
    let w = whole c.args.self.now in
    let f = at_spot m w c.args.s c.requires.here in
    let o = on_node m w c.args.s.node c.args.m c.requires.on.0 c.requires.on.1 in
    omega (arith, cut-sizes (held m) c.args.s.node c.requires.here.inside c.args.m.number o.within)

pub overflow_sub-r-2 : goal.overflow_sub-r-2
overflow_sub-r-2 c =
    let m = c.args.self.now.memory in
    let w = whole c.args.self.now in
    let f = at_spot m w c.args.s c.requires.here in
    let o = on_node m w c.args.s.node c.args.m c.requires.on.0 c.requires.on.1 in
    omega (arith, cut-sizes (held m) c.args.s.node c.requires.here.inside c.args.m.number o.within)

pub offset_bounds-memory-s-2 : goal.offset_bounds-memory-s-2
offset_bounds-memory-s-2 c = let f = at_spot c.args.self.now.memory (whole c.args.self.now) c.args.s c.requires.here in omega arith

pub bounds-memory-s-2 : goal.bounds-memory-s-2
bounds-memory-s-2 c = let f = at_spot c.args.self.now.memory (whole c.args.self.now) c.args.s c.requires.here in f.inside

pub remove-requires : goal.remove-requires
remove-requires c = let g = at_mark c.args.self.now.memory (whole c.args.self.now) c.args.m c.requires.on.0 in record { order = omega arith }

pub remove-requires-2 : goal.remove-requires-2
remove-requires-2 c = let g = at_mark c.args.self.now.memory (whole c.args.self.now) c.args.m c.requires.on.0 in record { order = omega arith }

pub property_weight-requires : goal.property_weight-requires
property_weight-requires c = let g = at_mark c.args.self.now.memory (whole c.args.self.now) c.args.m c.requires.on.0 in (omega arith, omega arith)

pub overflow_sub-memory : goal.overflow_sub-memory
overflow_sub-memory c =
    let m = c.args.self.now.memory in
    let w = whole c.args.self.now in
    let f = at_spot m w c.args.s c.requires.here in
    let o = on_node m w c.args.s.node c.args.m c.requires.on.0 c.requires.on.1 in
    omega (arith, c.property_weight.ensures ∙ (λ j. property_weight (o.name j) (o.value j)), w.weight, weight-cut (held m) c.args.s.node c.requires.here.inside c.args.m.number o.within)

pub invariant_of-self : goal.invariant_of-self
invariant_of-self c =
    let m = c.args.self.now.memory in
    let w = whole c.args.self.now in
    let on = on_node m w c.args.s.node c.args.m c.requires.on.0 c.requires.on.1 in
    let x : Memory = record { nodes = m.nodes; properties = c.remove.new.self; pool = c.remove-2.new.self; weight = m.weight - c.property_weight.result; boot = m.boot } in
    let r = (property_removed m x w c.args.s c.requires.here refl refl refl c.args.m on c.remove.ensures.items c.remove-2.ensures.items c.remove.ensures.kept c.remove-2.ensures.kept (ap (λ n. m.weight - n) c.property_weight.ensures) refl c.requires.sound).whole in
    record { rows = ap flat_rows r.rows; cells = ap flat_cells r.cells; bytes = r.bytes; weight = r.weight; room = r.room; sound = r.sound }

pub returns-clause-nodes : goal.returns-clause-nodes
returns-clause-nodes c =
    let m = c.args.self.now.memory in
    let w = whole c.args.self.now in
    let on = on_node m w c.args.s.node c.args.m c.requires.on.0 c.requires.on.1 in
    let x : Memory = record { nodes = m.nodes; properties = c.remove.new.self; pool = c.remove-2.new.self; weight = m.weight - c.property_weight.result; boot = m.boot } in
    (property_removed m x w c.args.s c.requires.here refl refl refl c.args.m on c.remove.ensures.items c.remove-2.ensures.items c.remove.ensures.kept c.remove-2.ensures.kept (ap (λ n. m.weight - n) c.property_weight.ensures) refl c.requires.sound).is

pub returns-clause-same : goal.returns-clause-same
returns-clause-same c =
    let m = c.args.self.now.memory in
    let w = whole c.args.self.now in
    let on = on_node m w c.args.s.node c.args.m c.requires.on.0 c.requires.on.1 in
    let x : Memory = record { nodes = m.nodes; properties = c.remove.new.self; pool = c.remove-2.new.self; weight = m.weight - c.property_weight.result; boot = m.boot } in
    ap (λ t. spot_in t c.args.s.node) (property_removed m x w c.args.s c.requires.here refl refl refl c.args.m on c.remove.ensures.items c.remove-2.ensures.items c.remove.ensures.kept c.remove-2.ensures.kept (ap (λ n. m.weight - n) c.property_weight.ensures) refl c.requires.sound).is ∙ spot_stays (held m) c.args.s.node _
