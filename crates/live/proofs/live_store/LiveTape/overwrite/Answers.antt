use Rattle.std.proofs.Common.{◌+◌, refl, ap, arith}
use Rattle.live.specs.declared.memory.Memory.{Memory}
use Rattle.live.specs.Records.{flat_rows, flat_cells}
use Rattle.live.proofs.Edited.{overwritten}
use Rattle.live.proofs.Kept.{at_mark, mark-at}
use Rattle.live.proofs.Whole.{whole}
use Rattle.live.proofs.live_store.LiveTape.overwrite.Goals as goal

pub offset_bounds-memory-m : goal.offset_bounds-memory-m
offset_bounds-memory-m c = let f = at_mark c.args.self.now.memory (whole c.args.self.now) c.args.m c.requires.on in omega arith

pub bounds-memory-m : goal.bounds-memory-m
bounds-memory-m c = let f = at_mark c.args.self.now.memory (whole c.args.self.now) c.args.m c.requires.on in f.inside

pub overflow_add-m : goal.overflow_add-m
overflow_add-m c = let f = at_mark c.args.self.now.memory (whole c.args.self.now) c.args.m c.requires.on in omega arith

pub overwrite-requires : goal.overwrite-requires
overwrite-requires c = let f = at_mark c.args.self.now.memory (whole c.args.self.now) c.args.m c.requires.on in record { order = omega (arith, c.requires.length) }

pub invariant_of-self : goal.invariant_of-self
invariant_of-self c =
    let m = c.args.self.now.memory in
    let w = whole c.args.self.now in
    let o = c.requires.on in
    let f = at_mark m w c.args.m o in
    let x : Memory = record { nodes = m.nodes; properties = m.properties; pool = c.overwrite.new.self; weight = m.weight; boot = m.boot } in
    let r = (overwritten m x w (omega (arith, o.inside)) c.args.m.node c.args.m.number c.args.value.now _ o.inside o.within c.requires.length (λ j. mark-at m w c.args.m o j + f.name j) refl refl c.overwrite.ensures.items refl refl c.overwrite.ensures.kept refl refl c.requires.sound).whole in
    record { rows = ap flat_rows r.rows; cells = ap flat_cells r.cells; bytes = r.bytes; weight = r.weight; room = r.room; sound = r.sound }

pub returns-clause-nodes : goal.returns-clause-nodes
returns-clause-nodes c =
    let m = c.args.self.now.memory in
    let w = whole c.args.self.now in
    let o = c.requires.on in
    let f = at_mark m w c.args.m o in
    let x : Memory = record { nodes = m.nodes; properties = m.properties; pool = c.overwrite.new.self; weight = m.weight; boot = m.boot } in
    (overwritten m x w (omega (arith, o.inside)) c.args.m.node c.args.m.number c.args.value.now _ o.inside o.within c.requires.length (λ j. mark-at m w c.args.m o j + f.name j) refl refl c.overwrite.ensures.items refl refl c.overwrite.ensures.kept refl refl c.requires.sound).is
