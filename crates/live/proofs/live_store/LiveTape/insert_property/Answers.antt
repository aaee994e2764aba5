use Rattle.std.proofs.Common.{◌+◌, length, get_or, refl, ap, ◌∙◌, arith}
use Rattle.live.specs.declared.memory.Memory.{Memory}
use Rattle.live.specs.Records.{flat_rows, flat_cells}
use Rattle.splices.specs.Splices.{spliced_in}
use Rattle.live.proofs.Edited.{property_inserted}
use Rattle.live.proofs.Fitted.{property-room}
use Rattle.live.proofs.Kept.{no_row, at_spot}
use Rattle.live.proofs.Whole.{whole}
use Rattle.live.proofs.live_store.LiveTape.insert_property.Goals as goal

pub offset_bounds-memory-s : goal.offset_bounds-memory-s
offset_bounds-memory-s c = let f = at_spot c.args.self.now.memory (whole c.args.self.now) c.args.s c.requires.here in omega arith

pub bounds-memory-s : goal.bounds-memory-s
bounds-memory-s c = let f = at_spot c.args.self.now.memory (whole c.args.self.now) c.args.s c.requires.here in f.inside

pub overflow_add-at : goal.overflow_add-at
overflow_add-at c = let f = at_spot c.args.self.now.memory (whole c.args.self.now) c.args.s c.requires.here in omega arith

pub overflow_add-r : goal.overflow_add-r
overflow_add-r c = let f = at_spot c.args.self.now.memory (whole c.args.self.now) c.args.s c.requires.here in omega arith

pub overflow_add-r-3 : goal.overflow_add-r-3
overflow_add-r-3 c = let f = at_spot c.args.self.now.memory (whole c.args.self.now) c.args.s c.requires.here in let r = property-room c.args.self.now.memory (whole c.args.self.now) c.args.s.node c.requires.here.inside c.args.name.now c.args.value.now c.requires.sound in omega (arith, r.2)

pub offset_bounds-memory-s-2 : goal.offset_bounds-memory-s-2
offset_bounds-memory-s-2 c = let f = at_spot c.args.self.now.memory (whole c.args.self.now) c.args.s c.requires.here in omega arith

pub bounds-memory-s-2 : goal.bounds-memory-s-2
bounds-memory-s-2 c = let f = at_spot c.args.self.now.memory (whole c.args.self.now) c.args.s c.requires.here in f.inside

pub insert-requires-clause-order : goal.insert-requires-clause-order
insert-requires-clause-order c = let f = at_spot c.args.self.now.memory (whole c.args.self.now) c.args.s c.requires.here in omega arith

pub insert-requires-clause-room : goal.insert-requires-clause-room
insert-requires-clause-room c = let r = property-room c.args.self.now.memory (whole c.args.self.now) c.args.s.node c.requires.here.inside c.args.name.now c.args.value.now c.requires.sound in r.0

pub insert-requires-2-clause-order : goal.insert-requires-2-clause-order
insert-requires-2-clause-order c = let f = at_spot c.args.self.now.memory (whole c.args.self.now) c.args.s c.requires.here in omega arith

pub insert-requires-2-clause-room : goal.insert-requires-2-clause-room
insert-requires-2-clause-room c = let r = property-room c.args.self.now.memory (whole c.args.self.now) c.args.s.node c.requires.here.inside c.args.name.now c.args.value.now c.requires.sound in omega (arith, r.1)

pub overflow_add-at-2 : goal.overflow_add-at-2
overflow_add-at-2 c = let f = at_spot c.args.self.now.memory (whole c.args.self.now) c.args.s c.requires.here in let r = property-room c.args.self.now.memory (whole c.args.self.now) c.args.s.node c.requires.here.inside c.args.name.now c.args.value.now c.requires.sound in omega (arith, r.2)

pub insert-requires-3-clause-order : goal.insert-requires-3-clause-order
insert-requires-3-clause-order c = let f = at_spot c.args.self.now.memory (whole c.args.self.now) c.args.s c.requires.here in omega (arith, c.insert-2.ensures.used)

pub insert-requires-3-clause-room : goal.insert-requires-3-clause-room
insert-requires-3-clause-room c = let r = property-room c.args.self.now.memory (whole c.args.self.now) c.args.s.node c.requires.here.inside c.args.name.now c.args.value.now c.requires.sound in omega (arith, r.1, c.insert-2.ensures.used, c.insert-2.ensures.kept)

pub property_weight-requires : goal.property_weight-requires
property_weight-requires c = let r = property-room c.args.self.now.memory (whole c.args.self.now) c.args.s.node c.requires.here.inside c.args.name.now c.args.value.now c.requires.sound in (omega (arith, r.2), omega (arith, r.2))

pub overflow_add-memory : goal.overflow_add-memory
overflow_add-memory c = let r = property-room c.args.self.now.memory (whole c.args.self.now) c.args.s.node c.requires.here.inside c.args.name.now c.args.value.now c.requires.sound in omega (arith, r.3, c.property_weight.ensures)

pub invariant_of-self : goal.invariant_of-self
invariant_of-self c =
    let m = c.args.self.now.memory in
    let name = c.args.name.now in
    let value = c.args.value.now in
    let x : Memory = record { nodes = m.nodes; properties = c.insert.new.self; pool = c.insert-3.new.self; weight = m.weight + c.property_weight.result; boot = m.boot } in
    let bytes = c.insert-3.ensures.items ∙ ap (λ t. spliced_in t (c.args.s.at + (get_or m.nodes.items.now c.args.s.node no_row).name + length name) value) c.insert-2.ensures.items in
    let kept = c.insert-3.ensures.kept ∙ c.insert-2.ensures.kept in
    let r = (property_inserted m x (whole c.args.self.now) c.args.s c.requires.here refl refl refl name value c.insert.ensures.items bytes c.insert.ensures.kept kept (ap (λ n. m.weight + n) c.property_weight.ensures) refl c.requires.sound).whole in
    record { rows = ap flat_rows r.rows; cells = ap flat_cells r.cells; bytes = r.bytes; weight = r.weight; room = r.room; sound = r.sound }

pub returns-clause-nodes : goal.returns-clause-nodes
returns-clause-nodes c =
    let m = c.args.self.now.memory in
    let name = c.args.name.now in
    let value = c.args.value.now in
    let x : Memory = record { nodes = m.nodes; properties = c.insert.new.self; pool = c.insert-3.new.self; weight = m.weight + c.property_weight.result; boot = m.boot } in
    let bytes = c.insert-3.ensures.items ∙ ap (λ t. spliced_in t (c.args.s.at + (get_or m.nodes.items.now c.args.s.node no_row).name + length name) value) c.insert-2.ensures.items in
    let kept = c.insert-3.ensures.kept ∙ c.insert-2.ensures.kept in
    (property_inserted m x (whole c.args.self.now) c.args.s c.requires.here refl refl refl name value c.insert.ensures.items bytes c.insert.ensures.kept kept (ap (λ n. m.weight + n) c.property_weight.ensures) refl c.requires.sound).is
