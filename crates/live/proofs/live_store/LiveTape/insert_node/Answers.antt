use Rattle.std.proofs.Common.{◌+◌, refl, ap, arith}
use Rattle.live.specs.declared.memory.Memory.{Memory}
use Rattle.live.specs.Records.{flat_rows, flat_cells}
use Rattle.live.proofs.Edited.{inserted}
use Rattle.live.proofs.Fitted.{node-room, front-in}
use Rattle.live.proofs.Kept.{count-is}
use Rattle.live.proofs.Whole.{whole}
use Rattle.live.proofs.live_store.LiveTape.insert_node.Goals as goal

pub insert-requires-clause-order : goal.insert-requires-clause-order
insert-requires-clause-order c = omega (arith, c.requires.place.0, count-is c.args.self.now.memory (whole c.args.self.now))

pub insert-requires-clause-room : goal.insert-requires-clause-room
insert-requires-clause-room c = let r = node-room c.args.self.now.memory (whole c.args.self.now) c.requires.opened c.args.s.node c.args.depth c.requires.place.0 c.args.name.now c.requires.sound in r.0

pub insert-requires-2-clause-order : goal.insert-requires-2-clause-order
insert-requires-2-clause-order c = omega (arith, ap (λ x. x.at) c.requires.place.1, front-in c.args.self.now.memory (whole c.args.self.now) c.requires.opened c.args.s.node c.args.depth c.requires.place.0 c.args.name.now c.requires.sound)

pub insert-requires-2-clause-room : goal.insert-requires-2-clause-room
insert-requires-2-clause-room c = let r = node-room c.args.self.now.memory (whole c.args.self.now) c.requires.opened c.args.s.node c.args.depth c.requires.place.0 c.args.name.now c.requires.sound in r.1

pub node_weight-requires : goal.node_weight-requires
node_weight-requires c = let r = node-room c.args.self.now.memory (whole c.args.self.now) c.requires.opened c.args.s.node c.args.depth c.requires.place.0 c.args.name.now c.requires.sound in omega (arith, r.2)

pub overflow_add-memory : goal.overflow_add-memory
overflow_add-memory c = let r = node-room c.args.self.now.memory (whole c.args.self.now) c.requires.opened c.args.s.node c.args.depth c.requires.place.0 c.args.name.now c.requires.sound in omega (arith, r.3, c.node_weight.ensures)

pub invariant_of-self : goal.invariant_of-self
invariant_of-self c =
    let m = c.args.self.now.memory in
    let w = whole c.args.self.now in
    let x : Memory = record { nodes = c.insert.new.self; properties = m.properties; pool = c.insert-2.new.self; weight = m.weight + c.node_weight.result; boot = m.boot } in
    let r = (inserted m x w c.requires.opened c.args.s.node c.args.depth c.args.name.now c.args.s.at c.requires.place.0 (ap (λ t. t.at) c.requires.place.1) c.insert.ensures.items refl c.insert-2.ensures.items c.insert.ensures.kept refl c.insert-2.ensures.kept (ap (λ n. m.weight + n) c.node_weight.ensures) refl c.requires.sound).whole in
    record { rows = ap flat_rows r.rows; cells = ap flat_cells r.cells; bytes = r.bytes; weight = r.weight; room = r.room; sound = r.sound }

pub returns-clause-nodes : goal.returns-clause-nodes
returns-clause-nodes c =
    let m = c.args.self.now.memory in
    let w = whole c.args.self.now in
    let x : Memory = record { nodes = c.insert.new.self; properties = m.properties; pool = c.insert-2.new.self; weight = m.weight + c.node_weight.result; boot = m.boot } in
    (inserted m x w c.requires.opened c.args.s.node c.args.depth c.args.name.now c.args.s.at c.requires.place.0 (ap (λ t. t.at) c.requires.place.1) c.insert.ensures.items refl c.insert-2.ensures.items c.insert.ensures.kept refl c.insert-2.ensures.kept (ap (λ n. m.weight + n) c.node_weight.ensures) refl c.requires.sound).is
