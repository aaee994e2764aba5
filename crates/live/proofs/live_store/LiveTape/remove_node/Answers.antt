use Rattle.std.proofs.Common.{◌-◌, refl, ap, arith}
use Rattle.std.proofs.lemmas.List.{nil_from_length}
use Rattle.tape.specs.Tapes.{properties_at}
use Rattle.tree.specs.Counting.{node_weight}
use Rattle.live.specs.declared.memory.Memory.{Memory}
use Rattle.live.specs.Records.{flat_rows, flat_cells, held}
use Rattle.live.proofs.Edited.{removed}
use Rattle.live.proofs.Kept.{at_spot, spot-at}
use Rattle.live.proofs.Moved.{weight-less}
use Rattle.live.proofs.Whole.{whole}
use Rattle.live.proofs.live_store.LiveTape.remove_node.Goals as goal

pub offset_bounds-memory-s : goal.offset_bounds-memory-s
offset_bounds-memory-s c = let f = at_spot c.args.self.now.memory (whole c.args.self.now) c.args.s c.requires.here in omega arith

pub bounds-memory-s : goal.bounds-memory-s
bounds-memory-s c = let f = at_spot c.args.self.now.memory (whole c.args.self.now) c.args.s c.requires.here in f.inside

pub remove-requires : goal.remove-requires
remove-requires c = let f = at_spot c.args.self.now.memory (whole c.args.self.now) c.args.s c.requires.here in record { order = omega arith }

pub remove-requires-2 : goal.remove-requires-2
remove-requires-2 c = let f = at_spot c.args.self.now.memory (whole c.args.self.now) c.args.s c.requires.here in record { order = omega arith }

pub node_weight-requires : goal.node_weight-requires
node_weight-requires c = let f = at_spot c.args.self.now.memory (whole c.args.self.now) c.args.s c.requires.here in omega arith

pub overflow_sub-memory : goal.overflow_sub-memory
overflow_sub-memory c =
    let m = c.args.self.now.memory in
    let f = at_spot m (whole c.args.self.now) c.args.s c.requires.here in
    let bare = nil_from_length (properties_at (held m) c.args.s.node) c.requires.bare in
    omega (arith, c.node_weight.ensures, ap node_weight f.name, (whole c.args.self.now).weight, weight-less (held m) c.args.s.node c.requires.here.inside bare)

pub invariant_of-self : goal.invariant_of-self
invariant_of-self c =
    let m = c.args.self.now.memory in
    let w = whole c.args.self.now in
    let h = c.requires.here in
    let f = at_spot m w c.args.s h in
    let x : Memory = record { nodes = c.remove.new.self; properties = m.properties; pool = c.remove-2.new.self; weight = m.weight - c.node_weight.result; boot = m.boot } in
    let r = (removed m x w (omega (arith, h.inside)) c.args.s.node _ c.args.s.at h.inside (spot-at m w c.args.s h) f.name c.requires.bare c.remove.ensures.items refl c.remove-2.ensures.items c.remove.ensures.kept refl c.remove-2.ensures.kept (ap (λ n. m.weight - n) c.node_weight.ensures) refl c.requires.sound).whole in
    record { rows = ap flat_rows r.rows; cells = ap flat_cells r.cells; bytes = r.bytes; weight = r.weight; room = r.room; sound = r.sound }

pub returns-clause-nodes : goal.returns-clause-nodes
returns-clause-nodes c =
    let m = c.args.self.now.memory in
    let w = whole c.args.self.now in
    let h = c.requires.here in
    let f = at_spot m w c.args.s h in
    let x : Memory = record { nodes = c.remove.new.self; properties = m.properties; pool = c.remove-2.new.self; weight = m.weight - c.node_weight.result; boot = m.boot } in
    (removed m x w (omega (arith, h.inside)) c.args.s.node _ c.args.s.at h.inside (spot-at m w c.args.s h) f.name c.requires.bare c.remove.ensures.items refl c.remove-2.ensures.items c.remove.ensures.kept refl c.remove-2.ensures.kept (ap (λ n. m.weight - n) c.node_weight.ensures) refl c.requires.sound).is
