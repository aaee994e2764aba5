use Rattle.std.proofs.Common.{arith}
use Rattle.live.proofs.Kept.{at_spot, spot_row, first-is, next-is}
use Rattle.live.proofs.Whole.{viewed}
use Rattle.live.proofs.live_store.View.head.Goals as goal

pub offset_bounds-memory-s : goal.offset_bounds-memory-s
offset_bounds-memory-s c = let f = at_spot c.args.self.now.memory.now (viewed c.args.self.now) c.args.s c.requires in omega arith

pub bounds-memory-s : goal.bounds-memory-s
bounds-memory-s c = let f = at_spot c.args.self.now.memory.now (viewed c.args.self.now) c.args.s c.requires in f.inside

pub overflow_add-at : goal.overflow_add-at
overflow_add-at c = let f = at_spot c.args.self.now.memory.now (viewed c.args.self.now) c.args.s c.requires in omega arith

pub overflow_add-next : goal.overflow_add-next
overflow_add-next c = let f = at_spot c.args.self.now.memory.now (viewed c.args.self.now) c.args.s c.requires in omega arith

pub overflow_add-next-2 : goal.overflow_add-next-2
overflow_add-next-2 c = let f = at_spot c.args.self.now.memory.now (viewed c.args.self.now) c.args.s c.requires in omega arith

pub overflow_add-next-3 : goal.overflow_add-next-3
overflow_add-next-3 c = let f = at_spot c.args.self.now.memory.now (viewed c.args.self.now) c.args.s c.requires in omega arith

pub returns : goal.returns
returns c =
    let m = c.args.self.now.memory.now in
    let w = viewed c.args.self.now in
    let f = at_spot m w c.args.s c.requires in
    record {
      depth = λ j. (spot_row m w c.args.s c.requires j).depth;
      properties = f.properties;
      first = first-is m w c.args.s c.requires _ _ _ f.name f.properties f.bytes;
      next = next-is m w c.args.s c.requires _ _ _ f.name f.properties f.bytes;
    }
