use Rattle.std.proofs.Common.{arith}
use Rattle.live.proofs.Kept.{at_mark, behind-is}
use Rattle.live.proofs.Whole.{viewed}
use Rattle.live.proofs.live_store.View.behind.Goals as goal

pub offset_bounds-memory-m : goal.offset_bounds-memory-m
offset_bounds-memory-m c = let f = at_mark c.args.self.now.memory.now (viewed c.args.self.now) c.args.m c.requires in omega arith

pub bounds-memory-m : goal.bounds-memory-m
bounds-memory-m c = let f = at_mark c.args.self.now.memory.now (viewed c.args.self.now) c.args.m c.requires in f.inside

pub overflow_add-result : goal.overflow_add-result
overflow_add-result c = let f = at_mark c.args.self.now.memory.now (viewed c.args.self.now) c.args.m c.requires in omega arith

pub overflow_add-result-2 : goal.overflow_add-result-2
overflow_add-result-2 c = let f = at_mark c.args.self.now.memory.now (viewed c.args.self.now) c.args.m c.requires in omega arith

pub overflow_add-result-3 : goal.overflow_add-result-3
overflow_add-result-3 c = let f = at_mark c.args.self.now.memory.now (viewed c.args.self.now) c.args.m c.requires in omega arith

pub overflow_add-result-4 : goal.overflow_add-result-4
overflow_add-result-4 c = let f = at_mark c.args.self.now.memory.now (viewed c.args.self.now) c.args.m c.requires in omega arith

pub returns : goal.returns
returns c = let f = at_mark c.args.self.now.memory.now (viewed c.args.self.now) c.args.m c.requires in behind-is c.args.self.now.memory.now (viewed c.args.self.now) c.args.m c.requires _ _ f.name f.value
