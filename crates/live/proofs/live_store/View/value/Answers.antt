use Rattle.std.proofs.Common.{arith, ◌∙◌}
use Rattle.live.proofs.Kept.{at_mark, mark-value}
use Rattle.live.proofs.Whole.{viewed}
use Rattle.live.proofs.live_store.View.value.Goals as goal

pub offset_bounds-memory-m : goal.offset_bounds-memory-m
offset_bounds-memory-m c = let f = at_mark c.args.self.now.memory.now (viewed c.args.self.now) c.args.m c.requires in omega arith

pub bounds-memory-m : goal.bounds-memory-m
bounds-memory-m c = let f = at_mark c.args.self.now.memory.now (viewed c.args.self.now) c.args.m c.requires in f.inside

pub overflow_add-m : goal.overflow_add-m
overflow_add-m c = let f = at_mark c.args.self.now.memory.now (viewed c.args.self.now) c.args.m c.requires in omega arith

pub part-requires : goal.part-requires
part-requires c = let f = at_mark c.args.self.now.memory.now (viewed c.args.self.now) c.args.m c.requires in omega arith

pub returns : goal.returns
returns c = let f = at_mark c.args.self.now.memory.now (viewed c.args.self.now) c.args.m c.requires in c.part.ensures ∙ mark-value c.args.self.now.memory.now (viewed c.args.self.now) c.args.m c.requires _ _ f.name f.value
