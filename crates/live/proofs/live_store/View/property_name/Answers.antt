use Rattle.std.proofs.Common.{arith, ◌∙◌}
use Rattle.live.proofs.Kept.{at_mark, mark-name}
use Rattle.live.proofs.Whole.{viewed}
use Rattle.live.proofs.live_store.View.property_name.Goals as goal

pub offset_bounds-memory-m : goal.offset_bounds-memory-m
offset_bounds-memory-m c = let f = at_mark c.args.self.now.memory.now (viewed c.args.self.now) c.args.m c.requires in omega arith

pub bounds-memory-m : goal.bounds-memory-m
bounds-memory-m c = let f = at_mark c.args.self.now.memory.now (viewed c.args.self.now) c.args.m c.requires in f.inside

pub part-requires : goal.part-requires
part-requires c = let f = at_mark c.args.self.now.memory.now (viewed c.args.self.now) c.args.m c.requires in omega arith

pub returns : goal.returns
returns c = let f = at_mark c.args.self.now.memory.now (viewed c.args.self.now) c.args.m c.requires in c.part.ensures ∙ mark-name c.args.self.now.memory.now (viewed c.args.self.now) c.args.m c.requires _ f.name
