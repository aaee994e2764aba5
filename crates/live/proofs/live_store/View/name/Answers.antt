use Rattle.std.proofs.Common.{arith, ◌∙◌}
use Rattle.live.proofs.Kept.{at_spot, spot-name}
use Rattle.live.proofs.Whole.{viewed}
use Rattle.live.proofs.live_store.View.name.Goals as goal

pub offset_bounds-memory-s : goal.offset_bounds-memory-s
offset_bounds-memory-s c = let f = at_spot c.args.self.now.memory.now (viewed c.args.self.now) c.args.s c.requires in omega arith

pub bounds-memory-s : goal.bounds-memory-s
bounds-memory-s c = let f = at_spot c.args.self.now.memory.now (viewed c.args.self.now) c.args.s c.requires in f.inside

pub part-requires : goal.part-requires
part-requires c = let f = at_spot c.args.self.now.memory.now (viewed c.args.self.now) c.args.s c.requires in omega arith

pub returns : goal.returns
returns c = let f = at_spot c.args.self.now.memory.now (viewed c.args.self.now) c.args.s c.requires in c.part.ensures ∙ spot-name c.args.self.now.memory.now (viewed c.args.self.now) c.args.s c.requires _ f.name
