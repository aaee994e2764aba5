use Rattle.std.proofs.Common.{◌+◌, ◌≤◌, length, ap, ◌∙◌, arith, rules}
use Rattle.std.specs.List.{between}
use Rattle.names.specs.Names.{before}
use Rattle.packed.proofs.Places.{at_spot, name-length-is}
use Rattle.packed.proofs.reading.View.name_length.Goals as goal

pub overflow_add-from : goal.overflow_add-from
overflow_add-from c = let f = at_spot c.args.self.now c.args.s c.requires.here in omega (arith, c.requires.at)

pub overflow_add-to : goal.overflow_add-to
overflow_add-to c = let f = at_spot c.args.self.now c.args.s c.requires.here in omega arith

pub slice_bounds-find-count : goal.slice_bounds-find-count
slice_bounds-find-count c = let f = at_spot c.args.self.now c.args.s c.requires.here in omega (arith, c.requires.at)

pub slice_bounds-find-start : goal.slice_bounds-find-start
slice_bounds-find-start c =
    let f = at_spot c.args.self.now c.args.s c.requires.here in
    let low : c.args.at + 4 ≤ length c.as_bytes-bytes.result.now = omega (arith, c.requires.at, ap length c.as_bytes-bytes.ensures) in
    search rules

pub slice_bounds-find-end : goal.slice_bounds-find-end
slice_bounds-find-end c =
    let f = at_spot c.args.self.now c.args.s c.requires.here in
    let high : 56 + c.args.self.now.region.now.structure ≤ length c.as_bytes-bytes.result.now = omega (arith, ap length c.as_bytes-bytes.ensures) in
    search rules

pub returns : goal.returns
returns c = name-length-is c.args.self.now c.args.s c.requires.here c.args.at c.find.result c.requires.at (c.find.ensures.value ∙ ap (λ z. before 0 (between (c.args.at + 4) (56 + c.args.self.now.region.now.structure) z)) c.as_bytes-bytes.ensures)
