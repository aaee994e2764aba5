use Rattle.std.proofs.Common.{◌≡◌, length, take, ap, ◌∙◌, arith}
use Rattle.names.specs.Paths.{parent}
use Rattle.loader.specs.Trails.{path_on}
use Rattle.loader.proofs.Buffers.{parent-short, parent-front}
use Rattle.loader.proofs.Trails.{some_parent}
use Rattle.loader.proofs.trail.Trail.leave.Goals as goal
use Rattle.loader.proofs.trail.Trail.leave.Goals.{After-parent_of-len}

-- how long the parent is
left : (c : After-parent_of-len) → length c.parent_of-len.result.now ≡ length (parent (path_on c.args.self.now))
left c = ap length (c.parent_of-len.ensures ∙ ap parent c.path.ensures)

pub invariant_of-self : goal.invariant_of-self
invariant_of-self c =
    let e = left (goal.at.invariant_of-self c).After-parent_of-len in
    let some = some_parent (path_on c.args.self.now) in
    let short = parent-short c.args.self.now in
    let least = c.args.self.now.least in
    let most = c.args.self.now.most in
    let held = c.args.self.now.held in
    record { least = omega arith; most = omega arith; slash = c.args.self.now.slash; held = omega arith }

pub returns : goal.returns
returns c =
    ap (λ n. take n c.args.self.now.bytes) (left (goal.at.returns c).After-parent_of-len) ∙ parent-front c.args.self.now
