use Rattle.std.proofs.Common.{ℕ, ◌-◌, ◌++◌, length, take, replicate, ap, ◌∙◌, append_assoc, arith}
use Rattle.tree.specs.Numbers.{bytes32}
use Rattle.packed.proofs.Grown.{padding}
use Rattle.packed.proofs.putting.put_begin.Goals as goal

pub returns-clause-items : goal.returns-clause-items
returns-clause-items c =
    let t = take c.args.out.now.used c.args.out.now.items.now in
    let name = c.args.name.now in
    let z : ℕ = c.rounded4.result - length name in
    let w = c.rounded4.ensures in
    c.put_zeros.ensures.items ∙ ap (λ v. v ++ replicate z 0) (c.append.ensures.items ∙ ap (λ v. v ++ name) c.append32.ensures.items)
    ∙ append_assoc (t ++ bytes32 1) name (replicate z 0)
    ∙ append_assoc t (bytes32 1) (name ++ replicate z 0)
    ∙ ap (λ v. t ++ (bytes32 1 ++ v)) (padding name z (omega arith))
