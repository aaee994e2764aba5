use Rattle.std.proofs.Common.{ℕ, ◌-◌, ◌++◌, length, take, replicate, ap, ◌∙◌, append_assoc}
use Rattle.tree.specs.Numbers.{bytes32}
use Rattle.packed.proofs.putting.put_property.Goals as goal

pub returns-clause-items : goal.returns-clause-items
returns-clause-items c =
    let t = take c.args.out.now.used c.args.out.now.items.now in
    let k : ℕ = c.args.k in
    let v = c.args.value.now in
    let z : ℕ = c.rounded4.result - length v in
    c.put_zeros.ensures.items
    ∙ ap (λ u. u ++ replicate z 0) (c.append.ensures.items ∙ ap (λ u. u ++ v) (c.append32-3.ensures.items ∙ ap (λ u. u ++ bytes32 k) (c.append32-2.ensures.items ∙ ap (λ u. u ++ bytes32 (length v)) c.append32.ensures.items)))
    ∙ append_assoc (((t ++ bytes32 3) ++ bytes32 (length v)) ++ bytes32 k) v (replicate z 0)
    ∙ append_assoc ((t ++ bytes32 3) ++ bytes32 (length v)) (bytes32 k) (v ++ replicate z 0)
    ∙ append_assoc (t ++ bytes32 3) (bytes32 (length v)) (bytes32 k ++ (v ++ replicate z 0))
    ∙ append_assoc t (bytes32 3) (bytes32 (length v) ++ (bytes32 k ++ (v ++ replicate z 0)))
    ∙ ap (λ j. t ++ (bytes32 3 ++ (bytes32 (length v) ++ (bytes32 k ++ (v ++ replicate (j - length v) 0))))) c.rounded4.ensures
