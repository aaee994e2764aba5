use Rattle.std.proofs.Common.{rules, ◌≡◌, ◌+◌, ◌<◌, ◌≤◌, ℕ, length, get_or}
use Rattle.names.proofs.Walks.{slash-found, slash-none, plain-behind}
use Rattle.names.proofs.paths.leaf_start.Goals as goal

pub returns-in-Some-clause-value : goal.returns-in-Some-clause-value
returns-in-Some-clause-value c =
    let here : get_or c.args.path.now c.in-Some.i 0 ≡ 47 = search rules in
    let after : (k : ℕ) → c.in-Some.i + 1 ≤ k → k < length c.args.path.now → get_or c.args.path.now k 0 ≡ 47 → ⊥ = search rules in
    slash-found c.args.path.now c.in-Some.i (search rules) (plain-behind c.args.path.now (c.in-Some.i + 1) after) here

pub returns-in-None-clause-value : goal.returns-in-None-clause-value
returns-in-None-clause-value c =
    let none : (k : ℕ) → 0 ≤ k → k < length c.args.path.now → get_or c.args.path.now k 0 ≡ 47 → ⊥ = search rules in
    slash-none c.args.path.now (plain-behind c.args.path.now 0 none)
