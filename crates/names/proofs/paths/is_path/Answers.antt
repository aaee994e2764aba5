use Rattle.std.proofs.Common.{rules, sym, ◌∙◌, arith}
use Rattle.names.proofs.Walks.{path_empty, path-other, path-root, path_names}
use Rattle.names.proofs.paths.is_path.Goals as goal

pub returns-in-47 : goal.returns-in-47
returns-in-47 c = sym (path-root c.args.s.now (search rules) (omega arith))

pub returns-in-47-2 : goal.returns-in-47-2
returns-in-47-2 c = c.are_node_names.ensures ∙ sym (path_names c.args.s.now (search rules) (λ e. omega arith))

pub returns-in_default : goal.returns-in_default
returns-in_default c = sym (path_empty c.args.s.now (omega arith))

pub returns-in_default-2 : goal.returns-in_default-2
returns-in_default-2 c = sym (path-other c.args.s.now (λ e. search rules))

pub returns-in_default-3 : goal.returns-in_default-3
returns-in_default-3 c = sym (path-other c.args.s.now (λ e. search rules))
