use Rattle.std.proofs.Common.{rules, eqb, ap, ◌∙◌}
use Rattle.std.proofs.lemmas.Iterator.Search.{all_from_yields_List}
use Rattle.std.proofs.lemmas.Iterator.Splits.{YieldsList-from_slice_split}
use borrow.Author.Tests.{tests}
use Rattle.names.specs.Names.{each, node_name}
use Rattle.names.proofs.Walks.{parts-split}
use Rattle.names.proofs.Words.{each-all}
use Rattle.names.proofs.paths.are_node_names.Goals as goal

pub returns : goal.returns
returns c =
    all_from_yields_List node_name _ _ c.all.result c.all.ensures.ran (YieldsList-from_slice_split _ (λ b. eqb b 47) c.args.s.now c.split.ensures.rest c.split.ensures.done c.split.ensures.closure (λ x r q k. search (rules, tests))) (λ x b q k. search (rules, tests))
    ∙ each-all node_name _
    ∙ ap (each node_name) (parts-split c.args.s.now)
