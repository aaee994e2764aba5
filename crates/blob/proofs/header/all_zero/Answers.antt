use Rattle.std.proofs.Common.{rules, ◌∙◌}
use Rattle.std.proofs.lemmas.Iterator.{YieldsList-from_slice}
use Rattle.std.proofs.lemmas.Iterator.Search.{all_from_yields_List}
use borrow.Author.Tests.{tests}
use Rattle.names.proofs.Words.{each-all}
use Rattle.blob.specs.Header.{is_zero}
use Rattle.blob.proofs.header.all_zero.Goals as goal

pub returns : goal.returns
returns c =
    all_from_yields_List is_zero _ _ c.all.result c.all.ensures.ran (YieldsList-from_slice c.args.s.now c.iter.ensures.rest) (λ x b q k. search (rules, tests))
    ∙ each-all is_zero c.args.s.now
