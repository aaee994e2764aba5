use Rattle.std.proofs.Common.{arith}
use Rattle.std.proofs.lemmas.Bool.Decides.{nat_tests}
use Rattle.names.proofs.Words.{each-run}
use Rattle.names.proofs.names.is_word.Goals as goal

pub returns-then-is_word_length : goal.returns-then-is_word_length
returns-then-is_word_length g c =
    let h = each-run g.A.Alphabet.holds c.args.s.now in
    let k = c.if-is_word_length.ensures in
    grind (arith, nat_tests)
