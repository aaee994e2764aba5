use Rattle.std.proofs.Common.{sym, ◌∙◌, arith}
use Rattle.std.proofs.lemmas.Bool.Decides.{nat_tests}
use Rattle.names.proofs.Words.{name-one, name_fails, name-two}
use Rattle.names.proofs.names.is_node_name.Goals as goal

pub returns-then-n-s : goal.returns-then-n-s
returns-then-n-s c = c.is_word_length.ensures ∙ sym (name-one _ _ c.run-n.ensures.value c.if-n-s.true)

pub returns-then-s-n-ne-AT : goal.returns-then-s-n-ne-AT
returns-then-s-n-ne-AT c = sym (name_fails _ _ c.run-n.ensures.value (omega arith) c.if-s-n-ne-AT.true)

pub returns-then-is_word_length : goal.returns-then-is_word_length
returns-then-is_word_length c =
    let t = name-two _ _ c.run-n.ensures.value (omega arith) c.if-s-n-ne-AT.false in
    let k = c.if-is_word_length.ensures in
    grind (arith, nat_tests)

pub returns-else-is_word_length : goal.returns-else-is_word_length
returns-else-is_word_length c =
    let t = name-two _ _ c.run-n.ensures.value (omega arith) c.if-s-n-ne-AT.false in
    grind (arith, nat_tests)
