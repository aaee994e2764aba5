use Rattle.std.proofs.Common.{[], sym, ap, ◌∙◌, arith}
use Rattle.blob.specs.Lexing.{tokens_from}
use Rattle.reader.specs.Verdict.{verdict}
use Rattle.reader.proofs.Exact.{exact, tallied, ordered, called, grown}
use Rattle.reader.proofs.read.read.Goals as goal

pub returns-in_err-layout-clause-exact : goal.returns-in_err-layout-clause-exact
returns-in_err-layout-clause-exact c = exact c.args.bytes.now

pub returns-in_err-counts-clause-exact : goal.returns-in_err-counts-clause-exact
returns-in_err-counts-clause-exact c = exact c.args.bytes.now

pub invariant_of-result : goal.invariant_of-result
invariant_of-result c =
    let bs = c.args.bytes.now in
    let l = c.in_ok-layout.layout in
    let v = ap (λ d. verdict [] d (tokens_from bs l l.start)) (sym c.zero.ensures) ∙ sym c.in_ok-counts.ensures in
    record {
      laid = sym c.in_ok-layout.ensures.value;
      tally = tallied bs l c.in_ok-counts.counts v;
      listed = ordered bs l c.in_ok-counts.counts v;
      named = called bs l c.in_ok-counts.counts v;
    }

pub returns-clause-tree : goal.returns-clause-tree
returns-clause-tree c =
    let bs = c.args.bytes.now in
    let l = c.in_ok-layout.layout in
    grown bs l c.in_ok-counts.counts (ap (λ d. verdict [] d (tokens_from bs l l.start)) (sym c.zero.ensures) ∙ sym c.in_ok-counts.ensures) (omega arith)

pub returns-clause-exact : goal.returns-clause-exact
returns-clause-exact c = exact c.args.bytes.now
