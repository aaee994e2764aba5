use Rattle.std.proofs.Common.{sym, ap, ◌∙◌, refl, drop, arith}
use Rattle.std.specs.Option.{ok_or}
use Rattle.std.proofs.lemmas.Result.{err_from_is_err_and}
use Rattle.std.proofs.lemmas.Bool.Decides.{nat_tests}
use Rattle.blob.specs.declared.types.Refusal.TheVariants.{Limit}
use Rattle.reader.proofs.Begun.{among-has}
use Rattle.reader.proofs.Noting.{push-named, property-stands, property_within}
use Rattle.reader.proofs.Passing.{counted, uncounted}
use Rattle.reader.proofs.reader.Reader.read_property.Goals as goal

pub returns-then-not-is_property_name : goal.returns-then-not-is_property_name
returns-then-not-is_property_name c = λ ns s.
    let r = c.args.self.now in
    let here = property-stands r.blob.bytes.now r.blob.layout c.args.at c.args.name.now c.args.value.now _ c.requires.token.1 in
    let h = among-has r.blob.bytes.now c.args.name.now (drop c.args.base r.seen.at.items) ns here.full s in
    grind (arith, nat_tests)

pub returns-in_err-self : goal.returns-in_err-self
returns-in_err-self c = λ ns s.
    let r = c.args.self.now in
    let here = property-stands r.blob.bytes.now r.blob.layout c.args.at c.args.name.now c.args.value.now _ c.requires.token.1 in
    let h = among-has r.blob.bytes.now c.args.name.now (drop c.args.base r.seen.at.items) ns here.full s in
    let e = err_from_is_err_and c.from_residual.result c.from_residual.ensures.1 in
    let u = uncounted _ _ _ _ (sym c.in_err-self.was ∙ c.ok_or.ensures.value ∙ ap (λ o. ok_or o (Limit c.args.at)) c.adding_property.ensures) in
    rw (e.1, e.2) (grind (arith, nat_tests))

pub overflow_add-at : goal.overflow_add-at
overflow_add-at c = let w = property_within c.args.self.now.blob c.args.at c.args.name.now c.args.value.now _ c.requires.token.1 in omega arith

pub be32_at-requires : goal.be32_at-requires
be32_at-requires c = let w = property_within c.args.self.now.blob c.args.at c.args.name.now c.args.value.now _ c.requires.token.1 in omega arith

pub returns : goal.returns
returns c = λ ns s.
    let r = c.args.self.now in
    let here = property-stands r.blob.bytes.now r.blob.layout c.args.at c.args.name.now c.args.value.now _ c.requires.token.1 in
    let h = among-has r.blob.bytes.now c.args.name.now (drop c.args.base r.seen.at.items) ns here.full s in
    let k = counted _ _ _ _ (sym c.in_ok-self.was ∙ c.ok_or.ensures.value ∙ ap (λ o. ok_or o (Limit c.args.at)) c.adding_property.ensures) in
    let fits = k.0 in (
      grind (arith, nat_tests),
      k.1,
      refl,
      push-named r.blob.bytes.now c.args.base _ c.args.name.now ns r.seen.at.items _ c.requires.above c.push.ensures s (rw c.be32_at.ensures here),
    )
