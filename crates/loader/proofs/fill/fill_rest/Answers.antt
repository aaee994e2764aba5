use Rattle.std.proofs.Common.{Err, sym, ap, ◌∙◌}
use Rattle.std.proofs.lemmas.Result.{err_from_is_err_and}
use Rattle.loader.specs.Trails.{path_on}
use Rattle.loader.specs.Writing.{run}
use Rattle.loader.proofs.Steps.{run_more, run_stop, run_none}
use Rattle.loader.proofs.fill.fill_rest.Goals as goal

pub loop-item-preserved : goal.loop-item-preserved
loop-item-preserved g c =
    run_more _ _ _ _ _ _ c.in_ok-write_item.ensures.answer c.in_ok-write_item.ensures.path c.in_ok-write_item.ensures.after
    ∙ ap (λ xs. run xs (path_on c.loop-item.trail) (g.S.Readable.meaning c.loop-item.store)) (sym c.in-Some.ensures.steps.1) ∙ c.loop-item.invariant

pub returns-in_err-write_item : goal.returns-in_err-write_item
returns-in_err-write_item g c =
    let p = err_from_is_err_and c.from_residual.result c.from_residual.ensures.1 in
    (λ i. ((p.1 ∙ ap Err p.2) i, g.S.Readable.meaning c.write_item.new.store))
    ∙ run_stop _ _ _ _ _ _ c.in_err-write_item.ensures.answer c.in_err-write_item.ensures.after
    ∙ ap (λ xs. run xs (path_on c.loop-item.trail) (g.S.Readable.meaning c.loop-item.store)) (sym c.in-Some.ensures.steps.1) ∙ c.loop-item.invariant

pub returns : goal.returns
returns g c = run_none _ _ _ c.in-None.ensures.steps.1.0 ∙ c.loop-item.invariant
