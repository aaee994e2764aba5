use Rattle.std.proofs.Common.{drop, sym, ap, ◌∙◌}
use Rattle.names.specs.Paths.{root}
use Rattle.loader.specs.Writing.{run}
use Rattle.loader.proofs.Steps.{run_none, run_loads}
use Rattle.loader.proofs.fill.fill.Goals as goal

pub returns-in-Some : goal.returns-in-Some
returns-in-Some g c =
    let w = c.fill_rest.ensures ∙ ap (λ xs. run (drop 1 xs) root (g.S.Readable.meaning c.args.store.now)) (sym c.in-Some.ensures.steps.1) in
    record { loads = run_loads _ _ _ _ w; writes = w }

pub returns-in-None : goal.returns-in-None
returns-in-None g c =
    let w = run_none _ root (g.S.Readable.meaning c.args.store.now) (ap (drop 1) c.in-None.ensures.steps.1.0) in
    record { loads = run_loads _ _ _ _ w; writes = w }
