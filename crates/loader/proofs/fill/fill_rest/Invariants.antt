use Rattle.std.proofs.Common.{◌≡◌}
use Rattle.names.specs.Paths.{root}
use Rattle.reader.specs.Handing.{ahead}
use Rattle.loader.specs.Trails.{path_on}
use Rattle.loader.specs.Writing.{run}
use Rattle.loader.proofs.fill.fill_rest.Given as goal

abbrev pub invariant-loop-item : goal.invariant-loop-item
invariant-loop-item g l =
    run (ahead l.item-iterator.blob.bytes.now l.item-iterator.blob.layout l.item-iterator.next) (path_on l.trail) (g.S.Readable.meaning l.store)
    ≡ run (ahead l.fn.tokens.blob.bytes.now l.fn.tokens.blob.layout l.fn.tokens.next) root (g.S.Readable.meaning l.fn.store)
