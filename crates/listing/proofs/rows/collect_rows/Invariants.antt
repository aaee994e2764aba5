use Rattle.std.proofs.Common.{◌≡◌, [], vec_items}
use Rattle.reader.specs.Handing.{ahead}
use Rattle.reader.specs.Reading.{entries}
use Rattle.tree.specs.Entries.{listed}
use Rattle.listing.specs.Rows.{placed, stacked, told}
use Rattle.listing.proofs.rows.collect_rows.Given as goal

abbrev pub invariant-loop-item : goal.invariant-loop-item
invariant-loop-item l =
    told (placed (vec_items l.collector.rows)) (stacked (vec_items l.collector.trail)) (ahead l.item-iterator.blob.bytes.now l.item-iterator.blob.layout l.item-iterator.next)
    ≡ listed (entries [] (ahead l.tokens.blob.bytes.now l.tokens.blob.layout l.tokens.next))
