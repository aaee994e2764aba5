use Rattle.std.proofs.Common.{vec_items, ap, ◌∙◌}
use Rattle.tree.specs.Entries.{listed}
use Rattle.reader.specs.Reading.{entries_of}
use Rattle.listing.specs.Rows.{placed, held}
use Rattle.listing.proofs.Paging.{page-made}
use Rattle.listing.proofs.page.list_good.Goals as goal

pub returns : goal.returns
returns c =
    let f = c.args.flat.now in
    let s = c.tokens.ensures in
    page-made
    c.args.file.now
    f.blob.layout.boot
    f.counts
    (entries_of f.blob.bytes.now f.blob.layout)
    (placed (vec_items c.in_ok-collect_rows.field-0))
    (held c.in_ok-rows.rows.entries)
    (vec_items c.in_ok-out.out)
    (vec_items c.push_rows.new.out)
    f.tally
    (rw (c.boot_cpu.ensures, c.counts.ensures) at c.in_ok-out.ensures)
    (c.in_ok-collect_rows.ensures ∙ ap listed s.entries)
    c.in_ok-rows.ensures
    c.in_ok-push_rows.ensures
