use Rattle.std.proofs.Common.{◌≡◌, ◌++◌, vec_items}
use Rattle.listing.specs.Page.{lines_of}
use Rattle.listing.specs.Rows.{held}
use Rattle.listing.proofs.page.push_rows.Given as goal

abbrev pub invariant-loop-place : goal.invariant-loop-place
invariant-loop-place l =
    vec_items l.out ++ lines_of (held l.place-iterator) ≡ vec_items l.initial.out ++ lines_of (held l.rows.entries)
