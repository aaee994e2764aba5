use Rattle.std.proofs.Common.{◌≡◌, length, Less, Equal, sym, arith}
use Rattle.listing.proofs.Arranging.{seat_at, past_more, seat_last, placed-length}
use Rattle.listing.proofs.rows.seat.Goals as goal

pub returns-in-Less : goal.returns-in-Less
returns-in-Less c =
    let n = placed-length c.args.rows.now in
    (omega (arith, n, c.loop-i-test.true), seat_at c.args.rows.now c.args.row.now c.index-rows-i.result _ Less c.loop-i-test.true c.index-rows-i.is c.loop-i.invariant (sym c.in-Less.ensures))

pub returns-in-Equal : goal.returns-in-Equal
returns-in-Equal c =
    let n = placed-length c.args.rows.now in
    (omega (arith, n, c.loop-i-test.true), seat_at c.args.rows.now c.args.row.now c.index-rows-i.result _ Equal c.loop-i-test.true c.index-rows-i.is c.loop-i.invariant (sym c.in-Equal.ensures))

pub loop-i-preserved : goal.loop-i-preserved
loop-i-preserved c =
    past_more c.args.rows.now c.args.row.now c.index-rows-i.result _ c.loop-i-test.true c.index-rows-i.is c.loop-i.invariant (sym c.in-Greater.ensures)

pub returns : goal.returns
returns c =
    let n = placed-length c.args.rows.now in
    let e : c.loop-i.i ≡ length c.args.rows.now = omega arith in
    (omega (arith, n), seat_last c.args.rows.now c.args.row.now _ (omega arith) (rw e at c.loop-i.invariant))
