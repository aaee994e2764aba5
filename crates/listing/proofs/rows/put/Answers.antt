use Rattle.std.proofs.Common.{◌≡◌, length, vec_items, ap, arith}
use Rattle.listing.proofs.Arranging.{put-before, put_over, placed-length}
use Rattle.listing.proofs.rows.put.Goals as goal

pub remove-requires : goal.remove-requires
remove-requires c =
    let n = placed-length c.as_slice.result.now in
    let h = c.in-Ok.ensures.0 in
    omega (arith, n, h, c.as_slice.ensures.len)

pub insert-requires : goal.insert-requires
insert-requires c =
    let n = placed-length c.as_slice.result.now in
    let h = c.in-Ok.ensures.0 in
    omega (arith, n, h, c.as_slice.ensures.len, c.remove.ensures.len)

pub insert-requires-in-Err : goal.insert-requires-in-Err
insert-requires-in-Err c =
    let n = placed-length c.as_slice.result.now in
    let h = c.in-Err.ensures.0 in
    omega (arith, n, h, c.as_slice.ensures.len)

pub returns-in_ok-insert-in-Ok : goal.returns-in_ok-insert-in-Ok
returns-in_ok-insert-in-Ok c =
    let v = c.as_slice.ensures.value in
    let n = placed-length c.as_slice.result.now in
    let l : length c.as_slice.result.now ≡ length (vec_items c.args.rows.now) = ap length v in
    let h = c.in-Ok.ensures.0 in
    let q = c.in-Ok.ensures.1 in
    put_over
    (vec_items c.args.rows.now)
    (vec_items c.remove.new.self)
    _
    c.args.row
    c.in-Ok.i
    _
    (omega (arith, n, h, l))
    c.remove.ensures.items
    c.in_ok-insert-in-Ok.ensures.items
    (rw v at q)

pub returns-in_ok-insert-in-Err : goal.returns-in_ok-insert-in-Err
returns-in_ok-insert-in-Err c =
    let v = c.as_slice.ensures.value in
    let q = c.in-Err.ensures.1 in
    put-before (vec_items c.args.rows.now) _ c.args.row c.in-Err.i _ c.in_ok-insert-in-Err.ensures.items (rw v at q)
