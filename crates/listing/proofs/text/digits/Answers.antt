use Rattle.std.proofs.Common.{◌∙◌, arith}
use Rattle.listing.proofs.Shows.{hex_byte}
use Rattle.listing.proofs.text.digits.Goals as goal

pub returns : goal.returns
returns c =
    let fits = c.ranges.b.fits in
    (rw c.unwrap.ensures at c.encode_to_slice.ensures.written) ∙ hex_byte c.args.b (omega arith)
