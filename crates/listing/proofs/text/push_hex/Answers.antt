use Rattle.listing.proofs.Shows.{hex-more, hex-all}
use Rattle.listing.proofs.text.push_hex.Goals as goal

pub loop-b-preserved : goal.loop-b-preserved
loop-b-preserved c = hex-more _ _ _ _ _ _ c.loop-b-test.true c.loop-b.invariant c.digits.ensures c.in_ok-extend_from_slice.ensures.items

pub returns : goal.returns
returns c = hex-all _ _ _ _ c.loop-b-test.false c.loop-b.invariant
