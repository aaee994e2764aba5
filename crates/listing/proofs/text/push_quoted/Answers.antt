use Rattle.std.proofs.Common.{append_assoc}
use Rattle.listing.proofs.Shows.{shown-more}
use Rattle.listing.proofs.text.push_quoted.Goals as goal

pub loop-b-preserved : goal.loop-b-preserved
loop-b-preserved c =
    let m = shown-more _ _ c.loop-b-test.true in
    rw (c.in_ok-push_shown.ensures, c.loop-b.invariant, m) (simp append_assoc)
