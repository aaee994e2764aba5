use Rattle.ledger.proofs.Standing.{invariant}
use Rattle.ledger.proofs.invariant_is_kept.Goals as goal

pub returns : goal.returns
returns c = invariant
