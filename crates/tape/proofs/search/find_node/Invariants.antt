use Rattle.std.proofs.Common.{◌≡◌, ◌∷◌, ◌++◌, length}
use Rattle.tape.specs.Tapes.{Here, stem_at}
use Rattle.tape.proofs.search.find_node.Given as goal

abbrev pub invariant-loop-at : goal.invariant-loop-at
invariant-loop-at g l =
    Here (g.T.Tape.nodes l.t) (g.T.Tape.spot l.t) l.at × (stem_at (g.T.Tape.nodes l.t) l.at.node ++ (47 ∷ l.rest) ≡ l.path)

abbrev pub decreases-loop-at : goal.decreases-loop-at
decreases-loop-at g l = length l.rest
