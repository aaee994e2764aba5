use Rattle.std.proofs.Common.{◌+◌, map, sym, refl, ap, ◌∙◌}
use Rattle.std.proofs.lemmas.Iterator.Consumers.{YieldsList-from_first}
use Rattle.store.specs.Calls.{least_after}
use Rattle.names.proofs.NameLaws.{node_names}
use Rattle.tape.specs.Iters.{children_left, with_name}
use Rattle.nexts.proofs.Kin.{kids_of}
use Rattle.nexts.proofs.Members.{kids-named, kids-same, least-among}
use Rattle.nexts.proofs.ChildrenParts.least.Goals as goal

pub returns : goal.returns
returns g c p good is =
    let t = c.args.t.now in
    let ns = g.T.Tape.nodes t in
    let boot = g.T.Tape.boot t in
    let v = g.T.Tape.sound t in
    let n = c.args.after.now in
    let i = c.args.at.node in
    let h = c.requires.inside in
    let r = c.least_name.ensures _ (YieldsList-from_first with_name (children_left g.T.Tape.nodes g.T.Tape.spot) _ refl).runs in
    let q = r ∙ ap (least_after n) (ap (map (λ y. y.1)) c.children_of.ensures.left ∙ kids_of (g.T.Tape.spot t) _ (i + 1) _) in
    (q ∙ kids-same boot ns v p good i h is n, λ x z. (node_names x (kids-named boot ns v p good i h is x (least-among n x _ (sym q ∙ z)))).2)
