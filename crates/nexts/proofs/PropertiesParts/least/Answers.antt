use Rattle.std.proofs.Common.{map, sym, refl, ap, ◌∙◌, arith}
use Rattle.std.proofs.lemmas.Iterator.Consumers.{YieldsList-from_first}
use Rattle.store.specs.Calls.{least_after}
use Rattle.names.proofs.NameLaws.{property_names}
use Rattle.tape.specs.Iters.{properties_left, with_name}
use Rattle.nexts.proofs.Kin.{keys_of}
use Rattle.nexts.proofs.Members.{keys-named, keys-same, least-among}
use Rattle.nexts.proofs.PropertiesParts.least.Goals as goal

pub returns : goal.returns
returns g c p good is =
    let t = c.args.t.now in
    let ns = g.T.Tape.nodes t in
    let boot = g.T.Tape.boot t in
    let v = g.T.Tape.sound t in
    let n = c.args.after.now in
    let i = c.args.at.node in
    let h = c.requires.inside in
    let r = c.least_name.ensures _ (YieldsList-from_first with_name (properties_left g.T.Tape.nodes g.T.Tape.mark) _ refl).runs in
    let q = r ∙ ap (least_after n) (ap (map (λ y. y.1)) c.properties_of.ensures.left ∙ keys_of (g.T.Tape.mark t i) 0 _) in
    (q ∙ keys-same boot ns v p good i h is n, λ x z. let l = (property_names x (keys-named boot ns v p good i h is x (least-among n x _ (sym q ∙ z)))).2 in omega arith)
