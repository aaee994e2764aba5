use Rattle.std.proofs.Common.{Some, Ok, sym, ap, ◌∙◌}
use Rattle.tape.specs.Tapes.{properties_at, property_of}
use Rattle.tape.proofs.Looks.{value-at, look_missing, look-listed, property-none, property-some, arrived_at, strayed}
use Rattle.tape.proofs.questions.find_value.Goals as goal

pub returns-in_default : goal.returns-in_default
returns-in_default g c =
    let t = c.args.t.now in
    let ns = g.T.Tape.nodes t in
    let boot = g.T.Tape.boot t in
    let path = c.args.path.now in
    let name = c.args.name.now in
    let e = c.in_ok-at.ensures in
    sym (value-at boot ns path name e.opened e.path (sym c.is_property_name.ensures ∙ e.named) ∙ ap Ok (look_missing boot ns (g.T.Tape.sound t) path e.path (strayed e c.in_default.is) (Some name)))

pub returns-in_default-find_property : goal.returns-in_default-find_property
returns-in_default-find_property g c =
    let t = c.args.t.now in
    let ns = g.T.Tape.nodes t in
    let boot = g.T.Tape.boot t in
    let path = c.args.path.now in
    let name = c.args.name.now in
    let e = c.in_ok-at.ensures in
    let f = arrived_at e c.in-Some.at c.in-Some.is in
    let i = c.in-Some.at.node in
    sym (value-at boot ns path name e.opened e.path (sym c.is_property_name.ensures ∙ e.named) ∙ ap Ok (look-listed boot ns (g.T.Tape.sound t) path e.path i f.0.inside f.1 name ∙ property-none path name (properties_at ns i) c.in_default-find_property.ensures.owned))

pub returns : goal.returns
returns g c =
    let t = c.args.t.now in
    let ns = g.T.Tape.nodes t in
    let boot = g.T.Tape.boot t in
    let path = c.args.path.now in
    let name = c.args.name.now in
    let e = c.in_ok-at.ensures in
    let f = arrived_at e c.in-Some.at c.in-Some.is in
    let i = c.in-Some.at.node in
    let m = c.in-Some-find_property.m in
    let n = c.in-Some-find_property.ensures.owned in
    sym (value-at boot ns path name e.opened e.path (sym c.is_property_name.ensures ∙ e.named) ∙ ap Ok (look-listed boot ns (g.T.Tape.sound t) path e.path i f.0.inside f.1 name ∙ (property-some path name (properties_at ns i) m.number n.2).2 ∙ ap (λ j. Some (property_of ns j m.number).1) (sym n.1) ∙ sym (ap Some c.value.ensures)))
