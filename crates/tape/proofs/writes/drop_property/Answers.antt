use Rattle.std.proofs.Common.{◌≡◌, None, Err, sym, ◌∙◌, subst, rules}
use Rattle.store.specs.declared.Refusal.TheVariants.{Absent}
use Rattle.tape.specs.Tapes.{Owned}
use Rattle.tape.specs.Nodes.{meaning_of}
use Rattle.tape.proofs.Limits.{refused}
use Rattle.tape.proofs.Looks.{look_missing, arrived_at, strayed}
use Rattle.tape.proofs.Outcomes.{unset-no-node, unset-none, unset-done, unset-valid, unset-after}
use Rattle.tape.proofs.writes.drop_property.Goals as goal

pub returns-in_default-clause-answer : goal.returns-in_default-clause-answer
returns-in_default-clause-answer g c =
    let t = c.args.t.now in
    let ns = g.T.Tape.nodes t in
    let boot = g.T.Tape.boot t in
    let v = g.T.Tape.sound t in
    let path = c.args.path.now in
    let e = c.in_ok-at.ensures in
    unset-no-node boot ns v e.opened path e.path c.args.name.now (sym c.is_property_name.ensures ∙ e.named) (look_missing boot ns v path e.path (strayed e c.in_default.is) None)

pub returns-in_err-m-clause-answer : goal.returns-in_err-m-clause-answer
returns-in_err-m-clause-answer g c =
    let t = c.args.t.now in
    let ns = g.T.Tape.nodes t in
    let e = c.in_ok-at.ensures in
    let f = arrived_at e c.in-Some.at c.in-Some.is in
    let r = refused Absent c.find_property.result c.in_err-m.field-0.0 c.in_err-m.ensures.value in
    let gone = subst (Owned ns (g.T.Tape.mark t) c.in-Some.at.node c.args.name.now) r.0 c.find_property.ensures.owned in
    let absent = r.1 in
    let said : c.from_residual-in_err-m.result ≡ Err Absent = search rules in
    said ∙ unset-none (g.T.Tape.boot t) ns (g.T.Tape.sound t) e.opened c.args.path.now e.path c.args.name.now (sym c.is_property_name.ensures ∙ e.named) c.in-Some.at.node f.0.inside f.1 gone

pub remove_property-requires-clause-sound : goal.remove_property-requires-clause-sound
remove_property-requires-clause-sound g c =
    let t = c.args.t.now in
    let ns = g.T.Tape.nodes t in
    let e = c.in_ok-at.ensures in
    let f = arrived_at e c.in-Some.at c.in-Some.is in
    let own = subst (Owned ns (g.T.Tape.mark t) c.in-Some.at.node c.args.name.now) c.in_ok-m.ensures.ok_part c.find_property.ensures.owned in
    unset-valid (g.T.Tape.boot t) ns (g.T.Tape.sound t) e.opened c.args.path.now e.path c.args.name.now (sym c.is_property_name.ensures ∙ e.named) c.in-Some.at.node f.0.inside f.1 c.in_ok-m.m.number own.2

pub returns-clause-answer : goal.returns-clause-answer
returns-clause-answer g c =
    let t = c.args.t.now in
    let ns = g.T.Tape.nodes t in
    let e = c.in_ok-at.ensures in
    let f = arrived_at e c.in-Some.at c.in-Some.is in
    let own = subst (Owned ns (g.T.Tape.mark t) c.in-Some.at.node c.args.name.now) c.in_ok-m.ensures.ok_part c.find_property.ensures.owned in
    unset-done (g.T.Tape.boot t) ns (g.T.Tape.sound t) e.opened c.args.path.now e.path c.args.name.now (sym c.is_property_name.ensures ∙ e.named) c.in-Some.at.node f.0.inside f.1 c.in_ok-m.m.number own.2

pub returns-clause-after : goal.returns-clause-after
returns-clause-after g c =
    let t = c.args.t.now in
    let ns = g.T.Tape.nodes t in
    let e = c.in_ok-at.ensures in
    let f = arrived_at e c.in-Some.at c.in-Some.is in
    let own = subst (Owned ns (g.T.Tape.mark t) c.in-Some.at.node c.args.name.now) c.in_ok-m.ensures.ok_part c.find_property.ensures.owned in
    (λ j. meaning_of (c.remove_property.ensures.boot j) (c.remove_property.ensures.nodes j))
    ∙ unset-after (g.T.Tape.boot t) ns (g.T.Tape.sound t) e.opened c.args.path.now e.path c.args.name.now (sym c.is_property_name.ensures ∙ e.named) c.in-Some.at.node f.0.inside f.1 c.in_ok-m.m.number own.2
