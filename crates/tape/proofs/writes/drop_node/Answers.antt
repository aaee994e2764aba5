use Rattle.std.proofs.Common.{None, sym, ◌∙◌}
use Rattle.tape.specs.Nodes.{meaning_of}
use Rattle.tape.proofs.Looks.{look_missing, arrived_at, strayed}
use Rattle.tape.proofs.Outcomes.{drop-absent, drop-root, drop-busy, drop-done, drop-valid, drop-after}
use Rattle.tape.proofs.writes.drop_node.Goals as goal
use Rattle.tape.proofs.writes.drop_node.Goals.{then-path-eq1-via-then-path-eq1, then-path-eq1-via-else-path-eq1+then-is_busy}

pub returns-in_default-clause-answer : goal.returns-in_default-clause-answer
returns-in_default-clause-answer g c =
    let t = c.args.t.now in
    let ns = g.T.Tape.nodes t in
    let boot = g.T.Tape.boot t in
    let v = g.T.Tape.sound t in
    let path = c.args.path.now in
    let e = c.in_ok-at.ensures in
    drop-absent boot ns v e.opened path e.path (look_missing boot ns v path e.path (strayed e c.in_default.is) None)

pub returns-then-path-eq1-clause-answer : goal.returns-then-path-eq1-clause-answer
returns-then-path-eq1-clause-answer g c =
    let t = c.args.t.now in
    let ns = g.T.Tape.nodes t in
    let boot = g.T.Tape.boot t in
    let v = g.T.Tape.sound t in
    let path = c.args.path.now in
    let e = c.in_ok-at.ensures in
    let f = arrived_at e c.in-Some.at c.in-Some.is in
    elim c.then-path-eq1.branch [
      | then-path-eq1-via-then-path-eq1 w ↦ drop-root boot ns v e.opened path e.path c.in-Some.at.node f.0.inside f.1 w.if-path-eq1.true
      | then-path-eq1-via-else-path-eq1+then-is_busy w ↦ drop-busy boot ns v e.opened path e.path c.in-Some.at.node f.0.inside f.1 (sym w.if-is_busy.ensures)
    ]

pub remove_node-requires-clause-sound : goal.remove_node-requires-clause-sound
remove_node-requires-clause-sound g c =
    let t = c.args.t.now in
    let ns = g.T.Tape.nodes t in
    let e = c.in_ok-at.ensures in
    let f = arrived_at e c.in-Some.at c.in-Some.is in
    drop-valid (g.T.Tape.boot t) ns (g.T.Tape.sound t) e.opened c.args.path.now e.path c.in-Some.at.node f.0.inside f.1 c.if-path-eq1.false (sym c.if-is_busy.ensures)

pub returns-clause-answer : goal.returns-clause-answer
returns-clause-answer g c =
    let t = c.args.t.now in
    let ns = g.T.Tape.nodes t in
    let e = c.in_ok-at.ensures in
    let f = arrived_at e c.in-Some.at c.in-Some.is in
    drop-done (g.T.Tape.boot t) ns (g.T.Tape.sound t) e.opened c.args.path.now e.path c.in-Some.at.node f.0.inside f.1 c.if-path-eq1.false (sym c.if-is_busy.ensures)

pub returns-clause-after : goal.returns-clause-after
returns-clause-after g c =
    let t = c.args.t.now in
    let ns = g.T.Tape.nodes t in
    let e = c.in_ok-at.ensures in
    let f = arrived_at e c.in-Some.at c.in-Some.is in
    (λ j. meaning_of (c.remove_node.ensures.boot j) (c.remove_node.ensures.nodes j)) ∙ drop-after (g.T.Tape.boot t) ns (g.T.Tape.sound t) e.opened c.args.path.now e.path c.in-Some.at.node f.0.inside f.1 c.if-path-eq1.false (sym c.if-is_busy.ensures)
