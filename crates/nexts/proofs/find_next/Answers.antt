use Rattle.std.proofs.Common.{◌||◌, eqb, length, None, sym, ◌∙◌, arith, rules}
use Rattle.nexts.specs.Kids.{shown_name}
use Rattle.tape.proofs.Looks.{look_missing, look-node, arrived_at, strayed}
use Rattle.nexts.proofs.Asked.{next-absent, next-short, next-is, shown_ok, held_by}
use Rattle.nexts.proofs.find_next.Goals as goal

pub returns-in_err-at : goal.returns-in_err-at
returns-in_err-at g c = let e = c.in_err-at.ensures (eqb (length c.args.after.now) 0 || g.K.Parts.rule c.args.after.now) (λ r p. search rules) in search rules

pub least-requires : goal.least-requires
least-requires g c = (arrived_at (c.in_ok-at.ensures (eqb (length c.args.after.now) 0 || g.K.Parts.rule c.args.after.now) (λ r p. search rules)) c.in-Some.at c.in-Some.is).0

pub returns-in_default-clause-name : goal.returns-in_default-clause-name
returns-in_default-clause-name g c =
    let t = c.args.t.now in
    let ns = g.T.Tape.nodes t in
    let boot = g.T.Tape.boot t in
    let path = c.args.path.now in
    let e = c.in_ok-at.ensures (eqb (length c.args.after.now) 0 || g.K.Parts.rule c.args.after.now) (λ r p. search rules) in
    sym (next-absent g.K.Parts.rule g.K.Parts.on boot ns e.opened path c.args.after.now e.path e.named c.args.room (look_missing boot ns (g.T.Tape.sound t) path e.path (strayed e c.in_default.is) None))

pub returns-then-room-lt-NAME_ROOM-clause-name : goal.returns-then-room-lt-NAME_ROOM-clause-name
returns-then-room-lt-NAME_ROOM-clause-name g c =
    let t = c.args.t.now in
    let ns = g.T.Tape.nodes t in
    let boot = g.T.Tape.boot t in
    let path = c.args.path.now in
    let e = c.in_ok-at.ensures (eqb (length c.args.after.now) 0 || g.K.Parts.rule c.args.after.now) (λ r p. search rules) in
    let f = arrived_at e c.in-Some.at c.in-Some.is in
    sym (next-short g.K.Parts.rule g.K.Parts.on boot ns e.opened path c.args.after.now e.path e.named c.args.room (look-node boot ns (g.T.Tape.sound t) path e.path _ f.0.inside f.1) c.if-room-lt-NAME_ROOM.true)

pub returns : goal.returns
returns g c =
    let t = c.args.t.now in
    let ns = g.T.Tape.nodes t in
    let boot = g.T.Tape.boot t in
    let path = c.args.path.now in
    let e = c.in_ok-at.ensures (eqb (length c.args.after.now) 0 || g.K.Parts.rule c.args.after.now) (λ r p. search rules) in
    let f = arrived_at e c.in-Some.at c.in-Some.is in
    let l = c.least.ensures path e.path f.1 in
    record {
      name = shown_ok c.least.result ∙ sym (next-is g.K.Parts.rule g.K.Parts.on boot ns e.opened path c.args.after.now e.path e.named c.args.room (look-node boot ns (g.T.Tape.sound t) path e.path _ f.0.inside f.1) c.if-room-lt-NAME_ROOM.false (shown_name c.least.result) l.0);
      held = held_by c.least.result c.args.room (λ x z. let a = l.1 x z in let low = c.if-room-lt-NAME_ROOM.false in omega arith);
    }
