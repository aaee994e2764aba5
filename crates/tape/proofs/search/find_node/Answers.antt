use Rattle.std.proofs.Common.{◌+◌, ◌-◌, [], ◌∷◌, ◌++◌, length, take, drop, sym, ap, ◌∙◌, subst, arith, rules}
use Rattle.std.proofs.lemmas.List.{take_rest}
use Rattle.names.specs.Paths.{stem}
use Rattle.tape.specs.Nodes.{Missing}
use Rattle.tape.specs.Tapes.{Located, stem_at}
use Rattle.tape.proofs.Descent.{long_enough, first-slash, root-only, not_root, root-stem, lost, arrived, onward}
use Rattle.tape.proofs.Sounds.{parts}
use Rattle.tape.proofs.search.find_node.Goals as goal

pub returns-then-path-eq1 : goal.returns-then-path-eq1
returns-then-path-eq1 g c =
    let t = c.args.t.now in
    let v = parts (g.T.Tape.boot t) (g.T.Tape.nodes t) (g.T.Tape.sound t) in
    let i = ap (λ s. s.node) c.start-at.ensures ∙ g.T.Tape.spotted t 0 in
    (record { inside = omega (arith, i, c.requires.opened); is = c.start-at.ensures ∙ ap (g.T.Tape.spot t) (sym i) }, ap (stem_at (g.T.Tape.nodes t)) i ∙ root-stem (g.T.Tape.nodes t) v.shape c.requires.opened ∙ sym (root-only c.args.path.now c.requires.path c.if-path-eq1.true))

pub slice_bounds-rest-count : goal.slice_bounds-rest-count
slice_bounds-rest-count g c = long_enough c.args.path.now c.requires.path

pub slice_bounds-rest-start : goal.slice_bounds-rest-start
slice_bounds-rest-start g c = let h = long_enough c.args.path.now c.requires.path in search rules

pub loop-at-init : goal.loop-at-init
loop-at-init g c =
    let t = c.args.t.now in
    let v = parts (g.T.Tape.boot t) (g.T.Tape.nodes t) (g.T.Tape.sound t) in
    let i = ap (λ s. s.node) c.start-at.ensures ∙ g.T.Tape.spotted t 0 in
    (record { inside = omega (arith, i, c.requires.opened); is = c.start-at.ensures ∙ ap (g.T.Tape.spot t) (sym i) }, ap (λ s. s ++ (47 ∷ take (length c.args.path.now - 1) (drop 1 c.args.path.now))) (ap (stem_at (g.T.Tape.nodes t)) i ∙ root-stem (g.T.Tape.nodes t) v.shape c.requires.opened) ∙ ap (λ s. 47 ∷ s) (take_rest c.args.path.now 1) ∙ first-slash c.args.path.now c.requires.path)

pub returns-in_err-at : goal.returns-in_err-at
returns-in_err-at g c =
    let t = c.args.t.now in
    let v = parts (g.T.Tape.boot t) (g.T.Tape.nodes t) (g.T.Tape.sound t) in
    let m = lost (g.T.Tape.nodes t) v.shape v.once (g.T.Tape.spot t) (g.T.Tape.spotted t) c.loop-at.at c.loop-at.invariant.0 c.loop-at.rest.now c.args.path.now c.loop-at.invariant.1 c.find-n.result c.find-n.ensures.value c.find-n.ensures.within c.find_child.result c.find_child.ensures c.in_err-at.was in
    subst (λ o. Located (g.T.Tape.nodes t) (g.T.Tape.spot t) (stem c.args.path.now) o) (sym c.from_residual.ensures) (subst (λ p. Missing p [] (g.T.Tape.nodes t)) (sym (not_root c.args.path.now c.if-path-eq1.false)) m)

pub returns-then-n-rest : goal.returns-then-n-rest
returns-then-n-rest g c =
    let t = c.args.t.now in
    let v = parts (g.T.Tape.boot t) (g.T.Tape.nodes t) (g.T.Tape.sound t) in
    let m = arrived (g.T.Tape.nodes t) v.shape v.once (g.T.Tape.spot t) (g.T.Tape.spotted t) c.loop-at.at c.loop-at.invariant.0 c.loop-at.rest.now c.args.path.now c.loop-at.invariant.1 c.find-n.result c.find-n.ensures.value c.find-n.ensures.within c.find_child.result c.find_child.ensures c.in_ok-at.at c.in_ok-at.was c.if-n-rest.true in
    (m.0, m.1 ∙ sym (not_root c.args.path.now c.if-path-eq1.false))

pub loop-at-preserved : goal.loop-at-preserved
loop-at-preserved g c =
    let t = c.args.t.now in
    let v = parts (g.T.Tape.boot t) (g.T.Tape.nodes t) (g.T.Tape.sound t) in
    let m = onward (g.T.Tape.nodes t) v.shape v.once (g.T.Tape.spot t) (g.T.Tape.spotted t) c.loop-at.at c.loop-at.invariant.0 c.loop-at.rest.now c.args.path.now c.loop-at.invariant.1 c.find-n.result c.find-n.ensures.value c.find-n.ensures.within c.find_child.result c.find_child.ensures c.in_ok-at.at c.in_ok-at.was (omega (arith, c.find-n.ensures.within, c.if-n-rest.false)) in
    (m.0, ap (λ x. stem_at (g.T.Tape.nodes t) c.in_ok-at.at.node ++ (47 ∷ x)) (take_rest c.loop-at.rest.now (c.find-n.result + 1)) ∙ m.1)
