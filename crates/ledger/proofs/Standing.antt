-- Standing references refer to what they were meant for; the phandle rule holds; the promise over every history. Assumes nothing.
use Rattle.std.proofs.Common.{◌≡◌, true, false, List, [], ◌∷◌, ◌++◌, Some, sym, refl, ap, ◌∙◌, subst}
use Rattle.std.specs.List.{AllByRecursion}
use Rattle.tree.specs.Phandles.{phandle_rule}
use Rattle.tree.specs.Places.{Place}
use Rattle.tree.specs.Trees.{Tree, look}
use Rattle.overlay_rules.specs.Laws.{Rising, In, Valid, Fewer}
use Rattle.overlay_rules.specs.Overlays.{phandle_at, overlay_of}
use Rattle.overlay_rules.specs.Plans.{Plan, Reference, apply}
use Rattle.overlay_rules.specs.Records.{wrote}
use Rattle.overlay_rules.proofs.Asking.{ok_one}
use Rattle.overlay_rules.proofs.Checking.{passed}
use Rattle.overlay_rules.proofs.Journals.{look-out}
use Rattle.overlay_rules.proofs.Looks.{rule-valid, rule-from}
use Rattle.overlay_rules.proofs.References.{points}
use Rattle.overlay_rules.proofs.Rules.{keeps_valid}
use Rattle.overlay_rules.proofs.Touching.{plan-fewer, wrote_none}
use Rattle.ledger.specs.Ledgers.{Line, merge, merge_all, Ledger, ledger_tree, State, closed, opened, history}
use Rattle.ledger.specs.Invariants.{LineAt, Made, Kept}
use Rattle.ledger.specs.Promises.{Stands, Refers, Promise, Promised, EveryHistory, Invariant}
use Rattle.ledger.proofs.Keeping.{fresh_kept, step_kept, StateOf, history-kept}
use Rattle.ledger.proofs.Sounding.{tree-sound}
use Rattle.ledger.proofs.Striking.{merge-is, line-plan, rises_merge, rises-all, all_join}
use Rattle.ledger.proofs.Unplugging.{unplugs, made_at, made-behind, each_can_be_done}

-- ---- what lines keep

pub valid-merge : (t : Tree) (l : Line) (p : Plan) → Rising t → Valid t → LineAt t l p → Valid (merge t l.overlay l.offset)
valid-merge t l p r v m = subst Valid (sym (merge-is t l p m)) (keeps_valid t l.overlay l.offset p (passed l.overlay m.fit.1) (line-plan t l p m) r v)

pub valid-all : (ls : List Line) (t : Tree) → Rising t → Valid t → Made t ls → Valid (merge_all t ls)
unfolding Made merge_all
valid-all [] t r v m = v
valid-all (l ∷ ls) t r v m = valid-all ls _ (rises_merge t l.overlay l.offset r) (valid-merge t l m.0.0 r v m.0.1) m.1

-- phandles that are there stay
pub fewer-all : (ls : List Line) (t : Tree) → Rising t → Made t ls → Fewer t (merge_all t ls)
unfolding Made merge_all
fewer-all [] t r m q w h = h
fewer-all (l ∷ ls) t r m q w h =
    fewer-all ls _ (rises_merge t l.overlay l.offset r) m.1 q w
    (ap (λ z. look z (phandle_at q)) (merge-is t l m.0.0 m.0.1) ∙ plan-fewer t (overlay_of l.overlay) l.offset m.0.0 r (line-plan t l m.0.0 m.0.1) q w h)

-- a place that no line wrote keeps its value
pub unset-all : (ls : List Line) (t : Tree) (k : Place) → Rising t → Made t ls → AllByRecursion (λ y. wrote y.entries k ≡ false) ls → look (merge_all t ls) k ≡ look t k
unfolding Made merge_all
unset-all [] t k r m h = refl
unset-all (l ∷ ls) t k r m h =
    let p = m.0.0 in
    let lt = m.0.1 in
    unset-all ls _ k (rises_merge t l.overlay l.offset r) m.1 h.1
    ∙ ap (λ z. look z k) (merge-is t l p lt)
    ∙ look-out p.writes t k r (wrote_none p t k (subst (λ z. wrote z k ≡ false) lt.entries h.0))

-- ---- references

module _ (g : Ledger) (kept : Kept g) where
  rises : Rising g.base
  rises = kept.sound.rises

  pub refers : (f : Reference) → Stands g f → Refers (ledger_tree g) f
  unfolding merge_all Made rises
  refers f s =
      let T = merge_all g.base s.before in
      let rT = rises-all s.before g.base rises in
      let M = subst (Made g.base) s.lines kept.made in
      let x = made_at s.before g.base s.line s.later M in
      let B = made-behind s.before g.base (s.line ∷ s.later) M in
      let same : x.0 ≡ s.plan = ok_one (sym x.1.merges ∙ s.merges) in
      let vT = valid_before s.before (s.line ∷ s.later) g.base rises (rule-valid g.base kept.rule) M in
      let pt = points T s.line.overlay s.line.offset x.0 x.1.fit.0 (passed s.line.overlay x.1.fit.1) (line-plan T s.line x.0 x.1) rT vT f (subst (λ z. In f z.references) (sym same) s.refers) in
      let T2 = merge T s.line.overlay s.line.offset in
      let e : T2 ≡ apply x.0.writes T = merge-is T s.line x.0 x.1 in
      let r2 = rises_merge T s.line.overlay s.line.offset rT in
      let tree : ledger_tree g ≡ merge_all T2 s.later = ap (merge_all g.base) s.lines ∙ all_join s.before (s.line ∷ s.later) g.base in
      let here : look (ledger_tree g) f.place ≡ Some pt.value = ap (λ z. look z f.place) tree ∙ unset-all s.later T2 f.place r2 B.1 s.unset ∙ ap (λ z. look z f.place) e ∙ pt.value_is in
      let there : look (ledger_tree g) (phandle_at f.meant) ≡ Some pt.handle = ap (λ z. look z (phandle_at f.meant)) tree ∙ fewer-all s.later T2 r2 B.1 f.meant pt.handle (ap (λ z. look z (phandle_at f.meant)) e ∙ pt.handle_is) in
      record {
        points = record { value = pt.value; value_is = here; within = pt.within; handle = pt.handle; handle_is = there; number = pt.number };
        only = λ q w h n. kept.lawful q f.meant w pt.handle h there (n ∙ pt.number);
      }
    where
      valid_before : (ks ls : List Line) (t : Tree) → Rising t → Valid t → Made t (ks ++ ls) → Valid (merge_all t ks)
      valid_before [] ls t r v m = v
      valid_before (k ∷ ks) ls t r v m = valid_before ks ls (merge t k.overlay k.offset) (rises_merge t k.overlay k.offset r) (valid-merge t k m.0.0 r v m.0.1) m.1

  pub rule_kept : phandle_rule (ledger_tree g) ≡ true
  unfolding rises
  rule_kept = rule-from (ledger_tree g) (rises-all g.lines g.base rises) (valid-all g.lines g.base rises (rule-valid g.base kept.rule) kept.made) kept.lawful

  pub promise : Promise g
  promise = record {
    each = each_can_be_done g kept;
    sound = tree-sound g kept;
    rule = rule_kept;
    unplugs = λ n k. unplugs g kept n k;
    refers = refers;
  }

promised : (t : Tree) (b : State) → StateOf t b → Promised t b
promised t (closed u) h = h
promised t (opened g) h = (h.0, promise g h.1)

pub every_history : EveryHistory
every_history t calls s f = promised t (history (closed t) calls) (history-kept t s calls (closed t) f refl)

pub invariant : Invariant
invariant = record { opens = fresh_kept; steps = λ g k c f. step_kept g k c f; promises = promise }
