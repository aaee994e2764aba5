-- The trees of a ledger are trees by the rules, also while a line is restored. Assumes nothing.
use Rattle.std.proofs.Common.{◌≡◌, ℕ, ◌+◌, ◌≤◌, true, false, List, [], ◌∷◌, ◌++◌, Some, None, Ok, sym, refl, ap, ◌∙◌, subst, ⊎_elim, arith}
use Rattle.std.proofs.lemmas.List.{append-nil}
use Rattle.std.proofs.lemmas.Bool.{leb-true}
use Rattle.tree.specs.Entries.{Entry, listed}
use Rattle.tree.specs.Maps.{total}
use Rattle.tree.specs.Phandles.{largest_phandle}
use Rattle.tree.specs.Places.{Bytes, Place, node_at}
use Rattle.tree.specs.Trees.{Places, Tree, look, node_count, property_count, weigh, Sound}
use Rattle.overlay_rules.specs.Laws.{Rising, In, Fewer, Free, Off}
use Rattle.overlay_rules.specs.Overlays.{overlay_of, symbols_path, phandle_at}
use Rattle.overlay_rules.specs.Plans.{Share, share_of, shared, Plan, apply}
use Rattle.overlay_rules.specs.Queries.{run}
use Rattle.overlay_rules.specs.Records.{wrote}
use Rattle.overlay_rules.proofs.Lists.{all-at, all_left, in_left, in_right}
use Rattle.overlay_rules.proofs.Looks.{tree-ext}
use Rattle.overlay_rules.proofs.Checking.{passed}
use Rattle.overlay_rules.proofs.Journals.{Distinct, rises-apply, boot-apply, hits_or_free, look-out, look_in, look-from, back, rises-back, boot-back, back_in, back-out}
use Rattle.overlay_rules.proofs.Planning.{Planned}
use Rattle.overlay_rules.proofs.Touching.{writes-is, plan-fewer, wrote_none}
use Rattle.overlay_rules.proofs.Shapes.{Shape, shape_of, Grows, grown, grows-front, node_stays, cost_join, total-apply, sound-from}
use Rattle.overlay_rules.proofs.Growing.{plan_grows, share_is, cost_share}
use Rattle.ledger.specs.Ledgers.{Line, line, plan_at, merge, merge_all, sum, room, blocker, Ledger, ledger_tree}
use Rattle.ledger.specs.Invariants.{Fit, LineAt, Made, Kept}
use Rattle.ledger.proofs.Sockets.{sum_join, room-is}
use Rattle.ledger.proofs.Striking.{merge-is, line-plan, rises_merge, rises-all, boot-all, all_join, follow, Followed}
use Rattle.ledger.proofs.Unplugging.{made-behind}

-- ---- shapes

line-grows : (t : Tree) (l : Line) (p : Plan) → Shape t → look t (node_at symbols_path) ≡ Some [] → LineAt t l p → Grows t p.writes
line-grows t l p s y m = plan_grows t l.overlay l.offset p m.fit.0 (passed l.overlay m.fit.1) (line-plan t l p m) s y

shape-merge : (t : Tree) (l : Line) (p : Plan) → Shape t → look t (node_at symbols_path) ≡ Some [] → LineAt t l p → Shape (merge t l.overlay l.offset) × (look (merge t l.overlay l.offset) (node_at symbols_path) ≡ Some [])
shape-merge t l p s y m =
    let g = line-grows t l p s y m in
    let e = merge-is t l p m in
    (subst Shape (sym e) (grown p.writes t s g), ap (λ z. look z (node_at symbols_path)) e ∙ node_stays p.writes t (node_at symbols_path) s.rises g refl y)

pub shape-all : (ls : List Line) (t : Tree) → Shape t → look t (node_at symbols_path) ≡ Some [] → Made t ls → Shape (merge_all t ls) × (look (merge_all t ls) (node_at symbols_path) ≡ Some [])
unfolding Made merge_all
shape-all [] t s y m = (s, y)
shape-all (l ∷ ls) t s y m = let x = shape-merge t l m.0.0 s y m.0.1 in shape-all ls (merge t l.overlay l.offset) x.0 x.1 m.1

-- ---- counts

-- a count of places, and the same of a share
pub record Count : Type 0 where
  pub of : Place → Bytes → ℕ
  pub share : Share → ℕ
  pub is : (ps : Places) → share (share_of ps) ≡ total of ps

abbrev count-nodes : Count
count-nodes = record { of = node_count; share = λ s. s.nodes; is = λ ps. refl }

abbrev count-properties : Count
count-properties = record { of = property_count; share = λ s. s.properties; is = λ ps. refl }

abbrev count-weight : Count
count-weight = record { of = weigh; share = λ s. s.weight; is = λ ps. refl }

module _ (c : Count) where
  cost_line : (t : Tree) (l : Line) (p : Plan) → Shape t → LineAt t l p → total c.of (listed p.writes) ≤ c.share l.share
  cost_line t l p s m =
      let pl = line-plan t l p m in
      let ps = passed l.overlay m.fit.1 in
      let a = cost_share t l.overlay l.offset p m.fit.0 ps pl s c.of in
      let b : c.share l.share ≡ total c.of (listed (shared pl.env l.offset pl.ls (overlay_of l.overlay))) = ap c.share (m.share ∙ sym (share_is t l.overlay l.offset p m.fit.0 ps pl s)) ∙ c.is _ in
      omega (arith, a, b)

  total-all : (ls : List Line) (t : Tree) → Shape t → look t (node_at symbols_path) ≡ Some [] → Made t ls → total c.of (merge_all t ls).places ≤ total c.of t.places + sum (λ l. c.share l.share) ls
  unfolding Made merge_all sum
  total-all [] t s y m = omega arith
  total-all (l ∷ ls) t s y m =
      let p = m.0.0 in
      let x = shape-merge t l p s y m.0.1 in
      let ih = total-all ls (merge t l.overlay l.offset) x.0 x.1 m.1 in
      let e = ap (λ z. total c.of z.places) (merge-is t l p m.0.1) in
      let a = total-apply c.of p.writes t in
      let b = cost_line t l p s m.0.1 in
      omega (arith, ih, e, a, b)

pub made-front : (ks ls : List Line) (t : Tree) → Made t (ks ++ ls) → Made t ks
unfolding Made
made-front [] ls t m = tt
made-front (k ∷ ks) ls t m = (m.0, made-front ks ls (merge t k.overlay k.offset) m.1)

-- ---- a line cut to its first writes, with the lines after it

-- T the tree before the line, ws its first writes and vs the rest, S the tree with all lines
module _ (T : Tree) (x : Line) (p : Plan) (later : List Line) (s : Shape T) (y : look T (node_at symbols_path) ≡ Some []) (m : LineAt T x p)
    (made : Made (merge T x.overlay x.offset) later) (free : blocker x.entries later ≡ None) (ws vs : List Entry) (cut : p.writes ≡ ws ++ vs) where
  r : Rising T
  r = s.rises

  pl : Planned T (overlay_of x.overlay) x.offset p
  pl = line-plan T x p m

  all-distinct : Distinct (ws ++ vs)
  unfolding pl
  all-distinct = subst Distinct (writes-is T (overlay_of x.overlay) x.offset p (line-plan T x p m) ∙ cut) (line-plan T x p m).allows.distinct

  full : merge T x.overlay x.offset ≡ apply (ws ++ vs) T
  full = merge-is T x p m ∙ ap (λ z. apply z T) cut

  wx : (k : Place) → wrote x.entries k ≡ false → Free (ws ++ vs) k
  wx k h = subst (λ z. Free z k) cut (wrote_none p T k (subst (λ z. wrote z k ≡ false) m.entries h))

  distinct-front : (xs ys : List Entry) → Distinct (xs ++ ys) → Distinct xs
  distinct-front [] ys d = tt
  distinct-front (e ∷ xs) ys d = (all_left _ xs ys d.0, distinct-front xs ys d.1)

  -- a place of the rest is none of the first ones
  apart : (xs ys : List Entry) (e : Entry) → Distinct (xs ++ ys) → In e ys → Free xs e.place
  apart [] ys e d i = tt
  apart (a ∷ xs) ys e d i = ((λ q. all-at (λ b. a.place ≡ b.place → ⊥) e (xs ++ ys) d.0 (in_right e xs ys i) (sym q)), apart xs ys e d.1 i)

  short : Tree
  short = apply ws T

  off : Off (ws ++ vs) (apply ws T) (merge T x.overlay x.offset)
  off k f = look-out ws T k s.rises (all_left _ ws vs f) ∙ sym (look-out (ws ++ vs) T k s.rises f) ∙ ap (λ z. look z k) (sym full)

  fewer : Fewer (apply ws T) (merge T x.overlay x.offset)
  unfolding all-distinct
  fewer q v h = ap (λ z. look z (phandle_at q)) full ∙ ⊎_elim
      (λ a. ap (λ z. look (apply z T) (phandle_at q)) (sym cut) ∙ plan-fewer T (overlay_of x.overlay) x.offset p s.rises (line-plan T x p m) q v a)
      (λ a. ap (look (apply (ws ++ vs) T)) a.2 ∙ look_in (ws ++ vs) T a.0 s.rises all-distinct (in_left a.0 ws vs a.1) ∙ ap Some (sym a.3))
      (look-from ws T (phandle_at q) v s.rises h)

  cut-follow : Followed (ws ++ vs) x.entries wx (apply ws T) (merge T x.overlay x.offset) later
  cut-follow = follow (ws ++ vs) x.entries wx later (apply ws T) (merge T x.overlay x.offset) (rises-apply ws T s.rises) (rises_merge T x.overlay x.offset s.rises) off fewer free made

  -- where the line wrote, the later ones leave what it wrote
  full-follow : Followed (ws ++ vs) x.entries wx (merge T x.overlay x.offset) (merge T x.overlay x.offset) later
  full-follow = follow (ws ++ vs) x.entries wx later (merge T x.overlay x.offset) (merge T x.overlay x.offset) (rises_merge T x.overlay x.offset s.rises) (rises_merge T x.overlay x.offset s.rises) (λ k f. refl) (λ q v h. h) free made

  pub cut-tree : back T vs (merge_all (merge T x.overlay x.offset) later) ≡ merge_all (apply ws T) later
  unfolding all-distinct cut-follow full-follow
  cut-tree =
      let S = merge_all (merge T x.overlay x.offset) later in
      let rS = rises-all later (merge T x.overlay x.offset) (rises_merge T x.overlay x.offset s.rises) in
      let rc = rises-all later (apply ws T) (rises-apply ws T s.rises) in
      tree-ext (back T vs S) (merge_all (apply ws T) later)
      (boot-back T vs S ∙ boot-all later (merge T x.overlay x.offset) ∙ ap (λ z. z.boot) full ∙ boot-apply (ws ++ vs) T ∙ sym (boot-apply ws T) ∙ sym (boot-all later (apply ws T)))
      (rises-back T vs S rS) rc
      (λ k. ⊎_elim
      (λ h.
      let e = h.0 in
      ap (look (back T vs S)) h.2 ∙ back_in T vs S e rS h.1 ∙ sym (look-out ws T e.place s.rises (apart ws vs e all-distinct h.1)) ∙ sym (cut-follow.stays e (in_right e ws vs h.1)) ∙ ap (look (merge_all (apply ws T) later)) (sym h.2))
      (λ f. back-out T vs S k rS f ∙ ⊎_elim
      (λ h.
      let e = h.0 in
      let i = in_left e ws vs h.1 in
      ap (look S) h.2
      ∙ full-follow.stays e i ∙ ap (λ z. look z e.place) full ∙ look_in (ws ++ vs) T e s.rises all-distinct i
      ∙ sym (cut-follow.stays e i ∙ look_in ws T e s.rises (distinct-front ws vs all-distinct) h.1)
      ∙ ap (look (merge_all (apply ws T) later)) (sym h.2))
      (λ n. sym (cut-follow.off k (both k n f)))
      (hits_or_free ws k))
      (hits_or_free vs k))
    where
      both : (k : Place) → Free ws k → Free vs k → Free (ws ++ vs) k
      both k a b = go ws a
        where
          go : (xs : List Entry) → Free xs k → Free (xs ++ vs) k
          go [] a = b
          go (e ∷ xs) a = (a.0, go xs a.1)

  cut-grows : Grows T ws
  cut-grows = grows-front ws vs T (subst (Grows T) cut (line-grows T x p s y m))

  pub cut-shape : Shape (merge_all (apply ws T) later)
  unfolding cut-follow cut-grows
  cut-shape = (shape-all later (apply ws T) (grown ws T s cut-grows) (node_stays ws T (node_at symbols_path) s.rises cut-grows refl y) cut-follow.made).0

  pub cut-total : (c : Count) → total c.of (merge_all (apply ws T) later).places ≤ total c.of T.places + (c.share x.share + sum (λ l. c.share l.share) later)
  unfolding cut-follow cut-grows
  cut-total c =
      let a = total-all c later (apply ws T) (grown ws T s cut-grows) (node_stays ws T (node_at symbols_path) s.rises cut-grows refl y) cut-follow.made in
      let b = total-apply c.of ws T in
      let e = cost_join c.of ws vs in
      let f = ap (λ z. total c.of (listed z)) cut in
      let h = cost_line c T x p s m in
      omega (arith, a, b, e, f, h)

-- ---- the ledger's tree

module _ (g : Ledger) (kept : Kept g) where
  pub shape_at : (ks ls : List Line) → g.lines ≡ ks ++ ls → Shape (merge_all g.base ks) × (look (merge_all g.base ks) (node_at symbols_path) ≡ Some [])
  shape_at ks ls e = shape-all ks g.base (shape_of g.base kept.sound) kept.symbols (made-front ks ls g.base (subst (Made g.base) e kept.made))

  total-at : (c : Count) (ks ls : List Line) → g.lines ≡ ks ++ ls → total c.of (merge_all g.base ks).places ≤ total c.of g.base.places + sum (λ l. c.share l.share) ks
  total-at c ks ls e = total-all c ks g.base (shape_of g.base kept.sound) kept.symbols (made-front ks ls g.base (subst (Made g.base) e kept.made))

  pub tree-sound : Sound (ledger_tree g)
  tree-sound =
      let r = room-is g.base g.lines kept.fits in
      let nil = sym (append-nil g.lines) in
      let a = leb-true _ _ r.nodes in
      let b = leb-true _ _ r.properties in
      let c = leb-true _ _ r.weight in
      sound-from (ledger_tree g) (shape_at g.lines [] nil).0
      (omega (arith, total-at count-nodes g.lines [] nil, a))
      (omega (arith, total-at count-properties g.lines [] nil, b))
      (omega (arith, total-at count-weight g.lines [] nil, c))

  -- a line cut to its first writes leaves a tree by the rules
  pub cut-sound : (before : List Line) (x : Line) (later : List Line) (p : Plan) (ws vs : List Entry) → g.lines ≡ before ++ (x ∷ later) → LineAt (merge_all g.base before) x p → blocker x.entries later ≡ None → p.writes ≡ ws ++ vs
      → (back (merge_all g.base before) vs (ledger_tree g) ≡ merge_all (apply ws (merge_all g.base before)) later) × Sound (merge_all (apply ws (merge_all g.base before)) later)
  unfolding Made merge_all sum
  cut-sound before x later p ws vs e m n cut =
      let T = merge_all g.base before in
      let sh = shape_at before (x ∷ later) e in
      let B = made-behind before g.base (x ∷ later) (subst (Made g.base) e kept.made) in
      let r = room-is g.base g.lines kept.fits in
      let tree : ledger_tree g ≡ merge_all (merge T x.overlay x.offset) later = ap (merge_all g.base) e ∙ all_join before (x ∷ later) g.base in
      let at : (c : Count) → total c.of (merge_all (apply ws T) later).places ≤ total c.of g.base.places + sum (λ l. c.share l.share) g.lines = λ c.
      (let a = cut-total T x p later sh.0 sh.1 m B.1 n ws vs cut c in
      let b = total-at c before (x ∷ later) e in
      let d = ap (sum (λ l. c.share l.share)) e ∙ sum_join (λ l. c.share l.share) before (x ∷ later) in
      omega (arith, a, b, d)) in
      let a = leb-true _ _ r.nodes in
      let b = leb-true _ _ r.properties in
      let c = leb-true _ _ r.weight in (
        ap (back T vs) tree ∙ cut-tree T x p later sh.0 sh.1 m B.1 n ws vs cut,
        sound-from (merge_all (apply ws T) later) (cut-shape T x p later sh.0 sh.1 m B.1 n ws vs cut)
            (omega (arith, at count-nodes, a))
            (omega (arith, at count-properties, b))
            (omega (arith, at count-weight, c)),
      )

  -- the first writes of a plug leave a tree by the rules
  pub push-sound : (k : ℕ) (es : List Entry) (p : Plan) → Fit es → run (ledger_tree g) (plan_at es (largest_phandle (ledger_tree g))) ≡ Ok p → room g.base (g.lines ++ line k es (largest_phandle (ledger_tree g)) (ledger_tree g) p ∷ []) ≡ true → (ws vs : List Entry) → p.writes ≡ ws ++ vs → Sound (apply ws (ledger_tree g))
  unfolding sum
  push-sound k es p f h rm ws vs cut =
      let t = ledger_tree g in
      let l = line k es (largest_phandle t) t p in
      let m : LineAt t l p = record { fit = f; merges = h; entries = refl; share = refl; lawful = kept.lawful } in
      let nil = sym (append-nil g.lines) in
      let sh = shape_at g.lines [] nil in
      let G = grows-front ws vs t (subst (Grows t) cut (line-grows t l p sh.0 sh.1 m)) in
      let r = room-is g.base (g.lines ++ l ∷ []) rm in
      let at : (c : Count) → total c.of (apply ws t).places ≤ total c.of g.base.places + sum (λ l. c.share l.share) (g.lines ++ l ∷ []) = λ c.
      (let a = total-apply c.of ws t in
      let b = total-at c g.lines [] nil in
      let d = sum_join (λ l. c.share l.share) g.lines (l ∷ []) in
      let e = cost_join c.of ws vs in
      let f = ap (λ z. total c.of (listed z)) cut in
      let q = cost_line c t l p sh.0 m in
      omega (arith, a, b, d, e, f, q)) in
      let a = leb-true _ _ r.nodes in
      let b = leb-true _ _ r.properties in
      let c = leb-true _ _ r.weight in
      sound-from (apply ws t) (grown ws t sh.0 G)
      (omega (arith, at count-nodes, a))
      (omega (arith, at count-properties, b))
      (omega (arith, at count-weight, c))
