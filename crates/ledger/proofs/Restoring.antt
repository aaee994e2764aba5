-- Striking a line by its record, step by step; the writes of a plug, one after the other. Assumes nothing.
use Rattle.std.proofs.Common.{◌≡◌, ℕ, zero, suc, ◌<◌, Bool, true, false, cond, ltb, ◌⊎◌, List, [], ◌∷◌, ◌++◌, map, take, drop, Some, None, Ok, Err, Result, sym, refl, ap, ◌∙◌, subst, inl, inr, ⊎_elim, arith}
use Rattle.std.specs.List.{AllByRecursion}
use Rattle.std.proofs.lemmas.List.{take-append-drop, append-nil}
use Rattle.tree.specs.Entries.{Entry}
use Rattle.tree.specs.Numbers.{be32}
use Rattle.tree.specs.Phandles.{largest_phandle}
use Rattle.tree.specs.Places.{Bytes, Place}
use Rattle.tree.specs.Trees.{Tree, look, change, up_place, Sound}
use Rattle.tree.proofs.Maps.{some-none}
use Rattle.overlay_rules.specs.Checks.{Refusal}
use Rattle.overlay_rules.specs.Laws.{Rising, In, Fewer, Free, Off}
use Rattle.overlay_rules.specs.Overlays.{overlay_of, phandle_at}
use Rattle.overlay_rules.specs.Plans.{Plan, apply}
use Rattle.overlay_rules.specs.Queries.{run}
use Rattle.overlay_rules.specs.Records.{Note, read_note, write_note, created, distinct, notes, put_back, restore, wrote}
use Rattle.overlay_rules.proofs.Lists.{all-at, all_from, all_right, in_right}
use Rattle.overlay_rules.proofs.Looks.{look-same, look-other, decide-place, at-most_largest}
use Rattle.overlay_rules.proofs.Checking.{passed}
use Rattle.overlay_rules.proofs.Journals.{Distinct, look-out, look-from}
use Rattle.overlay_rules.proofs.Planning.{plan-is}
use Rattle.overlay_rules.proofs.Rules.{keeps_unique, written-handle, raised_above}
use Rattle.overlay_rules.proofs.Shapes.{Grows, grows_back}
use Rattle.overlay_rules.proofs.Growing.{plan_grows}
use Rattle.overlay_rules.proofs.Touching.{writes-is, node-absent, plan-fewer, wrote_none, restore_join, restore-reads, restore-writes}
use Rattle.ledger.specs.Ledgers.{Line, line, plan_at, merge, merge_all, room, Socket, empty, held, shelved, Ledger, ledger_tree, socket_at, plugged, refused, by_socket, no, plug_by, plug_in, step, add_by}
use Rattle.ledger.specs.Invariants.{LineAt, Made, Kept}
use Rattle.ledger.specs.Promises.{NoneTouches, Strikes, Striking, Plugging, AnsweredOffset}
use Rattle.ledger.proofs.Sockets.{room-struck}
use Rattle.ledger.proofs.Striking.{merge-is, line-plan, rises_merge, rises-all, all_join, follow, line_same, struck, Struck}
use Rattle.ledger.proofs.Sounding.{made-front, shape_at, cut-sound, push-sound}
use Rattle.ledger.proofs.Unplugging.{free-none, not-touched, made_at, made-behind, can_be_done}

-- ---- the entries behind the first i

drop-map : {A B : Type 0} (f : A → B) (i : ℕ) (xs : List A) → drop i (map f xs) ≡ map f (drop i xs)
drop-map f zero xs = refl
drop-map f (suc i) [] = refl
drop-map f (suc i) (x ∷ xs) = drop-map f i xs

-- some reads and all writes, or some writes
drop-notes : (ks : List Place) (ns : List Note) (i : ℕ) → ((js : List Place) × (drop i (map read_note ks ++ ns) ≡ map read_note js ++ ns)) ⊎ ((j : ℕ) × (drop i (map read_note ks ++ ns) ≡ drop j ns))
drop-notes [] ns i = inr (i, refl)
drop-notes (k ∷ ks) ns zero = inl (k ∷ ks, refl)
drop-notes (k ∷ ks) ns (suc i) = drop-notes ks ns i

drop-next : (i : ℕ) (xs : List Note) (n : Note) (ns : List Note) → drop i xs ≡ n ∷ ns → drop (suc i) xs ≡ ns
drop-next zero [] n ns e = let z : ◌≡◌ {A = ℕ} 0 1 = cc in absurd (omega arith)
drop-next zero (x ∷ xs) n ns e = cc
drop-next (suc i) [] n ns e = let z : ◌≡◌ {A = ℕ} 0 1 = cc in absurd (omega arith)
drop-next (suc i) (x ∷ xs) n ns e = drop-next i xs n ns e

up_there : (t : Tree) (e : Entry) (vs : List Entry) → Grows t (e ∷ vs) → look t (up_place e.place) ≡ Some []
unfolding Grows
up_there t e vs g = g.0.up

-- a node whose drop leaves a tree by the rules has nothing that hangs on it
drop-bare : (t : Tree) (j k : Place) (v : Bytes) → Sound t → Sound (change t j None) → look t k ≡ Some v → up_place k ≡ j → k ≡ j
drop-bare t j k v s d h e = ⊎_elim
    (λ p. p)
    (λ n.
    let a : look (change t j None) k ≡ Some v = look-other t j k None s.rises n ∙ h in
    absurd (some-none [] (sym (d.hangs k v a) ∙ ap (look (change t j None)) e ∙ look-same t j None s.rises)))
    (decide-place k j)

module _ (g : Ledger) (kept : Kept g) (before : List Line) (x : Line) (later : List Line) (lines : g.lines ≡ before ++ (x ∷ later)) (none : NoneTouches later x) where
  made : Made g.base (before ++ (x ∷ later))
  made = subst (Made g.base) lines kept.made

  at : (p : Plan) × LineAt (merge_all g.base before) x p
  unfolding made
  at = made_at before g.base x later made

  rT : Rising (merge_all g.base before)
  rT = rises-all before g.base kept.sound.rises

  out : Struck g.base x (before ++ (x ∷ later)) (before ++ later)
  unfolding made
  out = struck before g.base x later kept.sound.rises (free-none x later none) made

  -- each step of the restoring
  pub way : (i : ℕ) → Sound (restore (drop i x.entries) (ledger_tree g))
  unfolding at notes
  way i =
      let T = merge_all g.base before in
      let p = at.0 in
      let m = at.1 in
      let pl = line-plan T x p m in
      let R = distinct [] p.reads in
      let W = map (write_note T) p.writes in
      let ab = all_from (λ (e : Entry). e.place.1 ≡ None → look T e.place ≡ None) p.writes (node-absent T (overlay_of x.overlay) x.offset p pl) in
      let S = ledger_tree g in
      let fr = free-none x later none in
      ⊎_elim
      (λ a.
      let c = cut-sound g kept before x later p [] p.writes lines m fr refl in
      let e : restore (drop i x.entries) S ≡ merge_all T later = ap (λ z. restore (drop i z) S) m.entries ∙ ap (λ z. restore z S) a.1 ∙ restore_join (map read_note a.0) W S ∙ restore-reads a.0 (restore W S) ∙ restore-writes T p.writes S ab ∙ c.0 ∙ first T later in
      subst Sound (sym e) (subst Sound (first T later) c.1))
      (λ a.
      let j = a.0 in
      let cutting = sym (take-append-drop j p.writes) in
      let c = cut-sound g kept before x later p (take j p.writes) (drop j p.writes) lines m fr cutting in
      let e : restore (drop i x.entries) S ≡ merge_all (apply (take j p.writes) T) later = ap (λ z. restore (drop i z) S) m.entries ∙ ap (λ z. restore z S) (a.1 ∙ drop-map (write_note T) j p.writes) ∙ restore-writes T (drop j p.writes) S (all_right (λ (e : Entry). e.place.1 ≡ None → look T e.place ≡ None) (take j p.writes) (drop j p.writes) (subst (AllByRecursion (λ (e : Entry). e.place.1 ≡ None → look T e.place ≡ None)) cutting ab)) ∙ c.0 in
      subst Sound (sym e) c.1)
      (drop-notes R W i)
    where
      first : (t : Tree) (ls : List Line) → merge_all (apply [] t) ls ≡ merge_all t ls
      first t ls = unfold apply in refl

  pub drops : (i : ℕ) (n : Note) (ns : List Note) → drop i x.entries ≡ n ∷ ns → n.mark ≡ created → (k : Place) (v : Bytes) → look (restore ns (ledger_tree g)) k ≡ Some v → up_place k ≡ n.place → k ≡ n.place
  unfolding restore
  drops i n ns e c k v h u =
      let S = ledger_tree g in
      let a : Sound (put_back n.place n.mark (restore ns S)) = subst (λ z. Sound (restore z S)) e (way i) in
      let b : Sound (change (restore ns S) n.place None) = subst (λ z. Sound (put_back n.place z (restore ns S))) c a in
      drop-bare (restore ns S) n.place k v (next i n ns e) b h u
    where
      next : (i : ℕ) (n : Note) (ns : List Note) → drop i x.entries ≡ n ∷ ns → Sound (restore ns (ledger_tree g))
      next i n ns e = subst (λ z. Sound (restore z (ledger_tree g))) (drop-next i x.entries n ns e) (way (suc i))

  pub same : (ys : List Line) (y : Line) (zs : List Line) → later ≡ ys ++ (y ∷ zs) → run (merge_all g.base (before ++ ys)) (plan_at y.overlay y.offset) ≡ run (merge_all g.base (before ++ (x ∷ ys))) (plan_at y.overlay y.offset)
  unfolding at made rT Made merge_all
  same ys y zs q =
      let T = merge_all g.base before in
      let p = at.0 in
      let m = at.1 in
      let T2 = merge T x.overlay x.offset in
      let e = merge-is T x p m in
      let ws = p.writes in
      let wx : (k : Place) → wrote x.entries k ≡ false → Free ws k = λ k h. wrote_none p T k (subst (λ z. wrote z k ≡ false) m.entries h) in
      let o : Off ws T T2 = λ k f. sym (look-out ws T k rT f) ∙ sym (ap (λ z. look z k) e) in
      let fw : Fewer T T2 = λ a v h. ap (λ z. look z (phandle_at a)) e ∙ plan-fewer T (overlay_of x.overlay) x.offset p rT (line-plan T x p m) a v h in
      let r2 = rises_merge T x.overlay x.offset rT in
      let B = made-behind before g.base (x ∷ later) made in
      let BL = subst (Made T2) q B.1 in
      let F = follow ws x.entries wx ys T T2 rT r2 o fw (free-none x ys (λ z i. none z (subst (In z) (sym q) (front z ys (y ∷ zs) i)))) (made-front ys (y ∷ zs) T2 BL) in
      let my = made_at ys T2 y zs BL in
      let touch = not-touched x y (none y (subst (In y) (sym q) (in_right y ys (y ∷ zs) (inl refl)))) in
      let ls = line_same ws x.entries wx (merge_all T ys) (merge_all T2 ys) y my.0 (rises-all ys T rT) (rises-all ys T2 r2) F.off F.fewer touch my.1 in
      ap (λ z. run z (plan_at y.overlay y.offset)) (all_join before ys g.base) ∙ ls.merges ∙ sym my.1.merges ∙ ap (λ z. run z (plan_at y.overlay y.offset)) (sym (all_join before (x ∷ ys) g.base))
    where
      front : (z : Line) (xs ys : List Line) → In z xs → In z (xs ++ ys)
      front z [] ys i = absurd i
      front z (x ∷ xs) ys (inl p) = inl p
      front z (x ∷ xs) ys (inr i) = inr (front z xs ys i)

  pub strikes : Strikes g before x later
  unfolding out
  strikes = record {
    same = same;
    each = can_be_done g.base (before ++ later) out.made (room-struck g.base before x later (subst (λ z. room g.base z ≡ true) lines kept.fits));
    tree = ap (λ z. restore x.entries (merge_all g.base z)) lines ∙ out.tree;
    way = way;
    drops = drops;
  }

pub striking : Striking
striking g kept before x later e n = strikes g kept before x later e n

-- ---- plugging

pub plugging : Plugging
plugging g kept k es p f h rm =
    let t = ledger_tree g in
    let d = largest_phandle t in
    let r = rises-all g.lines g.base kept.sound.rises in
    let c = passed es f.1 in
    let m = plan-is t (overlay_of es) d p h in
    let sy = shape_at g kept g.lines [] (sym (append-nil g.lines)) in
    let G = plan_grows t es d p f.0 c m sy.0 sy.1 in
    let dist : Distinct p.writes = subst Distinct (writes-is t (overlay_of es) d p m) m.allows.distinct in
    let new : (ws : List Entry) (e : Entry) (vs : List Entry) → p.writes ≡ ws ++ (e ∷ vs) → Free ws e.place = λ ws e vs q. apart ws e vs (subst Distinct q dist) in
    record {
      most = λ q v. at-most_largest t q v;
      above = λ q v hq. ⊎_elim
          (λ a. inl a)
          (λ a. inr (subst (λ z. d < be32 z 0) (sym a.3) (raised_above t es d p c m q a.0.value (written-handle t es d p c m q a.0 a.1 a.2))))
          (look-from p.writes t (phandle_at q) v r hq);
      unique = keeps_unique t es d p c m r kept.lawful (λ a w. at-most_largest t a w);
      ready = λ ws e vs q.
          let n = new ws e vs q in
          let GG = subst (Grows t) q G in
          let i = subst (In e) (sym q) (in_right e ws (e ∷ vs) (inl refl)) in
          (push-sound g kept k es p f h rm ws (e ∷ vs) q, up_there (apply ws t) e vs (grows_back ws (e ∷ vs) t GG), λ z. look-out ws t e.place r n ∙ node-absent t (overlay_of es) d p m e i z);
      stays = λ ws vs q. push-sound g kept k es p f h rm ws vs q;
      earlier = λ ws e vs q. look-out ws t e.place r (new ws e vs q);
    }
  where
    apart : (xs : List Entry) (e : Entry) (ys : List Entry) → Distinct (xs ++ (e ∷ ys)) → Free xs e.place
    apart [] e ys d = tt
    apart (a ∷ xs) e ys d = ((λ q. all-at (λ b. a.place ≡ b.place → ⊥) e (xs ++ (e ∷ ys)) d.0 (in_right e xs (e ∷ ys) (inl refl)) (sym q)), apart xs e ys d.1)

plugged-one : {a b c d : ℕ} → plugged a b ≡ plugged c d → (a ≡ c) × (b ≡ d)
plugged-one e = (cc, cc)

refused-plugged : {a b c d : ℕ} → refused a b ≡ plugged c d → ⊥
refused-plugged e = let z : ◌≡◌ {A = ℕ} 0 1 = cc in omega arith

pub answered-offset : AnsweredOffset
unfolding step
answered-offset g n k es j d h = go (ltb n 4096) (ltb 15 k) (socket_at g k) h
  where
    swap : {a b c e : ℕ} → plugged a b ≡ plugged c e → (c ≡ a) × (e ≡ b)
    swap q = let x = plugged-one q in (sym x.0, sym x.1)

    by : (o : Result Plan Refusal) → (plug_by g k es (largest_phandle (ledger_tree g)) (ledger_tree g) o).0 ≡ plugged j d → (j ≡ k) × (d ≡ largest_phandle (ledger_tree g))
    by (Err e) h = absurd (refused-plugged h)
    by (Ok p) h = added (room g.base (g.lines ++ line k es (largest_phandle (ledger_tree g)) (ledger_tree g) p ∷ [])) h
      where
        added : (b : Bool) → (add_by g k (largest_phandle (ledger_tree g)) (line k es (largest_phandle (ledger_tree g)) (ledger_tree g) p) b).0 ≡ plugged j d → (j ≡ k) × (d ≡ largest_phandle (ledger_tree g))
        added true h = swap h
        added false h = absurd (refused-plugged h)

    go : (a b : Bool) (q : Socket) → (cond a (no g 55 0) (cond b (no g 30 k) (by_socket q (plug_in g k es (ledger_tree g)) (no g 31 k) (no g 31 k)))).0 ≡ plugged j d → (j ≡ k) × (d ≡ largest_phandle (ledger_tree g))
    go true b q h = absurd (refused-plugged h)
    go false true q h = absurd (refused-plugged h)
    go false false empty h = by (run (ledger_tree g) (plan_at es (largest_phandle (ledger_tree g)))) h
    go false false held h = absurd (refused-plugged h)
    go false false shelved h = absurd (refused-plugged h)
