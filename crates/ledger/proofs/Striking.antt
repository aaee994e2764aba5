-- A line that no later one touches can be struck. Assumes nothing.
use Rattle.std.proofs.Common.{◌≡◌, ℕ, Bool, true, false, cond, List, [], ◌∷◌, ◌++◌, map, Some, None, Ok, Err, Result, sym, refl, ap, ◌∙◌, subst, inl, inr, ⊎_elim}
use Rattle.tree.specs.Entries.{Entry}
use Rattle.tree.specs.Places.{Place}
use Rattle.tree.specs.Trees.{Tree, look}
use Rattle.tree.proofs.Maps.{some-none}
use Rattle.overlay_rules.specs.Checks.{Refusal}
use Rattle.overlay_rules.specs.Overlays.{overlay_of, phandle_at}
use Rattle.overlay_rules.specs.Plans.{Plan, apply}
use Rattle.overlay_rules.specs.Queries.{run, asked}
use Rattle.overlay_rules.specs.Records.{Note, mark_of, write_note, read_note, distinct, earlier, notes, restore, wrote, touches}
use Rattle.overlay_rules.specs.Laws.{Rising, In, Fewer, SameAt, Free, Off}
use Rattle.overlay_rules.proofs.Lists.{all-at, all_from, some-false}
use Rattle.overlay_rules.proofs.Looks.{tree-ext}
use Rattle.overlay_rules.proofs.Asking.{run-same}
use Rattle.overlay_rules.proofs.Journals.{rises-apply, boot-apply, look-out, hits_or_free, off-apply, fewer-apply, back, rises-back, boot-back, back_in, back-out}
use Rattle.overlay_rules.proofs.Planning.{Planned, plan-is}
use Rattle.overlay_rules.proofs.Touching.{asks_what_it_reads, plan-fewer, note_read, note_write, wrote_none, restore-back}
use Rattle.ledger.specs.Ledgers.{Line, plan_at, merged_by, merge, merge_all, blocker}
use Rattle.ledger.specs.Invariants.{LineAt, Made}

-- ---- merges

pub merge-is : (t : Tree) (l : Line) (p : Plan) → LineAt t l p → merge t l.overlay l.offset ≡ apply p.writes t
merge-is t l p m = ap (merged_by t) m.merges

pub line-plan : (t : Tree) (l : Line) (p : Plan) → LineAt t l p → Planned t (overlay_of l.overlay) l.offset p
line-plan t l p m = plan-is t (overlay_of l.overlay) l.offset p m.merges

pub rises_merge : (t : Tree) (es : List Entry) (d : ℕ) → Rising t → Rising (merge t es d)
rises_merge t es d r = go (run t (plan_at es d))
  where
    go : (o : Result Plan Refusal) → Rising (merged_by t o)
    go (Ok p) = rises-apply p.writes t r
    go (Err e) = r

boot-merge : (t : Tree) (es : List Entry) (d : ℕ) → (merge t es d).boot ≡ t.boot
boot-merge t es d = go (run t (plan_at es d))
  where
    go : (o : Result Plan Refusal) → (merged_by t o).boot ≡ t.boot
    go (Ok p) = boot-apply p.writes t
    go (Err e) = refl

pub rises-all : (ls : List Line) (t : Tree) → Rising t → Rising (merge_all t ls)
unfolding merge_all
rises-all [] t r = r
rises-all (l ∷ ls) t r = rises-all ls _ (rises_merge t l.overlay l.offset r)

pub boot-all : (ls : List Line) (t : Tree) → (merge_all t ls).boot ≡ t.boot
unfolding merge_all
boot-all [] t = refl
boot-all (l ∷ ls) t = boot-all ls _ ∙ boot-merge t l.overlay l.offset

-- ---- the test for a block

pub not-blocked : (ns : List Note) (l : Line) (ls : List Line) → blocker ns (l ∷ ls) ≡ None → (touches ns l.entries ≡ false) × (blocker ns ls ≡ None)
unfolding blocker
not-blocked ns l ls h = go (touches ns l.entries) refl h
  where
    go : (b : Bool) → touches ns l.entries ≡ b → cond b (Some l.socket) (blocker ns ls) ≡ None → (touches ns l.entries ≡ false) × (blocker ns ls ≡ None)
    go true e h = absurd (some-none _ h)
    go false e h = (e, h)

-- ---- the record of a plan in two trees that agree where it writes

notes-same : (p : Plan) (s t : Tree) → ((e : Entry) → In e p.writes → look s e.place ≡ look t e.place) → notes p s ≡ notes p t
unfolding notes
notes-same p s t h = ap (λ z. map read_note (distinct [] p.reads) ++ z) (go p.writes h)
  where
    mark : (k : Place) → look s k ≡ look t k → mark_of s k ≡ mark_of t k
    mark (p, None) e = refl
    mark (p, Some n) e = λ i. earlier (e i)

    go : (ws : List Entry) → ((e : Entry) → In e ws → look s e.place ≡ look t e.place) → map (write_note s) ws ≡ map (write_note t) ws
    go [] h = refl
    go (e ∷ ws) h = let m = mark e.place (h e (inl refl)) in let r = go ws (λ x i. h x (inr i)) in λ i. record { place = e.place; mark = m i } ∷ r i

-- ---- x is what was written and is to be struck, ns its record

module _ (x : List Entry) (ns : List Note) (wx : (k : Place) → wrote ns k ≡ false → Free x k) where
  -- what an unblocking line touches, x did not write
  free_note : (l : Line) → touches ns l.entries ≡ false → (n : Note) → In n l.entries → Free x n.place
  free_note l h n i = wx n.place (all-at _ n l.entries (some-false (λ y. wrote ns y.place) l.entries h) i)

  free-read : (t : Tree) (l : Line) (p : Plan) → LineAt t l p → touches ns l.entries ≡ false → (k : Place) → In k p.reads → Free x k
  free-read t l p m h k i =
      let n = note_read p t k i in
      subst (Free x) n.2 (free_note l h n.0 (subst (In n.0) (sym m.entries) n.1))

  free-write : (t : Tree) (l : Line) (p : Plan) → LineAt t l p → touches ns l.entries ≡ false → (e : Entry) → In e p.writes → Free x e.place
  free-write t l p m h e i =
      let n = note_write p t e i in
      subst (Free x) n.2 (free_note l h n.0 (subst (In n.0) (sym m.entries) n.1))

  -- a line that x does not touch is the same line in both trees
  pub line_same : (s t : Tree) (l : Line) (p : Plan) → Rising s → Rising t → Off x s t → Fewer s t → touches ns l.entries ≡ false → LineAt t l p → LineAt s l p
  line_same s t l p rs rt o f h m =
      let q = plan_at l.overlay l.offset in
      let a = asks_what_it_reads t (overlay_of l.overlay) l.offset p m.merges in
      let g : (k : Place) → In k (asked t q) → SameAt s t k = λ k i. o k (⊎_elim
      (λ j. free-read t l p m h k j)
      (λ w. subst (Free x) (sym w.2) (free-write t l p m h w.0 w.1))
      (a.only k i)) in
      record {
        fit = m.fit;
        merges = (run-same s t q rs rt f m.lawful (all_from _ (asked t q) g)).0 ∙ m.merges;
        entries = m.entries ∙ sym (notes-same p s t (λ e i. o e.place (free-write t l p m h e i)));
        share = m.share;
        lawful = λ a b v w y z. m.lawful a b v w (f a v y) (f b w z);
      }

  pub record Followed (s t : Tree) (ls : List Line) : Type 0 where
    pub made : Made s ls
    pub off : Off x (merge_all s ls) (merge_all t ls)
    pub fewer : Fewer (merge_all s ls) (merge_all t ls)
    -- where x wrote, the lines leave what was there
    pub stays : (e : Entry) → In e x → look (merge_all s ls) e.place ≡ look s e.place

  pub follow : (ls : List Line) (s t : Tree) → Rising s → Rising t → Off x s t → Fewer s t → blocker ns ls ≡ None → Made t ls → Followed s t ls
  unfolding Made merge_all
  follow [] s t rs rt o f n m = record { made = tt; off = o; fewer = f; stays = λ e i. refl }
  follow (l ∷ ls) s t rs rt o f n m =
      let z = not-blocked ns l ls n in
      let p = m.0.0 in
      let lt = m.0.1 in
      let lss = line_same s t l p rs rt o f z.0 lt in
      let es = merge-is s l p lss in
      let et = merge-is t l p lt in
      let o2 : Off x (merge s l.overlay l.offset) (merge t l.overlay l.offset) = λ k g. ap (λ y. look y k) es ∙ off-apply x p.writes s t rs rt o k g ∙ sym (ap (λ y. look y k) et) in
      let f2 : Fewer (merge s l.overlay l.offset) (merge t l.overlay l.offset) = λ q v g. ap (λ y. look y (phandle_at q)) et ∙ fewer-apply p.writes s t rs rt f q v (sym (ap (λ y. look y (phandle_at q)) es) ∙ g) in
      let ih = follow ls _ _ (rises_merge s l.overlay l.offset rs) (rises_merge t l.overlay l.offset rt) o2 f2 z.1 m.1 in
      record {
        made = ((p, lss), ih.made);
        off = ih.off;
        fewer = ih.fewer;
        stays = λ e i.
            ih.stays e i ∙ ap (λ y. look y e.place) es
            ∙ look-out p.writes s e.place rs (all_from _ p.writes (λ w j q. all-at _ e x (free-write t l p lt z.0 w j) i (sym q)));
      }

-- ---- a struck line

pub record Struck (t : Tree) (x : Line) (all rest : List Line) : Type 0 where
  pub made : Made t rest
  pub tree : restore x.entries (merge_all t all) ≡ merge_all t rest
  pub fewer : Fewer (merge_all t rest) (merge_all t all)

first-struck : (t : Tree) (x : Line) (ls : List Line) → Rising t → blocker x.entries ls ≡ None → Made t (x ∷ ls) → Struck t x (x ∷ ls) ls
unfolding Made merge_all
first-struck t x ls r n m =
    let p = m.0.0 in
    let lt = m.0.1 in
    let ws = p.writes in
    let pl = line-plan t x p lt in
    let t2 = merge t x.overlay x.offset in
    let e = merge-is t x p lt in
    let wx : (k : Place) → wrote x.entries k ≡ false → Free ws k = λ k h. wrote_none p t k (subst (λ z. wrote z k ≡ false) lt.entries h) in
    let o : Off ws t t2 = λ k f. sym (look-out ws t k r f) ∙ sym (ap (λ y. look y k) e) in
    let fw : Fewer t t2 = λ q v g. ap (λ y. look y (phandle_at q)) e ∙ plan-fewer t (overlay_of x.overlay) x.offset p r pl q v g in
    let r2 = rises_merge t x.overlay x.offset r in
    let f = follow ws x.entries wx ls t t2 r r2 o fw n m.1 in
    let S = merge_all t2 ls in
    let rS = rises-all ls t2 r2 in
    let b : back t ws S ≡ merge_all t ls =
    tree-ext (back t ws S) (merge_all t ls)
    (boot-back t ws S ∙ boot-all ls t2 ∙ boot-merge t x.overlay x.offset ∙ sym (boot-all ls t))
    (rises-back t ws S rS) (rises-all ls t r)
    (λ k. ⊎_elim
    (λ w. ap (look (back t ws S)) w.2 ∙ back_in t ws S w.0 rS w.1 ∙ sym (f.stays w.0 w.1) ∙ ap (look (merge_all t ls)) (sym w.2))
    (λ g. back-out t ws S k rS g ∙ sym (f.off k g))
    (hits_or_free ws k)) in
    record {
      made = f.made;
      tree = ap (λ z. restore z S) lt.entries ∙ restore-back t (overlay_of x.overlay) x.offset p S pl ∙ b;
      fewer = f.fewer;
    }

pub struck : (ks : List Line) (t : Tree) (x : Line) (ls : List Line) → Rising t → blocker x.entries ls ≡ None → Made t (ks ++ (x ∷ ls)) → Struck t x (ks ++ (x ∷ ls)) (ks ++ ls)
unfolding Made merge_all
struck [] t x ls r n m = first-struck t x ls r n m
struck (k ∷ ks) t x ls r n m =
    let ih = struck ks (merge t k.overlay k.offset) x ls (rises_merge t k.overlay k.offset r) n m.1 in
    record { made = (m.0, ih.made); tree = ih.tree; fewer = ih.fewer }

-- ---- one more line

pub made-push : (ls : List Line) (t : Tree) (l : Line) (p : Plan) → Made t ls → LineAt (merge_all t ls) l p → Made t (ls ++ l ∷ [])
unfolding Made merge_all
made-push [] t l p m h = ((p, h), tt)
made-push (k ∷ ls) t l p m h = (m.0, made-push ls _ l p m.1 h)

pub all_push : (ls : List Line) (t : Tree) (l : Line) → merge_all t (ls ++ l ∷ []) ≡ merge (merge_all t ls) l.overlay l.offset
unfolding merge_all
all_push [] t l = refl
all_push (k ∷ ls) t l = all_push ls _ l

pub all_join : (ks ls : List Line) (t : Tree) → merge_all t (ks ++ ls) ≡ merge_all (merge_all t ks) ls
unfolding merge_all
all_join [] ls t = refl
all_join (k ∷ ks) ls t = all_join ks ls _
