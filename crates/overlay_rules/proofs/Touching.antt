-- What a plan reads and writes, what it asks, and its record. Assumes nothing.
use Rattle.std.proofs.Common.{◌≡◌, ℕ, Bool, true, false, cond, ◌⊎◌, List, [], ◌∷◌, ◌++◌, map, Some, None, Ok, sym, refl, ap, ◌∙◌, subst, inl, inr, ⊎_elim, true≢false}
use Rattle.std.specs.List.{AllByRecursion}
use Rattle.tree.specs.Entries.{Entry, same_place, some}
use Rattle.tree.specs.Places.{Bytes, Place, node_at}
use Rattle.tree.specs.Trees.{Tree, look, change}
use Rattle.tree.proofs.Listed.{same-only}
use Rattle.tree.proofs.Maps.{some-none, some_one}
use Rattle.overlay_rules.specs.Texts.{pick, joined}
use Rattle.overlay_rules.specs.Overlays.{symbols_path, phandle_at, Overlay}
use Rattle.overlay_rules.specs.Queries.{done, ask, run, asked, for_each}
use Rattle.overlay_rules.specs.Plans.{labelled, Located, located, images, Touch, touch, put_in, there_in, once, Plan, has_labels, read_symbols, known_reads, reads_of, planned, plan, allowed, apply}
use Rattle.overlay_rules.specs.Records.{Note, distinct, mark_of, read_note, write_note, notes, put_back, restore, written, wrote}
use Rattle.overlay_rules.specs.Laws.{Rising, In, Free, Fewer, WritesAt, AsksWhatItReads, DecidedByReads}
use Rattle.overlay_rules.proofs.Lists.{all-at, all_from, in-cases, in_left, in_right, in_map, in-map-from, in-joined, in-joined-from, in-pick, in-pick-from, some-false, some-true}
use Rattle.overlay_rules.proofs.Looks.{place-not}
use Rattle.overlay_rules.proofs.Asking.{run-same, gave, gave-from, gave-to, asked-each, each-asked}
use Rattle.overlay_rules.proofs.Journals.{look-out, back}
use Rattle.overlay_rules.proofs.Planning.{labelled-is, located-is, Was, New, touch_is, touch_all, Planned, plan-is}

put_one : {x y : Entry} → Some x ≡ Some y → x ≡ y
put_one e = cc

-- ---- touches

module _ (t : Tree) (es : List Entry) (ts : List Touch) (h : run t (touch_all es) ≡ Ok ts) where
  -- what is written is one of the entries, and a node among it was absent
  pub put-from : (e : Entry) → In e (pick put_in ts) → In e es × (e.place.1 ≡ None → look t e.place ≡ None)
  put-from e i =
      let x = in-pick-from put_in e ts i in
      let y = gave-from t (λ e. touch e e.place) es ts x.0 (gave t _ es ts h) x.1 in
      ⊎_elim
      (λ (w : Was t y.0 y.0.place x.0). absurd (some-none e (sym x.2 ∙ ap put_in w.is)))
      (λ (n : New t y.0 y.0.place x.0).
      let q : y.0 ≡ e = put_one (ap put_in (sym n.is) ∙ x.2) in
      let P : Entry → Type 0 = λ z. In z es × (z.place.1 ≡ None → look t z.place ≡ None) in
      subst P q (y.1, n.absent))
      (touch_is t y.0 y.0.place x.0 y.2)

  -- every entry is written, or is a node that is there and read
  pub put_or_there : (e : Entry) → In e es → In e (pick put_in ts) ⊎ (In e.place (pick there_in ts) × ((v : Bytes) × (look t e.place ≡ Some v)) × (e.place.1 ≡ None))
  put_or_there e i =
      let y = gave-to t (λ e. touch e e.place) es ts e (gave t _ es ts h) i in
      ⊎_elim
      (λ (w : Was t e e.place y.0). inr (in-pick there_in e.place y.0 ts y.1 (ap there_in w.is), (w.value, w.value_is), w.node))
      (λ (n : New t e e.place y.0). inl (in-pick put_in e y.0 ts y.1 (ap put_in n.is)))
      (touch_is t e e.place y.0 y.2)

  touch-asked : (k : Place) → In k (asked t (touch_all es)) → In k (pick there_in ts) ⊎ WritesAt (pick put_in ts) k
  touch-asked k i =
      let a = asked-each t (λ e. touch e e.place) es ts k h i in
      let y = gave-to t (λ e. touch e e.place) es ts a.0 (gave t _ es ts h) a.1 in
      ⊎_elim
      (λ (w : Was t a.0 a.0.place y.0).
      let e = one k a.0.place (subst (In k) w.asks a.2) in
      inl (in-pick there_in k y.0 ts y.1 (ap there_in w.is ∙ ap Some (sym e))))
      (λ (n : New t a.0 a.0.place y.0). inr (a.0, in-pick put_in a.0 y.0 ts y.1 (ap put_in n.is), n.asks k a.2))
      (touch_is t a.0 a.0.place y.0 y.2)
    where
      one : (k j : Place) → In k (j ∷ []) → k ≡ j
      one k j (inl e) = e
      one k j (inr i) = absurd i

  asked-there : (k : Place) → In k (pick there_in ts) → In k (asked t (touch_all es))
  asked-there k i =
      let x = in-pick-from there_in k ts i in
      let y = gave-from t (λ e. touch e e.place) es ts x.0 (gave t _ es ts h) x.1 in
      ⊎_elim
      (λ (w : Was t y.0 y.0.place x.0).
      let e : y.0.place ≡ k = some_one (ap there_in (sym w.is) ∙ x.2) in
      each-asked t (λ e. touch e e.place) es ts k y.0 h y.1 (subst (In k) (sym w.asks) (inl (sym e))))
      (λ (n : New t y.0 y.0.place x.0). absurd (some-none k (sym x.2 ∙ ap there_in n.is)))
      (touch_is t y.0 y.0.place x.0 y.2)

-- ---- the plan

pub reads-is : (t : Tree) (v : Overlay) (d : ℕ) (p : Plan) (m : Planned t v d p) → reads_of v m.env m.ls m.ts ≡ p.reads
unfolding planned
reads-is t v d p m = ap (λ z. z.reads) m.is

pub writes-is : (t : Tree) (v : Overlay) (d : ℕ) (p : Plan) (m : Planned t v d p) → pick put_in m.ts ≡ p.writes
unfolding planned
writes-is t v d p m = ap (λ z. z.writes) m.is

symbols-asked : (t : Tree) (v : Overlay) → asked t (read_symbols v) ≡ cond (has_labels v) (node_at symbols_path ∷ []) []
unfolding read_symbols asked
symbols-asked t v = go (has_labels v)
  where
    go : (b : Bool) → asked {A = Unit {0}} t (cond b (ask (node_at symbols_path) (λ u. done tt)) (done tt)) ≡ cond b (node_at symbols_path ∷ []) []
    go true = refl
    go false = refl

pub asks_what_it_reads : AsksWhatItReads
asks_what_it_reads t v d p h =
    let m = plan-is t v d p h in
    let fl = λ (l : _). located m.env l l.target in
    let S = cond (has_labels v) (node_at symbols_path ∷ []) [] in
    let L = joined (map known_reads m.env) in
    let G = joined (map (λ l. l.reads) m.ls) in
    let T = pick there_in m.ts in
    let to_reads : (k : Place) → In k (S ++ (L ++ (G ++ T))) → In k p.reads = λ k. subst (In k) (reads-is t v d p m) in
    let of_reads : (k : Place) → In k p.reads → In k (S ++ (L ++ (G ++ T))) = λ k. subst (In k) (sym (reads-is t v d p m)) in
    let AL = asked t (for_each labelled v.labels) in
    let AG = asked t (for_each fl v.fragments) in
    let AT = asked t (touch_all (images m.env d m.ls v)) in
    let AA = asked t (allowed (pick put_in m.ts)) in
    let ws : (k : Place) → WritesAt (pick put_in m.ts) k → WritesAt p.writes k = λ k. subst (λ z. WritesAt z k) (writes-is t v d p m) in
    let labels : (k : Place) → In k AL → In k L = λ k i.
    (let a = asked-each t labelled v.labels m.env k m.labels i in
    let y = gave-to t labelled v.labels m.env a.0 (gave t labelled v.labels m.env m.labels) a.1 in
    in-joined known_reads k y.0 m.env y.1 (subst (In k) (labelled-is t a.0 y.0 y.2).asks a.2)) in
    let labels-back : (k : Place) → In k L → In k AL = λ k i.
    (let a = in-joined-from known_reads k m.env i in
    let y = gave-from t labelled v.labels m.env a.0 (gave t labelled v.labels m.env m.labels) a.1 in
    each-asked t labelled v.labels m.env k y.0 m.labels y.1 (subst (In k) (sym (labelled-is t y.0 a.0 y.2).asks) a.2)) in
    let targets : (k : Place) → In k AG → In k G = λ k i.
    (let a = asked-each t fl v.fragments m.ls k m.targets i in
    let y = gave-to t fl v.fragments m.ls a.0 (gave t fl v.fragments m.ls m.targets) a.1 in
    in-joined (λ l. l.reads) k y.0 m.ls y.1 (subst (In k) (located-is t m.env a.0 a.0.target y.0 y.2).asks a.2)) in
    let targets-back : (k : Place) → In k G → In k AG = λ k i.
    (let a = in-joined-from (λ (l : Located). l.reads) k m.ls i in
    let y = gave-from t fl v.fragments m.ls a.0 (gave t fl v.fragments m.ls m.targets) a.1 in
    each-asked t fl v.fragments m.ls k y.0 m.targets y.1 (subst (In k) (sym (located-is t m.env y.0 y.0.target a.0 y.2).asks) a.2)) in
    record {
      only = λ k i.
          let j = subst (In k) m.asks i in
          ⊎_elim
          (λ a. inl (to_reads k (in_left k S _ (subst (In k) (symbols-asked t v) a))))
          (λ b. ⊎_elim
          (λ a. inl (to_reads k (in_right k S _ (in_left k L _ (labels k a)))))
          (λ b. ⊎_elim
          (λ a. inl (to_reads k (in_right k S _ (in_right k L _ (in_left k G _ (targets k a))))))
          (λ b. ⊎_elim
          (λ a. ⊎_elim
          (λ x. inl (to_reads k (in_right k S _ (in_right k L _ (in_right k G _ x)))))
          (λ w. inr (ws k w))
          (touch-asked t (images m.env d m.ls v) m.ts m.touched k a))
          (λ a. inr (ws k (m.allows.asks k a)))
          (in-cases k AT AA b))
          (in-cases k AG _ b))
          (in-cases k AL _ b))
          (in-cases k (asked t (read_symbols v)) _ j);
      all = λ k i.
          let back : In k (asked t (read_symbols v) ++ (AL ++ (AG ++ (AT ++ AA)))) → In k (asked t (plan v d)) = subst (In k) (sym m.asks) in
          back (⊎_elim
          (λ a. in_left k (asked t (read_symbols v)) _ (subst (In k) (sym (symbols-asked t v)) a))
          (λ b. in_right k (asked t (read_symbols v)) _ (⊎_elim
          (λ a. in_left k AL _ (labels-back k a))
          (λ b. in_right k AL _ (⊎_elim
          (λ a. in_left k AG _ (targets-back k a))
          (λ a. in_right k AG _ (in_left k AT _ (asked-there t (images m.env d m.ls v) m.ts m.touched k a)))
          (in-cases k G T b)))
          (in-cases k L _ b)))
          (in-cases k S _ (of_reads k i)));
    }

pub decided_by-reads : DecidedByReads
decided_by-reads s t v d rs rt f u h = (run-same s t (plan v d) rs rt f u h).0

-- ---- writes

pub once-absent : (t : Tree) (v : Overlay) (d : ℕ) (p : Plan) → Planned t v d p → (e : Entry) → In e p.writes → once e.place ≡ true → look t e.place ≡ None
once-absent t v d p m e i = all-at (λ e. once e.place ≡ true → look t e.place ≡ None) e (pick put_in m.ts) m.allows.absent (subst (In e) (sym (writes-is t v d p m)) i)

pub node-absent : (t : Tree) (v : Overlay) (d : ℕ) (p : Plan) → Planned t v d p → (e : Entry) → In e p.writes → e.place.1 ≡ None → look t e.place ≡ None
node-absent t v d p m e i = (put-from t (images m.env d m.ls v) m.ts m.touched e (subst (In e) (sym (writes-is t v d p m)) i)).1

-- a merge sets no phandle that is there
pub plan-fewer : (t : Tree) (v : Overlay) (d : ℕ) (p : Plan) → Rising t → Planned t v d p → Fewer t (apply p.writes t)
plan-fewer t v d p r m q w h = look-out p.writes t (phandle_at q) r (all_from _ p.writes (λ e i z. some-none w (sym h ∙ ap (look t) z ∙ once-absent t v d p m e i (ap once (sym z))))) ∙ h

-- ---- the record

distinct-in : (seen ks : List Place) (k : Place) → In k ks → In k seen ⊎ In k (distinct seen ks)
unfolding distinct
distinct-in seen [] k i = absurd i
distinct-in seen (j ∷ ks) k i = go (some (same_place j) seen) refl (distinct-in seen ks k) (distinct-in (j ∷ seen) ks k) i
  where
    go : (b : Bool) → some (same_place j) seen ≡ b → (In k ks → In k seen ⊎ In k (distinct seen ks)) → (In k ks → In k (j ∷ seen) ⊎ In k (distinct (j ∷ seen) ks)) → In k (j ∷ ks) → In k seen ⊎ In k (cond b (distinct seen ks) (j ∷ distinct (j ∷ seen) ks))
    go true e ih jh (inl p) = let x = some-true (same_place j) seen e in inl (subst (λ z. In z seen) (sym (same-only j x.0 x.2) ∙ sym p) x.1)
    go true e ih jh (inr i) = ih i
    go false e ih jh (inl p) = inr (inl p)
    go false e ih jh (inr i) = ⊎_elim (λ a. here a) (λ a. inr (inr a)) (jh i)
      where
        here : In k (j ∷ seen) → In k seen ⊎ In k (j ∷ distinct (j ∷ seen) ks)
        here (inl p) = inr (inl p)
        here (inr a) = inl a

-- each place that is read or written has an entry
pub note_read : (p : Plan) (t : Tree) (k : Place) → In k p.reads → (n : Note) × In n (notes p t) × (n.place ≡ k)
unfolding notes
note_read p t k i = ⊎_elim
    (λ a. absurd a)
    (λ a. (read_note k, in_left (read_note k) (map read_note (distinct [] p.reads)) _ (in_map read_note k (distinct [] p.reads) a), refl))
    (distinct-in [] p.reads k i)

pub note_write : (p : Plan) (t : Tree) (e : Entry) → In e p.writes → (n : Note) × In n (notes p t) × (n.place ≡ e.place)
unfolding notes
note_write p t e i = (write_note t e, in_right (write_note t e) (map read_note (distinct [] p.reads)) _ (in_map (write_note t) e p.writes i), refl)

mark-written : (t : Tree) (k : Place) → written (mark_of t k) ≡ true
mark-written t (p, None) = refl
mark-written t (p, Some n) = refl

-- the entries say what was written
pub wrote_none : (p : Plan) (t : Tree) (k : Place) → wrote (notes p t) k ≡ false → Free p.writes k
unfolding notes
wrote_none p t k h = all_from _ p.writes (λ e i z.
    let n = write_note t e in
    let a = all-at _ n (notes p t) (some-false (λ n. cond (written n.mark) (same_place n.place k) false) (notes p t) h) (in_right n (map read_note (distinct [] p.reads)) _ (in_map (write_note t) e p.writes i)) in
    let b : same_place e.place k ≡ false = subst (λ w. cond w (same_place e.place k) false ≡ false) (mark-written t e.place) a in
    place-not e.place k b (sym z))

pub wrote-some : (p : Plan) (t : Tree) (k : Place) → wrote (notes p t) k ≡ true → WritesAt p.writes k
unfolding notes
wrote-some p t k h =
    let x = some-true (λ n. cond (written n.mark) (same_place n.place k) false) (notes p t) h in
    ⊎_elim
    (λ a. let y = in-map-from read_note x.0 (distinct [] p.reads) a in absurd (true≢false (sym (ap (λ z. cond (written z.mark) (same_place z.place k) false) (sym y.2) ∙ x.2))))
    (λ a.
    let y = in-map-from (write_note t) x.0 p.writes a in
    let b : cond (written (mark_of t y.0.place)) (same_place y.0.place k) false ≡ true = ap (λ z. cond (written z.mark) (same_place z.place k) false) (sym y.2) ∙ x.2 in
    let c : same_place y.0.place k ≡ true = subst (λ w. cond w (same_place y.0.place k) false ≡ true) (mark-written t y.0.place) b in
    (y.0, y.1, sym (same-only y.0.place k c)))
    (in-cases x.0 (map read_note (distinct [] p.reads)) (map (write_note t) p.writes) x.1)

-- ---- restoring by the record is putting back what the tree had

pub restore_join : (xs ys : List Note) (s : Tree) → restore (xs ++ ys) s ≡ restore xs (restore ys s)
unfolding restore
restore_join [] ys s = refl
restore_join (n ∷ xs) ys s = ap (put_back n.place n.mark) (restore_join xs ys s)

pub restore-reads : (ks : List Place) (s : Tree) → restore (map read_note ks) s ≡ s
unfolding restore
restore-reads [] s = refl
restore-reads (k ∷ ks) s = restore-reads ks s

put-back : (t : Tree) (k : Place) (s : Tree) → (k.1 ≡ None → look t k ≡ None) → put_back k (mark_of t k) s ≡ change s k (look t k)
put-back t (p, None) s h = ap (change s (p, None)) (sym (h refl))
put-back t (p, Some n) s h = refl

pub restore-writes : (t : Tree) (ws : List Entry) (s : Tree) → AllByRecursion (λ e. e.place.1 ≡ None → look t e.place ≡ None) ws → restore (map (write_note t) ws) s ≡ back t ws s
unfolding restore back
restore-writes t [] s h = refl
restore-writes t (e ∷ ws) s h = put-back t e.place (restore (map (write_note t) ws) s) h.0 ∙ ap (λ z. change z e.place (look t e.place)) (restore-writes t ws s h.1)

pub restore-back : (t : Tree) (v : Overlay) (d : ℕ) (p : Plan) (s : Tree) → Planned t v d p → restore (notes p t) s ≡ back t p.writes s
unfolding notes
restore-back t v d p s m =
    restore_join (map read_note (distinct [] p.reads)) (map (write_note t) p.writes) s
    ∙ restore-reads (distinct [] p.reads) _
    ∙ restore-writes t p.writes s (all_from _ p.writes (node-absent t v d p m))
