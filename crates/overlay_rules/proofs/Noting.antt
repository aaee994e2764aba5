-- The record of a plan has one entry for each place that is read or written. Assumes nothing.
use Rattle.std.proofs.Common.{◌≡◌, ℕ, Bool, true, false, cond, ◌||◌, ◌⊎◌, List, [], ◌∷◌, ◌++◌, map, Some, None, sym, refl, ap, ◌∙◌, subst, inl, inr, ⊎_elim, true≢false}
use Rattle.std.specs.List.{AllByRecursion}
use Rattle.std.proofs.lemmas.Bool.{or_right}
use Rattle.tree.specs.Entries.{Entry, same_place, some}
use Rattle.tree.specs.Phandles.{is_phandle}
use Rattle.tree.specs.Places.{Bytes, Place, node_at, property_at}
use Rattle.tree.specs.Trees.{Tree, look}
use Rattle.tree.proofs.Maps.{some-none}
use Rattle.overlay_rules.specs.Texts.{pick, joined}
use Rattle.overlay_rules.specs.Overlays.{symbols_path, phandle_at, Fragment, Overlay}
use Rattle.overlay_rules.specs.Plans.{Known, labelled, Located, located, images, touch, there_in, once, Plan, has_labels, known_reads}
use Rattle.overlay_rules.specs.Records.{Note, distinct, read_note, write_note, notes}
use Rattle.overlay_rules.specs.Laws.{Rising, In, WritesAt, ApartNotes, Records, RecordsWhatItTouches}
use Rattle.overlay_rules.proofs.Lists.{all-at, all_from, all_both, in-cases, in-map-from, in-joined-from, in-pick-from, some-false}
use Rattle.overlay_rules.proofs.Looks.{place-not}
use Rattle.overlay_rules.proofs.Asking.{gave, gave-from}
use Rattle.overlay_rules.proofs.Journals.{Distinct}
use Rattle.overlay_rules.proofs.Planning.{labelled-is, located-is, Was, New, touch_is, Planned, plan-is}
use Rattle.overlay_rules.proofs.Touching.{reads-is, writes-is, once-absent, node-absent, note_read, note_write}

-- ---- reads once each

distinct_from : (seen ks : List Place) (k : Place) → In k (distinct seen ks) → In k ks × (some (same_place k) seen ≡ false)
unfolding distinct
distinct_from seen [] k i = absurd i
distinct_from seen (j ∷ ks) k i = go (some (same_place j) seen) refl (distinct_from seen ks k) (distinct_from (j ∷ seen) ks k) i
  where
    later : (b c : Bool) → (b || c) ≡ false → c ≡ false
    later true c h = absurd (true≢false h)
    later false c h = h

    go : (b : Bool) → some (same_place j) seen ≡ b → (In k (distinct seen ks) → In k ks × (some (same_place k) seen ≡ false)) → (In k (distinct (j ∷ seen) ks) → In k ks × (some (same_place k) (j ∷ seen) ≡ false)) → In k (cond b (distinct seen ks) (j ∷ distinct (j ∷ seen) ks)) → In k (j ∷ ks) × (some (same_place k) seen ≡ false)
    go true e ih jh i = let r = ih i in (inr r.0, r.1)
    go false e ih jh (inl p) = (inl p, ap (λ z. some (same_place z) seen) p ∙ e)
    go false e ih jh (inr i) = let r = jh i in (inr r.0, later _ _ r.1)

distinct_apart : (seen ks : List Place) → ApartNotes (map read_note (distinct seen ks))
unfolding distinct
distinct_apart seen [] = tt
distinct_apart seen (j ∷ ks) = go (some (same_place j) seen) (distinct_apart seen ks) (distinct_apart (j ∷ seen) ks)
  where
    away : AllByRecursion (λ n. j ≡ n.place → ⊥) (map read_note (distinct (j ∷ seen) ks))
    away = all_from _ (map read_note (distinct (j ∷ seen) ks)) (λ n i e.
        let x = in-map-from read_note n (distinct (j ∷ seen) ks) i in
        let y = distinct_from (j ∷ seen) ks x.0 x.1 in
        place-not x.0 j (some-false (same_place x.0) (j ∷ seen) y.1).0 (sym (e ∙ ap (λ z. z.place) x.2)))

    go : (b : Bool) → ApartNotes (map read_note (distinct seen ks)) → ApartNotes (map read_note (distinct (j ∷ seen) ks)) → ApartNotes (map read_note (cond b (distinct seen ks) (j ∷ distinct (j ∷ seen) ks)))
    go true a b = a
    go false a b = (away, b)

writes_apart : (t : Tree) (ws : List Entry) → Distinct ws → ApartNotes (map (write_note t) ws)
writes_apart t [] d = tt
writes_apart t (e ∷ ws) d =
    (all_from _ (map (write_note t) ws) (λ n i q. let x = in-map-from (write_note t) n ws i in all-at (λ f. e.place ≡ f.place → ⊥) x.0 ws d.0 x.1 (q ∙ ap (λ z. z.place) x.2)), writes_apart t ws d.1)

apart_join : (xs ys : List Note) → ApartNotes xs → ApartNotes ys → AllByRecursion (λ n. AllByRecursion (λ m. n.place ≡ m.place → ⊥) ys) xs → ApartNotes (xs ++ ys)
apart_join [] ys a b h = b
apart_join (x ∷ xs) ys a b h = (all_both _ xs ys a.0 h.0, apart_join xs ys a.1 b h.1)

-- ---- what is read is there, and what may be written there is not

-- a node that is there, or a property that may be set once and is there
abbrev Firm : Tree → Place → Type 0
Firm t k = ((v : Bytes) × (look t k ≡ Some v)) × ((k.1 ≡ None) ⊎ (once k ≡ true))

symbol-once : (n : Bytes) → once (property_at symbols_path n) ≡ true
symbol-once n = or_right (is_phandle n) _ refl

module _ (t : Tree) (v : Overlay) (d : ℕ) (p : Plan) (r : Rising t) (sy : look t (node_at symbols_path) ≡ Some []) (m : Planned t v d p) where
  known-firm : (k : Known) (j : Place) → In k m.env → In j (known_reads k) → Firm t j
  known-firm k j i h =
      let y = gave-from t labelled v.labels m.env k (gave t labelled v.labels m.env m.labels) i in
      let l = labelled-is t y.0 k y.2 in
      go (l.symbol, ap (λ z. look t (property_at symbols_path z)) l.name ∙ l.symbol_is) (l.node, l.node_is) (l.handle, l.handle_is) h
    where
      go : (a : Bytes) × (look t (property_at symbols_path k.name) ≡ Some a) → (b : Bytes) × (look t (node_at k.path) ≡ Some b) → (c : Bytes) × (look t (phandle_at k.path) ≡ Some c) → In j (known_reads k) → Firm t j
      go a b c (inl e) = ((a.0, ap (look t) e ∙ a.1), inr (ap once e ∙ symbol-once k.name))
      go a b c (inr (inl e)) = ((b.0, ap (look t) e ∙ b.1), inl (ap (λ z. z.1) e))
      go a b c (inr (inr (inl e))) = ((c.0, ap (look t) e ∙ c.1), inr (ap once e))
      go a b c (inr (inr (inr x))) = absurd x

  target-firm : (l : Located) (j : Place) → In l m.ls → In j l.reads → Firm t j
  target-firm l j i h =
      let fl = λ (f : Fragment). located m.env f f.target in
      let y = gave-from t fl v.fragments m.ls l (gave t fl v.fragments m.ls m.targets) i in
      let f = (located-is t m.env y.0 y.0.target l y.2).firm r j h in
      (f.0, ⊎_elim (λ e. inl (ap (λ z. z.1) e)) (λ e. inr (ap once e)) f.1)

  there-firm : (j : Place) → In j (pick there_in m.ts) → Firm t j
  there-firm j i =
      let x = in-pick-from there_in j m.ts i in
      let y = gave-from t (λ e. touch e e.place) (images m.env d m.ls v) m.ts x.0 (gave t _ _ m.ts m.touched) x.1 in
      ⊎_elim
      (λ (a : Was t y.0 y.0.place x.0).
      let e : y.0.place ≡ j = place-one (ap there_in (sym a.is) ∙ x.2) in
      ((a.value, ap (look t) (sym e) ∙ a.value_is), inl (ap (λ z. z.1) (sym e) ∙ a.node)))
      (λ (a : New t y.0 y.0.place x.0). absurd (none-place (sym (ap there_in (sym a.is) ∙ x.2))))
      (touch_is t y.0 y.0.place x.0 y.2)
    where
      place-one : {a b : Place} → Some a ≡ Some b → a ≡ b
      place-one e = cc

      none-place : {a : Place} → Some a ≡ None → ⊥
      none-place {a} e = some-none a e

  symbols-firm : (b : Bool) (j : Place) → In j (cond b (node_at symbols_path ∷ []) []) → Firm t j
  symbols-firm true j (inl e) = (([], ap (look t) e ∙ sy), inl (ap (λ z. z.1) e))
  symbols-firm true j (inr i) = absurd i
  symbols-firm false j i = absurd i

  read-firm : (j : Place) → In j p.reads → Firm t j
  read-firm j i =
      let L = joined (map known_reads m.env) in
      let G = joined (map (λ (l : Located). l.reads) m.ls) in
      ⊎_elim
      (λ a. symbols-firm (has_labels v) j a)
      (λ b. ⊎_elim
      (λ a. let x = in-joined-from known_reads j m.env a in known-firm x.0 j x.1 x.2)
      (λ b. ⊎_elim
      (λ a. let x = in-joined-from (λ (l : Located). l.reads) j m.ls a in target-firm x.0 j x.1 x.2)
      (λ a. there-firm j a)
      (in-cases j G _ b))
      (in-cases j L _ b))
      (in-cases j (cond (has_labels v) (node_at symbols_path ∷ []) []) _ (subst (In j) (sym (reads-is t v d p m)) i))

  never_both : (k : Place) → In k p.reads → WritesAt p.writes k → ⊥
  never_both k i w =
      let f = read-firm k i in
      let there : look t w.0.place ≡ Some f.0.0 = ap (look t) (sym w.2) ∙ f.0.1 in
      ⊎_elim
      (λ n. some-none f.0.0 (sym there ∙ node-absent t v d p m w.0 w.1 (ap (λ z. z.1) (sym w.2) ∙ n)))
      (λ o. some-none f.0.0 (sym there ∙ once-absent t v d p m w.0 w.1 (ap once (sym w.2) ∙ o)))
      f.1

  pub records : Records t p
  unfolding notes
  records =
      let R = distinct [] p.reads in
      let W = map (write_note t) p.writes in
      record {
        one = apart_join (map read_note R) W (distinct_apart [] p.reads) (writes_apart t p.writes (subst Distinct (writes-is t v d p m) m.allows.distinct))
            (all_from _ (map read_note R) (λ n i. all_from _ W (λ o j e.
            let x = in-map-from read_note n R i in
            let y = in-map-from (write_note t) o p.writes j in
            never_both x.0 (distinct_from [] p.reads x.0 x.1).0 (y.0, y.1, ap (λ z. z.place) (sym x.2) ∙ e ∙ ap (λ z. z.place) y.2))));
        read = λ k i. note_read p t k i;
        write = λ e i. note_write p t e i;
        only = λ n i. ⊎_elim
            (λ a. let x = in-map-from read_note n R a in inl (subst (λ z. In z.place p.reads) (sym x.2) (distinct_from [] p.reads x.0 x.1).0))
            (λ a. let x = in-map-from (write_note t) n p.writes a in inr (x.0, x.1, ap (λ z. z.place) x.2))
            (in-cases n (map read_note R) W i);
        never_both = never_both;
      }

pub records_what_it_touches : RecordsWhatItTouches
records_what_it_touches t v d p r sy h = records t v d p r sy (plan-is t v d p h)
