-- Right after a merge every reference points at the node that it is meant for. Assumes nothing.
use Rattle.std.proofs.Common.{◌≡◌, ℕ, ◌+◌, ◌<◌, ◌≤◌, Bool, true, false, cond, List, [], ◌∷◌, map, length, Some, None, codes, Option, sym, refl, ap, ◌∙◌, subst, inl, inr, ⊎_elim, true≢false, arith}
use Rattle.std.specs.Str.{bytes_eq}
use Rattle.std.proofs.lemmas.Slice.Eq.{bytes_eq-Decides}
use Rattle.tree.specs.Entries.{Entry, well_listed}
use Rattle.tree.specs.Numbers.{be32, bytes32}
use Rattle.tree.specs.Phandles.{is_phandle, handle_on, handles, holder_of}
use Rattle.tree.specs.Places.{Bytes, Place, property_at}
use Rattle.tree.specs.Trees.{Places, Tree, look}
use Rattle.tree.proofs.Maps.{some-none, some_one}
use Rattle.overlay_rules.specs.Texts.{joined}
use Rattle.overlay_rules.specs.Overlays.{phandle_at, value_at, fragment_nodes, in_body, body_entries, Cell, labels_of, cells_of, cells_at, Item, Overlay, overlay_of}
use Rattle.overlay_rules.specs.Checks.{handle_in, body_handles}
use Rattle.overlay_rules.specs.Plans.{Known, labelled, known, image_of, cell_number, filled, final_bytes, image_entry, symbol_entry, images, item_places, image_if, meant_by, cells_in, item_references, Reference, Plan, overlay_handles, planned, apply}
use Rattle.overlay_rules.specs.Laws.{Rising, In, Valid, Points}
use Rattle.overlay_rules.proofs.Lists.{all-at, all_from, in-cases, in_left, in_map, in-map-from, in-joined-from, in-pick-from}
use Rattle.overlay_rules.proofs.Looks.{Has, is-phandle, holder-has, has-holder}
use Rattle.overlay_rules.proofs.Asking.{gave, gave-from, gave-to}
use Rattle.overlay_rules.proofs.Journals.{Distinct, look_in}
use Rattle.overlay_rules.proofs.Planning.{labelled-is, Planned}
use Rattle.overlay_rules.proofs.Touching.{put_or_there, writes-is, plan-fewer}
use Rattle.overlay_rules.proofs.Checking.{Passed, item_of, item_from}
use Rattle.overlay_rules.proofs.Cells.{cell_good, cells-apart, cell_label}
use Rattle.overlay_rules.proofs.Filling.{Apart, length-filled, filled_cell}
use Rattle.overlay_rules.proofs.Listing.{value-at}
use Rattle.overlay_rules.proofs.Rules.{number-bytes, valid-most, member_handles, handle-raised, final_handle}

-- ---- small facts

pub body-listed : (es : List Entry) (e : Entry) → In e (body_entries es) → In e es × (in_body (fragment_nodes es) e.place.0 ≡ true)
unfolding body_entries
body-listed es e i =
    let x = in-pick-from (λ e. cond (in_body (fragment_nodes es) e.place.0) (Some e) None) e es i in
    go x.0 x.1 (in_body (fragment_nodes es) x.0.place.0) refl x.2
  where
    go : (x : Entry) → In x es → (b : Bool) → in_body (fragment_nodes es) x.place.0 ≡ b → cond b (Some x) None ≡ Some e → In e es × (in_body (fragment_nodes es) e.place.0 ≡ true)
    go x j true q h = let p : x ≡ e = cc in let P : Entry → Type 0 = λ z. In z es × (in_body (fragment_nodes es) z.place.0 ≡ true) in subst P p (j, q)
    go x j false q h = let z : ◌≡◌ {A = ℕ} 0 1 = cc in absurd (omega arith)

cells-in : (i : Item) (k : Place) (c : Cell) → In c (cells_in i k) → (n : Bytes) × (k.1 ≡ Some n) × (is_phandle n ≡ false) × In c i.cells
cells-in i (q, None) c h = absurd h
cells-in i (q, Some n) c h = go (is_phandle n) refl h
  where
    go : (b : Bool) → is_phandle n ≡ b → In c (cond b [] i.cells) → (m : Bytes) × (Some n ≡ Some m) × (is_phandle m ≡ false) × In c i.cells
    go true e h = absurd h
    go false e h = (n, refl, e, h)

final_cells : (env : List Known) (d : ℕ) (i : Item) (k : Place) (n : Bytes) → k.1 ≡ Some n → is_phandle n ≡ false → final_bytes env d i k ≡ filled env d i.value i.value i.cells
final_cells env d i (q, None) n e b = absurd (some-none n (sym e))
final_cells env d i (q, Some m) n e b = ap (λ z. cond z (bytes32 (be32 i.value 0 + d)) (filled env d i.value i.value i.cells)) (ap is_phandle (some_one e) ∙ b)

cells_at_lem : (es : List Entry) (k : Place) (n : Bytes) → k.1 ≡ Some n → cells_at es k ≡ cells_of es k.0 n
cells_at_lem es (q, None) n e = absurd (some-none n (sym e))
cells_at_lem es (q, Some m) n e = ap (cells_of es q) (some_one e)

known_in : (ks : List Known) (l : Bytes) (y : Known) → In y ks → y.name ≡ l → In (known ks l) ks
unfolding known
known_in [] l y i e = absurd i
known_in (k ∷ ks) l y i e = go (bytes_eq k.name l) refl (known_in ks l y) i
  where
    go : (b : Bool) → bytes_eq k.name l ≡ b → (In y ks → y.name ≡ l → In (known ks l) ks) → In y (k ∷ ks) → In (cond b k (known ks l)) (k ∷ ks)
    go true q ih i = inl refl
    go false q ih (inl p) = absurd (true≢false (sym ((bytes_eq-Decides k.name l).1 (ap (λ z. z.name) (sym p) ∙ e)) ∙ q))
    go false q ih (inr j) = inr (ih j e)

handle-from : (k : Place) (v w : Bytes) → handle_in k v ≡ Some w → (k.1 ≡ Some (codes "phandle")) × (v ≡ w)
handle-from (q, None) v w h = absurd (some-none w (sym h))
handle-from (q, Some n) v w h = go (is_phandle n) refl h
  where
    go : (b : Bool) → is_phandle n ≡ b → cond b (Some v) None ≡ Some w → (Some n ≡ Some (codes "phandle")) × (v ≡ w)
    go true e h = (ap Some (is-phandle n e), some_one h)
    go false e h = absurd (some-none w (sym h))

-- a body's phandle by its number
body-handle : (es : List Entry) (n : ℕ) → In n (body_handles (body_entries es)) → (e : Entry) × In e (body_entries es) × (e.place.1 ≡ Some (codes "phandle")) × (be32 e.value 0 ≡ n)
unfolding body_handles
body-handle es n i =
    let x = in-pick-from (λ (e : Entry). elim (handle_in e.place e.value) [ None ↦ None | Some v ↦ Some (be32 v 0) ]) n (body_entries es) i in
    go x.0 x.1 (handle_in x.0.place x.0.value) refl x.2
  where
    go : (e : Entry) → In e (body_entries es) → (o : Option Bytes) → handle_in e.place e.value ≡ o → elim o [ None ↦ None | Some v ↦ Some (be32 v 0) ] ≡ Some n → (e : Entry) × In e (body_entries es) × (e.place.1 ≡ Some (codes "phandle")) × (be32 e.value 0 ≡ n)
    go e j None q h = absurd (some-none n (sym h))
    go e j (Some v) q h = let y = handle-from e.place e.value v q in (e, j, y.0, ap (λ z. be32 z 0) y.1 ∙ some_one h)

on_member : (k : Place) (v q w : Bytes) → Has q w (handle_on k v) → ◌≡◌ {A = Place × Bytes} (phandle_at q, w) (k, v)
on_member (p, None) v q w i = absurd i
on_member (p, Some n) v q w i = go (is_phandle n) refl i
  where
    go : (b : Bool) → is_phandle n ≡ b → Has q w (cond b ((p, v) ∷ []) []) → ◌≡◌ {A = Place × Bytes} (phandle_at q, w) ((p, Some n), v)
    go true e (inl f) = let m = is-phandle n e in λ i. (((f i).0, Some (sym m i)), (f i).1)
    go true e (inr j) = absurd j
    go false e j = absurd j

handles_member : (ps : Places) (q w : Bytes) → Has q w (handles ps) → In {A = Place × Bytes} (phandle_at q, w) ps
unfolding handles
handles_member [] q w i = absurd i
handles_member (e ∷ ps) q w i = ⊎_elim
    (λ a. inl (on_member e.0 e.1 q w a))
    (λ a. inr (handles_member ps q w a))
    (in-cases _ (handle_on e.0 e.1) (handles ps) i)

-- ---- references

pub references-is : (t : Tree) (v : Overlay) (d : ℕ) (p : Plan) (m : Planned t v d p) → joined (map (item_references m.env m.ls v) v.items) ≡ p.references
unfolding planned
references-is t v d p m = ap (λ z. z.references) m.is

module _ (t : Tree) (es : List Entry) (d : ℕ) (p : Plan) (w : well_listed es ≡ true) (c : Passed es) (m : Planned t (overlay_of es) d p) (r : Rising t) where
  -- a property of a body is set
  pub set-item : (i : Item) (n : Bytes) → In i (overlay_of es).items → i.place.1 ≡ Some n → look (apply p.writes t) (image_of m.ls i.place.0, i.place.1) ≡ Some (final_bytes m.env d i i.place)
  set-item i n h q =
      let v = overlay_of es in
      let e = image_entry m.env d m.ls i in
      let j = in_left e (map (image_entry m.env d m.ls) v.items) (map (symbol_entry m.ls) v.symbols) (in_map (image_entry m.env d m.ls) i v.items h) in
      ⊎_elim
      (λ a. look_in p.writes t e r (subst Distinct (writes-is t v d p m) m.allows.distinct) (subst (In e) (writes-is t v d p m) a))
      (λ a. absurd (some-none n (sym q ∙ a.2)))
      (put_or_there t (images m.env d m.ls v) m.ts m.touched e j)

  -- the value of a body property, by its place in the overlay
  pub item-value : (i : Item) (n x : Bytes) → In i (overlay_of es).items → i.place.1 ≡ Some n → value_at es (property_at i.place.0 n) ≡ Some x → x ≡ i.value
  item-value i n x h q e =
      let f = item_from es i h in
      let l = value-at es f.0 w (body-listed es f.0 f.1).0 in
      let k : f.0.place ≡ property_at i.place.0 n = ap (λ z. z.place) (sym f.2) ∙ (λ j. (i.place.0, q j)) in
      some_one (sym e ∙ ap (value_at es) (sym k) ∙ l) ∙ ap (λ z. z.value) (sym f.2)

  pub item-cells : (i : Item) (n : Bytes) → In i (overlay_of es).items → i.place.1 ≡ Some n → i.cells ≡ cells_of es i.place.0 n
  item-cells i n h q =
      let f = item_from es i h in
      ap (λ z. z.cells) f.2 ∙ ap (λ z. cells_at es z.place) (sym f.2) ∙ cells_at_lem es i.place n q

  -- what a cell holds after the merge, if its number fits four bytes
  held_number : (i : Item) (n : Bytes) (k : Cell) → In i (overlay_of es).items → i.place.1 ≡ Some n → is_phandle n ≡ false → In k i.cells → cell_number m.env d i.value k k.label < 4294967296
      → (x : Bytes) × (look (apply p.writes t) (image_of m.ls i.place.0, i.place.1) ≡ Some x) × (k.offset + 4 ≤ length x) × (be32 x k.offset ≡ cell_number m.env d i.value k k.label)
  held_number i n k h q b j small =
      let ec = item-cells i n h q in
      let good : (y : Cell) → In y i.cells → y.offset + 4 ≤ length i.value = λ y z.
      (let g = (cell_good es i.place.0 n y c (subst (In y) ec z)).within in
      subst (λ u. y.offset + 4 ≤ length u) (item-value i n g.value h q g.is) g.fits) in
      let all = all_from (λ y. y.offset + 4 ≤ length i.value) i.cells good in
      let apart = all_from (Apart k) i.cells (λ y z. cells-apart es i.place.0 n k y c (subst (In k) ec j) (subst (In y) ec z)) in
      let fin = final_cells m.env d i i.place n q b in
      let len = length-filled m.env d i.value i.cells i.value all in
      let fk = good k j in
      (filled m.env d i.value i.value i.cells, set-item i n h q ∙ ap Some fin, omega (arith, len, fk), filled_cell m.env d i.value i.cells i.value k j small all apart)

  -- a label's cell
  label-points : Valid t → (i : Item) (n l : Bytes) (k : Cell) → In i (overlay_of es).items → i.place.1 ≡ Some n → is_phandle n ≡ false → In k i.cells → k.label ≡ Some l
      → Points (apply p.writes t) (record { place = (image_of m.ls i.place.0, i.place.1); offset = k.offset; meant = (known m.env l).path })
  unfolding overlay_of
  label-points val i n l k h q b j e =
      let x = cell_label es i.place.0 n k l (subst (In k) (item-cells i n h q) j) e in
      let y = gave-to t labelled (labels_of es) m.env x.0 (gave t labelled (labels_of es) m.env m.labels) x.1 in
      let z = labelled-is t x.0 y.0 y.2 in
      let kn = known m.env l in
      let ki = known_in m.env l y.0 y.1 (z.name ∙ x.2) in
      let u = gave-from t labelled (labels_of es) m.env kn (gave t labelled (labels_of es) m.env m.labels) ki in
      let la = labelled-is t u.0 kn u.2 in
      let most = valid-most la.handle (val kn.path la.handle la.handle_is) in
      let nu = la.number in
      let ce : cell_number m.env d i.value k k.label ≡ kn.number = ap (cell_number m.env d i.value k) e in
      let he = held_number i n k h q b j (omega (arith, ce, nu, most)) in
      record {
        value = he.0;
        value_is = he.1;
        within = he.2;
        handle = la.handle;
        handle_is = plan-fewer t (overlay_of es) d p r m kn.path la.handle la.handle_is;
        number = he.3 ∙ ce ∙ nu;
      }

  -- a cell of the overlay's own
  local_points : (i : Item) (n : Bytes) (k : Cell) → In i (overlay_of es).items → i.place.1 ≡ Some n → is_phandle n ≡ false → In k i.cells → k.label ≡ None
      → Points (apply p.writes t) (record { place = (image_of m.ls i.place.0, i.place.1); offset = k.offset; meant = image_if m.ls (holder_of (be32 i.value k.offset) (handles (item_places (overlay_of es)))) })
  local_points i n k h q b j e =
      let v = overlay_of es in
      let o = be32 i.value k.offset in
      let g = (cell_good es i.place.0 n k c (subst (In k) (item-cells i n h q) j)).local e in
      let iv = item-value i n g.within.value h q g.within.is in
      let bh = body-handle es o (subst (λ z. In (be32 z k.offset) (body_handles (body_entries es))) iv g.holds) in
      let jm = made_in bh.0 bh.1 bh.2 in
      let ho = has-holder o (handles (item_places v)) bh.0.place.0 bh.0.value (member_handles (item_places v) bh.0.place.0 bh.0.value jm) bh.3 in
      let hh = holder-has o (handles (item_places v)) ho.0 ho.1 in
      let mem = in-map-from (λ (i : Item). (i.place, i.value)) (phandle_at ho.0, hh.0) v.items (handles_member (item_places v) ho.0 hh.0 hh.1) in
      let y = mem.0 in
      let yp : y.place ≡ phandle_at ho.0 = sym (ap (λ z. z.0) mem.2) in
      let yv : y.value ≡ hh.0 = sym (ap (λ z. z.1) mem.2) in
      let yh : y.place.1 ≡ Some (codes "phandle") = ap (λ z. z.1) yp in
      let yn : be32 y.value 0 ≡ o = ap (λ z. be32 z 0) yv ∙ hh.2 in
      let most = all-at (λ n. n + d ≤ 4294967294) (be32 y.value 0) (overlay_handles v) m.raised (handle-raised v y mem.1 yh) in
      let ce : cell_number m.env d i.value k k.label ≡ o + d = ap (cell_number m.env d i.value k) e in
      let he = held_number i n k h q b j (omega (arith, ce, yn, most)) in
      let si = set-item y (codes "phandle") mem.1 yh in
      let nb = number-bytes (be32 y.value 0 + d) (omega arith) in
      record {
        value = he.0;
        value_is = he.1;
        within = he.2;
        handle = bytes32 (be32 y.value 0 + d);
        handle_is = ap (λ z. look (apply p.writes t) (phandle_at (image_if m.ls z))) ho.1 ∙ ap (look (apply p.writes t)) (λ s. (image_of m.ls (sym yp s).0, (sym yp s).1)) ∙ si ∙ ap Some (final_handle m.env d y y.place yh);
        number = he.3 ∙ ce ∙ ap (λ z. z + d) (sym yn) ∙ sym nb;
      }
    where
      made_in : (e : Entry) → In e (body_entries es) → e.place.1 ≡ Some (codes "phandle") → In {A = Place × Bytes} (phandle_at e.place.0, e.value) (item_places (overlay_of es))
      made_in e i q = subst (λ z. In {A = Place × Bytes} ((e.place.0, z), e.value) (item_places (overlay_of es))) q (in_map (λ (i : Item). (i.place, i.value)) (item_of es e) (overlay_of es).items (unfold overlay_of in in_map (item_of es) e (body_entries es) i))

  by_label_lem : Valid t → (i : Item) (n : Bytes) (k : Cell) → In i (overlay_of es).items → i.place.1 ≡ Some n → is_phandle n ≡ false → In k i.cells → (o : Option Bytes) → k.label ≡ o
      → Points (apply p.writes t) (record { place = (image_of m.ls i.place.0, i.place.1); offset = k.offset; meant = meant_by m.env m.ls (overlay_of es) i k o })
  by_label_lem val i n k h q b j None e = local_points i n k h q b j e
  by_label_lem val i n k h q b j (Some l) e = label-points val i n l k h q b j e

  pub points : Valid t → (f : Reference) → In f p.references → Points (apply p.writes t) f
  points val f j =
      let v = overlay_of es in
      let x = in-joined-from (item_references m.env m.ls v) f v.items (subst (In f) (sym (references-is t v d p m)) j) in
      let i = x.0 in
      let make : Cell → Reference = λ c. record { place = (image_of m.ls i.place.0, i.place.1); offset = c.offset; meant = meant_by m.env m.ls v i c c.label } in
      let y = in-map-from make f (cells_in i i.place) x.2 in
      let z = cells-in i i.place y.0 y.1 in
      subst (Points (apply p.writes t)) (sym y.2) (by_label_lem val i z.0 y.0 x.1 z.1 z.2 z.3 y.0.label refl)
