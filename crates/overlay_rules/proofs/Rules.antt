-- Merging a checked overlay keeps the phandle rule. Assumes nothing.
use Rattle.std.proofs.Common.{◌≡◌, ℕ, ◌+◌, ◌<◌, ◌≤◌, true, cond, eqb, leb, List, [], ◌∷◌, map, length, Some, None, codes, sym, refl, ap, ◌∙◌, subst, inl, inr, ⊎_elim, true≢false, arith}
use Rattle.std.proofs.lemmas.Bool.{and_parts, and_from, le-leb, leb-true}
use Rattle.tree.specs.Entries.{Entry}
use Rattle.tree.specs.Numbers.{be32, bytes32}
use Rattle.tree.specs.Phandles.{is_phandle, handle_on, handles, valid_handle}
use Rattle.tree.specs.Places.{Bytes, Place, property_at}
use Rattle.tree.specs.Trees.{Places, Tree, look}
use Rattle.tree.proofs.Maps.{some-none, some_one}
use Rattle.overlay_rules.specs.Overlays.{symbols_path, phandle_at, Item, Overlay, overlay_of}
use Rattle.overlay_rules.specs.Plans.{Known, Located, image_of, final_bytes, filled, image_entry, symbol_entry, images, item_places, overlay_handles, Plan, apply}
use Rattle.overlay_rules.specs.Laws.{Rising, In, Valid, Unique}
use Rattle.overlay_rules.proofs.Lists.{all-at, in-cases, in_left, in_right, in_map, in-map-from}
use Rattle.overlay_rules.proofs.Looks.{Has}
use Rattle.overlay_rules.proofs.Journals.{look-from}
use Rattle.overlay_rules.proofs.Planning.{Planned}
use Rattle.overlay_rules.proofs.Touching.{put-from, writes-is}
use Rattle.overlay_rules.proofs.Checking.{Passed, items-valid, items-one, symbol-from}

-- ---- numbers in four bytes

pub number-bytes : (m : ℕ) → m < 4294967296 → be32 (bytes32 m) 0 ≡ m
unfolding be32
number-bytes m h = omega arith

pub valid-number : (v : Bytes) → valid_handle v ≡ true → 1 ≤ be32 v 0
valid-number v h = leb-true _ _ (and_parts _ _ (and_parts _ _ h).1).0

pub valid-most : (v : Bytes) → valid_handle v ≡ true → be32 v 0 ≤ 4294967294
valid-most v h = leb-true _ _ (and_parts (leb 1 (be32 v 0)) _ (and_parts (eqb (length v) 4) _ h).1).1

pub valid-bytes : (m : ℕ) → 1 ≤ m → m ≤ 4294967294 → valid_handle (bytes32 m) ≡ true
valid-bytes m a b =
    let e = number-bytes m (omega arith) in
    let x : 1 ≤ be32 (bytes32 m) 0 = omega (arith, e) in
    let y : be32 (bytes32 m) 0 ≤ 4294967294 = omega (arith, e) in
    and_from _ _ (le-leb _ _ x) (le-leb _ _ y)

-- ---- the phandles of a list of places

pub member_handles : (ps : Places) (q w : Bytes) → In {A = Place × Bytes} (phandle_at q, w) ps → Has q w (handles ps)
unfolding handles
member_handles [] q w i = absurd i
member_handles (e ∷ ps) q w (inl p) = in_left _ (handle_on e.0 e.1) (handles ps) (subst (λ z. Has q w (handle_on z.0 z.1)) p (inl refl))
member_handles (e ∷ ps) q w (inr i) = in_right _ (handle_on e.0 e.1) (handles ps) (member_handles ps q w i)

abbrev pub IsHandle : Item → Type 0
IsHandle i = i.place.1 ≡ Some (codes "phandle")

-- a body's phandle is among those that are raised
pub handle-raised : (v : Overlay) (i : Item) → In i v.items → IsHandle i → In (be32 i.value 0) (overlay_handles v)
handle-raised v i h e =
    let m : In {A = Place × Bytes} (phandle_at i.place.0, i.value) (item_places v) = subst (λ z. In {A = Place × Bytes} ((i.place.0, z), i.value) (item_places v)) e (in_map (λ i. (i.place, i.value)) i v.items h) in
    in_map (λ h. be32 h.1 0) (i.place.0, i.value) (handles (item_places v)) (member_handles (item_places v) i.place.0 i.value m)

pub final_handle : (env : List Known) (d : ℕ) (i : Item) (k : Place) → k.1 ≡ Some (codes "phandle") → final_bytes env d i k ≡ bytes32 (be32 i.value 0 + d)
final_handle env d i (p, None) e = absurd (some-none _ (sym e))
final_handle env d i (p, Some n) e = ap (λ b. cond b (bytes32 (be32 i.value 0 + d)) (filled env d i.value i.value i.cells)) (ap is_phandle (some_one e))

-- ---- a written phandle is a body's, raised

pub record Raised (env : List Known) (d : ℕ) (ls : List Located) (v : Overlay) (p w : Bytes) : Type 0 where
  pub item : Item
  pub listed : In item v.items
  pub handle : IsHandle item
  pub path : p ≡ image_of ls item.place.0
  pub value : w ≡ bytes32 (be32 item.value 0 + d)

module _ (t : Tree) (es : List Entry) (d : ℕ) (p : Plan) (c : Passed es) (m : Planned t (overlay_of es) d p) where
  pub written-handle : (q : Bytes) (e : Entry) → In e p.writes → phandle_at q ≡ e.place → Raised m.env d m.ls (overlay_of es) q e.value
  written-handle q e i z =
      let v = overlay_of es in
      let j = (put-from t (images m.env d m.ls v) m.ts m.touched e (subst (In e) (sym (writes-is t v d p m)) i)).0 in
      ⊎_elim
      (λ a.
      let x = in-map-from (image_entry m.env d m.ls) e v.items a in
      let k : phandle_at q ≡ (image_of m.ls x.0.place.0, x.0.place.1) = z ∙ ap (λ y. y.place) x.2 in
      let h : x.0.place.1 ≡ Some (codes "phandle") = sym (ap (λ y. y.1) k) in
      record { item = x.0; listed = x.1; handle = h; path = ap (λ y. y.0) k; value = ap (λ y. y.value) x.2 ∙ final_handle m.env d x.0 x.0.place h })
      (λ a.
      let x = in-map-from (symbol_entry m.ls) e v.symbols a in
      let s = symbol-from es x.0 c x.1 in
      let k : phandle_at q ≡ property_at symbols_path x.0.label = z ∙ ap (λ y. y.place) x.2 in
      let l : codes "phandle" ≡ x.0.label = some_one (ap (λ y. y.1) k) in
      absurd (true≢false (ap is_phandle l ∙ s.label)))
      (in-cases e (map (image_entry m.env d m.ls) v.items) (map (symbol_entry m.ls) v.symbols) j)

  raised_most : (q w : Bytes) → (r : Raised m.env d m.ls (overlay_of es) q w) → be32 r.item.value 0 + d ≤ 4294967294
  raised_most q w r = all-at (λ n. n + d ≤ 4294967294) (be32 r.item.value 0) (overlay_handles (overlay_of es)) m.raised (handle-raised (overlay_of es) r.item r.listed r.handle)

  raised_number : (q w : Bytes) → (r : Raised m.env d m.ls (overlay_of es) q w) → be32 w 0 ≡ be32 r.item.value 0 + d
  raised_number q w r = let l = raised_most q w r in ap (λ z. be32 z 0) r.value ∙ number-bytes _ (omega arith)

  raised_least : (q w : Bytes) → (r : Raised m.env d m.ls (overlay_of es) q w) → 1 ≤ be32 r.item.value 0
  raised_least q w r = valid-number r.item.value (items-valid es r.item c r.listed r.handle)

  -- above the offset
  pub raised_above : (q w : Bytes) → Raised m.env d m.ls (overlay_of es) q w → d < be32 w 0
  raised_above q w r = omega (arith, raised_number q w r, raised_least q w r)

  raised_valid : (q w : Bytes) → Raised m.env d m.ls (overlay_of es) q w → valid_handle w ≡ true
  raised_valid q w r =
      let a = raised_most q w r in
      let b = raised_least q w r in
      ap (λ z. valid_handle z) r.value ∙ valid-bytes _ (omega arith) a

  pub keeps_valid : Rising t → Valid t → Valid (apply p.writes t)
  keeps_valid r a q w h = ⊎_elim
      (λ o. a q w o)
      (λ x. subst (λ z. valid_handle z ≡ true) (sym x.3) (raised_valid q x.0.value (written-handle q x.0 x.1 x.2)))
      (look-from p.writes t (phandle_at q) w r h)

  raised_one : (q r w x : Bytes) → Raised m.env d m.ls (overlay_of es) q w → Raised m.env d m.ls (overlay_of es) r x → be32 w 0 ≡ be32 x 0 → q ≡ r
  raised_one q r w x a b e =
      let n : be32 a.item.value 0 ≡ be32 b.item.value 0 = omega (arith, e, raised_number q w a, raised_number r x b) in
      let k = items-one es a.item b.item c a.listed b.listed a.handle b.handle n in
      a.path ∙ ap (λ z. image_of m.ls z.0) k ∙ sym b.path

  -- merged at an offset that no phandle of the tree passes
  pub keeps_unique : Rising t → Unique t → ((q w : Bytes) → look t (phandle_at q) ≡ Some w → be32 w 0 ≤ d) → Unique (apply p.writes t)
  keeps_unique r u most a b v w ha hb e = ⊎_elim
      (λ x. ⊎_elim
      (λ y. u a b v w x y e)
      (λ y. absurd (above a v b y.0.value x (written-handle b y.0 y.1 y.2) (e ∙ ap (λ z. be32 z 0) y.3)))
      (look-from p.writes t (phandle_at b) w r hb))
      (λ x. ⊎_elim
      (λ y. absurd (above b w a x.0.value y (written-handle a x.0 x.1 x.2) (sym e ∙ ap (λ z. be32 z 0) x.3)))
      (λ y. raised_one a b x.0.value y.0.value (written-handle a x.0 x.1 x.2) (written-handle b y.0 y.1 y.2) (ap (λ z. be32 z 0) (sym x.3) ∙ e ∙ ap (λ z. be32 z 0) y.3))
      (look-from p.writes t (phandle_at b) w r hb))
      (look-from p.writes t (phandle_at a) v r ha)
    where
      above : (q w r x : Bytes) → look t (phandle_at q) ≡ Some w → Raised m.env d m.ls (overlay_of es) r x → be32 w 0 ≡ be32 x 0 → ⊥
      above q w r x h y e = omega (arith, most q w h, raised_above r x y, e)
