-- The cells of a checked overlay: within their values, apart from one another, and what a local one holds. Assumes nothing.
use Rattle.std.proofs.Common.{◌≡◌, ℕ, ◌+◌, ◌≤◌, Bool, true, false, cond, not, ◌&&◌, ◌||◌, eqb, leb, ◌⊎◌, List, [], ◌∷◌, ◌++◌, map, length, is_some, Some, None, codes, Option, sym, refl, ap, ◌∙◌, subst, inl, inr, ⊎_elim, true≢false, arith}
use Rattle.std.specs.List.{AllByRecursion}
use Rattle.std.specs.Str.{bytes_eq}
use Rattle.std.proofs.lemmas.Slice.Eq.{bytes_eq-Decides}
use Rattle.std.proofs.lemmas.Bool.{or_parts, or_cases, and_parts, and_cases, and_from, eqb-true, leb-true, ltb-false, not-false, cond-false}
use Rattle.tree.specs.Entries.{Entry, some}
use Rattle.tree.specs.Numbers.{be32}
use Rattle.tree.specs.Phandles.{is_phandle}
use Rattle.tree.specs.Places.{Bytes, Place, property_at}
use Rattle.tree.proofs.Maps.{some-none, some_one}
use Rattle.overlay_rules.specs.Texts.{pick, joined, split, behind}
use Rattle.overlay_rules.specs.Overlays.{fixups_path, locals_path, target_at, target_path_at, value_at, fragment_nodes, in_body, body_entries, Spot, spot_of, strings, spots, numbers, Label, label_of, labels_of, locals_behind, locals_of, Cell, cell_for, cells_of}
use Rattle.overlay_rules.specs.Checks.{body_handles, good_target, bad_fragment, holds_cell, body_value, good_spot, good_strings, bad_fixup, good_cells, bad_local_at, bad_local, named_cells, shares, overlap, cell_fault}
use Rattle.overlay_rules.specs.Laws.{In}
use Rattle.overlay_rules.proofs.Lists.{all-at, in-cases, in_left, in_right, in-map-from, in-joined-from, in-pick-from, some-false, some-true, each_all}
use Rattle.overlay_rules.proofs.Checking.{Passed, no-fault}
use Rattle.overlay_rules.proofs.Filling.{Apart}

-- ---- a cell comes from a token

-- a fixup's cells go by its label, a local one's are raised
abbrev kind_of : Place → Option Bytes
kind_of (q, None) = None
kind_of (q, Some m) = cond (bytes_eq q fixups_path) (Some m) None

pub record CellFrom (es : List Entry) (p n : Bytes) (c : Cell) : Type 0 where
  pub entry : Entry
  pub listed : In entry es
  pub spot : Spot
  pub named : In spot (named_cells entry entry.place)
  pub path : spot.path ≡ p
  pub name : spot.name ≡ n
  pub offset : c.offset ≡ spot.offset
  pub kind : c.label ≡ kind_of entry.place

cell_one : {x y : Cell} → Some x ≡ Some y → x ≡ y
cell_one e = cc

spot-one : {x y : Spot} → Some x ≡ Some y → x ≡ y
spot-one e = cc

cell_for_lem : (p n : Bytes) (l : Option Bytes) (s : Spot) (c : Cell) → cell_for p n l s ≡ Some c → (s.path ≡ p) × (s.name ≡ n) × (c.offset ≡ s.offset) × (c.label ≡ l)
cell_for_lem p n l s c h = go (bytes_eq s.path p && bytes_eq s.name n) refl h
  where
    go : (b : Bool) → (bytes_eq s.path p && bytes_eq s.name n) ≡ b → cond b (Some (record { offset = s.offset; label = l })) None ≡ Some c → (s.path ≡ p) × (s.name ≡ n) × (c.offset ≡ s.offset) × (c.label ≡ l)
    go true e h =
        let a = and_parts _ _ e in
        let q = cell_one h in
        ((bytes_eq-Decides s.path p).0 a.0, (bytes_eq-Decides s.name n).0 a.1, sym (ap (λ z. z.offset) q), sym (ap (λ z. z.label) q))
    go false e h = let z : ◌≡◌ {A = ℕ} 0 1 = cc in absurd (omega arith)

label-one : {x y : Label} → Some x ≡ Some y → x ≡ y
label-one e = cc

label-entry : (e : Entry) (k : Place) (l : Label) → label_of e k ≡ Some l → (kind_of k ≡ Some l.name) × (named_cells e k ≡ l.spots)
label-entry e (q, None) l h = let z : ◌≡◌ {A = ℕ} 0 1 = cc in absurd (omega arith)
label-entry e (q, Some m) l h = go (bytes_eq q fixups_path) h
  where
    go : (b : Bool) → cond b (Some (record { at = e.at; name = m; spots = spots e.value })) None ≡ Some l → (cond b (Some m) None ≡ Some l.name) × (cond b (spots e.value) (locals_behind m e.value (behind locals_path q)) ≡ l.spots)
    go true h = let x = label-one h in (ap (λ z. Some z.name) x, ap (λ z. z.spots) x)
    go false h = let z : ◌≡◌ {A = ℕ} 0 1 = cc in absurd (omega arith)

-- what stands below `__local_fixups__` is not `__fixups__`
not-fixups : (q r : Bytes) → behind locals_path q ≡ Some r → bytes_eq q fixups_path ≡ false
unfolding behind
not-fixups q r h = go (bytes_eq q fixups_path) refl
  where
    go : (b : Bool) → bytes_eq q fixups_path ≡ b → bytes_eq q fixups_path ≡ false
    go false e = e
    go true e = absurd (some-none r (sym h ∙ ap (behind locals_path) ((bytes_eq-Decides q fixups_path).0 e)))

local-entry : (e : Entry) (k : Place) (s : Spot) → In s (locals_of e k) → (kind_of k ≡ None) × In s (named_cells e k)
local-entry e (q, None) s i = absurd i
local-entry e (q, Some m) s i = go (behind locals_path q) refl i
  where
    go : (o : Option Bytes) → behind locals_path q ≡ o → In s (locals_behind m e.value o) → (cond (bytes_eq q fixups_path) (Some m) None ≡ None) × In s (cond (bytes_eq q fixups_path) (spots e.value) (locals_behind m e.value (behind locals_path q)))
    go None h i = absurd i
    go (Some r) h i =
        let n = not-fixups q r h in
        (cond-false _ _ _ n, subst (In s) (sym (cond-false (bytes_eq q fixups_path) (spots e.value) (locals_behind m e.value (behind locals_path q)) n)) (subst (λ z. In s (locals_behind m e.value z)) (sym h) i))

pub cell_from : (es : List Entry) (p n : Bytes) (c : Cell) → In c (cells_of es p n) → CellFrom es p n c
unfolding cells_of labels_of
cell_from es p n c i = ⊎_elim
    (λ a.
    let x = in-joined-from (λ (l : Label). pick (cell_for p n (Some l.name)) l.spots) c (labels_of es) a in
    let y = in-pick-from (cell_for p n (Some x.0.name)) c x.0.spots x.2 in
    let z = in-pick-from (λ e. label_of e e.place) x.0 es x.1 in
    let w = cell_for_lem p n (Some x.0.name) y.0 c y.2 in
    let u = label-entry z.0 z.0.place x.0 z.2 in
    record {
      entry = z.0;
      listed = z.1;
      spot = y.0;
      named = subst (In y.0) (sym u.1) y.1;
      path = w.0;
      name = w.1;
      offset = w.2;
      kind = w.3 ∙ sym u.0;
    })
    (λ a.
    let x = in-joined-from (λ (e : Entry). pick (cell_for p n None) (locals_of e e.place)) c es a in
    let y = in-pick-from (cell_for p n None) c (locals_of x.0 x.0.place) x.2 in
    let w = cell_for_lem p n None y.0 c y.2 in
    let u = local-entry x.0 x.0.place y.0 y.1 in
    record {
      entry = x.0;
      listed = x.1;
      spot = y.0;
      named = u.1;
      path = w.0;
      name = w.1;
      offset = w.2;
      kind = w.3 ∙ sym u.0;
    })
    (in-cases c (joined (map (λ l. pick (cell_for p n (Some l.name)) l.spots) (labels_of es))) _ i)

-- ---- cells share no byte

shares-flip : (a b : Spot) → shares a b ≡ false → (a.path ≡ b.path) → (a.name ≡ b.name) → (a.offset + 4 ≤ b.offset) ⊎ (b.offset + 4 ≤ a.offset)
shares-flip a b h p n =
    let q = and_from _ _ ((bytes_eq-Decides a.path b.path).1 p) ((bytes_eq-Decides a.name b.name).1 n) in
    ⊎_elim
    (λ x. absurd (true≢false (sym q ∙ x)))
    (λ x. ⊎_elim
    (λ y. inr (ltb-false _ _ y))
    (λ y. inl (ltb-false _ _ y))
    (and_cases _ _ x))
    (and_cases _ _ h)

overlap-seen : (seen ss : List Spot) (s y : Spot) → overlap seen ss ≡ false → In s ss → In y seen → shares s y ≡ false
overlap-seen seen [] s y h i j = absurd i
overlap-seen seen (x ∷ ss) s y h (inl p) j =
    let n = or_parts _ _ h in
    subst (λ z. shares z y ≡ false) (sym p) (all-at (λ z. shares x z ≡ false) y seen (some-false (shares x) seen n.0) j)
overlap-seen seen (x ∷ ss) s y h (inr i) j = overlap-seen (x ∷ seen) ss s y (or_parts _ _ h).1 i (inr j)

-- equal, or not sharing in one order or the other
abbrev Unshared : Spot → Spot → Type 0
Unshared a b = (shares a b ≡ false) ⊎ (shares b a ≡ false)

overlap-pairs : (seen ss : List Spot) (s y : Spot) → overlap seen ss ≡ false → In s ss → In y ss → (s ≡ y) ⊎ Unshared s y
overlap-pairs seen [] s y h i j = absurd i
overlap-pairs seen (x ∷ ss) s y h (inl p) (inl q) = inl (p ∙ sym q)
overlap-pairs seen (x ∷ ss) s y h (inl p) (inr j) = inr (inr (overlap-seen (x ∷ seen) ss y s (or_parts _ _ h).1 j (inl p)))
overlap-pairs seen (x ∷ ss) s y h (inr i) (inl q) = inr (inl (overlap-seen (x ∷ seen) ss s y (or_parts _ _ h).1 i (inl q)))
overlap-pairs seen (x ∷ ss) s y h (inr i) (inr j) = overlap-pairs (x ∷ seen) ss s y (or_parts _ _ h).1 i j

module _ (bad : Entry → Bool) where
  cell_fault_lem : (seen : List Spot) (e : Entry) (es : List Entry) → cell_fault bad seen (e ∷ es) ≡ None → (bad e ≡ false) × (overlap seen (named_cells e e.place) ≡ false) × (cell_fault bad (named_cells e e.place ++ seen) es ≡ None)
  unfolding cell_fault
  cell_fault_lem seen e es h = go (bad e) (overlap seen (named_cells e e.place)) refl refl h
    where
      go : (a b : Bool) → bad e ≡ a → overlap seen (named_cells e e.place) ≡ b → cond (a || b) (Some e.at) (cell_fault bad (named_cells e e.place ++ seen) es) ≡ None → (bad e ≡ false) × (overlap seen (named_cells e e.place) ≡ false) × (cell_fault bad (named_cells e e.place ++ seen) es ≡ None)
      go true b p q h = absurd (some-none _ h)
      go false true p q h = absurd (some-none _ h)
      go false false p q h = (p, q, h)

  pub none_bad : (seen : List Spot) (es : List Entry) (e : Entry) → cell_fault bad seen es ≡ None → In e es → bad e ≡ false
  none_bad seen [] e h i = absurd i
  none_bad seen (x ∷ es) e h (inl p) = ap bad p ∙ (cell_fault_lem seen x es h).0
  none_bad seen (x ∷ es) e h (inr i) = none_bad (named_cells x x.place ++ seen) es e (cell_fault_lem seen x es h).2 i

  seen-later : (seen : List Spot) (es : List Entry) (e : Entry) (s y : Spot) → cell_fault bad seen es ≡ None → In e es → In s (named_cells e e.place) → In y seen → shares s y ≡ false
  seen-later seen [] e s y h i j k = absurd i
  seen-later seen (x ∷ es) e s y h (inl p) j k = overlap-seen seen (named_cells x x.place) s y (cell_fault_lem seen x es h).1 (subst (λ z. In s (named_cells z z.place)) p j) k
  seen-later seen (x ∷ es) e s y h (inr i) j k = seen-later (named_cells x x.place ++ seen) es e s y (cell_fault_lem seen x es h).2 i j (in_right y (named_cells x x.place) seen k)

  cells_unshared : (seen : List Spot) (es : List Entry) (e f : Entry) (s y : Spot) → cell_fault bad seen es ≡ None → In e es → In f es → In s (named_cells e e.place) → In y (named_cells f f.place) → ((e ≡ f) × (s ≡ y)) ⊎ Unshared s y
  cells_unshared seen [] e f s y h i j a b = absurd i
  cells_unshared seen (x ∷ es) e f s y h (inl p) (inl q) a b = ⊎_elim
      (λ z. inl (p ∙ sym q, z))
      (λ z. inr z)
      (overlap-pairs seen (named_cells x x.place) s y (cell_fault_lem seen x es h).1 (subst (λ z. In s (named_cells z z.place)) p a) (subst (λ z. In y (named_cells z z.place)) q b))
  cells_unshared seen (x ∷ es) e f s y h (inl p) (inr j) a b =
      inr (inr (seen-later (named_cells x x.place ++ seen) es f y s (cell_fault_lem seen x es h).2 j b (in_left s (named_cells x x.place) seen (subst (λ z. In s (named_cells z z.place)) p a))))
  cells_unshared seen (x ∷ es) e f s y h (inr i) (inl q) a b =
      inr (inl (seen-later (named_cells x x.place ++ seen) es e s y (cell_fault_lem seen x es h).2 i a (in_left y (named_cells x x.place) seen (subst (λ z. In y (named_cells z z.place)) q b))))
  cells_unshared seen (x ∷ es) e f s y h (inr i) (inr j) a b = cells_unshared (named_cells x x.place ++ seen) es e f s y (cell_fault_lem seen x es h).2 i j a b

-- cells of one property are the same or apart
pub cells-apart : (es : List Entry) (p n : Bytes) (c d : Cell) → Passed es → In c (cells_of es p n) → In d (cells_of es p n) → Apart c d
cells-apart es p n c d h i j =
    let x = cell_from es p n c i in
    let y = cell_from es p n d j in
    let far : Unshared x.spot y.spot → (c.offset + 4 ≤ d.offset) ⊎ (d.offset + 4 ≤ c.offset) = λ u.
    let flip : (x.spot.offset + 4 ≤ y.spot.offset) ⊎ (y.spot.offset + 4 ≤ x.spot.offset) = ⊎_elim
    (λ a. shares-flip x.spot y.spot a (x.path ∙ sym y.path) (x.name ∙ sym y.name))
    (λ a. ⊎_elim (λ b. inr b) (λ b. inl b) (shares-flip y.spot x.spot a (y.path ∙ sym x.path) (y.name ∙ sym x.name)))
    u in
    let ec = x.offset in
    let ed = y.offset in
    ⊎_elim (λ a. inl (omega arith)) (λ a. inr (omega arith)) flip in
    ⊎_elim
    (λ z. inl (λ k. record { offset = (x.offset ∙ ap (λ s. s.offset) z.1 ∙ sym y.offset) k; label = (x.kind ∙ ap (λ e. kind_of e.place) z.0 ∙ sym y.kind) k }))
    (λ u. inr (far u))
    (cells_unshared _ [] es x.entry y.entry x.spot y.spot h.cells x.listed y.listed x.named y.named)

-- ---- cells lie within the values

-- the value of a property, with a cell in it
pub record Within (es : List Entry) (p n : Bytes) (o : ℕ) : Type 0 where
  pub value : Bytes
  pub is : value_at es (property_at p n) ≡ Some value
  pub fits : o + 4 ≤ length value

holds_cell_lem : (o : ℕ) (w : Option Bytes) → holds_cell o w ≡ true → (v : Bytes) × (w ≡ Some v) × (o + 4 ≤ length v)
holds_cell_lem o None h = absurd (true≢false (sym h))
holds_cell_lem o (Some v) h = (v, refl, leb-true _ _ h)

body-value : (es fs : List Entry) (p n v : Bytes) → body_value es fs p n ≡ Some v → value_at es (property_at p n) ≡ Some v
body-value es fs p n v h = go (in_body fs p && not (is_phandle n)) h
  where
    go : (b : Bool) → cond b (value_at es (property_at p n)) None ≡ Some v → value_at es (property_at p n) ≡ Some v
    go true h = h
    go false h = absurd (some-none v (sym h))

four_bytes : (a b : Option Bytes) → good_target a b ≡ true → is_some a ≡ true → (v : Bytes) × (a ≡ Some v) × (length v ≡ 4)
four_bytes None None h s = absurd (true≢false (sym h))
four_bytes (Some v) None h s = (v, refl, eqb-true _ _ h)
four_bytes None (Some w) h s = absurd (true≢false (sym s))
four_bytes (Some v) (Some w) h s = absurd (true≢false (sym h))

good-spot : (es : List Entry) (s : Spot) → Passed es → good_spot es (fragment_nodes es) (Some s) ≡ true → Within es s.path s.name s.offset
good-spot es s c h = ⊎_elim
    (λ a.
    let a1 = and_parts _ _ a in
    let a2 = and_parts _ _ a1.1 in
    let a3 = and_parts _ _ a2.1 in
    let f = some-true (λ f. bytes_eq f.place.0 s.path) (fragment_nodes es) a1.0 in
    let pe : f.0.place.0 ≡ s.path = (bytes_eq-Decides f.0.place.0 s.path).0 f.2 in
    let ne : s.name ≡ codes "target" = (bytes_eq-Decides s.name (codes "target")).0 a2.0 in
    let g = not-false _ (all-at (λ f. bad_fragment es f ≡ false) f.0 (fragment_nodes es) (no-fault (bad_fragment es) (fragment_nodes es) c.targets) f.1) in
    let g2 : good_target (value_at es (target_at s.path)) (value_at es (target_path_at s.path)) ≡ true = subst (λ z. good_target (value_at es (target_at z)) (value_at es (target_path_at z)) ≡ true) pe g in
    let v = four_bytes _ _ g2 a3.1 in
    let z = eqb-true s.offset 0 a3.0 in
    let l = v.2 in
    record { value = v.0; is = ap (λ m. value_at es (property_at s.path m)) ne ∙ v.1; fits = omega (arith, z, l) })
    (λ b.
    let x = holds_cell_lem s.offset _ b in
    record { value = x.0; is = body-value es (fragment_nodes es) s.path s.name x.0 x.1; fits = x.2 })
    (or_cases _ _ h)

good-strings : (es fs : List Entry) (xs : List Bytes) (x : Bytes) → good_strings es fs xs ≡ true → In x xs → good_spot es fs (spot_of (split 58 [] x)) ≡ true
good-strings es fs [] x h i = absurd i
good-strings es fs (y ∷ xs) x h i = all-at (λ x. good_spot es fs (spot_of (split 58 [] x)) ≡ true) x (y ∷ xs) (each_all _ (y ∷ xs) h) i

good-cells : (hs os : List ℕ) (w : Option Bytes) → good_cells hs os w ≡ true → (v : Bytes) × (w ≡ Some v) × AllByRecursion (λ o. (leb (o + 4) (length v) && some (eqb (be32 v o)) hs) ≡ true) os
good-cells hs os None h = absurd (true≢false (sym h))
good-cells hs os (Some v) h = (v, refl, each_all _ os h)

-- a local cell holds a body's phandle
pub record Local (es : List Entry) (p n : Bytes) (o : ℕ) : Type 0 where
  pub within : Within es p n o
  pub holds : In (be32 within.value o) (body_handles (body_entries es))

local-good : (es : List Entry) (m v : Bytes) (s : Spot) (w : Option Bytes) → bad_local_at es (fragment_nodes es) (body_handles (body_entries es)) m v w ≡ false → In s (locals_behind m v w) → Local es s.path s.name s.offset
local-good es m v s None h i = absurd i
local-good es m v s (Some r) h i =
    let hs = body_handles (body_entries es) in
    let a = and_parts _ _ (not-false _ h) in
    let g = good-cells hs (numbers v) _ a.1 in
    let x = in-map-from (λ o. record { path = r; name = m; offset = o }) s (numbers v) i in
    let b = and_parts (leb (x.0 + 4) (length g.0)) (some (eqb (be32 g.0 x.0)) hs) (all-at _ x.0 (numbers v) g.2 x.1) in
    let y = some-true (eqb (be32 g.0 x.0)) hs b.1 in
    let made : Local es r m x.0 = record {
      within = record { value = g.0; is = body-value es (fragment_nodes es) r m g.0 g.1; fits = leb-true _ _ b.0 };
      holds = subst (λ z. In z hs) (sym (eqb-true _ _ y.2)) y.1;
    } in
    subst (λ (z : Spot). Local es z.path z.name z.offset) (sym x.2) made

abbrev NamedCell : List Entry → Place → Spot → Type 0
NamedCell es k s = Within es s.path s.name s.offset × (kind_of k ≡ None → Local es s.path s.name s.offset)

named-good : (es : List Entry) (e : Entry) (k : Place) (s : Spot) → Passed es → bad_fixup es (fragment_nodes es) e k ≡ false → bad_local es (fragment_nodes es) (body_handles (body_entries es)) e k ≡ false → In s (named_cells e k) → NamedCell es k s
unfolding spots
named-good es e (q, None) s c f b i = absurd i
named-good es e (q, Some m) s c f b i = go (bytes_eq q fixups_path) f i
  where
    go : (z : Bool) → (z && (is_phandle m || not (good_strings es (fragment_nodes es) (strings e.value)))) ≡ false → In s (cond z (spots e.value) (locals_behind m e.value (behind locals_path q)))
        → Within es s.path s.name s.offset × (cond z (Some m) None ≡ None → Local es s.path s.name s.offset)
    go true f i =
        let g = not-false _ (or_parts (is_phandle m) _ f).1 in
        let x = in-pick-from (λ s. spot_of (split 58 [] s)) s (strings e.value) i in
        (good-spot es s c (subst (λ o. good_spot es (fragment_nodes es) o ≡ true) x.2 (good-strings es (fragment_nodes es) (strings e.value) x.0 g x.1)), (λ z. absurd (some-none m z)))
    go false f i = let l = local-good es m e.value s (behind locals_path q) b i in (l.within, (λ z. l))

-- the kind of a cell, with where it lies
pub record CellGood (es : List Entry) (p n : Bytes) (c : Cell) : Type 0 where
  pub within : Within es p n c.offset
  pub local : c.label ≡ None → Local es p n c.offset

pub cell_good : (es : List Entry) (p n : Bytes) (c : Cell) → Passed es → In c (cells_of es p n) → CellGood es p n c
cell_good es p n c h i =
    let x = cell_from es p n c i in
    let f = all-at (λ e. bad_fixup es (fragment_nodes es) e e.place ≡ false) x.entry es (no-fault _ es h.fixups) x.listed in
    let b = none_bad (λ e. bad_local es (fragment_nodes es) (body_handles (body_entries es)) e e.place) [] es x.entry h.cells x.listed in
    let g = named-good es x.entry x.entry.place x.spot h f b x.named in
    let ep = x.path in
    record {
      within = subst (λ z. Within es p n z) (sym x.offset) (subst (λ z. Within es p z x.spot.offset) x.name (subst (λ z. Within es z x.spot.name x.spot.offset) x.path g.0));
      local = λ l. subst (λ z. Local es p n z) (sym x.offset) (subst (λ z. Local es p z x.spot.offset) x.name (subst (λ z. Local es z x.spot.name x.spot.offset) x.path (g.1 (sym x.kind ∙ l))));
    }

-- a label's cell has its label among the overlay's
pub cell_label : (es : List Entry) (p n : Bytes) (c : Cell) (l : Bytes) → In c (cells_of es p n) → c.label ≡ Some l → (x : Label) × In x (labels_of es) × (x.name ≡ l)
unfolding cells_of
cell_label es p n c l i e = ⊎_elim
    (λ a.
    let x = in-joined-from (λ (l : Label). pick (cell_for p n (Some l.name)) l.spots) c (labels_of es) a in
    let y = in-pick-from (cell_for p n (Some x.0.name)) c x.0.spots x.2 in
    let w = cell_for_lem p n (Some x.0.name) y.0 c y.2 in
    (x.0, x.1, some_one (sym w.3 ∙ e)))
    (λ a.
    let x = in-joined-from (λ (e : Entry). pick (cell_for p n None) (locals_of e e.place)) c es a in
    let y = in-pick-from (cell_for p n None) c (locals_of x.0 x.0.place) x.2 in
    let w = cell_for_lem p n None y.0 c y.2 in
    absurd (some-none l (sym e ∙ w.3)))
    (in-cases c (joined (map (λ l. pick (cell_for p n (Some l.name)) l.spots) (labels_of es))) _ i)
