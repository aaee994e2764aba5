-- What the check of an overlay establishes. Assumes nothing.
use Rattle.std.proofs.Common.{◌≡◌, ℕ, Bool, true, false, cond, not, ◌&&◌, ◌||◌, eqb, List, [], ◌∷◌, length, Some, None, codes, Option, sym, refl, ap, ◌∙◌, subst, inl, inr, true≢false}
use Rattle.std.specs.List.{AllByRecursion}
use Rattle.std.specs.Str.{bytes_eq}
use Rattle.std.proofs.lemmas.Slice.Eq.{bytes_eq-Decides}
use Rattle.std.proofs.lemmas.Bool.{or_parts, eq-eqb, not-false}
use Rattle.tree.specs.Entries.{Entry, some}
use Rattle.tree.specs.Numbers.{be32}
use Rattle.tree.specs.Phandles.{is_phandle, valid_handle}
use Rattle.tree.specs.Places.{Bytes, Place}
use Rattle.tree.proofs.Maps.{some-none}
use Rattle.overlay_rules.specs.Texts.{zero_ended}
use Rattle.overlay_rules.specs.Overlays.{symbols_path, fragment_nodes, body_entries, cells_at, symbol_by, symbol_of, Item, Symbol, overlay_of}
use Rattle.overlay_rules.specs.Checks.{Refusal, first_fault, handle_in, body_handles, bad_handle, seen_with, handle_fault, bad_fragment, bad_fixup, bad_local, cell_fault, body_node, bad_symbol, refused_at, bad_count, check}
use Rattle.overlay_rules.specs.Laws.{In}
use Rattle.overlay_rules.proofs.Lists.{all-at, in-map-from, in-pick-from, some_in}

refused_none : (c : ℕ) (o : Option ℕ) (rest : Option Refusal) → refused_at c o rest ≡ None → (o ≡ None) × (rest ≡ None)
refused_none c None rest h = (refl, h)
refused_none c (Some p) rest h = absurd (some-none _ h)

cond-none : (b : Bool) (x : Refusal) (rest : Option Refusal) → cond b (Some x) rest ≡ None → (b ≡ false) × (rest ≡ None)
cond-none true x rest h = absurd (some-none _ h)
cond-none false x rest h = (refl, h)

pub record Passed (es : List Entry) : Type 0 where
  pub handles : handle_fault [] (body_entries es) ≡ None
  pub count : bad_count (length (fragment_nodes es)) ≡ false
  pub targets : first_fault (bad_fragment es) (fragment_nodes es) ≡ None
  pub fixups : first_fault (λ e. bad_fixup es (fragment_nodes es) e e.place) es ≡ None
  pub cells : cell_fault (λ e. bad_local es (fragment_nodes es) (body_handles (body_entries es)) e e.place) [] es ≡ None
  pub symbols : first_fault (λ e. bad_symbol es (fragment_nodes es) e e.place) es ≡ None

pub passed : (es : List Entry) → check es ≡ None → Passed es
unfolding check
passed es h =
    let a = refused_none 16 _ _ h in
    let b = cond-none _ _ _ a.1 in
    let c = refused_none 21 _ _ b.1 in
    let d = refused_none 22 _ _ c.1 in
    let e = refused_none 23 _ _ d.1 in
    let f = refused_none 24 _ _ e.1 in
    record { handles = a.0; count = b.0; targets = c.0; fixups = d.0; cells = e.0; symbols = f.0 }

pub no-fault : (p : Entry → Bool) (es : List Entry) → first_fault p es ≡ None → AllByRecursion (λ e. p e ≡ false) es
no-fault p [] h = tt
no-fault p (e ∷ es) h = go (p e) refl (no-fault p es) h
  where
    go : (b : Bool) → p e ≡ b → (first_fault p es ≡ None → AllByRecursion (λ e. p e ≡ false) es) → cond b (Some e.at) (first_fault p es) ≡ None → (p e ≡ false) × AllByRecursion (λ e. p e ≡ false) es
    go true q ih h = absurd (some-none _ h)
    go false q ih h = (q, ih h)

-- ---- phandles of bodies

handle-fault : (seen : List ℕ) (e : Entry) (es : List Entry) → handle_fault seen (e ∷ es) ≡ None → (bad_handle seen (handle_in e.place e.value) ≡ false) × (handle_fault (seen_with seen (handle_in e.place e.value)) es ≡ None)
unfolding handle_fault
handle-fault seen e es h = go (bad_handle seen (handle_in e.place e.value)) refl h
  where
    go : (b : Bool) → bad_handle seen (handle_in e.place e.value) ≡ b → cond b (Some e.at) (handle_fault (seen_with seen (handle_in e.place e.value)) es) ≡ None → (bad_handle seen (handle_in e.place e.value) ≡ false) × (handle_fault (seen_with seen (handle_in e.place e.value)) es ≡ None)
    go true q h = absurd (some-none _ h)
    go false q h = (q, h)

abbrev HandleOf : Entry → Bytes → Type 0
HandleOf e v = handle_in e.place e.value ≡ Some v

good-handle : (seen : List ℕ) (v : Bytes) → bad_handle seen (Some v) ≡ false → (valid_handle v ≡ true) × (some (eqb (be32 v 0)) seen ≡ false)
good-handle seen v h = let n = or_parts _ _ h in (not-false _ n.0, n.1)

handles-valid : (seen : List ℕ) (es : List Entry) (e : Entry) (v : Bytes) → handle_fault seen es ≡ None → In e es → HandleOf e v → valid_handle v ≡ true
handles-valid seen [] e v h i q = absurd i
handles-valid seen (x ∷ es) e v h (inl p) q =
    let z = handle-fault seen x es h in
    (good-handle seen v (subst (λ o. bad_handle seen o ≡ false) (ap (λ y. handle_in y.place y.value) (sym p) ∙ q) z.0)).0
handles-valid seen (x ∷ es) e v h (inr i) q = handles-valid (seen_with seen (handle_in x.place x.value)) es e v (handle-fault seen x es h).1 i q

seen-in : (n : ℕ) (seen : List ℕ) (o : Option Bytes) → In n seen → In n (seen_with seen o)
seen-in n seen None i = i
seen-in n seen (Some v) i = inr i

-- a number that was seen is not seen again
not_seen : (seen : List ℕ) (es : List Entry) (e : Entry) (v : Bytes) → handle_fault seen es ≡ None → In e es → HandleOf e v → In (be32 v 0) seen → ⊥
not_seen seen [] e v h i q j = i
not_seen seen (x ∷ es) e v h (inl p) q j =
    let z = handle-fault seen x es h in
    let g = (good-handle seen v (subst (λ o. bad_handle seen o ≡ false) (ap (λ y. handle_in y.place y.value) (sym p) ∙ q) z.0)).1 in
    true≢false (sym (some_in (eqb (be32 v 0)) (be32 v 0) seen j (eq-eqb _ _ refl)) ∙ g)
not_seen seen (x ∷ es) e v h (inr i) q j = not_seen (seen_with seen (handle_in x.place x.value)) es e v (handle-fault seen x es h).1 i q (seen-in (be32 v 0) seen _ j)

handles-one : (seen : List ℕ) (es : List Entry) (e f : Entry) (v w : Bytes) → handle_fault seen es ≡ None → In e es → In f es → HandleOf e v → HandleOf f w → be32 v 0 ≡ be32 w 0 → e ≡ f
handles-one seen [] e f v w h i j p q r = absurd i
handles-one seen (x ∷ es) e f v w h (inl i) (inl j) p q r = i ∙ sym j
handles-one seen (x ∷ es) e f v w h (inl i) (inr j) p q r =
    let z = handle-fault seen x es h in
    let o : handle_in x.place x.value ≡ Some v = ap (λ y. handle_in y.place y.value) (sym i) ∙ p in
    absurd (not_seen _ es f w z.1 j q (subst (λ y. In (be32 w 0) (seen_with seen y)) (sym o) (inl (sym r))))
handles-one seen (x ∷ es) e f v w h (inr i) (inl j) p q r =
    let z = handle-fault seen x es h in
    let o : handle_in x.place x.value ≡ Some w = ap (λ y. handle_in y.place y.value) (sym j) ∙ q in
    absurd (not_seen _ es e v z.1 i p (subst (λ y. In (be32 v 0) (seen_with seen y)) (sym o) (inl r)))
handles-one seen (x ∷ es) e f v w h (inr i) (inr j) p q r = handles-one (seen_with seen (handle_in x.place x.value)) es e f v w (handle-fault seen x es h).1 i j p q r

handle-in : (k : Place) (v : Bytes) → k.1 ≡ Some (codes "phandle") → handle_in k v ≡ Some v
handle-in (p, None) v e = absurd (some-none _ (sym e))
handle-in (p, Some n) v e = ap (λ m. handle_in (p, m) v) e

-- ---- the overlay's items and symbols

abbrev pub item_of : List Entry → Entry → Item
item_of es e = record { at = e.at; place = e.place; value = e.value; cells = cells_at es e.place }

pub item_from : (es : List Entry) (i : Item) → In i (overlay_of es).items → (e : Entry) × In e (body_entries es) × (i ≡ item_of es e)
unfolding overlay_of
item_from es i h = in-map-from (item_of es) i (body_entries es) h

pub items-valid : (es : List Entry) (i : Item) → Passed es → In i (overlay_of es).items → i.place.1 ≡ Some (codes "phandle") → valid_handle i.value ≡ true
items-valid es i c h e =
    let x = item_from es i h in
    let q : x.0.place.1 ≡ Some (codes "phandle") = ap (λ z. z.place.1) (sym x.2) ∙ e in
    subst (λ z. valid_handle z.value ≡ true) (sym x.2) (handles-valid [] (body_entries es) x.0 x.0.value c.handles x.1 (handle-in x.0.place x.0.value q))

pub items-one : (es : List Entry) (i j : Item) → Passed es → In i (overlay_of es).items → In j (overlay_of es).items → i.place.1 ≡ Some (codes "phandle") → j.place.1 ≡ Some (codes "phandle") → be32 i.value 0 ≡ be32 j.value 0 → i.place ≡ j.place
items-one es i j c hi hj ei ej r =
    let x = item_from es i hi in
    let y = item_from es j hj in
    let ex : x.0.place.1 ≡ Some (codes "phandle") = ap (λ z. z.place.1) (sym x.2) ∙ ei in
    let ey : y.0.place.1 ≡ Some (codes "phandle") = ap (λ z. z.place.1) (sym y.2) ∙ ej in
    let s = handles-one [] (body_entries es) x.0 y.0 x.0.value y.0.value c.handles x.1 y.1 (handle-in x.0.place x.0.value ex) (handle-in y.0.place y.0.value ey) (ap (λ z. be32 z.value 0) (sym x.2) ∙ r ∙ ap (λ z. be32 z.value 0) y.2) in
    ap (λ z. z.place) x.2 ∙ ap (λ z. z.place) s ∙ sym (ap (λ z. z.place) y.2)

-- a symbol's token: a label that is not `phandle`, and the path of a body node
pub record SymbolFrom (es : List Entry) (s : Symbol) : Type 0 where
  pub entry : Entry
  pub listed : In entry es
  pub place : entry.place ≡ (symbols_path, Some s.label)
  pub value : zero_ended entry.value ≡ Some s.path
  pub label : is_phandle s.label ≡ false
  pub body : body_node es (fragment_nodes es) (Some s.path) ≡ true

symbol-by : (at : ℕ) (n : Bytes) (o : Option Bytes) (s : Symbol) → symbol_by at n o ≡ Some s → (s.label ≡ n) × (o ≡ Some s.path)
symbol-by at n None s h = absurd (some-none s (sym h))
symbol-by at n (Some p) s h = let e = some-sym h in (sym (ap (λ z. z.label) e), ap (λ z. Some z.path) e)
  where
    some-sym : {x y : Symbol} → Some x ≡ Some y → x ≡ y
    some-sym e = cc

symbol-entry : (es : List Entry) (e : Entry) (k : Place) (s : Symbol) → symbol_of e k ≡ Some s → bad_symbol es (fragment_nodes es) e k ≡ false
    → (k ≡ (symbols_path, Some s.label)) × (zero_ended e.value ≡ Some s.path) × (is_phandle s.label ≡ false) × (body_node es (fragment_nodes es) (Some s.path) ≡ true)
symbol-entry es e (p, None) s h b = absurd (some-none s (sym h))
symbol-entry es e (p, Some n) s h b = go (bytes_eq p symbols_path) refl h b
  where
    go : (c : Bool) → bytes_eq p symbols_path ≡ c → cond c (symbol_by e.at n (zero_ended e.value)) None ≡ Some s
        → (c && (is_phandle n || not (body_node es (fragment_nodes es) (zero_ended e.value)))) ≡ false
        → (◌≡◌ {A = Place} (p, Some n) (symbols_path, Some s.label)) × (zero_ended e.value ≡ Some s.path) × (is_phandle s.label ≡ false) × (body_node es (fragment_nodes es) (Some s.path) ≡ true)
    go false q h b = absurd (some-none s (sym h))
    go true q h b =
        let x = symbol-by e.at n (zero_ended e.value) s h in
        let y = or_parts _ _ b in
        let r = (bytes_eq-Decides p symbols_path).0 q in
        ((λ i. (r i, Some (sym x.0 i))), x.1, ap is_phandle x.0 ∙ y.0, ap (body_node es (fragment_nodes es)) (sym x.1) ∙ not-false _ y.1)

pub symbol-from : (es : List Entry) (s : Symbol) → Passed es → In s (overlay_of es).symbols → SymbolFrom es s
unfolding overlay_of
symbol-from es s c i =
    let x = in-pick-from (λ e. symbol_of e e.place) s es i in
    let y = symbol-entry es x.0 x.0.place s x.2 (all-at _ x.0 es (no-fault _ es c.symbols) x.1) in
    record { entry = x.0; listed = x.1; place = y.0; value = y.1; label = y.2; body = y.3 }
