-- A plan's writes grow the tree: each hangs on what is there by then, and they count no more than the share. Assumes nothing.
use Rattle.std.proofs.Common.{◌≡◌, ℕ, ◌+◌, ◌<◌, ◌≤◌, Bool, true, false, cond, not, leb, ◌⊎◌, List, [], ◌∷◌, ◌++◌, map, length, is_some as option_is_some, Some, None, codes, Option, sym, refl, ap, ◌∙◌, subst, inl, inr, ⊎_elim, true≢false, arith}
use Rattle.std.specs.List.{AllByRecursion}
use Rattle.std.specs.Str.{bytes_eq}
use Rattle.std.proofs.lemmas.Slice.Eq.{bytes_eq-Decides}
use Rattle.std.proofs.lemmas.List.{append_assoc, length-append, nil_from_length}
use Rattle.std.proofs.lemmas.Bool.{and_parts, and_from, eqb-true, leb-true, le-leb, cond-true, cond-false, ne_eqb, not-true}
use Rattle.names.specs.Paths.{root, path_text, under, parent}
use Rattle.names.proofs.PathLaws.{parent_of}
use Rattle.tree.specs.Entries.{Entry, listed, bare, listed_from, same_place, some, well_listed}
use Rattle.tree.specs.Maps.{total}
use Rattle.tree.specs.Numbers.{be32, bytes32}
use Rattle.tree.specs.Phandles.{is_phandle}
use Rattle.tree.specs.Places.{Bytes, Place, node_at}
use Rattle.tree.specs.Trees.{Tree, look, change, named_place, up_place}
use Rattle.tree.proofs.Listed.{same-only}
use Rattle.tree.proofs.Maps.{some-none}
use Rattle.overlay_rules.specs.Texts.{given, pick, slashed, behind}
use Rattle.overlay_rules.specs.Overlays.{symbols_path, body_path, value_at, is_listed, is_fragment_path, fragment_of, fragment_nodes, in_body, body_entries, target_of, Fragment, Item, Symbol, overlay_of}
use Rattle.overlay_rules.specs.Plans.{Located, located, image_of, final_bytes, filled, image_entry, symbol_entry, images, Touch, if_there, put_in, share_of, below_top, shared, Plan, planned, apply}
use Rattle.overlay_rules.specs.Steps.{touch_at, puts_in}
use Rattle.overlay_rules.specs.Laws.{Rising, In}
use Rattle.overlay_rules.proofs.Lists.{all-at, all_from, in_left, in_map, in-map-from, in-pick, in-pick-from, some-true, some_in}
use Rattle.overlay_rules.proofs.Looks.{look-same, rises-change}
use Rattle.overlay_rules.proofs.Asking.{ok_one, gave, gave-from, gave-to}
use Rattle.overlay_rules.proofs.Journals.{rises-apply}
use Rattle.overlay_rules.proofs.Planning.{located-is, Planned}
use Rattle.overlay_rules.proofs.Touching.{writes-is, put_or_there}
use Rattle.overlay_rules.proofs.Checking.{Passed, item_of, item_from, symbol-from}
use Rattle.overlay_rules.proofs.Cells.{cell_good}
use Rattle.overlay_rules.proofs.Filling.{length-filled}
use Rattle.overlay_rules.proofs.Listing.{GoodEntry, Next, listed_next_lem, well, all-good}
use Rattle.overlay_rules.proofs.References.{body-listed, item-value, item-cells}
use Rattle.overlay_rules.proofs.Pathing.{behind-is, behind-from, last_of, parent-under, path-under, Match, match, slashes, slashes_join, child-slashes}
use Rattle.overlay_rules.proofs.Stepping.{run-touches}
use Rattle.overlay_rules.proofs.Shapes.{Shape, FitsIn, Grows, grows_join, node_stays, node-put, cost_join}

-- ---- touches, as a function of the tree

pick_join : (f : Touch → Option Entry) (xs ys : List Touch) → pick f (xs ++ ys) ≡ pick f xs ++ pick f ys
pick_join f [] ys = refl
pick_join f (x ∷ xs) ys = go (f x) (pick_join f xs ys)
  where
    go : (o : Option Entry) → pick f (xs ++ ys) ≡ pick f xs ++ pick f ys → given o (pick f (xs ++ ys)) ≡ given o (pick f xs) ++ pick f ys
    go None h = h
    go (Some e) h = ap (λ z. e ∷ z) h

map_join : {A B : Type 0} (f : A → B) (xs ys : List A) → map f (xs ++ ys) ≡ map f xs ++ map f ys
map_join f [] ys = refl
map_join f (x ∷ xs) ys = ap (λ z. f x ∷ z) (map_join f xs ys)

puts_join : (t : Tree) (xs ys : List Entry) → puts_in t (xs ++ ys) ≡ puts_in t xs ++ puts_in t ys
puts_join t xs ys = ap (pick put_in) (map_join (λ e. touch_at t e e.place) xs ys) ∙ pick_join put_in (map (λ e. touch_at t e e.place) xs) (map (λ e. touch_at t e e.place) ys)

-- one entry, put or read
record Put (t : Tree) (e : Entry) (o : Option Entry) : Type 0 where
  is : o ≡ Some e
  absent : e.place.1 ≡ None → look t e.place ≡ None

record Read (t : Tree) (e : Entry) (o : Option Entry) : Type 0 where
  is : o ≡ None
  node : e.place.1 ≡ None
  value : Bytes
  there : look t e.place ≡ Some value

put-read : (t : Tree) (e : Entry) (k : Place) → e.place ≡ k → Put t e (put_in (touch_at t e k)) ⊎ Read t e (put_in (touch_at t e k))
put-read t e (p, None) q = go (look t e.place) refl
  where
    go : (o : Option Bytes) → look t e.place ≡ o → Put t e (put_in (if_there e o)) ⊎ Read t e (put_in (if_there e o))
    go None h = inl (record { is = refl; absent = λ z. h })
    go (Some v) h = inr (record { is = refl; node = ap (λ z. z.1) q; value = v; there = h })
put-read t e (p, Some n) q = inl (record { is = refl; absent = λ z. absurd (some-none n (ap (λ y. y.1) (sym q) ∙ z)) })

value-some : (es : List Entry) (k : Place) (v : Bytes) → value_at es k ≡ Some v → (e : Entry) × In e es × (e.place ≡ k)
unfolding value_at
value-some [] k v h = absurd (some-none v (sym h))
value-some (x ∷ es) k v h = go (same_place x.place k) refl (value-some es k v) h
  where
    go : (b : Bool) → same_place x.place k ≡ b → (value_at es k ≡ Some v → (e : Entry) × In e es × (e.place ≡ k)) → cond b (Some x.value) (value_at es k) ≡ Some v → (e : Entry) × In e (x ∷ es) × (e.place ≡ k)
    go true e ih h = (x, inl refl, same-only x.place k e)
    go false e ih h = let r = ih h in (r.0, inr r.1, r.2)

is_some : {A : Type 0} (o : Option A) → option_is_some o ≡ true → (a : A) × (o ≡ Some a)
is_some None h = absurd (true≢false (sym h))
is_some (Some a) h = (a, refl)

-- ---- fragments

pub record FragmentFrom (es : List Entry) (f : Entry) : Type 0 where
  pub listed : In f es
  pub node : f.place.1 ≡ None
  pub path : is_fragment_path es f.place.0 ≡ true

fragment-of : (es : List Entry) (e : Entry) (k : Place) (f : Entry) → fragment_of es e k ≡ Some f → (e ≡ f) × (k.1 ≡ None) × (is_fragment_path es k.0 ≡ true)
fragment-of es e (p, None) f h = go (is_fragment_path es p) refl h
  where
    go : (b : Bool) → is_fragment_path es p ≡ b → cond b (Some e) None ≡ Some f → (e ≡ f) × (◌≡◌ {A = Option Bytes} None None) × (is_fragment_path es p ≡ true)
    go true q h = (cc, refl, q)
    go false q h = let z : ◌≡◌ {A = ℕ} 0 1 = cc in absurd (omega arith)
fragment-of es e (p, Some n) f h = let z : ◌≡◌ {A = ℕ} 0 1 = cc in absurd (omega arith)

pub fragment-from : (es : List Entry) (f : Entry) → In f (fragment_nodes es) → FragmentFrom es f
unfolding fragment_nodes
fragment-from es f i =
    let x = in-pick-from (λ e. fragment_of es e e.place) f es i in
    let y = fragment-of es x.0 x.0.place f x.2 in
    record { listed = subst (λ z. In z es) y.0 x.1; node = ap (λ z. z.place.1) (sym y.0) ∙ y.1; path = ap (λ z. is_fragment_path es z.place.0) (sym y.0) ∙ y.2 }

named-path : (k : Place) → named_place k ≡ true → path_text k.0 ≡ true
named-path (p, None) h = h
named-path (p, Some n) h = (and_parts _ _ h).0

-- a fragment's path has one slash, its body's two
fragment-slashes : (es : List Entry) (f : Entry) → well_listed es ≡ true → In f (fragment_nodes es) → slashes (body_path f.place.0) ≡ 2
unfolding slashes
fragment-slashes es f w i =
    let x = fragment-from es f i in
    let p = f.place.0 in
    let a = and_parts (not (bytes_eq p root)) _ x.path in
    let b = and_parts (bytes_eq (parent p) root) _ a.1 in
    let c = child-slashes p (named-path f.place (all-good es f w x.listed).named) (λ e. true≢false (sym ((bytes_eq-Decides p root).1 e) ∙ not-true _ a.0)) ((bytes_eq-Decides (parent p) root).0 b.0) in
    slashes_join p (codes "/__overlay__") ∙ ap (λ z. z + 1) c

look-put : (s : Tree) (e : Entry) → Rising s → look (change s e.place (Some e.value)) e.place ≡ Some e.value
look-put s e r = look-same s e.place (Some e.value) r

rises-put : (s : Tree) (e : Entry) → Rising s → Rising (change s e.place (Some e.value))
rises-put s e r = rises-change s e.place (Some e.value) r

-- ---- the plan

module _ (t : Tree) (es : List Entry) (d : ℕ) (p : Plan) (w : well_listed es ≡ true) (c : Passed es) (m : Planned t (overlay_of es) d p) (sh : Shape t) where
  abbrev frags : List Entry
  frags = fragment_nodes es

  abbrev fragment : Entry → Fragment
  fragment f = record { at = f.at; body = body_path f.place.0; target = target_of es f.place.0 }

  -- each body has its target, and each target is a node that is there
  body-located : (f : Entry) → In f (fragment_nodes es) → (l : Located) × In l m.ls × (l.body ≡ body_path f.place.0)
  unfolding overlay_of
  body-located f i =
      let fl = λ (x : Fragment). located m.env x x.target in
      let v = overlay_of es in
      let y = gave-to t fl v.fragments m.ls (fragment f) (gave t fl v.fragments m.ls m.targets) (in_map fragment f (fragment_nodes es) i) in
      (y.0, y.1, (located-is t m.env (fragment f) (fragment f).target y.0 y.2).body)

  located-from : (l : Located) → In l m.ls → (f : Entry) × In f (fragment_nodes es) × (l.body ≡ body_path f.place.0) × (look t (node_at l.to) ≡ Some [])
  unfolding overlay_of
  located-from l i =
      let fl = λ (x : Fragment). located m.env x x.target in
      let v = overlay_of es in
      let y = gave-from t fl v.fragments m.ls l (gave t fl v.fragments m.ls m.targets) i in
      let z = in-map-from fragment y.0 (fragment_nodes es) y.1 in
      let a = located-is t m.env y.0 y.0.target l y.2 in
      (z.0, z.1, a.body ∙ ap (λ x. x.body) z.2, a.node_is ∙ ap Some (sh.bare l.to a.node a.node_is))

  body-match : (q : Bytes) → in_body (fragment_nodes es) q ≡ true → Match m.ls q
  body-match q h =
      let x = some-true (λ f. option_is_some (behind (body_path f.place.0) q)) (fragment_nodes es) h in
      let l = body-located x.0 x.1 in
      let r = is_some _ x.2 in
      match m.ls q l.0 r.0 l.1 (ap (λ z. behind z q) l.2 ∙ r.1)

  body-long : (l : Located) → In l m.ls → 0 < length l.body
  body-long l i = let f = located-from l i in omega (arith, ap length f.2, length-append f.0.place.0 (codes "/__overlay__"))

  pub image-path : (q : Bytes) → in_body (fragment_nodes es) q ≡ true → path_text q ≡ true → path_text (image_of m.ls q) ≡ true
  image-path q h b =
      let M = body-match q h in
      let l = M.located in
      let f = located-from l M.listed in
      let x = behind-is l.body q M.rest M.is in
      ap path_text M.image ∙ path-under l.to l.body M.rest (sh.named (node_at l.to) [] f.3) (body-long l M.listed) (ap path_text (sym x.0) ∙ b) x.1

  image-top : (q : Bytes) (M : Match m.ls q) → M.rest ≡ [] → look t (node_at (image_of m.ls q)) ≡ Some []
  image-top q M e = ap (λ z. look t (node_at z)) (M.image ∙ ap (under M.located.to) e) ∙ (located-from M.located M.listed).3

  record Above (q : Bytes) : Type 0 where
    up : Bytes
    is : parent q ≡ up
    body : in_body (fragment_nodes es) up ≡ true
    image : parent (image_of m.ls q) ≡ image_of m.ls up

  image_up : (q : Bytes) (M : Match m.ls q) (b : ℕ) (bs : Bytes) → M.rest ≡ b ∷ bs → Above q
  image_up q M b bs e =
      let l = M.located in
      let f = located-from l M.listed in
      let x = behind-is l.body q M.rest M.is in
      let sl : b ≡ 47 = eqb-true b 47 (ap slashed (sym e) ∙ x.1) in
      let L = last_of bs in
      let er : M.rest ≡ L.pre ++ (47 ∷ L.name) = e ∙ ap (λ z. z ∷ bs) sl ∙ L.is in
      let eq : q ≡ (l.body ++ L.pre) ++ (47 ∷ L.name) = x.0 ∙ ap (λ z. l.body ++ z) er ∙ sym (append_assoc l.body L.pre (47 ∷ L.name)) in
      let long = body-long l M.listed in
      let ne : length (l.body ++ L.pre) ≡ 0 → ⊥ = λ z. omega (arith, long, length-append l.body L.pre, z) in
      let pre_ok : slashed L.pre ≡ true = front L.pre L.name (ap slashed (sym er) ∙ x.1) in
      let behind_ok : behind (body_path f.0.place.0) (l.body ++ L.pre) ≡ Some L.pre = ap (λ z. behind z (l.body ++ L.pre)) (sym f.2) ∙ behind-from l.body L.pre pre_ok in
      record {
        up = l.body ++ L.pre;
        is = ap parent eq ∙ parent_of (l.body ++ L.pre) L.name L.free ∙ cond-false _ _ _ (ne_eqb _ 0 ne);
        body = some_in (λ f. option_is_some (behind (body_path f.place.0) (l.body ++ L.pre))) f.0 (fragment_nodes es) f.1 (ap option_is_some behind_ok);
        image = ap parent (M.image ∙ ap (under l.to) er) ∙ parent-under l.to L.pre L.name L.free (sh.named (node_at l.to) [] f.3) ∙ sym (M.above L.pre L.name er);
      }
    where
      front : (pre name : Bytes) → slashed (pre ++ (47 ∷ name)) ≡ true → slashed pre ≡ true
      front [] name h = refl
      front (x ∷ pre) name h = h

  -- ---- one entry

  abbrev image_of_entry : Entry → Entry
  image_of_entry e = image_entry m.env d m.ls (item_of es e)

  good : (e : Entry) → In e es → GoodEntry e
  good e i = all-good es e w i

  short_value : (e : Entry) → In e (body_entries es) → (k : Place) → e.place ≡ k → length (final_bytes m.env d (item_of es e) k) ≤ 4096
  unfolding overlay_of
  short_value e i (q, None) h = leb-true _ _ (and_parts _ _ (good e (body-listed es e i).0).short).1
  short_value e i (q, Some n) h = go (is_phandle n)
    where
      all : AllByRecursion (λ y. y.offset + 4 ≤ length e.value) (item_of es e).cells
      all = all_from _ (item_of es e).cells (λ y z.
          let ip = in_map (item_of es) e (body_entries es) i in
          let q2 : e.place.1 ≡ Some n = ap (λ x. x.1) h in
          let ec = item-cells t es d p w c m sh.rises (item_of es e) n ip q2 in
          let g = (cell_good es e.place.0 n y c (subst (In y) ec z)).within in
          subst (λ u. y.offset + 4 ≤ length u) (item-value t es d p w c m sh.rises (item_of es e) n g.value ip q2 g.is) g.fits)

      go : (b : Bool) → length (cond b (bytes32 (be32 e.value 0 + d)) (filled m.env d e.value e.value (item_of es e).cells)) ≤ 4096
      go true = omega arith
      go false =
          let l = length-filled m.env d e.value (item_of es e).cells e.value all in
          let s = leb-true (length e.value) 4096 (and_parts (leb (length e.place.0) 255) _ (good e (body-listed es e i).0).short).1 in
          omega (arith, l, s)

  pub bare_value : (e : Entry) → In e es → (k : Place) → e.place ≡ k → k.1 ≡ None → final_bytes m.env d (item_of es e) k ≡ []
  bare_value e i (q, None) h n = nil_from_length e.value (eqb-true _ _ (ap (λ z. bare z e.value) (sym h) ∙ (good e i).bare))
  bare_value e i (q, Some x) h n = absurd (some-none x n)

  named_image : (e : Entry) → In e es → (k : Place) → e.place ≡ k → in_body (fragment_nodes es) k.0 ≡ true → named_place (image_of m.ls k.0, k.1) ≡ true
  named_image e i (q, None) h b = image-path q b (ap named_place (sym h) ∙ (good e i).named)
  named_image e i (q, Some n) h b =
      let a = and_parts _ _ (ap named_place (sym h) ∙ (good e i).named) in
      and_from _ _ (image-path q b a.0) a.1

  item_fits : (e : Entry) (s : Tree) → In e (body_entries es) → length (image_of m.ls e.place.0) ≤ 255 → look s (up_place (image_of_entry e).place) ≡ Some [] → FitsIn s (image_of_entry e)
  item_fits e s i short up =
      let l = body-listed es e i in
      record {
        named = named_image e l.0 e.place refl l.1;
        short = and_from _ _ (le-leb _ _ short) (le-leb _ _ (short_value e i e.place refl));
        bare = bare_value e l.0 e.place refl;
        up = up;
      }

  -- ---- the items in order

  picked_in : (e : Entry) → In e es → in_body (fragment_nodes es) e.place.0 ≡ true → In e (body_entries es)
  unfolding body_entries
  picked_in e i b = in-pick (λ e. cond (in_body (fragment_nodes es) e.place.0) (Some e) None) e e es i (cond-true _ _ _ b)

  -- what was listed in a body is there
  abbrev Seen : Tree → List Place → Type 0
  Seen s seen = (k : Bytes) → In (node_at k) seen → in_body (fragment_nodes es) k ≡ true → look s (node_at (image_of m.ls k)) ≡ Some []

  abbrev Sub : Tree → Type 0
  Sub s = (j : Place) → j.1 ≡ None → look t j ≡ Some [] → look s j ≡ Some []

  abbrev picked : List Entry → List Entry
  picked xs = pick (λ e. cond (in_body (fragment_nodes es) e.place.0) (Some e) None) xs

  abbrev images_of : List Entry → List Entry
  images_of xs = map (image_entry m.env d m.ls) (map (item_of es) xs)

  abbrev Short : List Entry → Type 0
  Short ws = AllByRecursion (λ e. length e.place.0 ≤ 255) ws

  -- the place above an image is there
  up_there : (e : Entry) (seen : List Place) (s : Tree) → Next seen e → Seen s seen → (k : Place) → e.place ≡ k → in_body (fragment_nodes es) k.0 ≡ true → (k.1 ≡ None → look t (image_of m.ls k.0, k.1) ≡ None) → look s (up_place (image_of m.ls k.0, k.1)) ≡ Some []
  up_there e seen s n h (q, None) ek b a = go (body-match q b) (body-match q b).rest refl
    where
      go : (M : Match m.ls q) (r : Bytes) → M.rest ≡ r → look s (node_at (parent (image_of m.ls q))) ≡ Some []
      go M [] er = absurd (some-none [] (sym (image-top q M er) ∙ a refl))
      go M (x ∷ bs) er =
          let A = image_up q M x bs er in
          ap (λ z. look s (node_at z)) A.image ∙ h A.up (subst (λ z. In z seen) (ap up_place ek ∙ ap node_at A.is) n.up) A.body
  up_there e seen s n h (q, Some x) ek b a = h q (subst (λ z. In z seen) (ap up_place ek) n.up) b

  abbrev Rest : Entry → List Entry → List Place → Type 0
  Rest e xs seen = (u : Tree) → Rising u → Sub u → Seen u (e.place ∷ seen) → Short (puts_in t (images_of (picked xs))) → Grows u (puts_in t (images_of (picked xs)))

  grow_items : (xs : List Entry) (seen : List Place) (s : Tree) → listed_from seen xs ≡ true → ((e : Entry) → In e xs → In e es) → Rising s → Sub s → Seen s seen → Short (puts_in t (images_of (picked xs))) → Grows s (puts_in t (images_of (picked xs)))
  unfolding Grows
  grow_items [] seen s h inc r sub seen-ok sh = tt
  grow_items (e ∷ xs) seen s h inc r sub seen-ok short =
      let n = listed_next_lem seen e xs h in
      go (in_body (fragment_nodes es) e.place.0) refl n.0 (λ u ru su se ss. grow_items xs (e.place ∷ seen) u n.1 (λ x i. inc x (inr i)) ru su se ss) short
    where
      in_es : In e es
      in_es = inc e (inl refl)

      -- e's own place, if it is a node in a body, has its image there
      seen_more : (u : Tree) → Sub u → Seen u seen → (e.place.1 ≡ None → in_body (fragment_nodes es) e.place.0 ≡ true → look u (node_at (image_of m.ls e.place.0)) ≡ Some []) → Seen u (e.place ∷ seen)
      seen_more u su se own k (inl q) b =
          let own2 = own (ap (λ z. z.1) (sym q)) (ap (λ z. in_body (fragment_nodes es) z.0) (sym q) ∙ b) in
          ap (λ z. look u (node_at (image_of m.ls z.0))) q ∙ own2
      seen_more u su se own k (inr i) b = se k i b

      by_touch : in_body (fragment_nodes es) e.place.0 ≡ true → Next seen e → Rest e xs seen → (o : Option Entry) → Put t (image_of_entry e) o ⊎ Read t (image_of_entry e) o → Short (given o (puts_in t (images_of (picked xs)))) → Grows s (given o (puts_in t (images_of (picked xs))))
      by_touch b n ih o (inl u) ss =
          let i = picked_in e in_es b in
          let ss2 = subst (λ z. Short (given z (puts_in t (images_of (picked xs))))) u.is ss in
          let up = up_there e seen s n seen-ok e.place refl b (λ z. u.absent z) in
          let f = item_fits e s i ss2.0 up in
          let s2 = change s (image_of_entry e).place (Some (image_of_entry e).value) in
          let r2 = rises-put s (image_of_entry e) r in
          let sub2 : Sub s2 = λ j z y. node-put s (image_of_entry e) j r f.bare z (sub j z y) in
          let se2 : Seen s2 seen = λ k i2 b2. node-put s (image_of_entry e) (node_at (image_of m.ls k)) r f.bare refl (seen-ok k i2 b2) in
          let own : e.place.1 ≡ None → in_body (fragment_nodes es) e.place.0 ≡ true → look s2 (node_at (image_of m.ls e.place.0)) ≡ Some [] = λ z y.
          (ap (λ q. look s2 (image_of m.ls e.place.0, q)) (sym z) ∙ look-put s (image_of_entry e) r ∙ ap Some (f.bare z)) in
          subst (λ z. Grows s (given z (puts_in t (images_of (picked xs))))) (sym u.is) (f, ih s2 r2 sub2 (seen_more s2 sub2 se2 own) ss2.1)
      by_touch b n ih o (inr u) ss =
          let ss2 = subst (λ z. Short (given z (puts_in t (images_of (picked xs))))) u.is ss in
          let own : e.place.1 ≡ None → in_body (fragment_nodes es) e.place.0 ≡ true → look s (node_at (image_of m.ls e.place.0)) ≡ Some [] = λ z y.
          (let a : look t (node_at (image_of m.ls e.place.0)) ≡ Some u.value = ap (λ q. look t (image_of m.ls e.place.0, q)) (sym z) ∙ u.there in
          sub (node_at (image_of m.ls e.place.0)) refl (a ∙ ap Some (sh.bare (image_of m.ls e.place.0) u.value a))) in
          subst (λ z. Grows s (given z (puts_in t (images_of (picked xs))))) (sym u.is) (ih s r sub (seen_more s sub seen-ok own) ss2)

      go : (b : Bool) → in_body (fragment_nodes es) e.place.0 ≡ b → Next seen e → Rest e xs seen → Short (puts_in t (images_of (given (cond b (Some e) None) (picked xs)))) → Grows s (puts_in t (images_of (given (cond b (Some e) None) (picked xs))))
      go false b n ih ss = ih s r sub (seen_more s sub seen-ok (λ z y. absurd (true≢false (sym y ∙ b)))) ss
      go true b n ih ss = by_touch b n ih (put_in (touch_at t (image_of_entry e) (image_of_entry e).place)) (put-read t (image_of_entry e) (image_of_entry e).place refl) ss

  -- ---- symbols

  -- the image of a body node is within the path limit
  image_short : (q : Bytes) → in_body (fragment_nodes es) q ≡ true → is_listed es (node_at q) ≡ true → length (image_of m.ls q) ≤ 255
  unfolding overlay_of
  image_short q b l =
      let v = is_some _ l in
      let x = value-some es (node_at q) v.0 v.1 in
      let bx : in_body (fragment_nodes es) x.0.place.0 ≡ true = ap (λ z. in_body (fragment_nodes es) z.0) x.2 ∙ b in
      let i = picked_in x.0 x.1 bx in
      let E = image_of_entry x.0 in
      let j = in_left E (map (image_entry m.env d m.ls) (overlay_of es).items) (map (symbol_entry m.ls) (overlay_of es).symbols) (in_map (image_entry m.env d m.ls) (item_of es x.0) (overlay_of es).items (in_map (item_of es) x.0 (body_entries es) i)) in
      subst (λ z. length (image_of m.ls z.0) ≤ 255) x.2 (⊎_elim
      (λ a. all-at (λ e. length e.place.0 ≤ 255) E (pick put_in m.ts) m.allows.short a)
      (λ a. leb-true _ _ (and_parts (leb (length E.place.0) 255) _ (sh.short E.place a.1.0 a.1.1)).0)
      (put_or_there t (images m.env d m.ls (overlay_of es)) m.ts m.touched E j))

  symbol_fits : (y : Symbol) (s : Tree) → In y (overlay_of es).symbols → look s (node_at symbols_path) ≡ Some [] → FitsIn s (symbol_entry m.ls y)
  symbol_fits y s i up =
      let f = symbol-from es y c i in
      let b = and_parts _ _ f.body in
      let l = image_short y.path b.0 b.1 in
      let len = length-append (image_of m.ls y.path) (0 ∷ []) in
      record {
        named = ap named_place (sym f.place) ∙ (good f.entry f.listed).named;
        short = le-leb _ 4096 (omega (arith, len, l));
        bare = λ z. absurd (some-none y.label z);
        up = up;
      }

  grow_symbols : (ys : List Symbol) (s : Tree) → ((y : Symbol) → In y ys → In y (overlay_of es).symbols) → Rising s → look s (node_at symbols_path) ≡ Some [] → Grows s (puts_in t (map (symbol_entry m.ls) ys))
  unfolding Grows
  grow_symbols [] s inc r up = tt
  grow_symbols (y ∷ ys) s inc r up =
      let f = symbol_fits y s (inc y (inl refl)) up in
      let e = symbol_entry m.ls y in
      (f, grow_symbols ys (change s e.place (Some e.value)) (λ z i. inc z (inr i)) (rises-put s e r) (node-put s e (node_at symbols_path) r f.bare refl up))

  -- ---- all of them

  body_root : in_body (fragment_nodes es) root ≡ true → ⊥
  body_root h =
      let M = body-match root h in
      let l = M.located in
      let f = located-from l M.listed in
      let x = behind-is l.body root M.rest M.is in
      omega (arith, ap length x.0, length-append l.body M.rest, ap length f.2, length-append f.0.place.0 (codes "/__overlay__"))

  writes_puts : puts_in t (images m.env d m.ls (overlay_of es)) ≡ p.writes
  writes_puts = ap (pick put_in) (ok_one (sym (run-touches t (images m.env d m.ls (overlay_of es))) ∙ m.touched)) ∙ writes-is t (overlay_of es) d p m

  writes_split : puts_in t (map (image_entry m.env d m.ls) (overlay_of es).items) ++ puts_in t (map (symbol_entry m.ls) (overlay_of es).symbols) ≡ p.writes
  writes_split = sym (puts_join t (map (image_entry m.env d m.ls) (overlay_of es).items) (map (symbol_entry m.ls) (overlay_of es).symbols)) ∙ writes_puts

  grow_all : (xs : List Entry) → xs ≡ es → Short (puts_in t (images_of (picked xs))) → Grows t (puts_in t (images_of (picked xs)))
  grow_all [] e ss = unfold Grows in tt
  grow_all (x ∷ xs) e ss =
      let wl = well x xs (ap well_listed e ∙ w) in
      let no : in_body (fragment_nodes es) x.place.0 ≡ false = not_root (in_body (fragment_nodes es) x.place.0) refl (ap (λ z. z.0) wl.place) in
      let eq : puts_in t (images_of (picked (x ∷ xs))) ≡ puts_in t (images_of (picked xs)) = ap (λ b. puts_in t (images_of (given (cond b (Some x) None) (picked xs)))) no in
      subst (Grows t) (sym eq) (grow_items xs (node_at root ∷ []) t wl.rest (λ y i. subst (In y) e (inr i)) sh.rises (λ j n h. h) start (subst Short eq ss))
    where
      not_root : (b : Bool) → in_body (fragment_nodes es) x.place.0 ≡ b → x.place.0 ≡ root → in_body (fragment_nodes es) x.place.0 ≡ false
      not_root false h q = h
      not_root true h q = absurd (body_root (ap (in_body (fragment_nodes es)) (sym q) ∙ h))

      start : Seen t (node_at root ∷ [])
      start k (inl q) b = absurd (body_root (ap (λ z. in_body (fragment_nodes es) z.0) (sym q) ∙ b))
      start k (inr i) b = absurd i

  pub plan_grows : look t (node_at symbols_path) ≡ Some [] → Grows t p.writes
  unfolding overlay_of body_entries
  plan_grows sy =
      let A = puts_in t (map (image_entry m.env d m.ls) (overlay_of es).items) in
      let B = puts_in t (map (symbol_entry m.ls) (overlay_of es).symbols) in
      let short : Short (A ++ B) = subst Short (sym (writes_split ∙ sym (writes-is t (overlay_of es) d p m))) m.allows.short in
      let g : Grows t A = grow_all es refl (lefts A B short) in
      subst (Grows t) writes_split (grows_join A B t g (grow_symbols (overlay_of es).symbols (apply A t) (λ y i. i) (rises-apply A t sh.rises) (node_stays A t (node_at symbols_path) sh.rises g refl sy)))
    where
      lefts : (xs ys : List Entry) → Short (xs ++ ys) → Short xs
      lefts [] ys h = tt
      lefts (x ∷ xs) ys h = (h.0, lefts xs ys h.1)

  -- ---- the writes count no more than the share

  -- an `__overlay__` has its target for an image, and that is there
  top_there : (i : Item) → In i (overlay_of es).items → (k : Place) → i.place ≡ k → below_top (overlay_of es) i k ≡ None → (k.1 ≡ None) × (look t (image_of m.ls k.0, k.1) ≡ Some [])
  unfolding overlay_of slashes
  top_there i h (q, Some n) e b = let z : ◌≡◌ {A = ℕ} 0 1 = cc in absurd (omega arith)
  top_there i h (q, None) e b = go (some (λ f. bytes_eq f.body q) (overlay_of es).fragments) refl b
    where
      at_top : (f : Fragment) → In f (overlay_of es).fragments → f.body ≡ q → look t (node_at (image_of m.ls q)) ≡ Some []
      at_top f j eq =
          let x = in-map-from fragment f (fragment_nodes es) j in
          let y = item_from es i h in
          let bq : in_body (fragment_nodes es) q ≡ true = ap (λ z. in_body (fragment_nodes es) z.0) (sym e ∙ ap (λ z. z.place) y.2) ∙ (body-listed es y.0 y.1).1 in
          let M = body-match q bq in
          let l = M.located in
          let g = located-from l M.listed in
          let z = behind-is l.body q M.rest M.is in
          let s1 = fragment-slashes es x.0 w x.1 in
          let s2 = fragment-slashes es g.0 w g.1 in
          let eb : q ≡ body_path x.0.place.0 = sym eq ∙ ap (λ z. z.body) x.2 in
          let sq : slashes q ≡ 2 = ap slashes eb ∙ s1 in
          let sr : slashes q ≡ 2 + slashes M.rest = ap slashes z.0 ∙ slashes_join l.body M.rest ∙ ap (λ u. u + slashes M.rest) (ap slashes g.2 ∙ s2) in
          image-top q M (no_rest M.rest z.1 sq sr)
        where
          no_rest : (r : Bytes) → slashed r ≡ true → slashes q ≡ 2 → slashes q ≡ 2 + slashes r → r ≡ []
          no_rest [] s a b = refl
          no_rest (x ∷ r) s a b = absurd (omega (arith, a, b, ap (λ u. cond u 1 0 + slashes r) s))

      go : (z : Bool) → some (λ f. bytes_eq f.body q) (overlay_of es).fragments ≡ z → cond z None (Some i) ≡ None → (◌≡◌ {A = Option Bytes} None None) × (look t (image_of m.ls q, None) ≡ Some [])
      go false a b = let z : ◌≡◌ {A = ℕ} 0 1 = cc in absurd (omega arith)
      go true a b = let f = some-true (λ f. bytes_eq f.body q) (overlay_of es).fragments a in (refl, at_top f.0 f.1 ((bytes_eq-Decides f.0.body q).0 f.2))

  cost_items : (f : Place → Bytes → ℕ) (xs : List Item) → ((i : Item) → In i xs → In i (overlay_of es).items) → total f (listed (puts_in t (map (image_entry m.env d m.ls) xs))) ≤ total f (listed (map (image_entry m.env d m.ls) (pick (λ i. below_top (overlay_of es) i i.place) xs)))
  unfolding total
  cost_items f [] inc = omega arith
  cost_items f (i ∷ xs) inc =
      go (below_top (overlay_of es) i i.place) refl (put_in (touch_at t (image_entry m.env d m.ls i) (image_entry m.env d m.ls i).place)) (put-read t (image_entry m.env d m.ls i) (image_entry m.env d m.ls i).place refl) (cost_items f xs (λ j k. inc j (inr k)))
    where
      put_cost : (o : Option Entry) → o ≡ Some (image_entry m.env d m.ls i) → total f (listed (given o (puts_in t (map (image_entry m.env d m.ls) xs)))) ≡ f (image_entry m.env d m.ls i).place (image_entry m.env d m.ls i).value + total f (listed (puts_in t (map (image_entry m.env d m.ls) xs)))
      put_cost o e = ap (λ z. total f (listed (given z (puts_in t (map (image_entry m.env d m.ls) xs))))) e

      read_cost : (o : Option Entry) → o ≡ None → total f (listed (given o (puts_in t (map (image_entry m.env d m.ls) xs)))) ≡ total f (listed (puts_in t (map (image_entry m.env d m.ls) xs)))
      read_cost o e = ap (λ z. total f (listed (given z (puts_in t (map (image_entry m.env d m.ls) xs))))) e

      below : (j : Item) → below_top (overlay_of es) i i.place ≡ Some j → (k : Place) → i.place ≡ k → below_top (overlay_of es) i k ≡ Some j → i ≡ j
      below j e (q, Some n) ek h = cc
      below j e (q, None) ek h = by (some (λ f. bytes_eq f.body q) (overlay_of es).fragments) h
        where
          by : (z : Bool) → cond z None (Some i) ≡ Some j → i ≡ j
          by true h = let z : ◌≡◌ {A = ℕ} 0 1 = cc in absurd (omega arith)
          by false h = cc

      go : (b : Option Item) → below_top (overlay_of es) i i.place ≡ b → (o : Option Entry) → Put t (image_entry m.env d m.ls i) o ⊎ Read t (image_entry m.env d m.ls i) o
          → total f (listed (puts_in t (map (image_entry m.env d m.ls) xs))) ≤ total f (listed (map (image_entry m.env d m.ls) (pick (λ i. below_top (overlay_of es) i i.place) xs)))
          → total f (listed (given o (puts_in t (map (image_entry m.env d m.ls) xs)))) ≤ total f (listed (map (image_entry m.env d m.ls) (given b (pick (λ i. below_top (overlay_of es) i i.place) xs))))
      go None eb o (inl u) ih = let x = top_there i (inc i (inl refl)) i.place refl eb in absurd (some-none [] (sym x.1 ∙ u.absent x.0))
      go None eb o (inr u) ih = omega (arith, ih, read_cost o u.is)
      go (Some j) eb o (inl u) ih =
          let e = below j eb i.place refl eb in
          let e2 : f (image_entry m.env d m.ls i).place (image_entry m.env d m.ls i).value ≡ f (image_entry m.env d m.ls j).place (image_entry m.env d m.ls j).value = ap (λ z. f (image_entry m.env d m.ls z).place (image_entry m.env d m.ls z).value) e in
          omega (arith, ih, put_cost o u.is, e2)
      go (Some j) eb o (inr u) ih = omega (arith, ih, read_cost o u.is)

  symbols_put : (ys : List Symbol) → puts_in t (map (symbol_entry m.ls) ys) ≡ map (symbol_entry m.ls) ys
  symbols_put [] = refl
  symbols_put (y ∷ ys) = ap (λ z. symbol_entry m.ls y ∷ z) (symbols_put ys)

  pub share_is : share_of (listed (shared m.env d m.ls (overlay_of es))) ≡ p.share
  unfolding planned
  share_is = ap (λ z. z.share) m.is

  pub cost_share : (f : Place → Bytes → ℕ) → total f (listed p.writes) ≤ total f (listed (shared m.env d m.ls (overlay_of es)))
  cost_share f =
      let A = puts_in t (map (image_entry m.env d m.ls) (overlay_of es).items) in
      let B = puts_in t (map (symbol_entry m.ls) (overlay_of es).symbols) in
      let C = map (image_entry m.env d m.ls) (pick (λ i. below_top (overlay_of es) i i.place) (overlay_of es).items) in
      let D = map (symbol_entry m.ls) (overlay_of es).symbols in
      let e1 = ap (λ z. total f (listed z)) writes_split in
      let e2 = cost_join f A B in
      let e3 = cost_join f C D in
      let e4 = ap (λ z. total f (listed z)) (symbols_put (overlay_of es).symbols) in
      let le = cost_items f (overlay_of es).items (λ i j. j) in
      omega (arith, e1, e2, e3, e4, le)
