-- Entries in a good order, written one after the other, make their tree, and each write is one that a store grants. Assumes nothing.
use Rattle.std.proofs.Common.{◌≡◌, ℕ, ◌^◌, ◌<◌, ◌≤◌, Bool, true, false, ◌||◌, eqb, List, [], ◌∷◌, ◌++◌, length, is_some, Some, None, Ok, Option, sym, refl, ap, ◌∙◌, subst, arith}
use Rattle.std.proofs.lemmas.Bool.Decides.{nat_tests}
use Rattle.std.proofs.lemmas.Bool.{and_parts, and_from, or_parts, both_ways, eqb-true}
use Rattle.std.specs.List.{AllByRecursion}
use Rattle.names.specs.Names.{property_name}
use Rattle.names.specs.Paths.{root, parent, path_text}
use Rattle.store.specs.Calls.{holds, there, admitted, add_node, set_property}
use Rattle.tree.specs.Entries.{Entry, inserted, tree_of, listed, same_place, among_places, listed_next, listed_from, well_listed}
use Rattle.tree.specs.Maps.{find, upd, Rises, total}
use Rattle.tree.specs.Places.{Bytes, Place, node_at, property_at, order}
use Rattle.tree.specs.Trees.{Places, Tree, look, change, node_count, property_count, weigh, roomy, named_place, up_place, Sound}
use Rattle.tree.proofs.Listed.{same_self, same-only, Next, listed_next_lem, listed-sound}
use Rattle.tree.proofs.MapLaws.{upd-swap}
use Rattle.tree.proofs.Maps.{find-same, find-other, rises-upd}
use Rattle.tree.proofs.Places.{place-order}
use Rattle.loader.specs.Loading.{root_tree, grow}

-- ---- entries at places of their own

abbrev Off : Place → List Entry → Type 0
Off k es = AllByRecursion (λ e. k ≡ e.place → ⊥) es

among-more : (k l : Place) (seen : List Place) → among_places k seen ≡ true → among_places k (l ∷ seen) ≡ true
among-more k l seen h = or_last (same_place k l)
  where
    or_last : (b : Bool) → (b || among_places k seen) ≡ true
    or_last true = refl
    or_last false = h

-- a place that was seen is not among those that come later
off-seen : (es : List Entry) (seen : List Place) (k : Place) → listed_from seen es ≡ true → among_places k seen ≡ true → Off k es
unfolding listed_from
off-seen [] seen k l a = tt
off-seen (e ∷ es) seen k l a =
    let p = and_parts (listed_next seen e) (listed_from (e.place ∷ seen) es) l in
    let n = listed_next_lem seen e p.0 in
    ((λ z. both_ways (among_places e.place seen) n.new (subst (λ x. among_places x seen ≡ true) z a)), off-seen es (e.place ∷ seen) k p.1 (among-more k e.place seen a))

-- ---- in whatever order

-- all entries, inserted into some places
inserted_on : Places → List Entry → Places
inserted_on ps [] = ps
inserted_on ps (e ∷ es) = upd order (inserted_on ps es) e.place (Some e.value)

rises-on : (ps : Places) (es : List Entry) → Rises order ps → Rises order (inserted_on ps es)
unfolding inserted_on
rises-on ps [] r = r
rises-on ps (e ∷ es) r = rises-upd place-order (inserted_on ps es) e.place (Some e.value) (rises-on ps es r)

-- a place apart from the entries may come first or last
on-swap : (ps : Places) (es : List Entry) (k : Place) (w : Option Bytes) → Rises order ps → Off k es → inserted_on (upd order ps k w) es ≡ upd order (inserted_on ps es) k w
unfolding inserted_on
on-swap ps [] k w r o = refl
on-swap ps (e ∷ es) k w r o =
    ap (λ z. upd order z e.place (Some e.value)) (on-swap ps es k w r o.1)
    ∙ upd-swap place-order (inserted_on ps es) k e.place w (Some e.value) (rises-on ps es r) o.0

grow-on : (boot : ℕ) (ps : Places) (es : List Entry) (seen : List Place) → Rises order ps → listed_from seen es ≡ true → grow (record { boot = boot; places = ps }) es ≡ record { boot = boot; places = inserted_on ps es }
unfolding grow change inserted_on listed_from
grow-on boot ps [] seen r l = refl
grow-on boot ps (e ∷ es) seen r l =
    let p = and_parts (listed_next seen e) (listed_from (e.place ∷ seen) es) l in
    let off = off-seen es (e.place ∷ seen) e.place p.1 (rw (same_self e.place)) in
    grow-on boot (upd order ps e.place (Some e.value)) es (e.place ∷ seen) (rises-upd place-order ps e.place (Some e.value) r) p.1
    ∙ ap (λ z. record { boot = boot; places = z }) (on-swap ps es e.place (Some e.value) r off)

on-nothing : (es : List Entry) → inserted_on [] es ≡ inserted es
unfolding inserted_on inserted
on-nothing [] = refl
on-nothing (e ∷ es) = ap (λ z. upd order z e.place (Some e.value)) (on-nothing es)

root-alone : ◌≡◌ {A = Places} (upd order [] (node_at root) (Some [])) ((node_at root, []) ∷ [])
unfolding upd
root-alone = refl

-- the entries behind the root, written one after the other
pub grown : (boot : ℕ) (e : Entry) (es : List Entry) → well_listed (e ∷ es) ≡ true → grow (root_tree boot) es ≡ tree_of boot (e ∷ es)
unfolding inserted
grown boot e es l =
    let p = and_parts (same_place e.place (node_at root)) _ l in
    let q = and_parts (eqb (length e.value) 0) (listed_from (node_at root ∷ []) es) p.1 in
    let top : e.place ≡ node_at root = same-only e.place (node_at root) p.0 in
    let none : e.value ≡ [] = empty e.value q.0 in
    let off = off-seen es (node_at root ∷ []) (node_at root) q.1 (rw (same_self (node_at root))) in
    grow-on boot ((node_at root, []) ∷ []) es (node_at root ∷ []) (tt, tt) q.1
    ∙ ap (λ z. record { boot = boot; places = z })
    (ap (λ ps. inserted_on ps es) (sym root-alone) ∙ on-swap [] es (node_at root) (Some []) tt off ∙ ap (λ z. upd order z (node_at root) (Some [])) (on-nothing es)
    ∙ (λ i. upd order (inserted es) (sym top i) (Some (sym none i))))
  where
    empty : (v : Bytes) → eqb (length v) 0 ≡ true → v ≡ []
    empty [] h = refl
    empty (b ∷ v) h = let z = eqb-true (length (b ∷ v)) 0 h in absurd (omega arith)

-- ---- each write, when its turn comes

push : List Entry → List Place → List Place
push [] seen = seen
push (e ∷ es) seen = push es (e.place ∷ seen)

next-at : (ls : List Entry) (e : Entry) (bs : List Entry) (seen : List Place) → listed_from seen (ls ++ (e ∷ bs)) ≡ true → Next (push ls seen) e
unfolding listed_from push
next-at [] e bs seen l = listed_next_lem seen e (and_parts (listed_next seen e) _ l).0
next-at (x ∷ ls) e bs seen l = next-at ls e bs (x.place ∷ seen) (and_parts (listed_next seen x) _ l).1

listed-front : (ls : List Entry) (e : Entry) (bs : List Entry) (seen : List Place) → listed_from seen (ls ++ (e ∷ bs)) ≡ true → listed_from seen (ls ++ (e ∷ [])) ≡ true
unfolding listed_from
listed-front [] e bs seen l = and_from (listed_next seen e) true (and_parts (listed_next seen e) _ l).0 refl
listed-front (x ∷ ls) e bs seen l =
    let p = and_parts (listed_next seen x) (listed_from (x.place ∷ seen) (ls ++ (e ∷ bs))) l in
    and_from (listed_next seen x) _ p.0 (listed-front ls e bs (x.place ∷ seen) p.1)

-- a place that is not among those seen is none of them
off-push : (ls : List Entry) (seen : List Place) (k : Place) → among_places k (push ls seen) ≡ false → Off k ls × (among_places k seen ≡ false)
unfolding push
off-push [] seen k h = (tt, h)
off-push (e ∷ ls) seen k h =
    let r = off-push ls (e.place ∷ seen) k h in
    let p = or_parts (same_place k e.place) (among_places k seen) r.1 in
    (((λ z. both_ways (same_place k e.place) p.0 (subst (λ x. same_place k x ≡ true) z (same_self k))), r.0), p.1)

look-grow : (t : Tree) (ls : List Entry) (k : Place) → Rises order t.places → Off k ls → (look (grow t ls) k ≡ look t k) × Rises order (grow t ls).places
unfolding grow change look
look-grow t [] k r o = (refl, r)
look-grow t (e ∷ ls) k r o =
    let h = look-grow (change t e.place (Some e.value)) ls k (rises-upd place-order t.places e.place (Some e.value) r) o.1 in
    (h.0 ∙ find-other place-order t.places e.place k (Some e.value) r o.0, h.1)

pub grow_last : (t : Tree) (ls : List Entry) (e : Entry) → grow t (ls ++ (e ∷ [])) ≡ change (grow t ls) e.place (Some e.value)
unfolding grow
grow_last t [] e = refl
grow_last t (x ∷ ls) e = grow_last (change t x.place (Some x.value)) ls e

total-front : (f : Place → Bytes → ℕ) (ls : List Entry) (e : Entry) (bs : List Entry) → total f (listed (ls ++ (e ∷ []))) ≤ total f (listed (ls ++ (e ∷ bs)))
unfolding total
total-front f [] e bs = omega arith
total-front f (x ∷ ls) e bs = let h = total-front f ls e bs in omega arith

roomy-front : (ls : List Entry) (e : Entry) (bs : List Entry) → roomy (listed (ls ++ (e ∷ bs))) ≡ true → roomy (listed (ls ++ (e ∷ []))) ≡ true
roomy-front ls e bs h =
    let n = total-front node_count ls e bs in
    let p = total-front property_count ls e bs in
    let w = total-front weigh ls e bs in
    grind (arith, nat_tests)

not_root : (boot : ℕ) (k : Place) → among_places k (node_at root ∷ []) ≡ false → look (root_tree boot) k ≡ None
unfolding look find
not_root boot k h =
    let p = or_parts (same_place k (node_at root)) false h in
    let apart : k ≡ node_at root → ⊥ = λ z. both_ways (same_place k (node_at root)) p.0 (subst (λ x. same_place k x ≡ true) z (same_self k)) in
    let none : Places = [] in
    ap (λ ps. find order ps k) (sym root-alone) ∙ find-other place-order none (node_at root) k (Some []) tt apart

-- what a store asks of a write: its place is not there, what it hangs on is, its names are good and the limits let it in
pub record Ready (t : Tree) (e : Entry) : Type 0 where
  pub absent : look t e.place ≡ None
  pub up : look t (up_place e.place) ≡ Some []
  pub named : named_place e.place ≡ true
  pub fits : admitted t e.place e.value ≡ true

module _ (boot : ℕ) (first : Entry) (ls : List Entry) (e : Entry) (bs : List Entry) (good : well_listed (first ∷ (ls ++ (e ∷ bs))) ≡ true) (room : roomy (listed (first ∷ (ls ++ (e ∷ bs)))) ≡ true) (low : boot < 2 ^ 32) where
  pub ready : Ready (grow (root_tree boot) ls) e
  unfolding look change
  ready =
      let p = and_parts (same_place first.place (node_at root)) _ good in
      let q = and_parts (eqb (length first.value) 0) (listed_from (node_at root ∷ []) (ls ++ (e ∷ bs))) p.1 in
      let n = next-at ls e bs (node_at root ∷ []) q.1 in
      let off = off-push ls (node_at root ∷ []) e.place n.new in
      let apart : up_place e.place ≡ e.place → ⊥ = λ z. both_ways (among_places e.place (push ls (node_at root ∷ []))) n.new (subst (λ x. among_places x (push ls (node_at root ∷ [])) ≡ true) z n.up) in
      let fewer : well_listed (first ∷ (ls ++ (e ∷ []))) ≡ true = and_from _ _ p.0 (and_from _ _ q.0 (listed-front ls e bs (node_at root ∷ []) q.1)) in
      let s : Sound (tree_of boot (first ∷ (ls ++ (e ∷ [])))) = listed-sound boot (first ∷ (ls ++ (e ∷ []))) fewer (roomy-front (first ∷ ls) e bs room) low in
      let same : tree_of boot (first ∷ (ls ++ (e ∷ []))) ≡ change (grow (root_tree boot) ls) e.place (Some e.value) = sym (grown boot first (ls ++ (e ∷ [])) fewer) ∙ grow_last (root_tree boot) ls e in
      let sound : Sound (change (grow (root_tree boot) ls) e.place (Some e.value)) = subst Sound same s in
      let g = look-grow (root_tree boot) ls e.place (tt, tt) off.0 in
      let here : look (change (grow (root_tree boot) ls) e.place (Some e.value)) e.place ≡ Some e.value = find-same place-order (grow (root_tree boot) ls).places e.place (Some e.value) g.1 in
      record {
        absent = g.0 ∙ not_root boot e.place off.1;
        up = sym (find-other place-order (grow (root_tree boot) ls).places e.place (up_place e.place) (Some e.value) g.1 apart) ∙ sound.hangs e.place e.value here;
        named = n.named;
        fits = and_from _ _ n.short sound.roomy;
      }

-- so it grants it
pub node-granted : (t : Tree) (at : ℕ) (p v : Bytes) → Ready t (record { at = at; place = node_at p; value = v }) → v ≡ [] → add_node (holds t) p ≡ Ok tt
node-granted t at p v r e =
    let a : there t (node_at p) ≡ false = ap is_some r.absent in
    let u : there t (node_at (parent p)) ≡ true = ap is_some r.up in
    let f : admitted t (node_at p) [] ≡ true = subst (λ z. admitted t (node_at p) z ≡ true) e r.fits in
    let n : path_text p ≡ true = r.named in
    rw (n, a, u, f)

pub property-granted : (t : Tree) (at : ℕ) (p name v : Bytes) → Ready t (record { at = at; place = property_at p name; value = v }) → set_property (holds t) p name v ≡ Ok tt
property-granted t at p name v r =
    let u : there t (node_at p) ≡ true = ap is_some r.up in
    let f : admitted t (property_at p name) v ≡ true = r.fits in
    let n = and_parts (path_text p) (property_name name) r.named in
    rw (n.0, n.1, u, f)

-- the root stays there
pub root-stays : (boot : ℕ) (first : Entry) (es ls : List Entry) (e : Entry) (bs : List Entry) → well_listed (first ∷ es) ≡ true → es ≡ ls ++ (e ∷ bs) → look (grow (root_tree boot) ls) (node_at root) ≡ Some []
unfolding look find
root-stays boot first es ls e bs good split =
    let p = and_parts (same_place first.place (node_at root)) _ good in
    let q = and_parts (eqb (length first.value) 0) (listed_from (node_at root ∷ []) es) p.1 in
    let off = off-front ls (e ∷ bs) (subst (Off (node_at root)) split (off-seen es (node_at root ∷ []) (node_at root) q.1 (rw (same_self (node_at root))))) in
    (look-grow (root_tree boot) ls (node_at root) (tt, tt) off).0
  where
    off-front : (xs ys : List Entry) → Off (node_at root) (xs ++ ys) → Off (node_at root) xs
    off-front [] ys o = tt
    off-front (x ∷ xs) ys o = (o.0, off-front xs ys o.1)
