-- A plan's writes do what the five steps of a merge say. Assumes nothing.
use Rattle.std.proofs.Common.{◌≡◌, ℕ, ◌+◌, ◌-◌, ◌<◌, Bool, true, false, cond, eqb, List, [], ◌∷◌, ◌++◌, map, length, get_or, take, Some, None, Ok, sym, refl, ap, ◌∙◌, subst, ⊎_elim, arith}
use Rattle.std.proofs.lemmas.List.{take_more, take_all}
use Rattle.std.proofs.lemmas.Bool.{eqb-true}
use Rattle.tree.specs.Entries.{Entry, well_listed}
use Rattle.tree.specs.Numbers.{be32}
use Rattle.tree.specs.Phandles.{holder}
use Rattle.tree.specs.Places.{Bytes, Place, node_at}
use Rattle.tree.specs.Trees.{Tree, look, Sound}
use Rattle.tree.proofs.Maps.{some-none, some_one}
use Rattle.overlay_rules.specs.Laws.{Rising, In}
use Rattle.overlay_rules.specs.Merges.{Aimed, Merges, MergesBySteps}
use Rattle.overlay_rules.specs.Overlays.{phandle_at, Target, by_path, by_number, by_label, Fragment, Item, overlay_of}
use Rattle.overlay_rules.specs.Plans.{Known, labelled, known, Located, node_there, number_there, located, image_of, image_entry, symbol_entry, images, Plan, apply}
use Rattle.overlay_rules.specs.Queries.{◌>>=◌, run}
use Rattle.overlay_rules.specs.Texts.{zero_ended}
use Rattle.overlay_rules.proofs.Lists.{all_from, in_left, in_right, in_map, in-map-from, in-cases}
use Rattle.overlay_rules.proofs.Looks.{holder-found}
use Rattle.overlay_rules.proofs.Asking.{ok_one, goes, gave, gave-to}
use Rattle.overlay_rules.proofs.Journals.{Distinct, look_in, look-out, boot-apply}
use Rattle.overlay_rules.proofs.Planning.{labelled-is, located-is, Planned, plan-is}
use Rattle.overlay_rules.proofs.Touching.{put-from, put_or_there, writes-is, node-absent}
use Rattle.overlay_rules.proofs.Checking.{Passed, passed, item_from}
use Rattle.overlay_rules.proofs.References.{body-listed, set-item}
use Rattle.overlay_rules.proofs.Growing.{bare_value}
use Rattle.overlay_rules.proofs.Shapes.{shape_of}

-- a value that ends with a zero byte
zero_ended_lem : (v p : Bytes) → zero_ended v ≡ Some p → v ≡ p ++ 0 ∷ []
unfolding zero_ended
zero_ended_lem v p h = go (eqb (get_or v (length v - 1) 1) 0) refl h
  where
    long : get_or v (length v - 1) 1 ≡ 0 → 0 < length v
    long e = by v e
      where
        by : (w : Bytes) → get_or w (length w - 1) 1 ≡ 0 → 0 < length w
        by [] e = absurd (omega (arith, e))
        by (x ∷ w) e = omega arith

    go : (b : Bool) → eqb (get_or v (length v - 1) 1) 0 ≡ b → cond b (Some (take (length v - 1) v)) None ≡ Some p → v ≡ p ++ 0 ∷ []
    go false e h = absurd (some-none p (sym h))
    go true e h =
        let z = eqb-true _ _ e in
        let l = long z in
        let n : length v - 1 + 1 ≡ length v = omega arith in
        sym (take_all (length v) v (omega arith)) ∙ ap (λ k. take k v) (sym n) ∙ take_more v (length v - 1) 1 (omega arith) ∙ (λ i. some_one h i ++ z i ∷ [])

node-to : (t : Tree) (f : Fragment) (p : Bytes) (l : Located) (rs : List Place) → run t (node_there f rs p) ≡ Ok l → l.to ≡ p
unfolding node_there run ◌>>=◌
node-to t f p l rs h = let n = goes t (look t (node_at p)) 33 f.at _ l h in sym (ap (λ z. z.to) (ok_one n.rest))

number-to : (t : Tree) (f : Fragment) (n : ℕ) (l : Located) → Rising t → run t (number_there f n) ≡ Ok l → (h : Bytes) × (look t (phandle_at l.to) ≡ Some h) × (be32 h 0 ≡ n)
unfolding number_there run ◌>>=◌
number-to t f n l r h =
    let g = goes t (holder t n) 33 f.at _ l h in
    let x = holder-found t n g.value r g.is in
    (x.0, ap (λ z. look t (phandle_at z)) (node-to t f g.value l (phandle_at g.value ∷ []) g.rest) ∙ x.1, x.2)

-- how a target was found
aimed-at : (t : Tree) (env : List Known) (f : Fragment) (a : Target) (l : Located) → Rising t → run t (located env f a) ≡ Ok l → Aimed t env a l.to
aimed-at t env f (by_path p) l r h = node-to t f p l [] h
aimed-at t env f (by_number n) l r h = number-to t f n l r h
aimed-at t env f (by_label b) l r h = number-to t f (known env b).number l r h

module _ (t : Tree) (es : List Entry) (d : ℕ) (p : Plan) (s : Sound t) (w : well_listed es ≡ true) (c : Passed es) (m : Planned t (overlay_of es) d p) where
  written_once : Distinct p.writes
  written_once = subst Distinct (writes-is t (overlay_of es) d p m) m.allows.distinct

  -- an image is written, or is a node that is there and stays
  image-left : (e : Entry) → In e (images m.env d m.ls (overlay_of es)) → (e.place.1 ≡ None → e.value ≡ []) → look (apply p.writes t) e.place ≡ Some e.value
  unfolding written_once
  image-left e i b = ⊎_elim
      (λ a. look_in p.writes t e s.rises written_once (subst (In e) (writes-is t (overlay_of es) d p m) a))
      (λ a.
      let v = a.1.0 in
      let h = a.1.1 in
      let free = all_from (λ x. e.place ≡ x.place → ⊥) p.writes (λ x j q. some-none v (sym h ∙ ap (look t) q ∙ node-absent t (overlay_of es) d p m x j (ap (λ z. z.1) (sym q) ∙ a.2))) in
      let nil : v ≡ [] = s.bare e.place.0 v (ap (λ z. look t (e.place.0, z)) (sym a.2) ∙ h) in
      look-out p.writes t e.place s.rises free ∙ h ∙ ap Some (nil ∙ sym (b a.2)))
      (put_or_there t (images m.env d m.ls (overlay_of es)) m.ts m.touched e i)

  item_in : (i : Item) → In i (overlay_of es).items → In (image_entry m.env d m.ls i) (images m.env d m.ls (overlay_of es))
  item_in i h = in_left _ (map (image_entry m.env d m.ls) (overlay_of es).items) _ (in_map (image_entry m.env d m.ls) i (overlay_of es).items h)

  node-value : (i : Item) → In i (overlay_of es).items → i.place.1 ≡ None → (image_entry m.env d m.ls i).value ≡ []
  node-value i h n =
      let x = item_from es i h in
      let e = x.0 in
      ap (λ z. (image_entry m.env d m.ls z).value) x.2 ∙ bare_value t es d p w c m (shape_of t s) e (body-listed es e x.1).0 e.place refl (ap (λ z. z.place.1) (sym x.2) ∙ n)

  pub merges : Merges t (overlay_of es) d (apply p.writes t)
  merges = record {
    env = m.env;
    ls = m.ls;
    labels = λ l i.
        let y = gave-to t labelled (overlay_of es).labels m.env l (gave t labelled (overlay_of es).labels m.env m.labels) i in
        let k = labelled-is t l y.0 y.2 in (
          y.0,
          y.1,
          record {
            name = k.name;
            symbol = k.symbol_is ∙ ap Some (zero_ended_lem k.symbol y.0.path k.path_is);
            node = k.node_is ∙ ap Some (s.bare y.0.path k.node k.node_is);
            phandle = (k.handle, k.handle_is, sym k.number);
          },
        );
    raised = m.raised;
    targets = λ f i.
        let fl = λ (x : Fragment). located m.env x x.target in
        let y = gave-to t fl (overlay_of es).fragments m.ls f (gave t fl (overlay_of es).fragments m.ls m.targets) i in
        let l = located-is t m.env f f.target y.0 y.2 in (
          y.0,
          y.1,
          record {
            body = l.body;
            node = l.node_is ∙ ap Some (s.bare y.0.to l.node l.node_is);
            aimed = aimed-at t m.env f f.target y.0 s.rises y.2;
          },
        );
    nodes = λ i h n.
        let e = image_entry m.env d m.ls i in
        ap (λ z. look (apply p.writes t) (image_of m.ls i.place.0, z)) (sym n) ∙ image-left e (item_in i h) (λ z. node-value i h z) ∙ ap Some (node-value i h n);
    properties = λ i n h q. ap (λ z. look (apply p.writes t) (image_of m.ls i.place.0, z)) (sym q) ∙ set-item t es d p w c m s.rises i n h q;
    symbols = λ y i. image-left (symbol_entry m.ls y) (in_right _ (map (image_entry m.env d m.ls) (overlay_of es).items) _ (in_map (symbol_entry m.ls) y (overlay_of es).symbols i)) (λ z. absurd (some-none y.label z));
    elsewhere = λ k ni ns. look-out p.writes t k s.rises (all_from _ p.writes (λ e j q.
        let x = (put-from t (images m.env d m.ls (overlay_of es)) m.ts m.touched e (subst (In e) (sym (writes-is t (overlay_of es) d p m)) j)).0 in
        ⊎_elim
        (λ a. let y = in-map-from (image_entry m.env d m.ls) e (overlay_of es).items a in ni y.0 y.1 (q ∙ ap (λ z. z.place) y.2))
        (λ a. let y = in-map-from (symbol_entry m.ls) e (overlay_of es).symbols a in ns y.0 y.1 (q ∙ ap (λ z. z.place) y.2))
        (in-cases e (map (image_entry m.env d m.ls) (overlay_of es).items) _ x)));
    boot = boot-apply p.writes t;
  }

pub merges-by-steps : MergesBySteps
merges-by-steps t es d p s w c h = merges t es d p s w (passed es c) (plan-is t (overlay_of es) d p h)
