-- What a splice makes of the tree. Assumes nothing.
use Rattle.std.proofs.Common.{◌≡◌, ℕ, ◌+◌, ◌<◌, true, List, [], ◌∷◌, ◌++◌, length, take, drop, set, Some, None, Option, sym, refl, ap, ◌∙◌, subst, append_assoc, add-one, arith}
use Rattle.std.proofs.lemmas.List.{take-append-drop, drop_more, set_split, length-take-le}
use Rattle.names.specs.Paths.{root, path_text, stem, leaf, parent}
use Rattle.names.proofs.PathLaws.{path_splits, path_starts}
use Rattle.tree.specs.Maps.{upd}
use Rattle.tree.specs.Places.{Bytes, Place, node_at, property_at, order}
use Rattle.tree.specs.Trees.{Places, Sound, look, change}
use Rattle.tree.proofs.MapLaws.{upd-twice}
use Rattle.tree.proofs.Places.{place-order}
use Rattle.store.specs.Calls.{holds, changed}
use Rattle.tape.specs.Nodes.{Node, Property, height, step, ended, path_of, listed, spread, arranged, tree_from, meaning_of, fits, shaped, apart, valid, sound_nodes}
use Rattle.tape.specs.Tapes.{nth, properties_at, property_of, stem_at, with_node, less_node, with_properties, less_property, aside}
use Rattle.tape.proofs.Arranged.{seek, arranged-rises, arranged-insert, arranged-remove, arranged_replace, seek-parts, apart_more, apart-less, apart_other}
use Rattle.tape.proofs.Around.{around, fits-back, fits-nil, root-parts, shaped-front}
use Rattle.tape.proofs.Descent.{at_index, stem_index}
use Rattle.tape.proofs.Finds.{spread_join, path-full}
use Rattle.tape.proofs.Looks.{own-path, open_is}
use Rattle.tape.proofs.Sounds.{parts, whole, sound-test}
use Rattle.tape.proofs.Splices.{fresh, insert-spread, insert-fits, shaped_join, remove-spread, remove-fits, dressed, shaped-dressed, spread-dressed, listed_join}

-- the list ns becomes ms, and its tree has w at k then
pub record Becomes (boot : ℕ) (ns ms : List Node) (k : Place) (w : Option Bytes) : Type 0 where
  pub shape : shaped ms ≡ true
  pub once : apart (spread [] ms) ≡ true
  pub tree : tree_from boot ms ≡ change (tree_from boot ns) k w

sound-nodes : (boot : ℕ) (ns : List Node) → Sound (tree_from boot ns) → sound_nodes boot ns ≡ true
sound-nodes boot [] s = refl
sound-nodes boot (n ∷ ns) s = sound-test (tree_from boot (n ∷ ns)) s

pub renewed : (boot : ℕ) (ns ms : List Node) (k : Place) (w : Option Bytes) → Becomes boot ns ms k w → Sound (change (tree_from boot ns) k w) → valid boot ms ≡ true
renewed boot ns ms k w b s = whole boot ms (record { shape = b.shape; once = b.once; sound = sound-nodes boot ms (subst Sound (sym b.tree) s) })

pub after_is : (boot : ℕ) (ns ms : List Node) (k : Place) (w : Option Bytes) → 0 < length ns → 0 < length ms → Becomes boot ns ms k w → meaning_of boot ms ≡ changed (meaning_of boot ns) k w
after_is boot ns ms k w h l b = open_is boot ms l ∙ ap holds b.tree ∙ ap (λ m. changed m k w) (sym (open_is boot ns h))

tree_is : (boot : ℕ) (ns ms : List Node) (k : Place) (w : Option Bytes) → arranged (spread [] ms) ≡ upd order (arranged (spread [] ns)) k w → tree_from boot ms ≡ change (tree_from boot ns) k w
unfolding change
tree_is boot ns ms k w e = λ i. record { boot = boot; places = e i }

-- the three ways in which places change
module _ (boot : ℕ) (ns ms : List Node) (xs ys : Places) (k : Place) where
  put_in : (v : Bytes) → shaped ms ≡ true → apart (spread [] ns) ≡ true → spread [] ns ≡ xs ++ ys → spread [] ms ≡ xs ++ ((k, v) ∷ ys) → look (tree_from boot ns) k ≡ None → Becomes boot ns ms k (Some v)
  unfolding look
  put_in v sh a e f gone =
      let z : seek (xs ++ ys) k ≡ None = ap (λ t. seek t k) (sym e) ∙ gone in
      record {
        shape = sh;
        once = ap apart f ∙ apart_more xs ys k v (ap apart (sym e) ∙ a) z;
        tree = tree_is boot ns ms k (Some v) (ap arranged f ∙ arranged-insert xs ys k v (seek-parts xs ys k z).0 ∙ ap (λ t. upd order (arranged t) k (Some v)) (sym e));
      }

  take_out : (v : Bytes) → shaped ms ≡ true → apart (spread [] ns) ≡ true → spread [] ns ≡ xs ++ ((k, v) ∷ ys) → spread [] ms ≡ xs ++ ys → Becomes boot ns ms k None
  take_out v sh a e f =
      let z : apart (xs ++ ((k, v) ∷ ys)) ≡ true = ap apart (sym e) ∙ a in
      record {
        shape = sh;
        once = ap apart f ∙ apart-less xs ys k v z;
        tree = tree_is boot ns ms k None (ap arranged f ∙ arranged-remove xs ys k v z ∙ ap (λ t. upd order (arranged t) k None) (sym e));
      }

  put_over : (v w : Bytes) → shaped ms ≡ true → apart (spread [] ns) ≡ true → spread [] ns ≡ xs ++ ((k, v) ∷ ys) → spread [] ms ≡ xs ++ ((k, w) ∷ ys) → Becomes boot ns ms k (Some w)
  put_over v w sh a e f =
      let z : apart (xs ++ ((k, v) ∷ ys)) ≡ true = ap apart (sym e) ∙ a in
      record {
        shape = sh;
        once = ap apart f ∙ apart_other xs ys k v z w;
        tree = tree_is boot ns ms k (Some w) (ap arranged f ∙ arranged_replace xs ys k v z w ∙ ap (λ t. upd order (arranged t) k (Some w)) (sym e));
      }

-- out and in again
pub twice : (boot : ℕ) (ns ms ls : List Node) (k : Place) (w : Option Bytes) → Becomes boot ns ms k None → Becomes boot ms ls k w → Becomes boot ns ls k w
unfolding change
twice boot ns ms ls k w a b = record {
  shape = b.shape;
  once = b.once;
  tree = b.tree ∙ ap (λ t. change t k w) a.tree ∙ (λ i. record { boot = boot; places = upd-twice place-order (arranged (spread [] ns)) k None w (arranged-rises (spread [] ns)) i });
}

-- nodes behind the first ones fit there
behind-fits : (xs ys : List Node) → 0 < length xs → shaped (xs ++ ys) ≡ true → fits (height (ended [] xs)) ys ≡ true
unfolding ended
behind-fits [] ys l s = absurd (omega (arith, l))
behind-fits (x ∷ xs) ys l s =
    let r = root-parts x (xs ++ ys) s in
    subst (λ t. fits (height (ended t xs)) ys ≡ true) (sym (r.3 [])) (fits-back [] xs ys (fits-nil (xs ++ ys) r.2)).1

-- ---- at a node's index

module _ (boot : ℕ) (ns : List Node) (v : valid boot ns ≡ true) (i : ℕ) (h : i < length ns) where
  -- the nodes up to the one at i, and those behind it
  front-shaped : shaped (take (i + 1) ns) ≡ true
  front-shaped = shaped-front (take (i + 1) ns) (drop (i + 1) ns) (ap shaped (take-append-drop (i + 1) ns) ∙ (parts boot ns v).shape)

  here-shaped : shaped (take i ns ++ (nth ns i ∷ drop (i + 1) ns)) ≡ true
  here-shaped = ap shaped (at_index ns i h) ∙ (parts boot ns v).shape

  pub depth_is : height (stem_at ns i) ≡ (nth ns i).depth
  depth_is = ap height (stem_index ns i h) ∙ (around (take i ns) (drop (i + 1) ns) (nth ns i) here-shaped).0

  rest-fits : fits (height (stem_at ns i)) (drop (i + 1) ns) ≡ true
  rest-fits = subst (λ s. fits (height s) (drop (i + 1) ns) ≡ true) (sym (stem_index ns i h)) (around (take i ns) (drop (i + 1) ns) (nth ns i) here-shaped).1

  joined-shaped : (xs ys : List Node) → 0 < length xs → shaped xs ≡ true → fits (height (ended [] xs)) ys ≡ true → shaped (xs ++ ys) ≡ true
  joined-shaped [] ys l s f = absurd (omega (arith, l))
  joined-shaped (x ∷ xs) ys l s f = shaped_join x xs ys s f

  module _ (p : Bytes) (good : path_text p ≡ true) (other : p ≡ root → ⊥) (is : stem_at ns i ≡ stem (parent p)) where
    path_is : stem_at ns i ++ (47 ∷ leaf p) ≡ p
    path_is = ap (λ s. s ++ (47 ∷ leaf p)) is ∙ (path_splits p good other).0

    whole-path : path_of (stem_at ns i ++ (47 ∷ leaf p)) ≡ p
    whole-path = let s = path_starts p good in ap path_of (path_is ∙ s.1) ∙ path-full 47 s.0 ∙ sym s.1

    pub node-added : look (tree_from boot ns) (node_at p) ≡ None → Becomes boot ns (with_node ns (i + 1) (record { depth = (nth ns i).depth + 1; name = leaf p; properties = [] })) (node_at p) (Some [])
    node-added gone =
        let nm = (path_splits p good other).2 in
        let as_fresh : record { depth = (nth ns i).depth + 1; name = leaf p; properties = [] } ≡ fresh (stem_at ns i) (leaf p) = λ j. record { depth = sym depth_is j + 1; name = leaf p; properties = [] } in
        let sh = joined-shaped (take (i + 1) ns) (fresh (stem_at ns i) (leaf p) ∷ drop (i + 1) ns) (omega (arith, length-take-le (i + 1) ns (omega arith))) front-shaped (insert-fits (take (i + 1) ns) (drop (i + 1) ns) (leaf p) nm rest-fits) in
        let sp = insert-spread (take (i + 1) ns) (drop (i + 1) ns) (leaf p) nm rest-fits in
        let was : spread [] ns ≡ spread [] (take (i + 1) ns) ++ spread (stem_at ns i) (drop (i + 1) ns) = ap (spread []) (sym (take-append-drop (i + 1) ns)) ∙ spread_join [] (take (i + 1) ns) (drop (i + 1) ns) in
        put_in boot ns (with_node ns (i + 1) (record { depth = (nth ns i).depth + 1; name = leaf p; properties = [] })) (spread [] (take (i + 1) ns)) (spread (stem_at ns i) (drop (i + 1) ns)) (node_at p) [] (ap (λ n. shaped (take (i + 1) ns ++ (n ∷ drop (i + 1) ns))) as_fresh ∙ sh) (parts boot ns v).once was
        (ap (λ n. spread [] (take (i + 1) ns ++ (n ∷ drop (i + 1) ns))) as_fresh ∙ sp ∙ ap (λ q. spread [] (take (i + 1) ns) ++ ((node_at q, []) ∷ spread (stem_at ns i) (drop (i + 1) ns))) whole-path) gone

  module _ (p : Bytes) (good : path_text p ≡ true) (is : stem_at ns i ≡ stem p) where
    here : path_of (step (ended [] (take i ns)) (nth ns i)) ≡ p
    here = own-path boot ns v p good i h is

    dressed-is : (qs : List Property) → with_properties ns i qs ≡ take i ns ++ (dressed (nth ns i) qs ∷ drop (i + 1) ns)
    dressed-is qs = set_split ns i (dressed (nth ns i) qs) h ∙ ap (λ j. take i ns ++ (dressed (nth ns i) qs ∷ drop j ns)) (sym (add-one i))

    dressed-shaped : (qs : List Property) → shaped (with_properties ns i qs) ≡ true
    dressed-shaped qs = ap shaped (dressed-is qs) ∙ shaped-dressed (take i ns) (drop (i + 1) ns) (nth ns i) qs ∙ here-shaped

    abbrev behind : Places
    behind = spread (step (ended [] (take i ns)) (nth ns i)) (drop (i + 1) ns)

    dressed-spread : (qs : List Property) → spread [] (with_properties ns i qs) ≡ spread [] (take i ns) ++ ((node_at p, []) ∷ (listed p qs ++ behind))
    dressed-spread qs =
        ap (spread []) (dressed-is qs) ∙ spread-dressed (take i ns) (drop (i + 1) ns) (nth ns i) qs
        ∙ (λ j. spread [] (take i ns) ++ ((node_at (here j), []) ∷ (listed (here j) qs ++ behind)))

    plain-spread : spread [] ns ≡ spread [] (take i ns) ++ ((node_at p, []) ∷ (listed p (properties_at ns i) ++ behind))
    unfolding spread
    plain-spread =
        ap (spread []) (sym (at_index ns i h)) ∙ spread_join [] (take i ns) (nth ns i ∷ drop (i + 1) ns)
        ∙ (λ j. spread [] (take i ns) ++ ((node_at (here j), []) ∷ (listed (here j) (properties_at ns i) ++ behind)))

    -- what stands up to a property, and behind it
    abbrev ahead : List Property → Places
    ahead qs = spread [] (take i ns) ++ ((node_at p, []) ∷ listed p qs)

    split-spread : (qs : List Property) (x : Property) (rs : List Property) → spread [] (take i ns) ++ ((node_at p, []) ∷ (listed p (qs ++ (x ∷ rs)) ++ behind)) ≡ ahead qs ++ ((property_at p x.0, x.1) ∷ (listed p rs ++ behind))
    unfolding listed
    split-spread qs x rs =
        ap (λ t. spread [] (take i ns) ++ ((node_at p, []) ∷ (t ++ behind))) (listed_join p qs (x ∷ rs))
        ∙ ap (λ t. spread [] (take i ns) ++ ((node_at p, []) ∷ t)) (append_assoc (listed p qs) (listed p (x ∷ rs)) behind)
        ∙ sym (append_assoc (spread [] (take i ns)) ((node_at p, []) ∷ listed p qs) (listed p (x ∷ rs) ++ behind))

    less-spread : (qs rs : List Property) → spread [] (take i ns) ++ ((node_at p, []) ∷ (listed p (qs ++ rs) ++ behind)) ≡ ahead qs ++ (listed p rs ++ behind)
    less-spread qs rs =
        ap (λ t. spread [] (take i ns) ++ ((node_at p, []) ∷ (t ++ behind))) (listed_join p qs rs)
        ∙ ap (λ t. spread [] (take i ns) ++ ((node_at p, []) ∷ t)) (append_assoc (listed p qs) (listed p rs) behind)
        ∙ sym (append_assoc (spread [] (take i ns)) ((node_at p, []) ∷ listed p qs) (listed p rs ++ behind))

    pub property-added : (c w : Bytes) → look (tree_from boot ns) (property_at p c) ≡ None → Becomes boot ns (with_properties ns i ((c, w) ∷ properties_at ns i)) (property_at p c) (Some w)
    property-added c w gone =
        put_in boot ns (with_properties ns i ((c, w) ∷ properties_at ns i)) (ahead []) (listed p (properties_at ns i) ++ behind) (property_at p c) w (dressed-shaped _) (parts boot ns v).once (plain-spread ∙ less-spread [] (properties_at ns i)) (dressed-spread _ ∙ split-spread [] (c, w) (properties_at ns i)) gone

    module _ (k : ℕ) (l : k < length (properties_at ns i)) (c : Bytes) (own : (property_of ns i k).0 ≡ c) where
      cut_up : properties_at ns i ≡ take k (properties_at ns i) ++ (property_of ns i k ∷ drop (k + 1) (properties_at ns i))
      cut_up = sym (take-append-drop k (properties_at ns i)) ∙ ap (λ t. take k (properties_at ns i) ++ t) (drop_more (properties_at ns i) k ([], []) l)

      cut-spread : spread [] ns ≡ ahead (take k (properties_at ns i)) ++ ((property_at p c, (property_of ns i k).1) ∷ (listed p (drop (k + 1) (properties_at ns i)) ++ behind))
      cut-spread =
          plain-spread ∙ ap (λ t. spread [] (take i ns) ++ ((node_at p, []) ∷ (listed p t ++ behind))) cut_up
          ∙ split-spread (take k (properties_at ns i)) (property_of ns i k) (drop (k + 1) (properties_at ns i))
          ∙ ap (λ n. ahead (take k (properties_at ns i)) ++ ((property_at p n, (property_of ns i k).1) ∷ (listed p (drop (k + 1) (properties_at ns i)) ++ behind))) own

      pub property_removed : Becomes boot ns (with_properties ns i (less_property (properties_at ns i) k)) (property_at p c) None
      property_removed =
          take_out boot ns (with_properties ns i (less_property (properties_at ns i) k)) (ahead (take k (properties_at ns i))) (listed p (drop (k + 1) (properties_at ns i)) ++ behind) (property_at p c) (property_of ns i k).1 (dressed-shaped _) (parts boot ns v).once cut-spread (dressed-spread _ ∙ less-spread (take k (properties_at ns i)) (drop (k + 1) (properties_at ns i)))

      pub property_replaced : (w : Bytes) → Becomes boot ns (with_properties ns i (set (properties_at ns i) k (c, w))) (property_at p c) (Some w)
      property_replaced w =
          let e : set (properties_at ns i) k (c, w) ≡ take k (properties_at ns i) ++ ((c, w) ∷ drop (k + 1) (properties_at ns i)) = set_split (properties_at ns i) k (c, w) l ∙ ap (λ j. take k (properties_at ns i) ++ ((c, w) ∷ drop j (properties_at ns i))) (sym (add-one k)) in
          put_over boot ns (with_properties ns i (set (properties_at ns i) k (c, w))) (ahead (take k (properties_at ns i))) (listed p (drop (k + 1) (properties_at ns i)) ++ behind) (property_at p c) (property_of ns i k).1 w (dressed-shaped _) (parts boot ns v).once cut-spread (dressed-spread _ ∙ ap (λ t. spread [] (take i ns) ++ ((node_at p, []) ∷ (listed p t ++ behind))) e ∙ split-spread (take k (properties_at ns i)) (c, w) (drop (k + 1) (properties_at ns i)))

    pub node_removed : 0 < i → properties_at ns i ≡ [] → aside (nth ns i).depth (drop (i + 1) ns) ≡ true → Becomes boot ns (less_node ns i) (node_at p) None
    node_removed low bare off =
        let s = ended [] (take i ns) in
        let fit : fits (height s) (nth ns i ∷ drop (i + 1) ns) ≡ true = behind-fits (take i ns) (nth ns i ∷ drop (i + 1) ns) (omega (arith, length-take-le i ns (omega (arith, h)))) here-shaped in
        let sh = joined-shaped (take i ns) (drop (i + 1) ns) (omega (arith, length-take-le i ns (omega (arith, h)))) (shaped-front (take i ns) (nth ns i ∷ drop (i + 1) ns) here-shaped) (remove-fits s (nth ns i) (drop (i + 1) ns) fit bare off) in
        let was : spread [] ns ≡ spread [] (take i ns) ++ ((node_at p, []) ∷ spread s (drop (i + 1) ns)) =
        ap (spread []) (sym (at_index ns i h)) ∙ spread_join [] (take i ns) (nth ns i ∷ drop (i + 1) ns) ∙ ap (λ t. spread [] (take i ns) ++ t) (remove-spread s (nth ns i) (drop (i + 1) ns) fit bare off)
        ∙ ap (λ q. spread [] (take i ns) ++ ((node_at q, []) ∷ spread s (drop (i + 1) ns))) here in
        take_out boot ns (less_node ns i) (spread [] (take i ns)) (spread s (drop (i + 1) ns)) (node_at p) [] sh (parts boot ns v).once was (spread_join [] (take i ns) (drop (i + 1) ns))
