-- What is there, by where it was found. Assumes nothing.
use Rattle.std.proofs.Common.{◌≡◌, ℕ, suc, ◌+◌, ◌<◌, Bool, true, false, cond, ◌&&◌, List, [], ◌∷◌, ◌++◌, length, get_or, take, drop, is_some, Some, None, Ok, Option, sym, refl, ap, ◌∙◌, subst, ⊎_elim, arith}
use Rattle.std.specs.Str.{bytes_eq}
use Rattle.std.proofs.lemmas.Slice.Eq.{bytes_eq-Decides}
use Rattle.std.proofs.lemmas.Bool.{true≢false, cond-true, and_from}
use Rattle.names.specs.Names.{property_name}
use Rattle.names.specs.Paths.{path_text, stem}
use Rattle.names.proofs.PathLaws.{by-root, stem-root, path_starts}
use Rattle.tree.specs.Places.{Bytes, node_at, property_at}
use Rattle.tree.specs.Trees.{look}
use Rattle.tree.proofs.Maps.{some-none, some_one}
use Rattle.store.specs.Calls.{closed, holds, there, has_node, value_at}
use Rattle.tape.specs.declared.Mark.{Mark}
use Rattle.tape.specs.declared.Spot.{Spot}
use Rattle.tape.specs.Nodes.{Node, Property, step, ended, path_of, listed, spread, tree_from, meaning_of, shaped, apart, valid, Missing, further, property_in}
use Rattle.tape.specs.Tapes.{nth, properties_at, stem_at, Entered, Here, Located, On, Owned, placed}
use Rattle.tape.proofs.Arranged.{seek, seek-none, seek-here, seek-past}
use Rattle.tape.proofs.Around.{missing_all, node-here, property-look}
use Rattle.tape.proofs.Descent.{at_index, stem_index, one_byte}
use Rattle.tape.proofs.Finds.{Proper, path-full}
use Rattle.tape.proofs.Sounds.{parts}

pub path-of-stem : (p : Bytes) → path_text p ≡ true → path_of (stem p) ≡ p
path-of-stem p h =
    ⊎_elim
    (λ e. ap (λ q. path_of (stem q)) e ∙ ap path_of stem-root ∙ sym e)
    (λ n. ap path_of n.1 ∙ go p (path_starts p h))
    (by-root p)
  where
    go : (q : Bytes) → (rest : Bytes) × (q ≡ 47 ∷ rest) → path_of q ≡ q
    go q s = ap path_of s.1 ∙ path-full 47 s.0 ∙ sym s.1

pub stem_proper : (p : Bytes) → path_text p ≡ true → Proper (stem p)
unfolding Proper
stem_proper p h e =
    ⊎_elim
    (λ r. omega (arith, sym (ap length (ap stem r ∙ stem-root)) ∙ e))
    (λ n. n.0 (one_byte p h (ap length (sym n.1) ∙ e)))
    (by-root p)

-- ---- one of a node's properties

further-none : (o : Option ℕ) → further o ≡ None → o ≡ None
further-none None e = refl
further-none (Some k) e = absurd (some-none (suc k) e)

further-some : (o : Option ℕ) (k : ℕ) → further o ≡ Some k → (j : ℕ) × (o ≡ Some j) × (k ≡ suc j)
further-some None k e = absurd (some-none k (sym e))
further-some (Some j) k e = (j, refl, sym (some_one e))

other_name : (p a c : Bytes) → bytes_eq a c ≡ false → property_at p c ≡ property_at p a → ⊥
other_name p a c s e =
    let z : c ≡ a = some_one (ap (λ k. k.1) e) in
    true≢false (sym ((bytes_eq-Decides a c).1 (sym z)) ∙ s)

pub property-none : (p c : Bytes) (xs : List Property) → property_in c xs ≡ None → seek (listed p xs) (property_at p c) ≡ None
unfolding property_in listed
property-none p c [] e = seek-none (property_at p c)
property-none p c (x ∷ xs) e = go (bytes_eq x.0 c) refl e (λ f. property-none p c xs f)
  where
    go : (b : Bool) → bytes_eq x.0 c ≡ b → cond b (Some 0) (further (property_in c xs)) ≡ None → (property_in c xs ≡ None → seek (listed p xs) (property_at p c) ≡ None) → seek ((property_at p x.0, x.1) ∷ listed p xs) (property_at p c) ≡ None
    go true s f ih = absurd (some-none 0 f)
    go false s f ih = seek-past (property_at p x.0, x.1) (listed p xs) (property_at p c) (other_name p x.0 c s) ∙ ih (further-none _ f)

pub property-some : (p c : Bytes) (xs : List Property) (k : ℕ) → property_in c xs ≡ Some k → (k < length xs) × ((get_or xs k ([], [])).0 ≡ c) × (seek (listed p xs) (property_at p c) ≡ Some (get_or xs k ([], [])).1)
unfolding property_in listed
property-some p c [] k e = absurd (some-none k (sym e))
property-some p c (x ∷ xs) k e = go (bytes_eq x.0 c) refl e (λ j f. property-some p c xs j f)
  where
    go : (b : Bool) → bytes_eq x.0 c ≡ b → cond b (Some 0) (further (property_in c xs)) ≡ Some k → ((j : ℕ) → property_in c xs ≡ Some j → (j < length xs) × ((get_or xs j ([], [])).0 ≡ c) × (seek (listed p xs) (property_at p c) ≡ Some (get_or xs j ([], [])).1)) → (k < suc (length xs)) × ((get_or (x ∷ xs) k ([], [])).0 ≡ c) × (seek ((property_at p x.0, x.1) ∷ listed p xs) (property_at p c) ≡ Some (get_or (x ∷ xs) k ([], [])).1)
    go true s f ih =
        let z : 0 ≡ k = some_one f in
        let same = (bytes_eq-Decides x.0 c).0 s in
        (omega (arith, z), ap (λ j. (get_or (x ∷ xs) j ([], [])).0) (sym z) ∙ same, ap (λ n. seek ((property_at p x.0, x.1) ∷ listed p xs) (property_at p n)) (sym same) ∙ seek-here (property_at p x.0) x.1 (listed p xs) ∙ ap (λ j. Some (get_or (x ∷ xs) j ([], [])).1) z)
    go false s f ih =
        let j = further-some _ k f in
        let r = ih j.0 j.1 in
        (omega (arith, r.0, j.2), ap (λ i. (get_or (x ∷ xs) i ([], [])).0) j.2 ∙ r.1, seek-past (property_at p x.0, x.1) (listed p xs) (property_at p c) (other_name p x.0 c s) ∙ r.2 ∙ ap (λ i. Some (get_or (x ∷ xs) i ([], [])).1) (sym j.2))

-- ---- the tree that the nodes hold

pub closed_is : (boot : ℕ) (ns : List Node) → length ns ≡ 0 → meaning_of boot ns ≡ closed
closed_is boot [] h = refl
closed_is boot (n ∷ ns) h = absurd (omega (arith, h))

pub open_is : (boot : ℕ) (ns : List Node) → 0 < length ns → meaning_of boot ns ≡ holds (tree_from boot ns)
open_is boot [] h = absurd (omega (arith, h))
open_is boot (n ∷ ns) h = refl

module _ (boot : ℕ) (ns : List Node) (v : valid boot ns ≡ true) (p : Bytes) (good : path_text p ≡ true) where
  pub look_missing : Missing (stem p) [] ns → (o : Option Bytes) → look (tree_from boot ns) (p, o) ≡ None
  unfolding look
  look_missing m o =
      ap (λ q. seek (spread [] ns) (q, o)) (sym (path-of-stem p good)) ∙ missing_all (stem p) ns o (parts boot ns v).shape (stem_proper p good) m

  module _ (i : ℕ) (h : i < length ns) (is : stem_at ns i ≡ stem p) where
    rs : shaped (take i ns ++ (nth ns i ∷ drop (i + 1) ns)) ≡ true
    rs = ap shaped (at_index ns i h) ∙ (parts boot ns v).shape

    ra : apart (spread [] (take i ns ++ (nth ns i ∷ drop (i + 1) ns))) ≡ true
    ra = ap (λ t. apart (spread [] t)) (at_index ns i h) ∙ (parts boot ns v).once

    pub own-path : path_of (step (ended [] (take i ns)) (nth ns i)) ≡ p
    own-path = ap path_of (sym (stem_index ns i h) ∙ is) ∙ path-of-stem p good

    pub look-node : look (tree_from boot ns) (node_at p) ≡ Some []
    unfolding look
    look-node =
        let r = node-here (take i ns) (drop (i + 1) ns) (nth ns i) rs ra in
        (λ k. seek (spread [] (sym (at_index ns i h) k)) (node_at (sym own-path k))) ∙ r

    pub look-listed : (c : Bytes) → look (tree_from boot ns) (property_at p c) ≡ seek (listed p (properties_at ns i)) (property_at p c)
    unfolding look
    look-listed c =
        let r = property-look (take i ns) (drop (i + 1) ns) (nth ns i) rs ra c in
        (λ k. seek (spread [] (sym (at_index ns i h) k)) (property_at (sym own-path k) c)) ∙ r ∙ (λ k. seek (listed (own-path k) (properties_at ns i)) (property_at (own-path k) c))

pub some-of : {A : Type 0} (o : Option A) → is_some o ≡ true → (x : A) × (o ≡ Some x)
some-of None e = absurd (true≢false (sym e))
some-of (Some x) e = (x, refl)

pub none-of : {A : Type 0} (o : Option A) → is_some o ≡ false → o ≡ None
none-of None e = refl
none-of (Some x) e = absurd (true≢false e)

-- ---- where a call found its node

module _ {ns : List Node} {spot : ℕ → Spot} {p : Bytes} {b : Bool} {o : Option Spot} (e : Entered ns spot p b o) where
  pub arrived_at : (s : Spot) → o ≡ Some s → Here ns spot s × (stem_at ns s.node ≡ stem p)
  arrived_at s q = subst (Located ns spot (stem p)) q e.at

  pub strayed : o ≡ None → Missing (stem p) [] ns
  strayed q = subst (Located ns spot (stem p)) q e.at

-- ---- answers

pub has-at : (boot : ℕ) (ns : List Node) (p : Bytes) → 0 < length ns → path_text p ≡ true → has_node (meaning_of boot ns) p ≡ Ok (there (tree_from boot ns) (node_at p))
has-at boot ns p h g = ap (λ m. has_node m p) (open_is boot ns h) ∙ cond-true (path_text p) _ _ g

pub value-at : (boot : ℕ) (ns : List Node) (p n : Bytes) → 0 < length ns → path_text p ≡ true → property_name n ≡ true → value_at (meaning_of boot ns) p n ≡ Ok (look (tree_from boot ns) (property_at p n))
value-at boot ns p n h g k = ap (λ m. value_at m p n) (open_is boot ns h) ∙ cond-true (path_text p && property_name n) _ _ (and_from _ _ g k)

pub has-is : (boot : ℕ) (ns : List Node) (v : valid boot ns ≡ true) (spot : ℕ → Spot) (p : Bytes) (b : Bool) (o : Option Spot) → Entered ns spot p b o → is_some o ≡ there (tree_from boot ns) (node_at p)
has-is boot ns v spot p b None e = ap is_some (sym (look_missing boot ns v p e.path e.at None))
has-is boot ns v spot p b (Some s) e = ap is_some (sym (look-node boot ns v p e.path s.node e.at.0.inside e.at.1))

-- a mark where a property was found
module _ (ns : List Node) (mark : ℕ → ℕ → Mark) (numbered : (i k : ℕ) → ((mark i k).node ≡ i) × ((mark i k).number ≡ k)) (i : ℕ) (h : i < length ns) (c : Bytes) (r : Option Mark) (said : r ≡ placed (mark i) 0 (property_in c (properties_at ns i))) where
  found : (o : Option ℕ) → (m : Mark) → Some m ≡ placed (mark i) 0 o → (k : ℕ) × (o ≡ Some k) × (m ≡ mark i k)
  found None m e = absurd (some-none m e)
  found (Some k) m e = let z : 0 + k ≡ k = omega arith in (k, refl, some_one e ∙ ap (mark i) z)

  pub found-on : (m : Mark) → r ≡ Some m → On ns mark m × (m.node ≡ i) × (property_in c (properties_at ns i) ≡ Some m.number)
  found-on m e =
      let f = found _ m (sym e ∙ said) in
      let a = ap (λ x. x.node) f.2 ∙ (numbered i f.0).0 in
      let b = ap (λ x. x.number) f.2 ∙ (numbered i f.0).1 in
      let l = (property-some [] c (properties_at ns i) f.0 f.1).0 in
      (record { inside = subst (λ x. x < length ns) (sym a) h; within = (subst (λ x. m.number < length (properties_at ns x)) (sym a) (omega (arith, b, l))); is = f.2 ∙ (λ z. mark (sym a z) (sym b z)) }, a, f.1 ∙ ap Some (sym b))

  lost : (o : Option ℕ) → placed (mark i) 0 o ≡ None → o ≡ None
  lost None e = refl
  lost (Some k) e = absurd (some-none (mark i (0 + k)) e)

  pub found_none : r ≡ None → property_in c (properties_at ns i) ≡ None
  found_none e = lost _ (sym said ∙ e)

  pub owned : Owned ns mark i c r
  owned = go r refl
    where
      go : (q : Option Mark) → r ≡ q → Owned ns mark i c q
      go None e = found_none e
      go (Some m) e = found-on m e
