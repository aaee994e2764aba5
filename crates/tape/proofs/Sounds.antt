-- The test of a tree tells whether it is one by the rules. Assumes nothing.
use Rattle.std.proofs.Common.{◌≡◌, ℕ, ◌+◌, ◌^◌, Bool, true, List, [], ◌∷◌, length, Some, None, Option, Ordering, Less, Equal, Greater, sym, refl, ap, ◌∙◌, subst, arith}
use Rattle.std.specs.Ordering.{match_ordering as by_order}
use Rattle.std.proofs.lemmas.List.{nil_from_length}
use Rattle.std.proofs.lemmas.Bool.{false≢true, and_parts, and_from, eqb-true, eq-eqb, leb-true, le-leb}
use Rattle.names.specs.Names.{each}
use Rattle.names.specs.Paths.{root}
use Rattle.tree.specs.Maps.{find, Rises}
use Rattle.tree.specs.Places.{Bytes, Place, node_at, order}
use Rattle.tree.specs.Trees.{Places, Tree, Sound, look, roomy, short_place, named_place, up_place}
use Rattle.tree.proofs.Maps.{some-none, some_one, head-found, find-tail}
use Rattle.tree.proofs.Places.{place-order}
use Rattle.tape.specs.Nodes.{Node, bare_on, blank, sound_place, sound_tree, tree_from, sound_nodes, shaped, spread, apart, valid, meaning_of}
use Rattle.tape.proofs.Arranged.{arranged-rises}
use Rattle.store.specs.Calls.{Good}

found-each : (p : Place × Bytes → Bool) (es : Places) (k : Place) (v : Bytes) → each p es ≡ true → find order es k ≡ Some v → p (k, v) ≡ true
unfolding find
found-each p [] k v h e = absurd (some-none v (sym e))
found-each p (d ∷ es) k v h e = go (order k d.0) refl e (λ f. found-each p es k v (and_parts (p d) (each p es) h).1 f)
  where
    go : (r : Ordering) → order k d.0 ≡ r → by_order r None (Some d.1) (find order es k) ≡ Some v → (find order es k ≡ Some v → p (k, v) ≡ true) → p (k, v) ≡ true
    go Less q f ih = absurd (some-none v (sym f))
    go Equal q f ih = (λ i. p (place-order.exact k d.0 q i, some_one (sym f) i)) ∙ (and_parts (p d) (each p es) h).0
    go Greater q f ih = ih f

each-found : (p : Place × Bytes → Bool) (es : Places) → Rises order es → ((k : Place) (v : Bytes) → find order es k ≡ Some v → p (k, v) ≡ true) → each p es ≡ true
each-found p [] s h = refl
each-found p (d ∷ es) s h =
    and_from (p d) (each p es) (h d.0 d.1 (head-found place-order d es)) (each-found p es s.1 (λ k v f. h k v (find-tail place-order d es k v s f)))

blank-is : (o : Option Bytes) → blank o ≡ true → o ≡ Some []
blank-is None h = absurd (false≢true h)
blank-is (Some v) h = ap Some (nil_from_length v (eqb-true (length v) 0 h))

is-blank : (o : Option Bytes) → o ≡ Some [] → blank o ≡ true
is-blank o h = ap blank h

bare-is : (p v : Bytes) → bare_on (node_at p) v ≡ true → v ≡ []
bare-is p v h = nil_from_length v (eqb-true (length v) 0 h)

is-bare : (k : Place) (v : Bytes) → ((p : Bytes) → k ≡ node_at p → v ≡ []) → bare_on k v ≡ true
is-bare (p, None) v h = eq-eqb (length v) 0 (ap length (h p refl))
is-bare (p, Some n) v h = refl

pub sound-from : (t : Tree) → Rises order t.places → sound_tree t ≡ true → Sound t
unfolding sound_tree look
sound-from t s h =
    let a = and_parts (blank (look t (node_at root))) _ h in
    let b = and_parts (each (sound_place t) t.places) _ a.1 in
    let c = and_parts (roomy t.places) _ b.1 in
    let at : (k : Place) (v : Bytes) → look t k ≡ Some v → sound_place t (k, v) ≡ true = λ k v e. found-each (sound_place t) t.places k v b.0 e in
    let one = λ (k : Place) (v : Bytes) (e : look t k ≡ Some v). and_parts (bare_on k v) _ (at k v e) in
    let two = λ (k : Place) (v : Bytes) (e : look t k ≡ Some v). and_parts (named_place k) _ (one k v e).1 in
    let three = λ (k : Place) (v : Bytes) (e : look t k ≡ Some v). and_parts (blank (look t (up_place k))) (short_place k v) (two k v e).1 in
    record {
      rises = s;
      root = blank-is _ a.0;
      bare = λ p v e. bare-is p v (one (node_at p) v e).0;
      named = λ k v e. (two k v e).0;
      hangs = λ k v e. blank-is _ (three k v e).0;
      short = λ k v e. (three k v e).1;
      roomy = c.0;
      boot = omega (arith, leb-true (t.boot + 1) (2 ^ 32) c.1);
    }

pub sound-test : (t : Tree) → Sound t → sound_tree t ≡ true
unfolding sound_tree look
sound-test t s =
    and_from _ _ (is-blank _ s.root)
    (and_from _ _ (each-found (sound_place t) t.places s.rises (λ k v e. and_from _ _ (is-bare k v (λ p q. s.bare p v (subst (λ x. look t x ≡ Some v) q e))) (and_from _ _ (s.named k v e) (and_from _ _ (is-blank _ (s.hangs k v e)) (s.short k v e)))))
    (and_from _ _ s.roomy (le-leb (t.boot + 1) (2 ^ 32) (omega (arith, s.boot)))))

-- ---- a valid list

pub record Parts (boot : ℕ) (ns : List Node) : Type 0 where
  pub shape : shaped ns ≡ true
  pub once : apart (spread [] ns) ≡ true
  pub sound : sound_nodes boot ns ≡ true

pub parts : (boot : ℕ) (ns : List Node) → valid boot ns ≡ true → Parts boot ns
parts boot ns h =
    let a = and_parts (shaped ns) _ h in
    let b = and_parts (apart (spread [] ns)) (sound_nodes boot ns) a.1 in
    record { shape = a.0; once = b.0; sound = b.1 }

pub whole : (boot : ℕ) (ns : List Node) → Parts boot ns → valid boot ns ≡ true
whole boot ns p = and_from _ _ p.shape (and_from _ _ p.once p.sound)

pub sound_open : (boot : ℕ) (n : Node) (ns : List Node) → valid boot (n ∷ ns) ≡ true → Sound (tree_from boot (n ∷ ns))
sound_open boot n ns h = sound-from (tree_from boot (n ∷ ns)) (arranged-rises (spread [] (n ∷ ns))) (parts boot (n ∷ ns) h).sound

-- so what a valid list means is a tree by the rules
pub good-from : (boot : ℕ) (ns : List Node) → valid boot ns ≡ true → Good (meaning_of boot ns)
good-from boot [] h = tt
good-from boot (n ∷ ns) h = sound_open boot n ns h
