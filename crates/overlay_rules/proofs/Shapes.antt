-- Trees by the rules but for their counts, and writes that keep them so. Assumes nothing.
use Rattle.std.proofs.Common.{◌≡◌, ℕ, ◌+◌, ◌^◌, ◌<◌, ◌≤◌, true, ◌⊎◌, List, [], ◌∷◌, ◌++◌, Some, None, sym, refl, ap, ◌∙◌, subst, inl, inr, ⊎_elim, arith}
use Rattle.std.proofs.lemmas.Bool.{and_from, le-leb}
use Rattle.names.specs.Paths.{root}
use Rattle.tree.specs.Entries.{Entry, listed}
use Rattle.tree.specs.Maps.{total}
use Rattle.tree.specs.Places.{Bytes, Place, node_at}
use Rattle.tree.specs.Trees.{Tree, look, change, nodes, properties, weight, short_place, named_place, up_place, Sound}
use Rattle.tree.proofs.Maps.{some_one, total-upd}
use Rattle.tree.proofs.Places.{place-order}
use Rattle.overlay_rules.specs.Plans.{apply}
use Rattle.overlay_rules.specs.Laws.{Rising}
use Rattle.overlay_rules.proofs.Looks.{look-same, look-other, rises-change, boot-change, decide-place}

pub record Shape (t : Tree) : Type 0 where
  pub rises : Rising t
  pub root : look t (node_at root) ≡ Some []
  pub bare : (p v : Bytes) → look t (node_at p) ≡ Some v → v ≡ []
  pub named : (k : Place) (v : Bytes) → look t k ≡ Some v → named_place k ≡ true
  pub hangs : (k : Place) (v : Bytes) → look t k ≡ Some v → look t (up_place k) ≡ Some []
  pub short : (k : Place) (v : Bytes) → look t k ≡ Some v → short_place k v ≡ true
  pub boot : t.boot < 2 ^ 32

pub shape_of : (t : Tree) → Sound t → Shape t
shape_of t s = record { rises = s.rises; root = s.root; bare = s.bare; named = s.named; hangs = s.hangs; short = s.short; boot = s.boot }

-- an entry that may be put into a tree
pub record FitsIn (t : Tree) (e : Entry) : Type 0 where
  pub named : named_place e.place ≡ true
  pub short : short_place e.place e.value ≡ true
  pub bare : e.place.1 ≡ None → e.value ≡ []
  pub up : look t (up_place e.place) ≡ Some []

up-node : (k : Place) → (up_place k).1 ≡ None
up-node (p, None) = refl
up-node (p, Some n) = refl

-- a node that is there stays
pub node-put : (t : Tree) (e : Entry) (j : Place) → Rising t → (e.place.1 ≡ None → e.value ≡ []) → j.1 ≡ None → look t j ≡ Some [] → look (change t e.place (Some e.value)) j ≡ Some []
node-put t e j r b n h = ⊎_elim
    (λ p. ap (look (change t e.place (Some e.value))) p ∙ look-same t e.place (Some e.value) r ∙ ap Some (b (ap (λ z. z.1) (sym p) ∙ n)))
    (λ o. look-other t e.place j (Some e.value) r o ∙ h)
    (decide-place j e.place)

pub shape-put : (t : Tree) (e : Entry) → Shape t → FitsIn t e → Shape (change t e.place (Some e.value))
shape-put t e s f =
    let t2 = change t e.place (Some e.value) in
    let same = look-same t e.place (Some e.value) s.rises in
    let cases : (k : Place) (v : Bytes) → look t2 k ≡ Some v → ((k ≡ e.place) × (v ≡ e.value)) ⊎ (look t k ≡ Some v) = λ k v h. ⊎_elim
    (λ p. inl (p, some_one (sym h ∙ ap (look t2) p ∙ same)))
    (λ n. inr (sym (look-other t e.place k (Some e.value) s.rises n) ∙ h))
    (decide-place k e.place) in
    record {
      rises = rises-change t e.place (Some e.value) s.rises;
      root = node-put t e (node_at root) s.rises f.bare refl s.root;
      bare = λ p v h. ⊎_elim (λ x. x.1 ∙ f.bare (ap (λ z. z.1) (sym x.0))) (λ x. s.bare p v x) (cases (node_at p) v h);
      named = λ k v h. ⊎_elim (λ x. ap named_place x.0 ∙ f.named) (λ x. s.named k v x) (cases k v h);
      hangs = λ k v h. node-put t e (up_place k) s.rises f.bare (up-node k) (⊎_elim (λ x. ap (λ z. look t (up_place z)) x.0 ∙ f.up) (λ x. s.hangs k v x) (cases k v h));
      short = λ k v h. ⊎_elim (λ x. (λ i. short_place (x.0 i) (x.1 i)) ∙ f.short) (λ x. s.short k v x) (cases k v h);
      boot = subst (λ (z : ℕ). z < 2 ^ 32) (sym (boot-change t e.place (Some e.value))) s.boot;
    }

-- ---- entries that may be put one after the other

unfoldable pub Grows : Tree → List Entry → Type 0
Grows t [] = Unit {0}
Grows t (e ∷ ws) = FitsIn t e × Grows (change t e.place (Some e.value)) ws

pub grown : (ws : List Entry) (t : Tree) → Shape t → Grows t ws → Shape (apply ws t)
unfolding Grows apply
grown [] t s g = s
grown (e ∷ ws) t s g = grown ws (change t e.place (Some e.value)) (shape-put t e s g.0) g.1

pub grows_join : (xs ys : List Entry) (t : Tree) → Grows t xs → Grows (apply xs t) ys → Grows t (xs ++ ys)
unfolding Grows apply
grows_join [] ys t g h = h
grows_join (e ∷ xs) ys t g h = (g.0, grows_join xs ys (change t e.place (Some e.value)) g.1 h)

pub grows-front : (xs ys : List Entry) (t : Tree) → Grows t (xs ++ ys) → Grows t xs
unfolding Grows
grows-front [] ys t g = tt
grows-front (e ∷ xs) ys t g = (g.0, grows-front xs ys (change t e.place (Some e.value)) g.1)

pub grows_back : (xs ys : List Entry) (t : Tree) → Grows t (xs ++ ys) → Grows (apply xs t) ys
unfolding Grows apply
grows_back [] ys t g = g
grows_back (e ∷ xs) ys t g = grows_back xs ys (change t e.place (Some e.value)) g.1

-- nodes stay
pub node_stays : (ws : List Entry) (t : Tree) (j : Place) → Rising t → Grows t ws → j.1 ≡ None → look t j ≡ Some [] → look (apply ws t) j ≡ Some []
unfolding Grows apply
node_stays [] t j r g n h = h
node_stays (e ∷ ws) t j r g n h = node_stays ws (change t e.place (Some e.value)) j (rises-change t e.place (Some e.value) r) g.1 n (node-put t e j r g.0.bare n h)

-- ---- counts

-- what entries count
pub cost_join : (f : Place → Bytes → ℕ) (xs ys : List Entry) → total f (listed (xs ++ ys)) ≡ total f (listed xs) + total f (listed ys)
unfolding total
cost_join f [] ys = omega arith
cost_join f (e ∷ xs) ys = omega (arith, cost_join f xs ys)

pub total-apply : (f : Place → Bytes → ℕ) (ws : List Entry) (t : Tree) → total f (apply ws t).places ≤ total f t.places + total f (listed ws)
unfolding total apply change
total-apply f [] t = omega arith
total-apply f (e ∷ ws) t = omega (arith, total-apply f ws (change t e.place (Some e.value)), total-upd place-order f t.places e.place (Some e.value))

-- a shape within the counts is a tree by the rules
pub sound-from : (t : Tree) → Shape t → nodes t.places ≤ 256 → properties t.places ≤ 1024 → weight t.places ≤ 24576 → Sound t
sound-from t s a b c = record {
  rises = s.rises;
  root = s.root;
  bare = s.bare;
  named = s.named;
  hangs = s.hangs;
  short = s.short;
  roomy = and_from _ _ (le-leb _ _ a) (and_from _ _ (le-leb _ _ b) (le-leb _ _ c));
  boot = s.boot;
}
