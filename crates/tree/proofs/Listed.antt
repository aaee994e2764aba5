-- Entries in a good order make a sound tree, in which each is found. Assumes nothing.
use Rattle.std.proofs.Common.{◌≡◌, ℕ, ◌^◌, ◌<◌, Bool, true, false, not, ◌&&◌, ◌||◌, eqb, ◌⊎◌, List, [], ◌∷◌, length, Some, None, Ordering, Less, Equal, Greater, sym, refl, ap, ◌∙◌, subst, inl, inr, ⊎_elim, true≢false, arith}
use Rattle.std.proofs.lemmas.Bool.{and_parts, or_cases, both_ways, eqb-true, not-true}
use Rattle.std.specs.Ordering.{is_eq}
use Rattle.names.specs.Paths.{root, parent, path_text}
use Rattle.tree.specs.Entries.{Entry, inserted, tree_of, listed, same_place, among_places, bare, listed_next, listed_from}
use Rattle.names.proofs.PathLaws.{root_ends}
use Rattle.tree.specs.EntryLaws.{ListedSound}
use Rattle.tree.specs.Maps.{find, upd, Rises, worth, total}
use Rattle.tree.specs.Places.{Bytes, Place, node_at, order}
use Rattle.tree.specs.Trees.{look, node_count, property_count, weigh, roomy, named_place, short_place, up_place, Sound}
use Rattle.tree.proofs.MapLaws.{decide}
use Rattle.tree.proofs.Maps.{same, find-same, find-other, rises-upd, total-upd, some_one}
use Rattle.tree.proofs.Places.{place-order}

pub same_self : (k : Place) → same_place k k ≡ true
same_self k = ap is_eq (same place-order k)

pub same-only : (k l : Place) → same_place k l ≡ true → k ≡ l
same-only k l e = go (order k l) refl
  where
    go : (r : Ordering) → order k l ≡ r → k ≡ l
    go Less p = absurd (true≢false (sym e ∙ ap is_eq p))
    go Equal p = place-order.exact k l p
    go Greater p = absurd (true≢false (sym e ∙ ap is_eq p))

pub rises-inserted : (es : List Entry) → Rises order (inserted es)
unfolding inserted
rises-inserted [] = tt
rises-inserted (e ∷ es) = rises-upd place-order (inserted es) e.place (Some e.value) (rises-inserted es)

-- ---- one at a time

-- a place is among those of the entries, or was seen before
abbrev pub Placed : List Place → Place → Type 0
Placed seen k = among_places k seen ≡ true

-- what holds of an entry that comes next
pub record Next (seen : List Place) (e : Entry) : Type 0 where
  pub named : named_place e.place ≡ true
  pub short : short_place e.place e.value ≡ true
  pub bared : bare e.place e.value ≡ true
  pub new : among_places e.place seen ≡ false
  pub up : among_places (up_place e.place) seen ≡ true

pub listed_next_lem : (seen : List Place) (e : Entry) → listed_next seen e ≡ true → Next seen e
listed_next_lem seen e h =
    let a = and_parts (named_place e.place && (short_place e.place e.value && bare e.place e.value)) (not (among_places e.place seen) && among_places (up_place e.place) seen) h in
    let b = and_parts (named_place e.place) (short_place e.place e.value && bare e.place e.value) a.0 in
    let d = and_parts (short_place e.place e.value) (bare e.place e.value) b.1 in
    let f = and_parts (not (among_places e.place seen)) (among_places (up_place e.place) seen) a.1 in
    record { named = b.0; short = d.0; bared = d.1; new = not-true (among_places e.place seen) f.0; up = f.1 }

among-more : (k l : Place) (seen : List Place) → among_places k seen ≡ true → among_places k (l ∷ seen) ≡ true
among-more k l seen h = rw h (or_last (same_place k l))
  where
    or_last : (b : Bool) → (b || true) ≡ true
    or_last true = refl
    or_last false = refl

-- a place that was seen is not among those that come later
absent : (es : List Entry) (seen : List Place) (k : Place) → listed_from seen es ≡ true → among_places k seen ≡ true → find order (inserted es) k ≡ None
unfolding listed_from inserted find
absent [] seen k h a = refl
absent (e ∷ es) seen k h a =
    let p = and_parts (listed_next seen e) (listed_from (e.place ∷ seen) es) h in
    let n = listed_next_lem seen e p.0 in
    let apart : k ≡ e.place → ⊥ = λ z. both_ways (among_places e.place seen) n.new (subst (λ l. among_places l seen ≡ true) z a) in
    find-other place-order (inserted es) e.place k (Some e.value) (rises-inserted es) apart ∙ absent es (e.place ∷ seen) k p.1 (among-more k e.place seen a)

-- ---- sums

total-inserted : (f : Place → Bytes → ℕ) (es : List Entry) (seen : List Place) → listed_from seen es ≡ true → total f (inserted es) ≡ total f (listed es)
unfolding listed_from inserted total
total-inserted f [] seen h = refl
total-inserted f (e ∷ es) seen h =
    let p = and_parts (listed_next seen e) (listed_from (e.place ∷ seen) es) h in
    let here = absent es (e.place ∷ seen) e.place p.1 (rw (same_self e.place)) in
    let t = total-upd place-order f (inserted es) e.place (Some e.value) in
    let z = ap (worth f e.place) here in
    let ih = total-inserted f es (e.place ∷ seen) p.1 in
    omega arith

-- ---- what is found

-- the place on which k hangs was seen before, or is found
Hangs : List Place → List Entry → Place → Type 0
Hangs seen es k = (among_places (up_place k) seen ≡ true) ⊎ ((w : Bytes) × (find order (inserted es) (up_place k) ≡ Some w))

record Found (seen : List Place) (es : List Entry) (k : Place) (v : Bytes) : Type 0 where
  named : named_place k ≡ true
  short : short_place k v ≡ true
  bared : bare k v ≡ true
  hangs : Hangs seen es k

hangs-more : (seen : List Place) (e : Entry) (es : List Entry) (k : Place) → listed_from (e.place ∷ seen) es ≡ true → Hangs (e.place ∷ seen) es k → Hangs seen (e ∷ es) k
unfolding Hangs inserted
hangs-more seen e es k l (inr f) =
    let apart : up_place k ≡ e.place → ⊥ = λ z.
    let n = absent es (e.place ∷ seen) (up_place k) l (rw z (rw (same_self e.place))) in
    let y : ◌≡◌ {A = ℕ} 0 1 = cc in omega arith in
    inr (f.0, find-other place-order (inserted es) e.place (up_place k) (Some e.value) (rises-inserted es) apart ∙ f.1)
hangs-more seen e es k l (inl a) =
    ⊎_elim
    (λ s. let z = same-only (up_place k) e.place s in inr (e.value, ap (find order (upd order (inserted es) e.place (Some e.value))) z ∙ find-same place-order (inserted es) e.place (Some e.value) (rises-inserted es)))
    (λ s. inl s)
    (or_cases (same_place (up_place k) e.place) (among_places (up_place k) seen) a)

found : (es : List Entry) (seen : List Place) (k : Place) (v : Bytes) → listed_from seen es ≡ true → find order (inserted es) k ≡ Some v → Found seen es k v
unfolding listed_from inserted find Hangs
found [] seen k v l f = let y : ◌≡◌ {A = ℕ} 0 1 = cc in absurd (omega arith)
found (e ∷ es) seen k v l f =
    let p = and_parts (listed_next seen e) (listed_from (e.place ∷ seen) es) l in
    let n = listed_next_lem seen e p.0 in
    ⊎_elim
    (λ z.
    let w : Some e.value ≡ Some v = sym (find-same place-order (inserted es) e.place (Some e.value) (rises-inserted es)) ∙ ap (find order (upd order (inserted es) e.place (Some e.value))) (sym z) ∙ f in
    let value : e.value ≡ v = some_one w in
    record {
      named = rw z n.named;
      short = rw (z, ← value) n.short;
      bared = rw (z, ← value) n.bared;
      hangs = inl (rw z n.up);
    })
    (λ a.
    let r = found es (e.place ∷ seen) k v p.1 (sym (find-other place-order (inserted es) e.place k (Some e.value) (rises-inserted es) a) ∙ f) in
    record { named = r.named; short = r.short; bared = r.bared; hangs = hangs-more seen e es k p.1 r.hangs })
    (decide place-order k e.place)

-- ---- the whole

empty : (v : Bytes) → eqb (length v) 0 ≡ true → v ≡ []
empty [] h = refl
empty (b ∷ v) h = let z = eqb-true (length (b ∷ v)) 0 h in absurd (omega arith)

up-node : (k : Place) → (p : Bytes) × (up_place k ≡ node_at p)
up-node (p, None) = (parent p, refl)
up-node (p, Some n) = (p, refl)

bare-node : (k : Place) (v : Bytes) → bare (up_place k) v ≡ true → v ≡ []
bare-node k v h = let u = up-node k in empty v (subst (λ z. bare z v ≡ true) u.1 h)

module _ (e : Entry) (es : List Entry) (top : e.place ≡ node_at root) (none : e.value ≡ []) (good : listed_from (node_at root ∷ []) es ≡ true) where
  at-root : find order (inserted (e ∷ es)) (node_at root) ≡ Some []
  unfolding inserted
  at-root = rw (top, none) (find-same place-order (inserted es) (node_at root) (Some []) (rises-inserted es))

  elsewhere : (k : Place) → (k ≡ node_at root → ⊥) → find order (inserted (e ∷ es)) k ≡ find order (inserted es) k
  unfolding inserted
  elsewhere k a = rw top (find-other place-order (inserted es) (node_at root) k (Some e.value) (rises-inserted es) a)

  -- at the root, or found in the rest
  each-found : (P : Place → Bytes → Type 0) → P (node_at root) [] → ((k : Place) (v : Bytes) → Found (node_at root ∷ []) es k v → P k v) → (k : Place) (v : Bytes) → find order (inserted (e ∷ es)) k ≡ Some v → P k v
  each-found P here there k v f =
      ⊎_elim
      (λ z. let w : [] ≡ v = some_one (sym at-root ∙ ap (find order (inserted (e ∷ es))) (sym z) ∙ f) in subst (λ x. P x v) (sym z) (subst (P (node_at root)) w here))
      (λ a. there k v (found es (node_at root ∷ []) k v good (sym (elsewhere k a) ∙ f)))
      (decide place-order k (node_at root))

  up_there : (k : Place) → Hangs (node_at root ∷ []) es k → find order (inserted (e ∷ es)) (up_place k) ≡ Some []
  unfolding Hangs
  up_there k (inl a) =
      let z = same-only (up_place k) (node_at root) (or_none (same_place (up_place k) (node_at root)) a) in
      ap (find order (inserted (e ∷ es))) z ∙ at-root
    where
      or_none : (b : Bool) → (b || false) ≡ true → b ≡ true
      or_none true h = refl
      or_none false h = h
  up_there k (inr f) =
      ⊎_elim
      (λ z. ap (find order (inserted (e ∷ es))) z ∙ at-root)
      (λ a. elsewhere (up_place k) a ∙ f.1 ∙ ap Some (bare-node k f.0 (found es (node_at root ∷ []) (up_place k) f.0 good f.1).bared))
      (decide place-order (up_place k) (node_at root))

  totals : (f : Place → Bytes → ℕ) → total f (inserted (e ∷ es)) ≡ total f (listed (e ∷ es))
  unfolding inserted total
  totals f =
      let here = absent es (node_at root ∷ []) e.place good (rw top (rw (same_self (node_at root)))) in
      let t = total-upd place-order f (inserted es) e.place (Some e.value) in
      let z = ap (worth f e.place) here in
      let ih = total-inserted f es (node_at root ∷ []) good in
      omega arith

  pub sound_rooted : (boot : ℕ) → boot < 2 ^ 32 → roomy (listed (e ∷ es)) ≡ true → Sound (tree_of boot (e ∷ es))
  unfolding look path_text
  sound_rooted boot b room =
      record {
        rises = rises-inserted (e ∷ es);
        root = at-root;
        bare = λ p v f. empty v (each-found (λ k w. bare k w ≡ true) refl (λ k w h. h.bared) (node_at p) v f);
        named = each-found (λ k w. named_place k ≡ true) refl (λ k w h. h.named);
        hangs = each-found (λ k w. find order (inserted (e ∷ es)) (up_place k) ≡ Some []) (root_hangs) (λ k w h. up_there k h.hangs);
        short = each-found (λ k w. short_place k w ≡ true) refl (λ k w h. h.short);
        roomy = let n = totals node_count in let p = totals property_count in let w = totals weigh in rw (n, p, w) room;
        boot = b;
      }
    where
      root_hangs : find order (inserted (e ∷ es)) (node_at (parent root)) ≡ Some []
      root_hangs = ap (λ q. find order (inserted (e ∷ es)) (node_at q)) root_ends.2 ∙ at-root

pub listed-sound : ListedSound
listed-sound boot [] l room b = absurd (true≢false (sym l))
listed-sound boot (e ∷ es) l room b =
    let p = and_parts (same_place e.place (node_at root)) _ l in
    let q = and_parts (eqb (length e.value) 0) (listed_from (node_at root ∷ []) es) p.1 in
    sound_rooted e es (same-only e.place (node_at root) p.0) (empty e.value q.0) q.1 boot b room
