-- Each write leaves a tree by the rules. Assumes nothing.
use Rattle.std.proofs.Common.{◌≡◌, ℕ, ◌^◌, ◌<◌, ◌≤◌, Bool, true, false, cond, not, ◌&&◌, leb, ◌⊎◌, List, [], ◌∷◌, ◌++◌, is_some, Some, None, Ok, Err, Option, Result, Ordering, Less, Equal, Greater, sym, refl, ap, ◌∙◌, subst, ⊎_elim, arith}
use Rattle.std.specs.Ordering.{match_ordering as by_order}
use Rattle.std.specs.Str.{bytes_eq}
use Rattle.std.proofs.lemmas.Slice.Eq.{bytes_eq-Decides}
use Rattle.std.proofs.lemmas.Bool.{true≢false, false≢true, cases_Bool, and_parts, and_from, or_parts, not-true, leb-true, le-leb}
use Rattle.names.specs.Names.{property_name}
use Rattle.names.specs.Paths.{root, path_text, parent, leaf, behind_last}
use Rattle.tree.specs.Maps.{find, Rises, total}
use Rattle.tree.specs.Places.{Bytes, Place, node_at, property_at, order}
use Rattle.tree.specs.Trees.{Places, Tree, Sound, look, change, node_count, property_count, weigh, nodes, properties, weight, roomy, short_place, named_place, up_place}
use Rattle.store.specs.declared.Refusal.{Refusal}
use Rattle.store.specs.declared.Refusal.TheVariants.{BadName, Absent, Present, InUse, Limit, Closed}
use Rattle.store.specs.Calls.{Meaning, closed, holds, Good, there, admitted, none, names, child_on, property_on, in_use, add_node, drop_node, set_property, drop_property}
use Rattle.store.specs.Laws.{Writes, StoreLaws}
use Rattle.store.proofs.Nexts.{least_law}
use Rattle.tree.proofs.MapLaws.{decide}
use Rattle.tree.proofs.Maps.{some-none, some_one, find-same, find-other, rises-upd, total-upd}
use Rattle.tree.proofs.Places.{place-order}

pub same-is : (a b : Bytes) → bytes_eq a b ≡ true → a ≡ b
same-is a b = (bytes_eq-Decides a b).0

pub same_refl : (a : Bytes) → bytes_eq a a ≡ true
same_refl a = (bytes_eq-Decides a a).1 refl

pub cases-place : (l k : Place) → (l ≡ k) ⊎ (l ≡ k → ⊥)
cases-place = decide place-order

pub apart : (p q n : Bytes) → node_at p ≡ property_at q n → ⊥
apart p q n e = some-none n (sym (ap (λ k. k.1) e))

-- the place on which one hangs is a node
pub up-node : (k : Place) → up_place k ≡ node_at (up_place k).0
up-node (p, None) = refl
up-node (p, Some n) = refl

module _ (t : Tree) (s : Sound t) where
  pub look-same : (k : Place) (w : Option Bytes) → look (change t k w) k ≡ w
  unfolding look change
  look-same k w = find-same place-order t.places k w s.rises

  pub look-other : (k l : Place) (w : Option Bytes) → (l ≡ k → ⊥) → look (change t k w) l ≡ look t l
  unfolding look change
  look-other k l w n = find-other place-order t.places k l w s.rises n

  rises : (k : Place) (w : Option Bytes) → Rises order (change t k w).places
  unfolding change
  rises k w = rises-upd place-order t.places k w s.rises

  boot : (k : Place) (w : Option Bytes) → (change t k w).boot ≡ t.boot
  unfolding change
  boot k w = refl

  -- a property of places and values that the new value has, and every other had
  kept : (P : Place → Bytes → Type 0) (k : Place) (w : Option Bytes) → ((v : Bytes) → w ≡ Some v → P k v) → ((l : Place) (v : Bytes) → look t l ≡ Some v → P l v) → (l : Place) (v : Bytes) → look (change t k w) l ≡ Some v → P l v
  kept P k w new old l v e =
      ⊎_elim
      (λ q. subst (λ x. P x v) (sym q) (new v (sym (look-same k w) ∙ subst (λ x. look (change t k w) x ≡ Some v) q e)))
      (λ n. old l v (sym (look-other k l w n) ∙ e))
      (cases-place l k)

  module _ (k : Place) (v : Bytes) (named : named_place k ≡ true) (up : look t (up_place k) ≡ Some []) (bare : (p : Bytes) → k ≡ node_at p → v ≡ []) (fits : admitted t k v ≡ true) where
    node_kept : (p : Bytes) → look t (node_at p) ≡ Some [] → look (change t k (Some v)) (node_at p) ≡ Some []
    node_kept p e =
        ⊎_elim
        (λ q. ap (look (change t k (Some v))) q ∙ look-same k (Some v) ∙ ap Some (bare p (sym q)))
        (λ n. look-other k (node_at p) (Some v) n ∙ e)
        (cases-place (node_at p) k)

    up_kept : (l : Place) → look t (up_place l) ≡ Some [] → look (change t k (Some v)) (up_place l) ≡ Some []
    up_kept l e =
        ap (look (change t k (Some v))) (up-node l) ∙ node_kept (up_place l).0 (ap (look t) (sym (up-node l)) ∙ e)

    pub put-sound : Sound (change t k (Some v))
    put-sound =
        let parts = and_parts (short_place k v) (roomy (change t k (Some v)).places) fits in
        record {
          rises = rises k (Some v);
          root = node_kept root s.root;
          bare = λ p u e. kept (λ l u. (q : Bytes) → l ≡ node_at q → u ≡ []) k (Some v) (λ u f q g. sym (some_one f) ∙ bare q g) (λ l u f q g. s.bare q u (subst (λ x. look t x ≡ Some u) g f)) (node_at p) u e p refl;
          named = kept (λ l u. named_place l ≡ true) k (Some v) (λ u f. named) s.named;
          hangs = λ l u e. up_kept l (kept (λ l u. look t (up_place l) ≡ Some []) k (Some v) (λ u f. up) s.hangs l u e);
          short = kept (λ l u. short_place l u ≡ true) k (Some v) (λ u f. subst (λ x. short_place k x ≡ true) (some_one f) parts.0) s.short;
          roomy = parts.1;
          boot = subst (λ b. b < 2 ^ 32) (sym (boot k (Some v))) s.boot;
        }

  less : (f : Place → Bytes → ℕ) (k : Place) → total f (change t k None).places ≤ total f t.places
  unfolding change
  less f k = omega (arith, total-upd place-order f t.places k None)

  roomy_less : (k : Place) → roomy (change t k None).places ≡ true
  roomy_less k =
      let r = s.roomy in
      let a = and_parts (leb (nodes t.places) 256) _ r in
      let b = and_parts (leb (properties t.places) 1024) (leb (weight t.places) 24576) a.1 in
      and_from _ _ (le-leb (nodes (change t k None).places) 256 (omega (arith, less node_count k, leb-true _ _ a.0)))
      (and_from _ _ (le-leb (properties (change t k None).places) 1024 (omega (arith, less property_count k, leb-true _ _ b.0))) (le-leb (weight (change t k None).places) 24576 (omega (arith, less weigh k, leb-true _ _ b.1))))

  module _ (k : Place) (below : (l : Place) (v : Bytes) → look t l ≡ Some v → (l ≡ k → ⊥) → up_place l ≡ k → ⊥) (top : node_at root ≡ k → ⊥) where
    up_stays : (l : Place) (v : Bytes) → look (change t k None) l ≡ Some v → look (change t k None) (up_place l) ≡ Some []
    up_stays l v e =
        ⊎_elim
        (λ q. absurd (some-none v (sym (subst (λ x. look (change t k None) x ≡ Some v) q e) ∙ look-same k None)))
        (λ n. let h : look t l ≡ Some v = sym (look-other k l None n) ∙ e in look-other k (up_place l) None (below l v h n) ∙ s.hangs l v h)
        (cases-place l k)

    pub drop_sound : Sound (change t k None)
    drop_sound = record {
      rises = rises k None;
      root = look-other k (node_at root) None top ∙ s.root;
      bare = λ p u e. kept (λ l u. (q : Bytes) → l ≡ node_at q → u ≡ []) k None (λ u f. absurd (some-none u (sym f))) (λ l u f q g. s.bare q u (subst (λ x. look t x ≡ Some u) g f)) (node_at p) u e p refl;
      named = kept (λ l u. named_place l ≡ true) k None (λ u f. absurd (some-none u (sym f))) s.named;
      hangs = up_stays;
      short = kept (λ l u. short_place l u ≡ true) k None (λ u f. absurd (some-none u (sym f))) s.short;
      roomy = roomy_less k;
      boot = subst (λ b. b < 2 ^ 32) (sym (boot k None)) s.boot;
    }

-- ---- the places that hang on a node give it names

none_right : (xs ys : List Bytes) → none ys ≡ false → none (xs ++ ys) ≡ false
none_right [] ys e = e
none_right (x ∷ xs) ys e = refl

none_left : (xs ys : List Bytes) → none xs ≡ false → none (xs ++ ys) ≡ false
none_left [] ys e = absurd (true≢false e)
none_left (x ∷ xs) ys e = refl

pub in-names : (on : Place → List Bytes) (es : Places) (k : Place) (v : Bytes) → find order es k ≡ Some v → none (on k) ≡ false → none (names on es) ≡ false
unfolding find names
in-names on [] k v e h = absurd (some-none v (sym e))
in-names on (d ∷ es) k v e h = go (order k d.0) refl e (λ f. in-names on es k v f h)
  where
    go : (r : Ordering) → order k d.0 ≡ r → by_order r None (Some d.1) (find order es k) ≡ Some v → (find order es k ≡ Some v → none (names on es) ≡ false) → none (on d.0 ++ names on es) ≡ false
    go Less q f ih = absurd (some-none v (sym f))
    go Equal q f ih = none_left (on d.0) (names on es) (subst (λ x. none (on x) ≡ false) (place-order.exact k d.0 q) h)
    go Greater q f ih = none_right (on d.0) (names on es) (ih f)

child-named : (p q : Bytes) → (q ≡ root → ⊥) → parent q ≡ p → none (child_on p (node_at q)) ≡ false
child-named p q n e =
    let a : bytes_eq (parent q) p ≡ true = (bytes_eq-Decides (parent q) p).1 e in
    ⊎_elim
    (λ h. absurd (n (same-is q root h)))
    (λ h. ap (λ b. none (cond (not b && bytes_eq (parent q) p) (leaf q ∷ []) [])) h ∙ ap (λ b. none (cond b (leaf q ∷ []) [])) a)
    (cases_Bool (bytes_eq q root))

property-named : (p q n : Bytes) → q ≡ p → none (property_on p (property_at q n)) ≡ false
property-named p q n e = rw ((bytes_eq-Decides q p).1 e) refl

some-there : (t : Tree) (k : Place) → there t k ≡ true → (v : Bytes) × (look t k ≡ Some v)
some-there t k h = go (look t k) refl h
  where
    go : (o : Option Bytes) → look t k ≡ o → is_some o ≡ true → (v : Bytes) × (look t k ≡ Some v)
    go None e h = absurd (false≢true h)
    go (Some v) e h = (v, e)

pub node-there : (t : Tree) → Sound t → (p : Bytes) → there t (node_at p) ≡ true → look t (node_at p) ≡ Some []
node-there t s p h = let x = some-there t (node_at p) h in x.1 ∙ ap Some (s.bare p x.0 x.1)

root-up : parent root ≡ root
unfolding parent behind_last
root-up = refl

-- nothing hangs on a node that is not in use
unused : (t : Tree) (p : Bytes) → in_use t p ≡ false → (l : Place) (v : Bytes) → look t l ≡ Some v → (l ≡ node_at p → ⊥) → up_place l ≡ node_at p → ⊥
unfolding look
unused t p h (q, None) v e n u =
    let a = or_parts (bytes_eq p root) _ h in
    let b = or_parts (not (none (names (child_on p) t.places))) _ a.1 in
    let f : parent q ≡ p = ap (λ k. k.0) u in
    let bot : q ≡ root → ⊥ = λ z. true≢false (sym ((bytes_eq-Decides p root).1 (sym f ∙ ap parent z ∙ root-up)) ∙ a.0) in
    let x = in-names (child_on p) t.places (node_at q) v e (child-named p q bot f) in
    true≢false (sym (ap not x) ∙ b.0)
unused t p h (q, Some m) v e n u =
    let a = or_parts (bytes_eq p root) _ h in
    let b = or_parts (not (none (names (child_on p) t.places))) _ a.1 in
    let x = in-names (property_on p) t.places (property_at q m) v e (property-named p q m (ap (λ k. k.0) u)) in
    true≢false (sym (ap not x) ∙ b.1)

-- ---- the four writes

refusal : (m : Meaning) (e : Refusal) (k : Place) (w : Option Bytes) → Good m → Writes m (Err e) k w
refusal m e k w g = record {
  good = g;
  refused = λ _ _. refl;
  here = λ z. let y : ◌≡◌ {A = ℕ} 0 1 = cc in absurd (omega arith);
  elsewhere = λ _ _. refl;
  boot = refl;
}

accepted : (t : Tree) (k : Place) (w : Option Bytes) → Sound t → Sound (change t k w) → Writes (holds t) (Ok tt) k w
accepted t k w s g = record {
  good = g;
  refused = λ e z. let y : ◌≡◌ {A = ℕ} 0 1 = cc in absurd (omega arith);
  here = λ _. look-same t s k w;
  elsewhere = λ l n. look-other t s k l w n;
  boot = ap Ok (boot t s k w);
}

-- an answer by tests: refused by the first that fails
module _ (m : Meaning) (k : Place) (w : Option Bytes) (g : Good m) where
  by-test : (b : Bool) (e : Refusal) (a : Result (Unit {0}) Refusal) → (b ≡ true → Writes m a k w) → Writes m (cond b a (Err e)) k w
  by-test true e a h = h refl
  by-test false e a h = refusal m e k w g

add_writes : (m : Meaning) (p : Bytes) → Good m → Writes m (add_node m p) (node_at p) (Some [])
add_writes closed p g = refusal closed Closed (node_at p) (Some []) g
add_writes (holds t) p g =
    let test = by-test (holds t) (node_at p) (Some []) g in
    test (path_text p) BadName _ (λ named. test (not (there t (node_at p))) Present _ (λ fresh. test (there t (node_at (parent p))) Absent _ (λ up. test (admitted t (node_at p) []) Limit _ (λ fits. accepted t (node_at p) (Some []) g (put-sound t g (node_at p) [] named (node-there t g (parent p) up) (λ _ _. refl) fits)))))

set-writes : (m : Meaning) (p n v : Bytes) → Good m → Writes m (set_property m p n v) (property_at p n) (Some v)
set-writes closed p n v g = refusal closed Closed (property_at p n) (Some v) g
set-writes (holds t) p n v g =
    let test = by-test (holds t) (property_at p n) (Some v) g in
    test (path_text p && property_name n) BadName _ (λ named. test (there t (node_at p)) Absent _ (λ up. test (admitted t (property_at p n) v) Limit _ (λ fits. accepted t (property_at p n) (Some v) g (put-sound t g (property_at p n) v named (node-there t g p up) (λ q e. absurd (apart q p n (sym e))) fits))))

drop-writes : (m : Meaning) (p : Bytes) → Good m → Writes m (drop_node m p) (node_at p) None
drop-writes closed p g = refusal closed Closed (node_at p) None g
drop-writes (holds t) p g =
    let test = by-test (holds t) (node_at p) None g in
    test (path_text p) BadName _ (λ named. test (there t (node_at p)) Absent _ (λ here. test (not (in_use t p)) InUse _ (λ free.
    let f = not-true (in_use t p) free in
    let a = or_parts (bytes_eq p root) _ f in
    accepted t (node_at p) None g (drop_sound t g (node_at p) (unused t p f) (λ e. true≢false (sym ((bytes_eq-Decides p root).1 (sym (ap (λ k. k.0) e))) ∙ a.0))))))

unset-writes : (m : Meaning) (p n : Bytes) → Good m → Writes m (drop_property m p n) (property_at p n) None
unset-writes closed p n g = refusal closed Closed (property_at p n) None g
unset-writes (holds t) p n g =
    let test = by-test (holds t) (property_at p n) None g in
    test (path_text p && property_name n) BadName _ (λ named. test (there t (node_at p) && there t (property_at p n)) Absent _ (λ here. accepted t (property_at p n) None g (drop_sound t g (property_at p n) (λ l v e d u. apart (up_place l).0 p n (sym (up-node l) ∙ u)) (apart root p n))))

pub store_laws : StoreLaws
store_laws = record { add_node_lem = add_writes; drop_node_lem = drop-writes; set_property_lem = set-writes; drop_property_lem = unset-writes; next_name_lem = least_law }
