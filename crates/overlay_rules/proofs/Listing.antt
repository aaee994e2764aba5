-- What the listing of a good blob's entries establishes. Assumes nothing.
use Rattle.std.proofs.Common.{◌≡◌, true, false, cond, List, [], ◌∷◌, Some, sym, refl, ap, ◌∙◌, subst, inl, inr}
use Rattle.std.proofs.lemmas.List.{nil_from_length}
use Rattle.std.proofs.lemmas.Bool.{and_parts, eqb-true, cond-true, cond-false}
use Rattle.names.specs.Paths.{root, path_text}
use Rattle.tree.specs.Entries.{Entry, bare, listed_from, listed_next, same_place, some, well_listed}
use Rattle.tree.specs.Places.{Place, node_at}
use Rattle.tree.specs.Trees.{named_place, short_place, up_place}
use Rattle.tree.proofs.Listed.{same_self, same-only, listed_next_lem as next_one}
use Rattle.overlay_rules.specs.Overlays.{value_at}
use Rattle.overlay_rules.specs.Laws.{In}
use Rattle.overlay_rules.proofs.Lists.{all-at, some-false, some-true}
use Rattle.overlay_rules.proofs.Looks.{place-not, not-place}

-- an entry by itself
pub record GoodEntry (e : Entry) : Type 0 where
  pub named : named_place e.place ≡ true
  pub short : short_place e.place e.value ≡ true
  pub bare : bare e.place e.value ≡ true

-- an entry behind those before it
pub record Next (seen : List Place) (e : Entry) : Type 0 where
  pub good : GoodEntry e
  pub new : some (same_place e.place) seen ≡ false
  pub up : In (up_place e.place) seen

pub next-is : (seen : List Place) (e : Entry) → listed_next seen e ≡ true → Next seen e
next-is seen e h =
    let n = next_one seen e h in
    let u = some-true (same_place (up_place e.place)) seen n.up in
    record {
      good = record { named = n.named; short = n.short; bare = n.bared };
      new = n.new;
      up = subst (λ z. In z seen) (sym (same-only (up_place e.place) u.0 u.2)) u.1;
    }

pub listed_next_lem : (seen : List Place) (e : Entry) (es : List Entry) → listed_from seen (e ∷ es) ≡ true → Next seen e × (listed_from (e.place ∷ seen) es ≡ true)
unfolding listed_from
listed_next_lem seen e es h = let a = and_parts _ _ h in (next-is seen e a.0, a.1)

listed-new : (seen : List Place) (es : List Entry) (e : Entry) (k : Place) → listed_from seen es ≡ true → In e es → In k seen → e.place ≡ k → ⊥
listed-new seen [] e k h i j p = i
listed-new seen (x ∷ es) e k h (inl q) j p =
    let n = listed_next_lem seen x es h in
    place-not x.place k (all-at (λ z. same_place x.place z ≡ false) k seen (some-false (same_place x.place) seen n.0.new) j) (ap (λ z. z.place) (sym q) ∙ p)
listed-new seen (x ∷ es) e k h (inr i) j p = listed-new (x.place ∷ seen) es e k (listed_next_lem seen x es h).1 i (inr j) p

value-listed : (seen : List Place) (es : List Entry) (e : Entry) → listed_from seen es ≡ true → In e es → value_at es e.place ≡ Some e.value
unfolding value_at
value-listed seen [] e h i = absurd i
value-listed seen (x ∷ es) e h (inl p) = subst (λ z. cond (same_place x.place z.place) (Some x.value) (value_at es z.place) ≡ Some z.value) (sym p) (cond-true _ _ _ (same_self x.place))
value-listed seen (x ∷ es) e h (inr i) =
    let n = listed_next_lem seen x es h in
    cond-false _ _ _ (not-place x.place e.place (λ p. listed-new (x.place ∷ seen) es e x.place n.1 i (inl refl) (sym p)))
    ∙ value-listed (x.place ∷ seen) es e n.1 i

listed-good : (seen : List Place) (es : List Entry) (e : Entry) → listed_from seen es ≡ true → In e es → GoodEntry e
listed-good seen [] e h i = absurd i
listed-good seen (x ∷ es) e h (inl p) = subst GoodEntry (sym p) (listed_next_lem seen x es h).0.good
listed-good seen (x ∷ es) e h (inr i) = listed-good (x.place ∷ seen) es e (listed_next_lem seen x es h).1 i

pub record Well (e : Entry) (es : List Entry) : Type 0 where
  pub place : e.place ≡ node_at root
  pub value : e.value ≡ []
  pub rest : listed_from (node_at root ∷ []) es ≡ true

pub well : (e : Entry) (es : List Entry) → well_listed (e ∷ es) ≡ true → Well e es
well e es h =
    let a = and_parts _ _ h in
    let b = and_parts _ _ a.1 in
    record { place = same-only e.place (node_at root) a.0; value = nil_from_length e.value (eqb-true _ _ b.0); rest = b.1 }

root-good : (e : Entry) → e.place ≡ node_at root → e.value ≡ [] → GoodEntry e
unfolding path_text
root-good e p v =
    subst GoodEntry (λ i. record { at = e.at; place = sym p i; value = sym v i }) (record { named = refl; short = refl; bare = refl })

-- every entry is good
pub all-good : (es : List Entry) (e : Entry) → well_listed es ≡ true → In e es → GoodEntry e
all-good [] e h i = absurd i
all-good (x ∷ es) e h (inl p) = let w = well x es h in subst GoodEntry (sym p) (root-good x w.place w.value)
all-good (x ∷ es) e h (inr i) = listed-good (node_at root ∷ []) es e (well x es h).rest i

-- the value at an entry's place is the entry's
pub value-at : (es : List Entry) (e : Entry) → well_listed es ≡ true → In e es → value_at es e.place ≡ Some e.value
unfolding value_at
value-at [] e h i = absurd i
value-at (x ∷ es) e h (inl p) = subst (λ z. cond (same_place x.place z.place) (Some x.value) (value_at es z.place) ≡ Some z.value) (sym p) (cond-true _ _ _ (same_self x.place))
value-at (x ∷ es) e h (inr i) =
    let w = well x es h in
    cond-false _ _ _ (not-place x.place e.place (λ p. listed-new (node_at root ∷ []) es e (node_at root) w.rest i (inl refl) (sym p ∙ w.place)))
    ∙ value-listed (node_at root ∷ []) es e w.rest i
