-- What is left of a node's children and of its properties, one further. Assumes nothing.
use Rattle.std.proofs.Common.{◌≡◌, ℕ, suc, ◌+◌, ◌<◌, ◌≤◌, Bool, true, false, cond, ◌&&◌, eqb, leb, List, [], ◌∷◌, length, get_or, drop, Some, None, Option, sym, refl, ap, ◌∙◌, subst, arith}
use Rattle.std.specs.Borrow.{Bor}
use Rattle.std.specs.Fn.{CalledAt}
use Rattle.std.specs.Iterator.{ActsAsAt, FindsItem, MakesProgress, Yields, YieldsFirstBy, item_count}
use Rattle.std.specs.List.{FoldsTo}
use Rattle.std.specs.Option.{IsSomeAnd, MatchOption, option_map}
use denote.Param.Members.{Mut}
use Rattle.std.specs.Str.{bytes_eq}
use Rattle.std.proofs.lemmas.List.{at_drop_more, at_drop_all}
use Rattle.std.proofs.lemmas.Bool.{cond-true, cond-false, le-leb, lt-leb, eq-eqb, ne_eqb}
use Rattle.tree.specs.Places.{Bytes}
use Rattle.tape.specs.declared.Spot.{Spot}
use Rattle.tape.specs.Nodes.{Node, Property, further, child_in, property_in}
use Rattle.tape.specs.Tapes.{nowhere, nth, placed}
use Rattle.tape.specs.Iters.{children_in, entries, first_named, with_name}

-- an item leaves less behind it
pub progress : {S A B : Type 0} (can : S → Type 0) (view : A → B) (rest : S → List B) (s t : S) (x : A) → can t → rest s ≡ view x ∷ rest t → MakesProgress can (item_count rest) s (Some x) t
progress can view rest s t x c e = record { on = λ _. (c, tt, omega (arith, ap length e)); keeps = c; rests = λ _. tt }

module _ (spot : ℕ → Spot) (ns : List Node) (m i : ℕ) where
  one : i < length ns → children_in spot m i (drop i ns) ≡ cond (leb (nth ns i).depth m) [] (cond (eqb (nth ns i).depth (m + 1)) ((spot i, (nth ns i).name) ∷ children_in spot m (i + 1) (drop (i + 1) ns)) (children_in spot m (i + 1) (drop (i + 1) ns)))
  unfolding children_in
  one h = at_drop_more (children_in spot m i) ns i nowhere h

  pub children-end : length ns ≤ i → children_in spot m i (drop i ns) ≡ []
  unfolding children_in
  children-end h = at_drop_all (children_in spot m i) ns i h

  pub children-left : i < length ns → (nth ns i).depth ≤ m → children_in spot m i (drop i ns) ≡ []
  children-left h l = one h ∙ cond-true (leb (nth ns i).depth m) _ _ (le-leb _ _ l)

  pub children-more : i < length ns → (nth ns i).depth ≡ m + 1 → children_in spot m i (drop i ns) ≡ (spot i, (nth ns i).name) ∷ children_in spot m (i + 1) (drop (i + 1) ns)
  children-more h l = one h ∙ cond-false (leb (nth ns i).depth m) _ _ (lt-leb _ _ (omega (arith, l))) ∙ cond-true _ _ _ (eq-eqb _ _ l)

  pub children-past : i < length ns → m < (nth ns i).depth → ((nth ns i).depth ≡ m + 1 → ⊥) → children_in spot m i (drop i ns) ≡ children_in spot m (i + 1) (drop (i + 1) ns)
  children-past h l e = one h ∙ cond-false (leb (nth ns i).depth m) _ _ (lt-leb _ _ l) ∙ cond-false _ _ _ (ne_eqb _ _ e)

module _ {S : Type 0} (mark : ℕ → S) (xs : List Property) (k : ℕ) where
  pub entries-end : length xs ≤ k → entries mark k (drop k xs) ≡ []
  unfolding entries
  entries-end h = at_drop_all (entries mark k) xs k h

  pub entries-more : k < length xs → entries mark k (drop k xs) ≡ (mark k, (get_or xs k ([], [])).0) ∷ entries mark (k + 1) (drop (k + 1) xs)
  unfolding entries
  entries-more h = at_drop_more (entries mark k) xs k ([], []) h

-- ---- the first so named, by its place

onward : {S : Type 0} (spot : ℕ → S) (i : ℕ) (o : Option ℕ) → placed spot i (further o) ≡ placed spot (i + 1) o
onward spot i None = refl
onward spot i (Some k) = let z : i + suc k ≡ i + 1 + k = omega arith in ap (λ j. Some (spot j)) z

at-once : {S : Type 0} (spot : ℕ → S) (i : ℕ) → placed spot i (Some 0) ≡ Some (spot i)
at-once spot i = let z : i + 0 ≡ i = omega arith in ap (λ j. Some (spot j)) z

pub child-first : (spot : ℕ → Spot) (m : ℕ) (c : Bytes) (i : ℕ) (ns : List Node) → first_named c (children_in spot m i ns) ≡ placed spot i (child_in m c ns)
unfolding first_named children_in child_in
child-first spot m c i [] = refl
child-first spot m c i (n ∷ ns) = go (leb n.depth m) (eqb n.depth (m + 1)) (bytes_eq n.name c) refl (child-first spot m c (i + 1) ns)
  where
    go : (x y z : Bool) → bytes_eq n.name c ≡ z → first_named c (children_in spot m (i + 1) ns) ≡ placed spot (i + 1) (child_in m c ns) → first_named c (cond x [] (cond y ((spot i, n.name) ∷ children_in spot m (i + 1) ns) (children_in spot m (i + 1) ns))) ≡ placed spot i (cond x None (cond (y && z) (Some 0) (further (child_in m c ns))))
    go true y z q ih = refl
    go false true true q ih = cond-true (bytes_eq n.name c) _ _ q ∙ sym (at-once spot i)
    go false true false q ih = cond-false (bytes_eq n.name c) _ _ q ∙ ih ∙ sym (onward spot i (child_in m c ns))
    go false false z q ih = ih ∙ sym (onward spot i (child_in m c ns))

pub property-first : {S : Type 0} (mark : ℕ → S) (c : Bytes) (k : ℕ) (xs : List Property) → first_named c (entries mark k xs) ≡ placed mark k (property_in c xs)
unfolding first_named entries property_in
property-first mark c k [] = refl
property-first mark c k (x ∷ xs) = go (bytes_eq x.0 c) (property-first mark c (k + 1) xs)
  where
    go : (z : Bool) → first_named c (entries mark (k + 1) xs) ≡ placed mark (k + 1) (property_in c xs) → cond z (Some (mark k)) (first_named c (entries mark (k + 1) xs)) ≡ placed mark k (cond z (Some 0) (further (property_in c xs)))
    go true ih = sym (at-once mark k)
    go false ih = ih ∙ sym (onward mark k (property_in c xs))

-- ---- a search among parts with their names

module _ {S P F : Type 0} (rest : S → List (P × Bytes)) (g : Mut F (Bor (P × Bor Bytes) × Unit {0}) Bool) (f : F) (c : Bytes) (acts : ActsAsAt g f (λ x. bytes_eq x.1.now c)) where
  passed : (s t : S) (d h : F) (xs : List (P × Bor Bytes)) → d ≡ f → Yields (YieldsFirstBy with_name rest) s xs t → FoldsTo (λ p x q. CalledAt g p x false q) d xs h → (first_named c (rest s) ≡ first_named c (rest t)) × (h ≡ f)
  unfolding first_named
  passed s t d h [] q y z = (ap (λ a. first_named c (rest a)) y, sym z ∙ q)
  passed s t d h (x ∷ xs) q y z =
      let a = acts x false z.0 (subst (λ k. CalledAt g k x false z.0) q z.1) in
      let r = passed y.0 t z.0 h xs a.0 y.2 z.2 in
      (ap (first_named c) y.1 ∙ cond-false (bytes_eq x.1.now c) _ _ (sym a.1) ∙ r.0, r.1)

  pub finds-first : (s u : S) (r : Option (P × Bor Bytes)) → FindsItem (YieldsFirstBy with_name rest) g s f r u → option_map (λ x. x.0) r ≡ first_named c (rest s)
  unfolding first_named
  finds-first s u None h =
      let y = h.2 in
      sym ((passed s y.0 f h.1 h.0 refl y.1 h.3).0 ∙ ap (first_named c) y.2.0)
  finds-first s u (Some x) h =
      let y = h.2 in
      let k = h.4 in
      let b = passed s y.0 f h.1 h.0 refl y.1 h.3 in
      sym (b.0 ∙ ap (first_named c) y.2 ∙ cond-true (bytes_eq x.1.now c) _ _ (sym (acts x true k.0 (subst (λ z. CalledAt g z x true k.0) b.1 k.1)).1))

pub mapped : {A B : Type 0} (v : A → B) (Q : A → B → Type 0) (o : Option A) (r : Option B) → ((x : A) (y : B) → Q x y → y ≡ v x) → MatchOption o (r ≡ None) (λ x. IsSomeAnd r (Q x)) → r ≡ option_map v o
mapped v Q None r h m = m
mapped v Q (Some x) None h m = absurd m
mapped v Q (Some x) (Some y) h m = ap Some (h x y m)
