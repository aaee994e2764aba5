-- The least of the names behind one, and the names of children and of properties. Assumes nothing.
use Rattle.std.proofs.Common.{◌≡◌, ℕ, ◌+◌, ◌<◌, ◌≤◌, true, false, cond, eqb, leb, List, [], ◌∷◌, length, get_or, drop, Some, None, Option, sym, refl, ap, ◌∙◌, subst, arith, Bool, map, Ordering, Less, Equal, Greater, Bor}
use Rattle.std.specs.Cmp.Lexicographic.{lists_agrees, slice_partial_cmp}
use Rattle.std.specs.Fn.{Called, Mut}
use Rattle.std.specs.Iterator.{PickTurn, PicksByCall, PicksByCmp}
use Rattle.std.specs.List.{FoldsTo, filter, fold, reduce}
use Rattle.std.specs.Option.{option_map}
use Rattle.std.specs.Ordering.{is_lt, is_some_and, min_by_ordering, nat_cmp, ordering_reverse}
use Rattle.std.proofs.lemmas.Bool.{true≢false, cond-true, cond-false, le-leb, lt-leb, eq-eqb, ne_eqb, false_from_ne_true}
use Rattle.names.specs.Orders.{name_order}
use Rattle.names.proofs.Orders.{name_order_lem}
use Rattle.tree.specs.Places.{Bytes}
use Rattle.store.specs.Calls.{later, least, least_after}
use Rattle.store.proofs.Nexts.{later_trans}
use Rattle.tape.specs.declared.Spot.{Spot}
use Rattle.tape.specs.Iters.{children_in, entries}
use Rattle.tape.specs.Nodes.{Node, Property}
use Rattle.nexts.specs.Kids.{kids, keys, shown_name}
use Rattle.std.proofs.lemmas.Iterator.{YieldsList}
use Rattle.std.proofs.lemmas.Iterator.Consumers.{reduce_by_from_yields_List}
use Rattle.std.proofs.lemmas.List.{at_drop_more, at_drop_all}
use Rattle.tape.specs.Tapes.{nowhere, nth}

-- ---- the least of those behind a name

greater : (x m : Bytes) → name_order x m ≡ Greater → later m x ≡ true
greater x m e = ap is_lt (name_order_lem.flip m x ∙ ap ordering_reverse e)

abbrev pub lesser : Bytes → Bytes → Bytes
lesser x m = min_by_ordering (name_order x m) x m

lesser-first : (x m : Bytes) (o : Option Bytes) → least (lesser x m) o ≡ least x (least m o)
lesser-first x m o = go (name_order x m) refl o
  where
    go : (r : Ordering) → name_order x m ≡ r → (o : Option Bytes) → least (min_by_ordering r x m) o ≡ least x (least m o)
    go Less e None = sym (cond-true (later x m) (Some x) (Some m) (ap is_lt e))
    go Equal e None = ap Some (name_order_lem.exact x m e) ∙ sym (cond-false (later x m) (Some x) (Some m) (ap is_lt e))
    go Greater e None = sym (cond-false (later x m) (Some x) (Some m) (ap is_lt e))
    go Less e (Some l) = by (later m l) refl
      where
        by : (b : Bool) → later m l ≡ b → least x (Some l) ≡ least x (cond b (Some m) (Some l))
        by true q = cond-true (later x l) (Some x) (Some l) (later_trans x m l (ap is_lt e) q) ∙ sym (cond-true (later x m) (Some x) (Some m) (ap is_lt e))
        by false q = refl
    go Equal e (Some l) = by (later m l) refl
      where
        by : (b : Bool) → later m l ≡ b → least x (Some l) ≡ least x (cond b (Some m) (Some l))
        by true q = cond-true (later x l) (Some x) (Some l) (ap (λ z. later z l) (name_order_lem.exact x m e) ∙ q) ∙ ap Some (name_order_lem.exact x m e) ∙ sym (cond-false (later x m) (Some x) (Some m) (ap is_lt e))
        by false q = refl
    go Greater e (Some l) = by (later m l) refl
      where
        by : (b : Bool) → later m l ≡ b → cond b (Some m) (Some l) ≡ least x (cond b (Some m) (Some l))
        by true q = sym (cond-false (later x m) (Some x) (Some m) (ap is_lt e))
        by false q = sym (cond-false (later x l) (Some x) (Some l) (false_from_ne_true (later x l) (λ t. true≢false (sym (later_trans m x l (greater x m e) t) ∙ q))))

least-so-far : (n x : Bytes) (ms : List Bytes) → Some (fold lesser x (filter (later n) ms)) ≡ least x (least_after n ms)
unfolding least_after
least-so-far n x [] = refl
least-so-far n x (m ∷ ms) = go (later n m) (least-so-far n x ms) (least-so-far n (lesser x m) ms)
  where
    go : (b : Bool) → Some (fold lesser x (filter (later n) ms)) ≡ least x (least_after n ms) → Some (fold lesser (lesser x m) (filter (later n) ms)) ≡ least (lesser x m) (least_after n ms) → Some (fold lesser x (cond b (m ∷ filter (later n) ms) (filter (later n) ms))) ≡ least x (cond b (least m (least_after n ms)) (least_after n ms))
    go true ih more = more ∙ lesser-first x m (least_after n ms)
    go false ih more = ih

pub least_is : (n : Bytes) (ms : List Bytes) → reduce lesser (filter (later n) ms) ≡ least_after n ms
unfolding least_after
least_is n [] = refl
least_is n (m ∷ ms) = go (later n m) (least_is n ms)
  where
    go : (b : Bool) → reduce lesser (filter (later n) ms) ≡ least_after n ms → reduce lesser (cond b (m ∷ filter (later n) ms) (filter (later n) ms)) ≡ cond b (least m (least_after n ms)) (least_after n ms)
    go true ih = least-so-far n m ms
    go false ih = ih

-- ---- the names that an iterator gave

pub kids_of : (spot : ℕ → Spot) (m i : ℕ) (ns : List Node) → map (λ x. x.1) (children_in spot m i ns) ≡ kids m ns
unfolding kids children_in
kids_of spot m i [] = refl
kids_of spot m i (n ∷ ns) = go (leb n.depth m) (eqb n.depth (m + 1)) (kids_of spot m (i + 1) ns)
  where
    go : (x y : Bool) → map (λ x. x.1) (children_in spot m (i + 1) ns) ≡ kids m ns → map (λ x. x.1) (cond x [] (cond y ((spot i, n.name) ∷ children_in spot m (i + 1) ns) (children_in spot m (i + 1) ns))) ≡ cond x [] (cond y (n.name ∷ kids m ns) (kids m ns))
    go true y ih = refl
    go false true ih = ap (λ z. n.name ∷ z) ih
    go false false ih = ih

pub keys_of : {S : Type 0} (mark : ℕ → S) (k : ℕ) (xs : List Property) → map (λ x. x.1) (entries mark k xs) ≡ keys xs
unfolding keys entries
keys_of mark k [] = refl
keys_of mark k (x ∷ xs) = ap (λ z. x.0 ∷ z) (keys_of mark (k + 1) xs)

-- ---- whether a name comes behind

pub before_is : (a b : Bytes) → is_some_and is_lt (slice_partial_cmp (λ x y. Some (nat_cmp x y)) a b) ≡ later a b
before_is a b = ap (is_some_and is_lt) (lists_agrees (λ x y. refl) a b)

-- ---- a name where it stands

pub shown-is : (o : Option (Bor Bytes)) → option_map (λ x. x.now) o ≡ shown_name o
shown-is None = refl
shown-is (Some v) = refl

pub picks_lesser : (a b : Bor Bytes) (r : Ordering) → (min_by_ordering r a b).now ≡ min_by_ordering r a.now b.now
picks_lesser a b Less = refl
picks_lesser a b Equal = refl
picks_lesser a b Greater = refl

-- the least by calls of a value that answers by the order of names, and keeps no state
module _ {S F : Type 0} {steps : S → Option (Bor Bytes) → S → Type 0} {g : Mut F (Bor (Bor Bytes) × (Bor (Bor Bytes) × Unit {0})) Ordering} {f : F} {all : List Bytes} (s : S) (r : Option (Bor Bytes)) (road : YieldsList steps (λ x. x.now) s all)
    (ran : PicksByCall steps min_by_ordering g s f r) (answers : (v w : Bor (Bor Bytes)) (o : Ordering) (q : F) → Called g f (v, (w, tt)) o q → (q ≡ f) × (o ≡ name_order v.now.now w.now.now)) where
  abbrev cmp : Bor Bytes → Bor Bytes → Ordering
  cmp a b = name_order a.now b.now

  turns : (xs : List (Bor Bytes)) (p q : F × Bor Bytes) → p.0 ≡ f → FoldsTo {P = F × Bor Bytes} (PickTurn min_by_ordering g) p xs q → FoldsTo (λ best x next. next ≡ min_by_ordering (cmp best x) best x) p.1 xs q.1
  turns [] p q a c = ap (λ z. z.1) c
  turns (x ∷ xs) p q a c =
      let y = c.1.1 in
      let m = answers y.first y.second c.1.0 c.0.0 (subst (λ z. Called g z (y.first, (y.second, tt)) c.1.0 c.0.0) a y.called) in
      (c.0.1, c.1.2 ∙ ap (λ o. min_by_ordering o p.1 x) (m.1 ∙ (λ j. cmp (y.shows.0 j) (y.shows.1 j))), turns xs c.0 q m.0 c.2)

  picked : (r : Option (Bor Bytes)) → PicksByCall steps min_by_ordering g s f r → PicksByCmp steps min_by_ordering cmp s r
  picked None h = h
  picked (Some y) h = (h.0, h.1, h.3, turns h.1 (f, h.0) (h.2, y) refl h.4)

  pub picks-least : shown_name r ≡ reduce lesser all
  picks-least =
      sym (shown-is r)
      ∙ reduce_by_from_yields_List (λ a b. min_by_ordering (cmp a b) a b) lesser s r (λ a b. picks_lesser a b (cmp a b)) (picked r ran) road

-- ---- the names of children, one node further

module _ (ns : List Node) (m i : ℕ) where
  one : i < length ns → kids m (drop i ns) ≡ cond (leb (nth ns i).depth m) [] (cond (eqb (nth ns i).depth (m + 1)) ((nth ns i).name ∷ kids m (drop (i + 1) ns)) (kids m (drop (i + 1) ns)))
  unfolding kids
  one h = at_drop_more (kids m) ns i nowhere h

  pub kids-end : length ns ≤ i → kids m (drop i ns) ≡ []
  unfolding kids
  kids-end h = at_drop_all (kids m) ns i h

  pub kids-left : i < length ns → (nth ns i).depth ≤ m → kids m (drop i ns) ≡ []
  kids-left h l = one h ∙ cond-true (leb (nth ns i).depth m) _ _ (le-leb _ _ l)

  pub kids-child : i < length ns → (nth ns i).depth ≡ m + 1 → kids m (drop i ns) ≡ (nth ns i).name ∷ kids m (drop (i + 1) ns)
  kids-child h l = one h ∙ cond-false (leb (nth ns i).depth m) _ _ (lt-leb _ _ (omega (arith, l))) ∙ cond-true _ _ _ (eq-eqb _ _ l)

  pub kids-past : i < length ns → m < (nth ns i).depth → ((nth ns i).depth ≡ m + 1 → ⊥) → kids m (drop i ns) ≡ kids m (drop (i + 1) ns)
  kids-past h l e = one h ∙ cond-false (leb (nth ns i).depth m) _ _ (lt-leb _ _ l) ∙ cond-false _ _ _ (ne_eqb _ _ e)

module _ (xs : List Property) (i : ℕ) where
  pub keys-end : length xs ≤ i → keys (drop i xs) ≡ []
  unfolding keys
  keys-end h = at_drop_all keys xs i h

  pub keys-more : i < length xs → keys (drop i xs) ≡ (get_or xs i ([], [])).0 ∷ keys (drop (i + 1) xs)
  unfolding keys
  keys-more h = at_drop_more keys xs i ([], []) h
