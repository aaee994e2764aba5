-- Paths: a child, its parent and its name. Assumes nothing.
use Rattle.std.proofs.Common.{◌≡◌, ℕ, ◌+◌, ◌-◌, ◌<◌, Bool, true, false, cond, not, ◌&&◌, ◌||◌, eqb, ◌⊎◌, List, [], ◌∷◌, ◌++◌, length, take, sym, refl, ap, ◌∙◌, subst, inl, inr, ⊎_elim, append_assoc, append-nil, arith, length-append}
use Rattle.std.specs.Str.{bytes_eq}
use Rattle.std.proofs.lemmas.Slice.Eq.{bytes_eq-Decides}
use Rattle.std.proofs.lemmas.List.{append_cancel_left, take_at, nil_from_length}
use Rattle.std.proofs.lemmas.Bool.{and_parts, and_from, cases_Bool, eqb-true, ne_eqb, cond-false, not-true, not_from_false, true≢false}
use Rattle.std.proofs.lemmas.Bool.Decides.{nat_tests}
use Rattle.names.specs.Names.{each, node_name}
use Rattle.names.specs.Paths.{root, parts, path_text, stem, child, under, plain, behind_last, leaf, parent}
use Rattle.names.specs.PathLaws.{RootEnds, PathStarts, ChildLeaf, ChildParent, ChildOnly, ChildText, PathSplits, ChildLength, ChildLonger, UnderNothing, UnderChild, UnderText, UnderOnly, UnderLength}

-- ---- the stem

pub stem-root : stem root ≡ []
unfolding stem
stem-root = refl

pub stem-other : (p : List ℕ) → (p ≡ root → ⊥) → stem p ≡ p
unfolding stem
stem-other p n =
    cond-false (bytes_eq p root) [] p
    (⊎_elim (λ t. absurd (n ((bytes_eq-Decides p root).0 t))) (λ f. f) (cases_Bool (bytes_eq p root)))

-- a path is the root, or its own stem
pub by-root : (p : List ℕ) → (p ≡ root) ⊎ ((p ≡ root → ⊥) × (stem p ≡ p))
by-root p =
    ⊎_elim
    (λ t. inl ((bytes_eq-Decides p root).0 t))
    (λ f.
    let n : p ≡ root → ⊥ = λ e. true≢false (sym ((bytes_eq-Decides p root).1 e) ∙ f) in
    inr (n, stem-other p n))
    (cases_Bool (bytes_eq p root))

pub root_ends : RootEnds
unfolding path_text parent behind_last stem
root_ends = (refl, refl, refl, refl)

pub path_starts : PathStarts
unfolding path_text
path_starts [] e = absurd (true≢false (sym e))
path_starts (b ∷ bs) e =
    (bs, ap (λ x. x ∷ bs) (eqb-true b 47 (and_parts (eqb b 47) (eqb (length bs) 0 || each node_name (parts [] bs)) e).0))

-- ---- the last name

-- no slash in the first byte, none in the others
pub slashless : (b : ℕ) (bs : List ℕ) → plain (b ∷ bs) ≡ true → (eqb b 47 ≡ false) × (plain bs ≡ true)
slashless b bs h = let k = and_parts (not (eqb b 47)) (plain bs) h in (not-true (eqb b 47) k.0, k.1)

pub behind-plain : (cur n : List ℕ) → plain n ≡ true → behind_last cur n ≡ cur
unfolding behind_last
behind-plain cur [] h = refl
behind-plain cur (b ∷ bs) h =
    let k = slashless b bs h in
    cond-false (eqb b 47) _ _ k.0 ∙ behind-plain cur bs k.1

pub behind-last : (cur x n : List ℕ) → plain n ≡ true → behind_last cur (x ++ (47 ∷ n)) ≡ n
unfolding behind_last
behind-last cur [] n h = behind-plain n n h
behind-last cur (b ∷ x) n h =
    go (behind-last (x ++ (47 ∷ n)) x n h) (behind-last cur x n h) (eqb b 47)
  where
    go : behind_last (x ++ (47 ∷ n)) (x ++ (47 ∷ n)) ≡ n → behind_last cur (x ++ (47 ∷ n)) ≡ n → (v : Bool) → cond v (behind_last (x ++ (47 ∷ n)) (x ++ (47 ∷ n))) (behind_last cur (x ++ (47 ∷ n))) ≡ n
    go f g true = f
    go f g false = g

pub child_leaf : ChildLeaf
child_leaf p n h = behind-last (child p n) (stem p) n h

-- what stands before the last slash, or the root where that is nothing
pub parent_of : (x n : List ℕ) → plain n ≡ true → parent (x ++ (47 ∷ n)) ≡ cond (eqb (length x) 0) root x
unfolding parent
parent_of x n h =
    let l : leaf (x ++ (47 ∷ n)) ≡ n = behind-last (x ++ (47 ∷ n)) x n h in
    let e : length (x ++ (47 ∷ n)) - (length (leaf (x ++ (47 ∷ n))) + 1) ≡ length x = omega (arith, ap length l, length-append x (47 ∷ n)) in
    ap (λ m. cond (eqb m 0) root (take m (x ++ (47 ∷ n)))) e
    ∙ ap (λ y. cond (eqb (length x) 0) root y) (take_at x (47 ∷ n) (length x) refl)

pub child_parent : ChildParent
child_parent p n l h =
    ⊎_elim
    (λ e. ap (λ q. parent (child q n)) e ∙ ap (λ x. parent (x ++ (47 ∷ n))) stem-root ∙ parent_of [] n h ∙ sym e)
    (λ s.
    ap (λ x. parent (x ++ (47 ∷ n))) s.1
    ∙ parent_of p n h
    ∙ cond-false (eqb (length p) 0) root p (ne_eqb (length p) 0 (λ z. omega arith)))
    (by-root p)

pub child_only : ChildOnly
child_only p q n m k l g h e =
    (sym (child_parent p n k g) ∙ ap parent e ∙ child_parent q m l h, sym (child_leaf p n g) ∙ ap leaf e ∙ child_leaf q m h)

pub child_length : ChildLength
child_length p n = omega (arith, length-append (stem p) (47 ∷ n))

pub child_longer : ChildLonger
child_longer p n l =
    let c = child_length p n in
    ⊎_elim
    (λ e. let r : length (stem p) ≡ 0 = ap (λ q. length (stem q)) e ∙ ap length stem-root in let k = ap length e in (omega arith, omega arith))
    (λ s. let r = ap length s.1 in (omega arith, omega arith))
    (by-root p)

-- ---- the text of a path

parts-plain : (cur n : List ℕ) → plain n ≡ true → parts cur n ≡ (cur ++ n) ∷ []
unfolding parts
parts-plain cur [] h = ap (λ x. x ∷ []) (sym (append-nil cur))
parts-plain cur (b ∷ bs) h =
    let k = slashless b bs h in
    cond-false (eqb b 47) _ _ k.0 ∙ parts-plain (cur ++ (b ∷ [])) bs k.1 ∙ ap (λ x. x ∷ []) (append_assoc cur (b ∷ []) bs)

pub parts_join : (cur x y : List ℕ) → parts cur (x ++ (47 ∷ y)) ≡ parts cur x ++ parts [] y
unfolding parts
parts_join cur [] y = refl
parts_join cur (b ∷ x) y = go (parts_join [] x y) (parts_join (cur ++ (b ∷ [])) x y) (eqb b 47)
  where
    go : parts [] (x ++ (47 ∷ y)) ≡ parts [] x ++ parts [] y → parts (cur ++ (b ∷ [])) (x ++ (47 ∷ y)) ≡ parts (cur ++ (b ∷ [])) x ++ parts [] y → (v : Bool) → cond v (cur ∷ parts [] (x ++ (47 ∷ y))) (parts (cur ++ (b ∷ [])) (x ++ (47 ∷ y))) ≡ cond v (cur ∷ parts [] x) (parts (cur ++ (b ∷ [])) x) ++ parts [] y
    go f g true = ap (λ r. cur ∷ r) f
    go f g false = g

each_append : {A : Type 0} (p : A → Bool) (xs ys : List A) → each p (xs ++ ys) ≡ (each p xs && each p ys)
each_append p [] ys = refl
each_append p (x ∷ xs) ys = let h = each_append p xs ys in grind (arith, nat_tests)

pub and_true : (v : Bool) → (v && true) ≡ v
and_true true = refl
and_true false = refl

-- the names of a path, with what follows a further slash
pub names_join : (x y : List ℕ) → each node_name (parts [] (x ++ (47 ∷ y))) ≡ (each node_name (parts [] x) && each node_name (parts [] y))
names_join x y = ap (each node_name) (parts_join [] x y) ∙ each_append node_name (parts [] x) (parts [] y)

pub names-one : (n : List ℕ) → plain n ≡ true → each node_name (parts [] n) ≡ node_name n
names-one n h = ap (each node_name) (parts-plain [] n h) ∙ and_true (node_name n)

nonzero : (xs : List ℕ) → 0 < length xs → eqb (length xs) 0 ≡ false
nonzero xs l = ne_eqb (length xs) 0 (λ z. omega arith)

-- a path that is not the root is its names
pub text-names : (b : ℕ) (bs : List ℕ) → (b ∷ bs ≡ root → ⊥) → path_text (b ∷ bs) ≡ (eqb b 47 && each node_name (parts [] bs))
unfolding path_text
text-names b bs n = go (eqb b 47) refl (eqb (length bs) 0) refl
  where
    go : (v : Bool) → eqb b 47 ≡ v → (w : Bool) → eqb (length bs) 0 ≡ w → (v && (w || each node_name (parts [] bs))) ≡ (v && each node_name (parts [] bs))
    go false e w f = refl
    go true e false f = refl
    go true e true f = absurd (n (λ i. eqb-true b 47 e i ∷ nil_from_length bs (eqb-true (length bs) 0 f) i))

-- the text of a path with more behind a slash
text-more : (x y : List ℕ) → 0 < length x → (x ≡ root → ⊥) → path_text (x ++ (47 ∷ y)) ≡ (path_text x && each node_name (parts [] y))
text-more [] y l n = absurd (omega arith)
text-more (b ∷ bs) y l n =
    let m : b ∷ (bs ++ (47 ∷ y)) ≡ root → ⊥ = λ e. omega (arith, ap length e, length-append bs (47 ∷ y)) in
    let f = text-names b (bs ++ (47 ∷ y)) m in
    let g = text-names b bs n in
    let h = names_join bs y in
    grind (arith, nat_tests)

text-one : (n : List ℕ) → 0 < length n → plain n ≡ true → path_text (47 ∷ n) ≡ node_name n
text-one n l h = text-names 47 n (λ e. omega (arith, ap length e)) ∙ names-one n h

pub child_text : ChildText
unfolding path_text
child_text p n k l h =
    ⊎_elim
    (λ e. ap (λ q. path_text (child q n)) e ∙ ap (λ x. path_text (x ++ (47 ∷ n))) stem-root ∙ text-one n l h ∙ ap (λ q. path_text q && node_name n) (sym e))
    (λ s.
    ap (λ x. path_text (x ++ (47 ∷ n))) s.1
    ∙ text-more p n k s.0
    ∙ ap (λ v. path_text p && v) (names-one n h))
    (by-root p)

-- ---- a path taken apart

-- a list has no slash, or is cut at its last
pub cut : (s : List ℕ) → (plain s ≡ true) ⊎ ((x : List ℕ) × (n : List ℕ) × (s ≡ x ++ (47 ∷ n)) × (plain n ≡ true))
cut [] = inl refl
cut (b ∷ bs) = go (cut bs) (eqb b 47) refl
  where
    go : (plain bs ≡ true) ⊎ ((x : List ℕ) × (n : List ℕ) × (bs ≡ x ++ (47 ∷ n)) × (plain n ≡ true)) → (v : Bool) → eqb b 47 ≡ v → (plain (b ∷ bs) ≡ true) ⊎ ((x : List ℕ) × (n : List ℕ) × (b ∷ bs ≡ x ++ (47 ∷ n)) × (plain n ≡ true))
    go (inr c) v e = inr (b ∷ c.0, c.1, ap (λ r. b ∷ r) c.2, c.3)
    go (inl h) true e = inr ([], bs, ap (λ a. a ∷ bs) (eqb-true b 47 e), h)
    go (inl h) false e = inl (and_from (not (eqb b 47)) (plain bs) (not_from_false (eqb b 47) e) h)

abbrev Splits : List ℕ → Type 0
Splits p = (child (parent p) (leaf p) ≡ p) × (path_text (parent p) ≡ true) × (node_name (leaf p) ≡ true)

-- from the parent and the name, once these are known
splits-from : (p q n : List ℕ) → parent p ≡ q → leaf p ≡ n → child q n ≡ p → path_text q ≡ true → node_name n ≡ true → Splits p
splits-from p q n e f c g h = ((λ i. child (e i) (f i)) ∙ c, ap path_text e ∙ g, ap node_name f ∙ h)

no_name : node_name [] ≡ false
unfolding node_name
no_name = refl

-- no name stands between two slashes
double : (n : List ℕ) → path_text (47 ∷ (47 ∷ n)) ≡ false
unfolding parts
double n =
    text-names 47 (47 ∷ n) (λ e. omega (arith, ap length e))
    ∙ ap (λ v. v && each node_name (parts [] n)) no_name

splits : (x n : List ℕ) → plain n ≡ true → path_text (x ++ (47 ∷ n)) ≡ true → (x ++ (47 ∷ n) ≡ root → ⊥) → Splits (x ++ (47 ∷ n))
splits [] [] h e o = absurd (o refl)
splits [] (b ∷ bs) h e o =
    let n = b ∷ bs in
    splits-from (47 ∷ n) root n (parent_of [] n h) (behind-last (47 ∷ n) [] n h) (ap (λ x. x ++ (47 ∷ n)) stem-root) root_ends.0 (sym (text-one n (omega arith) h) ∙ e)
splits (c ∷ y) n h e o =
    let x = c ∷ y in
    let p = x ++ (47 ∷ n) in
    let r : x ≡ root → ⊥ = λ q. true≢false (sym e ∙ ap (λ z. path_text (z ++ (47 ∷ n))) q ∙ double n) in
    let k = and_parts (path_text x) (each node_name (parts [] n)) (sym (text-more x n (omega arith) r) ∙ e) in
    splits-from p x n (parent_of x n h ∙ cond-false (eqb (length x) 0) root x (nonzero x (omega arith))) (behind-last p x n h) (ap (λ z. z ++ (47 ∷ n)) (stem-other x r)) k.0 (sym (names-one n h) ∙ k.1)

-- a path has a slash
slashed : (p : List ℕ) → path_text p ≡ true → plain p ≡ true → ⊥
slashed p e h =
    let s = path_starts p e in
    true≢false (sym h ∙ ap plain s.1)

pub path_splits : PathSplits
path_splits p e o =
    ⊎_elim
    (λ h. absurd (slashed p e h))
    (λ c.
    let s : p ≡ c.0 ++ (47 ∷ c.1) = c.2 in
    subst Splits (sym s) (splits c.0 c.1 c.3 (ap path_text (sym s) ∙ e) (λ q. o (s ∙ q))))
    (cut p)

-- ---- below a path

pub under_nothing : UnderNothing
under_nothing p = refl

pub under_some : (p r : List ℕ) → 0 < length r → under p r ≡ stem p ++ r
under_some p r l = cond-false (eqb (length r) 0) p (stem p ++ r) (nonzero r l)

pub under_length : UnderLength
under_length p r l = ap length (under_some p r l) ∙ length-append (stem p) r

join_other : (x r : List ℕ) → 0 < length r → (r ≡ root → ⊥) → x ++ r ≡ root → ⊥
join_other [] r l o e = o e
join_other (c ∷ x) r l o e = omega (arith, ap length e, length-append x r)

pub under_child : UnderChild
under_child p [] n o = under_some p (47 ∷ n) (omega arith)
under_child p (b ∷ bs) n o =
    let r = b ∷ bs in
    let l : 0 < length r = omega arith in
    let u = under_some p r l in
    under_some p (r ++ (47 ∷ n)) (omega (arith, length-append r (47 ∷ n)))
    ∙ sym (append_assoc (stem p) r (47 ∷ n))
    ∙ ap (λ x. x ++ (47 ∷ n)) (sym (ap stem u ∙ stem-other (stem p ++ r) (join_other (stem p) r l o)))

pub under_text : UnderText
under_text p r e f o =
    let s = path_starts r f in
    let y = s.0 in
    let i : path_text (47 ∷ y) ≡ true = ap path_text (sym s.1) ∙ f in
    let k : each node_name (parts [] y) ≡ true = sym (text-names 47 y (λ q. o (s.1 ∙ q))) ∙ i in
    let u : under p r ≡ stem p ++ (47 ∷ y) = ap (under p) s.1 ∙ under_some p (47 ∷ y) (omega arith) in
    ap path_text u
    ∙ ⊎_elim
    (λ q. ap (λ x. path_text (x ++ (47 ∷ y))) (ap stem q ∙ stem-root) ∙ i)
    (λ q.
    let t = path_starts p e in
    ap (λ x. path_text (x ++ (47 ∷ y))) q.1
    ∙ text-more p y (omega (arith, ap length t.1)) q.0
    ∙ and_from (path_text p) (each node_name (parts [] y)) e k)
    (by-root p)

-- nothing but the path itself is nothing below it
under-itself : (p : List ℕ) (c : ℕ) (s : List ℕ) → (c ∷ s ≡ root → ⊥) → p ≡ stem p ++ (c ∷ s) → ⊥
under-itself p c s o e =
    ⊎_elim
    (λ q. o (sym (ap (λ x. x ++ (c ∷ s)) (ap stem q ∙ stem-root)) ∙ sym e ∙ q))
    (λ q. omega (arith, ap length e, length-append (stem p) (c ∷ s), ap length q.1))
    (by-root p)

pub under_only : UnderOnly
under_only p [] [] o q e = refl
under_only p [] (c ∷ s) o q e = absurd (under-itself p c s q (e ∙ under_some p (c ∷ s) (omega arith)))
under_only p (b ∷ r) [] o q e = absurd (under-itself p b r o (sym e ∙ under_some p (b ∷ r) (omega arith)))
under_only p (b ∷ r) (c ∷ s) o q e =
    append_cancel_left (stem p) (b ∷ r) (c ∷ s) (sym (under_some p (b ∷ r) (omega arith)) ∙ e ∙ under_some p (c ∷ s) (omega arith))
