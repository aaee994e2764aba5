-- The turns of a walk. Assumes nothing.
use Rattle.std.proofs.Common.{◌≡◌, ℕ, ◌+◌, ◌-◌, ◌<◌, ◌≤◌, Bool, true, cond, ◌||◌, eqb, leb, ◌⊎◌, [], ◌∷◌, ◌++◌, length, take, drop, is_some, Some, None, Ok, Err, Option, Result, sym, refl, ap, ◌∙◌, inl, inr, ⊎_elim, append_assoc, arith, length-append}
use Rattle.std.proofs.lemmas.List.{take_at, length-take-le, take-take, nil_from_length}
use Rattle.std.proofs.lemmas.Bool.{cases_Bool, and_from, or_right, or_left, eq-eqb, cond-true, leb-true, leb-false, le-leb, and_parts}
use Rattle.names.specs.Names.{node_name}
use Rattle.names.specs.Paths.{root, path_text, stem, child, leaf, parent}
use Rattle.names.proofs.NameLaws.{node_names}
use Rattle.names.proofs.PathLaws.{by-root, path_splits, path_starts, stem-root}
use Rattle.tree.specs.Places.{Bytes, node_at}
use Rattle.tree.specs.Trees.{Tree, Sound, look}
use Rattle.store.specs.Calls.{Meaning, closed, holds, Good, tested, there, length_of, named, over, next_child, child_on, names, least_after}
use Rattle.store.specs.declared.Refusal.{Refusal}
use Rattle.store.specs.declared.Refusal.TheVariants.{BadName, Absent, Short}
use Rattle.walk.specs.Steps.{Stands, Next}
use Rattle.walk.specs.declared.walk.Child.{Child}
use Rattle.walk.specs.Walks.{beyond, first_path, next_node}
use Rattle.walk.proofs.Ancestors.{some_byte}
use Rattle.walk.proofs.Marks.{key, end_of, Asked, end-key}
use Rattle.walk.proofs.Turns.{on_some, on_none, on_start, on_top}

-- tests that pass
pub three_pass : {A : Type 0} (x y z : Bool) (e f g : Refusal) (a : A) → x ≡ true → y ≡ true → z ≡ true → tested ((x, e) ∷ (y, f) ∷ (z, g) ∷ []) a ≡ Ok a
three_pass x y z e f g a p q r = cond-true x _ _ p ∙ cond-true y _ _ q ∙ cond-true z _ _ r

asked-test : (rule : Bytes → Bool) (a : Bytes) → (a ≡ []) ⊎ (rule a ≡ true) → (eqb (length a) 0 || rule a) ≡ true
asked-test rule a h = ⊎_elim (λ e. or_left (eqb (length a) 0) (rule a) (eq-eqb (length a) 0 (ap length e))) (λ e. or_right (eqb (length a) 0) (rule a) e) h

-- the question for the next child passes its tests
pub child-asked : (t : Tree) → Sound t → (r a : Bytes) → look t (node_at r) ≡ Some [] → Asked a → next_child (holds t) r a 63 ≡ Ok (least_after a (names (child_on r) t.places))
child-asked t s r a h k =
    three_pass _ _ _ BadName Absent Short _ (and_from _ _ (s.named (node_at r) [] h) (asked-test node_name a k)) (ap is_some h) refl

-- so does the walk's
pub node-asked : (t : Tree) → Sound t → (p : Bytes) (room : ℕ) → look t (node_at p) ≡ Some [] → 256 ≤ room → next_node (holds t) p room ≡ Ok (first_path (beyond p t.places))
node-asked t s p room h l =
    three_pass _ _ _ BadName Absent Short _ (or_right (eqb (length p) 0) (path_text p) (s.named (node_at p) [] h)) (or_right (eqb (length p) 0) (there t (node_at p)) (ap is_some h)) (le-leb 256 room l)

-- where a walk from p stands: before the children of r, or behind the one named a; what is behind p is what is behind there
abbrev pub Standing : Meaning → Bytes → Bytes → Bytes → Type 0
Standing closed p r a = ⊥
Standing (holds t) p r a = (look t (node_at r) ≡ Some []) × Asked a × (beyond p t.places ≡ beyond (key r a) t.places)

pub standing_start : (M : Meaning) (p : Bytes) → Good M → Stands M p → Standing M p p []
standing_start closed p g h = h
standing_start (holds t) p g h = (h, inl refl, on_start t g p h)

-- the answer of the walk where the question finds a child
pub found-child : (M : Meaning) (p r a m : Bytes) (room : ℕ) → Good M → Stands M p → 256 ≤ room → Standing M p r a → next_child M r a 63 ≡ Ok (Some m)
    → (next_node M p room ≡ Ok (Some (child r m))) × (length (child r m) ≤ 255)
found-child closed p r a m room g st l h e = absurd h
found-child (holds t) p r a m room g st l h e =
    let x : least_after a (names (child_on r) t.places) ≡ Some m = let y = sym (child-asked t g r a h.0 h.1) ∙ e in cc in
    let f = on_some t g r a h.0 h.1 m x in (
      node-asked t g p room st l ∙ ap Ok (ap first_path h.2 ∙ f.first),
      leb-true (length (child r m)) 255 (and_parts (leb (length (child r m)) 255) _ (g.short (node_at (child r m)) [] f.there)).0,
    )

-- the question is never refused
pub never-refused : (M : Meaning) (p r a : Bytes) (e : Refusal) → Good M → Standing M p r a → next_child M r a 63 ≡ Err e → ⊥
never-refused closed p r a e g h x = h
never-refused (holds t) p r a e g h x = let z : ◌≡◌ {A = ℕ} 0 1 = let y = sym (child-asked t g r a h.0 h.1) ∙ x in cc in omega arith

no-child : (t : Tree) (r a : Bytes) → next_child (holds t) r a 63 ≡ Ok None → next_child (holds t) r a 63 ≡ Ok (least_after a (names (child_on r) t.places)) → least_after a (names (child_on r) t.places) ≡ None
no-child t r a e f = let y = sym f ∙ e in cc

-- a root without a further child ends the walk
pub found-end : (M : Meaning) (p r a : Bytes) (room : ℕ) → Good M → Stands M p → 256 ≤ room → Standing M p r a → next_child M r a 63 ≡ Ok None → length r ≤ 1 → next_node M p room ≡ Ok None
found-end closed p r a room g st l h e n = absurd h
found-end (holds t) p r a room g st l h e n =
    let top : r ≡ root = let b = path_starts r (g.named (node_at r) [] h.0) in b.1 ∙ ap (λ x. 47 ∷ x) (nil_from_length b.0 (let z = ap length b.1 in omega arith)) in
    let x = on_none t g r a h.0 h.1 (no-child t r a e (child-asked t g r a h.0 h.1)) in
    node-asked t g p room st l ∙ ap (λ es. Ok (first_path es)) (h.2 ∙ x ∙ ap (λ y. beyond (end_of y) t.places) top ∙ on_top t g)

-- any other is left
pub found_up : (M : Meaning) (p r a : Bytes) → Good M → Standing M p r a → next_child M r a 63 ≡ Ok None → 1 < length r
    → Standing M p (parent r) (leaf r) × (child (parent r) (leaf r) ≡ r) × (length (leaf r) ≤ 63) × (0 < length (parent r))
found_up closed p r a g h e n = absurd h
found_up (holds t) p r a g h e n =
    let x = on_none t g r a h.0 h.1 (no-child t r a e (child-asked t g r a h.0 h.1)) in
    let top : r ≡ root → ⊥ = λ z. let y = ap length z in omega arith in
    let text = g.named (node_at r) [] h.0 in
    let w = path_splits r text top in (
      (g.hangs (node_at r) [] h.0, inr w.2, h.2 ∙ x ∙ ap (λ y. beyond y t.places) (end-key r text top)),
      w.0,
      (node_names (leaf r) w.2).2,
      some_byte (parent r) w.1,
    )

-- ---- parts of a path

-- a path begins with its parent
pub parent-front : (r : Bytes) → child (parent r) (leaf r) ≡ r → 0 < length (parent r) → (take (length (parent r)) r ≡ parent r) × (length (parent r) + 0 < length r + 1)
parent-front r e h =
    ⊎_elim
    (λ z.
    let k : r ≡ root ++ leaf r = sym e ∙ ap (λ y. stem y ++ (47 ∷ leaf r)) z ∙ ap (λ y. y ++ (47 ∷ leaf r)) stem-root in
    let n = ap length k in
    let m = ap length z in
    (ap (λ y. take (length y) r) z ∙ ap (take 1) k ∙ sym z, omega arith))
    (λ z.
    let k : r ≡ parent r ++ (47 ∷ leaf r) = sym e ∙ ap (λ y. y ++ (47 ∷ leaf r)) z.1 in
    let n = ap length k ∙ length-append (parent r) (47 ∷ leaf r) in
    (ap (take (length (parent r))) k ∙ take_at (parent r) (47 ∷ leaf r) (length (parent r)) refl, omega arith))
    (by-root (parent r))

pub stem-front : (path : Bytes) (len : ℕ) → path_text (take len path) ≡ true → len ≤ length path → take (cond (leb len 1) 0 len) path ≡ stem (take len path)
stem-front path len h l =
    let k = length-take-le len path l in
    let b = some_byte (take len path) h in
    ⊎_elim
    (λ t.
    let e = leb-true len 1 t in
    let p = path_starts (take len path) h in
    let top : take len path ≡ root = p.1 ∙ ap (λ x. 47 ∷ x) (nil_from_length p.0 (let z = ap length p.1 in omega arith)) in
    ap (λ z. take (cond z 0 len) path) t ∙ sym (ap stem top ∙ stem-root))
    (λ f.
    let e = leb-false len 1 f in
    ap (λ z. take (cond z 0 len) path) f ∙ ⊎_elim (λ z. let y = ap length z in absurd (omega arith)) (λ z. sym z.1) (by-root (take len path)))
    (cases_Bool (leb len 1))

-- what a question for a name answers, by its length and its buffer
pub by-some : (X : Result (Option Bytes) Refusal) (k : ℕ) (out : Bytes) → Ok (Some k) ≡ length_of X → (b : Bytes) × (X ≡ Ok (Some b)) × (length b ≡ k) × (take k (named X out) ≡ b)
by-some (Err e) k out h = let z : ◌≡◌ {A = ℕ} 0 1 = cc in absurd (omega arith)
by-some (Ok None) k out h = let z : ◌≡◌ {A = ℕ} 0 1 = cc in absurd (omega arith)
by-some (Ok (Some v)) k out h = let e : length v ≡ k = cc in (v, refl, e, take_at v (drop (length v) out) k e)

pub by-none : (X : Result (Option Bytes) Refusal) → Ok None ≡ length_of X → X ≡ Ok None
by-none (Err e) h = let z : ◌≡◌ {A = ℕ} 0 1 = cc in absurd (omega arith)
by-none (Ok None) h = refl
by-none (Ok (Some v)) h = let z : ◌≡◌ {A = ℕ} 0 1 = cc in absurd (omega arith)

pub by_err : (X : Result (Option Bytes) Refusal) (e : Refusal) → Err e ≡ length_of X → X ≡ Err e
by_err (Err d) e h = let z : d ≡ e = cc in ap Err z
by_err (Ok None) e h = let z : ◌≡◌ {A = ℕ} 0 1 = cc in absurd (omega arith)
by_err (Ok (Some v)) e h = let z : ◌≡◌ {A = ℕ} 0 1 = cc in absurd (omega arith)

pub less_none : (n : ℕ) (xs : Bytes) → take (n - 0) xs ≡ take n xs
less_none n xs = let z : n - 0 ≡ n = omega arith in ap (λ k. take k xs) z

text_standing : (M : Meaning) (p r a : Bytes) → Good M → Standing M p r a → path_text r ≡ true
text_standing closed p r a g h = absurd h
text_standing (holds t) p r a g h = g.named (node_at r) [] h.0

-- one turn of the climb from the node at p: r is open, and the children up to a are behind
module _ (M : Meaning) (p r a : Bytes) (g : Good M) (st : Stands M p) (h : Standing M p r a) (begins : take (length r) p ≡ r) (x : Result (Option ℕ) Refusal) (said : x ≡ length_of (next_child M r a 63)) where
  pub turn_refused : (e : Refusal) → x ≡ Err e → ⊥
  turn_refused e saw = never-refused M p r a e g h (by_err (next_child M r a 63) e (sym saw ∙ said))

  pub turn_end : x ≡ Ok None → length r ≤ 1 → next_node M p 256 ≡ Ok None
  turn_end saw e = found-end M p r a 256 g st (omega arith) h (by-none (next_child M r a 63) (sym saw ∙ said)) e

  pub record Up : Type 0 where
    pub less : length (parent r) < length r
    pub stands : Standing M p (parent r) (leaf r)
    pub front : take (length (parent r)) p ≡ parent r

  pub turn_up : x ≡ Ok None → 1 < length r → Up
  turn_up saw e =
      let u = found_up M p r a g h (by-none (next_child M r a 63) (sym saw ∙ said)) e in
      let f = parent-front r u.1 u.3 in
      let less : length (parent r) < length r = parent_less r (length r) u.1 refl e in
      record {
        less = less;
        stands = u.0;
        front = sym (ap (take (length (parent r))) (sym begins) ∙ take-take (length (parent r)) (length r) p (omega arith)) ∙ f.0;
      }
    where
      parent_less : (q : Bytes) (len : ℕ) → child (parent q) (leaf q) ≡ q → length q ≡ len → 1 < len → length (parent q) < len
      parent_less q len e k m =
          ⊎_elim
          (λ z. let y = ap length z in omega arith)
          (λ z. let y = ap length (sym e ∙ ap (λ x. x ++ (47 ∷ leaf q)) z.1) ∙ length-append (parent q) (47 ∷ leaf q) in omega arith)
          (by-root (parent q))

  pub turn_some : (m : ℕ) (out : Bytes) (c : Child) → x ≡ Ok (Some m) → c.stem ≤ length r → take c.stem r ≡ stem r → c.name.items ≡ take m (named (next_child M r a 63) out) → Next M p c
  turn_some m out c saw low sm nm =
      let b = by-some (next_child M r a 63) m out (sym saw ∙ said) in
      let name : c.name.items ≡ b.0 = nm ∙ b.3 in
      let f = found-child M p r a b.0 256 g st (omega arith) h b.1 in
      let whole : length r ≤ length p = let z = ap length begins in let y = length-take-most (length r) p in omega arith in
      let sf : take c.stem p ≡ stem r =
      sym (ap (take c.stem) (sym begins) ∙ take-take c.stem (length r) p low) ∙ sm in
      let fl = length-take-le c.stem p (omega arith) in
      let sl = ap length sf in
      let bl = ap length name in
      let cl : length (stem r ++ (47 ∷ b.0)) ≡ length (stem r) + length (47 ∷ b.0) = length-append (stem r) (47 ∷ b.0) in
      let up : length (stem r ++ (47 ∷ b.0)) ≤ 255 = f.1 in
      record {
        is = f.0 ∙ (λ i. Ok (Some (sym sf i ++ (47 ∷ sym name i))));
        within = omega arith;
        short = omega arith;
      }
    where
      length-take-most : (n : ℕ) (xs : Bytes) → length (take n xs) ≤ length xs
      length-take-most n xs = omega (arith, lib.ListN.length-take n xs)

-- what a name's buffer begins with once it is filled
pub front-filled : (ys rest : Bytes) (n : ℕ) (name : Bytes) → ys ≡ name → n ≡ length name → take n (ys ++ rest) ≡ name
front-filled ys rest n name e h = ap (λ x. take n (x ++ rest)) e ∙ take_at name rest n (sym h)

-- the buffer of a path where a child was joined to it
pub joined-over : (path name last : Bytes) (stem : ℕ) → last ≡ take stem path ++ (47 ∷ (name ++ drop (stem + 1 + length name) path)) → stem + 1 + length name ≤ length path → last ≡ over (take stem path ++ (47 ∷ name)) path
joined-over path name last stem e l =
    let a = length-append (take stem path) (47 ∷ name) in
    let b = length-take-le stem path (omega arith) in
    let n : stem + 1 + length name ≡ length (take stem path ++ (47 ∷ name)) = omega arith in
    e ∙ ap (λ k. take stem path ++ (47 ∷ (name ++ drop k path))) n ∙ sym (append_assoc (take stem path) (47 ∷ name) (drop (length (take stem path ++ (47 ∷ name))) path))
