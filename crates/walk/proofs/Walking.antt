-- A loop over the nodes, by what the walk answers. Assumes nothing.
use Rattle.std.proofs.Common.{◌≡◌, ℕ, ◌<◌, ◌≤◌, Bool, true, false, ◌||◌, eqb, leb, ◌⊎◌, [], ◌∷◌, length, take, Some, None, Ok, Err, Option, Result, sym, refl, ap, ◌∙◌, inl, inr, ⊎_elim, arith, is_some, subst}
use Rattle.std.proofs.lemmas.Bool.{and_parts, or_right, leb-true}
use Rattle.names.specs.Paths.{path_text}
use Rattle.tree.specs.Places.{Bytes, node_at}
use Rattle.tree.specs.Trees.{Tree, look, nodes}
use Rattle.store.specs.Calls.{Meaning, closed, holds, Good, tested, there, length_of, named}
use Rattle.store.specs.declared.Refusal.{Refusal}
use Rattle.store.specs.declared.Refusal.TheVariants.{BadName, Absent, Short, Closed}
use Rattle.walk.specs.Steps.{Stands, walks}
use Rattle.walk.specs.Nodes.{Gives}
use Rattle.arrayvec.specs.ArrayVec.{ArrayVec}
use Rattle.walk.specs.Walks.{beyond, first_path, next_node}
use Rattle.walk.proofs.Climbs.{node-asked, by-some, by-none, by_err}
use Rattle.walk.proofs.Loops.{step}

-- an answer behind three tests
three_ok : {A : Type 0} (x y z : Bool) (e f g : Refusal) (a b : A) → tested ((x, e) ∷ (y, f) ∷ (z, g) ∷ []) a ≡ Ok b → a ≡ b
three_ok true true true e f g a b h = cc
three_ok true true false e f g a b h = let z : ◌≡◌ {A = ℕ} 0 1 = cc in absurd (omega arith)
three_ok true false z e f g a b h = let z : ◌≡◌ {A = ℕ} 0 1 = cc in absurd (omega arith)
three_ok false y z e f g a b h = let z : ◌≡◌ {A = ℕ} 0 1 = cc in absurd (omega arith)

-- p is empty or a node
abbrev pub Walking : Meaning → Bytes → Type 0
Walking closed p = Unit {0}
Walking (holds t) p = (p ≡ []) ⊎ (look t (node_at p) ≡ Some [])

pub walking_start : (M : Meaning) → Walking M []
walking_start closed = tt
walking_start (holds t) = inl refl

pub stands_walks : (M : Meaning) (p : Bytes) → Stands M p → walks M p ≡ true
stands_walks closed p h = refl
stands_walks (holds t) p h = or_right (eqb (length p) 0) (there t (node_at p)) (ap is_some h)

-- how many nodes are to come
abbrev pub left : Meaning → Bytes → ℕ
left closed p = 0
left (holds t) p = nodes (beyond p t.places)

pub answered : (t : Tree) (p : Bytes) (room : ℕ) (o : Option Bytes) → next_node (holds t) p room ≡ Ok o → first_path (beyond p t.places) ≡ o
answered t p room o e = three_ok (eqb (length p) 0 || path_text p) (eqb (length p) 0 || there t (node_at p)) (leb 256 room) BadName Absent Short (first_path (beyond p t.places)) o e

-- a walk is only refused where the tree is closed
pub walk_refused : (M : Meaning) (p : Bytes) (e : Refusal) → Good M → Walking M p → next_node M p 256 ≡ Err e → (M ≡ closed) × (e ≡ Closed)
walk_refused closed p e g w h = (refl, cc)
walk_refused (holds t) p e g w h =
    ⊎_elim
    (λ z. let y = sym (ap (λ x. next_node (holds t) x 256) z) ∙ h in let x : ◌≡◌ {A = ℕ} 0 1 = cc in absurd (omega arith))
    (λ z. let y = sym (node-asked t g p 256 z (omega arith)) ∙ h in let x : ◌≡◌ {A = ℕ} 0 1 = cc in absurd (omega arith))
    w

-- the facts of the next node
pub record Reached (M : Meaning) (p q : Bytes) : Type 0 where
  pub stands : Stands M q
  pub walking : Walking M q
  pub less : left M q < left M p
  pub short : length q ≤ 255

pub reached : (M : Meaning) (p q : Bytes) (room : ℕ) → Good M → next_node M p room ≡ Ok (Some q) → Reached M p q
reached closed p q room g e = let z : ◌≡◌ {A = ℕ} 0 1 = cc in absurd (omega arith)
reached (holds t) p q room g e =
    let s = step t g p q (answered t p room (Some q) e) in
    record {
      stands = s.there;
      walking = inr s.there;
      less = s.less;
      short = leb-true (length q) 255 (and_parts (leb (length q) 255) _ (g.short (node_at q) [] s.there)).0;
    }

-- what a buffer of 256 bytes begins with then
pub turned : (M : Meaning) (p path last : Bytes) (r : Result (Option ℕ) Refusal) (n : ℕ) → Good M → r ≡ length_of (next_node M p (length path)) → last ≡ named (next_node M p (length path)) path → r ≡ Ok (Some n) → Stands M (take n last)
turned M p path last r n g answer buffer saw =
    let b = by-some (next_node M p (length path)) n path (sym saw ∙ answer) in
    subst (Stands M) (sym (ap (take n) buffer ∙ b.3)) (reached M p b.0 (length path) g b.1).stands

-- a turn of a loop over a cursor that goes from p to q
pub record Turn (M : Meaning) (p q x : Bytes) : Type 0 where
  pub is : next_node M p 256 ≡ Ok (Some q)
  pub same : x ≡ q
  pub reached : Reached M p q

pub turn_to : (M N : Meaning) (p q : Bytes) (o : Option (ArrayVec ℕ)) (x : ArrayVec ℕ) → Good M → N ≡ M → Gives N p (Ok o) q → o ≡ Some x → Turn M p q x.items
turn_to M N p q o x g e h s =
    let y = subst (λ z. Gives M p (Ok z) q) s (subst (λ z. Gives z p (Ok o) q) e h) in
    let is : next_node M p 256 ≡ Ok (Some q) = y.0 ∙ ap (λ z. Ok (Some z)) (sym y.1) in
    record { is = is; same = sym y.1; reached = reached M p q 256 g is }

pub turn_none : (M N : Meaning) (p q : Bytes) (o : Option (ArrayVec ℕ)) → N ≡ M → Gives N p (Ok o) q → o ≡ None → next_node M p 256 ≡ Ok None
turn_none M N p q o e h s = (subst (λ z. Gives M p (Ok z) q) s (subst (λ z. Gives z p (Ok o) q) e h)).0

-- one turn of such a loop, as code has it: a buffer of 256 bytes with the path at its start
module _ (M : Meaning) (path : Bytes) (len : ℕ) (g : Good M) (full : length path ≡ 256) (w : Walking M (take len path)) (r : Result (Option ℕ) Refusal) (last : Bytes)
    (answer : r ≡ length_of (next_node M (take len path) (length path))) (buffer : last ≡ named (next_node M (take len path) (length path)) path) where
  room : next_node M (take len path) (length path) ≡ next_node M (take len path) 256
  room = ap (next_node M (take len path)) full

  told : r ≡ length_of (next_node M (take len path) 256)
  told = answer ∙ ap length_of room

  pub turn_closed : (e : Refusal) → r ≡ Err e → (M ≡ closed) × (e ≡ Closed)
  turn_closed e saw = walk_refused M (take len path) e g w (by_err (next_node M (take len path) 256) e (sym saw ∙ told))

  pub turn_done : r ≡ Ok None → next_node M (take len path) 256 ≡ Ok None
  turn_done saw = by-none (next_node M (take len path) 256) (sym saw ∙ told)

  pub record On (n : ℕ) : Type 0 where
    pub is : next_node M (take len path) 256 ≡ Ok (Some (take n last))
    pub reached : Reached M (take len path) (take n last)
    pub size : length (take n last) ≡ n
    pub short : n ≤ 255

  pub turn_on : (n : ℕ) → r ≡ Ok (Some n) → On n
  turn_on n saw =
      let b = by-some (next_node M (take len path) 256) n path (sym saw ∙ told) in
      let q : take n last ≡ b.0 = ap (take n) (buffer ∙ ap (λ x. named x path) room) ∙ b.3 in
      let is : next_node M (take len path) 256 ≡ Ok (Some (take n last)) = b.1 ∙ ap (λ x. Ok (Some x)) (sym q) in
      let re = reached M (take len path) (take n last) 256 g is in
      let size : length (take n last) ≡ n = ap length q ∙ b.2 in
      record { is = is; reached = re; size = size; short = let s = re.short in omega arith }

pub ok_one : {A E : Type 0} {x y : A} → ◌≡◌ {A = Result A E} (Ok x) (Ok y) → x ≡ y
ok_one e = cc
