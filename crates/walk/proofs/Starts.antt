-- How a walk starts, and why it is refused. Assumes nothing.
use Rattle.std.proofs.Common.{◌≡◌, ℕ, ◌-◌, ◌<◌, ◌≤◌, min, Bool, true, false, ◌||◌, eqb, leb, [], ◌∷◌, length, take, set, Some, Ok, Err, sym, refl, ap, ◌∙◌, ⊎_elim, arith}
use Rattle.std.proofs.lemmas.List.{take_all, length-take-le, set_split}
use Rattle.std.proofs.lemmas.Bool.{cases_Bool, cases_lt, ne_eqb, le-leb, lt-leb, cond-true, cond-false}
use Rattle.names.specs.Paths.{root, path_text}
use Rattle.tree.specs.Places.{Bytes, node_at}
use Rattle.tree.specs.Trees.{Tree}
use Rattle.store.specs.Calls.{Meaning, closed, holds, Good, tested, there, over, has_node, boot_of}
use Rattle.store.specs.declared.Refusal.TheVariants.{BadName, Absent, Short, Closed}
use Rattle.store.proofs.Keeps.{node-there}
use Rattle.walk.specs.Steps.{Stands}
use Rattle.walk.specs.Walks.{beyond, first_path, next_node}
use Rattle.walk.proofs.Climbs.{three_pass}
use Rattle.walk.proofs.Turns.{on_empty}
use Rattle.store.specs.declared.Refusal.{Refusal}

pub first_ok : (M : Meaning) (b room : ℕ) → Good M → boot_of M ≡ Ok b → 256 ≤ room → next_node M [] room ≡ Ok (Some root)
first_ok closed b room g e l = let z : ◌≡◌ {A = ℕ} 0 1 = cc in absurd (omega arith)
first_ok (holds t) b room g e l = three_pass true true (leb 256 room) BadName Absent Short _ refl refl (le-leb 256 room l) ∙ ap Ok (on_empty t g)

pub first_short : (M : Meaning) (b room : ℕ) → boot_of M ≡ Ok b → room < 256 → next_node M [] room ≡ Err Short
first_short closed b room e l = let z : ◌≡◌ {A = ℕ} 0 1 = cc in absurd (omega arith)
first_short (holds t) b room e l = cond-false (leb 256 room) _ _ (lt-leb 256 room l)

pub first-closed : (M : Meaning) (d : Refusal) (p : Bytes) (room : ℕ) → boot_of M ≡ Err d → next_node M p room ≡ Err d
first-closed closed d p room e = let z : Closed ≡ d = cc in ap Err z
first-closed (holds t) d p room e = let z : ◌≡◌ {A = ℕ} 0 1 = cc in absurd (omega arith)

pub root_over : (path : Bytes) → 256 ≤ length path → set path 0 47 ≡ over root path
root_over path l = set_split path 0 47 (omega arith)

pub take_min : (n : ℕ) (xs : Bytes) → take (min n (length xs)) xs ≡ take n xs
take_min n xs =
    ⊎_elim
    (λ h. let e : min n (length xs) ≡ n = omega arith in ap (λ k. take k xs) e)
    (λ h. let e : min n (length xs) ≡ length xs = omega arith in ap (λ k. take k xs) e ∙ take_all (length xs) xs (omega arith) ∙ sym (take_all n xs h))
    (cases_lt n (length xs))

some-length : (p : Bytes) → 0 < length p → eqb (length p) 0 ≡ false
some-length p h = ne_eqb (length p) 0 (λ e. omega arith)

module _ (t : Tree) (p : Bytes) (h : 0 < length p) where
  named-test : (eqb (length p) 0 || path_text p) ≡ path_text p
  named-test = ap (λ b. b || path_text p) (some-length p h)

  there-test : (eqb (length p) 0 || there t (node_at p)) ≡ there t (node_at p)
  there-test = ap (λ b. b || there t (node_at p)) (some-length p h)

  asked : (room : ℕ) → next_node (holds t) p room ≡ tested ((path_text p, BadName) ∷ (there t (node_at p), Absent) ∷ (leb 256 room, Short) ∷ []) (first_path (beyond p t.places))
  asked room i = tested ((named-test i, BadName) ∷ (there-test i, Absent) ∷ (leb 256 room, Short) ∷ []) (first_path (beyond p t.places))

  -- what the question whether the node is there tells
  told : (d : Bool) → has_node (holds t) p ≡ Ok d → (path_text p ≡ true) × (there t (node_at p) ≡ d)
  told d e =
      ⊎_elim
      (λ q. (q, let z : there t (node_at p) ≡ d = let y = sym (cond-true (path_text p) (Ok (there t (node_at p))) (Err BadName) q) ∙ e in cc in z))
      (λ q. let y = sym (cond-false (path_text p) (Ok (there t (node_at p))) (Err BadName) q) ∙ e in let z : ◌≡◌ {A = ℕ} 0 1 = cc in absurd (omega arith))
      (cases_Bool (path_text p))

pub node-refused : (M : Meaning) (p : Bytes) (d : Refusal) (room : ℕ) → 0 < length p → has_node M p ≡ Err d → next_node M p room ≡ Err d
node-refused closed p d room h e = let z : Closed ≡ d = cc in ap Err z
node-refused (holds t) p d room h e =
    ⊎_elim
    (λ q. let y = sym (cond-true (path_text p) (Ok (there t (node_at p))) (Err BadName) q) ∙ e in let z : ◌≡◌ {A = ℕ} 0 1 = cc in absurd (omega arith))
    (λ q.
    let y = sym (cond-false (path_text p) (Ok (there t (node_at p))) (Err BadName) q) ∙ e in
    let z : BadName ≡ d = cc in
    asked t p h room ∙ cond-false (path_text p) _ _ q ∙ ap Err z)
    (cases_Bool (path_text p))

pub node-absent : (M : Meaning) (p : Bytes) (room : ℕ) → 0 < length p → has_node M p ≡ Ok false → next_node M p room ≡ Err Absent
node-absent closed p room h e = let z : ◌≡◌ {A = ℕ} 0 1 = cc in absurd (omega arith)
node-absent (holds t) p room h e =
    let k = told t p h false e in
    asked t p h room ∙ cond-true (path_text p) _ _ k.0 ∙ cond-false (there t (node_at p)) _ _ k.1

pub node-short : (M : Meaning) (p : Bytes) (room : ℕ) → 0 < length p → has_node M p ≡ Ok true → room < 256 → next_node M p room ≡ Err Short
node-short closed p room h e l = let z : ◌≡◌ {A = ℕ} 0 1 = cc in absurd (omega arith)
node-short (holds t) p room h e l =
    let k = told t p h true e in
    asked t p h room ∙ cond-true (path_text p) _ _ k.0 ∙ cond-true (there t (node_at p)) _ _ k.1 ∙ cond-false (leb 256 room) _ _ (lt-leb 256 room l)

pub node-stands : (M : Meaning) (p : Bytes) → Good M → 0 < length p → has_node M p ≡ Ok true → Stands M p
node-stands closed p g h e = let z : ◌≡◌ {A = ℕ} 0 1 = cc in absurd (omega arith)
node-stands (holds t) p g h e = node-there t g p (told t p h true e).1

-- the first `len` bytes, as the code has them
pub front-is : (len at : ℕ) (xs : Bytes) → at ≡ min len (length xs) → take (at - 0) xs ≡ take len xs
front-is len at xs e = let z : at - 0 ≡ min len (length xs) = omega arith in ap (λ k. take k xs) z ∙ take_min len xs

pub front_at : (len at : ℕ) (xs : Bytes) → at ≡ min len (length xs) → take at xs ≡ take len xs
front_at len at xs e = ap (λ k. take k xs) e ∙ take_min len xs

pub front-some : (len at : ℕ) (xs : Bytes) → at ≡ min len (length xs) → (at ≡ 0 → ⊥) → 0 < length (take len xs)
front-some len at xs e n =
    let k = length-take-le at xs (omega arith) in
    let z = ap length (front_at len at xs e) in
    ⊎_elim (λ h. h) (λ h. absurd (n (omega arith))) (cases_lt 0 (length (take len xs)))
