-- What one node adds to a search. Assumes nothing.
use Rattle.std.proofs.Common.{◌≡◌, ℕ, ◌<◌, ◌≤◌, max, true, false, cond, leb, List, [], ◌++◌, Some, None, Ok, Err, Option, sym, refl, ap, ◌∙◌, arith, eqb}
use Rattle.std.proofs.lemmas.Bool.{cond-true, cond-false, le-leb, lt-leb}
use Rattle.tree.specs.Phandles.{largest_of, holder_of}
use Rattle.tree.specs.Places.{Bytes}
use Rattle.store.specs.Calls.{Meaning, closed, holds, Good, boot_of}
use Rattle.walk.specs.Walks.{next_node}
use Rattle.handles.specs.Searches.{largest_in, holder_in, handle_at, noted}
use Rattle.std.specs.Option.{unwrap_or, option_eq}
use Rattle.handles.proofs.Rests.{own, rest, all, rest-start, rest_some, rest-none}
use Rattle.store.specs.declared.Refusal.{Refusal}
use Rattle.store.specs.declared.Refusal.TheVariants.{Closed, Short}

pub largest_own : (q : Bytes) (o : Option Bytes) (hs : List (Bytes × Bytes)) → largest_of (own q o ++ hs) ≡ max (unwrap_or (noted o) 0) (largest_of hs)
unfolding largest_of
largest_own q None hs = omega arith
largest_own q (Some v) hs = refl

pub largest_step : (M : Meaning) (p q : Bytes) (best next : ℕ) → Good M → next_node M p 256 ≡ Ok (Some q) → next ≡ max best (unwrap_or (noted (handle_at M q)) 0)
    → max best (largest_of (rest M p)) ≡ largest_of (all M) → max next (largest_of (rest M q)) ≡ largest_of (all M)
largest_step M p q best next g e n h =
    let a = ap largest_of (rest_some M p q 256 g e) ∙ largest_own q (handle_at M q) (rest M q) in
    omega arith

pub largest_start : (M : Meaning) → Good M → max 0 (largest_of (rest M [])) ≡ largest_of (all M)
largest_start M g = let a = ap largest_of (rest-start M g) in omega arith

pub largest_done : (M : Meaning) (p : Bytes) (best : ℕ) → Good M → next_node M p 256 ≡ Ok None → max best (largest_of (rest M p)) ≡ largest_of (all M) → Ok best ≡ largest_in M
unfolding largest_of
largest_done closed p best g e h = let z : ◌≡◌ {A = ℕ} 0 1 = cc in absurd (omega arith)
largest_done (holds t) p best g e h = let a = ap largest_of (rest-none (holds t) p 256 g e) in ap Ok (omega arith)

pub largest_closed : (M : Meaning) (e : Refusal) → M ≡ closed → e ≡ Closed → Err e ≡ largest_in M
largest_closed M e m d = ap Err d ∙ ap largest_in (sym m)

-- ---- the node that has a number

pub holder-own : (q : Bytes) (n : ℕ) (o : Option Bytes) (hs : List (Bytes × Bytes)) → holder_of n (own q o ++ hs) ≡ cond (option_eq eqb (noted o) (Some n)) (Some q) (holder_of n hs)
unfolding holder_of
holder-own q n None hs = refl
holder-own q n (Some v) hs = refl

pub holder-step : (M : Meaning) (p q : Bytes) (n : ℕ) → Good M → next_node M p 256 ≡ Ok (Some q) → holder_of n (rest M p) ≡ cond (option_eq eqb (noted (handle_at M q)) (Some n)) (Some q) (holder_of n (rest M q))
holder-step M p q n g e = ap (holder_of n) (rest_some M p q 256 g e) ∙ holder-own q n (handle_at M q) (rest M q)

-- the answer of the search, where it is open and there is room
pub holder-is : (M : Meaning) (b n room : ℕ) → boot_of M ≡ Ok b → 256 ≤ room → holder_in M n room ≡ Ok (holder_of n (all M))
holder-is closed b n room e l = let z : ◌≡◌ {A = ℕ} 0 1 = cc in absurd (omega arith)
holder-is (holds t) b n room e l = cond-true (leb 256 room) _ _ (le-leb 256 room l)

pub holder-short : (M : Meaning) (b n room : ℕ) → boot_of M ≡ Ok b → room < 256 → holder_in M n room ≡ Err Short
holder-short closed b n room e l = let z : ◌≡◌ {A = ℕ} 0 1 = cc in absurd (omega arith)
holder-short (holds t) b n room e l = cond-false (leb 256 room) _ _ (lt-leb 256 room l)

pub holder-closed : (M : Meaning) (n room : ℕ) (d : Refusal) → boot_of M ≡ Err d → holder_in M n room ≡ Err d
holder-closed closed n room d e = let z : Closed ≡ d = cc in ap Err z
holder-closed (holds t) n room d e = let z : ◌≡◌ {A = ℕ} 0 1 = cc in absurd (omega arith)

pub open_not-closed : (M : Meaning) (b : ℕ) → boot_of M ≡ Ok b → M ≡ closed → ⊥
open_not-closed closed b e m = let z : ◌≡◌ {A = ℕ} 0 1 = cc in omega arith
open_not-closed (holds t) b e m = let z : ◌≡◌ {A = ℕ} 0 1 = cc in omega arith

pub found_here : (M : Meaning) (p q : Bytes) (n : ℕ) → Good M → next_node M p 256 ≡ Ok (Some q) → option_eq eqb (noted (handle_at M q)) (Some n) ≡ true → holder_of n (rest M p) ≡ holder_of n (all M) → holder_of n (all M) ≡ Some q
found_here M p q n g e t h = sym h ∙ holder-step M p q n g e ∙ cond-true (option_eq eqb (noted (handle_at M q)) (Some n)) _ _ t

pub found-later : (M : Meaning) (p q : Bytes) (n : ℕ) → Good M → next_node M p 256 ≡ Ok (Some q) → option_eq eqb (noted (handle_at M q)) (Some n) ≡ false → holder_of n (rest M p) ≡ holder_of n (all M) → holder_of n (rest M q) ≡ holder_of n (all M)
found-later M p q n g e t h = sym (cond-false (option_eq eqb (noted (handle_at M q)) (Some n)) _ _ t) ∙ sym (holder-step M p q n g e) ∙ h

pub found-never : (M : Meaning) (p : Bytes) (n : ℕ) → Good M → next_node M p 256 ≡ Ok None → holder_of n (rest M p) ≡ holder_of n (all M) → holder_of n (all M) ≡ None
unfolding holder_of
found-never M p n g e h = sym h ∙ ap (holder_of n) (rest-none M p 256 g e)
