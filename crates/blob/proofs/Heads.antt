-- An accepted header is one by the format, and lays its blocks within the bytes. Assumes nothing.
use Rattle.std.proofs.Common.{◌≡◌, ℕ, ◌+◌, ◌<◌, ◌≤◌, true, eqb, List, [], ◌∷◌, length, get_or, IfOk, Ok, Err, Result, sym, refl, ◌∙◌, arith, eq-eqb, eqb-true}
use Rattle.std.proofs.lemmas.List.Edits.{length-between, get_or-between}
use Rattle.std.proofs.ByRecursion.{All-get_or, All-from_get_or}
use Rattle.std.proofs.lemmas.Bool.{and_parts}
use Rattle.std.proofs.lemmas.Bool.Decides.{nat_tests}
use Rattle.std.specs.List.{between, AllByRecursion}
use Rattle.names.specs.Names.{each}
use Rattle.blob.specs.Grammar.{Header, Accepts}
use Rattle.blob.specs.Header.{reservation_offset, is_zero, empty_at, header, identified, versioned, placed, layout_of, Within}
use Rattle.blob.specs.declared.types.Layout.{Layout}
use Rattle.blob.specs.declared.types.Refusal.{Refusal}

-- each byte passes as 0, and each is 0
zeros-all : (xs : List ℕ) → each is_zero xs ≡ true → AllByRecursion (λ b. b ≡ 0) xs
zeros-all [] e = tt
zeros-all (x ∷ xs) e = let p = and_parts (eqb x 0) (each is_zero xs) e in (eqb-true x 0 p.0, zeros-all xs p.1)

all-zeros : (xs : List ℕ) → AllByRecursion (λ b. b ≡ 0) xs → each is_zero xs ≡ true
all-zeros [] a = refl
all-zeros (x ∷ xs) a = rw (eq-eqb x 0 a.0) (all-zeros xs a.1)

module _ (bs : List ℕ) (i : ℕ) (h : i + 16 ≤ length bs) where
  sixteen : length (between i (i + 16) bs) ≡ 16
  sixteen = let e = length-between bs i (i + 16) h in omega arith

  empty-bytes : empty_at bs i ≡ true → (k : ℕ) → k < 16 → get_or bs (i + k) 0 ≡ 0
  empty-bytes e k lt = sym (get_or-between bs i (i + 16) k 0 (omega arith)) ∙ All-get_or (λ b. b ≡ 0) (between i (i + 16) bs) k 0 (rw sixteen lt) (zeros-all (between i (i + 16) bs) e)

  bytes-empty : ((k : ℕ) → k < 16 → get_or bs (i + k) 0 ≡ 0) → empty_at bs i ≡ true
  bytes-empty z =
      all-zeros (between i (i + 16) bs)
      (All-from_get_or (λ b. b ≡ 0) (between i (i + 16) bs) 0 (λ k lt. let u : k < 16 = rw sixteen at lt in get_or-between bs i (i + 16) k 0 (omega arith) ∙ z k u))

pub header-sound : (bs : List ℕ) (l : Layout) → header bs ≡ Ok l → Header bs l
unfolding header identified versioned placed
header-sound bs l e =
    let h : reservation_offset bs + 16 ≤ length bs = grind (arith, nat_tests) in
    let z : empty_at bs (reservation_offset bs) ≡ true = grind (arith, nat_tests) in
    record {
      whole = grind (arith, nat_tests);
      magic = grind (arith, nat_tests);
      least = grind (arith, nat_tests);
      held = grind (arith, nat_tests);
      small = grind (arith, nat_tests);
      version = grind (arith, nat_tests);
      compatible = grind (arith, nat_tests);
      structure_held = grind (arith, nat_tests);
      strings_held = grind (arith, nat_tests);
      reservation_held = grind (arith, nat_tests);
      structure_aligned = grind (arith, nat_tests);
      reservation_aligned = grind (arith, nat_tests);
      empty = empty-bytes bs (reservation_offset bs) h z;
      start = grind (arith, nat_tests);
      stop = grind (arith, nat_tests);
      strings = grind (arith, nat_tests);
      strings_stop = grind (arith, nat_tests);
      boot = grind (arith, nat_tests);
    }

layout_is : (bs : List ℕ) (l : Layout) → Header bs l → layout_of bs ≡ l
layout_is bs l h = λ i. record { start = sym h.start i; end = sym h.stop i; strings = sym h.strings i; strings_end = sym h.strings_stop i; boot = sym h.boot i }

pub header-complete : (bs : List ℕ) (l : Layout) → Header bs l → header bs ≡ Ok l
unfolding header identified versioned placed
header-complete bs l h =
    let z : empty_at bs (reservation_offset bs) ≡ true = bytes-empty bs (reservation_offset bs) (omega arith) h.empty in
    let e = layout_is bs l h in
    grind (arith, nat_tests)

pub header-within : (bs : List ℕ) (l : Layout) → header bs ≡ Ok l → Within bs l
header-within bs l e =
    let h = header-sound bs l e in
    record { structure_order = omega arith; structure = omega arith; strings_order = omega arith; strings = omega arith }

within-made : (bs : List ℕ) (r : Result Layout Refusal) → r ≡ header bs → IfOk r (λ l. Within bs l)
within-made bs (Ok l) e = header-within bs l (sym e)
within-made bs (Err x) e = tt

-- what `check_header` promises of its answer follows from its value
pub checked : (bs : List ℕ) (r : Result Layout Refusal) → r ≡ header bs → record { value : r ≡ header bs; format : Accepts bs r; within : IfOk r (λ l. Within bs l) }
checked bs r e = record { value = e; format = λ l. (λ o. header-sound bs l (sym e ∙ o), λ h. e ∙ header-complete bs l h); within = within-made bs r e }
