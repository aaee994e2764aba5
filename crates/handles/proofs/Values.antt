-- The phandle of one node, by the questions for it. Assumes nothing.
use Rattle.std.proofs.Common.{◌≡◌, ℕ, ◌+◌, ◌-◌, ◌*◌, ◌<◌, ◌≤◌, true, ◌&&◌, leb, [], ◌++◌, length, get_or, drop, replicate, Some, None, Ok, Err, codes, Option, sym, refl, ap, ◌∙◌, ⊎_elim, arith}
use Rattle.std.proofs.lemmas.List.{get_or_append_left, get_or-append_right, get_or_past, get_or-replicate, drop-replicate}
use Rattle.std.proofs.lemmas.Bool.{cases_lt, cond-true, true≢false, and_from, and_parts, leb-true}
use Rattle.std.specs.Option.{is_some}
use Rattle.names.specs.Names.{node_byte, property_byte, property_name}
use Rattle.names.specs.Paths.{path_text}
use Rattle.tree.specs.Numbers.{be32}
use Rattle.tree.specs.Places.{Bytes, node_at, property_at}
use Rattle.store.specs.Calls.{Meaning, closed, holds, Good, value_at, length_of, copied, filled, over}
use Rattle.store.specs.declared.Refusal.{Refusal}
use Rattle.walk.specs.Steps.{Stands}
use Rattle.handles.specs.Searches.{handle_at, noted}

abbrev pub PH : Bytes
PH = codes "phandle"

good-name : property_name PH ≡ true
unfolding property_name property_byte node_byte
good-name = refl

pub value-known : (M : Meaning) (p : Bytes) → Good M → Stands M p → value_at M p PH ≡ Ok (handle_at M p)
value-known closed p g h = absurd h
value-known (holds t) p g h = cond-true (path_text p && property_name PH) _ _ (and_from (path_text p) (property_name PH) (g.named (node_at p) [] h) good-name)

short_value : (M : Meaning) (p v : Bytes) → Good M → handle_at M p ≡ Some v → length v ≤ 4096
short_value closed p v g h = let z : ◌≡◌ {A = ℕ} 0 1 = cc in absurd (omega arith)
short_value (holds t) p v g h = leb-true (length v) 4096 (and_parts (leb (length p) 255) (leb (length v) 4096) (g.short (property_at p PH) v h)).1

-- a number read from a longer buffer of zeros is that of the value
over_zeros : (v : Bytes) (n i : ℕ) → i < n → get_or (v ++ drop (length v) (replicate n 0)) i 0 ≡ get_or v i 0
over_zeros v n i h =
    ⊎_elim
    (λ l. get_or_append_left v (drop (length v) (replicate n 0)) 0 i l)
    (λ l.
    get_or-append_right v (drop (length v) (replicate n 0)) (length v) i 0 refl l
    ∙ ap (λ xs. get_or xs (i - length v) 0) (drop-replicate (length v) n 0)
    ∙ get_or-replicate (n - length v) (i - length v) 0 0 (omega arith)
    ∙ sym (get_or_past v i 0 l))
    (cases_lt i (length v))

number-over : (v : Bytes) → be32 (over v (replicate 4096 0)) 0 ≡ be32 v 0
unfolding be32
number-over v =
    let a = over_zeros v 4096 0 (omega arith) in
    let b = over_zeros v 4096 1 (omega arith) in
    let c = over_zeros v 4096 2 (omega arith) in
    let d = over_zeros v 4096 3 (omega arith) in
    (λ i. a i * 16777216 + b i * 65536 + c i * 256 + d i)

pub some_length : (o : Option ℕ) → is_some o ≡ true → (n : ℕ) × (o ≡ Some n)
some_length None h = absurd (true≢false (sym h))
some_length (Some n) h = (n, refl)

module _ (M : Meaning) (p : Bytes) (g : Good M) (st : Stands M p) where
  pub never-refused : (e : Refusal) → length_of (value_at M p PH) ≡ Err e → ⊥
  never-refused e h = go (handle_at M p) (sym (ap length_of (value-known M p g st)) ∙ h)
    where
      go : (o : Option Bytes) → length_of (Ok o) ≡ Err e → ⊥
      go None x = let z : ◌≡◌ {A = ℕ} 0 1 = cc in omega arith
      go (Some v) x = let z : ◌≡◌ {A = ℕ} 0 1 = cc in omega arith

  pub absent : length_of (value_at M p PH) ≡ Ok None → noted (handle_at M p) ≡ None
  absent h = go (handle_at M p) (sym (ap length_of (value-known M p g st)) ∙ h)
    where
      go : (o : Option Bytes) → length_of (Ok o) ≡ Ok None → noted o ≡ None
      go None x = refl
      go (Some v) x = let z : ◌≡◌ {A = ℕ} 0 1 = cc in absurd (omega arith)

  pub copy_never : (n : ℕ) (e : Refusal) → length_of (value_at M p PH) ≡ Ok (Some n) → copied (value_at M p PH) 4096 ≡ Err e → ⊥
  copy_never n e h k = go (handle_at M p) refl (sym (ap length_of (value-known M p g st)) ∙ h) (sym (ap (λ x. copied x 4096) (value-known M p g st)) ∙ k)
    where
      go : (o : Option Bytes) → handle_at M p ≡ o → length_of (Ok o) ≡ Ok (Some n) → copied (Ok o) 4096 ≡ Err e → ⊥
      go None q x y = let z : ◌≡◌ {A = ℕ} 0 1 = cc in omega arith
      go (Some v) q x y =
          let s = Rattle.std.proofs.lemmas.Bool.le-leb (length v) 4096 (short_value M p v g q) in
          let w = sym (cond-true (leb (length v) 4096) _ _ s) ∙ y in
          let z : ◌≡◌ {A = ℕ} 0 1 = cc in
          omega arith

  pub present : (n : ℕ) (last : Bytes) → length_of (value_at M p PH) ≡ Ok (Some n) → last ≡ filled (value_at M p PH) (replicate 4096 0) → noted (handle_at M p) ≡ Some (be32 last 0)
  present n last h k = go (handle_at M p) refl (sym (ap length_of (value-known M p g st)) ∙ h) (k ∙ ap (λ x. filled x (replicate 4096 0)) (value-known M p g st))
    where
      go : (o : Option Bytes) → handle_at M p ≡ o → length_of (Ok o) ≡ Ok (Some n) → last ≡ filled (Ok o) (replicate 4096 0) → noted o ≡ Some (be32 last 0)
      go None q x y = let z : ◌≡◌ {A = ℕ} 0 1 = cc in absurd (omega arith)
      go (Some v) q x y =
          let s = Rattle.std.proofs.lemmas.Bool.le-leb (length v) 4096 (short_value M p v g q) in
          let w = y ∙ cond-true (leb (length v) 4096) (over v (replicate 4096 0)) (replicate 4096 0) s in
          let b : be32 v 0 ≡ be32 last 0 = sym (number-over v) ∙ ap (λ xs. be32 xs 0) (sym w) in
          ap Some b
