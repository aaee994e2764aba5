-- Tokens put into a blob and taken out of it, as bytes. Assumes nothing.
use Rattle.std.proofs.Common.{◌≡◌, ℕ, ◌+◌, ◌≤◌, List, [], ◌∷◌, ◌++◌, length, take, drop, replicate, sym, refl, ap, ◌∙◌, append_assoc, arith, length-append}
use Rattle.std.proofs.lemmas.List.{take-append-drop, take_at, length-take-le}
use Rattle.tree.specs.Places.{Bytes}
use Rattle.blob.specs.Tokens.{Tok, begin, end}
use Rattle.packed.specs.Packing.{token_bytes, token_size, name_bytes, name_size, structure, strings, size_of, names_of, header_bytes, packed}
use Rattle.packed.specs.Regions.{memory, Holding}
use Rattle.packed.specs.Headers.{Resized}
use Rattle.splices.specs.Splices.{spliced_in, spliced_out}
use Rattle.packed.specs.declared.region.Region.{Region}
use Rattle.std.specs.List.{between}
use Rattle.packed.proofs.Grown.{brought-in, taken_out}
use Rattle.packed.proofs.Tokens.{token-size, size_is, names-is, structure_join, strings_join, size_join, names_join, size-one, names-one}

-- all but the header
abbrev pub body : List Tok → Bytes
body ts = replicate 16 0 ++ (structure 0 ts ++ strings ts)

-- the first k bytes are 40 others and then the blob's blocks
pub record Face (m : Bytes) (k : ℕ) (h : Bytes) (ts : List Tok) : Type 0 where
  pub bytes : take k m ≡ h ++ body ts
  pub size : k ≡ 56 + size_of ts + names_of ts
  pub head : length h ≡ 40

-- a token without a name of its own
pub record Plain (t : Tok) : Type 0 where
  pub none : name_bytes t ≡ []
  pub zero : name_size t ≡ 0
  pub same : (k : ℕ) → token_bytes k t ≡ token_bytes 0 t

pub plain-begin : (name : Bytes) → Plain (begin name)
plain-begin name = record { none = refl; zero = refl; same = λ k. refl }

pub plain_end : Plain end
plain_end = record { none = refl; zero = refl; same = λ k. refl }

module _ (h : Bytes) (ta tb : List Tok) (t : Tok) (p : Plain t) where
  abbrev front : Bytes
  front = h ++ (replicate 16 0 ++ structure 0 ta)

  abbrev back : Bytes
  back = structure (names_of ta) tb ++ strings (ta ++ tb)

  cut : h ++ body (ta ++ tb) ≡ front ++ back
  cut =
      ap (λ z. h ++ (replicate 16 0 ++ (z ++ strings (ta ++ tb)))) (structure_join 0 ta tb ∙ ap (λ k. structure 0 ta ++ structure k tb) (let z : 0 + names_of ta ≡ names_of ta = omega arith in z))
      ∙ ap (λ z. h ++ (replicate 16 0 ++ z)) (append_assoc (structure 0 ta) (structure (names_of ta) tb) (strings (ta ++ tb)))
      ∙ ap (λ z. h ++ z) (sym (append_assoc (replicate 16 0) (structure 0 ta) back))
      ∙ sym (append_assoc h (replicate 16 0 ++ structure 0 ta) back)

  strings-same : strings (ta ++ (t ∷ tb)) ≡ strings (ta ++ tb)
  unfolding strings
  strings-same = strings_join ta (t ∷ tb) ∙ ap (λ z. strings ta ++ (z ++ strings tb)) p.none ∙ sym (strings_join ta tb)

  structure-one : structure (names_of ta) (t ∷ tb) ≡ token_bytes 0 t ++ structure (names_of ta) tb
  unfolding structure
  structure-one =
      let z = p.zero in
      let w : names_of ta + name_size t ≡ names_of ta = omega arith in
      (λ i. p.same (names_of ta) i ++ structure (w i) tb)

  -- with the token in between
  pasted : h ++ body (ta ++ (t ∷ tb)) ≡ front ++ (token_bytes 0 t ++ back)
  pasted =
      ap (λ z. h ++ (replicate 16 0 ++ (z ++ strings (ta ++ (t ∷ tb))))) (structure_join 0 ta (t ∷ tb) ∙ ap (λ k. structure 0 ta ++ structure k (t ∷ tb)) (let z : 0 + names_of ta ≡ names_of ta = omega arith in z) ∙ ap (λ z. structure 0 ta ++ z) structure-one)
      ∙ ap (λ z. h ++ (replicate 16 0 ++ ((structure 0 ta ++ (token_bytes 0 t ++ structure (names_of ta) tb)) ++ z))) strings-same
      ∙ ap (λ z. h ++ (replicate 16 0 ++ z)) (append_assoc (structure 0 ta) (token_bytes 0 t ++ structure (names_of ta) tb) (strings (ta ++ tb)) ∙ ap (λ z. structure 0 ta ++ z) (append_assoc (token_bytes 0 t) (structure (names_of ta) tb) (strings (ta ++ tb))))
      ∙ ap (λ z. h ++ z) (sym (append_assoc (replicate 16 0) (structure 0 ta) (token_bytes 0 t ++ back)))
      ∙ sym (append_assoc h (replicate 16 0 ++ structure 0 ta) (token_bytes 0 t ++ back))

  front_length : length h ≡ 40 → length front ≡ 56 + size_of ta
  front_length e =
      let a = length-append h (replicate 16 0 ++ structure 0 ta) in
      let b : length (replicate {A = ℕ} 16 0 ++ structure 0 ta) ≡ 16 + length (structure 0 ta) = length-append (replicate 16 0) (structure 0 ta) in
      let c = size_is 0 ta in
      omega arith

  sizes-more : (56 + size_of (ta ++ (t ∷ tb)) + names_of (ta ++ (t ∷ tb)) ≡ 56 + size_of (ta ++ tb) + names_of (ta ++ tb) + token_size t)
  sizes-more =
      let a = size_join ta (t ∷ tb) in
      let b = size-one t tb in
      let c = size_join ta tb in
      let d = names_join ta (t ∷ tb) in
      let e = names-one t tb in
      let f = names_join ta tb in
      let z = p.zero in
      omega arith

  pub put_in : (m m1 m2 : Bytes) (used at k : ℕ) → Face m used h (ta ++ tb) → used ≤ length m → take k m1 ≡ take used m ++ token_bytes 0 t → k ≡ used + token_size t → at ≡ 56 + size_of ta
      → take k m2 ≡ spliced_in (take used m1) at (between used k m1) → Face m2 k h (ta ++ (t ∷ tb))
  put_in m m1 m2 used at k f room e ek ea b =
      let s = f.size in
      let l = sizes-more in
      let lt = token-size 0 t in
      record {
        bytes =
            brought-in m1 m2 (take used m) (token_bytes 0 t) front back used at (token_size t) k e ek (length-take-le used m room) lt (f.bytes ∙ cut) (front_length f.head ∙ sym ea) b
            ∙ sym pasted;
        size = omega arith;
        head = f.head;
      }

  pub take_away : (m m1 : Bytes) (used at k : ℕ) → Face m used h (ta ++ (t ∷ tb)) → k + token_size t ≡ used → at ≡ 56 + size_of ta → take k m1 ≡ spliced_out (take used m) at (token_size t) → Face m1 k h (ta ++ tb)
  take_away m m1 used at k f ek ea b =
      let s = f.size in
      let l = sizes-more in
      record {
        bytes =
            taken_out m m1 front (token_bytes 0 t) back used at (token_size t) k (f.bytes ∙ pasted) (front_length f.head ∙ sym ea) (token-size 0 t) b
            ∙ sym cut;
        size = omega arith;
        head = f.head;
      }

-- the face of a blob, and a blob by its face
pub face_of : (x : Region) (ts : List Tok) → Holding x ts → Face (memory x) (56 + x.structure + x.strings) (header_bytes x.boot (size_of ts) (names_of ts)) ts
unfolding packed
face_of x ts h =
    let a = h.structure in
    let b = h.strings in
    let n : 56 + x.structure + x.strings ≡ 56 + size_of ts + names_of ts = omega arith in
    record { bytes = ap (λ k. take k (memory x)) n ∙ h.front; size = n; head = refl }

pub held_by : (x : Region) (ts : List Tok) (m : Bytes) (boot n₀ s₀ : ℕ) → Face m (56 + x.structure + x.strings) (header_bytes boot n₀ s₀) ts → Resized m x.structure x.strings (memory x)
    → x.boot ≡ boot → x.structure ≡ size_of ts → 40960 ≤ length (memory x) → 56 + size_of ts + names_of ts ≤ 40960 → Holding x ts
unfolding packed
held_by x ts m boot n₀ s₀ f r eb es room small =
    let k : ℕ = 56 + x.structure + x.strings in
    let z = f.size in
    let en : x.strings ≡ names_of ts = omega arith in
    let whole : m ≡ header_bytes boot n₀ s₀ ++ (body ts ++ drop k m) = sym (take-append-drop k m) ∙ ap (λ t. t ++ drop k m) f.bytes ∙ append_assoc (header_bytes boot n₀ s₀) (body ts) (drop k m) in
    let now : memory x ≡ header_bytes boot x.structure x.strings ++ (body ts ++ drop k m) = r boot n₀ s₀ (body ts ++ drop k m) whole in
    let grouped : memory x ≡ (header_bytes x.boot (size_of ts) (names_of ts) ++ body ts) ++ drop k m =
    now ∙ (λ i. header_bytes (sym eb i) (es i) (en i) ++ (body ts ++ drop k m)) ∙ sym (append_assoc (header_bytes x.boot (size_of ts) (names_of ts)) (body ts) (drop k m)) in
    let lb : length (header_bytes x.boot (size_of ts) (names_of ts) ++ body ts) ≡ 56 + size_of ts + names_of ts =
    let a : length (structure 0 ts ++ strings ts) ≡ length (structure 0 ts) + length (strings ts) = length-append (structure 0 ts) (strings ts) in
    let b = size_is 0 ts in
    let c = names-is ts in
    omega arith in
    record {
      room = room;
      structure = es;
      strings = en;
      small = small;
      front = ap (take (56 + size_of ts + names_of ts)) grouped ∙ take_at _ (drop k m) (56 + size_of ts + names_of ts) lb;
    }
