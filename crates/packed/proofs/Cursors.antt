-- Tokens that stand in the memory from some byte on. Assumes nothing.
use Rattle.std.proofs.Common.{◌≡◌, ℕ, zero, suc, ◌+◌, ◌-◌, ◌^◌, ◌<◌, ◌≤◌, List, [], ◌∷◌, ◌++◌, length, get_or, take, drop, replicate, sym, refl, ap, ◌∙◌, append_assoc, add-zero, add_assoc, arith, length-append}
use Rattle.std.proofs.lemmas.List.{get_or-drop, drop_at, drop-drop, take_at, take-append-drop, length-drop}
use Rattle.std.specs.List.{between, AllByRecursion}
use Rattle.names.specs.Names.{before}
use Rattle.tree.specs.Numbers.{be32, bytes32, pad4}
use Rattle.tree.specs.Places.{Bytes}
use Rattle.blob.specs.Tokens.{Tok, begin, property, end, nop, finish}
use Rattle.packed.specs.Packing.{token_bytes, token_size, name_size, structure, strings, size_of, names_of, packed}
use Rattle.packed.specs.Regions.{memory, Holding, At, IsFull}
use Rattle.packed.specs.declared.region.Region.{Region}
use Rattle.packed.proofs.Tokens.{size_is, names-is, structure_join, strings_join, size_join, names_join}

-- ---- numbers in bytes

pub be32-drop : (bs : Bytes) (p i : ℕ) → be32 bs (p + i) ≡ be32 (drop p bs) i
unfolding be32
be32-drop bs p i =
    let a = get_or-drop p bs i 0 in
    let b : get_or (drop p bs) (i + 1) 0 ≡ get_or bs (p + i + 1) 0 = get_or-drop p bs (i + 1) 0 ∙ ap (λ n. get_or bs n 0) (sym (add_assoc p i 1)) in
    let c : get_or (drop p bs) (i + 2) 0 ≡ get_or bs (p + i + 2) 0 = get_or-drop p bs (i + 2) 0 ∙ ap (λ n. get_or bs n 0) (sym (add_assoc p i 2)) in
    let d : get_or (drop p bs) (i + 3) 0 ≡ get_or bs (p + i + 3) 0 = get_or-drop p bs (i + 3) 0 ∙ ap (λ n. get_or bs n 0) (sym (add_assoc p i 3)) in
    omega arith

pub be32-bytes : (n : ℕ) (ys : Bytes) → n < 2 ^ 32 → be32 (bytes32 n ++ ys) 0 ≡ n
unfolding be32
be32-bytes n ys h = omega arith

-- ---- one token

abbrev pub kind_of : Tok → ℕ
kind_of (begin name) = 1
kind_of (property name value) = 3
kind_of end = 2
kind_of nop = 4
kind_of finish = 9

pub least_size : (t : Tok) → 4 ≤ token_size t
least_size (begin name) = omega arith
least_size (property name value) = omega arith
least_size end = omega arith
least_size nop = omega arith
least_size finish = omega arith

first_word : (k : ℕ) (t : Tok) (ys : Bytes) → be32 (token_bytes k t ++ ys) 0 ≡ kind_of t
unfolding be32
first_word k (begin name) ys = refl
first_word k (property name value) ys = refl
first_word k end ys = refl
first_word k nop ys = refl
first_word k finish ys = refl

module _ (bs : Bytes) (p k : ℕ) (rest : Bytes) where
  pub at_one : (t : Tok) (ts : List Tok) → At bs p k (t ∷ ts) rest → drop p bs ≡ token_bytes k t ++ (structure (k + name_size t) ts ++ rest)
  unfolding structure
  at_one t ts h = h ∙ append_assoc (token_bytes k t) (structure (k + name_size t) ts) rest

  pub kind_at : (t : Tok) (ts : List Tok) → At bs p k (t ∷ ts) rest → be32 bs p ≡ kind_of t
  kind_at t ts h =
      ap (be32 bs) (sym (add-zero p)) ∙ be32-drop bs p 0 ∙ ap (λ z. be32 z 0) (at_one t ts h) ∙ first_word k t (structure (k + name_size t) ts ++ rest)

  pub inside-at : (ts : List Tok) → At bs p k ts rest → 1 ≤ size_of ts → p + size_of ts ≤ length bs
  inside-at ts h one =
      let a : length bs - p ≡ size_of ts + length rest = sym (length-drop p bs) ∙ ap length h ∙ length-append (structure k ts) rest ∙ ap (λ n. n + length rest) (size_is k ts) in
      omega arith

  pub pass-at : (ts us : List Tok) → At bs p k (ts ++ us) rest → At bs (p + size_of ts) (k + names_of ts) us rest
  pass-at ts us h =
      sym (drop-drop (size_of ts) p bs)
      ∙ ap (drop (size_of ts)) (h ∙ ap (λ z. z ++ rest) (structure_join k ts us) ∙ append_assoc (structure k ts) (structure (k + names_of ts) us) rest)
      ∙ drop_at (structure k ts) (structure (k + names_of ts) us ++ rest) (size_of ts) (size_is k ts)

  -- the numbers and the value of a property
  property-bytes : (name value : Bytes) (ts : List Tok) → At bs p k (property name value ∷ ts) rest → drop p bs ≡ bytes32 3 ++ (bytes32 (length value) ++ (bytes32 k ++ (value ++ (replicate (pad4 (length value) - length value) 0 ++ (structure (k + (length name + 1)) ts ++ rest)))))
  property-bytes name value ts h =
      at_one (property name value) ts h
      ∙ ap (λ z. bytes32 3 ++ (bytes32 (length value) ++ (bytes32 k ++ z))) (append_assoc value (replicate (pad4 (length value) - length value) 0) (structure (k + (length name + 1)) ts ++ rest))

  pub size-at : (name value : Bytes) (ts : List Tok) → At bs p k (property name value ∷ ts) rest → length value < 2 ^ 32 → be32 bs (p + 4) ≡ length value
  unfolding be32
  size-at name value ts h l = be32-drop bs p 4 ∙ ap (λ z. be32 z 4) (property-bytes name value ts h) ∙ be32-bytes (length value) [] l

  pub offset_at : (name value : Bytes) (ts : List Tok) → At bs p k (property name value ∷ ts) rest → k < 2 ^ 32 → be32 bs (p + 8) ≡ k
  unfolding be32
  offset_at name value ts h l = be32-drop bs p 8 ∙ ap (λ z. be32 z 8) (property-bytes name value ts h) ∙ be32-bytes k [] l

  pub value-at : (name value : Bytes) (ts : List Tok) → At bs p k (property name value ∷ ts) rest → drop (p + 12) bs ≡ value ++ (replicate (pad4 (length value) - length value) 0 ++ (structure (k + (length name + 1)) ts ++ rest))
  value-at name value ts h = sym (drop-drop 12 p bs) ∙ ap (drop 12) (property-bytes name value ts h)

  -- the name of a node
  pub name-at : (name : Bytes) (ts : List Tok) → At bs p k (begin name ∷ ts) rest → (tail : Bytes) × (drop (p + 4) bs ≡ name ++ (0 ∷ tail))
  name-at name ts h =
      let pad : Bytes = replicate (pad4 (length (name ++ (0 ∷ []))) - length (name ++ (0 ∷ []))) 0 in
      let ys : Bytes = structure (k + 0) ts ++ rest in (
        pad ++ ys,
        sym (drop-drop 4 p bs) ∙ ap (drop 4) (at_one (begin name) ts h) ∙ append_assoc (name ++ (0 ∷ [])) pad ys ∙ append_assoc name (0 ∷ []) (pad ++ ys),
      )

-- ---- texts

pub before-is : (name rest : Bytes) → AllByRecursion (λ b. b ≡ 0 → ⊥) name → before 0 (name ++ (0 ∷ rest)) ≡ length name
before-is [] rest a = refl
before-is (x ∷ name) rest a = rw (borrow.Author.Tests.ne_eqb x 0 a.0) (ap suc (before-is name rest a.1))

pub take-over : (n : ℕ) (name ys : Bytes) → length name < n → (zs : Bytes) × (take n (name ++ (0 ∷ ys)) ≡ name ++ (0 ∷ zs))
take-over zero name ys h = absurd (omega arith)
take-over (suc n) [] ys h = (take n ys, refl)
take-over (suc n) (x ∷ name) ys h = let r = take-over n name ys (omega arith) in (r.0, ap (λ z. x ∷ z) r.1)

-- a name that ends before `to`
pub text-length : (bs name tail : Bytes) (from to : ℕ) → drop from bs ≡ name ++ (0 ∷ tail) → from + length name < to → AllByRecursion (λ b. b ≡ 0 → ⊥) name → before 0 (between from to bs) ≡ length name
text-length bs name tail from to h l f =
    let r = take-over (to - from) name tail (omega arith) in
    ap (before 0) (ap (take (to - from)) h ∙ r.1) ∙ before-is name r.0 f

pub text-is : (bs name tail : Bytes) (from n : ℕ) → drop from bs ≡ name ++ (0 ∷ tail) → n ≡ length name → between from (from + n) bs ≡ name
text-is bs name tail from n h e =
    let z : from + n - from ≡ n = omega arith in
    ap (λ j. take j (drop from bs)) z ∙ ap (take n) h ∙ take_at name (0 ∷ tail) n (sym e)

-- ---- cursors

pub record Cursor (x : Region) (p : ℕ) (ts : List Tok) : Type 0 where
  pub k : ℕ
  pub rest : Bytes
  pub tail : Bytes
  pub tokens : At (memory x) p k ts rest
  pub strung : drop (56 + x.structure + k) (memory x) ≡ strings ts ++ tail
  pub stop : p + size_of ts ≡ 56 + x.structure
  pub named : k + names_of ts ≡ x.strings
  pub small : 56 + x.structure + x.strings ≤ 40960
  pub room : 40960 ≤ length (memory x)
  pub full : AllByRecursion IsFull ts

all_drop : {A : Type 0} (P : A → Type 0) (xs ys : List A) → AllByRecursion P (xs ++ ys) → AllByRecursion P ys
all_drop P [] ys h = h
all_drop P (x ∷ xs) ys h = all_drop P xs ys h.1

pub pass : (x : Region) (p : ℕ) (ts us : List Tok) → Cursor x p (ts ++ us) → Cursor x (p + size_of ts) us
pass x p ts us c =
    let a = size_join ts us in
    let b = names_join ts us in
    let s = c.stop in
    let n = c.named in
    record {
      k = c.k + names_of ts;
      rest = c.rest;
      tail = c.tail;
      tokens = pass-at (memory x) p c.k c.rest ts us c.tokens;
      strung =
          ap (λ n. drop n (memory x)) (sym (add_assoc (56 + x.structure) c.k (names_of ts)))
          ∙ sym (drop-drop (names_of ts) (56 + x.structure + c.k) (memory x))
          ∙ ap (drop (names_of ts)) (c.strung ∙ ap (λ z. z ++ c.tail) (strings_join ts us) ∙ append_assoc (strings ts) (strings us) c.tail)
          ∙ drop_at (strings ts) (strings us ++ c.tail) (names_of ts) (names-is ts);
      stop = omega arith;
      named = omega arith;
      small = c.small;
      room = c.room;
      full = all_drop IsFull ts us c.full;
    }

pub at-start : (x : Region) (ts : List Tok) → Holding x ts → AllByRecursion IsFull ts → Cursor x 56 ts
unfolding packed
at-start x ts h f =
    let a = h.structure in
    let b = h.strings in
    let n : ℕ = 56 + size_of ts + names_of ts in
    let whole : memory x ≡ packed x.boot ts ++ drop n (memory x) = sym (take-append-drop n (memory x)) ∙ ap (λ z. z ++ drop n (memory x)) h.front in
    let d : drop 56 (memory x) ≡ structure 0 ts ++ (strings ts ++ drop n (memory x)) = ap (drop 56) whole ∙ append_assoc (structure 0 ts) (strings ts) (drop n (memory x)) in
    record {
      k = 0;
      rest = strings ts ++ drop n (memory x);
      tail = drop n (memory x);
      tokens = d;
      strung =
          ap (λ z. drop z (memory x)) (let z : 56 + x.structure + 0 ≡ 56 + size_of ts = omega arith in z)
          ∙ sym (drop-drop (size_of ts) 56 (memory x))
          ∙ ap (drop (size_of ts)) d
          ∙ drop_at (structure 0 ts) (strings ts ++ drop n (memory x)) (size_of ts) (size_is 0 ts);
      stop = omega arith;
      named = omega arith;
      small = let s = h.small in omega arith;
      room = h.room;
      full = f;
    }
