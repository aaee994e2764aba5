-- Tokens as bytes. Assumes nothing.
use Rattle.std.proofs.Common.{◌≡◌, ℕ, zero, suc, ◌+◌, ◌-◌, ◌*◌, List, [], ◌∷◌, ◌++◌, length, replicate, sym, refl, ap, ◌∙◌, append_assoc, add-zero, add_assoc, arith, length-append}
use Rattle.std.proofs.lemmas.List.{length-replicate}
use Rattle.tree.specs.Numbers.{pad4}
use Rattle.tree.specs.Places.{Bytes}
use Rattle.blob.specs.Tokens.{Tok, begin, property, end, nop, finish}
use Rattle.packed.specs.Packing.{padded, token_bytes, token_size, name_bytes, name_size, structure, strings, size_of, names_of, ends}
use Rattle.packed.specs.Stands.{TokenLaws}

pub length-padded : (v : Bytes) → length (padded v) ≡ pad4 (length v)
length-padded v =
    let a = length-append v (replicate (pad4 (length v) - length v) 0) in
    let b : length (replicate {A = ℕ} (pad4 (length v) - length v) 0) ≡ pad4 (length v) - length v = length-replicate (pad4 (length v) - length v) 0 in
    omega arith

pub token-size : (k : ℕ) (t : Tok) → length (token_bytes k t) ≡ token_size t
token-size k (begin name) =
    let a = length-padded (name ++ (0 ∷ [])) in
    let b = length-append name (0 ∷ []) in
    let c : pad4 (length (name ++ (0 ∷ []))) ≡ pad4 (length name + 1) = ap pad4 b in
    omega arith
token-size k (property name value) = let a = length-padded value in omega arith
token-size k end = refl
token-size k nop = refl
token-size k finish = refl

pub name-size : (t : Tok) → length (name_bytes t) ≡ name_size t
name-size (begin name) = refl
name-size (property name value) = length-append name (0 ∷ [])
name-size end = refl
name-size nop = refl
name-size finish = refl

pub size_is : (k : ℕ) (ts : List Tok) → length (structure k ts) ≡ size_of ts
unfolding structure size_of
size_is k [] = refl
size_is k (t ∷ ts) =
    let a = length-append (token_bytes k t) (structure (k + name_size t) ts) in
    let b = token-size k t in
    let c = size_is (k + name_size t) ts in
    omega arith

pub names-is : (ts : List Tok) → length (strings ts) ≡ names_of ts
unfolding strings names_of
names-is [] = refl
names-is (t ∷ ts) =
    let a = length-append (name_bytes t) (strings ts) in
    let b = name-size t in
    let c = names-is ts in
    omega arith

pub structure_join : (k : ℕ) (ts us : List Tok) → structure k (ts ++ us) ≡ structure k ts ++ structure (k + names_of ts) us
unfolding structure names_of
structure_join k [] us = ap (λ n. structure n us) (sym (add-zero k))
structure_join k (t ∷ ts) us =
    ap (λ x. token_bytes k t ++ x) (structure_join (k + name_size t) ts us ∙ ap (λ n. structure (k + name_size t) ts ++ structure n us) (add_assoc k (name_size t) (names_of ts)))
    ∙ sym (append_assoc (token_bytes k t) (structure (k + name_size t) ts) (structure (k + (name_size t + names_of ts)) us))

pub strings_join : (ts us : List Tok) → strings (ts ++ us) ≡ strings ts ++ strings us
unfolding strings
strings_join [] us = refl
strings_join (t ∷ ts) us = ap (λ x. name_bytes t ++ x) (strings_join ts us) ∙ sym (append_assoc (name_bytes t) (strings ts) (strings us))

pub size_join : (ts us : List Tok) → size_of (ts ++ us) ≡ size_of ts + size_of us
unfolding size_of
size_join [] us = omega arith
size_join (t ∷ ts) us = let h = size_join ts us in omega arith

pub names_join : (ts us : List Tok) → names_of (ts ++ us) ≡ names_of ts + names_of us
unfolding names_of
names_join [] us = omega arith
names_join (t ∷ ts) us = let h = names_join ts us in omega arith

pub size-one : (t : Tok) (ts : List Tok) → size_of (t ∷ ts) ≡ token_size t + size_of ts
unfolding size_of
size-one t ts = refl

pub names-one : (t : Tok) (ts : List Tok) → names_of (t ∷ ts) ≡ name_size t + names_of ts
unfolding names_of
names-one t ts = refl

pub size-ends : (n : ℕ) → size_of (ends n) ≡ 4 * n
unfolding size_of
size-ends zero = refl
size-ends (suc n) = let h = size-ends n in omega arith

pub names-ends : (n : ℕ) → names_of (ends n) ≡ 0
unfolding names_of
names-ends zero = refl
names-ends (suc n) = let h = names-ends n in omega arith

pub token_laws : TokenLaws
token_laws = record { size = size_is; names = names-is; split = structure_join; strung = strings_join }
