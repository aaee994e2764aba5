-- The names in a valid list of nodes have no zero byte. Assumes nothing.
use Rattle.std.proofs.Common.{◌≡◌, ℕ, zero, suc, ◌+◌, ◌-◌, true, List, [], ◌∷◌, ◌++◌, Some, None, sym, ap, ◌∙◌, subst, arith}
use Rattle.std.specs.List.{AllByRecursion}
use Rattle.std.proofs.lemmas.Bool.{and_parts}
use Rattle.names.specs.Names.{property_name}
use Rattle.names.specs.Paths.{path_text}
use Rattle.tree.specs.Places.{Bytes, Place}
use Rattle.tree.specs.Trees.{Places, named_place, look}
use Rattle.blob.specs.Tokens.{begin, finish}
use Rattle.tape.specs.Nodes.{Node, Property, fits, apart, spread, listed, step, path_of, valid}
use Rattle.tape.proofs.Around.{root-parts}
use Rattle.tape.proofs.Arranged.{seek, seek-here, seek-past, apart-head}
use Rattle.tape.proofs.Finds.{fit_parts}
use Rattle.tape.proofs.Sounds.{parts, sound_open}
use Rattle.packed.specs.Packing.{ends, property_tokens, tokens_of}
use Rattle.packed.specs.Regions.{IsFull}
use Rattle.packed.proofs.Full.{full-node, full-property}

Named : Place × Bytes → Type 0
Named e = named_place e.0 ≡ true

lost : (v : Bytes) → None ≡ Some v → ⊥
lost v e = let z : ◌≡◌ {A = ℕ} 0 1 = cc in omega arith

-- what is found by its place is in the list
all_named : (es : Places) → apart es ≡ true → ((k : Place) (v : Bytes) → seek es k ≡ Some v → named_place k ≡ true) → AllByRecursion Named es
unfolding Named
all_named [] a h = tt
all_named (e ∷ es) a h =
    let p = apart-head e es a in (
      h e.0 e.1 (seek-here e.0 e.1 es),
      all_named es p.1 (λ k v s. h k v (seek-past e es k (λ q. lost v (sym p.0 ∙ ap (seek es) (sym q) ∙ s)) ∙ s)),
    )

all_right : {A : Type 0} (P : A → Type 0) (xs ys : List A) → AllByRecursion P (xs ++ ys) → AllByRecursion P ys
all_right P [] ys h = h
all_right P (x ∷ xs) ys h = all_right P xs ys h.1

all_left : {A : Type 0} (P : A → Type 0) (xs ys : List A) → AllByRecursion P (xs ++ ys) → AllByRecursion P xs
all_left P [] ys h = tt
all_left P (x ∷ xs) ys h = (h.0, all_left P xs ys h.1)

pub all_join : {A : Type 0} (P : A → Type 0) (xs ys : List A) → AllByRecursion P xs → AllByRecursion P ys → AllByRecursion P (xs ++ ys)
all_join P [] ys h k = k
all_join P (x ∷ xs) ys h k = (h.0, all_join P xs ys h.1 k)

full-ends : (n : ℕ) → AllByRecursion IsFull (ends n)
full-ends zero = tt
full-ends (suc n) = (tt, full-ends n)

full-listed : (p : Bytes) (xs : List Property) → AllByRecursion Named (listed p xs) → AllByRecursion IsFull (property_tokens xs)
unfolding Named listed
full-listed p [] h = tt
full-listed p (x ∷ xs) h = (full-property x.0 (and_parts (path_text p) (property_name x.0) h.0).1, full-listed p xs h.1)

full-fits : (o d : ℕ) (s : Bytes) (ns : List Node) → fits d ns ≡ true → AllByRecursion Named (spread s ns) → AllByRecursion IsFull (tokens_of o ns)
unfolding tokens_of spread
full-fits o d s [] f h = all_join IsFull (ends o) (finish ∷ []) (full-ends o) (tt, tt)
full-fits o d s (n ∷ ns) f h =
    let p = fit_parts d n ns f in
    let q : Bytes = path_of (step s n) in
    all_join IsFull (ends (o - n.depth)) (begin n.name ∷ (property_tokens n.properties ++ tokens_of (n.depth + 1) ns)) (full-ends (o - n.depth)) (
      full-node n.name p.2,
      all_join IsFull (property_tokens n.properties) (tokens_of (n.depth + 1) ns)
          (full-listed q n.properties (all_left Named (listed q n.properties) (spread (step s n) ns) h.1))
          (full-fits (n.depth + 1) n.depth (step s n) ns p.3 (all_right Named (listed q n.properties) (spread (step s n) ns) h.1)),
    )

pub full-valid : (boot : ℕ) (ns : List Node) → valid boot ns ≡ true → AllByRecursion IsFull (tokens_of 0 ns)
unfolding tokens_of spread look
full-valid boot [] v = (tt, tt)
full-valid boot (n ∷ ns) v =
    let r = parts boot (n ∷ ns) v in
    let p = root-parts n ns r.shape in
    let h = all_named (spread [] (n ∷ ns)) r.once (sound_open boot n ns v).named in
    let q : Bytes = path_of (step [] n) in
    all_join IsFull (ends (0 - n.depth)) (begin n.name ∷ (property_tokens n.properties ++ tokens_of (n.depth + 1) ns)) (full-ends (0 - n.depth)) (
      subst (λ z. AllByRecursion (λ b. b ≡ 0 → ⊥) z) (sym p.1) tt,
      all_join IsFull (property_tokens n.properties) (tokens_of (n.depth + 1) ns)
          (full-listed q n.properties (all_left Named (listed q n.properties) (spread (step [] n) ns) h.1))
          (full-fits (n.depth + 1) 0 (step [] n) ns p.2 (all_right Named (listed q n.properties) (spread (step [] n) ns) h.1)),
    )
