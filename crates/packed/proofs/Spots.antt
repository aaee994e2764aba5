-- The tokens at a node's spot and at a property's mark. Assumes nothing.
use Rattle.std.proofs.Common.{◌≡◌, ℕ, zero, suc, ◌+◌, ◌-◌, ◌<◌, ◌≤◌, true, List, [], ◌∷◌, ◌++◌, length, take, drop, sym, ap, ◌∙◌, subst, append_assoc, append-nil, arith}
use lib.ListN.{replicate-append-replicate}
use Rattle.std.proofs.lemmas.List.{drop_more, take-append-drop, take_more, take_all, map-append}
use Rattle.tree.specs.Numbers.{be32, pad4}
use Rattle.blob.specs.Tokens.{Tok, begin, property, end, finish}
use Rattle.tape.specs.Nodes.{Node, Property, shaped, fits}
use Rattle.tape.specs.Tapes.{nth, property_of, nowhere}
use Rattle.tape.proofs.Around.{root-parts}
use Rattle.tape.proofs.Finds.{fit_parts}
use Rattle.tape.proofs.Sounds.{parts}
use Rattle.packed.specs.Packing.{token_size, size_of, ends, property_tokens, tokens_of, front, open_after, spot_of, begin_of, first_of, mark_of}
use Rattle.packed.specs.Regions.{memory, nodes_of, Open}
use Rattle.packed.specs.declared.region.Region.{Region}
use Rattle.packed.proofs.Tokens.{size_join, size-one}
use Rattle.packed.proofs.Nodes.{tokens_join, front_join, open_join}
use Rattle.packed.proofs.Cursors.{Cursor, pass, at-start, kind_at, kind_of}

-- ---- depths

fits_open : (d : ℕ) (ns : List Node) (i : ℕ) → fits d ns ≡ true → i < length ns → (nth ns i).depth ≤ open_after (d + 1) (take i ns)
unfolding open_after
fits_open d [] i h l = absurd (omega arith)
fits_open d (n ∷ ns) zero h l = (fit_parts d n ns h).1
fits_open d (n ∷ ns) (suc i) h l = fits_open n.depth ns i (fit_parts d n ns h).3 (omega arith)

-- a node is not deeper than the nodes that are open
pub depth_open : (ns : List Node) (i : ℕ) → shaped ns ≡ true → i < length ns → (nth ns i).depth ≤ open_after 0 (take i ns)
unfolding open_after
depth_open [] i h l = absurd (omega arith)
depth_open (n ∷ ns) zero h l = let z = (root-parts n ns h).0 in omega arith
depth_open (n ∷ ns) (suc i) h l =
    let p = root-parts n ns h in
    subst (λ d. (nth ns i).depth ≤ open_after (d + 1) (take i ns)) (sym p.0) (fits_open 0 ns i p.2 (omega arith))

fits-deep : (d : ℕ) (ns : List Node) (i : ℕ) → fits d ns ≡ true → i < length ns → (nth ns i).depth ≤ d + 1 + i
fits-deep d [] i h l = absurd (omega arith)
fits-deep d (n ∷ ns) zero h l = let p = (fit_parts d n ns h).1 in omega arith
fits-deep d (n ∷ ns) (suc i) h l = let p = (fit_parts d n ns h).1 in let r = fits-deep n.depth ns i (fit_parts d n ns h).3 (omega arith) in omega arith

pub depth_small : (ns : List Node) (i : ℕ) → shaped ns ≡ true → i < length ns → (nth ns i).depth ≤ i
depth_small [] i h l = absurd (omega arith)
depth_small (n ∷ ns) zero h l = let z = (root-parts n ns h).0 in omega arith
depth_small (n ∷ ns) (suc i) h l = let r = fits-deep 0 ns i (root-parts n ns h).2 (omega arith) in omega arith

-- ---- passing tokens

pub pass-one : (x : Region) (p : ℕ) (t : Tok) (us : List Tok) → Cursor x p (t ∷ us) → Cursor x (p + token_size t) us
unfolding size_of
pass-one x p t us c = subst (λ n. Cursor x (p + n) us) (let z : size_of (t ∷ []) ≡ token_size t = omega arith in z) (pass x p (t ∷ []) us c)

pub kind-is : (x : Region) (p : ℕ) (t : Tok) (us : List Tok) → Cursor x p (t ∷ us) → be32 (memory x) p ≡ kind_of t
kind-is x p t us c = kind_at (memory x) p c.k c.rest t us c.tokens

-- an end token, while there are some
pub kind-end : (x : Region) (p m : ℕ) (us : List Tok) → Cursor x p (ends m ++ us) → 0 < m → be32 (memory x) p ≡ 2
kind-end x p zero us c h = absurd (omega arith)
kind-end x p (suc m) us c h = kind-is x p end (ends m ++ us) c

pub kind-past : (x : Region) (p m : ℕ) (t : Tok) (us : List Tok) → Cursor x p (ends m ++ (t ∷ us)) → m ≡ 0 → be32 (memory x) p ≡ kind_of t
kind-past x p zero t us c h = kind-is x p t us c
kind-past x p (suc m) t us c h = absurd (omega arith)

-- so many bytes, all within the memory
pub room_for : (x : Region) (p : ℕ) (ts : List Tok) → Cursor x p ts → (p + size_of ts ≤ length (memory x)) × (p + size_of ts ≤ 40960)
room_for x p ts c =
    let a = c.stop in
    let b = c.small in
    let d = c.room in
    (omega arith, omega arith)

pub room-one : (x : Region) (p : ℕ) (t : Tok) (us : List Tok) → Cursor x p (t ∷ us) → (p + token_size t ≤ length (memory x)) × (p + token_size t ≤ 40960)
room-one x p t us c =
    let a = room_for x p (t ∷ us) c in
    let b = size-one t us in
    (omega (arith, a.0), omega (arith, a.1))

-- ---- a node's tokens

module _ (x : Region) (o : Open x) where
  abbrev ns : List Node
  ns = nodes_of x

  at-spot : (i : ℕ) → Cursor x (spot_of ns i).at (tokens_of (spot_of ns i).property (drop i ns))
  unfolding spot_of
  at-spot i =
      let e : tokens_of 0 ns ≡ front 0 (take i ns) ++ tokens_of (open_after 0 (take i ns)) (drop i ns) = ap (tokens_of 0) (sym (take-append-drop i ns)) ∙ tokens_join 0 (take i ns) (drop i ns) in
      pass x 56 (front 0 (take i ns)) (tokens_of (open_after 0 (take i ns)) (drop i ns)) (subst (λ ts. Cursor x 56 ts) e (at-start x (tokens_of 0 ns) o.holding o.named))

  module _ (i : ℕ) (l : i < length (nodes_of x)) where
    abbrev n : Node
    n = nth ns i

    abbrev later : List Tok
    later = tokens_of (n.depth + 1) (drop (i + 1) ns)

    pub deep : n.depth ≤ (spot_of ns i).property
    unfolding spot_of
    deep = depth_open ns i (parts x.boot ns o.valid).shape l

    at-node : Cursor x (spot_of ns i).at (ends ((spot_of ns i).property - n.depth) ++ (begin n.name ∷ (property_tokens n.properties ++ later)))
    unfolding tokens_of
    at-node = subst (λ ms. Cursor x (spot_of ns i).at (tokens_of (spot_of ns i).property ms)) (drop_more ns i nowhere l) (at-spot i)

    -- behind some of the end tokens
    pub at-ends : (e : ℕ) → n.depth ≤ e → e ≤ (spot_of ns i).property → Cursor x ((spot_of ns i).at + size_of (ends ((spot_of ns i).property - e))) (ends (e - n.depth) ++ (begin n.name ∷ (property_tokens n.properties ++ later)))
    at-ends e a b =
        let us : List Tok = begin n.name ∷ (property_tokens n.properties ++ later) in
        let m : ℕ = (spot_of ns i).property in
        let s : m - e + (e - n.depth) ≡ m - n.depth = omega arith in
        let w : ends (m - n.depth) ++ us ≡ ends (m - e) ++ (ends (e - n.depth) ++ us) = ap (λ k. ends k ++ us) (sym s) ∙ ap (λ z. z ++ us) (sym (replicate-append-replicate (m - e) (e - n.depth) end)) ∙ append_assoc (ends (m - e)) (ends (e - n.depth)) us in
        pass x (spot_of ns i).at (ends (m - e)) (ends (e - n.depth) ++ us) (subst (λ ts. Cursor x (spot_of ns i).at ts) w at-node)

    pub at-begin : Cursor x (begin_of ns i) (begin n.name ∷ (property_tokens n.properties ++ later))
    unfolding begin_of
    at-begin =
        let z : n.depth - n.depth ≡ 0 = omega arith in
        subst (λ m. Cursor x ((spot_of ns i).at + size_of (ends ((spot_of ns i).property - n.depth))) (ends m ++ (begin n.name ∷ (property_tokens n.properties ++ later)))) z (at-ends n.depth (omega arith) deep)

    pub at_first : Cursor x (first_of ns i) (property_tokens n.properties ++ later)
    unfolding first_of
    at_first = pass-one x (begin_of ns i) (begin n.name) (property_tokens n.properties ++ later) at-begin

    pub at_mark : (j : ℕ) → Cursor x (mark_of ns i j).at (property_tokens (drop j n.properties) ++ later)
    unfolding mark_of
    at_mark j =
        let xs : List Property = n.properties in
        let w : property_tokens xs ++ later ≡ property_tokens (take j xs) ++ (property_tokens (drop j xs) ++ later) =
        ap (λ z. property_tokens z ++ later) (sym (take-append-drop j xs)) ∙ ap (λ z. z ++ later) (map-append (λ y. property y.0 y.1) (take j xs) (drop j xs)) ∙ append_assoc (property_tokens (take j xs)) (property_tokens (drop j xs)) later in
        pass x (first_of ns i) (property_tokens (take j xs)) (property_tokens (drop j xs) ++ later) (subst (λ ts. Cursor x (first_of ns i) ts) w at_first)

    -- at a property
    pub at-property : (j : ℕ) → j < length n.properties → Cursor x (mark_of ns i j).at (property (property_of ns i j).0 (property_of ns i j).1 ∷ (property_tokens (drop (j + 1) n.properties) ++ later))
    at-property j h = subst (λ ys. Cursor x (mark_of ns i j).at (property_tokens ys ++ later)) (drop_more n.properties j ([], []) h) (at_mark j)

    -- where the next node is
    pub next-spot : spot_of ns (i + 1) ≡ record { node = i + 1; property = n.depth + 1; at = (mark_of ns i (length n.properties)).at }
    unfolding spot_of mark_of first_of begin_of open_after front
    next-spot =
        let m : List Node = take i ns in
        let e : take (i + 1) ns ≡ m ++ (n ∷ []) = take_more ns i nowhere l in
        let op : open_after 0 (take (i + 1) ns) ≡ n.depth + 1 = ap (open_after 0) e ∙ open_join 0 m (n ∷ []) in
        let k : ℕ = open_after 0 m in
        let ps : List Tok = property_tokens n.properties in
        let f : front 0 (take (i + 1) ns) ≡ front 0 m ++ (ends (k - n.depth) ++ (begin n.name ∷ (ps ++ []))) = ap (front 0) e ∙ front_join 0 m (n ∷ []) in
        let a = ap size_of f in
        let b = size_join (front 0 m) (ends (k - n.depth) ++ (begin n.name ∷ (ps ++ []))) in
        let c = size_join (ends (k - n.depth)) (begin n.name ∷ (ps ++ [])) in
        let d = size-one (begin n.name) (ps ++ []) in
        let g = ap size_of (append-nil ps) in
        let t = ap (λ z. size_of (property_tokens z)) (take_all (length n.properties) n.properties (omega arith)) in
        let at : 56 + size_of (front 0 (take (i + 1) ns)) ≡ 56 + size_of (front 0 m) + size_of (ends (k - n.depth)) + (4 + pad4 (length n.name + 1)) + size_of (property_tokens (take (length n.properties) n.properties)) = omega arith in
        λ r. record { node = i + 1; property = op r; at = at r }

  -- the tokens behind the properties of a node do not begin with one
  pub no_property : (p q : ℕ) (ms : List Node) → Cursor x p (tokens_of q ms) → be32 (memory x) p ≡ 3 → ⊥
  unfolding tokens_of
  no_property p zero [] c e = let k = kind-is x p finish [] c in omega arith
  no_property p (suc q) [] c e = let k = kind-is x p end (ends q ++ (finish ∷ [])) c in omega arith
  no_property p q (m ∷ ms) c e = go (q - m.depth) c
    where
      us : List Tok
      us = property_tokens m.properties ++ tokens_of (m.depth + 1) ms

      go : (j : ℕ) → Cursor x p (ends j ++ (begin m.name ∷ us)) → ⊥
      go zero c = let k = kind-is x p (begin m.name) us c in omega arith
      go (suc j) c = let k = kind-is x p end (ends j ++ (begin m.name ∷ us)) c in omega arith
