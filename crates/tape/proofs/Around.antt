-- One node among all: what stands before it and behind it. Assumes nothing.
use Rattle.std.proofs.Common.{◌≡◌, ℕ, suc, ◌<◌, ◌≤◌, true, ◌&&◌, eqb, List, [], ◌∷◌, ◌++◌, length, take, Some, None, Option, sym, refl, ap, ◌∙◌, subst, ⊎_elim, arith}
use Rattle.std.proofs.lemmas.List.{nil_from_length}
use Rattle.std.proofs.lemmas.Bool.{cond-true, and_parts, and_from, eqb-true}
use Rattle.names.specs.Paths.{plain}
use Rattle.tree.specs.Places.{Bytes, Place, node_at, property_at}
use Rattle.tree.specs.Trees.{Places}
use Rattle.tree.proofs.MapLaws.{decide}
use Rattle.tree.proofs.Maps.{some-none}
use Rattle.tree.proofs.Places.{place-order}
use Rattle.tape.specs.Nodes.{Node, height, step, ended, path_of, listed, spread, fits, fitting, shaped, apart, Every, Missing, child_in}
use Rattle.tape.proofs.Arranged.{seek, seek-none, seek-here, seek-past, seek_join, seek-mid, apart-mid}
use Rattle.tape.proofs.Stems.{height-child, height_join, cut_all, cut_join}
use Rattle.tape.proofs.Finds.{Within, Proper, fit_parts, fit-step, orphans, child-none, child-some, every_join, spread_join, missing_seek, seek_missing, listed-node, listed-other, path-only, step_proper}

-- the root, as the first of all nodes
pub root-parts : (n : Node) (ns : List Node) → shaped (n ∷ ns) ≡ true → (n.depth ≡ 0) × (n.name ≡ []) × (fits 0 ns ≡ true) × ((s : Bytes) → step s n ≡ [])
unfolding step
root-parts n ns h =
    let a = and_parts (eqb n.depth 0 && eqb (length n.name) 0) (fits 0 ns) h in
    let b = and_parts (eqb n.depth 0) (eqb (length n.name) 0) a.0 in
    (eqb-true _ _ b.0, nil_from_length n.name (eqb-true _ _ b.1), a.1, λ s. cond-true (eqb n.depth 0) _ _ b.0)

pub height-none : height [] ≡ 0
unfolding height
height-none = refl

pub fits-nil : (ns : List Node) → fits 0 ns ≡ true → fits (height []) ns ≡ true
unfolding height
fits-nil ns h = h

pub fits-back : (s : Bytes) (xs ys : List Node) → fits (height s) (xs ++ ys) ≡ true → (fits (height s) xs ≡ true) × (fits (height (ended s xs)) ys ≡ true)
unfolding ended fits
fits-back s [] ys h = (refl, h)
fits-back s (n ∷ xs) ys h =
    let f = fit-step s n (xs ++ ys) h in
    let r = fits-back (step s n) xs ys f.1 in
    let a = and_parts (fitting (height s) n) (fits n.depth (xs ++ ys)) h in
    (and_from (fitting (height s) n) (fits n.depth xs) a.0 (subst (λ d. fits d xs ≡ true) f.0 r.0), r.1)

pub shaped-front : (xs ys : List Node) → shaped (xs ++ ys) ≡ true → shaped xs ≡ true
unfolding height
shaped-front [] ys h = refl
shaped-front (n ∷ xs) ys h =
    let a = and_parts (eqb n.depth 0 && eqb (length n.name) 0) (fits 0 (xs ++ ys)) h in
    and_from _ (fits 0 xs) a.0 (fits-back [] xs ys (fits-nil (xs ++ ys) a.1)).0

-- a node's depth is that of its path, and the nodes behind it fit there
pub around : (xs ys : List Node) (n : Node) → shaped (xs ++ (n ∷ ys)) ≡ true → (height (step (ended [] xs) n) ≡ n.depth) × (fits (height (step (ended [] xs) n)) ys ≡ true)
unfolding ended
around [] ys n h =
    let r = root-parts n ys h in
    let z : step [] n ≡ [] = r.3 [] in
    (ap height z ∙ height-none ∙ sym r.0, subst (λ s. fits (height s) ys ≡ true) (sym z) (fits-nil ys r.2))
around (r ∷ xs) ys n h =
    let o = root-parts r (xs ++ (n ∷ ys)) h in
    let b = fits-back [] xs (n ∷ ys) (fits-nil (xs ++ (n ∷ ys)) o.2) in
    let f = fit-step (ended [] xs) n ys b.1 in
    subst (λ s. (height (step (ended s xs) n) ≡ n.depth) × (fits (height (step (ended s xs) n)) ys ≡ true)) (sym (o.3 [])) (f.0, f.1)

pub within_self : (q : Bytes) → Within q q
unfolding Within
within_self q = (omega arith, cut_all (height q) q (omega arith))

not_root : (q : Bytes) → 1 ≤ height q → Within q [] → ⊥
unfolding Within height
not_root q h w = omega (arith, w.0)

not-below : (a t x : Bytes) → (Within a x → ⊥) → x ≡ a ++ (47 ∷ t) → ⊥
unfolding Within height
not-below a t x w e =
    w (subst (Within a) (sym e) (omega (arith, height_join a (47 ∷ t)), cut_join (height a) a t (omega arith) ∙ cut_all (height a) a (omega arith)))

none_below : (a t s : Bytes) (ns : List Node) → Every (λ x. Within a x → ⊥) s ns → Missing (a ++ (47 ∷ t)) s ns
none_below a t s [] e = tt
none_below a t s (n ∷ ns) e = (not-below a t (step s n) e.0, none_below a t (step s n) ns e.1)

longer : (q c : Bytes) → plain c ≡ true → q ≡ q ++ (47 ∷ c) → ⊥
longer q c h e = omega (arith, ap height e, height-child q c h)

-- what is missing has nothing below it
pub deeper : (a t : Bytes) (ns : List Node) → shaped ns ≡ true → 1 ≤ height a → Missing a [] ns → Missing (a ++ (47 ∷ t)) [] ns
deeper a t [] h p m = tt
deeper a t (r ∷ ns) h p m =
    let o = root-parts r ns h in
    let z : step [] r ≡ [] = o.3 [] in
    let rest = orphans a [] ns (fits-nil ns o.2) (not_root a p) (subst (λ s. Missing a s ns) z m.1) in
    (λ e. not-below a t [] (not_root a p) (sym z ∙ e), subst (λ s. Missing (a ++ (47 ∷ t)) s ns) (sym z) (none_below a t [] ns rest))

nil_proper : Proper []
unfolding Proper
nil_proper e = omega arith

-- where no node has the path, none of its places is there
pub missing_all : (b : Bytes) (ns : List Node) (o : Option Bytes) → shaped ns ≡ true → Proper b → Missing b [] ns → seek (spread [] ns) (path_of b, o) ≡ None
unfolding spread
missing_all b [] o h p m = seek-none (path_of b, o)
missing_all b (r ∷ ns) o h p m =
    let f = root-parts r ns h in
    let z : step [] r ≡ [] = f.3 [] in
    let own : path_of b ≡ path_of (step [] r) → ⊥ = λ e. m.0 (path-only (step [] r) b (subst Proper (sym z) nil_proper) p (sym e)) in
    seek-past (node_at (path_of (step [] r)), []) _ (path_of b, o) (λ e. own (ap (λ k. k.0) e)) ∙ listed-other (path_of (step [] r)) r.properties _ (path_of b, o) own
    ∙ subst (λ s. seek (spread s ns) (path_of b, o) ≡ None) (sym z) (missing_seek b [] ns o (fits-nil ns f.2) p (subst (λ s. Missing b s ns) z m.1))

-- what the second part lacks is sought in the first
pub seek-front : (xs ys : Places) (k : Place) → seek ys k ≡ None → seek (xs ++ ys) k ≡ seek xs k
seek-front [] ys k h = h ∙ sym (seek-none k)
seek-front (e ∷ xs) ys k h =
    ⊎_elim
    (λ q. subst (λ z. seek (e ∷ (xs ++ ys)) z ≡ seek (e ∷ xs) z) (sym q) (seek-here e.0 e.1 (xs ++ ys) ∙ sym (seek-here e.0 e.1 xs)))
    (λ n. seek-past e (xs ++ ys) k n ∙ seek-front xs ys k h ∙ sym (seek-past e xs k n))
    (decide place-order k e.0)

-- ---- one node

module _ (xs ys : List Node) (n : Node) (sh : shaped (xs ++ (n ∷ ys)) ≡ true) (ap' : apart (spread [] (xs ++ (n ∷ ys))) ≡ true) where
  abbrev pub own : Bytes
  own = step (ended [] xs) n

  pub spread_at : spread [] (xs ++ (n ∷ ys)) ≡ spread [] xs ++ ((node_at (path_of own), []) ∷ (listed (path_of own) n.properties ++ spread own ys))
  unfolding spread
  spread_at = spread_join [] xs (n ∷ ys)

  apart-at : apart (spread [] xs ++ ((node_at (path_of own), []) ∷ (listed (path_of own) n.properties ++ spread own ys))) ≡ true
  apart-at = subst (λ t. apart t ≡ true) spread_at ap'

  pub node-here : seek (spread [] (xs ++ (n ∷ ys))) (node_at (path_of own)) ≡ Some []
  node-here = ap (λ t. seek t (node_at (path_of own))) spread_at ∙ seek-mid (spread [] xs) _ (node_at (path_of own)) [] apart-at

  pub missing_before : Missing own [] xs
  missing_before = seek_missing own [] xs (apart-mid (spread [] xs) _ (node_at (path_of own)) [] apart-at).0

  pub missing_behind : Missing own own ys
  missing_behind =
      seek_missing own own ys (sym (listed-node (path_of own) (path_of own) n.properties (spread own ys)) ∙ (apart-mid (spread [] xs) _ (node_at (path_of own)) [] apart-at).1)

  pub own-height : height own ≡ n.depth
  own-height = (around xs ys n sh).0

  pub own-fits : fits (height own) ys ≡ true
  own-fits = (around xs ys n sh).1

  -- nothing before a node is at its path or below
  pub clear_before : Every (λ x. Within own x → ⊥) [] xs
  clear_before = go xs sh own-height missing_before
    where
      go : (zs : List Node) → shaped (zs ++ (n ∷ ys)) ≡ true → height own ≡ n.depth → Missing own [] zs → Every (λ x. Within own x → ⊥) [] zs
      go [] h e m = tt
      go (r ∷ zs) h e m =
          let o = root-parts r (zs ++ (n ∷ ys)) h in
          let z : step [] r ≡ [] = o.3 [] in
          let b = fits-back [] zs (n ∷ ys) (fits-nil (zs ++ (n ∷ ys)) o.2) in
          let low = (fit_parts (height (ended [] zs)) n ys b.1).0 in
          let out = not_root own (omega (arith, e, low)) in
          (λ w. out (subst (Within own) z w), subst (λ s. Every (λ x. Within own x → ⊥) s zs) (sym z) (orphans own [] zs b.0 out (subst (λ s. Missing own s zs) z m.1)))

  module _ (c : Bytes) (pc : plain c ≡ true) where
    -- no child so named, where the nodes behind it have none
    pub child-gone : child_in n.depth c ys ≡ None → Missing (own ++ (47 ∷ c)) [] (xs ++ (n ∷ ys))
    child-gone e =
        let f = ap (λ d. child_in d c ys) own-height ∙ e in
        every_join (λ x. x ≡ own ++ (47 ∷ c) → ⊥) [] xs (n ∷ ys) (none_below own c [] xs clear_before) (longer own c pc, child-none own c pc own ys own-fits (within_self own) missing_behind f)

    pub child-found : (k : ℕ) → child_in n.depth c ys ≡ Some k → (k < length ys) × (ended own (take (suc k) ys) ≡ own ++ (47 ∷ c))
    child-found k e = child-some own c pc own ys k own-fits (within_self own) (ap (λ d. child_in d c ys) own-height ∙ e)

  pub own_proper : Proper own
  unfolding ended
  own_proper = go xs sh
    where
      go : (zs : List Node) → shaped (zs ++ (n ∷ ys)) ≡ true → Proper (step (ended [] zs) n)
      go [] h = subst Proper (sym ((root-parts n ys h).3 [])) nil_proper
      go (r ∷ zs) h =
          let o = root-parts r (zs ++ (n ∷ ys)) h in
          let b = fits-back [] zs (n ∷ ys) (fits-nil (zs ++ (n ∷ ys)) o.2) in
          subst (λ s. Proper (step (ended s zs) n)) (sym (o.3 [])) (step_proper (ended [] zs) n ys b.1)

  -- a property of the node, or none
  pub property-look : (c : Bytes) → seek (spread [] (xs ++ (n ∷ ys))) (property_at (path_of own) c) ≡ seek (listed (path_of own) n.properties) (property_at (path_of own) c)
  property-look c =
      let k = property_at (path_of own) c in
      let ahead = missing_all own xs (Some c) (shaped-front xs (n ∷ ys) sh) own_proper missing_before in
      let behind = missing_seek own own ys (Some c) own-fits own_proper missing_behind in
      ap (λ t. seek t k) spread_at ∙ seek_join (spread [] xs) _ k ahead
      ∙ seek-past (node_at (path_of own), []) _ k (λ e. some-none c (ap (λ k. k.1) e))
      ∙ seek-front (listed (path_of own) n.properties) (spread own ys) k behind
