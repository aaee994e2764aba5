-- Places in any order, brought into document order. Assumes nothing.
use Rattle.std.proofs.Common.{◌≡◌, ℕ, true, not, [], ◌∷◌, ◌++◌, is_some, Some, None, Option, sym, refl, ap, ◌∙◌, subst, ⊎_elim, arith}
use Rattle.std.proofs.lemmas.Bool.{false≢true, and_parts, and_from}
use Rattle.tree.specs.Maps.{find, upd, Rises, worth, total}
use Rattle.tree.specs.Places.{Bytes, Place, order}
use Rattle.tree.specs.Trees.{Places}
use Rattle.tree.proofs.MapLaws.{decide, upd-swap, upd-twice, upd-found}
use Rattle.tree.proofs.Maps.{some-none, find-same, find-other, rises-upd, total-upd}
use Rattle.tree.proofs.Places.{place-order}
use Rattle.tape.specs.Nodes.{arranged, apart}

-- what is at a place, in a list of places in any order
abbrev pub seek : Places → Place → Option Bytes
seek es k = find order (arranged es) k

pub arranged-rises : (es : Places) → Rises order (arranged es)
unfolding arranged
arranged-rises [] = tt
arranged-rises (e ∷ es) = rises-upd place-order (arranged es) e.0 (Some e.1) (arranged-rises es)

pub seek-none : (k : Place) → seek [] k ≡ None
unfolding arranged find
seek-none k = refl

pub seek-here : (k : Place) (v : Bytes) (es : Places) → seek ((k, v) ∷ es) k ≡ Some v
unfolding arranged
seek-here k v es = find-same place-order (arranged es) k (Some v) (arranged-rises es)

pub seek-past : (e : Place × Bytes) (es : Places) (k : Place) → (k ≡ e.0 → ⊥) → seek (e ∷ es) k ≡ seek es k
unfolding arranged
seek-past e es k n = find-other place-order (arranged es) e.0 k (Some e.1) (arranged-rises es) n

-- what is not there is in neither part
pub seek-parts : (xs ys : Places) (k : Place) → seek (xs ++ ys) k ≡ None → (seek xs k ≡ None) × (seek ys k ≡ None)
seek-parts [] ys k h = (seek-none k, h)
seek-parts (e ∷ xs) ys k h =
    ⊎_elim
    (λ q. absurd (some-none e.1 (sym (seek-here e.0 e.1 (xs ++ ys)) ∙ subst (λ z. seek (e ∷ (xs ++ ys)) z ≡ None) q h)))
    (λ n. let r = seek-parts xs ys k (sym (seek-past e (xs ++ ys) k n) ∙ h) in (seek-past e xs k n ∙ r.0, r.1))
    (decide place-order k e.0)

pub seek_join : (xs ys : Places) (k : Place) → seek xs k ≡ None → seek (xs ++ ys) k ≡ seek ys k
seek_join [] ys k h = refl
seek_join (e ∷ xs) ys k h =
    ⊎_elim
    (λ q. absurd (some-none e.1 (sym (seek-here e.0 e.1 xs) ∙ subst (λ z. seek (e ∷ xs) z ≡ None) q h)))
    (λ n. seek-past e (xs ++ ys) k n ∙ seek_join xs ys k (sym (seek-past e xs k n) ∙ h))
    (decide place-order k e.0)

-- a place put among others
pub arranged-insert : (xs ys : Places) (k : Place) (v : Bytes) → seek xs k ≡ None → arranged (xs ++ ((k, v) ∷ ys)) ≡ upd order (arranged (xs ++ ys)) k (Some v)
unfolding arranged
arranged-insert [] ys k v h = refl
arranged-insert (e ∷ xs) ys k v h =
    ⊎_elim
    (λ q. absurd (some-none e.1 (sym (seek-here e.0 e.1 xs) ∙ subst (λ z. seek (e ∷ xs) z ≡ None) q h)))
    (λ n. ap (λ t. upd order t e.0 (Some e.1)) (arranged-insert xs ys k v (sym (seek-past e xs k n) ∙ h)) ∙ upd-swap place-order (arranged (xs ++ ys)) k e.0 (Some v) (Some e.1) (arranged-rises (xs ++ ys)) n)
    (decide place-order k e.0)

isnt : (o : Option Bytes) → not (is_some o) ≡ true → o ≡ None
isnt None h = refl
isnt (Some v) h = absurd (false≢true h)

is-not : (o : Option Bytes) → o ≡ None → not (is_some o) ≡ true
is-not o h = ap (λ x. not (is_some x)) h

pub apart-head : (e : Place × Bytes) (es : Places) → apart (e ∷ es) ≡ true → (seek es e.0 ≡ None) × (apart es ≡ true)
unfolding apart
apart-head e es h = let p = and_parts (not (is_some (seek es e.0))) (apart es) h in (isnt _ p.0, p.1)

pub apart_cons : (e : Place × Bytes) (es : Places) → seek es e.0 ≡ None → apart es ≡ true → apart (e ∷ es) ≡ true
unfolding apart
apart_cons e es h a = and_from (not (is_some (seek es e.0))) (apart es) (is-not _ h) a

-- one place of several that are apart is in no other part
pub apart-mid : (xs ys : Places) (k : Place) (v : Bytes) → apart (xs ++ ((k, v) ∷ ys)) ≡ true → (seek xs k ≡ None) × (seek ys k ≡ None)
apart-mid [] ys k v h = (seek-none k, (apart-head (k, v) ys h).0)
apart-mid (e ∷ xs) ys k v h =
    let a = apart-head e (xs ++ ((k, v) ∷ ys)) h in
    let r = apart-mid xs ys k v a.1 in
    let n : k ≡ e.0 → ⊥ = λ q. let z = seek-parts xs ((k, v) ∷ ys) e.0 a.0 in some-none v (sym (seek-here k v ys) ∙ ap (seek ((k, v) ∷ ys)) q ∙ z.1) in
    (seek-past e xs k n ∙ r.0, r.1)

pub apart-less : (xs ys : Places) (k : Place) (v : Bytes) → apart (xs ++ ((k, v) ∷ ys)) ≡ true → apart (xs ++ ys) ≡ true
apart-less [] ys k v h = (apart-head (k, v) ys h).1
apart-less (e ∷ xs) ys k v h =
    let a = apart-head e (xs ++ ((k, v) ∷ ys)) h in
    let z = seek-parts xs ((k, v) ∷ ys) e.0 a.0 in
    let n : e.0 ≡ k → ⊥ = λ q. some-none v (sym (seek-here k v ys) ∙ ap (seek ((k, v) ∷ ys)) (sym q) ∙ z.1) in
    apart_cons e (xs ++ ys) (seek_join xs ys e.0 z.0 ∙ sym (seek-past (k, v) ys e.0 n) ∙ z.1) (apart-less xs ys k v a.1)

pub apart_more : (xs ys : Places) (k : Place) (v : Bytes) → apart (xs ++ ys) ≡ true → seek (xs ++ ys) k ≡ None → apart (xs ++ ((k, v) ∷ ys)) ≡ true
apart_more [] ys k v a h = apart_cons (k, v) ys h a
apart_more (e ∷ xs) ys k v a h =
    let p = apart-head e (xs ++ ys) a in
    let q = seek-parts (e ∷ xs) ys k h in
    let n : k ≡ e.0 → ⊥ = λ z. some-none e.1 (sym (seek-here e.0 e.1 xs) ∙ ap (seek (e ∷ xs)) (sym z) ∙ q.0) in
    let m = seek-parts xs ys e.0 p.0 in
    apart_cons e (xs ++ ((k, v) ∷ ys)) (seek_join xs ((k, v) ∷ ys) e.0 m.0 ∙ seek-past (k, v) ys e.0 (λ z. n (sym z)) ∙ m.1) (apart_more xs ys k v p.1 (sym (seek-past e (xs ++ ys) k n) ∙ h))

module _ (xs ys : Places) (k : Place) (v : Bytes) (a : apart (xs ++ ((k, v) ∷ ys)) ≡ true) where
  pub seek-mid : seek (xs ++ ((k, v) ∷ ys)) k ≡ Some v
  seek-mid = seek_join xs ((k, v) ∷ ys) k (apart-mid xs ys k v a).0 ∙ seek-here k v ys

  pub arranged-remove : arranged (xs ++ ys) ≡ upd order (arranged (xs ++ ((k, v) ∷ ys))) k None
  arranged-remove =
      let m = apart-mid xs ys k v a in
      let gone : seek (xs ++ ys) k ≡ None = seek_join xs ys k m.0 ∙ m.1 in
      sym (upd-found place-order (arranged (xs ++ ys)) k (arranged-rises (xs ++ ys))) ∙ ap (upd order (arranged (xs ++ ys)) k) gone
      ∙ sym (upd-twice place-order (arranged (xs ++ ys)) k (Some v) None (arranged-rises (xs ++ ys)))
      ∙ ap (λ t. upd order t k None) (sym (arranged-insert xs ys k v m.0))

  pub arranged_replace : (w : Bytes) → arranged (xs ++ ((k, w) ∷ ys)) ≡ upd order (arranged (xs ++ ((k, v) ∷ ys))) k (Some w)
  arranged_replace w =
      let m = apart-mid xs ys k v a in
      arranged-insert xs ys k w m.0 ∙ sym (upd-twice place-order (arranged (xs ++ ys)) k (Some v) (Some w) (arranged-rises (xs ++ ys))) ∙ ap (λ t. upd order t k (Some w)) (sym (arranged-insert xs ys k v m.0))

  pub apart_other : (w : Bytes) → apart (xs ++ ((k, w) ∷ ys)) ≡ true
  apart_other w = let m = apart-mid xs ys k v a in apart_more xs ys k w (apart-less xs ys k v a) (seek_join xs ys k m.0 ∙ m.1)

-- what places count does not depend on their order
pub total-arranged : (f : Place → Bytes → ℕ) (es : Places) → apart es ≡ true → total f (arranged es) ≡ total f es
unfolding arranged total
total-arranged f [] a = refl
total-arranged f (e ∷ es) a =
    let p = apart-head e es a in
    let u = total-upd place-order f (arranged es) e.0 (Some e.1) in
    let z = ap (worth f e.0) p.0 in
    omega (arith, u, z, total-arranged f es p.1)
