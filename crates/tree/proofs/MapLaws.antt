-- The laws of finite maps together. Assumes nothing.
use Rattle.std.proofs.Common.{◌≡◌, ◌⊎◌, List, Option, Ordering, Less, Equal, Greater, sym, refl, ap, ◌∙◌, subst, inl, inr, ⊎_elim, true≢false}
use Rattle.std.specs.Ordering.{is_eq}
use Rattle.tree.specs.Maps.{Ordered, find, upd, Rises}
use Rattle.tree.specs.MapLaws.{MapLaws}
use Rattle.tree.proofs.Maps.{same, find-same, find-other, rises-upd, ext, total-upd}

pub decide : {K : Type 0} {c : K → K → Ordering} (o : Ordered c) (x y : K) → (x ≡ y) ⊎ (x ≡ y → ⊥)
decide {c} o x y = go (c x y) refl
  where
    apart : (r : Ordering) → is_eq r ≡ is_eq Less → c x y ≡ r → x ≡ y → ⊥
    apart r f p e = true≢false (ap is_eq (sym (same o y)) ∙ ap (λ z. is_eq (c z y)) (sym e) ∙ ap is_eq p ∙ f)

    go : (r : Ordering) → c x y ≡ r → (x ≡ y) ⊎ (x ≡ y → ⊥)
    go Less p = inr (apart Less refl p)
    go Equal p = inl (o.exact x y p)
    go Greater p = inr (apart Greater refl p)

module _ {K X : Type 0} {c : K → K → Ordering} (o : Ordered c) where
  -- changes of two keys can be made in either order
  pub upd-swap : (t : List (K × X)) (k j : K) (v w : Option X) → Rises c t → (k ≡ j → ⊥) → upd c (upd c t k v) j w ≡ upd c (upd c t j w) k v
  upd-swap t k j v w s n =
      let sk = rises-upd o t k v s in
      let sj = rises-upd o t j w s in
      ext o _ _ (rises-upd o _ j w sk) (rises-upd o _ k v sj) (λ q. ⊎_elim
      (λ e. subst (λ z. find c (upd c (upd c t k v) j w) z ≡ find c (upd c (upd c t j w) k v) z) (sym e) (find-other o _ j k w sk n ∙ find-same o t k v s ∙ sym (find-same o _ k v sj)))
      (λ f. ⊎_elim
      (λ e. subst (λ z. find c (upd c (upd c t k v) j w) z ≡ find c (upd c (upd c t j w) k v) z) (sym e) (find-same o _ j w sk ∙ sym (find-same o t j w s) ∙ sym (find-other o _ k j v sj (λ z. n (sym z)))))
      (λ g. find-other o _ j q w sk g ∙ find-other o t k q v s f ∙ sym (find-other o t j q w s g) ∙ sym (find-other o _ k q v sj f))
      (decide o q j))
      (decide o q k))

  -- of two changes of one key the later counts
  pub upd-twice : (t : List (K × X)) (k : K) (v w : Option X) → Rises c t → upd c (upd c t k v) k w ≡ upd c t k w
  upd-twice t k v w s =
      let sk = rises-upd o t k v s in
      ext o _ _ (rises-upd o _ k w sk) (rises-upd o t k w s) (λ q. ⊎_elim
      (λ e. subst (λ z. find c (upd c (upd c t k v) k w) z ≡ find c (upd c t k w) z) (sym e) (find-same o _ k w sk ∙ sym (find-same o t k w s)))
      (λ f. find-other o _ k q w sk f ∙ find-other o t k q v s f ∙ sym (find-other o t k q w s f))
      (decide o q k))

  pub upd-found : (t : List (K × X)) (k : K) → Rises c t → upd c t k (find c t k) ≡ t
  upd-found t k s =
      ext o _ _ (rises-upd o t k _ s) s (λ q. ⊎_elim
      (λ e. subst (λ z. find c (upd c t k (find c t k)) z ≡ find c t z) (sym e) (find-same o t k _ s))
      (λ f. find-other o t k q _ s f)
      (decide o q k))

  -- a change is undone by what was there
  pub upd-back : (t : List (K × X)) (k : K) (w : Option X) → Rises c t → upd c (upd c t k w) k (find c t k) ≡ t
  upd-back t k w s = upd-twice t k w _ s ∙ upd-found t k s

pub map_laws : {K : Type 0} (X : Type 0) {c : K → K → Ordering} → Ordered c → MapLaws X c
map_laws X o = record {
  found = find-same o;
  kept = find-other o;
  rises = rises-upd o;
  swap = upd-swap o;
  back = upd-back o;
  counts = total-upd o;
  same = ext o;
}
