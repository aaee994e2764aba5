-- The least name behind a given one. Assumes nothing.
use Rattle.std.proofs.Common.{◌≡◌, Bool, true, false, cond, List, [], ◌∷◌, Some, None, Option, Ordering, Less, Equal, Greater, sym, refl, ap, ◌∙◌, subst, inl, inr, ⊎_elim}
use Rattle.std.specs.Ordering.{is_lt, ordering_reverse}
use Rattle.std.proofs.lemmas.Bool.{true≢false, false≢true, cases_Bool}
use Rattle.names.specs.Orders.{name_order}
use Rattle.names.proofs.Orders.{name_order_lem}
use Rattle.tree.specs.Places.{Bytes}
use Rattle.tree.proofs.Maps.{some-none, some_one}
use Rattle.store.specs.Calls.{later, least, least_after}
use Rattle.store.specs.Laws.{Least, Among}

is-less : (o : Ordering) → is_lt o ≡ true → o ≡ Less
is-less Less h = refl
is-less Equal h = absurd (false≢true h)
is-less Greater h = absurd (false≢true h)

pub later_self : (x : Bytes) → later x x ≡ false
later_self x = ap is_lt (name_order_lem.itself x)

pub later_trans : (x y z : Bytes) → later x y ≡ true → later y z ≡ true → later x z ≡ true
later_trans x y z p q = ap is_lt (name_order_lem.trans x y z (is-less _ p) (is-less _ q))

pub later-only : (x y : Bytes) → later x y ≡ false → later y x ≡ false → x ≡ y
later-only x y p q = go (name_order x y) refl p
  where
    go : (o : Ordering) → name_order x y ≡ o → is_lt o ≡ false → x ≡ y
    go Less e h = absurd (true≢false h)
    go Equal e h = name_order_lem.exact x y e
    go Greater e h = absurd (true≢false (sym (ap is_lt (name_order_lem.flip y x ∙ ap ordering_reverse e)) ∙ q))

none-some : (m : Bytes) → None ≡ Some m → ⊥
none-some m e = some-none m (sym e)

pub least_law : (n : Bytes) (ms : List Bytes) → Least n (λ l. Among l ms) (least_after n ms)
unfolding least_after
least_law n [] = record {
  found = λ m e. absurd (none-some m e);
  least = λ m l e a f. absurd a;
  missed = λ e l a. absurd a;
}
least_law n (m ∷ ms) = go (later n m) refl (least_after n ms) refl (least_law n ms)
  where
    with_it : later n m ≡ true → (o : Option Bytes) → Least n (λ l. Among l ms) o → Least n (λ l. Among l (m ∷ ms)) (least m o)
    with_it h None s = record {
      found = λ k e. (inl (some_one e), subst (λ x. later n x ≡ true) (some_one e) h);
      least = λ k l e a f. ⊎_elim (λ q. (λ i. later (sym q i) (sym (some_one e) i)) ∙ later_self m) (λ b. absurd (true≢false (sym f ∙ s.missed refl l b))) a;
      missed = λ e. absurd (some-none m e);
    }
    with_it h (Some j) s = pick (later m j) refl
      where
        pick : (b : Bool) → later m j ≡ b → Least n (λ l. Among l (m ∷ ms)) (cond b (Some m) (Some j))
        pick true q = record {
          found = λ k e. (inl (some_one e), subst (λ x. later n x ≡ true) (some_one e) h);
          least = λ k l e a f. subst (λ x. later l x ≡ false) (some_one e) (⊎_elim (λ z. ap (λ x. later x m) (sym z) ∙ later_self m) (λ b. ⊎_elim (λ t. absurd (true≢false (sym (later_trans l m j t q) ∙ s.least j l refl b f))) (λ t. t) (cases_Bool (later l m))) a);
          missed = λ e. absurd (some-none m e);
        }
        pick false q = record {
          found = λ k e. let z = s.found k e in (inr z.0, z.1);
          least = λ k l e a f. ⊎_elim (λ z. (λ i. later (sym z i) (sym (some_one e) i)) ∙ q) (λ b. s.least k l e b f) a;
          missed = λ e. absurd (some-none j e);
        }

    go : (b : Bool) → later n m ≡ b → (o : Option Bytes) → least_after n ms ≡ o → Least n (λ l. Among l ms) (least_after n ms) → Least n (λ l. Among l (m ∷ ms)) (cond b (least m (least_after n ms)) (least_after n ms))
    go true h o e s = with_it h (least_after n ms) s
    go false h o e s = record {
      found = λ k f. let z = s.found k f in (inr z.0, z.1);
      least = λ k l f a g. ⊎_elim (λ z. absurd (true≢false (sym g ∙ ap (later n) (sym z) ∙ h))) (λ b. s.least k l f b g) a;
      missed = λ f l a. ⊎_elim (λ z. ap (later n) (sym z) ∙ h) (λ b. s.missed f l b) a;
    }

-- there is just one
pub least-only : (n : Bytes) (A B : Bytes → Type 0) (o p : Option Bytes) → ((l : Bytes) → A l → B l) → ((l : Bytes) → B l → A l) → Least n A o → Least n B p → o ≡ p
least-only n A B None None f g s t = refl
least-only n A B None (Some m) f g s t = let z = t.found m refl in absurd (true≢false (sym z.1 ∙ s.missed refl m (g m z.0)))
least-only n A B (Some m) None f g s t = let z = s.found m refl in absurd (true≢false (sym z.1 ∙ t.missed refl m (f m z.0)))
least-only n A B (Some m) (Some k) f g s t =
    let a = s.found m refl in
    let b = t.found k refl in
    ap Some (later-only m k (t.least k m refl (f m a.0) a.1) (s.least m k refl (g k b.0) b.1))

pub same-least : (n : Bytes) (ms ks : List Bytes) → ((l : Bytes) → Among l ms → Among l ks) → ((l : Bytes) → Among l ks → Among l ms) → least_after n ms ≡ least_after n ks
same-least n ms ks f g = least-only n (λ l. Among l ms) (λ l. Among l ks) _ _ f g (least_law n ms) (least_law n ks)

-- a name that is not before one of those behind n does not count
pub worse : (n k x : Bytes) (ms : List Bytes) → Among x ms → later n x ≡ true → later k x ≡ false → least_after n (k ∷ ms) ≡ least_after n ms
worse n k x ms a h w = least-only n (λ l. Among l (k ∷ ms)) (λ l. Among l (k ∷ ms)) _ _ (λ l b. b) (λ l b. b) (least_law n (k ∷ ms)) (go (least_after n ms) (least_law n ms))
  where
    go : (o : Option Bytes) → Least n (λ l. Among l ms) o → Least n (λ l. Among l (k ∷ ms)) o
    go None s = absurd (true≢false (sym h ∙ s.missed refl x a))
    go (Some m) s = record {
      found = λ j e. let z = s.found j e in (inr z.0, z.1);
      least = λ j l e b f. subst (λ y. later l y ≡ false) (some_one e) (⊎_elim (λ z. subst (λ y. later y m ≡ false) z (⊎_elim (λ t. absurd (beyond t)) (λ t. t) (cases_Bool (later k m)))) (λ c. s.least m l refl c f) b);
      missed = λ e. absurd (some-none m e);
    }
      where
        beyond : later k m ≡ true → ⊥
        beyond t =
            ⊎_elim
            (λ q. true≢false (sym (later_trans x k m q t) ∙ s.least m x refl a h))
            (λ q. true≢false (sym (subst (λ y. later y m ≡ true) (sym (later-only x k q w)) t) ∙ s.least m x refl a h))
            (cases_Bool (later x k))
