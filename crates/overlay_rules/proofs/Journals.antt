-- Writes in order, what they leave, and restoring them. Assumes nothing.
use Rattle.std.proofs.Common.{◌≡◌, ◌⊎◌, List, [], ◌∷◌, ◌++◌, Some, sym, refl, ap, ◌∙◌, subst, inl, inr, ⊎_elim}
use Rattle.tree.specs.Entries.{Entry}
use Rattle.tree.specs.Places.{Bytes, Place}
use Rattle.tree.specs.Trees.{Tree, look, change}
use Rattle.overlay_rules.specs.Plans.{apply}
use Rattle.overlay_rules.specs.Laws.{Rising, In, Free, Off, Fewer}
use Rattle.overlay_rules.specs.Overlays.{phandle_at}
use Rattle.overlay_rules.proofs.Looks.{look-same, look-other, rises-change, boot-change, decide-place}

pub rises-apply : (ws : List Entry) (t : Tree) → Rising t → Rising (apply ws t)
unfolding apply
rises-apply [] t r = r
rises-apply (e ∷ ws) t r = rises-apply ws _ (rises-change t e.place (Some e.value) r)

pub boot-apply : (ws : List Entry) (t : Tree) → (apply ws t).boot ≡ t.boot
unfolding apply
boot-apply [] t = refl
boot-apply (e ∷ ws) t = boot-apply ws _ ∙ boot-change t e.place (Some e.value)

pub apply_join : (xs ys : List Entry) (t : Tree) → apply (xs ++ ys) t ≡ apply ys (apply xs t)
unfolding apply
apply_join [] ys t = refl
apply_join (e ∷ xs) ys t = apply_join xs ys _

-- an entry is at the place, or none is
pub hits_or_free : (ws : List Entry) (k : Place) → ((e : Entry) × In e ws × (k ≡ e.place)) ⊎ Free ws k
hits_or_free [] k = inr tt
hits_or_free (e ∷ ws) k = ⊎_elim
    (λ p. inl (e, inl refl, p))
    (λ n. ⊎_elim (λ h. inl (h.0, inr h.1, h.2)) (λ f. inr (n, f)) (hits_or_free ws k))
    (decide-place k e.place)

-- elsewhere all stays
pub look-out : (ws : List Entry) (t : Tree) (k : Place) → Rising t → Free ws k → look (apply ws t) k ≡ look t k
unfolding apply
look-out [] t k r f = refl
look-out (e ∷ ws) t k r f = look-out ws _ k (rises-change t e.place (Some e.value) r) f.1 ∙ look-other t e.place k (Some e.value) r f.0

-- what is there after writes, was there or was written
pub look-from : (ws : List Entry) (t : Tree) (k : Place) (v : Bytes) → Rising t → look (apply ws t) k ≡ Some v → (look t k ≡ Some v) ⊎ ((e : Entry) × In e ws × (k ≡ e.place) × (v ≡ e.value))
unfolding apply
look-from [] t k v r h = inl h
look-from (e ∷ ws) t k v r h = ⊎_elim
    (λ g. ⊎_elim
    (λ p. inr (e, inl refl, p, some-eq (sym g ∙ ap (look (change t e.place (Some e.value))) p ∙ look-same t e.place (Some e.value) r)))
    (λ n. inl (sym (look-other t e.place k (Some e.value) r n) ∙ g))
    (decide-place k e.place))
    (λ x. inr (x.0, inr x.1, x.2, x.3))
    (look-from ws _ k v (rises-change t e.place (Some e.value) r) h)
  where
    some-eq : {x y : Bytes} → Some x ≡ Some y → x ≡ y
    some-eq p = cc

-- each place once
abbrev pub Distinct : List Entry → Type 0
Distinct [] = Unit {0}
Distinct (e ∷ ws) = Free ws e.place × Distinct ws

-- what is written once is there
pub look_in : (ws : List Entry) (t : Tree) (e : Entry) → Rising t → Distinct ws → In e ws → look (apply ws t) e.place ≡ Some e.value
unfolding apply
look_in [] t e r d i = absurd i
look_in (x ∷ ws) t e r d (inl p) =
    subst (λ z. look (apply ws (change t x.place (Some x.value))) z.place ≡ Some z.value) (sym p)
    (look-out ws _ x.place (rises-change t x.place (Some x.value) r) d.0 ∙ look-same t x.place (Some x.value) r)
look_in (x ∷ ws) t e r d (inr i) = look_in ws _ e (rises-change t x.place (Some x.value) r) d.1 i

-- the same writes, or what was there
pub look_either : (ws : List Entry) (k : Place) → ((u : Bytes) × ((t : Tree) → Rising t → look (apply ws t) k ≡ Some u)) ⊎ ((t : Tree) → Rising t → look (apply ws t) k ≡ look t k)
unfolding apply
look_either [] k = inr (λ t r. refl)
look_either (e ∷ ws) k = ⊎_elim
    (λ u. inl (u.0, λ t r. u.1 _ (rises-change t e.place (Some e.value) r)))
    (λ h. ⊎_elim
    (λ p. inl (e.value, λ t r. h _ (rises-change t e.place (Some e.value) r) ∙ ap (look (change t e.place (Some e.value))) p ∙ look-same t e.place (Some e.value) r))
    (λ n. inr (λ t r. h _ (rises-change t e.place (Some e.value) r) ∙ look-other t e.place k (Some e.value) r n))
    (decide-place k e.place))
    (look_either ws k)

pub off-apply : (x ws : List Entry) (s t : Tree) → Rising s → Rising t → Off x s t → Off x (apply ws s) (apply ws t)
off-apply x ws s t rs rt h k n = ⊎_elim
    (λ u. u.1 s rs ∙ sym (u.1 t rt))
    (λ e. e s rs ∙ h k n ∙ sym (e t rt))
    (look_either ws k)

pub fewer-apply : (ws : List Entry) (s t : Tree) → Rising s → Rising t → Fewer s t → Fewer (apply ws s) (apply ws t)
fewer-apply ws s t rs rt h p v g = ⊎_elim
    (λ u. u.1 t rt ∙ sym (u.1 s rs) ∙ g)
    (λ e. e t rt ∙ h p v (sym (e s rs) ∙ g))
    (look_either ws (phandle_at p))

-- ---- restoring: at the places of ws what t has there, the last first

unfoldable pub back : Tree → List Entry → Tree → Tree
back t [] s = s
back t (e ∷ ws) s = change (back t ws s) e.place (look t e.place)

pub rises-back : (t : Tree) (ws : List Entry) (s : Tree) → Rising s → Rising (back t ws s)
unfolding back
rises-back t [] s r = r
rises-back t (e ∷ ws) s r = rises-change _ e.place (look t e.place) (rises-back t ws s r)

pub boot-back : (t : Tree) (ws : List Entry) (s : Tree) → (back t ws s).boot ≡ s.boot
unfolding back
boot-back t [] s = refl
boot-back t (e ∷ ws) s = boot-change _ e.place (look t e.place) ∙ boot-back t ws s

pub back-out : (t : Tree) (ws : List Entry) (s : Tree) (k : Place) → Rising s → Free ws k → look (back t ws s) k ≡ look s k
unfolding back
back-out t [] s k r f = refl
back-out t (e ∷ ws) s k r f = look-other _ e.place k (look t e.place) (rises-back t ws s r) f.0 ∙ back-out t ws s k r f.1

pub back_in : (t : Tree) (ws : List Entry) (s : Tree) (e : Entry) → Rising s → In e ws → look (back t ws s) e.place ≡ look t e.place
unfolding back
back_in t [] s e r i = absurd i
back_in t (x ∷ ws) s e r i = ⊎_elim
    (λ p. ap (look (back t (x ∷ ws) s)) p ∙ look-same _ x.place (look t x.place) (rises-back t ws s r) ∙ ap (look t) (sym p))
    (λ n. look-other _ x.place e.place (look t x.place) (rises-back t ws s r) n ∙ back_in t ws s e r (tail n i))
    (decide-place e.place x.place)
  where
    tail : (e.place ≡ x.place → ⊥) → In e (x ∷ ws) → In e ws
    tail n (inl p) = absurd (n (ap (λ z. z.place) p))
    tail n (inr j) = j
