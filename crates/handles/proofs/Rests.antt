-- The phandles that a walk has yet to come to. Assumes nothing.
use Rattle.std.proofs.Common.{◌≡◌, ℕ, List, [], ◌∷◌, ◌++◌, Some, None, Ok, Option, Ordering, Less, Equal, Greater, sym, refl, ap, ◌∙◌, subst, ⊎_elim, true≢false, arith}
use Rattle.std.specs.Str.{bytes_eq}
use Rattle.std.proofs.lemmas.Slice.Eq.{bytes_eq-Decides}
use Rattle.std.proofs.lemmas.Bool.{cases_Bool, cond-true, cond-false}
use Rattle.std.specs.Ordering.{match_ordering as by_order, is_lt, is_eq, nat_cmp}
use Rattle.names.specs.Orders.{name_order, path_order}
use Rattle.names.proofs.Orders.{name_order_lem}
use Rattle.tree.specs.Maps.{find, Below, Rises}
use Rattle.tree.specs.Phandles.{is_phandle, handle_on, handles}
use Rattle.tree.specs.Places.{Bytes, node_at, property_at, order}
use Rattle.tree.specs.Trees.{Places}
use Rattle.tree.proofs.Maps.{find-below}
use Rattle.tree.proofs.Places.{place-order}
use Rattle.store.specs.Calls.{Meaning, closed, holds, Good}
use Rattle.walk.specs.Walks.{behind, beyond, next_node}
use Rattle.walk.proofs.Behind.{less-is, not-less, behind-here, behind-past}
use Rattle.walk.proofs.Loops.{step, no_step, beyond-all}
use Rattle.walk.proofs.Orders.{less-paths, paths-less, paths-same, equal_less, never_less}
use Rattle.walk.proofs.Runs.{below-tail, below_less}
use Rattle.walk.proofs.Walking.{answered}
use Rattle.handles.specs.Searches.{handle_at}
use Rattle.handles.proofs.Values.{PH}
use Rattle.std.specs.Cmp.Lexicographic.{slice_cmp}
use Rattle.std.specs.Option.{option_cmp}

abbrev pub own : Bytes → Option Bytes → List (Bytes × Bytes)
own q None = []
own q (Some v) = (q, v) ∷ []

-- from the places of a node on: its own phandle, and those beyond it
split : (q : Bytes) (es : Places) → Rises order es → Below order (node_at q) es → handles es ≡ own q (find order es (property_at q PH)) ++ handles (beyond q es)
unfolding handles find behind
split q [] r b = refl
split q (((p, x), v) ∷ es) r b = ⊎_elim (λ l. far l) (λ s. near x v r b s.0 s.1 (split q es r.1 (below-tail (node_at q) ((p, x), v) es b r))) (less-paths q p None x b)
  where
    far : path_order q p ≡ Less → handles (((p, x), v) ∷ es) ≡ own q (find order (((p, x), v) ∷ es) (property_at q PH)) ++ handles (beyond q (((p, x), v) ∷ es))
    far l =
        ap handles (sym (behind-here (λ k. is_lt (path_order q k.0)) ((p, x), v) es (less-is (path_order q p) l)))
        ∙ ap (λ o. own q o ++ handles (beyond q (((p, x), v) ∷ es))) (sym (find-below place-order (property_at q PH) (((p, x), v) ∷ es) (paths-less q p (Some PH) x l)))

    near : (x : Option Bytes) (v : Bytes) → Rises order (((p, x), v) ∷ es) → Below order (node_at q) (((p, x), v) ∷ es) → q ≡ p → (option_cmp (slice_cmp nat_cmp)) None x ≡ Less → handles es ≡ own q (find order es (property_at q PH)) ++ handles (beyond q es) → handles (((p, x), v) ∷ es) ≡ own q (find order (((p, x), v) ∷ es) (property_at q PH)) ++ handles (beyond q (((p, x), v) ∷ es))
    near None v r b s l ih = absurd (equal_less l)
    near (Some n) v r b s l ih =
        let past : beyond q (((p, Some n), v) ∷ es) ≡ beyond q es = behind-past (λ k. is_lt (path_order q k.0)) ((p, Some n), v) es (not-less (path_order q p) (λ z. never_less q (ap (path_order q) s ∙ z))) in
        go (name_order PH n) refl past
      where
        is : order (property_at q PH) (property_at p n) ≡ name_order PH n
        is = ap (λ z. order (property_at q PH) (property_at z n)) (sym s) ∙ paths-same q (Some PH) (Some n)

        -- where the name is another
        other : (PH ≡ n → ⊥) → handle_on (p, Some n) v ≡ []
        other m = cond-false (is_phandle n) ((p, v) ∷ []) [] (⊎_elim (λ t. absurd (m (sym ((bytes_eq-Decides n PH).0 t)))) (λ f. f) (cases_Bool (bytes_eq n PH)))

        go : (o : Ordering) → name_order PH n ≡ o → beyond q (((p, Some n), v) ∷ es) ≡ beyond q es → handles (((p, Some n), v) ∷ es) ≡ own q (find order (((p, Some n), v) ∷ es) (property_at q PH)) ++ handles (beyond q (((p, Some n), v) ∷ es))
        go Less e past =
            let m : PH ≡ n → ⊥ = λ z. equal_less (sym (name_order_lem.itself PH) ∙ ap (name_order PH) z ∙ e) in
            let none : find order es (property_at q PH) ≡ None = find-below place-order (property_at q PH) es (below_less (property_at q PH) (property_at p n) es (is ∙ e) r.0) in
            ap (λ h. h ++ handles es) (other m) ∙ ih
            ∙ (λ i. own q (none i) ++ handles (sym past i))
            ∙ ap (λ w. own q (by_order w None (Some v) (find order es (property_at q PH))) ++ handles (beyond q (((p, Some n), v) ∷ es))) (sym (is ∙ e))
        go Equal e past =
            let m : PH ≡ n = name_order_lem.exact PH n e in
            let none : find order es (property_at q PH) ≡ None = find-below place-order (property_at q PH) es (subst (λ k. Below order k es) (λ i. (sym s i, Some (sym m i))) r.0) in
            let one : handle_on (p, Some n) v ≡ (q, v) ∷ [] = cond-true (is_phandle n) ((p, v) ∷ []) [] ((bytes_eq-Decides n PH).1 (sym m)) ∙ ap (λ z. (z, v) ∷ []) (sym s) in
            (λ i. one i ++ (ih ∙ (λ j. own q (none j) ++ handles (sym past j))) i)
            ∙ ap (λ w. own q (by_order w None (Some v) (find order es (property_at q PH))) ++ handles (beyond q (((p, Some n), v) ∷ es))) (sym (is ∙ e))
        go Greater e past =
            let m : PH ≡ n → ⊥ = λ z. true≢false (ap is_eq (sym (name_order_lem.itself PH) ∙ ap (name_order PH) z ∙ e)) in
            ap (λ h. h ++ handles es) (other m) ∙ ih
            ∙ ap (λ z. own q (find order es (property_at q PH)) ++ handles z) (sym past)
            ∙ ap (λ w. own q (by_order w None (Some v) (find order es (property_at q PH))) ++ handles (beyond q (((p, Some n), v) ∷ es))) (sym (is ∙ e))

-- the phandles beyond a path
abbrev pub rest : Meaning → Bytes → List (Bytes × Bytes)
rest closed p = []
rest (holds t) p = handles (beyond p t.places)

abbrev pub all : Meaning → List (Bytes × Bytes)
all closed = []
all (holds t) = handles t.places

pub rest-start : (M : Meaning) → Good M → rest M [] ≡ all M
rest-start closed g = refl
rest-start (holds t) g = ap handles (beyond-all t g)

pub rest_some : (M : Meaning) (p q : Bytes) (room : ℕ) → Good M → next_node M p room ≡ Ok (Some q) → rest M p ≡ own q (handle_at M q) ++ rest M q
unfolding handles
rest_some closed p q room g e = let z : ◌≡◌ {A = ℕ} 0 1 = cc in absurd (omega arith)
rest_some (holds t) p q room g e =
    let s = step t g p q (answered t p room (Some q) e) in
    ap handles s.is
    ∙ split q (Rattle.walk.specs.Walks.after (node_at q) t.places) s.rises.1 s.rises.0
    ∙ (λ i. own q (s.own PH i) ++ handles (s.onward i))

pub rest-none : (M : Meaning) (p : Bytes) (room : ℕ) → Good M → next_node M p room ≡ Ok None → rest M p ≡ []
unfolding handles
rest-none closed p room g e = refl
rest-none (holds t) p room g e = ap handles (no_step t g p (answered t p room None e))
