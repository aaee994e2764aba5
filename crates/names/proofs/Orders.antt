-- The orders of names and of paths. Assumes nothing.
use Rattle.std.proofs.Common.{◌≡◌, ℕ, ◌+◌, ◌<◌, true, false, eqb, ltb, List, [], ◌∷◌, ◌++◌, map, Less, Equal, Greater, sym, refl, ap, ◌∙◌, ⊎_elim, append_assoc, append-nil, arith}
use Rattle.std.specs.Str.{bytes_eq}
use Rattle.std.proofs.lemmas.Slice.Eq.{bytes_eq-Decides}
use Rattle.std.proofs.lemmas.Bool.Decides.{nat_tests}
use Rattle.std.proofs.lemmas.List.{map-append}
use Rattle.std.proofs.lemmas.Map.Lookups.{exact_bytes}
use Rattle.std.proofs.lemmas.Bool.{cases_Bool, cases_order, eqb-true, lt-ltb, le-ltb, eq-eqb, ne_eqb, cond-true, cond-false, true≢false}
use Rattle.std.specs.Ordering.{ordering_reverse, ordering_then}
use Rattle.std.proofs.lemmas.Cmp.{nat_list_cmp_total}
use Rattle.names.specs.Orders.{name_order, path_order, rank}
use Rattle.names.specs.Paths.{root, stem, child, plain}
use Rattle.names.specs.PathLaws.{Exactly, ChildAfter, LongerAfter, FrontShared, Siblings, SiblingsBelow, further}
use Rattle.names.proofs.PathLaws.{by-root, slashless, stem-root}
use Rattle.std.specs.Ordering as std-orderings

-- ---- numbers

pub below : (x y : ℕ) → x < y → std-orderings.nat_cmp x y ≡ Less
below x y h = cond-true (ltb x y) _ _ (lt-ltb x y h)

pub above : (x y : ℕ) → y < x → std-orderings.nat_cmp x y ≡ Greater
above x y h =
    cond-false (ltb x y) _ _ (le-ltb x y (omega arith))
    ∙ cond-false (eqb x y) _ _ (ne_eqb x y (λ e. omega arith))

pub level : (x y : ℕ) → x ≡ y → std-orderings.nat_cmp x y ≡ Equal
level x y h =
    cond-false (ltb x y) _ _ (le-ltb x y (omega arith)) ∙ cond-true (eqb x y) _ _ (eq-eqb x y h)

-- ---- lists

itself : (xs : List ℕ) → name_order xs xs ≡ Equal
itself [] = refl
itself (x ∷ xs) = ap (λ o. ordering_then o (name_order xs xs)) (level x x refl) ∙ itself xs

front : (xs ys zs : List ℕ) → name_order (xs ++ ys) (xs ++ zs) ≡ name_order ys zs
front [] ys zs = refl
front (x ∷ xs) ys zs = ap (λ o. ordering_then o (name_order (xs ++ ys) (xs ++ zs))) (level x x refl) ∙ front xs ys zs

longer : (xs : List ℕ) (y : ℕ) (ys : List ℕ) → name_order xs (xs ++ (y ∷ ys)) ≡ Less
longer [] y ys = refl
longer (x ∷ xs) y ys = ap (λ o. ordering_then o (name_order xs (xs ++ (y ∷ ys)))) (level x x refl) ∙ longer xs y ys

pub name_order_lem : Exactly name_order
name_order_lem = record { flip = nat_list_cmp_total.antisymm; trans = nat_list_cmp_total.trans; exact = exact_bytes; itself = itself }

-- ---- ranks

pub rank-one : (a b : ℕ) → rank a ≡ rank b → a ≡ b
rank-one a b e = grind (arith, nat_tests)

rank-all : (x y : List ℕ) → map rank x ≡ map rank y → x ≡ y
rank-all [] [] e = refl
rank-all [] (b ∷ y) e = let z : ◌≡◌ {A = ℕ} 0 1 = cc in absurd (omega arith)
rank-all (a ∷ x) [] e = let z : ◌≡◌ {A = ℕ} 0 1 = cc in absurd (omega arith)
rank-all (a ∷ x) (b ∷ y) e =
    let h : rank a ≡ rank b = cc in
    let t : map rank x ≡ map rank y = cc in
    λ i. rank-one a b h i ∷ rank-all x y t i

pub path_order_lem : Exactly path_order
path_order_lem =
    record {
      flip = λ x y. nat_list_cmp_total.antisymm (map rank x) (map rank y);
      trans = λ x y z. nat_list_cmp_total.trans (map rank x) (map rank y) (map rank z);
      exact = λ x y e. rank-all x y (exact_bytes (map rank x) (map rank y) e);
      itself = λ x. itself (map rank x);
    }

pub front_shared : FrontShared
front_shared p r s =
    (λ i. name_order (map-append rank p r i) (map-append rank p s i)) ∙ front (map rank p) (map rank r) (map rank s)

pub longer_after : LongerAfter
longer_after p b r =
    ap (name_order (map rank p)) (map-append rank p (b ∷ r)) ∙ longer (map rank p) (rank b) (map rank r)

pub child_after : ChildAfter
child_after p [] l = absurd (omega arith)
child_after p (b ∷ n) l =
    ⊎_elim
    (λ e. (λ i. path_order (e i) (child (e i) (b ∷ n))) ∙ ap (λ x. path_order root (x ++ (47 ∷ (b ∷ n)))) stem-root ∙ longer_after root b n)
    (λ s. ap (λ x. path_order p (x ++ (47 ∷ (b ∷ n)))) s.1 ∙ longer_after p 47 (b ∷ n))
    (by-root p)

-- ---- siblings

-- bytes of names keep their order
ranked : (x y : ℕ) → eqb x 47 ≡ false → eqb y 47 ≡ false → std-orderings.nat_cmp (rank x) (rank y) ≡ std-orderings.nat_cmp x y
ranked x y e f =
    (λ i. std-orderings.nat_cmp (cond-false (eqb x 47) 0 (x + 1) e i) (cond-false (eqb y 47) 0 (y + 1) f i))
    ∙ ⊎_elim
    (λ h. level (x + 1) (y + 1) (ap (λ k. k + 1) h) ∙ sym (level x y h))
    (⊎_elim
    (λ h. below (x + 1) (y + 1) (omega arith) ∙ sym (below x y h))
    (λ h. above (x + 1) (y + 1) (omega arith) ∙ sym (above x y h)))
    (cases_order x y)

-- a name's byte comes behind the end of another name
pub past_end : (r : List ℕ) (y : ℕ) (ys : List ℕ) → further r ≡ true → eqb y 47 ≡ false → path_order r (y ∷ ys) ≡ Less
past_end [] y ys h e = refl
past_end (b ∷ r) y ys h e =
    ap (λ o. ordering_then o (path_order r ys)) (below (rank b) (rank y) (let k = eqb-true b 47 h in grind (arith, nat_tests)))

names-ordered : (n m r s : List ℕ) → plain n ≡ true → plain m ≡ true → (n ≡ m → ⊥) → further r ≡ true → further s ≡ true → path_order (n ++ r) (m ++ s) ≡ name_order n m
names-ordered [] [] r s g h o u v = absurd (o refl)
names-ordered [] (y ∷ m) r s g h o u v = past_end r y (m ++ s) u (slashless y m h).0
names-ordered (x ∷ n) [] r s g h o u v =
    path_order_lem.flip (x ∷ (n ++ r)) s ∙ ap ordering_reverse (past_end s x (n ++ r) v (slashless x n g).0)
names-ordered (x ∷ n) (y ∷ m) r s g h o u v = go (names-ordered n m r s) (slashless x n g) (slashless y m h)
  where
    go : (plain n ≡ true → plain m ≡ true → (n ≡ m → ⊥) → further r ≡ true → further s ≡ true → path_order (n ++ r) (m ++ s) ≡ name_order n m) → (eqb x 47 ≡ false) × (plain n ≡ true) → (eqb y 47 ≡ false) × (plain m ≡ true) → ordering_then (std-orderings.nat_cmp (rank x) (rank y)) (path_order (n ++ r) (m ++ s)) ≡ ordering_then (std-orderings.nat_cmp x y) (name_order n m)
    go k a b =
        ap (λ c. ordering_then c (path_order (n ++ r) (m ++ s))) (ranked x y a.0 b.0)
        ∙ ⊎_elim
        (λ e. ap (λ c. ordering_then (std-orderings.nat_cmp x y) c) (k a.1 b.1 (λ q. o (λ i. e i ∷ q i)) u v))
        (⊎_elim
        (λ l. ap (λ c. ordering_then c (path_order (n ++ r) (m ++ s))) (below x y l) ∙ sym (ap (λ c. ordering_then c (name_order n m)) (below x y l)))
        (λ l. ap (λ c. ordering_then c (path_order (n ++ r) (m ++ s))) (above x y l) ∙ sym (ap (λ c. ordering_then c (name_order n m)) (above x y l))))
        (cases_order x y)

pub siblings_below : SiblingsBelow
siblings_below p n m r s g h o u v =
    (λ i. path_order (append_assoc (stem p) (47 ∷ n) r i) (append_assoc (stem p) (47 ∷ m) s i))
    ∙ front_shared (stem p) (47 ∷ (n ++ r)) (47 ∷ (m ++ s))
    ∙ front_shared (47 ∷ []) (n ++ r) (m ++ s)
    ∙ names-ordered n m r s g h o u v

pub siblings : Siblings
siblings p n m g h =
    ⊎_elim
    (λ t.
    let e = (bytes_eq-Decides n m).0 t in
    ap (λ x. path_order (child p n) (child p x)) (sym e) ∙ path_order_lem.itself (child p n) ∙ sym (ap (name_order n) (sym e) ∙ itself n))
    (λ f.
    (λ i. path_order (sym (append-nil (child p n)) i) (sym (append-nil (child p m)) i))
    ∙ siblings_below p n m [] [] g h (λ e. true≢false (sym ((bytes_eq-Decides n m).1 e) ∙ f)) refl refl)
    (cases_Bool (bytes_eq n m))
