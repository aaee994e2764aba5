-- Steps of the loops that put rows into document order.
use Rattle.std.proofs.Common.{◌≡◌, ℕ, suc, ◌+◌, ◌<◌, ◌≤◌, List, [], ◌∷◌, ◌++◌, length, get_or, take, drop, refl, sym, ap, ◌∙◌, append_assoc, add-one, arith, Bor}
use lib.ListN.{length-map}
use Rattle.std.specs.declared.cmp.Ordering.{Ordering}
use Rattle.std.specs.declared.cmp.Ordering.TheVariants.{Less, Equal, Greater}
use Rattle.std.specs.BTreeMap.{insert_entry}
use Rattle.std.specs.List.{insert, remove}
use Rattle.std.specs.Ordering.{match_ordering as by_order}
use Rattle.std.proofs.lemmas.List.{drop_more, drop_all, drop-map, take_more, take-map, get_or-map, map-append, take_at, drop_at, length-take-le}
use Rattle.tree.specs.Maps.{upd}
use Rattle.tree.specs.Places.{Bytes, Place, order}
use Rattle.tree.specs.Trees.{Places}
use Rattle.tree.proofs.Places.{place-order}
use Rattle.listing.specs.declared.rows.Place.{Place as RowPlace}
use Rattle.listing.specs.declared.rows.Row.{Row}
use Rattle.listing.specs.Rows.{place_of, place_order, keyed, placed, held, held_one, with, arranged_on}

-- ---- the map

-- an entry that is put in by the order of places
pub held_insert : (es : List (RowPlace × Bor Bytes)) (k : RowPlace) (v : Bor Bytes) → held (insert_entry place_order es k v) ≡ with (held es) (place_of k, v.now)
unfolding upd
held_insert [] k v = refl
held_insert (e ∷ es) k v = go (place_order k e.0) refl (held_insert es k v)
  where
    go : (o : Ordering) → place_order k e.0 ≡ o → held (insert_entry place_order es k v) ≡ with (held es) (place_of k, v.now)
        → held (by_order o ((k, v) ∷ e ∷ es) ((e.0, v) ∷ es) (e ∷ insert_entry place_order es k v)) ≡ by_order o ((place_of k, v.now) ∷ held (e ∷ es)) ((place_of k, v.now) ∷ held es) (held_one e ∷ with (held es) (place_of k, v.now))
    go Less p h = refl
    go Equal p h = ap (λ (q : Place). (q, v.now) ∷ held es) (sym (place-order.exact (place_of k) (place_of e.0) p))
    go Greater p h = ap (λ (l : Places). held_one e ∷ l) h

-- ---- lists of rows, by index

-- one place against what comes first
with_first : (k f : Place × Bytes) (qs : Places) (o : Ordering) → order k.0 f.0 ≡ o → with (f ∷ qs) k ≡ by_order o (k ∷ f ∷ qs) (k ∷ qs) (f ∷ with qs k)
unfolding upd
with_first k f qs o h = ap (λ (x : Ordering). by_order x (k ∷ f ∷ qs) (k ∷ qs) (f ∷ with qs k)) h

with_none : (k : Place × Bytes) → with [] k ≡ k ∷ []
unfolding upd
with_none k = refl

-- the row at i, and those behind it
pub placed_at : (rs : List Row) (e : Row) (i : ℕ) → i < length rs → e ≡ get_or rs i e → drop i (placed rs) ≡ keyed e ∷ drop (i + 1) (placed rs)
placed_at rs e i h p =
    drop-map keyed i rs ∙ ap placed (drop_more rs i e h) ∙ ap (λ (x : Row). keyed x ∷ placed (drop (i + 1) rs)) (sym p) ∙ ap (λ l. keyed e ∷ l) (sym (drop-map keyed (i + 1) rs))

-- what is known of the first i rows: the row goes behind them
abbrev pub Past : List Row → Row → ℕ → Type 0
Past rs row i = with (placed rs) (keyed row) ≡ take i (placed rs) ++ with (drop i (placed rs)) (keyed row)

pub seat_at :
    (rs : List Row)
    (row e : Row)
    (i : ℕ)
    (o : Ordering) →
    i < length rs →
    e ≡ get_or rs i e →
    Past rs row i →
    order (place_of row.place) (place_of e.place) ≡ o →
    with (placed rs) (keyed row) ≡ take i (placed rs) ++ by_order o (keyed row ∷ drop i (placed rs)) (keyed row ∷ drop (i + 1) (placed rs)) (keyed e ∷ with (drop (i + 1) (placed rs)) (keyed row))
seat_at rs row e i o h p inv q =
    let d = placed_at rs e i h p in
    inv
    ∙ ap (λ (l : Places). take i (placed rs) ++ with l (keyed row)) d
    ∙ ap (λ (l : Places). take i (placed rs) ++ l) (with_first (keyed row) (keyed e) (drop (i + 1) (placed rs)) o q)
    ∙ ap (λ (l : Places). take i (placed rs) ++ by_order o (keyed row ∷ l) (keyed row ∷ drop (i + 1) (placed rs)) (keyed e ∷ with (drop (i + 1) (placed rs)) (keyed row))) (sym d)

pub past_more :
    (rs : List Row)
    (row e : Row)
    (i : ℕ) →
    i < length rs →
    e ≡ get_or rs i e →
    Past rs row i →
    order (place_of row.place) (place_of e.place) ≡ Greater →
    Past rs row (i + 1)
past_more rs row e i h p inv q =
    let n : i < length (placed rs) = rw length-map h in
    let g : keyed e ≡ get_or (placed rs) i (keyed e) = ap keyed p ∙ sym (get_or-map keyed rs i e (keyed e) h) in
    let t : take (i + 1) (placed rs) ≡ take i (placed rs) ++ (keyed e ∷ []) = take_more (placed rs) i (keyed e) n ∙ ap (λ (x : Place × Bytes). take i (placed rs) ++ (x ∷ [])) (sym g) in
    seat_at rs row e i Greater h p inv q
    ∙ sym (append_assoc (take i (placed rs)) (keyed e ∷ []) (with (drop (i + 1) (placed rs)) (keyed row)))
    ∙ ap (λ (l : Places). l ++ with (drop (i + 1) (placed rs)) (keyed row)) (sym t)

pub seat_last :
    (rs : List Row)
    (row : Row)
    (i : ℕ) →
    length rs ≤ i →
    Past rs row i →
    with (placed rs) (keyed row) ≡ take i (placed rs) ++ (keyed row ∷ drop i (placed rs))
seat_last rs row i h inv =
    let n : length (placed rs) ≤ i = rw length-map h in
    let d = drop_all i (placed rs) n in
    inv
    ∙ ap (λ (l : Places). take i (placed rs) ++ with l (keyed row)) d
    ∙ ap (λ (l : Places). take i (placed rs) ++ l) (with_none (keyed row))
    ∙ ap (λ (l : Places). take i (placed rs) ++ (keyed row ∷ l)) (sym d)

-- what it comes to that a row is put in, by its index
pub put-before :
    (rs vs : List Row)
    (row : Row)
    (i : ℕ)
    (e : Places) →
    vs ≡ insert rs i row →
    e ≡ take i (placed rs) ++ (keyed row ∷ drop i (placed rs)) →
    placed vs ≡ e
put-before rs vs row i e p q =
    ap placed p
    ∙ map-append keyed (take i rs) (row ∷ drop i rs)
    ∙ ap (λ (l : Places). l ++ (keyed row ∷ placed (drop i rs))) (sym (take-map keyed i rs))
    ∙ ap (λ (l : Places). take i (placed rs) ++ (keyed row ∷ l)) (sym (drop-map keyed i rs))
    ∙ sym q

-- a row that is taken out, with another put in its stead
pub put_over :
    (rs us vs : List Row)
    (row : Row)
    (i : ℕ)
    (e : Places) →
    i < length rs →
    us ≡ remove rs i →
    vs ≡ insert us i row →
    e ≡ take i (placed rs) ++ (keyed row ∷ drop (i + 1) (placed rs)) →
    placed vs ≡ e
put_over rs us vs row i e h p q r =
    let n : length (take i rs) ≡ i = length-take-le i rs (omega arith) in
    let t : take i us ≡ take i rs = ap (λ (l : List Row). take i l) p ∙ take_at (take i rs) (drop (suc i) rs) i n in
    let d : drop i us ≡ drop (i + 1) rs = ap (λ (l : List Row). drop i l) p ∙ drop_at (take i rs) (drop (suc i) rs) i n ∙ ap (λ (k : ℕ). drop k rs) (sym (add-one i)) in
    ap placed q
    ∙ map-append keyed (take i us) (row ∷ drop i us)
    ∙ ap (λ (l : List Row). placed l ++ (keyed row ∷ placed (drop i us))) t
    ∙ ap (λ (l : List Row). placed (take i rs) ++ (keyed row ∷ placed l)) d
    ∙ ap (λ (l : Places). l ++ (keyed row ∷ placed (drop (i + 1) rs))) (sym (take-map keyed i rs))
    ∙ ap (λ (l : Places). take i (placed rs) ++ (keyed row ∷ l)) (sym (drop-map keyed (i + 1) rs))
    ∙ sym r

pub placed-length : (rs : List Row) → length (placed rs) ≡ length rs
placed-length rs = length-map rs keyed

-- ---- all rows

-- the last of the rows that are left is put in first
pub arranged-last : (acc ps : Places) (e : Place × Bytes) → arranged_on acc (ps ++ (e ∷ [])) ≡ arranged_on (with acc e) ps
arranged-last acc [] e = refl
arranged-last acc (p ∷ ps) e = ap (λ (l : Places). with l p) (arranged-last acc ps e)

pub arrange_more :
    (acc acc₂ all was is : Places)
    (e : Place × Bytes) →
    arranged_on acc was ≡ all →
    was ≡ is ++ (e ∷ []) →
    acc₂ ≡ with acc e →
    arranged_on acc₂ is ≡ all
arrange_more acc acc₂ all was is e inv p q =
    ap (λ (l : Places). arranged_on l is) q ∙ sym (arranged-last acc is e) ∙ ap (λ (l : Places). arranged_on acc l) (sym p) ∙ inv

pub placed-last : (rs is : List Row) (e : Row) → rs ≡ is ++ (e ∷ []) → placed rs ≡ placed is ++ (keyed e ∷ [])
placed-last rs is e p = ap placed p ∙ map-append keyed is (e ∷ [])
