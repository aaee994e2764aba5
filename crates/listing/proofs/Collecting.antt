-- Steps of the loop that makes a row of each node and property.
use Rattle.std.proofs.Common.{◌≡◌, ℕ, ◌<◌, ltb, List, [], ◌∷◌, ◌++◌, map, reverse, length, is_some, IfOk, Some, None, Ok, Err, vec_items, Option, Result, Vec, sym, refl, ap, ◌∙◌, append_assoc, append-nil, arith, Bor}
use Rattle.std.specs.declared.alloc.Global.{Global}
use Rattle.std.specs.Option.{option_to_list}
use Rattle.std.proofs.lemmas.List.{map-append, reverse-append, length-reverse, length-map}
use Rattle.std.proofs.lemmas.Bool.Decides.{nat_tests}
use Rattle.names.specs.Paths.{child, stem}
use Rattle.tree.specs.Places.{Bytes, Place}
use Rattle.tree.specs.Trees.{Places}
use Rattle.tree.specs.Entries.{listed}
use Rattle.blob.specs.Tokens.{begin, property, end}
use Rattle.reader.specs.declared.tokens.Item.{Item}
use Rattle.reader.specs.declared.tokens.Item.TheVariants.{Begin, Property, End}
use Rattle.reader.specs.Format.{Spelt}
use Rattle.reader.specs.Handing.{item_of}
use Rattle.reader.specs.Reading.{entries, path_in, innermost, outer}
use Rattle.listing.specs.declared.rows.Row.{Row}
use Rattle.listing.specs.Rows.{keyed, placed, stacked, told}
use Rattle.listing.proofs.Arranging.{placed-last}

abbrev Trail : Type 0
Trail = List (Vec ℕ Global)

-- ---- the open nodes

pub stacked-push : (vs : Trail) (v : Vec ℕ Global) → stacked (vs ++ (v ∷ [])) ≡ vec_items v ∷ stacked vs
stacked-push vs v = ap reverse (map-append vec_items vs (v ∷ [])) ∙ reverse-append (map vec_items vs) (vec_items v ∷ [])

in_some : (ps : List Bytes) (name : Bytes) → 0 < length ps → path_in ps name ≡ child (innermost ps) name
in_some [] name h = absurd (omega (arith, h))
in_some (p ∷ ps) name h = refl

pub path-some : (vs : Trail) (name : Bytes) → 0 < length vs → path_in (stacked vs) name ≡ child (innermost (stacked vs)) name
path-some vs name h = in_some (stacked vs) name (rw (length-reverse, length-map) h)

pub popped : (vs us : Trail) (r : Option (Vec ℕ Global)) → vs ≡ us ++ option_to_list r → is_some r ≡ ltb 0 (length vs) → outer (stacked vs) ≡ stacked us
popped vs us (Some v) p h = ap (λ (l : Trail). outer (stacked l)) p ∙ ap outer (stacked-push us v)
popped vs us None p h = none vs us (p ∙ append-nil us) (grind (arith, nat_tests))
  where
    none : (vs us : Trail) → vs ≡ us → length vs ≡ 0 → outer (stacked vs) ≡ stacked us
    none [] us p h = ap stacked p
    none (v ∷ vs) us p h = absurd (omega (arith, h))

-- ---- one token

begin-step : (ps : List Bytes) (rest : Spelt) (at : ℕ) (name : Bytes) → listed (entries ps ((at, begin name) ∷ rest)) ≡ ((path_in ps name, None), []) ∷ listed (entries (path_in ps name ∷ ps) rest)
unfolding entries
begin-step ps rest at name = refl

property-step : (ps : List Bytes) (rest : Spelt) (at : ℕ) (name value : Bytes) → listed (entries ps ((at, property name value) ∷ rest)) ≡ ((innermost ps, Some name), value) ∷ listed (entries ps rest)
unfolding entries
property-step ps rest at name value = refl

grown : (ps qs : Places) (e : Place × Bytes) (l m : Places) → qs ≡ ps ++ (e ∷ []) → m ≡ e ∷ l → qs ++ l ≡ ps ++ m
grown ps qs e l m p q = ap (λ (x : Places). x ++ l) p ∙ append_assoc ps (e ∷ []) l ∙ ap (λ (x : Places). ps ++ x) (sym q)

pub begin-more :
    (ps qs : Places)
    (st ss : List Bytes)
    (at : ℕ)
    (name : Bytes) →
    qs ≡ ps ++ (((path_in st name, None), []) ∷ []) →
    ss ≡ path_in st name ∷ st →
    (rest : Spelt) →
    told qs ss rest ≡ told ps st ((at, begin name) ∷ rest)
begin-more ps qs st ss at name p q rest =
    let m : listed (entries st ((at, begin name) ∷ rest)) ≡ ((path_in st name, None), []) ∷ listed (entries ss rest) =
    begin-step st rest at name ∙ ap (λ (x : List Bytes). ((path_in st name, None), []) ∷ listed (entries x rest)) (sym q) in
    grown ps qs ((path_in st name, None), []) (listed (entries ss rest)) (listed (entries st ((at, begin name) ∷ rest))) p m

pub property-more :
    (ps qs : Places)
    (st : List Bytes)
    (at : ℕ)
    (name value : Bytes) →
    qs ≡ ps ++ (((innermost st, Some name), value) ∷ []) →
    (rest : Spelt) →
    told qs st rest ≡ told ps st ((at, property name value) ∷ rest)
property-more ps qs st at name value p rest =
    grown ps qs ((innermost st, Some name), value) (listed (entries st rest)) (listed (entries st ((at, property name value) ∷ rest))) p (property-step st rest at name value)

pub end_more : (ps : Places) (st ss : List Bytes) (at : ℕ) → outer st ≡ ss → (rest : Spelt) → told ps ss rest ≡ told ps st ((at, end) ∷ rest)
unfolding entries
end_more ps st ss at q rest = ap (λ (x : List Bytes). told ps x rest) (sym q)

pub none_left : (ps all : Places) (st : List Bytes) (was : Spelt) → told ps st was ≡ all → was ≡ [] → ps ≡ all
unfolding entries
none_left ps all st was inv p = sym (append-nil ps) ∙ ap (λ (ts : Spelt). told ps st ts) (sym p) ∙ inv

-- a path, a slash and a name
pub child_built :
    (parent name v₀ v₁ v₂ : Bytes) →
    v₀ ≡ stem parent →
    v₁ ≡ v₀ ++ (47 ∷ []) →
    v₂ ≡ v₁ ++ name →
    v₂ ≡ child parent name
child_built parent name v₀ v₁ v₂ p q r = r ∙ ap (λ (l : Bytes). l ++ name) q ∙ append_assoc v₀ (47 ∷ []) name ∙ ap (λ (l : Bytes). l ++ (47 ∷ name)) p

-- a row with this path behind the others
pub row_more :
    (rs us : List Row)
    (row : Row)
    (path : Bytes)
    (name : Option Bytes)
    (value : Bytes) →
    us ≡ rs ++ (row ∷ []) →
    keyed row ≡ ((vec_items row.place.path, name), value) →
    vec_items row.place.path ≡ path →
    placed us ≡ placed rs ++ (((path, name), value) ∷ [])
row_more rs us row path name value p k q =
    placed-last us rs row p
    ∙ ap (λ (e : Place × Bytes). placed rs ++ (e ∷ [])) k
    ∙ ap (λ (x : Bytes). placed rs ++ (((x, name), value) ∷ [])) q

-- ---- one item

pub begin-made :
    {E : Type 0}
    (r : Result (Unit {0}) E)
    (ps qs : Places)
    (st ss : List Bytes)
    (i : Item)
    (at : ℕ)
    (name : Bor Bytes) →
    i ≡ Begin at name →
    IfOk r (λ _. qs ≡ ps ++ (((path_in st name.now, None), []) ∷ [])) →
    IfOk r (λ _. ss ≡ path_in st name.now ∷ st) →
    IfOk r (λ _. (rest : Spelt) → told qs ss rest ≡ told ps st (item_of i ∷ rest))
begin-made (Ok u) ps qs st ss i at name e p q =
    λ rest. begin-more ps qs st ss at name.now p q rest ∙ ap (λ (x : Item). told ps st (item_of x ∷ rest)) (sym e)
begin-made (Err d) ps qs st ss i at name e p q = tt

pub property-made :
    {E : Type 0}
    (r : Result (Unit {0}) E)
    (ps qs : Places)
    (st : List Bytes)
    (i : Item)
    (at : ℕ)
    (name value : Bor Bytes) →
    i ≡ Property at name value →
    IfOk r (λ _. qs ≡ ps ++ (((innermost st, Some name.now), value.now) ∷ [])) →
    IfOk r (λ _. (rest : Spelt) → told qs st rest ≡ told ps st (item_of i ∷ rest))
property-made (Ok u) ps qs st i at name value e p =
    λ rest. property-more ps qs st at name.now value.now p rest ∙ ap (λ (x : Item). told ps st (item_of x ∷ rest)) (sym e)
property-made (Err d) ps qs st i at name value e p = tt

pub end-made :
    (ps : Places)
    (vs us : Trail)
    (r : Option (Vec ℕ Global))
    (n : ℕ)
    (i : Item)
    (at : ℕ) →
    i ≡ End at →
    vs ≡ us ++ option_to_list r →
    is_some r ≡ ltb 0 n →
    n ≡ length vs →
    (rest : Spelt) →
    told ps (stacked us) rest ≡ told ps (stacked vs) (item_of i ∷ rest)
end-made ps vs us r n i at e p s l rest =
    end_more ps (stacked vs) (stacked us) at (popped vs us r p (s ∙ ap (λ (m : ℕ). ltb 0 m) l)) rest ∙ ap (λ (x : Item). told ps (stacked vs) (item_of x ∷ rest)) (sym e)
