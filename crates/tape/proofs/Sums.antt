-- What the limits count, on the list and on the tree. Assumes nothing.
use Rattle.std.proofs.Common.{◌≡◌, ℕ, ◌+◌, ◌-◌, ◌≤◌, true, ◌&&◌, leb, List, [], ◌∷◌, ◌++◌, length, Some, None, sym, refl, ap, ◌∙◌, subst, arith}
use Rattle.std.proofs.lemmas.Bool.{and_parts, leb-true}
use Rattle.names.specs.Paths.{leaf}
use Rattle.names.proofs.NameLaws.{node_names}
use Rattle.names.proofs.PathLaws.{behind-last, root_ends}
use Rattle.tree.specs.Maps.{worth, total}
use Rattle.tree.specs.Places.{Bytes, Place, node_at, property_at}
use Rattle.tree.specs.Trees.{Places, Tree, look, change, node_count, property_count, weigh, nodes, properties, weight, roomy, short_place}
use Rattle.tree.proofs.Maps.{total-upd}
use Rattle.tree.proofs.Places.{place-order}
use Rattle.store.specs.Calls.{admitted}
use Rattle.tape.specs.Nodes.{Node, Property, cut, height, step, path_of, listed, spread, tree_from, fits, shaped, valid}
use Rattle.tree.specs.Counting.{node_weight, property_weight}
use Rattle.tape.specs.Tapes.{properties_weight, weight_of, properties_of}
use Rattle.tape.proofs.Arranged.{total-arranged}
use Rattle.tape.proofs.Around.{root-parts, fits-nil}
use Rattle.tape.proofs.Finds.{fit_parts, fit-step, path-full}
use Rattle.tape.proofs.Sounds.{parts, sound_open}

total_join : (f : Place → Bytes → ℕ) (xs ys : Places) → total f (xs ++ ys) ≡ total f xs + total f ys
unfolding total
total_join f [] ys = omega arith
total_join f (x ∷ xs) ys = omega (arith, total_join f xs ys)

listed-nodes : (p : Bytes) (xs : List Property) → total node_count (listed p xs) ≡ 0
unfolding total listed
listed-nodes p [] = refl
listed-nodes p (x ∷ xs) = omega (arith, listed-nodes p xs)

listed-properties : (p : Bytes) (xs : List Property) → total property_count (listed p xs) ≡ length xs
unfolding total listed
listed-properties p [] = refl
listed-properties p (x ∷ xs) = omega (arith, listed-properties p xs)

listed-weight : (p : Bytes) (xs : List Property) → total weigh (listed p xs) ≡ properties_weight xs
unfolding total listed properties_weight
listed-weight p [] = refl
listed-weight p (x ∷ xs) = ap (λ n. property_weight (length x.0) (length x.1) + n) (listed-weight p xs)

pub path_join : (x c : Bytes) → path_of (x ++ (47 ∷ c)) ≡ x ++ (47 ∷ c)
path_join [] c = path-full 47 c
path_join (b ∷ x) c = path-full b (x ++ (47 ∷ c))

leaf-step : (s : Bytes) (n : Node) (ns : List Node) → fits (height s) (n ∷ ns) ≡ true → leaf (path_of (step s n)) ≡ n.name
leaf-step s n ns h =
    let f = fit-step s n ns h in
    let b = fit_parts (height s) n ns h in
    ap (λ t. leaf (path_of t)) f.2 ∙ ap leaf (path_join (cut (n.depth - 1) s) n.name) ∙ behind-last _ (cut (n.depth - 1) s) n.name (node_names n.name b.2).0

spread-nodes : (s : Bytes) (ns : List Node) → total node_count (spread s ns) ≡ length ns
unfolding total spread
spread-nodes s [] = refl
spread-nodes s (n ∷ ns) =
    let p = path_of (step s n) in
    omega (arith, total_join node_count (listed p n.properties) (spread (step s n) ns), listed-nodes p n.properties, spread-nodes (step s n) ns)

spread-properties : (s : Bytes) (ns : List Node) → total property_count (spread s ns) ≡ properties_of ns
unfolding total spread properties_of
spread-properties s [] = refl
spread-properties s (n ∷ ns) =
    let p = path_of (step s n) in
    omega (arith, total_join property_count (listed p n.properties) (spread (step s n) ns), listed-properties p n.properties, spread-properties (step s n) ns)

one-weight : (s : Bytes) (n : Node) (ns : List Node) → leaf (path_of (step s n)) ≡ n.name → total weigh (spread (step s n) ns) ≡ weight_of ns → total weigh (spread s (n ∷ ns)) ≡ weight_of (n ∷ ns)
unfolding total spread weight_of
one-weight s n ns e r =
    let p = path_of (step s n) in
    let j = total_join weigh (listed p n.properties) (spread (step s n) ns) in
    let w : weigh (node_at p) [] ≡ node_weight (length n.name) = ap (λ t. node_weight (length t)) e in
    omega (arith, j, w, listed-weight p n.properties, r)

spread-weight : (s : Bytes) (ns : List Node) → fits (height s) ns ≡ true → total weigh (spread s ns) ≡ weight_of ns
unfolding total spread weight_of
spread-weight s [] h = refl
spread-weight s (n ∷ ns) h = one-weight s n ns (leaf-step s n ns h) (spread-weight (step s n) ns (fit-step s n ns h).1)

all-weight : (ns : List Node) → shaped ns ≡ true → total weigh (spread [] ns) ≡ weight_of ns
unfolding total spread weight_of
all-weight [] h = refl
all-weight (r ∷ ns) h =
    let o = root-parts r ns h in
    let z = o.3 [] in
    one-weight [] r ns (ap (λ t. leaf (path_of t)) z ∙ root_ends.1 ∙ sym o.1) (subst (λ t. total weigh (spread t ns) ≡ weight_of ns) (sym z) (spread-weight [] ns (fits-nil ns o.2)))

-- the sums over the tree's places
module _ (boot : ℕ) (ns : List Node) (v : valid boot ns ≡ true) where
  pub nodes_are : nodes (tree_from boot ns).places ≡ length ns
  nodes_are = total-arranged node_count (spread [] ns) (parts boot ns v).once ∙ spread-nodes [] ns

  pub properties_are : properties (tree_from boot ns).places ≡ properties_of ns
  properties_are = total-arranged property_count (spread [] ns) (parts boot ns v).once ∙ spread-properties [] ns

  pub weight_is : weight (tree_from boot ns).places ≡ weight_of ns
  weight_is = total-arranged weigh (spread [] ns) (parts boot ns v).once ∙ all-weight ns (parts boot ns v).shape

-- a valid list is within the limits
pub roomy-parts : (ps : Places) → roomy ps ≡ true → (nodes ps ≤ 256) × (properties ps ≤ 1024) × (weight ps ≤ 24576)
roomy-parts ps h =
    let a = and_parts (leb (nodes ps) 256) _ h in
    let b = and_parts (leb (properties ps) 1024) (leb (weight ps) 24576) a.1 in
    (leb-true _ _ a.0, leb-true _ _ b.0, leb-true _ _ b.1)

pub within_limits : (boot : ℕ) (ns : List Node) → valid boot ns ≡ true → (length ns ≤ 256) × (properties_of ns ≤ 1024) × (weight_of ns ≤ 24576)
unfolding properties_of weight_of
within_limits boot [] v = (omega arith, omega arith, omega arith)
within_limits boot (n ∷ ns) v =
    let r = roomy-parts (tree_from boot (n ∷ ns)).places (sound_open boot n ns v).roomy in
    (omega (arith, r.0, nodes_are boot (n ∷ ns) v), omega (arith, r.1, properties_are boot (n ∷ ns) v), omega (arith, r.2, weight_is boot (n ∷ ns) v))

-- ---- one place more, or another value there

total-new : (t : Tree) (f : Place → Bytes → ℕ) (k : Place) (w : Bytes) → look t k ≡ None → total f (change t k (Some w)).places ≡ total f t.places + f k w
unfolding change look
total-new t f k w e = omega (arith, total-upd place-order f t.places k (Some w), ap (worth f k) e)

total-other : (t : Tree) (f : Place → Bytes → ℕ) (k : Place) (u w : Bytes) → look t k ≡ Some u → total f (change t k (Some w)).places + f k u ≡ total f t.places + f k w
unfolding change look
total-other t f k u w e = omega (arith, total-upd place-order f t.places k (Some w), ap (worth f k) e)

pub admit_new : (t : Tree) (k : Place) (w : Bytes) → look t k ≡ None → admitted t k w ≡ (short_place k w && (leb (nodes t.places + node_count k w) 256 && (leb (properties t.places + property_count k w) 1024 && leb (weight t.places + weigh k w) 24576)))
admit_new t k w e =
    λ i. short_place k w && (leb (total-new t node_count k w e i) 256 && (leb (total-new t property_count k w e i) 1024 && leb (total-new t weigh k w e i) 24576))

pub admit_other : (t : Tree) (p c u w : Bytes) (rest : ℕ) → look t (property_at p c) ≡ Some u → weight t.places ≡ rest + property_weight (length c) (length u) → admitted t (property_at p c) w ≡ (short_place (property_at p c) w && (leb (nodes t.places) 256 && (leb (properties t.places) 1024 && leb (rest + property_weight (length c) (length w)) 24576)))
admit_other t p c u w rest e r =
    let k = property_at p c in
    let a : nodes (change t k (Some w)).places ≡ nodes t.places = omega (arith, total-other t node_count k u w e) in
    let b : properties (change t k (Some w)).places ≡ properties t.places = omega (arith, total-other t property_count k u w e) in
    let d : weight (change t k (Some w)).places ≡ rest + property_weight (length c) (length w) = omega (arith, total-other t weigh k u w e, r) in
    λ i. short_place k w && (leb (a i) 256 && (leb (b i) 1024 && leb (d i) 24576))
