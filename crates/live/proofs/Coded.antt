-- Records and a pool spell the nodes that they were made from. Assumes nothing.
use Rattle.std.proofs.Common.{◌≡◌, List, [], ◌∷◌, ◌++◌, map, length, take, drop, sym, refl, ap, ◌∙◌, append_assoc}
use Rattle.std.proofs.lemmas.List.{take_at, drop_at, length-map}
use Rattle.tree.specs.Places.{Bytes}
use Rattle.tape.specs.Nodes.{Node, Property}
use Rattle.live.specs.Records.{cell_of, property_bytes, rows_of, cells_of, bytes_of, properties_from, nodes_from}

pub properties_coded : (xs : List Property) (rest : Bytes) → properties_from (map cell_of xs) (property_bytes xs ++ rest) ≡ xs
unfolding properties_from property_bytes
properties_coded [] rest = refl
properties_coded (x ∷ xs) rest =
    let a : property_bytes (x ∷ xs) ++ rest ≡ x.0 ++ (x.1 ++ (property_bytes xs ++ rest)) = append_assoc x.0 (x.1 ++ property_bytes xs) rest ∙ ap (λ t. x.0 ++ t) (append_assoc x.1 (property_bytes xs) rest) in
    let n = take_at x.0 (x.1 ++ (property_bytes xs ++ rest)) (length x.0) refl in
    let d = drop_at x.0 (x.1 ++ (property_bytes xs ++ rest)) (length x.0) refl in
    let v = take_at x.1 (property_bytes xs ++ rest) (length x.1) refl in
    let e = drop_at x.1 (property_bytes xs ++ rest) (length x.1) refl in
    (λ i. (take (length x.0) (a i), take (length x.1) (drop (length x.0) (a i))) ∷ properties_from (map cell_of xs) (drop (length x.1) (drop (length x.0) (a i))))
    ∙ (λ i. (n i, take (length x.1) (d i)) ∷ properties_from (map cell_of xs) (drop (length x.1) (d i)))
    ∙ (λ i. (x.0, v i) ∷ properties_from (map cell_of xs) (e i)) ∙ ap (λ t. x ∷ t) (properties_coded xs rest)

pub nodes_coded : (ns : List Node) → nodes_from (rows_of ns) (cells_of ns) (bytes_of ns) ≡ ns
unfolding nodes_from cells_of bytes_of
nodes_coded [] = refl
nodes_coded (n ∷ ns) =
    let ps = n.properties in
    let w = property_bytes ps ++ bytes_of ns in
    let nm = take_at n.name w (length n.name) refl in
    let d = drop_at n.name w (length n.name) refl in
    let e = drop_at (property_bytes ps) (bytes_of ns) (length (property_bytes ps)) refl in
    let c = take_at (map cell_of ps) (cells_of ns) (length ps) (length-map ps cell_of) in
    let f = drop_at (map cell_of ps) (cells_of ns) (length ps) (length-map ps cell_of) in
    (λ i. record { depth = n.depth; name = nm i; properties = properties_from (c i) (d i) } ∷ nodes_from (rows_of ns) (f i) (drop (length (property_bytes ps)) (d i)))
    ∙ (λ i. record { depth = n.depth; name = n.name; properties = properties_coded ps (bytes_of ns) i } ∷ nodes_from (rows_of ns) (cells_of ns) (e i)) ∙ ap (λ t. n ∷ t) (nodes_coded ns)

pub bytes_join : (xs ys : List Node) → bytes_of (xs ++ ys) ≡ bytes_of xs ++ bytes_of ys
unfolding bytes_of
bytes_join [] ys = refl
bytes_join (n ∷ xs) ys =
    ap (λ t. n.name ++ (property_bytes n.properties ++ t)) (bytes_join xs ys) ∙ ap (λ t. n.name ++ t) (sym (append_assoc (property_bytes n.properties) (bytes_of xs) (bytes_of ys)))
    ∙ sym (append_assoc n.name (property_bytes n.properties ++ bytes_of xs) (bytes_of ys))

pub cells_join : (xs ys : List Node) → cells_of (xs ++ ys) ≡ cells_of xs ++ cells_of ys
unfolding cells_of
cells_join [] ys = refl
cells_join (n ∷ xs) ys =
    ap (λ t. map cell_of n.properties ++ t) (cells_join xs ys) ∙ sym (append_assoc (map cell_of n.properties) (cells_of xs) (cells_of ys))

pub property-bytes_join : (xs ys : List Property) → property_bytes (xs ++ ys) ≡ property_bytes xs ++ property_bytes ys
unfolding property_bytes
property-bytes_join [] ys = refl
property-bytes_join (x ∷ xs) ys =
    ap (λ t. x.0 ++ (x.1 ++ t)) (property-bytes_join xs ys) ∙ ap (λ t. x.0 ++ t) (sym (append_assoc x.1 (property_bytes xs) (property_bytes ys)))
    ∙ sym (append_assoc x.0 (x.1 ++ property_bytes xs) (property_bytes ys))
