-- What is read at a node and at a property. Assumes nothing.
use Rattle.std.proofs.Common.{◌≡◌, ℕ, zero, suc, ◌+◌, ◌-◌, ◌<◌, ◌≤◌, List, [], ◌∷◌, ◌++◌, length, take, drop, Some, refl, ap, ◌∙◌, subst, arith}
use Rattle.names.specs.Names.{before}
use Rattle.std.proofs.lemmas.List.{take_more, take_at, map-append}
use Rattle.std.specs.List.{between}
use Rattle.tree.specs.Numbers.{be32, pad4}
use Rattle.tree.specs.Places.{Bytes}
use Rattle.blob.specs.Tokens.{Tok, begin, property, finish, text_at}
use Rattle.blob.proofs.Shapes.{text_complete}
use Rattle.tape.specs.Nodes.{Node, Property}
use Rattle.tape.specs.Tapes.{nth, properties_at, property_of, properties_of}
use Rattle.packed.specs.Packing.{size_of, strings, begin_of, first_of, mark_of, property_tokens, tokens_of, ends}
use Rattle.packed.specs.Regions.{memory, nodes_of, Open}
use Rattle.packed.specs.declared.region.Region.{Region}
use Rattle.packed.proofs.Cursors.{Cursor, name-at, size-at, offset_at, value-at, text-length}
use Rattle.packed.proofs.Decoded.{string_at, text_in}
use Rattle.packed.proofs.Spots.{at-begin, at_mark, at-property, room_for, kind-is, no_property}
use Rattle.packed.proofs.Tokens.{size-one, size_join, names-one, size-ends}

-- the tokens of nodes end with a finish token
some_left : (q : ℕ) (ms : List Node) → 4 ≤ size_of (tokens_of q ms)
unfolding tokens_of
some_left q [] =
    let a = size_join (ends q) (finish ∷ []) in
    let b = size-one finish [] in
    omega arith
some_left q (m ∷ ms) =
    let us : List Tok = property_tokens m.properties ++ tokens_of (m.depth + 1) ms in
    let a = size_join (ends (q - m.depth)) (begin m.name ∷ us) in
    let b = size-one (begin m.name) us in
    omega arith

module _ (x : Region) (o : Open x) (i : ℕ) (l : i < length (nodes_of x)) where
  abbrev ns : List Node
  ns = nodes_of x

  -- ---- the name of a node
  abbrev behind : List Tok
  behind = property_tokens (nth ns i).properties ++ tokens_of ((nth ns i).depth + 1) (drop (i + 1) ns)

  pub name-room : (begin_of ns i + (4 + pad4 (length (nth ns i).name + 1)) ≤ 56 + x.structure) × (56 + x.structure ≤ length (memory x)) × (56 + x.structure + x.strings ≤ 40960)
  name-room =
      let c = at-begin x o i l in
      let z = size-one (begin (nth ns i).name) behind in
      let q = c.stop in
      let m = c.small in
      let k = c.room in
      (omega arith, omega arith, omega arith)

  name-here : (tail : Bytes) × (drop (begin_of ns i + 4) (memory x) ≡ (nth ns i).name ++ (0 ∷ tail))
  name-here = let c = at-begin x o i l in name-at (memory x) (begin_of ns i) c.k c.rest (nth ns i).name behind c.tokens

  pub name-long : before 0 (between (begin_of ns i + 4) (56 + x.structure) (memory x)) ≡ length (nth ns i).name
  name-long =
      let c = at-begin x o i l in
      let r = name-room.0 in
      text-length (memory x) (nth ns i).name name-here.0 (begin_of ns i + 4) (56 + x.structure) name-here.1 (omega arith) c.full.0

  pub name_text : text_at (memory x) (begin_of ns i + 4) (56 + x.structure) ≡ Some (nth ns i).name
  name_text =
      let c = at-begin x o i l in
      let r = name-room.0 in
      let t = text_in (memory x) (nth ns i).name name-here.0 (begin_of ns i + 4) (56 + x.structure) name-here.1 (omega arith) c.full.0 in
      text_complete (memory x) (begin_of ns i + 4) (56 + x.structure) (nth ns i).name t

  -- ---- a property
  module _ (j : ℕ) (k : j < length (properties_at (nodes_of x) i)) where
    abbrev name : Bytes
    name = (property_of ns i j).0

    abbrev value : Bytes
    value = (property_of ns i j).1

    abbrev later : List Tok
    later = property_tokens (drop (j + 1) (nth ns i).properties) ++ tokens_of ((nth ns i).depth + 1) (drop (i + 1) ns)

    pub cursor : Cursor x (mark_of ns i j).at (property (property_of ns i j).0 (property_of ns i j).1 ∷ (property_tokens (drop (j + 1) (nth ns i).properties) ++ tokens_of ((nth ns i).depth + 1) (drop (i + 1) ns)))
    cursor = at-property x o i l j k

    pub kind-here : be32 (memory x) (mark_of ns i j).at ≡ 3
    kind-here = kind-is x (mark_of ns i j).at (property name value) later cursor

    pub property-room : ((mark_of ns i j).at + (12 + pad4 (length value)) ≤ 56 + x.structure) × (56 + x.structure + x.strings ≤ 40960) × (40960 ≤ length (memory x)) × (56 + x.structure + cursor.k + (length name + 1) ≤ 56 + x.structure + x.strings)
    property-room =
        let z = size-one (property name value) later in
        let y = names-one (property name value) later in
        let q = cursor.stop in
        let n = cursor.named in
        (omega arith, cursor.small, cursor.room, omega arith)

    pub size-here : be32 (memory x) ((mark_of ns i j).at + 4) ≡ length value
    size-here = let r = property-room.0 in let s = property-room.1 in size-at (memory x) (mark_of ns i j).at cursor.k cursor.rest name value later cursor.tokens (omega arith)

    pub offset-here : be32 (memory x) ((mark_of ns i j).at + 8) ≡ cursor.k
    offset-here = let r = property-room.3 in let s = property-room.1 in offset_at (memory x) (mark_of ns i j).at cursor.k cursor.rest name value later cursor.tokens (omega arith)

    pub value-here : between ((mark_of ns i j).at + 12) ((mark_of ns i j).at + 12 + length value) (memory x) ≡ value
    value-here =
        let p : ℕ = (mark_of ns i j).at in
        let w : p + 12 + length value - (p + 12) ≡ length value = omega arith in
        ap (λ n. take n (drop (p + 12) (memory x))) w ∙ ap (take (length value)) (value-at (memory x) p cursor.k cursor.rest name value later cursor.tokens) ∙ take_at value _ (length value) refl

    pub string_text : text_at (memory x) (56 + x.structure + cursor.k) (56 + x.structure + x.strings) ≡ Some name
    string_text =
        let r = property-room.3 in
        let t = text_in (memory x) name (strings later ++ cursor.tail) (56 + x.structure + cursor.k) (56 + x.structure + x.strings) (string_at x (mark_of ns i j).at name value later cursor) (omega arith) cursor.full.0 in
        text_complete (memory x) (56 + x.structure + cursor.k) (56 + x.structure + x.strings) name t

    -- where the next one is
    pub mark-next : (mark_of ns i (j + 1)).at ≡ (mark_of ns i j).at + 12 + pad4 (length value)
    unfolding mark_of
    mark-next =
        let xs : List Property = properties_at ns i in
        let e : property_tokens (take (j + 1) xs) ≡ property_tokens (take j xs) ++ (property name value ∷ []) = ap (λ z. property_tokens z) (take_more xs j ([], []) k) ∙ map-append (λ y. property y.0 y.1) (take j xs) (property_of ns i j ∷ []) in
        let a = ap size_of e in
        let b = size_join (property_tokens (take j xs)) (property name value ∷ []) in
        let c = size-one (property name value) [] in
        let d : size_of [] ≡ 0 = size-ends 0 in
        omega arith

  -- past the last property
  pub past_last : (j : ℕ) → length (properties_at (nodes_of x) i) ≤ j → be32 (memory x) (mark_of (nodes_of x) i j).at ≡ 3 → ⊥
  past_last j h e =
      no_property x o (mark_of ns i j).at ((nth ns i).depth + 1) (drop (i + 1) ns) (subst (λ z. Cursor x (mark_of ns i j).at (property_tokens z ++ tokens_of ((nth ns i).depth + 1) (drop (i + 1) ns))) (Rattle.std.proofs.lemmas.List.drop_all j (nth ns i).properties h) (at_mark x o i l j)) e

  pub mark-room : (j : ℕ) → ((mark_of (nodes_of x) i j).at + 4 ≤ length (memory x)) × ((mark_of (nodes_of x) i j).at + 4 ≤ 40960)
  mark-room j =
      let c = at_mark x o i l j in
      let r = room_for x (mark_of ns i j).at (property_tokens (drop j (nth ns i).properties) ++ tokens_of ((nth ns i).depth + 1) (drop (i + 1) ns)) c in
      let a = size_join (property_tokens (drop j (nth ns i).properties)) (tokens_of ((nth ns i).depth + 1) (drop (i + 1) ns)) in
      let b = some_left ((nth ns i).depth + 1) (drop (i + 1) ns) in
      (omega (arith, r.0), omega (arith, r.1))

  pub first-mark : first_of (nodes_of x) i ≡ (mark_of (nodes_of x) i 0).at
  unfolding mark_of
  first-mark = let z : size_of [] ≡ 0 = size-ends 0 in omega arith

pub properties-within : (ns : List Node) (i : ℕ) → length (properties_at ns i) ≤ properties_of ns
unfolding properties_of
properties-within [] i = omega arith
properties-within (n ∷ ns) zero = omega arith
properties-within (n ∷ ns) (suc i) = let h = properties-within ns i in omega arith
