-- The reader accepts the tokens. Assumes nothing.
use Rattle.std.proofs.Common.{◌≡◌, ℕ, ◌+◌, ◌<◌, ◌≤◌, Bool, true, false, eqb, leb, ◌⊎◌, List, [], ◌∷◌, ◌++◌, length, Some, None, Ok, Result, Less, sym, refl, ap, ◌∙◌, subst, inl, inr, ⊎_elim, true≢false, arith}
use Rattle.std.proofs.lemmas.Bool.Decides.{nat_tests}
use Rattle.std.proofs.lemmas.Bool.{or_cases, and_parts, leb-true, ne_eqb}
use Rattle.std.specs.Str.{bytes_eq}
use Rattle.std.proofs.lemmas.Slice.Eq.{bytes_eq-Decides}
use Rattle.names.specs.Names.{node_name, property_name}
use Rattle.names.specs.Orders.{path_order}
use Rattle.names.specs.Paths.{root, stem, child, leaf}
use Rattle.names.proofs.NameLaws.{node_names}
use Rattle.names.proofs.Orders.{child_after}
use Rattle.names.proofs.PathLaws.{child_length}
use Rattle.tree.specs.Maps.{Below, Rises, total}
use Rattle.tree.specs.Places.{Bytes, Place, node_at, property_at, order}
use Rattle.tree.specs.Trees.{Places, short_place, nodes, properties, weight}
use Rattle.tree.proofs.Maps.{same}
use Rattle.tree.proofs.Places.{place-order}
use Rattle.blob.specs.Tokens.{begin, property, end}
use Rattle.blob.specs.declared.types.Refusal.{Refusal}
use Rattle.tree.specs.Counting.{with_node, with_property, node_fits, property_fits}
use Rattle.tree.specs.declared.counts.Counts.{Counts}
use Rattle.reader.specs.Verdict.{has, Open, opened, kids, verdict}
use Rattle.reader.proofs.Children.{stem-of}
use Rattle.reader.proofs.Complete.{somes}
use Rattle.reader.proofs.Distinct.{has_append}
use Rattle.walk.specs.Runs.{Runs, run_end, run_root, run_property, run_node, run_leave}
use Rattle.walk.proofs.Orders.{equal_less, paths-less}
use Rattle.walk.proofs.Runs.{below-tail, below_less}
use Rattle.writer.specs.Strings.{name_offset, with_name}
use Rattle.writer.specs.Written.{Piece, token_bytes, ends, pieces}
use Rattle.writer.proofs.Lexes.{spell}
use Rattle.writer.proofs.Sizes.{pieces-node, pieces-leave}

-- every place is short
abbrev pub Shorts : Places → Type 0
Shorts [] = Unit {0}
Shorts (e ∷ es) = (short_place e.0 e.1 ≡ true) × Shorts es

-- the counts leave room for what is to come
pub record Room (c : Counts) (es : Places) : Type 0 where
  pub some : 0 < c.nodes
  pub nodes : c.nodes + nodes es ≤ 256
  pub properties : c.properties + properties es ≤ 1024
  pub weight : c.weight + weight es ≤ 24576

-- an open node: its names are before what is to come
pub record Past (es : Places) (g : Open) (p : Bytes) : Type 0 where
  pub path : g.path ≡ length (stem p)
  pub kin : (m : Bytes) → has m (kids g) ≡ true → Below order (node_at (child p m)) es
  pub own : g.children ≡ false → (m : Bytes) → has m g.names ≡ true → Below order (property_at p m) es
  pub late : g.children ≡ true → (m : Bytes) → Below order (property_at p m) es

abbrev pub Pasts : Places → List Open → List Bytes → Type 0
Pasts es [] [] = Unit {0}
Pasts es [] (p ∷ ps) = ⊥
Pasts es (g ∷ gs) [] = ⊥
Pasts es (g ∷ gs) (p ∷ ps) = Past es g p × Pasts es gs ps

past-tail : (e : Place × Bytes) (es : Places) (g : Open) (p : Bytes) → Rises order (e ∷ es) → Past (e ∷ es) g p → Past es g p
past-tail e es g p r h = record {
  path = h.path;
  kin = λ m x. below-tail (node_at (child p m)) e es (h.kin m x) r;
  own = λ f m x. below-tail (property_at p m) e es (h.own f m x) r;
  late = λ f m. below-tail (property_at p m) e es (h.late f m) r;
}

pasts_tail : (e : Place × Bytes) (es : Places) (gs : List Open) (ps : List Bytes) → Rises order (e ∷ es) → Pasts (e ∷ es) gs ps → Pasts es gs ps
pasts_tail e es [] [] r h = tt
pasts_tail e es [] (p ∷ ps) r h = absurd h
pasts_tail e es (g ∷ gs) [] r h = absurd h
pasts_tail e es (g ∷ gs) (p ∷ ps) r h = (past-tail e es g p r h.0, pasts_tail e es gs ps r h.1)

itself : (k : Place) → order k k ≡ Less → ⊥
itself k e = equal_less (sym (same place-order k) ∙ e)

not_yet : (b : Bool) → (b ≡ true → ⊥) → b ≡ false
not_yet true h = absurd (h refl)
not_yet false h = refl

-- a name among some and one more
has_push : (m n : Bytes) (ns : List Bytes) → has m (ns ++ (n ∷ [])) ≡ true → (has m ns ≡ true) ⊎ (n ≡ m)
has_push m n ns h =
    ⊎_elim inl
    (λ z. ⊎_elim (λ y. inr ((bytes_eq-Decides n m).0 y)) (λ y. absurd (true≢false (sym y))) (or_cases (bytes_eq n m) false z))
    (or_cases (has m ns) (has m (n ∷ [])) (sym (has_append m ns (n ∷ [])) ∙ h))

-- verdicts, one token on
abbrev pub told : List Open → Counts → ℕ → List Piece → Result Counts Refusal
told gs c o xs = verdict gs c (somes (spell o xs))

entered : (g : Open) (gs : List Open) (c : Counts) (o : ℕ) (name : Bytes) (xs : List Piece) → node_name name ≡ true → has name (kids g) ≡ false → node_fits c (g.path + 1 + length name) (length name) ≡ true
    → told (g ∷ gs) c o ((begin name, 0) ∷ xs) ≡ told (opened (g.path + 1 + length name) false [] ∷ opened g.path true (kids g ++ (name ∷ [])) ∷ gs) (with_node c (length name)) (o + length (token_bytes (begin name) 0)) xs
unfolding verdict somes spell
entered g gs c o name xs good new room = rw (good, new, room)

held : (g : Open) (gs : List Open) (c : Counts) (o i : ℕ) (name value : Bytes) (xs : List Piece) → g.children ≡ false → property_name name ≡ true → has name g.names ≡ false → property_fits c (length name) (length value) ≡ true
    → told (g ∷ gs) c o ((property name value, i) ∷ xs) ≡ told (opened g.path false (g.names ++ (name ∷ [])) ∷ gs) (with_property c (length name) (length value)) (o + length (token_bytes (property name value) i)) xs
unfolding verdict somes spell
held g gs c o i name value xs early good new room = rw (early, good, new, room)

left : (g : Open) (gs : List Open) (c : Counts) (o : ℕ) (xs : List Piece) → told (g ∷ gs) c o ((end, 0) ∷ xs) ≡ told gs c (o + 4) xs
unfolding verdict somes spell
left g gs c o xs = refl

abbrev pub Accepted : List Open → Counts → ℕ → List Piece → Type 0
Accepted gs c o xs = (r : Counts) × (told gs c o xs ≡ Ok r)

ended : (es : Places) (gs : List Open) (ps : List Bytes) (c : Counts) (o : ℕ) → 0 < c.nodes → Pasts es gs ps → Accepted gs c o (ends ps)
unfolding verdict somes spell
ended es [] [] c o h s = let z : eqb c.nodes 0 ≡ false = ne_eqb c.nodes 0 (λ e. omega arith) in (c, rw z refl)
ended es [] (p ∷ ps) c o h s = absurd s
ended es (g ∷ gs) [] c o h s = absurd s
ended es (g ∷ gs) (p ∷ ps) c o h s = ended es gs ps c (o + 4) h s.1

-- a property comes
module _ (g : Open) (p n v : Bytes) (es : Places) (h : Past ((property_at p n, v) ∷ es) g p) where
  early : g.children ≡ false
  early = not_yet g.children (λ t. itself (property_at p n) (h.late t n))

  own_new : has n g.names ≡ false
  own_new = not_yet (has n g.names) (λ t. itself (property_at p n) (h.own early n t))

  past-property : Rises order ((property_at p n, v) ∷ es) → Past es (opened g.path false (g.names ++ (n ∷ []))) p
  past-property r =
      let k = past-tail (property_at p n, v) es g p r h in
      record {
        path = h.path;
        kin = λ m x. absurd (true≢false (sym x));
        own = λ f m x. ⊎_elim (λ y. k.own early m y) (λ e. subst (λ z. Below order (property_at p z) es) e r.0) (has_push m n g.names x);
        late = λ f m. absurd (true≢false (sym f));
      }

-- a child comes
module _ (g : Open) (p q v : Bytes) (es : Places) (is : child p (leaf q) ≡ q) (good : node_name (leaf q) ≡ true) (h : Past ((node_at q, v) ∷ es) g p) where
  kin-new : has (leaf q) (kids g) ≡ false
  kin-new = not_yet (has (leaf q) (kids g)) (λ t. itself (node_at q) (ap (λ x. order (node_at x) (node_at q)) (sym is) ∙ h.kin (leaf q) t))

  past-parent : Rises order ((node_at q, v) ∷ es) → Past es (opened g.path true (kids g ++ (leaf q ∷ []))) p
  past-parent r =
      let k = past-tail (node_at q, v) es g p r h in
      let up : path_order p q ≡ Less = ap (path_order p) (sym is) ∙ child_after p (leaf q) (node_names (leaf q) good).1 in
      record {
        path = h.path;
        kin = λ m x. ⊎_elim (λ y. k.kin m y) (λ e. subst (λ z. Below order (node_at (child p z)) es) e (subst (λ z. Below order (node_at z) es) (sym is) r.0)) (has_push m (leaf q) (kids g) x);
        own = λ f m x. absurd (true≢false f);
        late = λ f m. below_less (property_at p m) (node_at q) es (paths-less p q (Some m) None up) r.0;
      }

  past_child : Past es (opened (g.path + 1 + length (leaf q)) false []) q
  past_child = record {
    path = ap (λ z. z + 1 + length (leaf q)) h.path ∙ sym (child_length p (leaf q)) ∙ ap length (sym (stem-of p (leaf q) good) ∙ ap stem is);
    kin = λ m x. absurd (true≢false (sym x));
    own = λ f m x. absurd (true≢false (sym x));
    late = λ f m. absurd (true≢false (sym f));
  }

pub accept : {ps : List Bytes} {es : Places} → Runs ps es → (gs : List Open) (c : Counts) (o : ℕ) (block : Bytes) → Pasts es gs ps → Below order (node_at root) es → Rises order es → Shorts es → Room c es → Accepted gs c o (pieces ps block es)
unfolding pieces total
accept {ps} run_end gs c o block h t r s m = ended [] gs ps c o m.some h
accept (run_root {es} x) [] c o block h t r s m = absurd (itself (node_at root) t)
accept (run_root {es} x) (g ∷ gs) c o block h t r s m = absurd h
accept (run_property {p} {n} {v} {ps} {es} good x) [] c o block h t r s m = absurd h
accept (run_property {p} {n} {v} {ps} {es} good x) (g ∷ gs) c o block h t r s m =
    let a = and_parts (leb (length p) 255) (leb (length v) 4096) s.0 in
    let b = leb-true (length v) 4096 a.1 in
    let f : property_fits c (length n) (length v) ≡ true = let y = m.properties in let z = m.weight in grind (arith, nat_tests) in
    let w = held g gs c o (name_offset block n) n v (pieces (p ∷ ps) (with_name block n) es) (early g p n v es h.0) good (own_new g p n v es h.0) f in
    let k : Room (with_property c (length n) (length v)) es = record { some = m.some; nodes = omega (arith, m.nodes); properties = omega (arith, m.properties); weight = omega (arith, m.weight) } in
    let z = accept x (opened g.path false (g.names ++ (n ∷ [])) ∷ gs) (with_property c (length n) (length v)) (o + length (token_bytes (property n v) (name_offset block n))) (with_name block n) (past-property g p n v es h.0 r, pasts_tail (property_at p n, v) es gs ps r h.1) (below-tail (node_at root) (property_at p n, v) es t r) r.1 s.1 k in
    (z.0, w ∙ z.1)
accept (run_node {p} {q} {ps} {es} e is good x) [] c o block h t r s m = absurd h
accept (run_node {p} {q} {ps} {es} e is good x) (g ∷ gs) c o block h t r s m =
    let a = and_parts (leb (length q) 255) true s.0 in
    let b = leb-true (length q) 255 a.0 in
    let d : length q ≡ length (stem p) + 1 + length (leaf q) = ap length (sym is) ∙ child_length p (leaf q) in
    let f : node_fits c (g.path + 1 + length (leaf q)) (length (leaf q)) ≡ true = let y = m.nodes in let z = m.weight in let u = h.0.path in grind (arith, nat_tests) in
    let w = entered g gs c o (leaf q) (pieces (q ∷ p ∷ ps) block es) good (kin-new g p q [] es is good h.0) f in
    let k : Room (with_node c (length (leaf q))) es = record { some = omega arith; nodes = omega (arith, m.nodes); properties = omega (arith, m.properties); weight = omega (arith, m.weight) } in
    let z = accept x (opened (g.path + 1 + length (leaf q)) false [] ∷ opened g.path true (kids g ++ (leaf q ∷ [])) ∷ gs) (with_node c (length (leaf q))) (o + length (token_bytes (begin (leaf q)) 0)) block
    (past_child g p q [] es is good h.0, (past-parent g p q [] es is good h.0 r, pasts_tail (node_at q, []) es gs ps r h.1)) (below-tail (node_at root) (node_at q, []) es t r) r.1 s.1 k in
    (z.0, ap (told (g ∷ gs) c o) (pieces-node p q [] ps block es e) ∙ w ∙ z.1)
accept (run_leave {p} {q} {ps} {es} n x) [] c o block h t r s m = absurd h
accept (run_leave {p} {q} {ps} {es} n x) (g ∷ gs) c o block h t r s m =
    let z = accept x gs c (o + 4) block h.1 t r s m in
    (z.0, ap (told (g ∷ gs) c o) (pieces-leave p q [] ps block es n) ∙ left g gs c o (pieces ps block ((node_at q, []) ∷ es)) ∙ z.1)
