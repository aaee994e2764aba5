-- The tokens of a blob within the limits are accepted. Assumes nothing.
use Rattle.std.proofs.Common.{◌≡◌, ℕ, ◌+◌, ◌≤◌, true, false, eqb, leb, List, [], ◌∷◌, ◌++◌, length, Some, Ok, Result, sym, refl, ap, ◌∙◌, subst, append_assoc, append-nil, arith}
use Rattle.std.proofs.lemmas.Bool.Decides.{nat_tests}
use Rattle.std.proofs.lemmas.Bool.{and_parts, leb-true, ne_eqb}
use Rattle.names.specs.Names.{each, node_name, property_name}
use Rattle.names.specs.Paths.{root, stem, child}
use Rattle.tree.specs.Places.{Bytes}
use Rattle.tree.specs.Entries.{Entry}
use Rattle.blob.specs.Tokens.{Tok, begin, property, end, nop, finish}
use Rattle.blob.specs.Lexing.{Tokens}
use Rattle.blob.specs.declared.types.Refusal.{Refusal}
use Rattle.tree.specs.declared.counts.Counts.{Counts}
use Rattle.tree.specs.Counting.{with_node, with_property, node_fits, property_fits, zero}
use Rattle.reader.specs.Verdict.{has, Open, opened, kids, root_only, Next, stop, go, next, follow, verdict}
use Rattle.reader.specs.Format.{Spelt, keep_on, kept, node_entry, property_entry, distinct, Properties, no_property, a_property, Node, a_node, Body, a_body, Nodes, no_node, more_nodes, Root, a_root, within}
use Rattle.reader.specs.Reading.{sound, entries}
use Rattle.names.proofs.PathLaws.{child_length}
use Rattle.reader.proofs.Children.{leaf-of, stem-of}
use Rattle.reader.proofs.Distinct.{distinct_apart, distinct_shift}
use Rattle.reader.proofs.Tallied.{short, plus, plus_append, plus_none, plus-property, plus-node, plus-root, Fits, fits-less, within-fits, each_append}

-- tokens that are all sound
unfoldable pub somes : Spelt → Tokens
somes [] = []
somes (x ∷ ts) = (x.0, Some x.1) ∷ somes ts

follow-same : (n : Next) (k m : List Open → Counts → Result Counts Refusal) → ((gs : List Open) (c : Counts) → k gs c ≡ m gs c) → follow n k ≡ follow n m
follow-same (stop r) k m h = refl
follow-same (go gs c) k m h = h gs c

-- skipped tokens change nothing
pub verdict-kept : (ts : Spelt) (tl : Tokens) (gs : List Open) (c : Counts) → verdict gs c (somes ts ++ tl) ≡ verdict gs c (somes (kept ts) ++ tl)
unfolding verdict kept somes
verdict-kept [] tl gs c = refl
verdict-kept (x ∷ ts) tl gs c = on x.1 gs (verdict-kept ts tl)
  where
    on : (t : Tok) (hs : List Open) → ((ks : List Open) (d : Counts) → verdict ks d (somes ts ++ tl) ≡ verdict ks d (somes (kept ts) ++ tl))
        → follow (next hs c x.0 t) (λ ks d. verdict ks d (somes ts ++ tl)) ≡ verdict hs c (somes (keep_on x.0 t (kept ts)) ++ tl)
    on (begin name) hs h = follow-same (next hs c x.0 (begin name)) _ _ h
    on (property name value) hs h = follow-same (next hs c x.0 (property name value)) _ _ h
    on end hs h = follow-same (next hs c x.0 end) _ _ h
    on nop [] h = h [] c
    on nop (g ∷ hs) h = h (g ∷ hs) c
    on finish hs h = follow-same (next hs c x.0 finish) _ _ h

pub sound-somes : (ts : Spelt) (tl : Tokens) → sound tl ≡ [] → sound (somes ts ++ tl) ≡ kept ts
unfolding sound kept somes
sound-somes [] tl h = h
sound-somes (x ∷ ts) tl h = ap (keep_on x.0 x.1) (sound-somes ts tl h)

fits-parts : (c : Counts) (es fs : List Entry) → Fits (plus c (es ++ fs)) → each short (es ++ fs) ≡ true → Fits (plus c es) × Fits (plus (plus c es) fs) × (each short es ≡ true) × (each short fs ≡ true)
fits-parts c es fs f s =
    let g : Fits (plus (plus c es) fs) = subst Fits (plus_append c es fs) f in
    let p = and_parts (each short es) (each short fs) (sym (each_append short es fs) ∙ s) in
    (fits-less (plus c es) fs g, g, p.0, p.1)

module _ (tl : Tokens) where
  -- one property's token
  held : (n : ℕ) (names : List Bytes) (gs : List Open) (c : Counts) (p : ℕ) (name value : Bytes) (xs : Spelt) → property_name name ≡ true → has name names ≡ false → property_fits c (length name) (length value) ≡ true
      → verdict (opened n false names ∷ gs) c (somes ((p, property name value) ∷ xs) ++ tl) ≡ verdict (opened n false (names ++ (name ∷ [])) ∷ gs) (with_property c (length name) (length value)) (somes xs ++ tl)
  unfolding verdict somes
  held n names gs c p name value xs good new room = rw (good, new, room)

  -- properties, in a node where some have been read
  props-read : {path : Bytes} {xs : Spelt} {ps : List Entry} {ns : List Bytes} {ys : Spelt} → Properties path xs ps ns ys → (n : ℕ) (names : List Bytes) (gs : List Open) (c : Counts)
      → distinct (names ++ ns) ≡ true → Fits (plus c ps) → each short ps ≡ true
      → verdict (opened n false names ∷ gs) c (somes xs ++ tl) ≡ verdict (opened n false (names ++ ns) ∷ gs) (plus c ps) (somes ys ++ tl)
  props-read {ys} no_property n names gs c d f s = λ i. verdict (opened n false (sym (append-nil names) i) ∷ gs) (sym (plus_none c) i) (somes ys ++ tl)
  props-read {path} {ys} (a_property {p} {name} {value} {xs} {es} {ns} good rest) n names gs c d f s =
      let new = distinct_apart names name ns d in
      let sum = plus-property c p path name value es in
      let g : Fits (plus (with_property c (length name) (length value)) es) = subst Fits sum f in
      let w = fits-less (with_property c (length name) (length value)) es g in
      let q = and_parts _ (each short es) s in
      let v : length value ≤ 4096 = leb-true _ _ (and_parts (leb (length path) 255) (leb (length value) 4096) q.0).1 in
      let room : property_fits c (length name) (length value) ≡ true = let a = w.properties in let b = w.weight in grind (arith, nat_tests) in
      let ih = props-read rest n (names ++ (name ∷ [])) gs (with_property c (length name) (length value)) (distinct_shift names name ns ∙ d) g q.1 in
      held n names gs c p name value xs good new room ∙ ih ∙ (λ i. verdict (opened n false (append_assoc names (name ∷ []) ns i) ∷ gs) (sym sum i) (somes ys ++ tl))

  -- one node's begin token
  entered : (g : Open) (gs : List Open) (c : Counts) (p : ℕ) (name : Bytes) (xs : Spelt) → node_name name ≡ true → has name (kids g) ≡ false → node_fits c (g.path + 1 + length name) (length name) ≡ true
      → verdict (g ∷ gs) c (somes ((p, begin name) ∷ xs) ++ tl) ≡ verdict (opened (g.path + 1 + length name) false [] ∷ opened g.path true (kids g ++ (name ∷ [])) ∷ gs) (with_node c (length name)) (somes xs ++ tl)
  unfolding verdict somes
  entered g gs c p name xs good new room = rw (good, new, room)

  left : (g : Open) (gs : List Open) (c : Counts) (q : ℕ) (ys : Spelt) → verdict (g ∷ gs) c (somes ((q, end) ∷ ys) ++ tl) ≡ verdict gs c (somes ys ++ tl)
  unfolding verdict somes
  left g gs c q ys = refl

  mutual
    node-read : {path name : Bytes} {xs : Spelt} {es : List Entry} {ys : Spelt} → Node path name xs es ys → (g : Open) (gs : List Open) (c : Counts)
        → g.path ≡ length (stem path) → has name (kids g) ≡ false → Fits (plus c es) → each short es ≡ true
        → verdict (g ∷ gs) c (somes xs ++ tl) ≡ verdict (opened g.path true (kids g ++ (name ∷ [])) ∷ gs) (plus c es) (somes ys ++ tl)
    node-read (a_node {path} {name} {p} {q} {xs} {ys} {es} good body) g gs c at new f s =
        let sum = plus-node c p path name es (leaf-of path name good) in
        let h : Fits (plus (with_node c (length name)) es) = subst Fits sum f in
        let w = fits-less (with_node c (length name)) es h in
        let parts = and_parts _ (each short es) s in
        let low : length (child path name) ≤ 255 = leb-true _ _ (and_parts (leb (length (child path name)) 255) true parts.0).0 in
        let z = child_length path name in
        let room : node_fits c (g.path + 1 + length name) (length name) ≡ true = let a = w.nodes in let b = w.weight in grind (arith, nat_tests) in
        let size : g.path + 1 + length name ≡ length (stem (child path name)) = ap (λ m. m + 1 + length name) at ∙ sym z ∙ ap length (sym (stem-of path name good)) in
        entered g gs c p name xs good new room
        ∙ body-read body q ys refl (g.path + 1 + length name) (opened g.path true (kids g ++ (name ∷ [])) ∷ gs) (with_node c (length name)) size h parts.1
        ∙ ap (λ d. verdict (opened g.path true (kids g ++ (name ∷ [])) ∷ gs) d (somes ys ++ tl)) (sym sum)

    body-read : {path : Bytes} {xs : Spelt} {es : List Entry} {zs : Spelt} → Body path xs es zs → (q : ℕ) (ys : Spelt) → zs ≡ (q, end) ∷ ys → (n : ℕ) (gs : List Open) (c : Counts)
        → n ≡ length (stem path) → Fits (plus c es) → each short es ≡ true → verdict (opened n false [] ∷ gs) c (somes xs ++ tl) ≡ verdict gs (plus c es) (somes ys ++ tl)
    body-read (a_body {path} {xs} {zs} {ps} {ks} {ns} {ms} props d nodes e) q ys z n gs c at f s =
        let t = fits-parts c ps ks f s in
        props-read props n [] gs c d t.0 t.2
        ∙ nodes-read nodes q ys z (opened n false ns) gs (plus c ps) at e t.1 t.3
        ∙ ap (λ x. verdict gs x (somes ys ++ tl)) (sym (plus_append c ps ks))

    nodes-read : {path : Bytes} {xs : Spelt} {es : List Entry} {ns : List Bytes} {zs : Spelt} → Nodes path xs es ns zs → (q : ℕ) (ys : Spelt) → zs ≡ (q, end) ∷ ys → (g : Open) (gs : List Open) (c : Counts)
        → g.path ≡ length (stem path) → distinct (kids g ++ ns) ≡ true → Fits (plus c es) → each short es ≡ true → verdict (g ∷ gs) c (somes xs ++ tl) ≡ verdict gs (plus c es) (somes ys ++ tl)
    nodes-read no_node q ys z g gs c at d f s = ap (λ x. verdict (g ∷ gs) c (somes x ++ tl)) z ∙ left g gs c q ys ∙ ap (λ x. verdict gs x (somes ys ++ tl)) (sym (plus_none c))
    nodes-read (more_nodes {path} {name} {xs} {zs} {es} {fs} {ns} node rest) q ys z g gs c at d f s =
        let t = fits-parts c es fs f s in
        node-read node g gs c at (distinct_apart (kids g) name ns d) t.0 t.2
        ∙ nodes-read rest q ys z (opened g.path true (kids g ++ (name ∷ []))) gs (plus c es) at (distinct_shift (kids g) name ns ∙ d) t.1 t.3
        ∙ ap (λ x. verdict gs x (somes ys ++ tl)) (sym (plus_append c es fs))

  ended : (r : ℕ) (es : List Entry) → verdict [] (plus root_only es) (somes ((r, finish) ∷ []) ++ tl) ≡ Ok (plus root_only es)
  unfolding verdict somes plus
  ended r es = let z : eqb (plus root_only es).nodes 0 ≡ false = ne_eqb _ 0 (λ e. omega arith) in rw z

  pub root-read : {xs : Spelt} {es : List Entry} → Root xs es → within es ≡ true → verdict [] zero (somes xs ++ tl) ≡ Ok (plus zero es)
  unfolding verdict somes stem
  root-read (a_root {p} {q} {r} {xs} {es} body) w =
      let t = within-fits (node_entry p root ∷ es) w in
      let sum = plus-root p es in
      let f : Fits (plus root_only es) = subst Fits sum t.0 in
      body-read body q ((r, finish) ∷ []) refl 0 [] root_only refl f t.1 ∙ ended r es ∙ ap Ok (sym sum)

-- ---- the tokens tell the entries

props-entries : {path : Bytes} {xs : Spelt} {es : List Entry} {ns : List Bytes} {ys : Spelt} → Properties path xs es ns ys → (ps : List Bytes) → entries (path ∷ ps) xs ≡ es ++ entries (path ∷ ps) ys
unfolding entries
props-entries no_property ps = refl
props-entries {path} (a_property {p} {name} {value} good rest) ps = ap (λ z. property_entry p path name value ∷ z) (props-entries rest ps)

mutual
  unfolding entries

  node-entries : {path name : Bytes} {xs : Spelt} {es : List Entry} {ys : Spelt} → Node path name xs es ys → (ps : List Bytes) → entries (path ∷ ps) xs ≡ es ++ entries (path ∷ ps) ys
  node-entries (a_node {path} {name} {p} {q} {xs} {ys} {es} good body) ps = ap (λ z. node_entry p (child path name) ∷ z) (body-entries body (path ∷ ps))

  body-entries : {path : Bytes} {xs : Spelt} {es : List Entry} {zs : Spelt} → Body path xs es zs → (ps : List Bytes) → entries (path ∷ ps) xs ≡ es ++ entries (path ∷ ps) zs
  body-entries (a_body {path} {xs} {ys} {zs} {ps} {ks} props d nodes e) qs =
      props-entries props qs ∙ ap (λ z. ps ++ z) (nodes-entries nodes qs) ∙ sym (append_assoc ps ks (entries (path ∷ qs) zs))

  nodes-entries : {path : Bytes} {xs : Spelt} {es : List Entry} {ns : List Bytes} {zs : Spelt} → Nodes path xs es ns zs → (ps : List Bytes) → entries (path ∷ ps) xs ≡ es ++ entries (path ∷ ps) zs
  nodes-entries no_node ps = refl
  nodes-entries (more_nodes {path} {name} {xs} {ys} {zs} {es} {fs} node rest) ps =
      node-entries node ps ∙ ap (λ z. es ++ z) (nodes-entries rest ps) ∙ sym (append_assoc es fs (entries (path ∷ ps) zs))

pub root-entries : {xs : Spelt} {es : List Entry} → Root xs es → entries [] xs ≡ es
unfolding entries
root-entries (a_root {p} {q} {r} {xs} {es} body) = ap (λ z. node_entry p root ∷ z) (body-entries body [] ∙ append-nil es)
