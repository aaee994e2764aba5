-- Tokens that are accepted are those of a blob. Assumes nothing.
use Rattle.std.proofs.Common.{◌≡◌, ℕ, ◌+◌, ◌<◌, ◌≤◌, true, false, List, [], ◌∷◌, ◌++◌, length, Some, None, Ok, Err, Option, Result, sym, refl, ap, ◌∙◌, subst, append_assoc, append-nil, arith}
use Rattle.std.proofs.lemmas.Bool.Decides.{nat_tests}
use Rattle.std.proofs.lemmas.Bool.{and_from, le-leb, both_ways}
use Rattle.names.specs.Names.{each, node_name, property_name}
use Rattle.names.specs.Paths.{root, stem, child}
use Rattle.tree.specs.Places.{Bytes}
use Rattle.tree.specs.Entries.{Entry}
use Rattle.blob.specs.Tokens.{Tok, begin, property, end, nop, finish}
use Rattle.blob.specs.Lexing.{Tokens, Follow}
use Rattle.blob.specs.Grammar.{IsToken}
use Rattle.blob.specs.declared.types.Layout.{Layout}
use Rattle.blob.specs.declared.types.Refusal.{Refusal}
use Rattle.tree.specs.declared.counts.Counts.{Counts}
use Rattle.tree.specs.Counting.{with_node, with_property, node_fits, property_fits, zero}
use Rattle.reader.specs.Verdict.{has, Open, opened, kids, root_only, next_at, follow, verdict}
use Rattle.reader.specs.Format.{Spelt, Fills, fill_none, fill_more, keep_on, kept, node_entry, property_entry, distinct, Properties, no_property, a_property, Node, a_node, Body, a_body, Nodes, no_node, more_nodes, Root, a_root, within}
use Rattle.reader.specs.Reading.{sound_on, sound, entries}
use Rattle.blob.proofs.Shapes.{token-ahead}
use Rattle.names.proofs.PathLaws.{child_length}
use Rattle.reader.proofs.Children.{leaf-of, stem-of}
use Rattle.reader.proofs.Distinct.{distinct_push, distinct_shift, distinct-end, kids-distinct}
use Rattle.reader.proofs.Tallied.{short, plus, plus_none, plus-property, plus-node, plus-root, Fits, fits-within}

-- the sound tokens, skipped ones too
abbrev pub raw_on : ℕ → Option Tok → Spelt → Spelt
raw_on p None ts = []
raw_on p (Some t) ts = (p, t) ∷ ts

unfoldable pub raw : Tokens → Spelt
raw [] = []
raw (x ∷ ts) = raw_on x.0 x.1 (raw ts)

pub kept-raw : (ts : Tokens) → kept (raw ts) ≡ sound ts
unfolding kept raw sound
kept-raw [] = refl
kept-raw (x ∷ ts) = on x.1 (kept-raw ts)
  where
    on : (o : Option Tok) → kept (raw ts) ≡ sound ts → kept (raw_on x.0 o (raw ts)) ≡ sound_on x.0 o (sound ts)
    on None h = refl
    on (Some t) h = ap (keep_on x.0 t) h

module _ (bs : Bytes) (l : Layout) where
  -- each token stands where the one before it ends
  abbrev pub LexedOn : ℕ → Option Tok → (ℕ → Type 0) → Type 0
  LexedOn p None k = Unit {0}
  LexedOn p (Some t) k = (n : ℕ) × IsToken bs l p t n × k n

  abbrev pub Lexed : ℕ → Tokens → Type 0
  Lexed p [] = Unit {0}
  Lexed p (x ∷ ts) = (x.0 ≡ p) × LexedOn p x.1 (λ n. Lexed n ts)

  pub lexed : (ts : Tokens) (p : ℕ) → Follow bs l p ts → Lexed p ts
  lexed [] p f = tt
  lexed ((at, None) ∷ ts) p f = (f.0, tt)
  lexed ((at, Some t) ∷ ts) p f = (f.0, (f.1.0, f.1.1, lexed ts f.1.0 f.1.2))

never : {A : Type 0} (e : Refusal) (c : Counts) → ◌≡◌ {A = Result Counts Refusal} (Err e) (Ok c) → A
never e c h = absurd (cc)

-- what is left of the body of an open node, and then K
record Rest (g : Open) (path : Bytes) (xs : Spelt) (es : List Entry) (K : Spelt → List Entry → Type 0) : Type 0 where
  ps : List Entry
  ks : List Entry
  os : List Entry
  ns : List Bytes
  ms : List Bytes
  q : ℕ
  mid : Spelt
  rest : Spelt
  first : g.children ≡ true → (mid ≡ xs) × (ps ≡ [])
  props : Properties path xs ps ns mid
  kin : Nodes path mid ks ms ((q, end) ∷ rest)
  own : g.children ≡ false → distinct (g.names ++ ns) ≡ true
  apart : distinct (kids g ++ ms) ≡ true
  is : es ≡ (ps ++ ks) ++ os
  beyond : K rest os

-- the open nodes, whose paths are given, are closed one by one, and the block ends
abbrev Closes : List Open → List Bytes → Spelt → List Entry → Type 0
Closes [] [] xs es = (q : ℕ) × (xs ≡ (q, finish) ∷ []) × (es ≡ [])
Closes [] (p ∷ ps) xs es = ⊥
Closes (g ∷ gs) [] xs es = ⊥
Closes (g ∷ gs) (p ∷ ps) xs es = Rest g p xs es (Closes gs ps)

-- the open nodes have these paths, which are short, and no name twice
abbrev Paths : List Open → List Bytes → Type 0
Paths [] [] = Unit {0}
Paths [] (p ∷ ps) = ⊥
Paths (g ∷ gs) [] = ⊥
Paths (g ∷ gs) (p ∷ ps) = (g.path ≡ length (stem p)) × (distinct g.names ≡ true) × (length p ≤ 255) × Paths gs ps

-- a child that was read, before its later siblings
adopt : (g : Open) (path name : Bytes) (p : ℕ) (xs : Spelt) (es : List Entry) (K : Spelt → List Entry → Type 0) → node_name name ≡ true → distinct g.names ≡ true
    → Rest (opened (g.path + 1 + length name) false []) (child path name) xs es (λ r os. Rest (opened g.path true (kids g ++ (name ∷ []))) path r os K)
    → Rest g path ((p, begin name) ∷ xs) (node_entry p (child path name) ∷ es) K
adopt g path name p xs es K good lone h =
    let o = h.beyond in
    let f = o.first refl in
    let own : Node path name ((p, begin name) ∷ xs) (node_entry p (child path name) ∷ (h.ps ++ h.ks)) h.rest = a_node good (a_body h.props (h.own refl) h.kin h.apart) in
    let later : Nodes path h.rest o.ks o.ms ((o.q, end) ∷ o.rest) = subst (λ z. Nodes path z o.ks o.ms ((o.q, end) ∷ o.rest)) f.0 o.kin in
    let outers : h.os ≡ o.ks ++ o.os = o.is ∙ ap (λ z. (z ++ o.ks) ++ o.os) f.1 in
    record {
      ps = [];
      ks = (node_entry p (child path name) ∷ (h.ps ++ h.ks)) ++ o.ks;
      os = o.os;
      ns = [];
      ms = name ∷ o.ms;
      q = o.q;
      mid = (p, begin name) ∷ xs;
      rest = o.rest;
      first = λ _. (refl, refl);
      props = no_property;
      kin = more_nodes own later;
      own = λ _. distinct-end g.names ∙ lone;
      apart = sym (distinct_shift (kids g) name o.ms) ∙ o.apart;
      is = ap (λ z. node_entry p (child path name) ∷ z) (h.is ∙ ap (λ z. (h.ps ++ h.ks) ++ z) outers ∙ sym (append_assoc (h.ps ++ h.ks) o.ks o.os));
      beyond = o.beyond;
    }

-- a property that was read, before what follows it
lead : (g : Open) (path name value : Bytes) (p : ℕ) (xs : Spelt) (es : List Entry) (K : Spelt → List Entry → Type 0) → property_name name ≡ true → g.children ≡ false
    → Rest (opened g.path false (g.names ++ (name ∷ []))) path xs es K → Rest g path ((p, property name value) ∷ xs) (property_entry p path name value ∷ es) K
lead g path name value p xs es K good early b =
    record {
      ps = property_entry p path name value ∷ b.ps;
      ks = b.ks;
      os = b.os;
      ns = name ∷ b.ns;
      ms = b.ms;
      q = b.q;
      mid = b.mid;
      rest = b.rest;
      first = λ t. absurd (both_ways g.children early t);
      props = a_property good b.props;
      kin = b.kin;
      own = λ _. sym (distinct_shift g.names name b.ns) ∙ b.own refl;
      apart = rw early b.apart;
      is = ap (λ z. property_entry p path name value ∷ z) b.is;
      beyond = b.beyond;
    }

-- behind the end token there is nothing
nothing : (bs : Bytes) (l : Layout) (ts : Tokens) → Lexed bs l l.end ts → (raw ts ≡ []) × (sound ts ≡ [])
unfolding raw sound
nothing bs l [] x = (refl, refl)
nothing bs l (x ∷ ts) h = on x.1 h.1
  where
    on : (o : Option Tok) → LexedOn bs l l.end o (λ n. Lexed bs l n ts) → (raw_on x.0 o (raw ts) ≡ []) × (sound_on x.0 o (sound ts) ≡ [])
    on None u = (refl, refl)
    on (Some t) u = let s = token-ahead bs l l.end t u.0 u.1 in absurd (omega arith)

-- what comes of tokens that are accepted: a body's end, the entries and their counts
record Done (bs : Bytes) (l : Layout) (gs : List Open) (ps : List Bytes) (c : Counts) (p : ℕ) (xs rs : Spelt) (r : Counts) : Type 0 where
  closes : Closes gs ps xs (entries ps xs)
  fills : Fills bs l p rs l.end
  tally : r ≡ plus c (entries ps xs)
  short : each short (entries ps xs) ≡ true
  fits : Fits r

module _ (bs : Bytes) (l : Layout) (ts : Tokens) (r : Counts)
    (ih : (gs : List Open) (ps : List Bytes) (d : Counts) (q : ℕ) → 0 < d.nodes → Fits d → Paths gs ps → Lexed bs l q ts → verdict gs d ts ≡ Ok r → Done bs l gs ps d q (sound ts) (raw ts) r)
    (p : ℕ) (c : Counts) (some : 0 < c.nodes) (fit : Fits c) where
  -- a skipped token
  skipped : (gs : List Open) (ps : List Bytes) → Paths gs ps → LexedOn bs l p (Some nop) (λ n. Lexed bs l n ts) → verdict gs c ts ≡ Ok r → Done bs l gs ps c p (sound ts) ((p, nop) ∷ raw ts) r
  skipped gs ps m x e =
      let d = ih gs ps c x.0 some fit m x.2 e in
      record { closes = d.closes; fills = fill_more x.1 d.fills; tally = d.tally; short = d.short; fits = d.fits }

  last : LexedOn bs l p (Some finish) (λ n. Lexed bs l n ts) → ◌≡◌ {A = Result Counts Refusal} (Ok c) (Ok r) → Done bs l [] [] c p ((p, finish) ∷ sound ts) ((p, finish) ∷ raw ts) r
  unfolding entries
  last x e =
      let same : c ≡ r = cc in
      let at : x.0 ≡ l.end = x.1.1 in
      let n = nothing bs l ts (subst (λ z. Lexed bs l z ts) at x.2) in
      record {
        closes = (p, ap (λ z. (p, finish) ∷ z) n.1, refl);
        fills = subst (λ z. Fills bs l p ((p, finish) ∷ z) l.end) (sym n.0) (fill_more (subst (λ z. IsToken bs l p finish z) at x.1) fill_none);
        tally = sym same ∙ sym (plus_none c);
        short = refl;
        fits = subst Fits same fit;
      }

  leave : (g : Open) (gs : List Open) (q : Bytes) (ps : List Bytes) → Paths (g ∷ gs) (q ∷ ps) → LexedOn bs l p (Some end) (λ n. Lexed bs l n ts) → verdict gs c ts ≡ Ok r
      → Done bs l (g ∷ gs) (q ∷ ps) c p ((p, end) ∷ sound ts) ((p, end) ∷ raw ts) r
  unfolding entries
  leave g gs q ps m x e =
      let d = ih gs ps c x.0 some fit m.3 x.2 e in
      record {
        closes = record {
          ps = [];
          ks = [];
          os = entries ps (sound ts);
          ns = [];
          ms = [];
          q = p;
          mid = (p, end) ∷ sound ts;
          rest = sound ts;
          first = λ _. (refl, refl);
          props = no_property;
          kin = no_node;
          own = λ _. distinct-end g.names ∙ m.1;
          apart = distinct-end (kids g) ∙ kids-distinct g m.1;
          is = refl;
          beyond = d.closes;
        };
        fills = fill_more x.1 d.fills;
        tally = d.tally;
        short = d.short;
        fits = d.fits;
      }

  enter : (g : Open) (gs : List Open) (q : Bytes) (ps : List Bytes) (name : Bytes) → Paths (g ∷ gs) (q ∷ ps) → LexedOn bs l p (Some (begin name)) (λ n. Lexed bs l n ts)
      → node_name name ≡ true → has name (kids g) ≡ false → node_fits c (g.path + 1 + length name) (length name) ≡ true
      → verdict (opened (g.path + 1 + length name) false [] ∷ opened g.path true (kids g ++ (name ∷ [])) ∷ gs) (with_node c (length name)) ts ≡ Ok r
      → Done bs l (g ∷ gs) (q ∷ ps) c p ((p, begin name) ∷ sound ts) ((p, begin name) ∷ raw ts) r
  unfolding entries distinct
  enter g gs q ps name m x good new room e =
      let lone = distinct_push (kids g) name (kids-distinct g m.1) new in
      let size : g.path + 1 + length name ≡ length (stem (child q name)) = ap (λ z. z + 1 + length name) m.0 ∙ sym (child_length q name) ∙ ap length (sym (stem-of q name good)) in
      let low : length (child q name) ≤ 255 = let z = child_length q name in let w = m.0 in grind (arith, nat_tests) in
      let f : Fits (with_node c (length name)) = record { nodes = grind (arith, nat_tests); properties = fit.properties; weight = grind (arith, nat_tests) } in
      let d = ih (opened (g.path + 1 + length name) false [] ∷ opened g.path true (kids g ++ (name ∷ [])) ∷ gs) (child q name ∷ q ∷ ps) (with_node c (length name)) x.0 (omega arith) f (size, refl, low, (m.0, lone, m.2, m.3)) x.2 e in
      record {
        closes = adopt g q name p (sound ts) (entries (child q name ∷ q ∷ ps) (sound ts)) (Closes gs ps) good m.1 d.closes;
        fills = fill_more x.1 d.fills;
        tally = d.tally ∙ sym (plus-node c p q name (entries (child q name ∷ q ∷ ps) (sound ts)) (leaf-of q name good));
        short = and_from _ _ (and_from _ _ (le-leb (length (child q name)) 255 low) refl) d.short;
        fits = d.fits;
      }

  hold : (g : Open) (gs : List Open) (q : Bytes) (ps : List Bytes) (name value : Bytes) → Paths (g ∷ gs) (q ∷ ps) → LexedOn bs l p (Some (property name value)) (λ n. Lexed bs l n ts)
      → g.children ≡ false → property_name name ≡ true → has name g.names ≡ false → property_fits c (length name) (length value) ≡ true
      → verdict (opened g.path false (g.names ++ (name ∷ [])) ∷ gs) (with_property c (length name) (length value)) ts ≡ Ok r
      → Done bs l (g ∷ gs) (q ∷ ps) c p ((p, property name value) ∷ sound ts) ((p, property name value) ∷ raw ts) r
  unfolding entries
  hold g gs q ps name value m x early good new room e =
      let lone = distinct_push g.names name m.1 new in
      let f : Fits (with_property c (length name) (length value)) = record { nodes = fit.nodes; properties = grind (arith, nat_tests); weight = grind (arith, nat_tests) } in
      let small : length value ≤ 4096 = grind (arith, nat_tests) in
      let d = ih (opened g.path false (g.names ++ (name ∷ [])) ∷ gs) (q ∷ ps) (with_property c (length name) (length value)) x.0 some f (m.0, lone, m.2, m.3) x.2 e in
      record {
        closes = lead g q name value p (sound ts) (entries (q ∷ ps) (sound ts)) (Closes gs ps) good early d.closes;
        fills = fill_more x.1 d.fills;
        tally = d.tally ∙ sym (plus-property c p q name value (entries (q ∷ ps) (sound ts)));
        short = and_from _ _ (and_from _ _ (le-leb (length q) 255 m.2) (le-leb (length value) 4096 small)) d.short;
        fits = d.fits;
      }

  step : (gs : List Open) (ps : List Bytes) (o : Option Tok) → Paths gs ps → LexedOn bs l p o (λ n. Lexed bs l n ts) → follow (next_at gs c p o) (λ hs d. verdict hs d ts) ≡ Ok r
      → Done bs l gs ps c p (sound_on p o (sound ts)) (raw_on p o (raw ts)) r
  step [] (q ∷ ps) o m x e = absurd m
  step (g ∷ gs) [] o m x e = absurd m
  step [] [] None m x e = never _ r e
  step [] [] (Some (begin name)) m x e = absurd (grind (arith, nat_tests))
  step [] [] (Some (property name value)) m x e = never _ r e
  step [] [] (Some end) m x e = never _ r e
  step [] [] (Some nop) m x e = skipped [] [] m x e
  step [] [] (Some finish) m x e = last x (grind (arith, nat_tests))
  step (g ∷ gs) (q ∷ ps) None m x e = never _ r e
  step (g ∷ gs) (q ∷ ps) (Some (begin name)) m x e =
      enter g gs q ps name m x (grind (arith, nat_tests)) (grind (arith, nat_tests)) (grind (arith, nat_tests)) (grind (arith, nat_tests))
  step (g ∷ gs) (q ∷ ps) (Some (property name value)) m x e =
      hold g gs q ps name value m x (grind (arith, nat_tests)) (grind (arith, nat_tests)) (grind (arith, nat_tests)) (grind (arith, nat_tests)) (grind (arith, nat_tests))
  step (g ∷ gs) (q ∷ ps) (Some end) m x e = leave g gs q ps m x e
  step (g ∷ gs) (q ∷ ps) (Some nop) m x e = skipped (g ∷ gs) (q ∷ ps) m x e
  step (g ∷ gs) (q ∷ ps) (Some finish) m x e = never _ r e

accepted : (bs : Bytes) (l : Layout) (ts : Tokens) (r : Counts) (gs : List Open) (ps : List Bytes) (c : Counts) (p : ℕ) → 0 < c.nodes → Fits c → Paths gs ps → Lexed bs l p ts → verdict gs c ts ≡ Ok r → Done bs l gs ps c p (sound ts) (raw ts) r
unfolding verdict sound raw
accepted bs l [] r gs ps c p some fit m x e = never _ r e
accepted bs l (x ∷ ts) r gs ps c p some fit m h e =
    subst (λ z. Done bs l gs ps c p (sound_on z x.1 (sound ts)) (raw_on z x.1 (raw ts)) r) (sym h.0)
    (step bs l ts r (accepted bs l ts r) p c some fit gs ps x.1 m h.1 (subst (λ z. follow (next_at gs c z x.1) (λ hs d. verdict hs d ts) ≡ Ok r) h.0 e))

-- the whole block: one root, within the limits
pub record Whole (bs : Bytes) (l : Layout) (p : ℕ) (xs rs : Spelt) (r : Counts) : Type 0 where
  pub tree : Root xs (entries [] xs)
  pub fills : Fills bs l p rs l.end
  pub within : within (entries [] xs) ≡ true
  pub tally : r ≡ plus zero (entries [] xs)

module _ (bs : Bytes) (l : Layout) (ts : Tokens) (r : Counts) (p : ℕ) where
  top : LexedOn bs l p (Some (begin [])) (λ n. Lexed bs l n ts) → verdict (opened 0 false [] ∷ []) root_only ts ≡ Ok r → Whole bs l p ((p, begin []) ∷ sound ts) ((p, begin []) ∷ raw ts) r
  unfolding entries stem distinct
  top x e =
      let f : Fits root_only = record { nodes = omega arith; properties = omega arith; weight = omega arith } in
      let d = accepted bs l ts r (opened 0 false [] ∷ []) (root ∷ []) root_only x.0 (omega arith) f (refl, refl, omega arith, tt) x.2 e in
      let o = d.closes in
      let b = o.beyond in
      let es : List Entry = entries (root ∷ []) (sound ts) in
      let body : Body root (sound ts) (o.ps ++ o.ks) ((o.q, end) ∷ (b.0, finish) ∷ []) =
      a_body o.props (o.own refl) (subst (λ z. Nodes root o.mid o.ks o.ms ((o.q, end) ∷ z)) b.1 o.kin) o.apart in
      let all : es ≡ o.ps ++ o.ks = o.is ∙ ap (λ z. (o.ps ++ o.ks) ++ z) b.2 ∙ append-nil (o.ps ++ o.ks) in
      let fits : Fits (plus zero (node_entry p root ∷ es)) = subst Fits (d.tally ∙ sym (plus-root p es)) d.fits in
      record {
        tree = a_root (subst (λ z. Body root (sound ts) z ((o.q, end) ∷ (b.0, finish) ∷ [])) (sym all) body);
        fills = fill_more x.1 d.fills;
        within = fits-within (node_entry p root ∷ es) fits d.short;
        tally = d.tally ∙ sym (plus-root p es);
      }

  start : (o : Option Tok) → LexedOn bs l p o (λ n. Lexed bs l n ts) → ((q : ℕ) → Lexed bs l q ts → verdict [] zero ts ≡ Ok r → Whole bs l q (sound ts) (raw ts) r) → follow (next_at [] zero p o) (λ hs d. verdict hs d ts) ≡ Ok r
      → Whole bs l p (sound_on p o (sound ts)) (raw_on p o (raw ts)) r
  start None x ih e = never _ r e
  start (Some (begin [])) x ih e = top x e
  start (Some (begin (b ∷ name))) x ih e = absurd (grind (arith, nat_tests))
  start (Some (property name value)) x ih e = never _ r e
  start (Some end) x ih e = never _ r e
  start (Some nop) x ih e = let w = ih x.0 x.2 e in record { tree = w.tree; fills = fill_more x.1 w.fills; within = w.within; tally = w.tally }
  start (Some finish) x ih e = never _ r e

pub accepted-whole : (bs : Bytes) (l : Layout) (ts : Tokens) (r : Counts) (p : ℕ) → Lexed bs l p ts → verdict [] zero ts ≡ Ok r → Whole bs l p (sound ts) (raw ts) r
unfolding verdict sound raw
accepted-whole bs l [] r p x e = never _ r e
accepted-whole bs l (x ∷ ts) r p h e =
    subst (λ z. Whole bs l p (sound_on z x.1 (sound ts)) (raw_on z x.1 (raw ts)) r) (sym h.0)
    (start bs l ts r p x.1 h.1 (accepted-whole bs l ts r) (subst (λ z. follow (next_at [] zero z x.1) (λ hs d. verdict hs d ts) ≡ Ok r) h.0 e))
