-- The tokens and the nodes of a blob in the memory are those that it was made of. Assumes nothing.
use Rattle.std.proofs.Common.{◌≡◌, ℕ, zero, suc, ◌+◌, ◌-◌, ◌<◌, ◌≤◌, true, false, eqb, leb, List, [], ◌∷◌, ◌++◌, length, take, drop, sym, refl, ap, ◌∙◌, subst, arith}
use Rattle.std.proofs.lemmas.Slice.Eq.{bytes_eq-Decides}
use Rattle.std.proofs.lemmas.List.{take_at}
use Rattle.std.proofs.lemmas.Bool.{and_parts, and_from, cond-true, cond-false, eqb-true, eq-eqb, ne_eqb, leb-true, le-leb, lt-leb}
use Rattle.std.specs.List.{AllByRecursion}
use Rattle.std.specs.Str.{bytes_eq}
use Rattle.tree.specs.Numbers.{be32, pad4}
use Rattle.tree.specs.Places.{Bytes}
use Rattle.blob.specs.Grammar.{Text, IsToken}
use Rattle.blob.specs.Lexing.{tokens_from}
use Rattle.blob.specs.Tokens.{Tok, begin, property, end, nop, finish, token_at}
use Rattle.blob.proofs.Lexed.{tokens_none, tokens-some}
use Rattle.blob.proofs.Shapes.{token-complete}
use Rattle.tape.specs.Nodes.{Node, valid}
use Rattle.tape.specs.Tapes.{properties_of}
use Rattle.tape.proofs.Sounds.{parts}
use Rattle.tape.proofs.Sums.{within_limits}
use Rattle.packed.specs.Packing.{token_size, strings, size_of, names_of, packed, ends, property_tokens, tokens_of, gathered}
use Rattle.packed.specs.Regions.{memory, layout, size, bare, read, nodes_of, holds, intact, Holding, Open, IsFull}
use Rattle.packed.specs.declared.region.Region.{Region}
use Rattle.packed.proofs.Cursors.{Cursor, at-start, size-at, offset_at, value-at, name-at, take-over}
use Rattle.packed.proofs.Named.{full-valid}
use Rattle.packed.proofs.Nodes.{gathered-back, sizes}
use Rattle.packed.proofs.Spots.{pass-one, kind-is, room-one}
use Rattle.packed.proofs.Tokens.{size-one, names-one}

-- nothing stands behind a finish token
abbrev pub Ended : List Tok → Type 0
Ended [] = Unit {0}
Ended (begin name ∷ ts) = Ended ts
Ended (property name value ∷ ts) = Ended ts
Ended (end ∷ ts) = Ended ts
Ended (nop ∷ ts) = Ended ts
Ended (finish ∷ ts) = ts ≡ []

ended-ends : (n : ℕ) (ts : List Tok) → Ended ts → Ended (ends n ++ ts)
ended-ends zero ts h = h
ended-ends (suc n) ts h = ended-ends n ts h

ended-properties : (xs : List (Bytes × Bytes)) (ts : List Tok) → Ended ts → Ended (property_tokens xs ++ ts)
ended-properties [] ts h = h
ended-properties (x ∷ xs) ts h = ended-properties xs ts h

pub ended-tokens : (o : ℕ) (ns : List Node) → Ended (tokens_of o ns)
unfolding tokens_of
ended-tokens o [] = ended-ends o (finish ∷ []) refl
ended-tokens o (n ∷ ns) = ended-ends (o - n.depth) _ (ended-properties n.properties _ (ended-tokens (n.depth + 1) ns))

-- a text that ends before `to`
pub text_in : (bs name tail : Bytes) (from to : ℕ) → drop from bs ≡ name ++ (0 ∷ tail) → from + length name < to → AllByRecursion (λ b. b ≡ 0 → ⊥) name → Text bs from to name
text_in bs name tail from to h l f =
    let r = take-over (to - from) name tail (omega arith) in
    record { rest = r.0; split = ap (take (to - from)) h ∙ r.1; full = f }

-- the name of a property that comes next
pub string_at : (x : Region) (p : ℕ) (name value : Bytes) (ts : List Tok) (c : Cursor x p (property name value ∷ ts)) → drop (56 + x.structure + c.k) (memory x) ≡ name ++ (0 ∷ (strings ts ++ c.tail))
unfolding strings
string_at x p name value ts c = c.strung ∙ mathlib.Core.List.append_assoc (name ++ (0 ∷ [])) (strings ts) c.tail ∙ mathlib.Core.List.append_assoc name (0 ∷ []) (strings ts ++ c.tail)

none_left : size_of [] ≡ 0
unfolding size_of
none_left = refl

module _ (x : Region) where
  pub is-token : (p : ℕ) (t : Tok) (ts : List Tok) → Cursor x p (t ∷ ts) → Ended (t ∷ ts) → IsToken (memory x) (layout x) p t (p + token_size t)
  is-token p (begin name) ts c e =
      let n = name-at (memory x) p c.k c.rest name ts c.tokens in
      let s = c.stop in
      let a = size-one (begin name) ts in
      record {
        kind = kind-is x p (begin name) ts c;
        text = text_in (memory x) name n.0 (p + 4) (56 + x.structure) n.1 (omega arith) c.full.0;
        next = omega arith;
        held = omega arith;
      }
  is-token p (property name value) ts c e =
      let r = room-one x p (property name value) ts c in
      let b = r.1 in
      let s = c.stop in
      let a = size-one (property name value) ts in
      let d = names-one (property name value) ts in
      let m = c.named in
      let q = c.small in
      let z = size-at (memory x) p c.k c.rest name value ts c.tokens (omega arith) in
      let o = offset_at (memory x) p c.k c.rest name value ts c.tokens (omega arith) in
      let v = value-at (memory x) p c.k c.rest name value ts c.tokens in
      let w : p + 12 + be32 (memory x) (p + 4) - (p + 12) ≡ length value = omega arith in
      let pd = ap pad4 z in
      record {
        kind = kind-is x p (property name value) ts c;
        text = subst (λ k. Text (memory x) (56 + x.structure + k) (56 + x.structure + x.strings) name) (sym o) (text_in (memory x) name (strings ts ++ c.tail) (56 + x.structure + c.k) (56 + x.structure + x.strings) (string_at x p name value ts c) (omega arith) c.full.0);
        bytes = sym (ap (λ k. take k (drop (p + 12) (memory x))) w ∙ ap (take (length value)) v ∙ take_at value _ (length value) refl);
        next = omega arith;
        held = omega arith;
      }
  is-token p end ts c e = let s = c.stop in let a = size-one end ts in record { kind = kind-is x p end ts c; next = refl; held = omega arith }
  is-token p nop ts c e = let s = c.stop in let a = size-one nop ts in record { kind = kind-is x p nop ts c; next = refl; held = omega arith }
  is-token p finish ts c e =
      let s = c.stop in
      let a = size-one finish ts in
      let z : size_of ts ≡ size_of [] = ap size_of e in
      let y = none_left in
      (record { kind = kind-is x p finish ts c; next = refl; held = omega arith }, omega arith)

  ended_rest : (t : Tok) (ts : List Tok) → Ended (t ∷ ts) → Ended ts
  ended_rest (begin name) ts e = e
  ended_rest (property name value) ts e = e
  ended_rest end ts e = e
  ended_rest nop ts e = e
  ended_rest finish ts e = subst Ended (sym e) tt

  pub read_tokens : (p : ℕ) (ts : List Tok) → Cursor x p ts → Ended ts → bare (tokens_from (memory x) (layout x) p) ≡ ts
  unfolding bare size_of token_at
  read_tokens p [] c e =
      let s = c.stop in
      ap bare (tokens_none (memory x) (layout x) p (cond-false (leb (p + 4) (56 + x.structure)) _ _ (lt-leb (p + 4) (56 + x.structure) (omega arith))))
  read_tokens p (t ∷ ts) c e =
      ap bare (tokens-some (memory x) (layout x) p t (p + token_size t) (token-complete (memory x) (layout x) p t (p + token_size t) (is-token p t ts c e)))
      ∙ ap (λ us. t ∷ us) (read_tokens (p + token_size t) ts (pass-one x p t ts c) (ended_rest t ts e))

  -- the nodes that are read are those that the blob was made of
  pub read_nodes : (ns : List Node) → Holding x (tokens_of 0 ns) → valid x.boot ns ≡ true → read x ≡ ns
  unfolding read
  read_nodes ns h v =
      ap (gathered 0) (read_tokens 56 (tokens_of 0 ns) (at-start x (tokens_of 0 ns) h (full-valid x.boot ns v)) (ended-tokens 0 ns))
      ∙ gathered-back ns (parts x.boot ns v).shape

-- a blob of a valid list is small
pub small-valid : (boot : ℕ) (ns : List Node) → valid boot ns ≡ true → 56 + size_of (tokens_of 0 ns) + names_of (tokens_of 0 ns) ≤ 38972
small-valid boot ns v =
    let w = within_limits boot ns v in
    let a = w.0 in
    let b = w.1 in
    let c = w.2 in
    let s = sizes ns (parts boot ns v).shape in
    omega arith

-- ---- the invariant

pub opened_some : (x : Region) → intact x ≡ true → (x.nodes ≡ 0 → ⊥) → Open x
unfolding intact nodes_of
opened_some x i some =
    let e : eqb x.nodes 0 ≡ false = ne_eqb x.nodes 0 some in
    let same : nodes_of x ≡ read x = cond-false (eqb x.nodes 0) [] (read x) e in
    let ns : List Node = read x in
    let ts : List Tok = tokens_of 0 ns in
    let all : holds x ns ≡ true = sym (cond-false (eqb x.nodes 0) true (holds x ns) e) ∙ i in
    let a = and_parts (leb 40960 (length (memory x))) _ all in
    let b = and_parts (bytes_eq (take (size x) (memory x)) (packed x.boot ts)) _ a.1 in
    let c = and_parts (eqb x.structure (size_of ts)) _ b.1 in
    let d = and_parts (eqb x.strings (names_of ts)) _ c.1 in
    let f = and_parts (eqb x.nodes (length ns)) _ d.1 in
    let g = and_parts (eqb x.properties (properties_of ns)) (valid x.boot ns) f.1 in
    let st = eqb-true x.structure (size_of ts) c.0 in
    let sr = eqb-true x.strings (names_of ts) d.0 in
    let sm = small-valid x.boot ns g.1 in
    let n : size x ≡ 56 + size_of ts + names_of ts = omega arith in
    let h : Holding x ts = record {
      room = leb-true 40960 (length (memory x)) a.0;
      structure = st;
      strings = sr;
      small = omega arith;
      front = ap (λ k. take k (memory x)) (sym n) ∙ (bytes_eq-Decides (take (size x) (memory x)) (packed x.boot ts)).0 b.0;
    } in
    record {
      holding = subst (λ ms. Holding x (tokens_of 0 ms)) (sym same) h;
      named = subst (λ ms. AllByRecursion IsFull (tokens_of 0 ms)) (sym same) (full-valid x.boot ns g.1);
      nodes = eqb-true x.nodes (length ns) f.0 ∙ ap length (sym same);
      properties = eqb-true x.properties (properties_of ns) g.0 ∙ ap properties_of (sym same);
      valid = subst (λ ms. valid x.boot ms ≡ true) (sym same) g.1;
    }

pub closed_none : (x : Region) → x.nodes ≡ 0 → nodes_of x ≡ []
unfolding nodes_of
closed_none x e = cond-true (eqb x.nodes 0) [] (read x) (eq-eqb x.nodes 0 e)

pub opened : (x : Region) → intact x ≡ true → 0 < length (nodes_of x) → Open x
opened x i l = opened_some x i (λ e. let n : length (nodes_of x) ≡ 0 = ap length (closed_none x e) in omega arith)

-- what a write leaves
pub record Left (x : Region) (ns : List Node) : Type 0 where
  pub nodes : nodes_of x ≡ ns
  pub intact : intact x ≡ true

pub left : (x : Region) (ns : List Node) → Holding x (tokens_of 0 ns) → x.nodes ≡ length ns → x.properties ≡ properties_of ns → valid x.boot ns ≡ true → Left x ns
unfolding intact nodes_of
left x [] h n p v = let e = eq-eqb x.nodes 0 n in record { nodes = cond-true (eqb x.nodes 0) [] (read x) e; intact = cond-true (eqb x.nodes 0) true (holds x (read x)) e }
left x (m ∷ ms) h n p v =
    let ns : List Node = m ∷ ms in
    let ts : List Tok = tokens_of 0 ns in
    let e : eqb x.nodes 0 ≡ false = ne_eqb x.nodes 0 (λ z. omega arith) in
    let same : read x ≡ ns = read_nodes x ns h v in
    let st = h.structure in
    let sr = h.strings in
    let k : size x ≡ 56 + size_of ts + names_of ts = omega arith in
    let all : holds x ns ≡ true = and_from _ _ (le-leb 40960 (length (memory x)) h.room) (and_from _ _ ((bytes_eq-Decides (take (size x) (memory x)) (packed x.boot ts)).1 (ap (λ j. take j (memory x)) k ∙ h.front)) (and_from _ _ (eq-eqb x.structure (size_of ts) st) (and_from _ _ (eq-eqb x.strings (names_of ts) sr) (and_from _ _ (eq-eqb x.nodes (length ns) n) (and_from _ _ (eq-eqb x.properties (properties_of ns) p) v))))) in
    record {
      nodes = cond-false (eqb x.nodes 0) [] (read x) e ∙ same;
      intact = cond-false (eqb x.nodes 0) true (holds x (read x)) e ∙ ap (holds x) same ∙ all;
    }

-- an open region is intact
pub open-intact : (x : Region) → Open x → intact x ≡ true
open-intact x o = (left x (nodes_of x) o.holding o.nodes o.properties o.valid).intact
