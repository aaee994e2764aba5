-- What is still to be handed out, one token on. Assumes nothing.
use Rattle.std.proofs.Common.{◌≡◌, ℕ, true, ◌⊎◌, List, [], ◌∷◌, Some, None, Option, sym, refl, ap, ◌∙◌, ⊎_elim, arith}
use Rattle.tree.specs.Places.{Bytes}
use Rattle.blob.specs.Lexing.{tokens_from}
use Rattle.blob.specs.Tokens.{Tok, begin, property, end, nop, finish, tok_of, token_at}
use Rattle.blob.specs.declared.types.Layout.{Layout}
use Rattle.blob.specs.declared.types.Token.{Token}
use Rattle.blob.specs.declared.types.Token.TheVariants.{Nop, Finish}
use Rattle.blob.proofs.Lexed.{tokens_none, tokens-some}
use Rattle.blob.proofs.Shapes.{token-sound}
use Rattle.blob.proofs.Steps.{token-next}
use Rattle.std.proofs.lemmas.Bool.{and_parts, and_from}
use Rattle.names.specs.Names.{each, node_name}
use Rattle.tree.specs.Entries.{Entry}
use Rattle.reader.specs.Format.{Spelt, node_entry, property_entry, Properties, no_property, a_property, Node, a_node, Body, a_body, Nodes, no_node, more_nodes, Root, a_root}
use Rattle.reader.specs.Handing.{until, until_on, ahead, Starts, named_item, named_tokens}
use Rattle.reader.specs.Reading.{sound, path_in, innermost, outer, entry_on, entries}

abbrev pub hand_on : ℕ → Tok → Spelt → Spelt
hand_on p (begin name) ts = (p, begin name) ∷ ts
hand_on p (property name value) ts = (p, property name value) ∷ ts
hand_on p end ts = (p, end) ∷ ts
hand_on p nop ts = ts
hand_on p finish ts = []

module _ (bs : Bytes) (l : Layout) (p : ℕ) where
  pub ahead_none : token_at bs l p ≡ None → ahead bs l p ≡ []
  unfolding until sound
  ahead_none e = rw (tokens_none bs l p e)

  pub ahead-some : (t : Tok) (n : ℕ) → token_at bs l p ≡ Some (t, n) → ahead bs l p ≡ hand_on p t (ahead bs l n)
  unfolding until sound
  ahead-some (begin name) n e = rw (tokens-some bs l p (begin name) n e)
  ahead-some (property name value) n e = rw (tokens-some bs l p (property name value) n e)
  ahead-some end n e = rw (tokens-some bs l p end n e)
  ahead-some nop n e = rw (tokens-some bs l p nop n e)
  ahead-some finish n e = rw (tokens-some bs l p finish n e)

module _ (bs : Bytes) (l : Layout) (p n : ℕ) where
  -- nothing is found behind the end token
  ahead-last : token_at bs l p ≡ Some (finish, n) → ahead bs l n ≡ []
  ahead-last e = ahead_none bs l n (gone (token_at bs l n) refl)
    where
      gone : (o : Option (Tok × ℕ)) → token_at bs l n ≡ o → token_at bs l n ≡ None
      gone None f = f
      gone (Some s) f = let last = (token-sound bs l p finish n e).1 in let a = token-next bs l n s.0 s.1 f in absurd (omega arith)

  pub ahead-skipped : (t : Token) → (t ≡ Nop) ⊎ (t ≡ Finish) → token_at bs l p ≡ Some (tok_of t, n) → ahead bs l p ≡ ahead bs l n
  ahead-skipped t k e =
      ⊎_elim (λ i. ahead-some bs l p (tok_of t) n e ∙ ap (λ u. hand_on p (tok_of u) (ahead bs l n)) i)
      (λ i. let f = e ∙ ap (λ u. Some (tok_of u, n)) i in ahead-some bs l p finish n f ∙ sym (ahead-last f)) k

-- the entries of what is handed out are those of all tokens
pub entries-until : (ts : Spelt) (ps : List Bytes) → entries ps (until ts) ≡ entries ps ts
unfolding until entries
entries-until [] ps = refl
entries-until (x ∷ ts) ps = on x.1 (entries-until ts)
  where
    on : (t : Tok) → ((qs : List Bytes) → entries qs (until ts) ≡ entries qs ts) → entries ps (until_on x.0 t (until ts)) ≡ entry_on ps x.0 t (λ qs. entries qs ts)
    on (begin name) h = ap (λ z. node_entry x.0 (path_in ps name) ∷ z) (h (path_in ps name ∷ ps))
    on (property name value) h = ap (λ z. property_entry x.0 (innermost ps) name value ∷ z) (h ps)
    on end h = h (outer ps)
    on nop h = h ps
    on finish h = refl

pub starts : (bs : Bytes) (l : Layout) → Starts bs l (ahead bs l l.start)
starts bs l = record { tokens = refl; entries = entries-until (sound (tokens_from bs l l.start)) [] }

-- ---- names of what is handed out

props-named : {path : Bytes} {xs : Spelt} {es : List Entry} {ns : List Bytes} {ys : Spelt} → Properties path xs es ns ys → each named_item ys ≡ true → each named_item xs ≡ true
props-named no_property h = h
props-named (a_property good rest) h = props-named rest h

mutual
  node-named : {path name : Bytes} {xs : Spelt} {es : List Entry} {ys : Spelt} → Node path name xs es ys → each named_item ys ≡ true → each named_item xs ≡ true
  node-named (a_node {path} {name} {p} {q} {xs} {ys} {es} good body) h = and_from (node_name name) (each named_item xs) good (body-named body h)

  body-named : {path : Bytes} {xs : Spelt} {es : List Entry} {zs : Spelt} → Body path xs es zs → each named_item zs ≡ true → each named_item xs ≡ true
  body-named (a_body props d nodes e) h = props-named props (nodes-named nodes h)

  nodes-named : {path : Bytes} {xs : Spelt} {es : List Entry} {ns : List Bytes} {zs : Spelt} → Nodes path xs es ns zs → each named_item zs ≡ true → each named_item xs ≡ true
  nodes-named no_node h = h
  nodes-named (more_nodes node rest) h = node-named node (nodes-named rest h)

each-until : (ts : Spelt) → each named_item ts ≡ true → each named_item (until ts) ≡ true
unfolding until
each-until [] h = refl
each-until (x ∷ ts) h = on x.1 (and_parts (named_item (x.0, x.1)) (each named_item ts) h).0 (each-until ts (and_parts (named_item (x.0, x.1)) (each named_item ts) h).1)
  where
    on : (t : Tok) → named_item (x.0, t) ≡ true → each named_item (until ts) ≡ true → each named_item (until_on x.0 t (until ts)) ≡ true
    on (begin name) a b = and_from (node_name name) (each named_item (until ts)) a b
    on (property name value) a b = b
    on end a b = b
    on nop a b = b
    on finish a b = refl

pub root-named : {xs : Spelt} {es : List Entry} → Root xs es → named_tokens (until xs) ≡ true
unfolding until
root-named (a_root {p} {q} {r} {xs} {es} body) = each-until xs (body-named body refl)
