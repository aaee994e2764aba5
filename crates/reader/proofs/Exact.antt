-- A blob is accepted exactly where it is one within the limits, and with its entries. Assumes nothing.
use Rattle.std.proofs.Common.{◌≡◌, ℕ, ◌^◌, ◌<◌, true, List, [], ◌∷◌, ◌++◌, Some, None, Ok, Err, Option, Result, sym, refl, ap, ◌∙◌, subst, arith}
use Rattle.tree.specs.Places.{Bytes}
use Rattle.tree.specs.Entries.{Entry, listed, tree_of, well_listed}
use Rattle.tree.specs.Trees.{roomy, Sound}
use Rattle.tree.proofs.Listed.{listed-sound}
use Rattle.std.proofs.lemmas.Bool.{and_parts}
use Rattle.reader.specs.Handing.{named_tokens, until}
use Rattle.reader.proofs.Handing.{root-named}
use Rattle.reader.proofs.Listed.{root-listed}
use Rattle.blob.specs.Header.{header}
use Rattle.blob.specs.Lexing.{tokens_from}
use Rattle.blob.specs.Tokens.{Tok, token_at}
use Rattle.blob.specs.declared.types.Layout.{Layout}
use Rattle.blob.specs.declared.types.Refusal.{Refusal}
use Rattle.blob.proofs.Heads.{header-sound, header-complete}
use Rattle.blob.proofs.Lexed.{tokens_none, tokens-some, tokens-follow}
use Rattle.blob.proofs.Shapes.{token-sound, token-complete, token-ahead}
use Rattle.tree.specs.declared.counts.Counts.{Counts}
use Rattle.tree.specs.Counting.{zero}
use Rattle.reader.specs.Verdict.{verdict}
use Rattle.reader.specs.Format.{Spelt, Fills, fill_none, fill_more, kept, Root, Blob, within}
use Rattle.reader.specs.Reading.{sound, entries, tokens_of, entries_of, given, structure, reading, Tally, Exact}
use Rattle.reader.proofs.Accepted.{raw, kept-raw, lexed, Whole, accepted-whole}
use Rattle.reader.proofs.Complete.{somes, verdict-kept, sound-somes, root-read, root-entries}
use Rattle.reader.proofs.Tallied.{plus}

module _ (bs : Bytes) (l : Layout) where
  -- the tokens that fill the block are those that are found
  found : {p : ℕ} {ts : Spelt} {q : ℕ} → Fills bs l p ts q → tokens_from bs l p ≡ somes ts ++ tokens_from bs l q
  unfolding somes
  found fill_none = refl
  found (fill_more {p} {q} {r} {t} {ts} i rest) = tokens-some bs l p t q (token-complete bs l p t q i) ∙ ap (λ z. (p, Some t) ∷ z) (found rest)

  -- nothing is found behind the block
  past : sound (tokens_from bs l l.end) ≡ []
  unfolding sound
  past = ap sound (tokens_none bs l l.end (gone (token_at bs l l.end) refl))
    where
      gone : (o : Option (Tok × ℕ)) → token_at bs l l.end ≡ o → token_at bs l l.end ≡ None
      gone None e = e
      gone (Some s) e = let a = token-ahead bs l l.end s.0 s.1 (token-sound bs l l.end s.0 s.1 e) in absurd (omega arith)

  module _ (ts : Spelt) (es : List Entry) (fills : Fills bs l l.start ts l.end) (tree : Root (kept ts) es) where
    lists : entries_of bs l ≡ es
    lists = ap (λ z. entries [] (sound z)) (found fills) ∙ ap (entries []) (sound-somes ts (tokens_from bs l l.end) past) ∙ root-entries tree

    taken : within es ≡ true → verdict [] zero (tokens_from bs l l.start) ≡ Ok (plus zero es)
    taken w = ap (verdict [] zero) (found fills) ∙ verdict-kept ts (tokens_from bs l l.end) [] zero ∙ root-read (tokens_from bs l l.end) tree w

module _ (bs : Bytes) (boot : ℕ) (es : List Entry) where
  complete : Blob bs boot es → within es ≡ true → reading bs ≡ Ok (boot, es)
  complete b w =
      let l = b.layout in
      let h : header bs ≡ Ok l = header-complete bs l b.header in
      ap (structure bs) h ∙ ap (given {A = ℕ × List Entry} (l.boot, entries_of bs l)) (taken bs l b.tokens es b.fills b.tree w)
      ∙ (λ i. Ok (sym b.cpu i, lists bs l b.tokens es b.fills b.tree i))

  -- what is accepted, by the header and by the verdict
  by-verdict : (l : Layout) → header bs ≡ Ok l → (r : Result Counts Refusal) → verdict [] zero (tokens_from bs l l.start) ≡ r → given {A = ℕ × List Entry} (l.boot, entries_of bs l) r ≡ Ok (boot, es) → Blob bs boot es × (within es ≡ true)
  by-verdict l h (Err e) v g = absurd (cc)
  by-verdict l h (Ok c) v g =
      let w = accepted-whole bs l (tokens_from bs l l.start) c l.start (lexed bs l (tokens_from bs l l.start) l.start (tokens-follow bs l l.start)) v in
      let both : ◌≡◌ {A = ℕ × List Entry} (l.boot, entries_of bs l) (boot, es) = cc in
      let cpu : l.boot ≡ boot = ap (λ z. z.0) both in
      let same : entries_of bs l ≡ es = ap (λ z. z.1) both in (
        record {
          layout = l;
          header = header-sound bs l h;
          cpu = sym cpu;
          tokens = raw (tokens_from bs l l.start);
          fills = w.fills;
          tree = subst (λ z. Root z es) (sym (kept-raw (tokens_from bs l l.start))) (subst (Root (sound (tokens_from bs l l.start))) same w.tree);
        },
        ap within (sym same) ∙ w.within,
      )

  by_header : (r : Result Layout Refusal) → header bs ≡ r → structure bs r ≡ Ok (boot, es) → Blob bs boot es × (within es ≡ true)
  by_header (Err e) h g = absurd (cc)
  by_header (Ok l) h g = by-verdict l h (verdict [] zero (tokens_from bs l l.start)) refl g

unique : (bs : Bytes) (b d : ℕ) (es fs : List Entry) → Blob bs b es → Blob bs d fs → (b ≡ d) × (es ≡ fs)
unique bs b d es fs x y =
    let p = header-complete bs x.layout x.header in
    let q = header-complete bs y.layout y.header in
    let same : x.layout ≡ y.layout = cc in (
      x.cpu ∙ ap (λ l. l.boot) same ∙ sym y.cpu,
      sym (lists bs x.layout x.tokens es x.fills x.tree) ∙ ap (entries_of bs) same ∙ lists bs y.layout y.tokens fs y.fills y.tree,
    )

-- the counts of what is accepted are those of its entries
pub tallied : (bs : Bytes) (l : Layout) (c : Counts) → verdict [] zero (tokens_from bs l l.start) ≡ Ok c → Tally c (entries_of bs l)
unfolding plus
tallied bs l c v =
    let w = accepted-whole bs l (tokens_from bs l l.start) c l.start (lexed bs l (tokens_from bs l l.start) l.start (tokens-follow bs l l.start)) v in
    let t = w.tally in
    record { nodes = ap (λ d. d.nodes) t ∙ omega arith; properties = ap (λ d. d.properties) t ∙ omega arith; weight = ap (λ d. d.weight) t ∙ omega arith }

-- they come in a good order, and make a tree by the rules
module _ (bs : Bytes) (l : Layout) (c : Counts) (v : verdict [] zero (tokens_from bs l l.start) ≡ Ok c) where
  whole : Whole bs l l.start (sound (tokens_from bs l l.start)) (raw (tokens_from bs l l.start)) c
  whole = accepted-whole bs l (tokens_from bs l l.start) c l.start (lexed bs l (tokens_from bs l l.start) l.start (tokens-follow bs l l.start)) v

  pub ordered : well_listed (entries_of bs l) ≡ true
  ordered = root-listed whole.tree whole.within

  pub called : named_tokens (until (tokens_of bs l)) ≡ true
  called = root-named whole.tree

  pub grown : l.boot < 2 ^ 32 → Sound (tree_of l.boot (entries_of bs l))
  grown b = listed-sound l.boot (entries_of bs l) ordered (and_parts (roomy (listed (entries_of bs l))) _ whole.within).0 b

pub exact : (bs : Bytes) → Exact bs
exact bs = record {
  sound = λ boot es e. by_header bs boot es (header bs) refl e;
  complete = complete bs;
  unique = unique bs;
}
