-- One token of the reading, and what a child's body leaves. Assumes nothing.
use Rattle.std.proofs.Common.{◌≡◌, ℕ, ◌+◌, ◌≤◌, Bool, true, false, not, cond, List, [], ◌∷◌, ◌++◌, length, take, drop, Some, None, Ok, Err, Option, Result, IfSome, refl, sym, ap, ◌∙◌, subst, arith, length-take}
use Rattle.std.specs.Option.{ok_or}
use Rattle.std.proofs.lemmas.List.{take-take, drop_all}
use Rattle.names.specs.Names.{node_name}
use Rattle.tree.specs.Counting.{with_node, node_fits}
use Rattle.tree.specs.Places.{Bytes}
use Rattle.tree.specs.declared.counts.Counts.{Counts}
use Rattle.blob.specs.Lexing.{tokens_from}
use Rattle.blob.specs.Tokens.{Tok, begin, tok_of, step_of, token_at}
use Rattle.blob.specs.declared.blob.Blob.{Blob}
use Rattle.blob.specs.declared.types.Refusal.{Refusal}
use Rattle.blob.specs.declared.types.Step.{Step}
use Rattle.blob.specs.declared.types.Token.{Token as TheToken}
use Rattle.blob.specs.declared.types.Refusal.TheVariants.{Token, Name, Limit}
use Rattle.blob.proofs.Lexed.{tokens_none, tokens-some}
use Rattle.reader.specs.declared.reader.Reader.{Reader}
use Rattle.reader.specs.Passing.{Named, from, Went}
use Rattle.reader.specs.Seen.{Spells}
use Rattle.reader.specs.Verdict.{has, Open, opened, kids, next, follow, verdict}

module _ (r : Reader) (p : ℕ) (gs : List Open) where
  verdict-none : token_at r.blob.bytes.now r.blob.layout p ≡ None → from r gs p ≡ Err (Token p)
  unfolding verdict
  verdict-none e = rw (tokens_none r.blob.bytes.now r.blob.layout p e)

  verdict-some : (t : Tok) (n : ℕ) → token_at r.blob.bytes.now r.blob.layout p ≡ Some (t, n)
      → from r gs p ≡ follow (next gs r.counts p t) (λ hs d. verdict hs d (tokens_from r.blob.bytes.now r.blob.layout n))
  unfolding verdict
  verdict-some t n e = rw (tokens-some r.blob.bytes.now r.blob.layout p t n e)

-- what the token t at p, behind which n stands, makes of the reading
pub record Stepped (r : Reader) (p : ℕ) (t : TheToken) (n : ℕ) : Type 0 where
  pub rises : p + 4 ≤ n
  pub stays : n ≤ r.blob.layout.end
  pub reads : (gs : List Open) → from r gs p ≡ follow (next gs r.counts p (tok_of t)) (λ hs d. verdict hs d (tokens_from r.blob.bytes.now r.blob.layout n))

-- a step to the token at p, or the refusal that there is none
module _ (r : Reader) (p : ℕ) (e : Refusal) where
  pub stepped : (o : Option Step) (s : Step) (t : TheToken) → step_of o ≡ token_at r.blob.bytes.now r.blob.layout p → IfSome o (λ x. (p + 4 ≤ x.next) × (x.next ≤ r.blob.layout.end)) → Ok s ≡ ok_or o e
      → s.token ≡ t → Stepped r p t s.next
  stepped None s t f b h k = absurd (cc)
  stepped (Some x) s t f b h k =
      let same : x ≡ s = cc in
      record {
        rises = subst (λ y. p + 4 ≤ y.next) same b.0;
        stays = subst (λ y. y.next ≤ r.blob.layout.end) same b.1;
        reads = λ gs. verdict-some r p gs (tok_of t) s.next (sym f ∙ ap (λ y. Some (tok_of y.token, y.next)) same ∙ ap (λ y. Some (tok_of y, s.next)) k);
      }

  pub unstepped : (o : Option Step) (f : Refusal) → step_of o ≡ token_at r.blob.bytes.now r.blob.layout p → Err f ≡ ok_or o e → (f ≡ e) × ((gs : List Open) → from r gs p ≡ Err (Token p))
  unstepped None f g h = (cc, λ gs. verdict-none r p gs (sym g))
  unstepped (Some x) f g h = absurd (cc)

-- a node's token: its name is bad or used, it passes a limit, or it is entered
module _ (r : Reader) (at n : ℕ) (g : Open) (gs : List Open) (name : Bytes) (token : token_at r.blob.bytes.now r.blob.layout at ≡ Some (begin name, n)) where
  pub node_bad : node_name name ≡ false → from r (g ∷ gs) at ≡ Err (Name at)
  node_bad bad = verdict-some r at (g ∷ gs) (begin name) n token ∙ rw bad

  pub node-used : node_name name ≡ true → has name (kids g) ≡ true → from r (g ∷ gs) at ≡ Err (Name at)
  node-used good used = verdict-some r at (g ∷ gs) (begin name) n token ∙ rw (good, used)

  pub node_over : node_name name ≡ true → has name (kids g) ≡ false → node_fits r.counts (g.path + 1 + length name) (length name) ≡ false → from r (g ∷ gs) at ≡ Err (Limit at)
  node_over good new over = verdict-some r at (g ∷ gs) (begin name) n token ∙ rw (good, new, over)

  pub node-entered : node_name name ≡ true → has name (kids g) ≡ false → node_fits r.counts (g.path + 1 + length name) (length name) ≡ true
      → from r (g ∷ gs) at
      ≡ verdict (opened (g.path + 1 + length name) false [] ∷ opened g.path true (kids g ++ (name ∷ [])) ∷ gs) (with_node r.counts (length name)) (tokens_from r.blob.bytes.now r.blob.layout n)
  node-entered good new room = verdict-some r at (g ∷ gs) (begin name) n token ∙ rw (good, new, room)

-- what is counted within the limits, or its refusal
pub counted : (fits : Bool) (c d : Counts) (e : Refusal) → Ok d ≡ ok_or (cond fits (Some c) None) e → (fits ≡ true) × (d ≡ c)
counted true c d e h = (refl, cc)
counted false c d e h = absurd (cc)

pub uncounted : (fits : Bool) (c : Counts) (e f : Refusal) → Err f ≡ ok_or (cond fits (Some c) None) e → (fits ≡ false) × (f ≡ e)
uncounted true c e f h = absurd (cc)
uncounted false c e f h = (refl, cc)

-- the names from base on go where no child has come, and stay where one has
pub forgotten : (children : Bool) (base : ℕ) (was is : List ℕ) → not children ≡ true → is ≡ take base was → is ≡ cond children was (take base was)
forgotten true base was is n e = absurd (cc)
forgotten false base was is n e = e

pub kept : (children : Bool) (base : ℕ) (was is : List ℕ) → not children ≡ false → is ≡ was → is ≡ cond children was (take base was)
kept true base was is n e = e
kept false base was is n e = absurd (cc)

-- the names of the children alone
pub kin-named : (bs : Bytes) (base path : ℕ) (children : Bool) (ns : List Bytes) (was is : List ℕ) → base ≤ length was → is ≡ cond children was (take base was)
    → Spells bs (drop base was) ns → Named bs base was is (kids (opened path children ns))
kin-named bs base path true ns was is order e s = record { below = ap (take base) e; above = rw e order; spells = rw e s }
kin-named bs base path false ns was is order e s = record {
  below = ap (take base) e ∙ take-take base base was (omega arith);
  above = rw (e, length-take) (omega arith);
  spells = rw (e, drop_all base (take base was) (rw length-take (omega arith))) tt;
}

-- one change of the table after another
pub named_then : (bs : Bytes) (base : ℕ) (was mid is : List ℕ) (ns ms : List Bytes) → Named bs base was mid ns → Named bs base mid is ms → Named bs base was is ms
named_then bs base was mid is ns ms n m = record { below = m.below ∙ n.below; above = m.above; spells = m.spells }

-- a body passed is a node passed
pub passed-node : (was inner : List Open → Result Counts Refusal) (b : Blob) (is : Reader) (at next : ℕ) (after : List Open → List Open) (P Q : Type 0) (r : Result ℕ Refusal) → Went inner b is next (λ gs. gs) P r
    → at ≤ next → (P → Q) → ((gs : List Open) → was gs ≡ inner (after gs)) → Went was b is at after Q r
passed-node was inner b is at next after P Q (Ok n) p a f k = (omega (arith, p.0), p.1, p.2, f p.3, λ gs. k gs ∙ p.4 (after gs))
passed-node was inner b is at next after P Q (Err e) p a f k = λ gs. k gs ∙ p (after gs)
