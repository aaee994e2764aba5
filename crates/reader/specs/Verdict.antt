-- What the reader makes of a list of tokens, one token at a time: how much of a tree they hold, or the first fault.
-- Assumes nothing.
use Rattle.std.specs.Prelude.{ℕ, ◌+◌, Bool, true, false, cond, not, ◌&&◌, ◌||◌, List, [], ◌∷◌, ◌++◌, length, Some, None, Ok, Err, Option, Result, ◌==◌}
use Rattle.std.specs.Str.{bytes_eq}
use Rattle.names.specs.Names.{node_name, property_name}
use Rattle.tree.specs.Counting.{zero, with_node, with_property, node_fits, property_fits}
use Rattle.tree.specs.Places.{Bytes}
use Rattle.tree.specs.declared.counts.Counts.{Counts}
use Rattle.blob.specs.Tokens.{Tok, begin, property, end, nop, finish}
use Rattle.blob.specs.Lexing.{Tokens}
use Rattle.blob.specs.declared.types.Refusal.{Refusal}
use Rattle.blob.specs.declared.types.Refusal.TheVariants.{NotABlob, Token, Name, Limit}

-- is the name among these?
abbrev pub has : Bytes → List Bytes → Bool
has name [] = false
has name (n ∷ ns) = bytes_eq n name || has name ns

-- a node whose end has not come: the length of its path (0 for the root), whether a child has come, and the names of its
-- children so far, or of its properties while no child has come
pub record Open : Type 0 where
  pub path : ℕ
  pub children : Bool
  pub names : List Bytes

abbrev pub opened : ℕ → Bool → List Bytes → Open
opened path children names = record { path = path; children = children; names = names }

-- the names of its children so far
abbrev pub kids : Open → List Bytes
kids g = cond g.children g.names []

-- the root alone, whose name is empty
abbrev pub root_only : Counts
root_only = with_node zero 0

-- ---- one token

-- what a token does: it ends the reading, or leaves these open nodes and counts
pub data Next : Type 0 where
  stop : Result Counts Refusal → Next
  go : List Open → Counts → Next

-- a node's token at p, in the open node g
abbrev pub on_node : Open → List Open → Counts → ℕ → Bytes → Next
on_node g gs c p name =
    cond (node_name name && not (has name (kids g)))
    (cond (node_fits c (g.path + 1 + length name) (length name)) (go (opened (g.path + 1 + length name) false [] ∷ opened g.path true (kids g ++ (name ∷ [])) ∷ gs) (with_node c (length name))) (stop (Err (Limit p))))
    (stop (Err (Name p)))

-- why a property is refused in a node where no child has come, if it is
abbrev pub property_fault : List Bytes → Counts → ℕ → Bytes → Bytes → Option Refusal
property_fault ns c p name value = cond (property_name name && not (has name ns)) (cond (property_fits c (length name) (length value)) None (Some (Limit p))) (Some (Name p))

abbrev pub unless : Option Refusal → Next → Next
unless None m = m
unless (Some e) m = stop (Err e)

-- a property's token at p, in the open node g: properties come before children
abbrev pub on_property : Open → List Open → Counts → ℕ → Bytes → Bytes → Next
on_property g gs c p name value =
    cond g.children (stop (Err (Token p))) (unless (property_fault g.names c p name value) (go (opened g.path false (g.names ++ (name ∷ [])) ∷ gs) (with_property c (length name) (length value))))

-- outside all nodes: there is one root, and its name is empty
abbrev pub on_root : Counts → ℕ → Bytes → Next
on_root c p name = cond (c.nodes == 0) (cond (length name == 0) (go (opened 0 false [] ∷ []) root_only) (stop (Err (Name p)))) (stop (Err (Token p)))

-- the token t at p, in the open nodes, the innermost first
abbrev pub next : List Open → Counts → ℕ → Tok → Next
next [] c p (begin name) = on_root c p name
next [] c p (property name value) = stop (Err (Token p))
next [] c p end = stop (Err (Token p))
next [] c p nop = go [] c
next [] c p finish = cond (c.nodes == 0) (stop (Err (Token p))) (stop (Ok c))
next (g ∷ gs) c p (begin name) = on_node g gs c p name
next (g ∷ gs) c p (property name value) = on_property g gs c p name value
next (g ∷ gs) c p end = go gs c
next (g ∷ gs) c p nop = go (g ∷ gs) c
next (g ∷ gs) c p finish = stop (Err (Token p))

abbrev pub next_at : List Open → Counts → ℕ → Option Tok → Next
next_at gs c p None = stop (Err (Token p))
next_at gs c p (Some t) = next gs c p t

abbrev pub follow : Next → (List Open → Counts → Result Counts Refusal) → Result Counts Refusal
follow (stop r) k = r
follow (go gs c) k = k gs c

-- all tokens, in order
unfoldable pub verdict : List Open → Counts → Tokens → Result Counts Refusal
verdict gs c [] = Err NotABlob
verdict gs c (x ∷ ts) = follow (next_at gs c x.0 x.1) (λ hs d. verdict hs d ts)
