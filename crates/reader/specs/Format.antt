-- The flattened format in its own words: which bytes list which entries. Nothing here says how to read. Assumes nothing.
use Rattle.std.specs.Prelude.{◌≡◌, ℕ, Bool, true, not, ◌&&◌, List, [], ◌∷◌, ◌++◌}
use Rattle.names.specs.Names.{each, node_name, property_name}
use Rattle.names.specs.Paths.{root, child}
use Rattle.tree.specs.Places.{Bytes, node_at, property_at}
use Rattle.tree.specs.Trees.{roomy, short_place}
use Rattle.tree.specs.Entries.{Entry, listed}
use Rattle.blob.specs.Tokens.{Tok, begin, property, end, nop, finish}
use Rattle.blob.specs.Grammar.{IsToken, Header}
use Rattle.blob.specs.declared.types.Layout.{Layout}
use Rattle.reader.specs.Verdict.{has}

-- tokens with their byte offsets
abbrev pub Spelt : Type 0
Spelt = List (ℕ × Tok)

-- the tokens that fill the structure block from p to q, each beginning where the one before it ends
pub data Fills (bs : Bytes) (l : Layout) : ℕ → Spelt → ℕ → Type 0 where
  fill_none : {p : ℕ} → Fills bs l p [] p
  fill_more : {p q r : ℕ} {t : Tok} {ts : Spelt} → IsToken bs l p t q → Fills bs l q ts r → Fills bs l p ((p, t) ∷ ts) r

-- all but the skipped ones
abbrev pub keep_on : ℕ → Tok → Spelt → Spelt
keep_on p (begin name) ts = (p, begin name) ∷ ts
keep_on p (property name value) ts = (p, property name value) ∷ ts
keep_on p end ts = (p, end) ∷ ts
keep_on p nop ts = ts
keep_on p finish ts = (p, finish) ∷ ts

unfoldable pub kept : Spelt → Spelt
kept [] = []
kept (x ∷ ts) = keep_on x.0 x.1 (kept ts)

abbrev pub node_entry : ℕ → Bytes → Entry
node_entry p path = record { at = p; place = node_at path; value = [] }

abbrev pub property_entry : ℕ → Bytes → Bytes → Bytes → Entry
property_entry p path name value = record { at = p; place = property_at path name; value = value }

-- no name comes twice
unfoldable pub distinct : List Bytes → Bool
distinct [] = true
distinct (n ∷ ns) = not (has n ns) && distinct ns

-- xs are properties of the node at `path`, with these entries and names, and then ys
pub data Properties (path : Bytes) : Spelt → List Entry → List Bytes → Spelt → Type 0 where
  no_property : {xs : Spelt} → Properties path xs [] [] xs
  a_property : {p : ℕ} {name value : Bytes} {xs ys : Spelt} {es : List Entry} {ns : List Bytes} → property_name name ≡ true → Properties path xs es ns ys
      → Properties path ((p, property name value) ∷ xs) (property_entry p path name value ∷ es) (name ∷ ns) ys

mutual
  -- xs are a node below the node at `path`, with this name, and then ys: a begin token, a body, an end token
  pub data Node : Bytes → Bytes → Spelt → List Entry → Spelt → Type 0 where
    a_node : {path name : Bytes} {p q : ℕ} {xs ys : Spelt} {es : List Entry} → node_name name ≡ true → Body (child path name) xs es ((q, end) ∷ ys)
        → Node path name ((p, begin name) ∷ xs) (node_entry p (child path name) ∷ es) ys

  -- a body: properties that differ in name, then nodes that differ in name
  pub data Body : Bytes → Spelt → List Entry → Spelt → Type 0 where
    a_body : {path : Bytes} {xs ys zs : Spelt} {ps ks : List Entry} {ns ms : List Bytes} → Properties path xs ps ns ys → distinct ns ≡ true → Nodes path ys ks ms zs → distinct ms ≡ true
        → Body path xs (ps ++ ks) zs

  pub data Nodes : Bytes → Spelt → List Entry → List Bytes → Spelt → Type 0 where
    no_node : {path : Bytes} {xs : Spelt} → Nodes path xs [] [] xs
    more_nodes : {path name : Bytes} {xs ys zs : Spelt} {es fs : List Entry} {ns : List Bytes} → Node path name xs es ys → Nodes path ys fs ns zs → Nodes path xs (es ++ fs) (name ∷ ns) zs

-- one root, whose name is empty, and nothing but the end token behind it
pub data Root : Spelt → List Entry → Type 0 where
  a_root : {p q r : ℕ} {xs : Spelt} {es : List Entry} → Body root xs es ((q, end) ∷ (r, finish) ∷ []) → Root ((p, begin []) ∷ xs) (node_entry p root ∷ es)

-- bs are a blob that lists these entries, with this boot CPU number
pub record Blob (bs : Bytes) (boot : ℕ) (es : List Entry) : Type 0 where
  pub layout : Layout
  pub header : Header bs layout
  pub cpu : boot ≡ layout.boot
  pub tokens : Spelt
  pub fills : Fills bs layout layout.start tokens layout.end
  pub tree : Root (kept tokens) es

-- within the limits: counts, weight, lengths of paths and values
abbrev pub within : List Entry → Bool
within es = roomy (listed es) && each (λ e. short_place e.place e.value) es
