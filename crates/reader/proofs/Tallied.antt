-- Counts of entries, one entry at a time. Assumes nothing.
use Rattle.std.proofs.Common.{◌≡◌, ℕ, ◌+◌, ◌≤◌, Bool, true, ◌&&◌, List, [], ◌∷◌, ◌++◌, length, refl, ap, ◌∙◌, arith}
use Rattle.std.proofs.lemmas.Bool.Decides.{nat_tests}
use Rattle.std.proofs.lemmas.Bool.{and_parts}
use Rattle.names.specs.Names.{each}
use Rattle.names.specs.Paths.{root, child, leaf, behind_last}
use Rattle.tree.specs.Maps.{total}
use Rattle.tree.specs.Numbers.{pad4}
use Rattle.tree.specs.Places.{Bytes, Place}
use Rattle.tree.specs.Trees.{Places, node_count, property_count, weigh, nodes, properties, weight, roomy, short_place}
use Rattle.tree.specs.Entries.{Entry, listed}
use Rattle.tree.specs.declared.counts.Counts.{Counts}
use Rattle.tree.specs.Counting.{with_node, with_property, zero}
use Rattle.reader.specs.Verdict.{root_only}
use Rattle.reader.specs.Format.{node_entry, property_entry, within}

abbrev pub short : Entry → Bool
short e = short_place e.place e.value

-- c with what the entries count
unfoldable pub plus : Counts → List Entry → Counts
plus c es = record { nodes = c.nodes + nodes (listed es); properties = c.properties + properties (listed es); weight = c.weight + weight (listed es) }

counts_same : (a b d a' b' d' : ℕ) → a ≡ a' → b ≡ b' → d ≡ d' → ◌≡◌ {A = Counts} (record { nodes = a; properties = b; weight = d }) (record { nodes = a'; properties = b'; weight = d' })
counts_same a b d a' b' d' p q r = λ i. record { nodes = p i; properties = q i; weight = r i }

total_append : (f : Place → Bytes → ℕ) (ps qs : Places) → total f (ps ++ qs) ≡ total f ps + total f qs
unfolding total
total_append f [] qs = omega arith
total_append f (p ∷ ps) qs = let h = total_append f ps qs in omega arith

listed_append : (es fs : List Entry) → listed (es ++ fs) ≡ listed es ++ listed fs
listed_append [] fs = refl
listed_append (e ∷ es) fs = ap (λ ps. (e.place, e.value) ∷ ps) (listed_append es fs)

pub plus_append : (c : Counts) (es fs : List Entry) → plus c (es ++ fs) ≡ plus (plus c es) fs
unfolding plus
plus_append c es fs =
    let n = ap nodes (listed_append es fs) ∙ total_append node_count (listed es) (listed fs) in
    let p = ap properties (listed_append es fs) ∙ total_append property_count (listed es) (listed fs) in
    let w = ap weight (listed_append es fs) ∙ total_append weigh (listed es) (listed fs) in
    counts_same _ _ _ _ _ _ (omega arith) (omega arith) (omega arith)

pub plus_none : (c : Counts) → plus c [] ≡ c
unfolding plus total
plus_none c = counts_same _ _ _ _ _ _ (omega arith) (omega arith) (omega arith)

pub plus-property : (c : Counts) (p : ℕ) (path name value : Bytes) (es : List Entry) → plus c (property_entry p path name value ∷ es) ≡ plus (with_property c (length name) (length value)) es
unfolding plus total
plus-property c p path name value es = counts_same _ _ _ _ _ _ (omega arith) (omega arith) (omega arith)

pub plus-node : (c : Counts) (p : ℕ) (path name : Bytes) (es : List Entry) → leaf (child path name) ≡ name → plus c (node_entry p (child path name) ∷ es) ≡ plus (with_node c (length name)) es
unfolding plus total
plus-node c p path name es e =
    let w : pad4 (length (leaf (child path name)) + 1) ≡ pad4 (length name + 1) = ap (λ n. pad4 (length n + 1)) e in
    counts_same _ _ _ _ _ _ (omega arith) (omega arith) (omega arith)

pub plus-root : (p : ℕ) (es : List Entry) → plus zero (node_entry p root ∷ es) ≡ plus root_only es
unfolding plus total behind_last
plus-root p es = counts_same _ _ _ _ _ _ (omega arith) (omega arith) (omega arith)

-- the limits on counts
pub record Fits (c : Counts) : Type 0 where
  pub nodes : c.nodes ≤ 256
  pub properties : c.properties ≤ 1024
  pub weight : c.weight ≤ 24576

-- what fits with more fits
pub fits-less : (c : Counts) (es : List Entry) → Fits (plus c es) → Fits c
unfolding plus
fits-less c es f = record { nodes = omega (arith, f.nodes); properties = omega (arith, f.properties); weight = omega (arith, f.weight) }

pub fits-within : (es : List Entry) → Fits (plus zero es) → each short es ≡ true → within es ≡ true
unfolding plus
fits-within es f s =
    let a : nodes (listed es) ≤ 256 = omega (arith, f.nodes) in
    let b : properties (listed es) ≤ 1024 = omega (arith, f.properties) in
    let d : weight (listed es) ≤ 24576 = omega (arith, f.weight) in
    grind (arith, nat_tests)

pub within-fits : (es : List Entry) → within es ≡ true → Fits (plus zero es) × (each short es ≡ true)
unfolding plus
within-fits es w =
    let a : nodes (listed es) ≤ 256 = grind (arith, nat_tests) in
    let b : properties (listed es) ≤ 1024 = grind (arith, nat_tests) in
    let d : weight (listed es) ≤ 24576 = grind (arith, nat_tests) in
    (record { nodes = omega arith; properties = omega arith; weight = omega arith }, (and_parts (roomy (listed es)) (each short es) w).1)

pub each_append : {A : Type 0} (t : A → Bool) (xs ys : List A) → each t (xs ++ ys) ≡ (each t xs && each t ys)
each_append t [] ys = refl
each_append t (x ∷ xs) ys = let h = each_append t xs ys in grind (arith, nat_tests)
