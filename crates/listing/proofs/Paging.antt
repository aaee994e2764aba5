-- Steps of what is printed.
use Rattle.std.proofs.Common.{◌≡◌, ℕ, List, [], ◌∷◌, ◌++◌, refl, ap, ◌∙◌}
use Rattle.tree.specs.Entries.{Entry, listed, inserted}
use Rattle.tree.specs.Places.{Bytes}
use Rattle.tree.specs.Trees.{Places, nodes, properties, weight}
use Rattle.tree.specs.declared.counts.Counts.{Counts}
use Rattle.reader.specs.Reading.{Tally}
use Rattle.listing.specs.Page.{lines_of, good_line, good_page}
use Rattle.listing.specs.Rows.{with, arranged}

pub arranged-inserted : (es : List Entry) → arranged (listed es) ≡ inserted es
unfolding inserted
arranged-inserted [] = refl
arranged-inserted (e ∷ es) = ap (λ (l : Places). with l (e.place, e.value)) (arranged-inserted es)

pub page-made :
    (file : Bytes)
    (boot : ℕ)
    (c : Counts)
    (es : List Entry)
    (ps qs : Places)
    (v w : Bytes) →
    Tally c es →
    v ≡ good_line file boot c.nodes c.properties c.weight →
    ps ≡ listed es →
    qs ≡ arranged ps →
    w ≡ v ++ lines_of qs →
    w ≡ good_page file boot es
page-made file boot c es ps qs v w t p q r s =
    let l : good_line file boot c.nodes c.properties c.weight ≡ good_line file boot (nodes (listed es)) (properties (listed es)) (weight (listed es)) =
    ap (λ (n : ℕ). good_line file boot n c.properties c.weight) t.nodes
    ∙ ap (λ (n : ℕ). good_line file boot (nodes (listed es)) n c.weight) t.properties
    ∙ ap (λ (n : ℕ). good_line file boot (nodes (listed es)) (properties (listed es)) n) t.weight in
    s
    ∙ ap (λ (x : Bytes). x ++ lines_of qs) (p ∙ l)
    ∙ ap (λ (x : Places). good_line file boot (nodes (listed es)) (properties (listed es)) (weight (listed es)) ++ lines_of x) (r ∙ ap arranged q ∙ arranged-inserted es)
