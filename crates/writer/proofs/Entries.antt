-- The tokens list the places, each in its turn. Assumes nothing.
use Rattle.std.proofs.Common.{◌≡◌, ℕ, ◌+◌, List, [], ◌∷◌, length, Some, refl, ap, ◌∙◌}
use Rattle.names.specs.Paths.{root, leaf, behind_last}
use Rattle.tree.specs.Entries.{Entry, inserted, listed}
use Rattle.tree.specs.Maps.{upd, Below, Rises}
use Rattle.tree.specs.Places.{Bytes, Place, node_at, property_at, order}
use Rattle.tree.specs.Trees.{Places}
use Rattle.blob.specs.Tokens.{begin, property}
use Rattle.reader.specs.Reading.{entries, sound}
use Rattle.reader.proofs.Complete.{somes}
use Rattle.walk.specs.Runs.{Runs, run_end, run_root, run_property, run_node, run_leave}
use Rattle.writer.specs.Strings.{name_offset, with_name}
use Rattle.writer.specs.Written.{Piece, token_bytes, ends, pieces}
use Rattle.writer.proofs.Lexes.{spell}
use Rattle.writer.proofs.Sizes.{pieces-node, pieces-leave}

-- the entries of tokens in the open nodes
abbrev pub lists : List Bytes → ℕ → List Piece → Places
lists ps o xs = listed (entries ps (sound (somes (spell o xs))))

ends_list : (ps qs : List Bytes) (o : ℕ) → lists qs o (ends ps) ≡ []
unfolding entries sound somes spell
ends_list [] qs o = refl
ends_list (p ∷ ps) [] o = ends_list ps [] (o + 4)
ends_list (p ∷ ps) (q ∷ qs) o = ends_list ps qs (o + 4)

pub places_list : {ps : List Bytes} {es : Places} → Runs ps es → (o : ℕ) (block : Bytes) → lists ps o (pieces ps block es) ≡ es
unfolding entries sound somes spell pieces behind_last
places_list {ps} run_end o block = ends_list ps ps o
places_list (run_root {es} r) o block =
    ap (λ z. (node_at root, []) ∷ z) (places_list r (o + length (token_bytes (begin (leaf root)) 0)) block)
places_list (run_property {p} {n} {v} {ps} {es} g r) o block =
    ap (λ z. (property_at p n, v) ∷ z) (places_list r (o + length (token_bytes (property n v) (name_offset block n))) (with_name block n))
places_list (run_node {p} {q} {ps} {es} e f g r) o block =
    ap (lists (p ∷ ps) o) (pieces-node p q [] ps block es e)
    ∙ ap (λ c. (node_at c, []) ∷ lists (c ∷ p ∷ ps) (o + length (token_bytes (begin (leaf q)) 0)) (pieces (q ∷ p ∷ ps) block es)) f
    ∙ ap (λ z. (node_at q, []) ∷ z) (places_list r (o + length (token_bytes (begin (leaf q)) 0)) block)
places_list (run_leave {p} {q} {ps} {es} n r) o block =
    ap (lists (p ∷ ps) o) (pieces-leave p q [] ps block es n) ∙ places_list r (o + 4) block

upd-below : (es : Places) (k : Place) (v : Bytes) → Below order k es → upd order es k (Some v) ≡ (k, v) ∷ es
unfolding upd
upd-below [] k v b = refl
upd-below (e ∷ es) k v b = rw b

-- entries that rise are inserted as they come
pub insert_risen : (es : List Entry) → Rises order (listed es) → inserted es ≡ listed es
unfolding inserted
insert_risen [] r = refl
insert_risen (e ∷ es) r =
    ap (λ z. upd order z e.place (Some e.value)) (insert_risen es r.1) ∙ upd-below (listed es) e.place e.value r.0
