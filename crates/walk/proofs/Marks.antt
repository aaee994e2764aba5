-- The keys at which a walk stands: before the children of a node, or behind one of them with all below it. Assumes nothing.
use Rattle.std.proofs.Common.{◌≡◌, ℕ, true, not, eqb, ◌⊎◌, [], ◌∷◌, ◌++◌, length, sym, refl, ap, ◌∙◌, ⊎_elim, append_assoc, arith}
use Rattle.std.proofs.lemmas.Bool.{cases_order, and_parts, and_from}
use Rattle.std.specs.Ordering.{is_lt, ordering_then}
use Rattle.names.specs.Names.{node_name}
use Rattle.names.specs.Orders.{name_order, path_order}
use Rattle.names.specs.Paths.{root, path_text, stem, child, leaf, parent, plain}
use Rattle.names.proofs.NameLaws.{node_names}
use Rattle.names.proofs.Orders.{below, above, level, siblings}
use Rattle.names.proofs.PathLaws.{by-root, path_splits}
use Rattle.tree.specs.Places.{Bytes}
use Rattle.store.specs.Calls.{later}
use Rattle.walk.proofs.Full.{Full, full-node}

-- nothing, or the name and a zero byte, which is below every byte of a name
abbrev pub mark : Bytes → Bytes
mark [] = []
mark (b ∷ a) = (b ∷ a) ++ (0 ∷ [])

-- before the children of r, or behind the child so named and all below it
abbrev pub key : Bytes → Bytes → Bytes
key r a = child r (mark a)

-- behind r and all below it
abbrev pub end_of : Bytes → Bytes
end_of r = stem r ++ (0 ∷ [])

-- what is asked of: the empty name or a node's
abbrev pub Asked : Bytes → Type 0
Asked a = (a ≡ []) ⊎ (node_name a ≡ true)

plain_more : (a : Bytes) → plain a ≡ true → plain (a ++ (0 ∷ [])) ≡ true
plain_more [] h = refl
plain_more (b ∷ a) h = let k = and_parts (not (eqb b 47)) (plain a) h in and_from (not (eqb b 47)) (plain (a ++ (0 ∷ []))) k.0 (plain_more a k.1)

pub mark-plain : (a : Bytes) → Asked a → plain (mark a) ≡ true
mark-plain [] h = refl
mark-plain (b ∷ a) h =
    ⊎_elim
    (λ e. let z : ◌≡◌ {A = ℕ} 0 1 = cc in absurd (omega arith))
    (λ n. plain_more (b ∷ a) (node_names (b ∷ a) n).0)
    h

zero-last : (a : Bytes) → Full (a ++ (0 ∷ [])) → ⊥
zero-last [] h = h.0 refl
zero-last (b ∷ a) h = zero-last a h.1

-- no mark is a name
pub mark-none : (a : Bytes) → node_name (mark a) ≡ true → ⊥
mark-none [] h = let z = (node_names [] h).1 in omega arith
mark-none (b ∷ a) h = zero-last (b ∷ a) (full-node ((b ∷ a) ++ (0 ∷ [])) h)

zero-order : (a n : Bytes) → Full n → is_lt (name_order (a ++ (0 ∷ [])) n) ≡ is_lt (name_order a n)
zero-order [] [] f = refl
zero-order [] (y ∷ n) f =
    ⊎_elim
    (λ e. absurd (f.0 e))
    (⊎_elim (λ h. absurd (omega arith)) (λ h. ap (λ c. is_lt (ordering_then c (name_order [] n))) (below 0 y h)))
    (cases_order y 0)
zero-order (x ∷ a) [] f = refl
zero-order (x ∷ a) (y ∷ n) f =
    let ih = zero-order a n f.1 in
    ⊎_elim
    (λ e. ap (λ c. is_lt (ordering_then c (name_order (a ++ (0 ∷ [])) n))) (level x y e) ∙ ih ∙ sym (ap (λ c. is_lt (ordering_then c (name_order a n))) (level x y e)))
    (⊎_elim
    (λ h. ap (λ c. is_lt (ordering_then c (name_order (a ++ (0 ∷ [])) n))) (below x y h) ∙ sym (ap (λ c. is_lt (ordering_then c (name_order a n))) (below x y h)))
    (λ h. ap (λ c. is_lt (ordering_then c (name_order (a ++ (0 ∷ [])) n))) (above x y h) ∙ sym (ap (λ c. is_lt (ordering_then c (name_order a n))) (above x y h))))
    (cases_order x y)

mark-order : (a n : Bytes) → Full n → is_lt (name_order (mark a) n) ≡ later a n
mark-order [] n f = refl
mark-order (b ∷ a) n f = zero-order (b ∷ a) n f

-- a child is behind the key just where its name is behind the name
pub key-child : (r a n : Bytes) → Asked a → node_name n ≡ true → is_lt (path_order (key r a) (child r n)) ≡ later a n
key-child r a n h g = ap is_lt (siblings r (mark a) n (mark-plain a h) (node_names n g).0) ∙ mark-order a n (full-node n g)

some-mark : (a : Bytes) → (a ≡ [] → ⊥) → mark a ≡ a ++ (0 ∷ [])
some-mark [] h = absurd (h refl)
some-mark (b ∷ a) h = refl

-- behind a node is behind its name among its siblings
pub end-key : (r : Bytes) → path_text r ≡ true → (r ≡ root → ⊥) → end_of r ≡ key (parent r) (leaf r)
end-key r h n =
    let w = path_splits r h n in
    let z = (node_names (leaf r) w.2).1 in
    let m = some-mark (leaf r) (λ e. let y = ap length e in absurd (omega arith)) in
    ⊎_elim
    (λ e. absurd (n e))
    (λ x. ap (λ y. y ++ (0 ∷ [])) (x.1 ∙ sym w.0) ∙ append_assoc (stem (parent r)) (47 ∷ leaf r) (0 ∷ []) ∙ ap (λ y. stem (parent r) ++ (47 ∷ y)) (sym m))
    (by-root r)
