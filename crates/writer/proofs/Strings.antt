-- The layout of the strings block keeps its laws. Assumes nothing.
use Rattle.std.proofs.Common.{◌≡◌, ◌≤◌, [], ◌∷◌, ◌++◌, length, drop, Some, None, sym, refl, ap, ◌∙◌, append_assoc, append-nil, arith, length-append}
use Rattle.std.proofs.lemmas.List.{drop_at, drop-append-le}
use Rattle.tree.specs.Places.{Bytes}
use Rattle.tree.specs.Trees.{Places}
use Rattle.writer.specs.Strings.{name_offset, with_name, strings, StringsLaws}

pub strings_laws : StringsLaws
unfolding name_offset with_name
strings_laws = record {
  grows = λ block name. (name ++ (0 ∷ []), refl);
  stands = λ block name. ([], drop_at block (name ++ (0 ∷ [])) (length block) refl);
  small = λ block name. let a = length-append block (name ++ (0 ∷ [])) in let b = length-append name (0 ∷ []) in omega arith;
  within = λ block name. omega arith;
}

-- the whole block begins with the block so far
pub strings-grow : (block : Bytes) (es : Places) → (more : Bytes) × (strings block es ≡ block ++ more)
unfolding strings
strings-grow block [] = ([], sym (append-nil block))
strings-grow block (((p, None), v) ∷ es) = strings-grow block es
strings-grow block (((p, Some n), v) ∷ es) =
    let a = strings_laws.grows block n in
    let b = strings-grow (with_name block n) es in
    (a.0 ++ b.0, b.1 ∙ ap (λ x. x ++ b.0) a.1 ∙ append_assoc block a.0 b.0)

-- so a name stands in it where it was put, and its offset is within it
pub name-stands : (block name : Bytes) (es : Places) → (rest : Bytes) × (drop (name_offset block name) (strings (with_name block name) es) ≡ name ++ (0 ∷ rest))
name-stands block name es =
    let a = strings_laws.stands block name in
    let b = strings-grow (with_name block name) es in
    let g = strings_laws.grows block name in
    let w = strings_laws.within block name in
    let l : name_offset block name ≤ length (with_name block name) = omega (arith, ap length g.1, length-append block g.0) in (
      a.0 ++ b.0,
      ap (drop (name_offset block name)) b.1 ∙ drop-append-le (name_offset block name) (with_name block name) b.0 l ∙ ap (λ x. x ++ b.0) a.1 ∙ append_assoc name (0 ∷ a.0) b.0,
    )

pub strings-longer : (block : Bytes) (es : Places) → length block ≤ length (strings block es)
strings-longer block es = let b = strings-grow block es in omega (arith, ap length b.1, length-append block b.0)
