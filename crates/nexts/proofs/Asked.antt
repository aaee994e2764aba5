-- What a question for the next name is answered with. Assumes nothing.
use Rattle.std.proofs.Common.{◌≡◌, ℕ, ◌<◌, ◌≤◌, Bool, true, cond, ◌&&◌, ◌||◌, eqb, leb, List, [], length, is_some, Some, None, Ok, Err, Option, Result, sym, refl, ap, ◌∙◌, Bor}
use Rattle.std.proofs.lemmas.Bool.{cond-true, cond-false, and_from, le-leb, lt-leb}
use Rattle.names.specs.Paths.{path_text}
use Rattle.tree.specs.Places.{Bytes, Place, node_at}
use Rattle.tree.specs.Trees.{look}
use Rattle.store.specs.declared.Refusal.{Refusal}
use Rattle.store.specs.declared.Refusal.TheVariants.{Absent, Short}
use Rattle.store.specs.Calls.{there, names, least_after, next_name}
use Rattle.tape.specs.Nodes.{Node, tree_from, meaning_of}
use Rattle.nexts.specs.Kids.{shown_name, Held}
use Rattle.tape.specs.Tapes.{shown}
use Rattle.tape.proofs.Looks.{open_is}

module _ (rule : Bytes → Bool) (on : Bytes → Place → List Bytes) (boot : ℕ) (ns : List Node) (h : 0 < length ns) (p n : Bytes) (good : path_text p ≡ true) (start : (eqb (length n) 0 || rule n) ≡ true) (room : ℕ) where
  next_open : next_name rule on (meaning_of boot ns) p n room ≡ cond (there (tree_from boot ns) (node_at p)) (cond (leb 63 room) (Ok (least_after n (names (on p) (tree_from boot ns).places))) (Err Short)) (Err Absent)
  next_open = ap (λ m. next_name rule on m p n room) (open_is boot ns h) ∙ cond-true (path_text p && (eqb (length n) 0 || rule n)) _ _ (and_from _ _ good start)

  pub next-absent : look (tree_from boot ns) (node_at p) ≡ None → next_name rule on (meaning_of boot ns) p n room ≡ Err Absent
  next-absent e = next_open ∙ cond-false (there (tree_from boot ns) (node_at p)) _ _ (ap is_some e)

  module _ (e : look (tree_from boot ns) (node_at p) ≡ Some []) where
    next-two : next_name rule on (meaning_of boot ns) p n room ≡ cond (leb 63 room) (Ok (least_after n (names (on p) (tree_from boot ns).places))) (Err Short)
    next-two = next_open ∙ cond-true (there (tree_from boot ns) (node_at p)) _ _ (ap is_some e)

    pub next-short : room < 63 → next_name rule on (meaning_of boot ns) p n room ≡ Err Short
    next-short l = next-two ∙ cond-false (leb 63 room) _ _ (lt-leb 63 room l)

    pub next-is : 63 ≤ room → (o : Option Bytes) → o ≡ least_after n (names (on p) (tree_from boot ns).places) → next_name rule on (meaning_of boot ns) p n room ≡ Ok o
    next-is l o q = next-two ∙ cond-true (leb 63 room) _ _ (le-leb 63 room l) ∙ ap Ok (sym q)

-- a name where it stands
pub shown_ok : (r : Option (Bor Bytes)) → ◌≡◌ {A = Result (Option Bytes) Refusal} (shown (Ok r)) (Ok (shown_name r))
shown_ok None = refl
shown_ok (Some v) = refl

pub held_by : (r : Option (Bor Bytes)) (room : ℕ) → ((x : Bytes) → shown_name r ≡ Some x → length x ≤ room) → Held (shown (Ok r)) room
held_by None room h = tt
held_by (Some v) room h = h v.now refl
