-- The worked examples, each computed. Assumes nothing.
use Rattle.std.proofs.Common.{◌≡◌, true, [], ◌∷◌, Some, None, codes, Ordering, Less, Equal, Greater, sym, refl, inl, inr, lit<}
use Rattle.std.specs.List.{AllByRecursion}
use Rattle.std.specs.Ordering.{match_ordering as by_order}
use Rattle.names.specs.Names.{node_byte, property_byte, property_name, node_name}
use Rattle.names.specs.Paths.{parts as path_parts, path_text, stem, behind_last, parent}
use Rattle.tree.specs.Entries.{listed_from}
use Rattle.tree.specs.Maps.{find, upd, total}
use Rattle.tree.specs.Numbers.{be32}
use Rattle.tree.specs.Phandles.{handles, distinct_handles, holder_of, largest_of}
use Rattle.tree.specs.Places.{Bytes, Place, node_at, order}
use Rattle.tree.specs.Trees.{Places, Tree, look, change, named_place, short_place, up_place, Sound}
use Rattle.tree.proofs.Maps.{some-none, some_one}
use Rattle.tree.proofs.Places.{place-order}
use Rattle.overlay_rules.specs.Texts.{zero_ended, split, digits, decimal, behind}
use Rattle.overlay_rules.specs.Overlays.{value_at, fragment_nodes, body_entries, strings, spots, numbers_from, labels_of, cells_of, target_of, overlay_of}
use Rattle.overlay_rules.specs.Checks.{body_handles, handle_fault, cell_fault, check}
use Rattle.overlay_rules.specs.Plans.{labelled, known, node_there, number_there, image_of, filled, lowest, twice, again, read_symbols, planned, allowed, plan, apply}
use Rattle.overlay_rules.specs.Queries.{◌>>=◌, run, asked, for_each}
use Rattle.overlay_rules.specs.Records.{distinct, notes, restore, saved_bytes}
use Rattle.overlay_rules.specs.Laws.{In}
use Rattle.overlay_rules.specs.PlanExamples.{refers, refers_plan}
use Rattle.overlay_rules.specs.Samples.{base}
use Rattle.overlay_rules.proofs.Lists.{all-at}
use Rattle.ledger.specs.Ledgers.{line, merge_all, sum, room, parts, blocker, step, history, answers}
use Rattle.ledger.specs.Examples.{Worked, Refusals, NoMistakes, worked_calls, refers_ledger, Premises}
use Rattle.ledger.specs.Invariants.{FitCall}
use Rattle.ledger.specs.Promises.{Stands}
use Rattle.ledger.proofs.Standing.{every_history}

pub worked : Worked
unfolding node_byte property_byte property_name node_name path_parts path_text stem behind_last parent find upd total be32 handles distinct_handles holder_of largest_of look change zero_ended split digits decimal behind value_at fragment_nodes body_entries strings spots numbers_from labels_of cells_of target_of overlay_of listed_from body_handles handle_fault cell_fault check labelled known node_there number_there image_of filled lowest twice again read_symbols planned allowed plan apply ◌>>=◌ run asked for_each distinct notes restore saved_bytes merge_all sum room parts blocker step history answers
worked = record {
  good = ((refl, refl), (refl, refl), (refl, refl), (refl, refl), (refl, refl), (refl, refl));
  cell_said = refl;
  cell_handle = refl;
  blocked = refl;
  status_set = refl;
  all_out = refl;
  apart = refl;
  same_said = refl;
  one_byte = refl;
  four_back = refl;
  five = refl;
  seven = refl;
  eight = refl;
  no_cell = refl;
  takes_last = refl;
  past_last = refl;
  at_four = refl;
  at_five = refl;
}

pub refusals : Refusals
unfolding node_byte property_byte property_name node_name path_parts path_text stem behind_last parent find upd total be32 handles distinct_handles holder_of largest_of look change zero_ended split digits decimal behind value_at fragment_nodes body_entries strings spots numbers_from labels_of cells_of target_of overlay_of listed_from body_handles handle_fault cell_fault check labelled known node_there number_there image_of filled lowest twice again read_symbols planned allowed plan apply ◌>>=◌ run asked for_each distinct notes restore saved_bytes merge_all sum room parts blocker step history answers
refusals = record {
  closed_calls = refl;
  bad_handle = refl;
  no_symbols = refl;
  opened_twice = refl;
  plugs = refl;
  unplugs = refl;
  shelf = refl;
}

pub no_mistakes : NoMistakes
unfolding node_byte property_byte property_name node_name path_parts path_text stem behind_last parent find upd total be32 handles distinct_handles holder_of largest_of look change zero_ended split digits decimal behind value_at fragment_nodes body_entries strings spots numbers_from labels_of cells_of target_of overlay_of listed_from body_handles handle_fault cell_fault check labelled known node_there number_there image_of filled lowest twice again read_symbols planned allowed plan apply ◌>>=◌ run asked for_each distinct notes restore saved_bytes merge_all sum room parts blocker step history answers
no_mistakes = record {
  keeps_offset = refl;
  other_offset = refl;
  chained_good = (refl, refl);
  before_merge = refl;
  sixth = refl;
  present = refl;
}

-- what is found is listed
find-in : (es : Places) (k : Place) (v : Bytes) → find order es k ≡ Some v → In {A = Place × Bytes} (k, v) es
unfolding find
find-in [] k v h = absurd (some-none v (sym h))
find-in (e ∷ es) k v h = go (order k e.0) refl (find-in es k v) h
  where
    go : (o : Ordering) → order k e.0 ≡ o → (find order es k ≡ Some v → In {A = Place × Bytes} (k, v) es) → by_order o None (Some e.1) (find order es k) ≡ Some v → In {A = Place × Bytes} (k, v) (e ∷ es)
    go Less a ih g = absurd (some-none v (sym g))
    go Equal a ih g = let x = place-order.exact k e.0 a in let y = some_one g in inl (λ i. (x i, sym y i))
    go Greater a ih g = inr (ih g)

-- what holds of all that is listed holds of what is found
found_all : (t : Tree) (P : Place × Bytes → Type 0) → AllByRecursion P t.places → (k : Place) (v : Bytes) → look t k ≡ Some v → P (k, v)
unfolding look
found_all t P h k v e = all-at P (k, v) t.places h (find-in t.places k v e)

base-sound : Sound base
unfolding node_byte property_byte property_name node_name path_parts path_text stem behind_last parent find upd total be32 handles distinct_handles holder_of largest_of look change zero_ended split digits decimal behind value_at fragment_nodes body_entries strings spots numbers_from labels_of cells_of target_of overlay_of listed_from body_handles handle_fault cell_fault check labelled known node_there number_there image_of filled lowest twice again read_symbols planned allowed plan apply ◌>>=◌ run asked for_each distinct notes restore saved_bytes merge_all sum room parts blocker step history answers
base-sound = record {
  rises = (refl, (refl, (refl, (refl, (refl, (tt, tt))))));
  root = refl;
  bare = λ p v h. found_all base (λ e. e.0.1 ≡ None → e.1 ≡ []) ((λ n. refl), ((λ n. refl), ((λ n. absurd (some-none _ n)), ((λ n. refl), ((λ n. refl), ((λ n. absurd (some-none _ n)), tt)))))) (node_at p) v h refl;
  named = found_all base (λ e. named_place e.0 ≡ true) (refl, (refl, (refl, (refl, (refl, (refl, tt))))));
  hangs = found_all base (λ e. look base (up_place e.0) ≡ Some []) (refl, (refl, (refl, (refl, (refl, (refl, tt))))));
  short = found_all base (λ e. short_place e.0 e.1 ≡ true) (refl, (refl, (refl, (refl, (refl, (refl, tt))))));
  roomy = refl;
  boot = lit< tt;
}

worked_fit : AllByRecursion FitCall worked_calls
unfolding node_byte property_byte property_name node_name path_parts path_text stem behind_last parent find upd total be32 handles distinct_handles holder_of largest_of look change zero_ended split digits decimal behind value_at fragment_nodes body_entries strings spots numbers_from labels_of cells_of target_of overlay_of listed_from body_handles handle_fault cell_fault check labelled known node_there number_there image_of filled lowest twice again read_symbols planned allowed plan apply ◌>>=◌ run asked for_each distinct notes restore saved_bytes merge_all sum room parts blocker step history answers
worked_fit = (tt, ((refl, refl), ((refl, refl), (tt, (tt, (tt, (tt, ((refl, refl), tt))))))))

stands_here : Stands refers_ledger (record { place = (codes "/soc/dev", Some (codes "uses")); offset = 0; meant = codes "/soc/bus" })
unfolding node_byte property_byte property_name node_name path_parts path_text stem behind_last parent find upd total be32 handles distinct_handles holder_of largest_of look change zero_ended split digits decimal behind value_at fragment_nodes body_entries strings spots numbers_from labels_of cells_of target_of overlay_of listed_from body_handles handle_fault cell_fault check labelled known node_there number_there image_of filled lowest twice again read_symbols planned allowed plan apply ◌>>=◌ run asked for_each distinct notes restore saved_bytes merge_all sum room parts blocker step history answers
stands_here = record {
  before = [];
  line = line 0 refers 5 base refers_plan;
  later = [];
  lines = refl;
  plan = refers_plan;
  merges = refl;
  refers = inl refl;
  unset = tt;
}

pub premises : Premises
unfolding node_byte property_byte property_name node_name path_parts path_text stem behind_last parent find upd total be32 handles distinct_handles holder_of largest_of look change zero_ended split digits decimal behind value_at fragment_nodes body_entries strings spots numbers_from labels_of cells_of target_of overlay_of listed_from body_handles handle_fault cell_fault check labelled known node_there number_there image_of filled lowest twice again read_symbols planned allowed plan apply ◌>>=◌ run asked for_each distinct notes restore saved_bytes merge_all sum room parts blocker step history answers
premises = record {
  sound = base-sound;
  opens = refl;
  fit = worked_fit;
  open_stack = refl;
  promised = every_history base worked_calls base-sound worked_fit;
  stands = stands_here;
}
