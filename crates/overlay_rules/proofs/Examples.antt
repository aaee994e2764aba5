-- The worked examples, each computed. Assumes nothing.
use Rattle.std.proofs.Common.{refl}
use Rattle.names.specs.Names.{node_byte, property_byte, property_name, node_name}
use Rattle.names.specs.Paths.{parts, path_text, stem, behind_last, parent}
use Rattle.tree.specs.Entries.{listed_from}
use Rattle.tree.specs.Numbers.{be32}
use Rattle.overlay_rules.specs.Texts.{zero_ended, split, digits, decimal, behind}
use Rattle.overlay_rules.specs.Overlays.{value_at, fragment_nodes, body_entries, strings, spots, numbers_from, labels_of, cells_of, target_of, overlay_of}
use Rattle.overlay_rules.specs.Checks.{body_handles, handle_fault, cell_fault, check}
use Rattle.overlay_rules.specs.Plans.{labelled, known, node_there, number_there, image_of, filled, lowest, twice, again, read_symbols, planned, allowed, plan, apply}
use Rattle.overlay_rules.specs.Queries.{◌>>=◌, run, asked, for_each}
use Rattle.overlay_rules.specs.PlanExamples.{PlanExamples}
use Rattle.tree.specs.Maps.{find, upd, total}
use Rattle.tree.specs.Trees.{look, change}
use Rattle.tree.specs.Phandles.{handles, holder_of, largest_of}
use Rattle.overlay_rules.specs.CheckExamples.{CheckExamples}

pub check_examples : CheckExamples
unfolding node_byte property_byte property_name node_name parts path_text stem behind_last parent be32 zero_ended split digits decimal behind value_at fragment_nodes body_entries strings spots numbers_from labels_of cells_of target_of overlay_of listed_from body_handles handle_fault cell_fault check
check_examples = record {
  listed = refl;
  passes = refl;
  zero_handle = refl;
  short_handle = refl;
  twin_handle = refl;
  empty = refl;
  special = refl;
  thirty_two = refl;
  thirty_three = refl;
  no_target = refl;
  one_target = refl;
  both_targets = refl;
  short_target = refl;
  no_path = refl;
  at_four = refl;
  at_five = refl;
  zeros = refl;
  colons = refl;
  absent = refl;
  phandle_label = refl;
  local = refl;
  foreign = refl;
  past = refl;
  odd = refl;
  twice = refl;
  side_by_side = refl;
  shared = refl;
  shared_lower = refl;
  no_body = refl;
  names_body = refl;
  names_fragment = refl;
  no_zero = refl;
  bad_label = refl;
}

pub plan_examples : PlanExamples
unfolding node_byte property_byte property_name node_name parts path_text stem behind_last parent be32 zero_ended split digits decimal behind value_at fragment_nodes body_entries strings spots numbers_from labels_of cells_of target_of overlay_of listed_from body_handles handle_fault cell_fault check labelled known node_there number_there image_of filled lowest twice again read_symbols planned allowed plan apply ◌>>=◌ run asked for_each find upd total look change handles holder_of largest_of
plan_examples = record {
  checks = refl;
  cells = refl;
  no_label = refl;
  no_node = refl;
  no_number = refl;
  last = refl;
  twice = refl;
  symbol_there = refl;
  handle_there = refl;
  too_long = refl;
}
