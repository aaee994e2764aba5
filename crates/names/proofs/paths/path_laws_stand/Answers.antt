use Rattle.names.proofs.NameLaws.{node_names, property_names}
use Rattle.names.proofs.Orders.{name_order_lem, path_order_lem, child_after, longer_after, front_shared, siblings, siblings_below}
use Rattle.names.proofs.PathLaws.{root_ends, path_starts, child_leaf, child_parent, child_only, child_text, path_splits, child_length, child_longer, under_nothing, under_child, under_text, under_only, under_length}
use Rattle.names.proofs.paths.path_laws_stand.Goals as goal

pub returns : goal.returns
returns c =
    record {
      node_names = node_names;
      property_names = property_names;
      root_ends = root_ends;
      path_starts = path_starts;
      child_leaf = child_leaf;
      child_parent = child_parent;
      child_only = child_only;
      child_text = child_text;
      path_splits = path_splits;
      child_length = child_length;
      child_longer = child_longer;
      under_nothing = under_nothing;
      under_child = under_child;
      under_text = under_text;
      under_only = under_only;
      under_length = under_length;
      name_order_lem = name_order_lem;
      path_order_lem = path_order_lem;
      child_after = child_after;
      longer_after = longer_after;
      front_shared = front_shared;
      siblings = siblings;
      siblings_below = siblings_below;
    }
