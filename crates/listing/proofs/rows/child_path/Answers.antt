use Rattle.std.proofs.Common.{◌++◌, take, ap, ◌∙◌}
use Rattle.tree.specs.Places.{Bytes}
use Rattle.listing.proofs.Collecting.{child_built}
use Rattle.listing.proofs.rows.child_path.Goals as goal

pub returns : goal.returns
returns c =
    child_built c.args.parent.now c.args.name.now _ _ _ (c.in_ok-extend_from_slice.ensures.items ∙ ap (λ (l : Bytes). l ++ take c.stem_len.result c.args.parent.now) c.new-path.ensures.items ∙ c.stem_len.ensures.front) c.in_ok-push.ensures.items c.in_ok-extend_from_slice-2.ensures.items
