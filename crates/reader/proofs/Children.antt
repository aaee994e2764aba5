-- What a child's path weighs and measures. Assumes nothing.
use Rattle.std.proofs.Common.{◌≡◌, true, length, ap, arith}
use Rattle.names.specs.Names.{node_name}
use Rattle.names.specs.Paths.{stem, child, leaf}
use Rattle.names.proofs.NameLaws.{node_names}
use Rattle.names.proofs.PathLaws.{child_leaf, child_longer, stem-other}
use Rattle.tree.specs.Places.{Bytes}

pub leaf-of : (path name : Bytes) → node_name name ≡ true → leaf (child path name) ≡ name
leaf-of path name h = child_leaf path name (node_names name h).0

pub stem-of : (path name : Bytes) → node_name name ≡ true → stem (child path name) ≡ child path name
stem-of path name h =
    let n = node_names name h in
    stem-other (child path name) (λ e. let l = child_longer path name n.1 in let k = ap length e in absurd (omega arith))
