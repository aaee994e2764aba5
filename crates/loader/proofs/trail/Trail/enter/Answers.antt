use Rattle.std.proofs.Common.{◌≡◌, ◌+◌, ◌-◌, ◌∷◌, ◌++◌, leb, length, take, set, sym, ap, ◌∙◌, arith}
use borrow.Rule.Slice.PartMut.{put_mid}
use Rattle.std.proofs.lemmas.Bool.{cond-true, le-leb}
use Rattle.std.proofs.lemmas.List.{take-take, length-take-le}
use Rattle.names.specs.Paths.{child, stem}
use Rattle.names.proofs.PathLaws.{child_length}
use Rattle.loader.specs.Trails.{path_on}
use Rattle.loader.proofs.Buffers.{marked, took}
use Rattle.loader.proofs.trail.Trail.enter.Goals as goal

pub returns-clause-path : goal.returns-clause-path
returns-clause-path c =
    let xs = c.args.self.now.bytes in
    let name = c.args.name.now in
    let from = c.stem_len-from.result in
    let p = path_on c.args.self.now in
    let k = c.stem_len-from.ensures.value ∙ ap (λ q. length (stem q)) c.path.ensures in
    let within = c.stem_len-from.ensures.within in
    let whole = ap length c.path.ensures ∙ length-take-le c.args.self.now.len xs c.args.self.now.held in
    let l = child_length p name in
    let t = le-leb (length (child p name)) 255 (omega arith) in
    let front : take from xs ≡ stem p = sym (take-take from c.args.self.now.len xs (omega arith)) ∙ ap (take from) (sym c.path.ensures) ∙ c.stem_len-from.ensures.front ∙ ap stem c.path.ensures in
    let is = ap (λ ys. put_mid (from + 1) (from + 1 + length name - (from + 1)) (set xs from 47) ys) c.copy_from_slice.ensures.after ∙ marked xs from 47 (from + 1 + length name - (from + 1)) name (omega arith) (omega arith) in
    ap (take (from + 1 + length name)) is ∙ took xs name _ from 47 (omega arith) ∙ ap (λ z. z ++ (47 ∷ name)) front ∙ sym (cond-true (leb (length (child p name)) 255) _ _ t)
