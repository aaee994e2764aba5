use Rattle.std.proofs.Common.{length, sym, ap, ◌∙◌, arith}
use Rattle.store.specs.Calls.{length_of, named}
use Rattle.walk.proofs.Starts.{first_ok, root_over}
use Rattle.walk.proofs.walk.first_node.Goals as goal

pub returns : goal.returns
returns g c =
    let e = first_ok (g.R.Readable.meaning c.args.tree.now) c.in_ok-boot_cpu.field-0 (length c.args.path.now) (g.R.Readable.good c.args.tree.now) (sym c.boot_cpu.ensures ∙ c.in_ok-boot_cpu.was) (omega arith) in
    record { answer = ap length_of (sym e); buffer = root_over c.args.path.now (omega arith) ∙ ap (λ x. named x c.args.path.now) (sym e) }
