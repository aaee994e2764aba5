use Rattle.std.proofs.Common.{Some, Ok, sym, ap, ◌∙◌}
use Rattle.handles.proofs.Values.{some_length, never-refused, copy_never, present}
use Rattle.handles.proofs.handles.phandle_at.Goals as goal

pub returns-in_err-value_len : goal.returns-in_err-value_len
returns-in_err-value_len g c =
    absurd (never-refused (g.R.Readable.meaning c.args.tree.now) c.args.path.now (g.R.Readable.good c.args.tree.now) c.requires c.in_err-value_len.field-0.0 (sym c.value_len.ensures ∙ c.in_err-value_len.was))

pub returns-in_err-copy_value : goal.returns-in_err-copy_value
returns-in_err-copy_value g c =
    let n = some_length c.in_ok-value_len.field-0 c.if-is_none.ensures in
    absurd (copy_never (g.R.Readable.meaning c.args.tree.now) c.args.path.now (g.R.Readable.good c.args.tree.now) c.requires n.0 c.in_err-copy_value.field-0.0 (sym c.value_len.ensures ∙ c.in_ok-value_len.was ∙ ap Ok n.1) (sym c.copy_value.ensures.answer ∙ c.in_err-copy_value.was))

pub returns : goal.returns
returns g c =
    let n = some_length c.in_ok-value_len.field-0 c.if-is_none.ensures in
    ap Ok (ap Some c.be32_at.ensures ∙ sym (present (g.R.Readable.meaning c.args.tree.now) c.args.path.now (g.R.Readable.good c.args.tree.now) c.requires n.0 c.copy_value.new.out (sym c.value_len.ensures ∙ c.in_ok-value_len.was ∙ ap Ok n.1) c.copy_value.ensures.buffer))
