use Rattle.std.proofs.Common.{◌∙◌}
use Rattle.pv_where.proofs.Ending.{head_pieces}
use Rattle.pv_where.proofs.texts.head_line.Goals as goal

pub returns : goal.returns
returns c =
    head_pieces c.args.file.now _ c.args.what.now _ _ _ _ c.args.line c.args.column c.in_ok-text.ensures.items (c.as_bytes.ensures.value ∙ c.in_ok-format.ensures.ok) c.in_ok-extend_from_slice.ensures.items c.in_ok-extend_from_slice-2.ensures.items
    c.in_ok-push.ensures.items
