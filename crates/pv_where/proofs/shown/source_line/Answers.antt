use Rattle.std.proofs.Common.{drop, ap, ◌∙◌}
use Rattle.pv_where.proofs.Ending.{line_whole}
use Rattle.pv_where.proofs.shown.source_line.Goals as goal

pub returns : goal.returns
returns c =
    c.behind-2.ensures ∙ ap (drop c.last_begin-begin.result) c.front-2.ensures ∙ line_whole c.args.source.now c.args.place _ _ _ _ c.front.ensures c.behind.ensures c.last_begin-begin.ensures.within c.last_begin-begin.ensures.line c.first_end-end.ensures.line
