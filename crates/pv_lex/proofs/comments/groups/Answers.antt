use Rattle.std.proofs.Common.{sym, ap, ◌∙◌}
use Rattle.pv_lex.specs.Markers.{behind_line_feed}
use Rattle.pv_lex.proofs.Closing.{groups_step, groups_stop, drop_run}
use Rattle.pv_lex.proofs.comments.groups.Goals as goal

pub loop-after-preserved : goal.loop-after-preserved
loop-after-preserved c =
    let inv = c.loop-after.invariant in
    let s = groups_step inv.0 c.loop-after.rest.now (c.in-Some.field-0-0.now, c.in-Some.after.now) inv.1 c.in-Some.ensures.shorter (sym c.in-Some.ensures.value) in
    (s.0, s.1, sym s.2 ∙ inv.2)

pub returns : goal.returns
returns c =
    let inv = c.loop-after.invariant in
    c.behind_line_feed.ensures ∙ ap behind_line_feed (c.behind.ensures ∙ drop_run _ _ c.run.result c.run.ensures.value) ∙ sym (groups_stop inv.0 c.loop-after.rest.now (sym c.in_default.ensures.value)) ∙ inv.2
