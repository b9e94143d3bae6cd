use Rattle.std.proofs.Common.{◌+◌, ◌≤◌, nat_eq, get_or, length-drop, sym, ap, ◌∙◌, arith}
use Rattle.pv_lex.specs.Pieces.{or_bad}
use Rattle.pv_lex.proofs.Closing.{close_here, close_next, close_none, feeds_next, comment_is, comment_none, at_most_one}
use Rattle.pv_lex.proofs.comments.block_comment.Goals as goal

pub returns-then-starts_with : goal.returns-then-starts_with
returns-then-starts_with c =
    let here = close_here c.loop-rest.rest.now (sym c.starts_with.ensures.value ∙ c.if-starts_with.true) in
    rw c.behind.ensures (ap or_bad (comment_is c.args.text.now _ _ (c.loop-rest.invariant.closes ∙ here.0) (ap (λ n. c.loop-rest.lines + n) (sym here.1) ∙ c.loop-rest.invariant.feeds)))

pub loop-rest-preserved : goal.loop-rest-preserved
loop-rest-preserved c =
    let next = close_next c.loop-rest.rest.now (omega arith) (sym c.starts_with.ensures.value ∙ c.if-starts_with.false) in
    let feeds = feeds_next c.loop-rest.rest.now (omega arith) in
    let one : c.line_feed-lines.result ≤ 1 = at_most_one (nat_eq (get_or c.loop-rest.rest.now 0 0) 10) c.line_feed-lines.result c.line_feed-lines.ensures in
    rw c.behind-rest.ensures (record {
      closes = c.loop-rest.invariant.closes ∙ next;
      feeds = omega (arith, feeds, c.line_feed-lines.ensures, c.loop-rest.invariant.feeds);
      room = omega (arith, one, length-drop 1 c.loop-rest.rest.now);
    })

pub returns : goal.returns
returns c = ap or_bad (comment_none _ (c.loop-rest.invariant.closes ∙ close_none _ (omega arith)))
