use Rattle.std.proofs.Common.{sym, ◌∙◌, arith}
use Rattle.pv_lex.proofs.Closing.{name_end, name_feed, name_close, name_next}
use Rattle.pv_lex.proofs.comments.behind_name.Goals as goal

pub returns-then-b-eq10 : goal.returns-then-b-eq10
returns-then-b-eq10 c = sym (c.loop-rest.invariant ∙ name_feed c.loop-rest.taken c.loop-rest.rest.now (omega arith) c.if-b-eq10.true)

pub returns-then-closes_name : goal.returns-then-closes_name
returns-then-closes_name c = rw c.behind.ensures (sym (c.loop-rest.invariant ∙ name_close c.loop-rest.taken c.loop-rest.rest.now (omega arith) (sym c.closes_name.ensures ∙ c.if-closes_name.true)))

pub loop-rest-preserved : goal.loop-rest-preserved
loop-rest-preserved c = rw (c.behind-rest.ensures, c.takes_next-taken.ensures) (c.loop-rest.invariant ∙ name_next c.loop-rest.taken c.loop-rest.rest.now (omega arith) c.if-b-eq10.false (sym c.closes_name.ensures ∙ c.if-closes_name.false))

pub returns : goal.returns
returns c = sym (c.loop-rest.invariant ∙ name_end c.loop-rest.taken c.loop-rest.rest.now (omega arith))
