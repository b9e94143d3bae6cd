use Rattle.std.proofs.Common.{sym, ◌∙◌, arith}
use Rattle.pv_where.proofs.Ending.{quote_end, quote_here, quote_next}
use Rattle.pv_where.proofs.spots.behind_quote.Goals as goal

pub returns-then-rest-eq34 : goal.returns-then-rest-eq34
returns-then-rest-eq34 c = c.behind.ensures ∙ sym (c.loop-rest.invariant ∙ quote_here c.loop-rest.rest.now (omega arith) c.if-rest-eq34.true)

pub loop-rest-preserved : goal.loop-rest-preserved
loop-rest-preserved c = rw c.behind-rest.ensures (c.loop-rest.invariant ∙ quote_next c.loop-rest.rest.now (omega arith) c.if-rest-eq34.false)

pub returns : goal.returns
returns c = quote_end c.loop-rest.rest.now (omega arith) ∙ sym c.loop-rest.invariant
