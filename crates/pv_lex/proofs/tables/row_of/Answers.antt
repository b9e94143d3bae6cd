use Rattle.std.proofs.Common.{sym, ◌∙◌}
use Rattle.pv_lex.proofs.Rows.{row_step, row_found}
use Rattle.pv_lex.proofs.tables.row_of.Goals as goal

pub returns-then-eq : goal.returns-then-eq
returns-then-eq g c = sym (row_found (λ r. (r.text.now, r.value)) c.args.rows.now c.args.text.now c.loop-i.i c.index-rows-i.result c.loop-i-test.true c.index-rows-i.is (sym c.eq.ensures ∙ c.if-eq.true) c.loop-i.invariant)

pub loop-i-preserved : goal.loop-i-preserved
loop-i-preserved g c = row_step (λ r. (r.text.now, r.value)) c.args.rows.now c.args.text.now c.loop-i.i c.index-rows-i.result c.loop-i-test.true c.index-rows-i.is (sym c.eq.ensures ∙ c.if-eq.false) c.loop-i.invariant
