use Rattle.std.proofs.Common.{length, sym, ap, ◌∙◌}
use Rattle.std.specs.Option.{option_map}
use Rattle.pv_lex.proofs.Rows.{first_step, first_found}
use Rattle.pv_lex.proofs.tables.first_row.Goals as goal

pub returns-then-begins-clause-row : goal.returns-then-begins-clause-row
returns-then-begins-clause-row g c = sym (ap (option_map (λ r. (length r.0, r.1))) (first_found (λ r. (r.text.now, r.value)) c.args.rows.now c.args.text.now c.loop-i.i c.index-rows-i.result c.loop-i-test.true c.index-rows-i.is (sym c.begins.ensures ∙ c.if-begins.true) c.loop-i.invariant))

pub loop-i-preserved : goal.loop-i-preserved
loop-i-preserved g c = first_step (λ r. (r.text.now, r.value)) c.args.rows.now c.args.text.now c.loop-i.i c.index-rows-i.result c.loop-i-test.true c.index-rows-i.is (sym c.begins.ensures ∙ c.if-begins.false) c.loop-i.invariant
