use Rattle.std.proofs.Common.{sym, ◌∙◌, arith}
use Rattle.pv_lex.proofs.Runs.{run_step, run_stop, run_end}
use Rattle.pv_lex.proofs.bytes.run.Goals as goal

pub loop-n-preserved : goal.loop-n-preserved
loop-n-preserved c = record {
  within = omega arith;
  far = run_step _ _ _ (omega arith) (sym c.is_in.ensures ∙ c.if-is_in.true) c.loop-n.invariant.far;
}

pub returns-else-is_in-clause-value : goal.returns-else-is_in-clause-value
returns-else-is_in-clause-value c = run_stop _ _ _ (omega arith) (sym c.is_in.ensures ∙ c.if-is_in.false) c.loop-n.invariant.far

pub returns-after-loop-n-clause-value : goal.returns-after-loop-n-clause-value
returns-after-loop-n-clause-value c = run_end _ _ _ (omega arith) c.loop-n.invariant.far
