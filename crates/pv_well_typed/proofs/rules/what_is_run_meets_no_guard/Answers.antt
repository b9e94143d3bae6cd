use Rattle.pv_well_typed.proofs.CheckedSources.{run-ruled, run-comes, run-status}
use Rattle.pv_well_typed.proofs.rules.what_is_run_meets_no_guard.Goals as goal

pub returns : goal.returns
returns c = record {
  same = λ source script bytes job bound zap sides run runs. run-ruled source script bytes job bound zap sides run runs;
  ruled = λ source script bytes job bound zap sides run runs s e. run-comes source script bytes job bound zap sides run runs s e;
  status = λ source script bytes job bound zap sides run runs v s e. run-status source script bytes job bound zap sides run runs v s e;
}
