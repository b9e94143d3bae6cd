use Rattle.std.proofs.Common.{ℕ, List, ap, refl}
use Rattle.std.specs.Prelude.{Some}
use Rattle.pv_suite.proofs.CaseLemmas.{comes_by}
use Rattle.pv_suite.proofs.running.run_source.Goals as goal

pub returns : goal.returns
returns c =
    comes_by c.args.source.now c.args.script.now c.args.bound _ _ c.in-Ok.judgement _ _ _ (ap (λ (bytes : List ℕ). Some bytes) c.in_ok-output.ensures.empty) refl c.in-Ok.ensures.judged
    c.in_ok-line.ensures c.clause_of.ensures
