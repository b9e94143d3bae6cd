use Rattle.std.proofs.Common.{◌∙◌, ap, List, ℕ, subst}
use Rattle.std.specs.Prelude.{OnErr}
use Rattle.pv_script.specs.Outside.{GainsPrefix}
use Rattle.pv_script.proofs.GainsLemmas.{at_err}
use Rattle.pv_eval.specs.Machines.{Machine}
use Rattle.pv_exec.proofs.Outside.{rest-part}
use Rattle.pv_exec.proofs.delivering.write_rest.Goals as goal

pub returns-clause-err : goal.returns-clause-err
returns-clause-err g c =
    let left = c.in_ok-write_kept.ensures.ok.left in
    let kept = c.as_slice.ensures.value ∙ c.printed.ensures.value ∙ ap (λ (m : Machine). m.moment.printed) left in
    rest-part c.write_all.result c.in_ok-write_kept.field-0 c.args.machine.now.moment.printed _ _ _ c.in_ok-write_kept.ensures.ok.first
    (subst (λ (xs : List ℕ). OnErr c.write_all.result (GainsPrefix (g.O.Sink.written c.write_kept.new.out) (g.O.Sink.written c.write_all.new.sink) xs)) kept c.write_all.ensures.err)

pub returns-in_err-write_kept-clause-err : goal.returns-in_err-write_kept-clause-err
returns-in_err-write_kept-clause-err g c = at_err c.from_residual.result c.in_err-write_kept.ensures.err.part
