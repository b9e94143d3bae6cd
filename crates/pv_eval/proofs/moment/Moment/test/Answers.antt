use Rattle.std.proofs.Common.{refl}
use Rattle.pv_world.specs.Worths.{truth_int}
use Rattle.pv_world.specs.Coming.{worth_of}
use Rattle.pv_eval.specs.Operations.{Tests}
use Rattle.pv_eval.specs.Moments.{Tested, state_of}
use Rattle.pv_eval.proofs.Chosen.{closing}
use Rattle.pv_eval.proofs.moment.Moment.test.Goals as goal

pub returns-clause-tested : goal.returns-clause-tested
returns-clause-tested c = λ b out es hs hf.
    closing truth_int (λ z. Tested z c.close_test.result (state_of c.close_test.new.self out es)) b c.args.unit.now
    (Tests (worth_of c.args.v)) (Tests (worth_of c.args.v)) c.args.line c.test-answer.result _ _ _ _ _ _ out es
    c.self.view_is hs hf c.new-told.ensures.items c.deref.ensures.value
    refl
    (c.test-answer.ensures.did truth_int)
    (λ op s f d. c.close_test.ensures.tested b _ op out es s c.pairs_made-before.ensures f d)
