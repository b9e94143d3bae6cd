use Rattle.std.proofs.Common.{refl}
use Rattle.pv_world.specs.Coming.{worth_of}
use Rattle.pv_eval.specs.Operations.{Selects}
use Rattle.pv_eval.specs.Moments.{Came, state_of}
use Rattle.pv_eval.proofs.Chosen.{closing}
use Rattle.pv_eval.proofs.moment.Moment.select.Goals as goal

pub returns-clause-acted : goal.returns-clause-acted
returns-clause-acted c = λ b out es hs hf.
    closing worth_of (λ z. Came z c.close.result (state_of c.close.new.self out es)) b c.args.unit.now
    (Selects c.args.offset (worth_of c.args.v)) (Selects c.args.offset (worth_of c.args.v)) c.args.line c.select-answer.result _ _ _ _ _ _ out es
    c.self.view_is hs hf c.new-told.ensures.items c.deref.ensures.value
    refl
    c.select-answer.ensures.did
    (λ op s f d. c.close.ensures.acted b _ op out es s c.pairs_made-before.ensures f d)
