use Rattle.std.proofs.Common.{ap}
use Rattle.pv_types.specs.Known.{tree}
use Rattle.pv_world.specs.Coming.{worth_of}
use Rattle.pv_eval.specs.TypeForms.{element_size}
use Rattle.pv_eval.specs.Sizes.{element_in}
use Rattle.pv_eval.specs.Operations.{Subtracts}
use Rattle.pv_eval.specs.Moments.{Came, state_of}
use Rattle.pv_eval.proofs.Chosen.{closing}
use Rattle.pv_eval.proofs.Settings.{element_is}
use Rattle.pv_eval.proofs.moment.Moment.subtract.Goals as goal

pub returns-clause-acted : goal.returns-clause-acted
returns-clause-acted c = λ b out es hs hf.
    closing worth_of (λ z. Came z c.close.result (state_of c.close.new.self out es)) b c.args.unit.now
    (Subtracts (element_size b (tree c.args.unit.now.known c.args.t.0)) (worth_of c.args.v) (worth_of c.args.w)) (Subtracts (element_in c.types-types.result.now (tree c.types-types.result.now c.args.t.0)) (worth_of c.args.v) (worth_of c.args.w)) c.args.line c.subtract_by-answer.result _ _ _ _ _ _ out es
    c.self.view_is hs hf c.new-told.ensures.items c.deref.ensures.value
    (ap (λ n. Subtracts n (worth_of c.args.v) (worth_of c.args.w)) (element_is b c.args.unit.now c.types-types.result.now hs.unit c.types-types.ensures c.args.t.0))
    (c.subtract_by-answer.ensures b)
    (λ op s f d. c.close.ensures.acted b _ op out es s c.pairs_made-before.ensures f d)
