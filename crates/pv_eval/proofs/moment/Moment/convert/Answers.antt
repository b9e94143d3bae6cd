use Rattle.std.proofs.Common.{ap, ◌∙◌}
use Rattle.pv_types.specs.Known.{tree}
use Rattle.pv_world.specs.Coming.{worth_of}
use Rattle.pv_eval.specs.Conversions.{how_to}
use Rattle.pv_eval.specs.Operations.{Converts}
use Rattle.pv_eval.specs.Moments.{Came, state_of}
use Rattle.pv_eval.proofs.Chosen.{closing}
use Rattle.pv_eval.proofs.Settings.{how_is}
use Rattle.pv_eval.proofs.moment.Moment.convert.Goals as goal

pub returns-clause-acted : goal.returns-clause-acted
returns-clause-acted c = λ b out es hs hf.
    let u = c.args.unit.now in
    let v = worth_of c.args.v in
    closing worth_of (λ z. Came z c.close.result (state_of c.close.new.self out es)) b u
    (Converts (how_to b c.args.implied (tree u.known c.args.from.0) (tree u.known c.args.to.0)) v) (Converts c.how-how.result v) c.args.line c.convert-answer.result _ _ _ _ _ _ out es
    c.self.view_is hs hf c.new-told.ensures.items c.deref.ensures.value
    (ap (λ h. Converts h v) (c.how-how.ensures.how ∙ how_is b u c.types.result.now hs.unit c.types.ensures c.args.implied c.args.from.0 c.args.to.0))
    c.convert-answer.ensures.did
    (λ op s f d. c.close.ensures.acted b _ op out es s c.pairs_made-before.ensures f d)
