use Rattle.std.proofs.Common.{refl}
use Rattle.pv_world.specs.Coming.{no_worth}
use Rattle.pv_eval.specs.States.{Setting}
use Rattle.pv_eval.specs.Operations.{Op, MakesFunction}
use Rattle.pv_eval.specs.Moments.{Made, state_of}
use Rattle.pv_eval.proofs.Chosen.{closing, did_in}
use Rattle.pv_eval.proofs.moment.Moment.make_function.Goals as goal

pub returns-clause-made : goal.returns-clause-made
returns-clause-made c = λ b out es hs hf.
    let u = c.args.unit.now in
    let op : Setting → Op = λ b. MakesFunction c.args.f in
    let before = c.new-told.result.items in
    closing no_worth (λ z. Made z c.close_made.result (state_of c.close_made.new.self out es)) b u
    (op b) (op b) c.args.line c.make_function-answer.result _ _ _ _ _ _ out es
    c.self.view_is hs hf c.new-told.ensures.items c.deref.ensures.value refl
    (did_in no_worth b u op c.make_function-answer.result c.self.inside.world c.make_function-answer.new.world before c.make_function-answer.new.told.items hs.unit hs.types refl c.make_function-answer.ensures)
    (λ op s f d. c.close_made.ensures.made b _ op out es s c.pairs_made-before.ensures f d)
