use Rattle.std.proofs.Common.{refl, sym, subst}
use Rattle.pv_world.specs.Coming.{no_worth}
use Rattle.pv_eval.specs.States.{Setting}
use Rattle.pv_eval.specs.Operations.{Op, Makes, act}
use Rattle.pv_eval.specs.Moments.{Moment, Made, state_of}
use Rattle.pv_eval.proofs.Chosen.{closing, did_in}
use Rattle.pv_eval.proofs.moment.Moment.make.Goals as goal

pub returns-clause-made : goal.returns-clause-made
returns-clause-made c = λ b out es hs hf.
    let u = c.args.unit.now in
    let op : Setting → Op = λ b. Makes c.args.o in
    let before = c.lent-told.result.items in
    subst (λ (m : Moment). Made (act b c.args.line (Makes c.args.o) (state_of c.args.self.now out es)) c.close_made-made.result (state_of m out es)) (sym c.keep.ensures)
    (closing no_worth (λ z. Made z c.close_made-made.result (state_of c.close_made-made.new.self out es)) b u
    (op b) (op b) c.args.line c.make-answer.result _ _ _ _ _ _ out es
    c.self.view_is hs hf c.lent-told.ensures c.deref.ensures.value refl
    (did_in no_worth b u op c.make-answer.result c.self.inside.world c.make-answer.new.world before c.make-answer.new.told.items hs.unit hs.types refl c.make-answer.ensures)
    (λ op s f d. c.close_made-made.ensures.made b _ op out es s c.pairs_made-before.ensures f d))
