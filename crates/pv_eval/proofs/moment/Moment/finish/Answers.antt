use Rattle.std.proofs.Common.{refl, sym, subst, Ok}
use Rattle.pv_world.specs.Coming.{no_worth}
use Rattle.pv_eval.specs.States.{Setting}
use Rattle.pv_eval.specs.Operations.{Op, Ends, act}
use Rattle.pv_eval.specs.Moments.{Moment, Made, state_of}
use Rattle.pv_eval.proofs.Chosen.{closing, did_in}
use Rattle.pv_eval.proofs.Still.{still, ends_still}
use Rattle.pv_eval.specs.Sizes.{setting_of}
use Rattle.pv_eval.proofs.moment.Moment.finish.Goals as goal

pub returns-in-Ok-clause-made : goal.returns-in-Ok-clause-made
returns-in-Ok-clause-made c = λ b out es hs hf line.
    let u = c.args.unit.now in
    let op : Setting → Op = λ b. Ends c.args.o in
    let before = c.lent-told.result.items in
    let many = still (setting_of u) (op (setting_of u)) c.self.inside.world c.finish.new.world before c.finish.new.told.items c.in-Ok.ensures (ends_still (setting_of u) c.args.o c.self.inside.world) in
    subst (λ (m : Moment). Made (act b line (Ends c.args.o) (state_of c.args.self.now out es)) c.close_done-ended.result (state_of m out es)) (sym c.keep.ensures)
    (closing no_worth (λ z. Made z c.close_done-ended.result (state_of c.close_done-ended.new.self out es)) b u
    (op b) (op b) line (Ok tt) _ _ _ _ _ _ out es
    c.self.view_is hs hf c.lent-told.ensures c.deref.ensures.value refl
    (did_in no_worth b u op (Ok tt) c.self.inside.world c.finish.new.world before c.finish.new.told.items hs.unit hs.types refl c.in-Ok.ensures)
    (λ op s f d. c.close_done-ended.ensures.made b _ op out es s many f d line))
