use Rattle.std.proofs.Common.{refl, Ok}
use Rattle.pv_types.specs.Known.{tree}
use Rattle.pv_world.specs.Coming.{worth_of, no_worth}
use Rattle.pv_eval.specs.TypeForms.{lvalue}
use Rattle.pv_eval.specs.States.{Setting}
use Rattle.pv_eval.specs.Operations.{Op, Puts}
use Rattle.pv_eval.specs.Moments.{Made, state_of}
use Rattle.pv_eval.proofs.Chosen.{closing, did_in}
use Rattle.pv_eval.proofs.Still.{still, puts_still}
use Rattle.pv_eval.specs.Sizes.{setting_of}
use Rattle.pv_eval.proofs.moment.Moment.put.Goals as goal

pub returns-clause-made : goal.returns-clause-made
returns-clause-made c = λ b out es hs hf line.
    let u = c.args.unit.now in
    let op : Setting → Op = λ b. Puts c.args.o c.args.offset (lvalue b (tree c.args.unit.now.known c.args.t.0)) (worth_of c.args.v.now) in
    let before = c.new-told.result.items in
    let many = still (setting_of u) (op (setting_of u)) c.self.inside.world c.put.new.world before before (c.put.ensures before) (puts_still (setting_of u) c.args.o c.args.offset (lvalue (setting_of u) (tree u.known c.args.t.0)) (worth_of c.args.v.now) c.self.inside.world) in
    closing no_worth (λ z. Made z c.close_done.result (state_of c.close_done.new.self out es)) b u
    (op b) (op b) line (Ok tt) _ _ _ _ _ _ out es
    c.self.view_is hs hf c.new-told.ensures.items c.deref.ensures.value refl
    (did_in no_worth b u op (Ok tt) c.self.inside.world c.put.new.world before before hs.unit hs.types refl (c.put.ensures before))
    (λ op s f d. c.close_done.ensures.made b _ op out es s many f d line)
