use Rattle.std.proofs.Common.{refl}
use Rattle.pv_types.specs.Known.{tree}
use Rattle.pv_world.specs.Coming.{worth_of}
use Rattle.pv_eval.specs.States.{Setting}
use Rattle.pv_eval.specs.TypeForms.{pointed_to}
use Rattle.pv_eval.specs.Operations.{Op, Finds}
use Rattle.pv_eval.specs.Moments.{Called, by_number, state_of}
use Rattle.pv_eval.proofs.Chosen.{closing, did_in}
use Rattle.pv_eval.proofs.moment.Moment.find.Goals as goal

pub returns-clause-found : goal.returns-clause-found
returns-clause-found c = λ b out es hs hf.
    let u = c.args.unit.now in
    let op : Setting → Op = λ b. Finds (pointed_to (tree u.known c.args.t.0)) (worth_of c.args.v.now) in
    let before = c.new-told.result.items in
    closing by_number (λ z. Called z c.close_called.result (state_of c.close_called.new.self out es)) b u
    (op b) (op b) c.args.line c.find-answer.result _ _ _ _ _ _ out es
    c.self.view_is hs hf c.new-told.ensures.items c.deref.ensures.value refl
    (did_in by_number b u op c.find-answer.result c.self.inside.world c.find-answer.new.world before c.find-answer.new.told.items hs.unit hs.types refl c.find-answer.ensures.did)
    (λ op s f d. c.close_called.ensures.called b _ op out es s c.pairs_made-before.ensures f d)
