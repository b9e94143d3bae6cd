use Rattle.std.proofs.Common.{false, ap, sym, ◌∙◌}
use Rattle.pv_seq.specs.Rivals.{top}
use Rattle.pv_typed.specs.TypedTree.{type_of}
use Rattle.pv_typed.specs.NodeTrees.{expression_at}
use Rattle.pv_world.specs.Worths.{pointer_of}
use Rattle.pv_world.specs.Coming.{worth_of}
use Rattle.pv_eval.specs.TypeForms.{lvalue}
use Rattle.pv_eval.specs.Accesses.{access_to}
use Rattle.pv_eval.specs.Sequenced.{operand}
use Rattle.pv_eval.specs.Evaluation.{ev}
use Rattle.pv_eval.specs.Frames.{frame_after}
use Rattle.pv_eval.specs.Moments.{state_of}
use Rattle.pv_eval.specs.declared.frames.ReadPlace.{ReadPlace}
use Rattle.pv_eval.specs.declared.frames.Stage.TheVariants.{Both}
use Rattle.pv_eval.proofs.Cases.{came-stops}
use Rattle.pv_eval.proofs.Accessing.{read-operand}
use Rattle.pv_eval.proofs.compound.read_place.Goals as goal

pub returns-clause-led : goal.returns-clause-led
returns-clause-led c = λ b out es hs hl call.
    let u = c.args.unit.now in
    (read-operand b u c.args.moment.now (λ b. access_to (lvalue b (type_of (expression_at u c.args.a))) (pointer_of (worth_of c.args.place)) false) _ c.args.journal.now c.read.new.journal _ hs call c.args.n c.args.d c.args.x c.args.line c.args.place c.in-Ok.value c.requires.form c.requires.line (c.in-Ok.ensures.acted b out es hs hl) c.in-Ok.ensures.noted)
    ∙ ap (λ (r : ReadPlace). operand (ev b call (expression_at u c.args.d)) (top c.read.new.journal) (state_of c.read.new.self out es) (frame_after b call u (record { node = c.args.n; stage = Both r }))) (sym c.in-Ok-new.ensures.value)

pub returns-in-Err-clause-led : goal.returns-in-Err-clause-led
returns-in-Err-clause-led c = λ b out es hs hl call. (came-stops b call c.args.unit.now _ _ c.in-Err.e c.read.new.journal _ (c.in-Err.ensures.acted b out es hs hl))
