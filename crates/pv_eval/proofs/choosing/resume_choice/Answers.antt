use Rattle.std.proofs.Common.{ap, ◌∙◌, subst}
use Rattle.std.specs.Prelude.{true, false, Err}
use Rattle.pv_typed.specs.Nodes.{form_in}
use Rattle.pv_eval.specs.Frames.{first_after}
use Rattle.pv_eval.specs.Ahead.{Led}
use Rattle.pv_seq.specs.Rivals.{top}
use Rattle.pv_typed.specs.TypedTree.{type_of}
use Rattle.pv_typed.specs.Tables.{nodes}
use Rattle.pv_typed.specs.NodeTrees.{expression_at}
use Rattle.pv_eval.specs.States.{Gives}
use Rattle.pv_world.specs.Worths.{truth_int}
use Rattle.pv_eval.specs.declared.frames.Stage.TheVariants.{Later}
use Rattle.pv_world.specs.Coming.{worth_of}
use Rattle.pv_eval.specs.Moments.{state_of}
use Rattle.pv_eval.proofs.Cases.{choice-stops, then-gives, frame-is}
use Rattle.pv_eval.proofs.choosing.resume_choice.Goals as goal

pub returns-in-Err-clause-led : goal.returns-in-Err-clause-led
returns-in-Err-clause-led c = λ b out es hs hl call.
    let u = c.args.unit.now in
    let t = type_of (expression_at u c.args.n) in
    subst (λ l. Led b call u (first_after b call t l (form_in u.lists (nodes u) c.args.x) (top c.args.journal.now) (worth_of c.args.v) (state_of c.args.moment.now out es)) (Err c.in-Err.e) c.args.journal.now (state_of c.test.new.self out es)) (c.line_of-line.ensures.expression c.requires.there)
    (choice-stops b call u t c.line_of-line.result c.args.x (top c.args.journal.now) (worth_of c.args.v) _ c.in-Err.e _ _ c.requires.choice (c.in-Err.ensures.tested b out es hs hl))

pub returns-then-chosen-clause-led : goal.returns-then-chosen-clause-led
returns-then-chosen-clause-led c = λ b out es hs hl call.
    rw (c.later.ensures, frame-is b call c.args.unit.now c.args.n c.args.x c.requires.form (Later true), c.sequence_point.ensures, c.in-LogicalAnd.is, ← (c.line_of-line.ensures.expression c.requires.there))
    (then-gives _ _ (truth_int true) _ (c.in-Ok.ensures.tested b out es hs hl ∙ ap (λ t. Gives (truth_int t) (state_of c.test.new.self out es)) c.if-chosen.true))

pub returns-else-chosen-clause-led : goal.returns-else-chosen-clause-led
returns-else-chosen-clause-led c = λ b out es hs hl call.
    rw (c.truth.ensures, c.sequence_point.ensures, c.in-LogicalAnd.is, ← (c.line_of-line.ensures.expression c.requires.there))
    (then-gives _ _ (truth_int false) _ (c.in-Ok.ensures.tested b out es hs hl ∙ ap (λ t. Gives (truth_int t) (state_of c.test.new.self out es)) c.if-chosen.false))

pub returns-then-chosen-2-clause-led : goal.returns-then-chosen-2-clause-led
returns-then-chosen-2-clause-led c = λ b out es hs hl call.
    rw (c.truth-then-chosen-2.ensures, c.sequence_point.ensures, c.in-LogicalOr.is, ← (c.line_of-line.ensures.expression c.requires.there))
    (then-gives _ _ (truth_int true) _ (c.in-Ok.ensures.tested b out es hs hl ∙ ap (λ t. Gives (truth_int t) (state_of c.test.new.self out es)) c.if-chosen-2.true))

pub returns-else-chosen-2-clause-led : goal.returns-else-chosen-2-clause-led
returns-else-chosen-2-clause-led c = λ b out es hs hl call.
    rw (c.later-else-chosen-2.ensures, frame-is b call c.args.unit.now c.args.n c.args.x c.requires.form (Later true), c.sequence_point.ensures, c.in-LogicalOr.is, ← (c.line_of-line.ensures.expression c.requires.there))
    (then-gives _ _ (truth_int false) _ (c.in-Ok.ensures.tested b out es hs hl ∙ ap (λ t. Gives (truth_int t) (state_of c.test.new.self out es)) c.if-chosen-2.false))

pub returns-then-chosen-3-clause-led : goal.returns-then-chosen-3-clause-led
returns-then-chosen-3-clause-led c = λ b out es hs hl call.
    rw (c.later-then-chosen-3.ensures, frame-is b call c.args.unit.now c.args.n c.args.x c.requires.form (Later true), c.sequence_point.ensures, c.in-Conditional.is, ← (c.line_of-line.ensures.expression c.requires.there))
    (then-gives _ _ (truth_int true) _ (c.in-Ok.ensures.tested b out es hs hl ∙ ap (λ t. Gives (truth_int t) (state_of c.test.new.self out es)) c.if-chosen-3.true))

pub returns-else-chosen-3-clause-led : goal.returns-else-chosen-3-clause-led
returns-else-chosen-3-clause-led c = λ b out es hs hl call.
    rw (c.later-else-chosen-3.ensures, frame-is b call c.args.unit.now c.args.n c.args.x c.requires.form (Later false), c.sequence_point.ensures, c.in-Conditional.is, ← (c.line_of-line.ensures.expression c.requires.there))
    (then-gives _ _ (truth_int false) _ (c.in-Ok.ensures.tested b out es hs hl ∙ ap (λ t. Gives (truth_int t) (state_of c.test.new.self out es)) c.if-chosen-3.false))
