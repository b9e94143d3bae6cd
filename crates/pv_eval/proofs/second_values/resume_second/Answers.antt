use Rattle.std.proofs.Common.{subst}
use Rattle.pv_seq.specs.Rivals.{top}
use Rattle.pv_typed.specs.TypedTree.{type_of, line_of}
use Rattle.pv_typed.specs.Tables.{nodes}
use Rattle.pv_typed.specs.NodeTrees.{expression_at}
use Rattle.pv_eval.specs.TypeForms.{element_size}
use Rattle.pv_eval.specs.Operations.{Subtracts, Moves}
use Rattle.std.specs.Prelude.{false}
use Rattle.pv_eval.specs.OfRuns.{work}
use Rattle.pv_world.specs.Coming.{worth_of}
use Rattle.pv_eval.specs.Moments.{state_of}
use Rattle.pv_eval.specs.Ahead.{Led, move_of}
use Rattle.pv_eval.proofs.Cases.{came-given}
use Rattle.pv_eval.proofs.Given.{second-alone}
use Rattle.pv_eval.proofs.second_values.resume_second.Goals as goal

pub returns-in-Arithmetic-clause-led : goal.returns-in-Arithmetic-clause-led
returns-in-Arithmetic-clause-led c = λ b out es hs hl call. rw (c.in-Arithmetic.is, ← (c.line_of-line.ensures.expression c.requires.there)) (c.arithmetic.ensures.led b out es hs hl call c.args.journal.now)

pub returns-in-Assign-clause-led : goal.returns-in-Assign-clause-led
returns-in-Assign-clause-led c = λ b out es hs hl call. rw (c.in-Assign.is, ← (c.line_of-line.ensures.expression c.requires.there)) (c.assign.ensures.led b out es hs hl call)

pub returns-in-PointerDifference-clause-led : goal.returns-in-PointerDifference-clause-led
returns-in-PointerDifference-clause-led c = λ b out es hs hl call.
    let u = c.args.unit.now in
    rw (c.in-PointerDifference.is, c.give.ensures, ← (c.line_of-line.ensures.expression c.requires.there))
    (subst (λ t. Led b call u (work b c.line_of-line.result (Subtracts (element_size b t) (worth_of c.args.v) (worth_of c.args.w)) (top c.args.journal.now) (state_of c.args.moment.now out es)) (move_of c.subtract.result) c.args.journal.now (state_of c.subtract.new.self out es)) c.type_of.ensures.tree
    (came-given b call u c.subtract.result _ c.args.journal.now _ (c.subtract.ensures.acted b out es hs hl)))

pub returns-in-PointerOrder-clause-led : goal.returns-in-PointerOrder-clause-led
returns-in-PointerOrder-clause-led c = λ b out es hs hl call. rw (c.in-PointerOrder.is, c.give-in-PointerOrder.ensures, ← (c.line_of-line.ensures.expression c.requires.there)) (came-given b call c.args.unit.now c.order.result _ c.args.journal.now _ (c.order.ensures.acted b out es hs hl))

pub returns-in-PointerSum-clause-led : goal.returns-in-PointerSum-clause-led
returns-in-PointerSum-clause-led c = λ b out es hs hl call. rw (c.in-PointerSum.is, c.give-in-PointerSum.ensures, ← (c.line_of-line.ensures.expression c.requires.there), ← c.type_of-in-PointerSum.ensures.tree, ← c.is_pointer-first-in-PointerSum.ensures, ← c.minus.ensures) (came-given b call c.args.unit.now c.shift-in-PointerSum.result _ c.args.journal.now _ (c.shift-in-PointerSum.ensures.acted b out es hs hl))

pub returns-in-Subscript-clause-led : goal.returns-in-Subscript-clause-led
returns-in-Subscript-clause-led c = λ b out es hs hl call.
    let u = c.args.unit.now in
    rw (c.in-Subscript.is, c.give-in-Subscript.ensures, ← (c.line_of-line.ensures.expression c.requires.there), ← c.is_pointer-first.ensures)
    (subst (λ t. Led b call u (work b c.line_of-line.result (Moves false c.is_pointer-first.result (element_size b t) (worth_of c.args.v) (worth_of c.args.w)) (top c.args.journal.now) (state_of c.args.moment.now out es)) (move_of c.shift.result) c.args.journal.now (state_of c.shift.new.self out es)) c.pointer_type-t.ensures.tree
    (came-given b call u c.shift.result _ c.args.journal.now _ (c.shift.ensures.acted b out es hs hl)))

pub returns-in-PointerEquality-clause-led : goal.returns-in-PointerEquality-clause-led
returns-in-PointerEquality-clause-led c = λ b out es hs hl call. rw (c.in-PointerEquality.is, ← (c.line_of-line.ensures.expression c.requires.there)) (c.equality.ensures.led b out es hs hl call c.args.journal.now)

pub returns-in_default-clause-led : goal.returns-in_default-clause-led
returns-in_default-clause-led c = λ b out es hs hl call.
    let u = c.args.unit.now in
    let x = expression_at u c.args.n in
    second-alone b call (type_of x) (line_of x) u.lists (nodes u) (worth_of c.args.v) (worth_of c.args.w) (top c.args.journal.now) (state_of c.args.moment.now out es) c.args.x
    (record {
      not-Subscript = c.in_default.not-Subscript;
      not-Arithmetic = c.in_default.not-Arithmetic;
      not-PointerSum = c.in_default.not-PointerSum;
      not-PointerDifference = c.in_default.not-PointerDifference;
      not-PointerOrder = c.in_default.not-PointerOrder;
      not-PointerEquality = c.in_default.not-PointerEquality;
      not-Assign = c.in_default.not-Assign;
    })
