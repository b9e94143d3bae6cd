use Rattle.std.proofs.Common.{sym, ◌∙◌, subst}
use Rattle.std.specs.Prelude.{pos, true}
use Rattle.pv_types.specs.Known.{tree}
use Rattle.pv_typed.specs.TypedTree.{type_of}
use Rattle.pv_typed.specs.NodeTrees.{expression_at}
use Rattle.pv_world.specs.Coming.{worth_of}
use Rattle.pv_world.specs.Worths.{int}
use Rattle.pv_eval.specs.TypeForms.{kind_of, element_size}
use Rattle.pv_num.specs.Kinds.{promotion_of}
use Rattle.pv_eval.specs.Operations.{Moves, act}
use Rattle.pv_eval.specs.OfRuns.{combining}
use Rattle.pv_eval.specs.Moments.{Came, state_of}
use Rattle.pv_eval.proofs.Stepping.{step-pointer, step-integer}
use Rattle.pv_eval.proofs.compound.step_value.Goals as goal

pub returns-then-is_pointer-clause-came : goal.returns-then-is_pointer-clause-came
returns-then-is_pointer-clause-came c = λ b out es hs hl.
    let u = c.args.unit.now in
    let t = type_of (expression_at u c.args.n) in
    let s = state_of c.args.moment.now out es in
    let s1 = state_of c.shift.new.self out es in
    let v = worth_of c.args.v in
    subst (λ r. Came r c.shift.result s1) (sym (step-pointer b c.args.line t c.args.o v s (sym c.is_pointer.ensures ∙ c.if-is_pointer.true)))
    (subst (λ q. Came (act b c.args.line (Moves q true (element_size b t) v (int (pos 1))) s) c.shift.result s1) c.down.ensures
    (subst (λ t. Came (act b c.args.line (Moves c.down.result true (element_size b t) v (int (pos 1))) s) c.shift.result s1) c.type_of-t.ensures.tree
    (subst (λ w. Came (act b c.args.line (Moves c.down.result true (element_size b (tree u.known c.type_of-t.result.0)) v w) s) c.shift.result s1) c.integer-one.ensures
    (c.shift.ensures.acted b out es hs hl))))

pub returns-else-is_pointer-clause-came : goal.returns-else-is_pointer-clause-came
returns-else-is_pointer-clause-came c = λ b out es hs hl.
    let u = c.args.unit.now in
    let t = type_of (expression_at u c.args.n) in
    let s = state_of c.args.moment.now out es in
    let s1 = state_of c.combine.new.moment out es in
    let v = worth_of c.args.v in
    subst (λ r. Came r c.combine.result s1) (sym (step-integer b c.args.line t c.args.o v s (sym c.is_pointer.ensures ∙ c.if-is_pointer.false)))
    (subst (λ x. Came (combining b c.args.line x (promotion_of (kind_of t)) (kind_of t) v (int (pos 1)) s) c.combine.result s1) c.operator.ensures
    (subst (λ k. Came (combining b c.args.line c.operator.result (promotion_of k) k v (int (pos 1)) s) c.combine.result s1) c.kind-kind.ensures
    (subst (λ k. Came (combining b c.args.line c.operator.result k c.kind-kind.result v (int (pos 1)) s) c.combine.result s1) c.promoted.ensures
    (subst (λ w. Came (combining b c.args.line c.operator.result c.promoted.result c.kind-kind.result v w s) c.combine.result s1) c.integer-one.ensures
    (c.combine.ensures.came b out es hs hl)))))
