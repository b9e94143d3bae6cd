use Rattle.std.proofs.Common.{◌≡◌, Option, IfOk, subst}
use Rattle.pv_typed.specs.TypedTree.{TypedTree}
use Rattle.pv_check.specs.Kept.{expression_if}
use Rattle.pv_check.proofs.operators.assigned.Goals as goal

pub returns-clause-typed : goal.returns-clause-typed
returns-clause-typed c =
    let P : Option TypedTree → Type 0 = λ x. IfOk c.assigned_as.result (λ r. expression_if c.assigned_as.new.into r ≡ x) in
    subst P c.is_null_for-null.ensures c.assigned_as.ensures.typed
