use Rattle.std.proofs.Common.{sym, ap, ◌∙◌}
use Rattle.std.specs.Prelude.{is_some}
use Rattle.pv_types.specs.Known.{tree}
use Rattle.pv_typed.specs.NodeTrees.{expression_at}
use Rattle.pv_typed.specs.TypedTree.{type_of}
use Rattle.pv_types.specs.Sorts.{kind_of}
use Rattle.pv_check.proofs.Casting.{integers_cast}
use Rattle.pv_check.proofs.unary.are_integers.Goals as goal

pub returns-then-not-is_integer : goal.returns-then-not-is_integer
returns-then-not-is_integer c = λ e. absurd cc

pub returns : goal.returns
returns c = λ e.
    integers_cast (tree c.args.u.now.known c.args.t.0) (type_of (expression_at c.args.u.now c.args.a))
    (ap (λ m. is_some (kind_of (tree m c.args.t.0))) (sym c.types.ensures) ∙ sym c.is_integer.ensures ∙ c.if-not-is_integer.false)
    (ap (λ x. is_some (kind_of x)) (sym c.type_of.ensures.tree) ∙ ap (λ m. is_some (kind_of (tree m c.type_of.result.0))) (sym c.types-2.ensures) ∙ sym c.is_integer-2.ensures ∙ e)
