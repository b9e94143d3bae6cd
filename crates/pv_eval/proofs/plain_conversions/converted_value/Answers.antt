use Rattle.std.specs.Prelude.{true}
use Rattle.pv_types.specs.Known.{tree}
use Rattle.pv_typed.specs.NodeTrees.{expression_at}
use Rattle.pv_eval.specs.Plainly.{found_worth}
use Rattle.pv_eval.proofs.PlainConversions.{changed_some}
use Rattle.pv_eval.proofs.plain_conversions.converted_value.Goals as goal

pub returns-in-Convert : goal.returns-in-Convert
returns-in-Convert c =
    let u = c.args.unit.now in
    changed_some (expression_at u c.args.d) (expression_at u c.in-Convert.inner) (tree u.known c.type_of.result.0) (tree u.known c.type_of-in-Convert.result.0) (found_worth c.args.v) c.changed.result c.in-Convert.ensures.form
    c.type_of.ensures.tree c.type_of-in-Convert.ensures.tree (c.changed.ensures true)
