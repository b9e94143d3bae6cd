use Rattle.pv_tree.specs.Nodes.{expression_of}
use Rattle.pv_tree.specs.Syntax.{OfExpression}
use Rattle.pv_expr_forms.proofs.Answered.{kept_same, kept_tree, added}
use Rattle.pv_expr.proofs.nodes.found.Goals as goal

pub returns-in_err-add_expr-clause-keeps : goal.returns-in_err-add_expr-clause-keeps
returns-in_err-add_expr-clause-keeps c = kept_same c.args.into.now c.add_expr.new.self (c.in_err-add_expr.ensures.unchanged)

pub returns-clause-keeps : goal.returns-clause-keeps
returns-clause-keeps c = kept_tree c.args.into.now c.add_expr.new.self (OfExpression (expression_of c.args.into.now.forest c.args.line c.args.expr)) c.in_ok-add_expr.ensures.made.0

pub returns-clause-ok : goal.returns-clause-ok
returns-clause-ok c = added c.args.into.now c.add_expr.new.self c.args.tokens.now.tokens c.args.expr c.args.line c.in_ok-add_expr.field-0 c.args.next c.in_ok-add_expr.ensures.made.0 c.in_ok-add_expr.ensures.made.1 c.requires.place
