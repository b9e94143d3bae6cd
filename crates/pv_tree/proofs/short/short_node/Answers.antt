use Rattle.std.proofs.Common.{sym, ap, ◌∙◌}
use Rattle.pv_tree.specs.declared.nodes.Node.TheVariants as node
use Rattle.pv_tree.proofs.short.short_node.Goals as goal

pub returns-in_ok-short_expr-in-Expr-clause-node : goal.returns-in_ok-short_expr-in-Expr-clause-node
returns-in_ok-short_expr-in-Expr-clause-node c = λ whole. ap node.Expr c.in_ok-short_expr-in-Expr.ensures ∙ sym c.in-Expr.is

pub returns-in_ok-short_declarator-in-Declarator-clause-node : goal.returns-in_ok-short_declarator-in-Declarator-clause-node
returns-in_ok-short_declarator-in-Declarator-clause-node c = λ whole. ap node.Declarator c.in_ok-short_declarator-in-Declarator.ensures ∙ sym c.in-Declarator.is

pub returns-in_ok-short_stmt-in-Stmt-clause-node : goal.returns-in_ok-short_stmt-in-Stmt-clause-node
returns-in_ok-short_stmt-in-Stmt-clause-node c = λ whole. ap node.Stmt c.in_ok-short_stmt-in-Stmt.ensures ∙ sym c.in-Stmt.is

pub returns-in-Spec-clause-node : goal.returns-in-Spec-clause-node
returns-in-Spec-clause-node c = λ whole. ap node.Spec c.short_spec.ensures ∙ sym c.in-Spec.is

pub returns-in-Decl-clause-node : goal.returns-in-Decl-clause-node
returns-in-Decl-clause-node c = λ whole. sym c.in-Decl.is

pub returns-in-Init-clause-node : goal.returns-in-Init-clause-node
returns-in-Init-clause-node c = λ whole. sym c.in-Init.is
