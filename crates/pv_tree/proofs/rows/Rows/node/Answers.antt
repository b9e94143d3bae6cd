use Rattle.std.proofs.Common.{◌<◌, length, sym, ap, ◌∙◌, subst, arith}
use Rattle.pv_tree.specs.declared.nodes.Node.TheVariants as node
use Rattle.pv_tree.specs.Short.{long_node, IsAmong}
use Rattle.pv_tree.proofs.Shortened.{rows_count, node_read, among_read, whole_read}
use Rattle.pv_tree.proofs.rows.Rows.node.Goals as goal

pub index-requires : goal.index-requires
index-requires c = omega (arith, c.requires, c.self.inside.short.ok.0, rows_count c.self.inside.whole.items c.self.inside.short.items c.args.self.now c.self.view_is)

pub returns-in-Expr : goal.returns-in-Expr
returns-in-Expr c = ap node.Expr c.long_expr.ensures ∙ ap (long_node c.self.inside.whole.items) (sym c.in-Expr.is) ∙ node_read c.self.inside.whole.items c.self.inside.short.items c.args.self.now c.self.view_is c.args.i c.requires c.index.result.now c.index.ensures

pub returns-in-Declarator : goal.returns-in-Declarator
returns-in-Declarator c = ap node.Declarator c.long_declarator.ensures ∙ ap (long_node c.self.inside.whole.items) (sym c.in-Declarator.is) ∙ node_read c.self.inside.whole.items c.self.inside.short.items c.args.self.now c.self.view_is c.args.i c.requires c.index.result.now c.index.ensures

pub returns-in-Spec : goal.returns-in-Spec
returns-in-Spec c = ap node.Spec c.long_spec.ensures ∙ ap (long_node c.self.inside.whole.items) (sym c.in-Spec.is) ∙ node_read c.self.inside.whole.items c.self.inside.short.items c.args.self.now c.self.view_is c.args.i c.requires c.index.result.now c.index.ensures

pub returns-in-Stmt : goal.returns-in-Stmt
returns-in-Stmt c = ap node.Stmt c.long_stmt.ensures ∙ ap (long_node c.self.inside.whole.items) (sym c.in-Stmt.is) ∙ node_read c.self.inside.whole.items c.self.inside.short.items c.args.self.now c.self.view_is c.args.i c.requires c.index.result.now c.index.ensures

pub returns-in-Decl : goal.returns-in-Decl
returns-in-Decl c = ap (long_node c.self.inside.whole.items) (sym c.in-Decl.is) ∙ node_read c.self.inside.whole.items c.self.inside.short.items c.args.self.now c.self.view_is c.args.i c.requires c.index.result.now c.index.ensures

pub returns-in-Init : goal.returns-in-Init
returns-in-Init c = ap (long_node c.self.inside.whole.items) (sym c.in-Init.is) ∙ node_read c.self.inside.whole.items c.self.inside.short.items c.args.self.now c.self.view_is c.args.i c.requires c.index.result.now c.index.ensures

pub index-requires-in-Whole : goal.index-requires-in-Whole
index-requires-in-Whole c =
    subst (λ n. c.in-Whole.n < n) (sym c.self.inside.whole.ok.0)
    (subst (IsAmong (length c.self.inside.whole.items)) c.in-Whole.is
    (among_read c.self.inside.whole.items c.self.inside.short.items c.args.self.now c.self.view_is c.args.i c.requires c.index.result.now c.index.ensures (length c.self.inside.whole.items) c.self.invariant.among))

pub returns-in-Whole : goal.returns-in-Whole
returns-in-Whole c =
    whole_read c.self.inside.whole.items c.in-Whole.n c.index-in-Whole.result.now
    (subst (IsAmong (length c.self.inside.whole.items)) c.in-Whole.is (among_read c.self.inside.whole.items c.self.inside.short.items c.args.self.now c.self.view_is c.args.i c.requires c.index.result.now c.index.ensures (length c.self.inside.whole.items) c.self.invariant.among))
    c.index-in-Whole.ensures
    ∙ ap (long_node c.self.inside.whole.items) (sym c.in-Whole.is) ∙ node_read c.self.inside.whole.items c.self.inside.short.items c.args.self.now c.self.view_is c.args.i c.requires c.index.result.now c.index.ensures
