use Rattle.std.proofs.Common.{refl}
use Rattle.pv_tree.specs.Nodes.{statement_of}
use Rattle.pv_tree.specs.Syntax.{OfStatement}
use Rattle.pv_tree.specs.Tables.{is_statement}
use Rattle.pv_expr_forms.proofs.Answered.{kept_same, kept_tree}
use Rattle.pv_decl_forms.proofs.Answered.{added}
use Rattle.std.proofs.lemmas.Result.{IfOk-from_err}
use Rattle.pv_stmt_forms.proofs.nodes.found_statement.Goals as goal

pub returns-in_err-add_stmt-clause-keeps : goal.returns-in_err-add_stmt-clause-keeps
returns-in_err-add_stmt-clause-keeps c = kept_same c.args.into.now c.add_stmt.new.self (c.in_err-add_stmt.ensures.unchanged)

pub returns-clause-keeps : goal.returns-clause-keeps
returns-clause-keeps c = kept_tree c.args.into.now c.add_stmt.new.self (OfStatement (statement_of c.args.into.now.forest c.args.line c.args.statement)) c.in_ok-add_stmt.ensures.made.0

pub returns-clause-ok : goal.returns-clause-ok
returns-clause-ok c = added c.args.into.now c.add_stmt.new.self is_statement c.args.tokens.now.tokens (OfStatement (statement_of c.args.into.now.forest c.args.line c.args.statement)) c.in_ok-add_stmt.field-0 c.args.next c.in_ok-add_stmt.ensures.made.0 c.in_ok-add_stmt.ensures.made.1 refl c.requires.place

pub returns-in_err-add_stmt-clause-ok : goal.returns-in_err-add_stmt-clause-ok
returns-in_err-add_stmt-clause-ok c = IfOk-from_err _ _ c.from_residual.ensures.0
