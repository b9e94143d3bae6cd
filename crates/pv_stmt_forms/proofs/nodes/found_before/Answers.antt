use Rattle.std.proofs.Common.{drop}
use Rattle.pv_tree.specs.Nodes.{statement_of}
use Rattle.pv_tree.specs.Syntax.{OfStatement}
use Rattle.pv_decl_forms.proofs.Answered.{moved, nothing}
use Rattle.pv_stmt_forms.specs.Parts.{test_of}
use Rattle.pv_stmt_forms.proofs.Chains.{sign_none, sign_some}
use Rattle.pv_tree.proofs.Kept.{extends_same}
use Rattle.pv_stmt_forms.proofs.nodes.found_before.Goals as goal

pub returns-in-Some-clause-ok : goal.returns-in-Some-clause-ok
returns-in-Some-clause-ok c = moved _ _ _ _ _ _ (sign_some (OfStatement (statement_of c.args.into.now.forest c.args.line c.args.statement)) (test_of c.args.sign) (drop c.args.at c.args.tokens.now.tokens) _ c.in-Some.ensures.0) c.found_statement.ensures.ok

pub returns-in-None-clause-ok : goal.returns-in-None-clause-ok
returns-in-None-clause-ok c = nothing _ _ _ _ (sign_none (OfStatement (statement_of c.args.into.now.forest c.args.line c.args.statement)) (test_of c.args.sign) (drop c.args.at c.args.tokens.now.tokens) c.in-None.ensures)

pub after-requires : goal.after-requires
after-requires c = c.requires.place

pub returns-in-None-clause-keeps : goal.returns-in-None-clause-keeps
returns-in-None-clause-keeps c = extends_same _

pub returns-in-Some-clause-keeps : goal.returns-in-Some-clause-keeps
returns-in-Some-clause-keeps c = c.found_statement.ensures.keeps

pub found_statement-requires-clause-place : goal.found_statement-requires-clause-place
found_statement-requires-clause-place c = c.in-Some.ensures.1

pub found_statement-requires-clause-children : goal.found_statement-requires-clause-children
found_statement-requires-clause-children c = c.requires.children
