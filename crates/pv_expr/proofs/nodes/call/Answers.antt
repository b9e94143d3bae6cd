use Rattle.std.proofs.lemmas.Result.{IfOk-from_err}
use Rattle.pv_tree.proofs.Kept.{extends_then}
use Rattle.pv_expr_forms.proofs.Answered.{kept_same, kept_list}
use Rattle.pv_expr.proofs.nodes.call.Goals as goal

pub line_of-line-requires : goal.line_of-line-requires
line_of-line-requires c = c.requires.callee

pub returns-in_err-list-clause-keeps : goal.returns-in_err-list-clause-keeps
returns-in_err-list-clause-keeps c = kept_same c.args.into.now c.add_list.new.self (c.in_err-list.ensures.unchanged)

pub returns-in_err-list-clause-ok : goal.returns-in_err-list-clause-ok
returns-in_err-list-clause-ok c = IfOk-from_err _ _ c.from_residual.ensures.0

pub found-requires-clause-place : goal.found-requires-clause-place
found-requires-clause-place c = c.requires.place

pub returns-clause-keeps : goal.returns-clause-keeps
returns-clause-keeps c = extends_then c.args.into.now c.add_list.new.self c.found.new.into (kept_list c.args.into.now c.add_list.new.self _ c.in_ok-list.ensures.made.0) c.found.ensures.keeps
