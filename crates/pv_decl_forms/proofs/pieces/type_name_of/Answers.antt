use Rattle.std.proofs.lemmas.Result.{IfOk-from_err}
use Rattle.pv_tree.proofs.Kept.{extends_then}
use Rattle.pv_expr_forms.proofs.Answered.{kept_same, kept_list}
use Rattle.pv_decl_forms.proofs.pieces.type_name_of.Goals as goal

pub returns-in_err-specs-clause-keeps : goal.returns-in_err-specs-clause-keeps
returns-in_err-specs-clause-keeps c = kept_same c.args.into.now c.add_list.new.self (c.in_err-specs.ensures.unchanged)

pub returns-clause-keeps : goal.returns-clause-keeps
returns-clause-keeps c = extends_then _ _ _ (kept_list c.args.into.now c.add_list.new.self c.args.specs.now c.in_ok-specs.ensures.made.0) c.found_declaration.ensures.keeps

pub returns-in_err-specs-clause-ok : goal.returns-in_err-specs-clause-ok
returns-in_err-specs-clause-ok c = IfOk-from_err _ _ c.from_residual.ensures.0
