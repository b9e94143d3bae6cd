use Rattle.std.proofs.Common.{sym, ap}
use Rattle.std.proofs.lemmas.Result.{IfOk-from_err}
use Rattle.pv_tree.specs.Tables.{trees_at, declarator_at, is_specifier, is_declarator, is_statement}
use Rattle.pv_stmt_forms.proofs.Chains.{first_none, there_of}
use Rattle.pv_stmt_forms.specs.Found.{function_with}
use Rattle.pv_tree.proofs.Kept.{extends_then, is_kept, has_list_kept}
use Rattle.pv_expr_forms.proofs.Answered.{kept_same, kept_tree}
use Rattle.pv_decl_forms.proofs.Answered.{nothing}
use Rattle.pv_decl_forms.specs.Pieces.{Piece}
use Rattle.pv_stmt_forms.proofs.OuterSteps.{function_made}
use Rattle.pv_stmt.proofs.external.function.Goals as goal

pub returns : goal.returns
returns g c = record {
  keeps = extends_then c.args.into.now c.statement.new.into c.add_decl.new.self c.statement.ensures.keeps (kept_tree c.statement.new.into c.add_decl.new.self _ c.in_ok-add_decl.ensures.made.0);
  answer =
      function_made c.args.into.now c.statement.new.into c.add_decl.new.self c.args.source.now.tokens.now.tokens c.args.line c.args.specs c.args.declarator c.in-Some.block c.in_ok-add_decl.field-0 c.in-Some.end
      c.statement.ensures.keeps c.requires.specs c.requires.declarator c.in_ok-block.field-0 _ c.in_ok-block.ensures.answer c.in-Some.is c.in_ok-add_decl.ensures.made.0 c.in_ok-add_decl.ensures.made.1;
}

pub statement-requires : goal.statement-requires
statement-requires g c = c.requires.ready

pub returns-in_default : goal.returns-in_default
returns-in_default g c = record {
  keeps = c.statement.ensures.keeps;
  answer =
      nothing _ _ _ _ (sym (ap (λ (p : Piece). function_with c.args.line (trees_at c.args.into.now.forest c.args.specs) (declarator_at c.args.into.now.forest c.args.declarator) p) (first_none c.statement.new.into is_statement c.args.source.now.tokens.now.tokens c.in_ok-block.field-0 _ c.in_ok-block.ensures.answer c.in_default.is)));
}

pub add_decl-requires : goal.add_decl-requires
add_decl-requires g c = (has_list_kept c.args.into.now c.statement.new.into is_specifier c.args.specs c.statement.ensures.keeps c.requires.specs, is_kept c.args.into.now c.statement.new.into is_declarator c.args.declarator c.statement.ensures.keeps c.requires.declarator, (there_of c.statement.new.into is_statement c.args.source.now.tokens.now.tokens c.in_ok-block.field-0 _ c.in_ok-block.ensures.answer c.in-Some.block c.in-Some.end c.in-Some.is).0)

pub returns-in_err-block : goal.returns-in_err-block
returns-in_err-block g c = record {
  keeps = c.statement.ensures.keeps;
  answer = IfOk-from_err _ _ c.from_residual.ensures.0;
}

pub returns-in_err-add_decl : goal.returns-in_err-add_decl
returns-in_err-add_decl g c = record {
  keeps = extends_then c.args.into.now c.statement.new.into c.add_decl.new.self c.statement.ensures.keeps (kept_same c.statement.new.into c.add_decl.new.self (c.in_err-add_decl.ensures.unchanged));
  answer = IfOk-from_err _ _ c.from_residual-in_err-add_decl.ensures.0;
}
