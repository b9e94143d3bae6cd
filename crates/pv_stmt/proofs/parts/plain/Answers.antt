use Rattle.std.proofs.Common.{drop}
use Rattle.std.proofs.lemmas.Result.{IfOk-from_err}
use Rattle.pv_tree.proofs.Kept.{extends_then}
use Rattle.pv_decl_forms.specs.Pieces.{is_semicolon}
use Rattle.pv_decl_forms.proofs.Answered.{moved, nothing}
use Rattle.pv_stmt_forms.specs.Statements.{expression_before}
use Rattle.pv_stmt_forms.proofs.Chains.{part_stands, simple_none, simple_some}
use Rattle.pv_expr_forms.specs.Sources.{known_names}
use Rattle.pv_stmt.proofs.parts.plain.Goals as goal

pub found_statement-requires-clause-place : goal.found_statement-requires-clause-place
found_statement-requires-clause-place g c = (part_stands c.expression_before.new.into c.args.source.now.tokens.now.tokens c.in_ok-value.field-0 (expression_before (known_names g.R.TypeReader.types c.args.source.now c.args.into.now) c.args.depth is_semicolon (drop c.args.at c.args.source.now.tokens.now.tokens)) c.in-Some.value c.in-Some.end c.in_ok-value.ensures.answer c.in-Some.is).1

pub found_statement-requires-clause-children : goal.found_statement-requires-clause-children
found_statement-requires-clause-children g c = (part_stands c.expression_before.new.into c.args.source.now.tokens.now.tokens c.in_ok-value.field-0 (expression_before (known_names g.R.TypeReader.types c.args.source.now c.args.into.now) c.args.depth is_semicolon (drop c.args.at c.args.source.now.tokens.now.tokens)) c.in-Some.value c.in-Some.end c.in_ok-value.ensures.answer c.in-Some.is).0

pub returns-in-Some : goal.returns-in-Some
returns-in-Some g c = record {
  keeps = extends_then c.args.into.now c.expression_before.new.into c.found_statement.new.into c.expression_before.ensures.keeps c.found_statement.ensures.keeps;
  answer =
      moved _ _ _ _ _ _ (simple_some (known_names g.R.TypeReader.types c.args.source.now c.args.into.now) c.args.depth c.args.line (drop c.args.at c.args.source.now.tokens.now.tokens) c.expression_before.new.into c.args.source.now.tokens.now.tokens c.in_ok-value.field-0 c.in_ok-value.ensures.answer c.in-Some.value c.in-Some.end c.in-Some.is) c.found_statement.ensures.ok;
}

pub returns-in-None : goal.returns-in-None
returns-in-None g c = record {
  keeps = c.expression_before.ensures.keeps;
  answer =
      nothing _ _ _ _ (simple_none (known_names g.R.TypeReader.types c.args.source.now c.args.into.now) c.args.depth c.args.line (drop c.args.at c.args.source.now.tokens.now.tokens) c.expression_before.new.into c.args.source.now.tokens.now.tokens c.in_ok-value.field-0 c.in_ok-value.ensures.answer c.in-None.is);
}

pub expression_before-requires : goal.expression_before-requires
expression_before-requires g c = c.requires

pub returns-in_err-value : goal.returns-in_err-value
returns-in_err-value g c = record {
  keeps = c.expression_before.ensures.keeps;
  answer = IfOk-from_err _ _ c.from_residual.ensures.0;
}
