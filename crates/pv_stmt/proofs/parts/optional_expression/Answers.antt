use Rattle.std.proofs.Common.{drop}
use Rattle.std.proofs.lemmas.Result.{IfOk-from_err}
use Rattle.pv_stmt_forms.specs.Statements.{expression}
use Rattle.pv_stmt_forms.proofs.Chains.{optional_some, optional_none}
use Rattle.pv_expr_forms.specs.Sources.{known_names}
use Rattle.pv_stmt.proofs.parts.optional_expression.Goals as goal

pub returns-in-Some : goal.returns-in-Some
returns-in-Some g c = record {
  keeps = c.expression.ensures.keeps;
  answer =
      optional_some c.expression.new.into c.args.source.now.tokens.now.tokens c.args.at c.requires.place c.in_ok-value.field-0 (expression (known_names g.R.TypeReader.types c.args.source.now c.args.into.now) c.args.depth 1 (drop c.args.at c.args.source.now.tokens.now.tokens)) c.in_ok-value.ensures.answer c.in-Some.value c.in-Some.end c.in-Some.is;
}

pub returns-in-None : goal.returns-in-None
returns-in-None g c = record {
  keeps = c.expression.ensures.keeps;
  answer =
      optional_none c.expression.new.into c.args.source.now.tokens.now.tokens c.args.at c.requires.place c.in_ok-value.field-0 (expression (known_names g.R.TypeReader.types c.args.source.now c.args.into.now) c.args.depth 1 (drop c.args.at c.args.source.now.tokens.now.tokens)) c.in_ok-value.ensures.answer c.in-None.is;
}

pub expression-requires : goal.expression-requires
expression-requires g c = c.requires

pub returns-in_err-value : goal.returns-in_err-value
returns-in_err-value g c = record {
  keeps = c.expression.ensures.keeps;
  answer = IfOk-from_err _ _ c.from_residual.ensures.0;
}
