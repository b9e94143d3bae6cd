use Rattle.std.proofs.Common.{drop}
use Rattle.std.proofs.lemmas.Result.{IfOk-from_err}
use Rattle.pv_stmt_forms.specs.Parts.{test_of}
use Rattle.pv_stmt_forms.proofs.Chains.{part_none, part_some}
use Rattle.pv_expr_forms.specs.Sources.{known_names}
use Rattle.pv_stmt.proofs.parts.expression_before.Goals as goal

pub returns-in-Some : goal.returns-in-Some
returns-in-Some g c = record {
  keeps = c.optional_expression.ensures.keeps;
  answer =
      part_some c.optional_expression.new.into c.args.source.now.tokens.now.tokens (known_names g.R.TypeReader.types c.args.source.now c.args.into.now) c.args.depth (test_of c.args.sign) (drop c.args.at c.args.source.now.tokens.now.tokens) c.in_ok-value.value c.in_ok-value.end c.in_ok-value.ensures.answer c.in-Some.next c.in-Some.ensures.0 c.in-Some.ensures.1;
}

pub returns-in-None : goal.returns-in-None
returns-in-None g c = record {
  keeps = c.optional_expression.ensures.keeps;
  answer =
      part_none c.optional_expression.new.into c.args.source.now.tokens.now.tokens (known_names g.R.TypeReader.types c.args.source.now c.args.into.now) c.args.depth (test_of c.args.sign) (drop c.args.at c.args.source.now.tokens.now.tokens) c.in_ok-value.value c.in_ok-value.end c.in_ok-value.ensures.answer c.in-None.ensures;
}

pub optional_expression-requires : goal.optional_expression-requires
optional_expression-requires g c = c.requires

pub returns-in_err-value : goal.returns-in_err-value
returns-in_err-value g c = record {
  keeps = c.optional_expression.ensures.keeps;
  answer = IfOk-from_err _ _ c.from_residual.ensures.0;
}

pub after-requires : goal.after-requires
after-requires g c = c.in_ok-value.ensures.answer.place
