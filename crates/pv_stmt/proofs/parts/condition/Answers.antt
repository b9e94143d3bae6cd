use Rattle.std.proofs.Common.{drop, Some, None}
use Rattle.std.proofs.lemmas.Result.{IfOk-from_err}
use Rattle.pv_tree.specs.Tables.{tree_at, is_expression}
use Rattle.pv_tree.proofs.Kept.{extends_same}
use Rattle.pv_decl_forms.proofs.Answered.{nothing}
use Rattle.pv_stmt_forms.specs.Statements.{expression}
use Rattle.pv_stmt_forms.proofs.Chains.{first_some, first_none, there_of, condition_shut, condition_unread, condition_behind}
use Rattle.pv_expr_forms.specs.Sources.{known_names}
use Rattle.pv_stmt.proofs.parts.condition.Goals as goal

pub returns-in_default : goal.returns-in_default
returns-in_default g c = record {
  keeps = extends_same _;
  answer =
      nothing _ _ _ _ (condition_shut (known_names g.R.TypeReader.types c.args.source.now c.args.into.now) c.args.depth (drop c.args.at c.args.source.now.tokens.now.tokens) c.in_default.ensures);
}

pub returns-in_default-2 : goal.returns-in_default-2
returns-in_default-2 g c = record {
  keeps = c.expression.ensures.keeps;
  answer =
      nothing _ _ _ _ (condition_unread (known_names g.R.TypeReader.types c.args.source.now c.args.into.now) c.args.depth (drop c.args.at c.args.source.now.tokens.now.tokens) (drop c.in-Some.inside c.args.source.now.tokens.now.tokens) c.in-Some.ensures.0 (first_none c.expression.new.into is_expression c.args.source.now.tokens.now.tokens c.in_ok-value.field-0 (expression (known_names g.R.TypeReader.types c.args.source.now c.args.into.now) c.args.depth 1 (drop c.in-Some.inside c.args.source.now.tokens.now.tokens)) c.in_ok-value.ensures.answer c.in_default-2.is));
}

pub returns-in-Some-after : goal.returns-in-Some-after
returns-in-Some-after g c = record {
  keeps = c.expression.ensures.keeps;
  answer =
      record {
        is = condition_behind (known_names g.R.TypeReader.types c.args.source.now c.args.into.now) c.args.depth (drop c.args.at c.args.source.now.tokens.now.tokens) (drop c.in-Some.inside c.args.source.now.tokens.now.tokens) c.in-Some.ensures.0 (tree_at c.expression.new.into.forest c.in-Some-2.value, drop c.in-Some-2.end c.args.source.now.tokens.now.tokens) (Some (drop c.in-Some-after.next c.args.source.now.tokens.now.tokens)) (first_some c.expression.new.into is_expression c.args.source.now.tokens.now.tokens c.in_ok-value.field-0 (expression (known_names g.R.TypeReader.types c.args.source.now c.args.into.now) c.args.depth 1 (drop c.in-Some.inside c.args.source.now.tokens.now.tokens)) c.in_ok-value.ensures.answer c.in-Some-2.value c.in-Some-2.end c.in-Some-2.is) c.in-Some-after.ensures.0;
        there = ((there_of c.expression.new.into is_expression c.args.source.now.tokens.now.tokens c.in_ok-value.field-0 (expression (known_names g.R.TypeReader.types c.args.source.now c.args.into.now) c.args.depth 1 (drop c.in-Some.inside c.args.source.now.tokens.now.tokens)) c.in_ok-value.ensures.answer c.in-Some-2.value c.in-Some-2.end c.in-Some-2.is).0, c.in-Some-after.ensures.1);
      };
}

pub returns-in-None : goal.returns-in-None
returns-in-None g c = record {
  keeps = c.expression.ensures.keeps;
  answer =
      nothing _ _ _ _ (condition_behind (known_names g.R.TypeReader.types c.args.source.now c.args.into.now) c.args.depth (drop c.args.at c.args.source.now.tokens.now.tokens) (drop c.in-Some.inside c.args.source.now.tokens.now.tokens) c.in-Some.ensures.0 (tree_at c.expression.new.into.forest c.in-Some-2.value, drop c.in-Some-2.end c.args.source.now.tokens.now.tokens) None (first_some c.expression.new.into is_expression c.args.source.now.tokens.now.tokens c.in_ok-value.field-0 (expression (known_names g.R.TypeReader.types c.args.source.now c.args.into.now) c.args.depth 1 (drop c.in-Some.inside c.args.source.now.tokens.now.tokens)) c.in_ok-value.ensures.answer c.in-Some-2.value c.in-Some-2.end c.in-Some-2.is) c.in-None.ensures);
}

pub after-requires : goal.after-requires
after-requires g c = c.requires.place

pub expression-requires : goal.expression-requires
expression-requires g c = record { place = c.in-Some.ensures.1; tied = c.requires.tied }

pub returns-in_err-value : goal.returns-in_err-value
returns-in_err-value g c = record {
  keeps = c.expression.ensures.keeps;
  answer = IfOk-from_err _ _ c.from_residual.ensures.0;
}

pub after-requires-2 : goal.after-requires-2
after-requires-2 g c = (there_of c.expression.new.into is_expression c.args.source.now.tokens.now.tokens c.in_ok-value.field-0 (expression (known_names g.R.TypeReader.types c.args.source.now c.args.into.now) c.args.depth 1 (drop c.in-Some.inside c.args.source.now.tokens.now.tokens)) c.in_ok-value.ensures.answer c.in-Some-2.value c.in-Some-2.end c.in-Some-2.is).1
