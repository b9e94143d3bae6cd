use Rattle.std.proofs.lemmas.Result.{IfOk-from_err}
use Rattle.std.proofs.Common.{◌∙◌, ◌+◌, sym, ap, drop, arith, Some}
use Rattle.pv_tree.specs.Tables.{tree_at, is_expression}
use Rattle.pv_tree.proofs.Kept.{extends_same, extends_then}
use Rattle.pv_decl_forms.proofs.Answered.{moved, nothing}
use Rattle.pv_stmt_forms.specs.Statements.{expression}
use Rattle.pv_stmt_forms.proofs.Chains.{first_some, first_none, there_of, case_none, case_so, label_end, label_other, label_case, label_default}
use Rattle.pv_stmt_forms.specs.declared.forms.LabelWord.{LabelWord}
use Rattle.pv_expr_forms.specs.Sources.{known_names}
use Rattle.pv_stmt.proofs.parts.label.Goals as goal

pub returns-in_default : goal.returns-in_default
returns-in_default g c = record {
  keeps = extends_same _;
  answer =
      nothing _ _ _ _ (label_end (known_names g.R.TypeReader.types c.args.source.now c.args.into.now) c.args.depth (drop c.args.at c.args.source.now.tokens.now.tokens) c.in_default.ensures);
}

pub returns-in_default-label_word : goal.returns-in_default-label_word
returns-in_default-label_word g c = record {
  keeps = extends_same _;
  answer =
      nothing _ _ _ _ (label_other (known_names g.R.TypeReader.types c.args.source.now c.args.into.now) c.args.depth (drop c.args.at c.args.source.now.tokens.now.tokens) c.in-Some.token (drop (c.args.at + 1) c.args.source.now.tokens.now.tokens) c.in-Some.ensures.0 (sym c.in_default-label_word.ensures));
}

pub returns-in-Default : goal.returns-in-Default
returns-in-Default g c = record {
  keeps = c.found_before-in-Default.ensures.keeps;
  answer =
      moved _ _ _ _ _ _ (label_default (known_names g.R.TypeReader.types c.args.source.now c.args.into.now) c.args.depth (drop c.args.at c.args.source.now.tokens.now.tokens) c.in-Some.token (drop (c.args.at + 1) c.args.source.now.tokens.now.tokens) c.in-Some.ensures.0 (sym c.in-Some-label_word.ensures ∙ ap (λ (w : LabelWord). Some w) c.in-Default.is)) c.found_before-in-Default.ensures.ok;
}

pub peek-requires : goal.peek-requires
peek-requires g c = c.requires.place

pub found_before-requires-in-Default-clause-children : goal.found_before-requires-in-Default-clause-children
found_before-requires-in-Default-clause-children g c = tt

pub found_before-requires-in-Default-clause-place : goal.found_before-requires-in-Default-clause-place
found_before-requires-in-Default-clause-place g c = omega (arith, c.in-Some.ensures.1)

pub found_before-requires-clause-place : goal.found_before-requires-clause-place
found_before-requires-clause-place g c = (there_of c.expression.new.into is_expression c.args.source.now.tokens.now.tokens c.in_ok-value-in-Case.field-0 (expression (known_names g.R.TypeReader.types c.args.source.now c.args.into.now) c.args.depth 3 (drop (c.args.at + 1) c.args.source.now.tokens.now.tokens)) c.in_ok-value-in-Case.ensures.answer c.in-Some-2.value c.in-Some-2.end c.in-Some-2.is).1

pub found_before-requires-clause-children : goal.found_before-requires-clause-children
found_before-requires-clause-children g c = (there_of c.expression.new.into is_expression c.args.source.now.tokens.now.tokens c.in_ok-value-in-Case.field-0 (expression (known_names g.R.TypeReader.types c.args.source.now c.args.into.now) c.args.depth 3 (drop (c.args.at + 1) c.args.source.now.tokens.now.tokens)) c.in_ok-value-in-Case.ensures.answer c.in-Some-2.value c.in-Some-2.end c.in-Some-2.is).0

pub returns-in-Some-2 : goal.returns-in-Some-2
returns-in-Some-2 g c = record {
  keeps = extends_then c.args.into.now c.expression.new.into c.found_before.new.into c.expression.ensures.keeps c.found_before.ensures.keeps;
  answer =
      moved _ _ _ _ _ _ (case_so (known_names g.R.TypeReader.types c.args.source.now c.args.into.now) c.args.depth c.in-Some.token.line (drop (c.args.at + 1) c.args.source.now.tokens.now.tokens) (tree_at c.expression.new.into.forest c.in-Some-2.value, drop c.in-Some-2.end c.args.source.now.tokens.now.tokens) (first_some c.expression.new.into is_expression c.args.source.now.tokens.now.tokens c.in_ok-value-in-Case.field-0 (expression (known_names g.R.TypeReader.types c.args.source.now c.args.into.now) c.args.depth 3 (drop (c.args.at + 1) c.args.source.now.tokens.now.tokens)) c.in_ok-value-in-Case.ensures.answer c.in-Some-2.value c.in-Some-2.end c.in-Some-2.is) ∙ label_case (known_names g.R.TypeReader.types c.args.source.now c.args.into.now) c.args.depth (drop c.args.at c.args.source.now.tokens.now.tokens) c.in-Some.token (drop (c.args.at + 1) c.args.source.now.tokens.now.tokens) c.in-Some.ensures.0 (sym c.in-Some-label_word.ensures ∙ ap (λ (w : LabelWord). Some w) c.in-Case.is)) c.found_before.ensures.ok;
}

pub returns-in-None : goal.returns-in-None
returns-in-None g c = record {
  keeps = c.expression.ensures.keeps;
  answer =
      nothing _ _ _ _ (case_none (known_names g.R.TypeReader.types c.args.source.now c.args.into.now) c.args.depth c.in-Some.token.line (drop (c.args.at + 1) c.args.source.now.tokens.now.tokens) (first_none c.expression.new.into is_expression c.args.source.now.tokens.now.tokens c.in_ok-value-in-Case.field-0 (expression (known_names g.R.TypeReader.types c.args.source.now c.args.into.now) c.args.depth 3 (drop (c.args.at + 1) c.args.source.now.tokens.now.tokens)) c.in_ok-value-in-Case.ensures.answer c.in-None.is) ∙ label_case (known_names g.R.TypeReader.types c.args.source.now c.args.into.now) c.args.depth (drop c.args.at c.args.source.now.tokens.now.tokens) c.in-Some.token (drop (c.args.at + 1) c.args.source.now.tokens.now.tokens) c.in-Some.ensures.0 (sym c.in-Some-label_word.ensures ∙ ap (λ (w : LabelWord). Some w) c.in-Case.is));
}

pub expression-requires : goal.expression-requires
expression-requires g c = record { place = omega (arith, c.in-Some.ensures.1); tied = c.requires.tied }

pub returns-in_err-value-in-Case : goal.returns-in_err-value-in-Case
returns-in_err-value-in-Case g c = record {
  keeps = c.expression.ensures.keeps;
  answer = IfOk-from_err _ _ c.from_residual.ensures.0;
}
