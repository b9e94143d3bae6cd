use Rattle.std.proofs.Common.{drop}
use Rattle.std.proofs.lemmas.Result.{IfOk-from_err}
use Rattle.pv_tree.proofs.Kept.{extends_then, extends_same}
use Rattle.pv_expr_forms.specs.Reader.{is_close}
use Rattle.pv_expr_forms.proofs.Naming.{tied_kept}
use Rattle.pv_decl_forms.specs.Pieces.{is_semicolon}
use Rattle.pv_stmt_forms.specs.Statements.{expression_before}
use Rattle.pv_stmt_forms.proofs.Chains.{part_got, part_lost, part_stands}
use Rattle.pv_stmt_forms.proofs.Heading.{part_start, head_shut, head_unbegun, head_untested, head_unstepped, head_so, first_there}
use Rattle.pv_expr_forms.specs.Sources.{known_names}
use Rattle.pv_stmt.proofs.parts.for_head.Goals as goal

pub returns-in_default : goal.returns-in_default
returns-in_default g c = record {
  keeps = extends_same _;
  answer =
      head_shut (known_names g.R.TypeReader.types c.args.source.now c.args.into.now) c.args.depth (drop c.args.at c.args.source.now.tokens.now.tokens) c.args.source.now.tokens.now.tokens c.args.into.now c.in_default.ensures;
}

pub returns-in_default-2 : goal.returns-in_default-2
returns-in_default-2 g c = record {
  keeps = c.for_first.ensures.keeps;
  answer =
      head_unbegun (known_names g.R.TypeReader.types c.args.source.now c.args.into.now) c.args.depth (drop c.args.at c.args.source.now.tokens.now.tokens) c.args.source.now.tokens.now.tokens (drop c.in-Some.inside c.args.source.now.tokens.now.tokens) c.in-Some.ensures.0 c.for_first.new.into c.in_ok-first.field-0 c.in_ok-first.ensures.answer c.for_first.new.into c.in_default-2.is;
}

pub returns-in_default-3 : goal.returns-in_default-3
returns-in_default-3 g c = record {
  keeps = extends_then c.args.into.now c.for_first.new.into c.expression_before.new.into c.for_first.ensures.keeps c.expression_before.ensures.keeps;
  answer =
      head_untested (known_names g.R.TypeReader.types c.args.source.now c.args.into.now) c.args.depth (drop c.args.at c.args.source.now.tokens.now.tokens) c.args.source.now.tokens.now.tokens (drop c.in-Some.inside c.args.source.now.tokens.now.tokens) c.in-Some.ensures.0 c.for_first.new.into c.in_ok-first.field-0 c.in_ok-first.ensures.answer c.in-Some-2.first c.in-Some-2.next c.in-Some-2.is c.expression_before.new.into (part_lost c.expression_before.new.into c.args.source.now.tokens.now.tokens c.in_ok-condition.field-0 (expression_before (known_names g.R.TypeReader.types c.args.source.now c.args.into.now) c.args.depth is_semicolon (drop c.in-Some-2.next c.args.source.now.tokens.now.tokens)) (part_start c.args.source.now.typedefs.now (g.R.TypeReader.types c.args.source.now.reader.now) c.args.into.now c.for_first.new.into c.expression_before.new.into c.args.source.now.tokens.now.tokens c.requires.tied c.for_first.ensures.keeps c.args.depth is_semicolon (drop c.in-Some-2.next c.args.source.now.tokens.now.tokens) c.in_ok-condition.field-0 c.in_ok-condition.ensures.answer) c.in_default-3.is);
}

pub returns-in-Some-4 : goal.returns-in-Some-4
returns-in-Some-4 g c = record {
  keeps = extends_then c.args.into.now c.expression_before.new.into c.expression_before-2.new.into (extends_then c.args.into.now c.for_first.new.into c.expression_before.new.into c.for_first.ensures.keeps c.expression_before.ensures.keeps) c.expression_before-2.ensures.keeps;
  answer =
      head_so (known_names g.R.TypeReader.types c.args.source.now c.args.into.now) c.args.depth (drop c.args.at c.args.source.now.tokens.now.tokens) c.args.source.now.tokens.now.tokens (drop c.in-Some.inside c.args.source.now.tokens.now.tokens) c.in-Some.ensures.0 c.for_first.new.into c.in_ok-first.field-0 c.in_ok-first.ensures.answer c.in-Some-2.first c.in-Some-2.next c.in-Some-2.is c.expression_before.new.into c.in-Some-3.condition c.in-Some-3.behind (part_got c.expression_before.new.into c.args.source.now.tokens.now.tokens c.in_ok-condition.field-0 (expression_before (known_names g.R.TypeReader.types c.args.source.now c.args.into.now) c.args.depth is_semicolon (drop c.in-Some-2.next c.args.source.now.tokens.now.tokens)) c.in-Some-3.condition c.in-Some-3.behind (part_start c.args.source.now.typedefs.now (g.R.TypeReader.types c.args.source.now.reader.now) c.args.into.now c.for_first.new.into c.expression_before.new.into c.args.source.now.tokens.now.tokens c.requires.tied c.for_first.ensures.keeps c.args.depth is_semicolon (drop c.in-Some-2.next c.args.source.now.tokens.now.tokens) c.in_ok-condition.field-0 c.in_ok-condition.ensures.answer) c.in-Some-3.is) c.expression_before-2.new.into c.expression_before.ensures.keeps c.expression_before-2.ensures.keeps (extends_then c.for_first.new.into c.expression_before.new.into c.expression_before-2.new.into c.expression_before.ensures.keeps c.expression_before-2.ensures.keeps) (part_stands c.expression_before.new.into c.args.source.now.tokens.now.tokens c.in_ok-condition.field-0 (expression_before (known_names g.R.TypeReader.types c.args.source.now c.args.into.now) c.args.depth is_semicolon (drop c.in-Some-2.next c.args.source.now.tokens.now.tokens)) c.in-Some-3.condition c.in-Some-3.behind (part_start c.args.source.now.typedefs.now (g.R.TypeReader.types c.args.source.now.reader.now) c.args.into.now c.for_first.new.into c.expression_before.new.into c.args.source.now.tokens.now.tokens c.requires.tied c.for_first.ensures.keeps c.args.depth is_semicolon (drop c.in-Some-2.next c.args.source.now.tokens.now.tokens) c.in_ok-condition.field-0 c.in_ok-condition.ensures.answer) c.in-Some-3.is).0 c.in-Some-4.step c.in-Some-4.end (part_got c.expression_before-2.new.into c.args.source.now.tokens.now.tokens c.in_ok-step.field-0 (expression_before (known_names g.R.TypeReader.types c.args.source.now c.args.into.now) c.args.depth is_close (drop c.in-Some-3.behind c.args.source.now.tokens.now.tokens)) c.in-Some-4.step c.in-Some-4.end (part_start c.args.source.now.typedefs.now (g.R.TypeReader.types c.args.source.now.reader.now) c.args.into.now c.expression_before.new.into c.expression_before-2.new.into c.args.source.now.tokens.now.tokens c.requires.tied (extends_then c.args.into.now c.for_first.new.into c.expression_before.new.into c.for_first.ensures.keeps c.expression_before.ensures.keeps) c.args.depth is_close (drop c.in-Some-3.behind c.args.source.now.tokens.now.tokens) c.in_ok-step.field-0 c.in_ok-step.ensures.answer) c.in-Some-4.is) (part_stands c.expression_before-2.new.into c.args.source.now.tokens.now.tokens c.in_ok-step.field-0 (expression_before (known_names g.R.TypeReader.types c.args.source.now c.args.into.now) c.args.depth is_close (drop c.in-Some-3.behind c.args.source.now.tokens.now.tokens)) c.in-Some-4.step c.in-Some-4.end (part_start c.args.source.now.typedefs.now (g.R.TypeReader.types c.args.source.now.reader.now) c.args.into.now c.expression_before.new.into c.expression_before-2.new.into c.args.source.now.tokens.now.tokens c.requires.tied (extends_then c.args.into.now c.for_first.new.into c.expression_before.new.into c.for_first.ensures.keeps c.expression_before.ensures.keeps) c.args.depth is_close (drop c.in-Some-3.behind c.args.source.now.tokens.now.tokens) c.in_ok-step.field-0 c.in_ok-step.ensures.answer) c.in-Some-4.is).0 (part_stands c.expression_before-2.new.into c.args.source.now.tokens.now.tokens c.in_ok-step.field-0 (expression_before (known_names g.R.TypeReader.types c.args.source.now c.args.into.now) c.args.depth is_close (drop c.in-Some-3.behind c.args.source.now.tokens.now.tokens)) c.in-Some-4.step c.in-Some-4.end (part_start c.args.source.now.typedefs.now (g.R.TypeReader.types c.args.source.now.reader.now) c.args.into.now c.expression_before.new.into c.expression_before-2.new.into c.args.source.now.tokens.now.tokens c.requires.tied (extends_then c.args.into.now c.for_first.new.into c.expression_before.new.into c.for_first.ensures.keeps c.expression_before.ensures.keeps) c.args.depth is_close (drop c.in-Some-3.behind c.args.source.now.tokens.now.tokens) c.in_ok-step.field-0 c.in_ok-step.ensures.answer) c.in-Some-4.is).1;
}

pub returns-in-None : goal.returns-in-None
returns-in-None g c = record {
  keeps = extends_then c.args.into.now c.expression_before.new.into c.expression_before-2.new.into (extends_then c.args.into.now c.for_first.new.into c.expression_before.new.into c.for_first.ensures.keeps c.expression_before.ensures.keeps) c.expression_before-2.ensures.keeps;
  answer =
      head_unstepped (known_names g.R.TypeReader.types c.args.source.now c.args.into.now) c.args.depth (drop c.args.at c.args.source.now.tokens.now.tokens) c.args.source.now.tokens.now.tokens (drop c.in-Some.inside c.args.source.now.tokens.now.tokens) c.in-Some.ensures.0 c.for_first.new.into c.in_ok-first.field-0 c.in_ok-first.ensures.answer c.in-Some-2.first c.in-Some-2.next c.in-Some-2.is c.expression_before.new.into c.in-Some-3.condition c.in-Some-3.behind (part_got c.expression_before.new.into c.args.source.now.tokens.now.tokens c.in_ok-condition.field-0 (expression_before (known_names g.R.TypeReader.types c.args.source.now c.args.into.now) c.args.depth is_semicolon (drop c.in-Some-2.next c.args.source.now.tokens.now.tokens)) c.in-Some-3.condition c.in-Some-3.behind (part_start c.args.source.now.typedefs.now (g.R.TypeReader.types c.args.source.now.reader.now) c.args.into.now c.for_first.new.into c.expression_before.new.into c.args.source.now.tokens.now.tokens c.requires.tied c.for_first.ensures.keeps c.args.depth is_semicolon (drop c.in-Some-2.next c.args.source.now.tokens.now.tokens) c.in_ok-condition.field-0 c.in_ok-condition.ensures.answer) c.in-Some-3.is) c.expression_before-2.new.into (part_lost c.expression_before-2.new.into c.args.source.now.tokens.now.tokens c.in_ok-step.field-0 (expression_before (known_names g.R.TypeReader.types c.args.source.now c.args.into.now) c.args.depth is_close (drop c.in-Some-3.behind c.args.source.now.tokens.now.tokens)) (part_start c.args.source.now.typedefs.now (g.R.TypeReader.types c.args.source.now.reader.now) c.args.into.now c.expression_before.new.into c.expression_before-2.new.into c.args.source.now.tokens.now.tokens c.requires.tied (extends_then c.args.into.now c.for_first.new.into c.expression_before.new.into c.for_first.ensures.keeps c.expression_before.ensures.keeps) c.args.depth is_close (drop c.in-Some-3.behind c.args.source.now.tokens.now.tokens) c.in_ok-step.field-0 c.in_ok-step.ensures.answer) c.in-None.is);
}

pub after-requires : goal.after-requires
after-requires g c = c.requires.place

pub for_first-requires : goal.for_first-requires
for_first-requires g c = record { place = c.in-Some.ensures.1; tied = c.requires.tied }

pub expression_before-requires : goal.expression_before-requires
expression_before-requires g c = record { place = (first_there c.for_first.new.into (known_names g.R.TypeReader.types c.args.source.now c.args.into.now) c.args.depth c.args.source.now.tokens.now.tokens c.in_ok-first.field-0 (drop c.in-Some.inside c.args.source.now.tokens.now.tokens) c.in-Some-2.first c.in-Some-2.next c.in_ok-first.ensures.answer c.in-Some-2.is).1; tied = tied_kept (g.R.TypeReader.types c.args.source.now.reader.now) c.args.into.now c.for_first.new.into c.args.source.now.tokens.now.tokens c.requires.tied c.for_first.ensures.keeps }

pub expression_before-requires-2 : goal.expression_before-requires-2
expression_before-requires-2 g c = record { place = (part_stands c.expression_before.new.into c.args.source.now.tokens.now.tokens c.in_ok-condition.field-0 (expression_before (known_names g.R.TypeReader.types c.args.source.now c.for_first.new.into) c.args.depth is_semicolon (drop c.in-Some-2.next c.args.source.now.tokens.now.tokens)) c.in-Some-3.condition c.in-Some-3.behind c.in_ok-condition.ensures.answer c.in-Some-3.is).1; tied = tied_kept (g.R.TypeReader.types c.args.source.now.reader.now) c.args.into.now c.expression_before.new.into c.args.source.now.tokens.now.tokens c.requires.tied (extends_then c.args.into.now c.for_first.new.into c.expression_before.new.into c.for_first.ensures.keeps c.expression_before.ensures.keeps) }

pub returns-in_err-first : goal.returns-in_err-first
returns-in_err-first g c = record {
  keeps = c.for_first.ensures.keeps;
  answer = IfOk-from_err _ _ c.from_residual.ensures.0;
}

pub returns-in_err-condition : goal.returns-in_err-condition
returns-in_err-condition g c = record {
  keeps = extends_then c.args.into.now c.for_first.new.into c.expression_before.new.into c.for_first.ensures.keeps c.expression_before.ensures.keeps;
  answer = IfOk-from_err _ _ c.from_residual-in_err-condition.ensures.0;
}

pub returns-in_err-step : goal.returns-in_err-step
returns-in_err-step g c = record {
  keeps = extends_then c.args.into.now c.expression_before.new.into c.expression_before-2.new.into (extends_then c.args.into.now c.for_first.new.into c.expression_before.new.into c.for_first.ensures.keeps c.expression_before.ensures.keeps) c.expression_before-2.ensures.keeps;
  answer = IfOk-from_err _ _ c.from_residual-in_err-step.ensures.0;
}
