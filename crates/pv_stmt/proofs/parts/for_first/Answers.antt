use Rattle.std.proofs.Common.{◌∙◌, sym, drop}
use Rattle.std.proofs.lemmas.Result.{IfOk-from_err}
use Rattle.pv_stmt_forms.proofs.Heading.{declaration_none, declaration_some, expression_none, expression_some}
use Rattle.pv_expr_forms.specs.Sources.{known_names}
use Rattle.pv_stmt.proofs.parts.for_first.Goals as goal

pub returns-in-Some : goal.returns-in-Some
returns-in-Some g c = record {
  keeps = c.declared.ensures.keeps;
  answer =
      declaration_some (known_names g.R.TypeReader.types c.args.source.now c.args.into.now) c.args.depth (drop c.args.at c.args.source.now.tokens.now.tokens) (sym (c.begins_type.ensures (g.R.TypeReader.types c.args.source.now.reader.now) c.args.into.now) ∙ c.if-begins_type.true) c.declared.new.into c.args.source.now.tokens.now.tokens c.in_ok-declaration.field-0 c.in_ok-declaration.ensures.answer c.in-Some.declaration c.in-Some.end c.in-Some.is;
}

pub returns-in-None : goal.returns-in-None
returns-in-None g c = record {
  keeps = c.declared.ensures.keeps;
  answer =
      declaration_none (known_names g.R.TypeReader.types c.args.source.now c.args.into.now) c.args.depth (drop c.args.at c.args.source.now.tokens.now.tokens) (sym (c.begins_type.ensures (g.R.TypeReader.types c.args.source.now.reader.now) c.args.into.now) ∙ c.if-begins_type.true) c.declared.new.into c.args.source.now.tokens.now.tokens c.in_ok-declaration.field-0 c.in_ok-declaration.ensures.answer c.in-None.is;
}

pub returns-in-Some-2 : goal.returns-in-Some-2
returns-in-Some-2 g c = record {
  keeps = c.expression_before.ensures.keeps;
  answer =
      expression_some (known_names g.R.TypeReader.types c.args.source.now c.args.into.now) c.args.depth (drop c.args.at c.args.source.now.tokens.now.tokens) (sym (c.begins_type.ensures (g.R.TypeReader.types c.args.source.now.reader.now) c.args.into.now) ∙ c.if-begins_type.false) c.expression_before.new.into c.args.source.now.tokens.now.tokens c.in_ok-first.field-0 c.in_ok-first.ensures.answer c.in-Some-2.first c.in-Some-2.end c.in-Some-2.is;
}

pub returns-in-None-2 : goal.returns-in-None-2
returns-in-None-2 g c = record {
  keeps = c.expression_before.ensures.keeps;
  answer =
      expression_none (known_names g.R.TypeReader.types c.args.source.now c.args.into.now) c.args.depth (drop c.args.at c.args.source.now.tokens.now.tokens) (sym (c.begins_type.ensures (g.R.TypeReader.types c.args.source.now.reader.now) c.args.into.now) ∙ c.if-begins_type.false) c.expression_before.new.into c.args.source.now.tokens.now.tokens c.in_ok-first.field-0 c.in_ok-first.ensures.answer c.in-None-2.is;
}

pub begins_type-requires : goal.begins_type-requires
begins_type-requires g c = c.requires.place

pub declared-requires : goal.declared-requires
declared-requires g c = c.requires

pub expression_before-requires : goal.expression_before-requires
expression_before-requires g c = c.requires

pub returns-in_err-declaration : goal.returns-in_err-declaration
returns-in_err-declaration g c = record {
  keeps = c.declared.ensures.keeps;
  answer = IfOk-from_err _ _ c.from_residual.ensures.0;
}

pub returns-in_err-first : goal.returns-in_err-first
returns-in_err-first g c = record {
  keeps = c.expression_before.ensures.keeps;
  answer = IfOk-from_err _ _ c.from_residual-in_err-first.ensures.0;
}
