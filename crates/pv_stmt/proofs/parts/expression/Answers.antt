use Rattle.std.proofs.Common.{drop}
use Rattle.std.proofs.lemmas.Result.{MatchResult-weaker}
use Rattle.pv_expr_forms.specs.Numbers.{level_number}
use Rattle.pv_expr_forms.proofs.Parsed.{is_read}
use Rattle.pv_stmt_forms.proofs.Chains.{expression_answers}
use Rattle.pv_expr_forms.specs.Sources.{known_names}
use Rattle.pv_stmt.proofs.parts.expression.Goals as goal

pub returns : goal.returns
returns g c = record {
  keeps = c.expression.ensures.keeps;
  answer =
      let read = is_read c.args.source.now.typedefs.now (g.R.TypeReader.types c.args.source.now.reader.now) c.args.into.now c.expression.new.into c.args.source.now.tokens.now.tokens c.args.at (level_number c.args.level) c.args.depth c.requires.tied c.requires.place
      c.expression.result c.expression.ensures.found c.expression.ensures.longest c.expression.ensures.none in
      MatchResult-weaker c.expression.result read (λ r a. expression_answers c.expression.new.into c.args.source.now.tokens.now.tokens (known_names g.R.TypeReader.types c.args.source.now c.args.into.now) c.args.depth (level_number c.args.level) (drop c.args.at c.args.source.now.tokens.now.tokens) r a) (λ e h. h);
}
