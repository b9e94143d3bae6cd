use Rattle.std.proofs.Common.{drop}
use Rattle.std.proofs.lemmas.Result.{MatchResult-weaker}
use Rattle.pv_expr_forms.proofs.Parsed.{is_read}
use Rattle.pv_decl_forms.proofs.Constants.{constant_answers}
use Rattle.pv_expr_forms.specs.Sources.{known_names}
use Rattle.pv_decl.proofs.declarations.Declarations.constant.Goals as goal

pub returns : goal.returns
returns g c = record {
  keeps = c.expression.ensures.keeps;
  answer =
      let tokens = c.args.self.now.source.tokens.now.tokens in
      let read = is_read c.args.self.now.source.typedefs.now (g.R.TypeReader.types c.args.self.now.source.reader.now) c.args.into.now c.expression.new.into tokens c.args.at 3 c.args.depth c.requires.tied.tied c.requires.place
      c.expression.result c.expression.ensures.found c.expression.ensures.longest c.expression.ensures.none in
      MatchResult-weaker c.expression.result read (λ r a. constant_answers c.expression.new.into tokens (known_names g.R.TypeReader.types c.args.self.now.source c.args.into.now) c.args.depth (drop c.args.at tokens) r a) (λ e h. h);
}

pub expression-requires : goal.expression-requires
expression-requires g c = c.requires.tied.tied
