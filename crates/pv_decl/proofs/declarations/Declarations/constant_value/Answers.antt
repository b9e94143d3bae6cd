use Rattle.std.proofs.Common.{drop}
use Rattle.std.proofs.lemmas.Result.{IfOk-from_err}
use Rattle.pv_tree.specs.Places.{Constants}
use Rattle.pv_tree.specs.Tables.{is_expression}
use Rattle.pv_tree.proofs.Kept.{extends_same}
use Rattle.pv_decl_forms.specs.Reader.{readers}
use Rattle.pv_decl.proofs.Valued.{no_equals, no_value, one_value}
use Rattle.pv_expr_forms.specs.Sources.{known_names}
use Rattle.pv_decl.proofs.declarations.Declarations.constant_value.Goals as goal

pub after-requires : goal.after-requires
after-requires g c = c.requires.place

pub constant-requires : goal.constant-requires
constant-requires g c = record { place = c.in-Some.ensures.1; tied = c.requires.tied }

pub returns-in_err-value : goal.returns-in_err-value
returns-in_err-value g c = record {
  keeps = c.constant.ensures.keeps;
  answer = IfOk-from_err _ _ c.from_residual.ensures.0;
}

pub returns-in_default : goal.returns-in_default
returns-in_default g c = record {
  keeps = extends_same _;
  answer =
      no_equals c.args.into.now is_expression c.args.self.now.source.tokens.now.tokens (readers (known_names g.R.TypeReader.types c.args.self.now.source c.args.into.now) c.args.depth Constants) c.args.at c.requires.place c.in_default.ensures;
}

pub returns-in-Some-2 : goal.returns-in-Some-2
returns-in-Some-2 g c = record {
  keeps = c.constant.ensures.keeps;
  answer =
      one_value c.constant.new.into is_expression c.args.self.now.source.tokens.now.tokens (readers (known_names g.R.TypeReader.types c.args.self.now.source c.args.into.now) c.args.depth Constants) c.args.at (drop c.in-Some.behind c.args.self.now.source.tokens.now.tokens) c.in-Some.ensures.0 c.in_ok-value.field-0 c.in_ok-value.ensures.answer c.in-Some-2.value c.in-Some-2.end c.in-Some-2.is;
}

pub returns-in-None : goal.returns-in-None
returns-in-None g c = record {
  keeps = c.constant.ensures.keeps;
  answer =
      no_value c.constant.new.into is_expression c.args.self.now.source.tokens.now.tokens (readers (known_names g.R.TypeReader.types c.args.self.now.source c.args.into.now) c.args.depth Constants) c.args.at (drop c.in-Some.behind c.args.self.now.source.tokens.now.tokens) c.in-Some.ensures.0 c.in_ok-value.field-0 c.in_ok-value.ensures.answer c.requires.place c.in-None.is;
}
