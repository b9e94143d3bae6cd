use Rattle.std.proofs.lemmas.Result.{IfOk-from_err}
use Rattle.pv_tree.specs.Tables.{is_declarator, is_expression}
use Rattle.pv_tree.proofs.Kept.{extends_then}
use Rattle.pv_decl_forms.specs.Reader.{readers}
use Rattle.pv_decl_forms.proofs.Growing.{some_kept}
use Rattle.pv_decl_forms.proofs.Answered.{moved, got}
use Rattle.pv_decl_forms.proofs.Constants.{array_some, array_none}
use Rattle.pv_expr_forms.specs.Sources.{known_names}
use Rattle.pv_decl.proofs.declarations.Declarations.array.Goals as goal

pub returns-in-Some : goal.returns-in-Some
returns-in-Some g c = record {
  keeps = extends_then _ _ _ c.constant.ensures.keeps c.array_of.ensures.keeps;
  answer =
      moved _ _ _ _ _ _ (array_some c.args.into.now c.constant.new.into c.args.self.now.source.tokens.now.tokens c.args.at c.args.line (readers (known_names g.R.TypeReader.types c.args.self.now.source c.args.into.now) c.args.below) c.args.left c.constant.ensures.keeps c.requires.left c.in_ok-size.field-0 c.in_ok-size.ensures.answer c.in-Some.size c.in-Some.end c.in-Some.is) c.array_of.ensures.ok;
}

pub returns-in-None : goal.returns-in-None
returns-in-None g c = record {
  keeps = extends_then _ _ _ c.constant.ensures.keeps c.array_of-in-None.ensures.keeps;
  answer =
      moved _ _ _ _ _ _ (array_none c.args.into.now c.constant.new.into c.args.self.now.source.tokens.now.tokens c.args.at c.args.line (readers (known_names g.R.TypeReader.types c.args.self.now.source c.args.into.now) c.args.below) c.args.left c.constant.ensures.keeps c.requires.left c.in_ok-size.field-0 c.in_ok-size.ensures.answer c.in-None.is) c.array_of-in-None.ensures.ok;
}

pub constant-requires : goal.constant-requires
constant-requires g c = c.requires.ready

pub array_of-requires-clause-left : goal.array_of-requires-clause-left
array_of-requires-clause-left g c = some_kept c.args.into.now c.constant.new.into is_declarator c.args.left c.constant.ensures.keeps c.requires.left

pub array_of-requires-in-None-clause-place : goal.array_of-requires-in-None-clause-place
array_of-requires-in-None-clause-place g c = c.requires.ready.place

pub array_of-requires-in-None-clause-left : goal.array_of-requires-in-None-clause-left
array_of-requires-in-None-clause-left g c = some_kept c.args.into.now c.constant.new.into is_declarator c.args.left c.constant.ensures.keeps c.requires.left

pub array_of-requires-in-None-clause-size : goal.array_of-requires-in-None-clause-size
array_of-requires-in-None-clause-size g c = tt

pub returns-in_err-size : goal.returns-in_err-size
returns-in_err-size g c = record {
  keeps = c.constant.ensures.keeps;
  answer = IfOk-from_err _ _ c.from_residual.ensures.0;
}

pub array_of-requires-clause-place : goal.array_of-requires-clause-place
array_of-requires-clause-place g c = (got c.constant.new.into is_expression c.args.self.now.source.tokens.now.tokens c.in_ok-size.field-0 _ c.in-Some.size c.in-Some.end c.in_ok-size.ensures.answer c.in-Some.is).2

pub array_of-requires-clause-size : goal.array_of-requires-clause-size
array_of-requires-clause-size g c = (got c.constant.new.into is_expression c.args.self.now.source.tokens.now.tokens c.in_ok-size.field-0 _ c.in-Some.size c.in-Some.end c.in_ok-size.ensures.answer c.in-Some.is).1
