use Rattle.std.proofs.Common.{drop}
use Rattle.std.proofs.lemmas.Result.{IfOk-from_err}
use Rattle.pv_tree.specs.Tables.{is_declarator}
use Rattle.pv_tree.proofs.Kept.{extends_then, is_kept}
use Rattle.pv_decl_forms.specs.Reader.{readers}
use Rattle.pv_decl_forms.proofs.Answered.{moved}
use Rattle.pv_decl_forms.proofs.Initials.{initialized_is}
use Rattle.pv_expr_forms.specs.Sources.{known_names}
use Rattle.pv_decl.proofs.declarations.Declarations.initialized.Goals as goal

pub returns : goal.returns
returns g c = record {
  keeps = extends_then _ _ _ c.initial_value.ensures.keeps c.found_declaration.ensures.keeps;
  answer =
      let tokens = c.args.self.now.source.tokens.now.tokens in
      let part = readers (known_names g.R.TypeReader.types c.args.self.now.source c.args.into.now) c.args.depth in
      moved _ _ _ _ _ _ (initialized_is c.args.into.now c.initial_value.new.into tokens part c.args.line c.args.declarator (drop c.args.at tokens) c.in_ok-init.init c.in_ok-init.end c.initial_value.ensures.keeps c.requires.declarator c.in_ok-init.ensures.answer) c.found_declaration.ensures.ok;
}

pub initial_value-requires : goal.initial_value-requires
initial_value-requires g c = c.requires.ready

pub found_declaration-requires-clause-place : goal.found_declaration-requires-clause-place
found_declaration-requires-clause-place g c = c.in_ok-init.ensures.answer.place

pub returns-in_err-init : goal.returns-in_err-init
returns-in_err-init g c = record {
  keeps = c.initial_value.ensures.keeps;
  answer = IfOk-from_err _ _ c.from_residual.ensures.0;
}

pub found_declaration-requires-clause-children : goal.found_declaration-requires-clause-children
found_declaration-requires-clause-children g c = (is_kept c.args.into.now c.initial_value.new.into is_declarator c.args.declarator c.initial_value.ensures.keeps c.requires.declarator, c.in_ok-init.ensures.answer.there)
