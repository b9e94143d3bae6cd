use Rattle.std.proofs.Common.{ap, ◌∙◌, drop, Some, ℕ}
use Rattle.std.proofs.lemmas.Result.{IfOk-from_err}
use Rattle.pv_tree.specs.Tables.{tree_at, is_declarator}
use Rattle.pv_tree.proofs.Kept.{extends_then}
use Rattle.pv_expr_forms.specs.Known.{names_in}
use Rattle.pv_decl_forms.specs.Pieces.{Piece}
use Rattle.pv_decl_forms.specs.Reader.{declarator_and_value, readers}
use Rattle.pv_decl_forms.proofs.Answered.{moved, nothing, got}
use Rattle.pv_decl_forms.proofs.Outer.{init_none, init_some, moved_at_start}
use Rattle.pv_decl.specs.Filled.{list_map}
use Rattle.pv_decl.proofs.Givens.{given_kept}
use Rattle.pv_expr_forms.specs.Sources.{known_names}
use Rattle.pv_decl.proofs.declarations.Declarations.init_declarator.Goals as goal

pub returns-in-None : goal.returns-in-None
returns-in-None g c = record {
  keeps = c.read.ensures.keeps;
  answer =
      let tokens = c.args.self.now.source.tokens.now.tokens in
      let names = known_names g.R.TypeReader.types c.args.self.now.source c.args.into.now in
      nothing _ _ _ _ (init_none names c.args.depth (drop c.args.at tokens) c.read.new.into tokens c.in_ok-declarator.field-0 c.in_ok-declarator.ensures.answer c.in-None.is);
}

pub returns-in-Some : goal.returns-in-Some
returns-in-Some g c = record {
  keeps = extends_then _ _ _ c.read.ensures.keeps c.initialized.ensures.keeps;
  answer =
      let tokens = c.args.self.now.source.tokens.now.tokens in
      let types = g.R.TypeReader.types c.args.self.now.source.reader.now in
      let names = names_in c.args.self.now.source.typedefs.now types c.args.into.now tokens in
      let v = c.read.new.into in
      moved _ _ _ _ _ _
      (ap (λ (l : ℕ). let x : Piece = Some (declarator_and_value (readers names c.args.depth) l (tree_at v.forest c.in-Some.declarator) (drop c.in-Some.end tokens)) in x) c.line_at-line.ensures
      ∙ init_some names c.args.depth (drop c.args.at tokens) v tokens c.in_ok-declarator.field-0 c.in_ok-declarator.ensures.answer c.in-Some.declarator c.in-Some.end c.in-Some.is)
      (moved_at_start c.args.self.now.source.typedefs.now types c.args.into.now v c.initialized.new.into tokens c.requires.tied.tied c.read.ensures.keeps _ c.initialized.result
      (λ n. Some (declarator_and_value (readers n c.args.depth) c.line_at-line.result (tree_at v.forest c.in-Some.declarator) (drop c.in-Some.end tokens))) c.initialized.ensures.answer);
}

pub line_at-line-requires : goal.line_at-line-requires
line_at-line-requires g c = c.requires.place

pub read-requires : goal.read-requires
read-requires g c = c.requires

pub returns-in_err-declarator : goal.returns-in_err-declarator
returns-in_err-declarator g c = record {
  keeps = c.read.ensures.keeps;
  answer = IfOk-from_err _ _ c.from_residual.ensures.0;
}

pub initialized-requires-clause-ready : goal.initialized-requires-clause-ready
initialized-requires-clause-ready g c = record { place = (got c.read.new.into is_declarator c.args.self.now.source.tokens.now.tokens c.in_ok-declarator.field-0 _ c.in-Some.declarator c.in-Some.end c.in_ok-declarator.ensures.answer c.in-Some.is).2; tied = given_kept (list_map c.args.self.now.lists.now) c.args.self.now.source.typedefs.now (g.R.TypeReader.types c.args.self.now.source.reader.now) c.args.into.now c.read.new.into c.args.self.now.source.tokens.now.tokens c.requires.tied c.read.ensures.keeps }

pub initialized-requires-clause-declarator : goal.initialized-requires-clause-declarator
initialized-requires-clause-declarator g c = (got c.read.new.into is_declarator c.args.self.now.source.tokens.now.tokens c.in_ok-declarator.field-0 _ c.in-Some.declarator c.in-Some.end c.in_ok-declarator.ensures.answer c.in-Some.is).1
