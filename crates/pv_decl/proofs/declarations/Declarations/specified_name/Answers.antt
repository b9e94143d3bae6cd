use Rattle.std.proofs.Common.{ap, sym, ◌∙◌, drop, ℕ, List, true, false, arith, length}
use Rattle.std.specs.Vec.{vec_len}
use Rattle.std.proofs.lemmas.Result.{IfOk-from_err}
use Rattle.pv_tree.specs.declared.nodes.NodeId.{NodeId}
use Rattle.pv_tree.specs.Grammar.{line_here}
use Rattle.pv_tree.specs.Places.{AbstractDeclarators}
use Rattle.pv_tree.specs.Syntax.{TypeName}
use Rattle.pv_tree.specs.Tables.{trees_of, is_declarator, is_specifier}
use Rattle.pv_tree.proofs.Kept.{extends_then}
use Rattle.pv_expr_forms.specs.Known.{names_in}
use Rattle.pv_decl_forms.specs.Pieces.{part_if_any}
use Rattle.pv_decl_forms.specs.Answers.{piece_from}
use Rattle.pv_decl_forms.specs.Reader.{made_of, readers}
use Rattle.pv_decl_forms.proofs.Answered.{moved, nothing}
use Rattle.pv_decl_forms.proofs.Loops.{at_start, all_kept}
use Rattle.pv_decl_forms.proofs.Outer.{same_count, type_name_none_by, type_name_some_by}
use Rattle.pv_decl.specs.Filled.{list_map}
use Rattle.pv_decl.proofs.Givens.{given_kept}
use Rattle.pv_expr_forms.specs.Sources.{known_names}
use Rattle.pv_decl.proofs.declarations.Declarations.specified_name.Goals as goal

pub returns-then-is_empty : goal.returns-then-is_empty
returns-then-is_empty g c = record {
  keeps = c.row.ensures.keeps;
  answer =
      let tokens = c.args.self.now.source.tokens.now.tokens in
      let names = known_names g.R.TypeReader.types c.args.self.now.source c.args.into.now in
      nothing _ _ _ _ (type_name_none_by names c.args.depth (drop c.args.at tokens) c.row.new.into tokens c.in_ok-specs.specs.items c.in_ok-specs.next c.in_ok-specs.ensures.answer (same_count (vec_len c.in_ok-specs.specs) (length c.in_ok-specs.specs.items) true (omega (arith, c.in_ok-specs.specs.ok.0)) (sym c.is_empty.ensures ∙ c.if-is_empty.true)));
}

pub type_name_of-requires-clause-specs : goal.type_name_of-requires-clause-specs
type_name_of-requires-clause-specs g c =
    rw c.deref.ensures.value (all_kept is_specifier c.row.new.into c.read.new.into c.read.ensures.keeps c.in_ok-specs.specs.items c.in_ok-specs.ensures.answer.there)

pub returns : goal.returns
returns g c = record {
  keeps = extends_then _ _ _ (extends_then _ _ _ c.row.ensures.keeps c.read.ensures.keeps) c.type_name_of.ensures.keeps;
  answer =
      let tokens = c.args.self.now.source.tokens.now.tokens in
      let types = g.R.TypeReader.types c.args.self.now.source.reader.now in
      let u = c.args.into.now in
      let v = c.row.new.into in
      let w = c.read.new.into in
      let names = names_in c.args.self.now.source.typedefs.now types u tokens in
      let answer = c.in_ok-declarator.declarator in
      let b = at_start c.args.self.now.source.typedefs.now types u v w tokens c.requires.tied.tied c.row.ensures.keeps is_declarator answer
      (λ n. readers n c.args.depth AbstractDeclarators (drop c.in_ok-specs.next tokens)) c.in_ok-declarator.ensures.answer in
      moved _ _ _ _ _ _
      (ap (λ (l : ℕ). made_of (TypeName l) (trees_of w.forest c.deref.result.now) (part_if_any (drop c.in_ok-specs.next tokens) (piece_from w.forest tokens answer))) c.line_at-line.ensures
      ∙ ap (λ (ns : List NodeId). made_of (TypeName (line_here (drop c.args.at tokens))) (trees_of w.forest ns) (part_if_any (drop c.in_ok-specs.next tokens) (piece_from w.forest tokens answer))) c.deref.ensures.value
      ∙ type_name_some_by names c.args.depth (drop c.args.at tokens) v tokens c.in_ok-specs.specs.items c.in_ok-specs.next c.in_ok-specs.ensures.answer (same_count (vec_len c.in_ok-specs.specs) (length c.in_ok-specs.specs.items) false (omega (arith, c.in_ok-specs.specs.ok.0)) (sym c.is_empty.ensures ∙ c.if-is_empty.false)) w c.read.ensures.keeps answer b)
      c.type_name_of.ensures.ok;
}

pub line_at-line-requires : goal.line_at-line-requires
line_at-line-requires g c = c.requires.place

pub row-requires : goal.row-requires
row-requires g c = c.requires

pub read-requires : goal.read-requires
read-requires g c = record { place = c.in_ok-specs.ensures.answer.place; tied = given_kept (list_map c.args.self.now.lists.now) c.args.self.now.source.typedefs.now (g.R.TypeReader.types c.args.self.now.source.reader.now) c.args.into.now c.row.new.into c.args.self.now.source.tokens.now.tokens c.requires.tied c.row.ensures.keeps }

pub type_name_of-requires-clause-place : goal.type_name_of-requires-clause-place
type_name_of-requires-clause-place g c = c.in_ok-specs.ensures.answer.place

pub type_name_of-requires-clause-declarator : goal.type_name_of-requires-clause-declarator
type_name_of-requires-clause-declarator g c = c.in_ok-declarator.ensures.answer.there

pub returns-in_err-specs : goal.returns-in_err-specs
returns-in_err-specs g c = record {
  keeps = c.row.ensures.keeps;
  answer = IfOk-from_err _ _ c.from_residual.ensures.0;
}

pub returns-in_err-declarator : goal.returns-in_err-declarator
returns-in_err-declarator g c = record {
  keeps = extends_then _ _ _ c.row.ensures.keeps c.read.ensures.keeps;
  answer = IfOk-from_err _ _ c.from_residual-in_err-declarator.ensures.0;
}
