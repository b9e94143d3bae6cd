use Rattle.std.proofs.Common.{ℕ, List, ap, sym, ◌∙◌, ◌-◌, drop, length, true, false, arith}
use Rattle.std.specs.Vec.{vec_len}
use Rattle.std.proofs.lemmas.Result.{IfOk-from_err}
use Rattle.pv_tree.specs.declared.nodes.NodeId.{NodeId}
use Rattle.pv_tree.specs.Grammar.{line_here}
use Rattle.pv_tree.specs.Tables.{trees_of, is_declaration, is_specifier}
use Rattle.pv_tree.proofs.Kept.{extends_same, extends_then}
use Rattle.pv_expr_forms.specs.Known.{names_in}
use Rattle.pv_decl_forms.specs.Reader.{readers, after_specifiers}
use Rattle.pv_decl_forms.proofs.Growing.{all_as}
use Rattle.pv_decl_forms.proofs.Answered.{moved, nothing}
use Rattle.pv_decl_forms.proofs.Outer.{moved_at_start, same_count, declaration_zero, declaration_none_by, declaration_some_by}
use Rattle.pv_decl.specs.Filled.{list_map}
use Rattle.pv_decl.proofs.Givens.{given_kept}
use Rattle.pv_expr_forms.specs.Sources.{known_names}
use Rattle.pv_decl.proofs.declarations.Declarations.declaration.Goals as goal

pub returns-then-depth-eq0 : goal.returns-then-depth-eq0
returns-then-depth-eq0 g c = record {
  keeps = extends_same _;
  answer = nothing _ _ _ _ (declaration_zero _ _ _ c.if-depth-eq0.true);
}

pub returns-then-is_empty : goal.returns-then-is_empty
returns-then-is_empty g c = record {
  keeps = c.row.ensures.keeps;
  answer =
      let tokens = c.args.self.now.source.tokens.now.tokens in
      let names = known_names g.R.TypeReader.types c.args.self.now.source c.args.into.now in
      nothing _ _ _ _ (declaration_none_by names c.args.depth (drop c.args.at tokens) (omega arith) c.row.new.into tokens c.in_ok-specs.specs.items c.in_ok-specs.next c.in_ok-specs.ensures.answer
      (same_count (vec_len c.in_ok-specs.specs) (length c.in_ok-specs.specs.items) true (omega (arith, c.in_ok-specs.specs.ok.0)) (sym c.is_empty.ensures ∙ c.if-is_empty.true)));
}

pub returns : goal.returns
returns g c = record {
  keeps = extends_then _ _ _ c.row.ensures.keeps c.specified.ensures.keeps;
  answer =
      let tokens = c.args.self.now.source.tokens.now.tokens in
      let types = g.R.TypeReader.types c.args.self.now.source.reader.now in
      let typedefs = c.args.self.now.source.typedefs.now in
      let u = c.args.into.now in
      let v = c.row.new.into in
      let names = names_in typedefs types u tokens in
      moved _ _ _ _ _ _
      (ap (λ (l : ℕ). after_specifiers (readers names (c.args.depth - 1)) l (trees_of v.forest c.deref.result.now) (drop c.in_ok-specs.next tokens)) c.line_at-line.ensures
      ∙ ap (λ (ns : List NodeId). after_specifiers (readers names (c.args.depth - 1)) (line_here (drop c.args.at tokens)) (trees_of v.forest ns) (drop c.in_ok-specs.next tokens)) c.deref.ensures.value
      ∙ declaration_some_by names c.args.depth (drop c.args.at tokens) (omega arith) v tokens c.in_ok-specs.specs.items c.in_ok-specs.next c.in_ok-specs.ensures.answer
      (same_count (vec_len c.in_ok-specs.specs) (length c.in_ok-specs.specs.items) false (omega (arith, c.in_ok-specs.specs.ok.0)) (sym c.is_empty.ensures ∙ c.if-is_empty.false)))
      (moved_at_start typedefs types u v c.specified.new.into tokens c.requires.tied.tied c.row.ensures.keeps is_declaration c.specified.result
      (λ n. after_specifiers (readers n (c.args.depth - 1)) c.line_at-line.result (trees_of v.forest c.deref.result.now) (drop c.in_ok-specs.next tokens)) c.specified.ensures.answer);
}

pub line_at-line-requires : goal.line_at-line-requires
line_at-line-requires g c = c.requires.place

pub row-requires : goal.row-requires
row-requires g c = c.requires

pub specified-requires-clause-ready : goal.specified-requires-clause-ready
specified-requires-clause-ready g c = record { place = c.in_ok-specs.ensures.answer.place; tied = given_kept (list_map c.args.self.now.lists.now) c.args.self.now.source.typedefs.now (g.R.TypeReader.types c.args.self.now.source.reader.now) c.args.into.now c.row.new.into c.args.self.now.source.tokens.now.tokens c.requires.tied c.row.ensures.keeps }

pub specified-requires-clause-specs : goal.specified-requires-clause-specs
specified-requires-clause-specs g c = all_as c.row.new.into is_specifier _ _ c.deref.ensures.value c.in_ok-specs.ensures.answer.there

pub returns-in_err-specs : goal.returns-in_err-specs
returns-in_err-specs g c = record {
  keeps = c.row.ensures.keeps;
  answer = IfOk-from_err _ _ c.from_residual.ensures.0;
}

pub overflow_sub-depth : goal.overflow_sub-depth
overflow_sub-depth g c = omega (arith, c.if-depth-eq0.false)

pub overflow_sub-depth-2 : goal.overflow_sub-depth-2
overflow_sub-depth-2 g c = omega (arith, c.if-depth-eq0.false)
