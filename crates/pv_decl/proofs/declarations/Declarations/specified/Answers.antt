use Rattle.std.proofs.Common.{ℕ, List, ap, sym, ◌∙◌, drop, Some, rules}
use Rattle.std.proofs.lemmas.Result.{IfOk-from_err}
use Rattle.pv_tree.specs.declared.nodes.NodeId.{NodeId}
use Rattle.pv_tree.specs.Places.{InitDeclarators}
use Rattle.pv_tree.specs.Syntax.{Declaration, NoTrees, Then}
use Rattle.pv_tree.specs.Tables.{tree_at, trees_of, is_declaration, is_declarator, is_specifier}
use Rattle.pv_tree.proofs.Kept.{extends_then}
use Rattle.pv_expr_forms.specs.Known.{names_in}
use Rattle.pv_decl_forms.specs.Pieces.{Piece, row, after_comma}
use Rattle.pv_decl_forms.specs.Reader.{semicolon_behind, declarator_and_value, readers}
use Rattle.pv_decl_forms.proofs.Growing.{all_as}
use Rattle.pv_decl_forms.proofs.Answered.{moved, nothing, got}
use Rattle.pv_decl_forms.proofs.Loops.{at_start, all_kept}
use Rattle.pv_decl_forms.proofs.Outer.{are_at_start, semicolon_there, no_semicolon, ends_here, specified_none, specified_head, specified_list}
use Rattle.pv_decl.specs.Filled.{list_map}
use Rattle.pv_decl.proofs.Givens.{given_kept}
use Rattle.pv_expr_forms.specs.Sources.{known_names}
use Rattle.pv_decl.proofs.declarations.Declarations.specified.Goals as goal

pub returns-then-is_some : goal.returns-then-is_some
returns-then-is_some g c = record {
  keeps = c.declaration_of.ensures.keeps;
  answer =
      let tokens = c.args.self.now.source.tokens.now.tokens in
      let u = c.args.into.now in
      let r = readers (known_names g.R.TypeReader.types c.args.self.now.source u) c.args.below in
      let s = semicolon_there tokens (drop c.args.at tokens) c.after.result c.after.ensures (sym c.is_some.ensures ∙ c.if-is_some.true) in
      moved _ _ _ _ _ _ (ends_here r c.args.line (trees_of u.forest c.args.specs.now) (drop c.args.at tokens) s.0 s.1) c.declaration_of.ensures.ok;
}

pub returns-in_default : goal.returns-in_default
returns-in_default g c = record {
  keeps = c.read.ensures.keeps;
  answer =
      let tokens = c.args.self.now.source.tokens.now.tokens in
      let u = c.args.into.now in
      let r = readers (known_names g.R.TypeReader.types c.args.self.now.source u) c.args.below in
      let no = no_semicolon tokens (drop c.args.at tokens) c.after.result c.after.ensures (sym c.is_some.ensures ∙ c.if-is_some.false) in
      nothing _ _ _ _ (specified_none u c.read.new.into tokens r c.args.line c.args.at c.args.specs.now c.requires.specs c.read.ensures.keeps no c.in_ok-declarator.field-0 c.in_ok-declarator.ensures.answer c.in_default.is);
}

pub parameter_of-requires-clause-specs : goal.parameter_of-requires-clause-specs
parameter_of-requires-clause-specs g c = all_kept is_specifier c.args.into.now c.read.new.into c.read.ensures.keeps c.args.specs.now c.requires.specs

pub returns-then-opens_block : goal.returns-then-opens_block
returns-then-opens_block g c = record {
  keeps = extends_then _ _ _ c.read.ensures.keeps c.parameter_of.ensures.keeps;
  answer =
      let tokens = c.args.self.now.source.tokens.now.tokens in
      let u = c.args.into.now in
      let r = readers (known_names g.R.TypeReader.types c.args.self.now.source u) c.args.below in
      let no = no_semicolon tokens (drop c.args.at tokens) c.after.result c.after.ensures (sym c.is_some.ensures ∙ c.if-is_some.false) in
      moved _ _ _ _ _ _
      (specified_head u c.read.new.into tokens r c.args.line c.args.at c.args.specs.now c.requires.specs c.read.ensures.keeps no c.in_ok-declarator.field-0 c.in_ok-declarator.ensures.answer
      c.in-Some.declarator c.in-Some.end c.in-Some.is (sym c.opens_block.ensures ∙ c.if-opens_block.true)) c.parameter_of.ensures.ok;
}

pub declaration_of-requires-2-clause-specs : goal.declaration_of-requires-2-clause-specs
declaration_of-requires-2-clause-specs g c =
    let u = c.args.into.now in
    let w = c.initialized.new.into in
    let x = c.declared.new.into in
    let grows = extends_then u w x (extends_then u c.read.new.into w c.read.ensures.keeps c.initialized.ensures.keeps) c.declared.ensures.keeps in
    all_kept is_specifier u x grows c.args.specs.now c.requires.specs

pub returns : goal.returns
returns g c = record {
  keeps = extends_then _ _ _ (extends_then _ _ _ (extends_then _ _ _ c.read.ensures.keeps c.initialized.ensures.keeps) c.declared.ensures.keeps) c.declaration_of-2.ensures.keeps;
  answer =
      let tokens = c.args.self.now.source.tokens.now.tokens in
      let types = g.R.TypeReader.types c.args.self.now.source.reader.now in
      let typedefs = c.args.self.now.source.typedefs.now in
      let u = c.args.into.now in
      let v = c.read.new.into in
      let w = c.initialized.new.into in
      let x = c.declared.new.into in
      let r = readers (names_in typedefs types u tokens) c.args.below in
      let no = no_semicolon tokens (drop c.args.at tokens) c.after.result c.after.ensures (sym c.is_some.ensures ∙ c.if-is_some.false) in
      let on = extends_then u v w c.read.ensures.keeps c.initialized.ensures.keeps in
      let a = at_start typedefs types u v w tokens c.requires.ready.tied.tied c.read.ensures.keeps is_declaration c.in_ok-first.field-0
      (λ n. Some (declarator_and_value (readers n c.args.below) c.line_at-here.result (tree_at v.forest c.in-Some.declarator) (drop c.in-Some.end tokens))) c.in_ok-first.ensures.answer in
      let one = (got w is_declaration tokens c.in_ok-first.field-0 _ c.in-Some-2.first c.in-Some-2.behind a c.in-Some-2.is).0
      ∙ ap (λ (l : ℕ). let y : Piece = Some (declarator_and_value r l (tree_at v.forest c.in-Some.declarator) (drop c.in-Some.end tokens)) in y) c.line_at-here.ensures in
      let all = are_at_start typedefs types u w x tokens c.requires.ready.tied.tied on is_declaration c.in_ok-declared.declared.items c.in_ok-declared.last
      (λ n. row (after_comma (readers n c.args.below InitDeclarators)) (Then NoTrees (tree_at w.forest c.in-Some-2.first)) (drop c.in-Some-2.behind tokens)) c.in_ok-declared.ensures.answer in
      moved _ _ _ _ _ _
      (ap (λ (ns : List NodeId). semicolon_behind (Declaration c.args.line (trees_of x.forest c.args.specs.now) (trees_of x.forest ns)) (drop c.in_ok-declared.last tokens)) c.deref.ensures.value
      ∙ specified_list u v tokens r c.args.line c.args.at c.args.specs.now c.requires.specs c.read.ensures.keeps no c.in_ok-declarator.field-0 c.in_ok-declarator.ensures.answer
      c.in-Some.declarator c.in-Some.end c.in-Some.is (sym c.opens_block.ensures ∙ c.if-opens_block.false) w c.in-Some-2.first c.in-Some-2.behind one
      x (extends_then u w x on c.declared.ensures.keeps) c.in_ok-declared.declared.items c.in_ok-declared.last all) c.declaration_of-2.ensures.ok;
}

pub after-requires : goal.after-requires
after-requires g c = c.requires.ready.place

pub declaration_of-requires-clause-place : goal.declaration_of-requires-clause-place
declaration_of-requires-clause-place g c = c.requires.ready.place

pub declaration_of-requires-clause-specs : goal.declaration_of-requires-clause-specs
declaration_of-requires-clause-specs g c = c.requires.specs

pub read-requires : goal.read-requires
read-requires g c = c.requires.ready

pub parameter_of-requires-clause-place : goal.parameter_of-requires-clause-place
parameter_of-requires-clause-place g c = c.requires.ready.place

pub returns-in_default-2 : goal.returns-in_default-2
returns-in_default-2 g c = record { keeps = extends_then _ _ _ c.read.ensures.keeps c.initialized.ensures.keeps; answer = search rules }

pub declaration_of-requires-2-clause-place : goal.declaration_of-requires-2-clause-place
declaration_of-requires-2-clause-place g c = c.in_ok-declared.ensures.answer.place

pub declaration_of-requires-2-clause-declared : goal.declaration_of-requires-2-clause-declared
declaration_of-requires-2-clause-declared g c = all_as c.declared.new.into is_declaration _ _ c.deref.ensures.value c.in_ok-declared.ensures.answer.there

pub returns-in_err-declarator : goal.returns-in_err-declarator
returns-in_err-declarator g c = record {
  keeps = c.read.ensures.keeps;
  answer = IfOk-from_err _ _ c.from_residual.ensures.0;
}

pub returns-in_err-first : goal.returns-in_err-first
returns-in_err-first g c = record {
  keeps = extends_then _ _ _ c.read.ensures.keeps c.initialized.ensures.keeps;
  answer = IfOk-from_err _ _ c.from_residual-in_err-first.ensures.0;
}

pub returns-in_err-declared : goal.returns-in_err-declared
returns-in_err-declared g c = record {
  keeps = extends_then _ _ _ (extends_then _ _ _ c.read.ensures.keeps c.initialized.ensures.keeps) c.declared.ensures.keeps;
  answer = IfOk-from_err _ _ c.from_residual-in_err-declared.ensures.0;
}

pub opens_block-requires : goal.opens_block-requires
opens_block-requires g c = (got c.read.new.into is_declarator c.args.self.now.source.tokens.now.tokens c.in_ok-declarator.field-0 _ c.in-Some.declarator c.in-Some.end c.in_ok-declarator.ensures.answer c.in-Some.is).2

pub parameter_of-requires-clause-declarator : goal.parameter_of-requires-clause-declarator
parameter_of-requires-clause-declarator g c = ((got c.read.new.into is_declarator c.args.self.now.source.tokens.now.tokens c.in_ok-declarator.field-0 _ c.in-Some.declarator c.in-Some.end c.in_ok-declarator.ensures.answer c.in-Some.is).1, (got c.read.new.into is_declarator c.args.self.now.source.tokens.now.tokens c.in_ok-declarator.field-0 _ c.in-Some.declarator c.in-Some.end c.in_ok-declarator.ensures.answer c.in-Some.is).2)

pub line_at-here-requires : goal.line_at-here-requires
line_at-here-requires g c = c.requires.ready.place

pub initialized-requires-clause-ready : goal.initialized-requires-clause-ready
initialized-requires-clause-ready g c = record { place = (got c.read.new.into is_declarator c.args.self.now.source.tokens.now.tokens c.in_ok-declarator.field-0 _ c.in-Some.declarator c.in-Some.end c.in_ok-declarator.ensures.answer c.in-Some.is).2; tied = given_kept (list_map c.args.self.now.lists.now) c.args.self.now.source.typedefs.now (g.R.TypeReader.types c.args.self.now.source.reader.now) c.args.into.now c.read.new.into c.args.self.now.source.tokens.now.tokens c.requires.ready.tied c.read.ensures.keeps }

pub initialized-requires-clause-declarator : goal.initialized-requires-clause-declarator
initialized-requires-clause-declarator g c = (got c.read.new.into is_declarator c.args.self.now.source.tokens.now.tokens c.in_ok-declarator.field-0 _ c.in-Some.declarator c.in-Some.end c.in_ok-declarator.ensures.answer c.in-Some.is).1

pub declared-requires-clause-ready : goal.declared-requires-clause-ready
declared-requires-clause-ready g c = record {
  place = (got c.initialized.new.into is_declaration c.args.self.now.source.tokens.now.tokens c.in_ok-first.field-0 _ c.in-Some-2.first c.in-Some-2.behind c.in_ok-first.ensures.answer c.in-Some-2.is).2;
  tied =
      let u = c.args.into.now in
      let w = c.initialized.new.into in
      given_kept (list_map c.args.self.now.lists.now) c.args.self.now.source.typedefs.now (g.R.TypeReader.types c.args.self.now.source.reader.now) u w c.args.self.now.source.tokens.now.tokens c.requires.ready.tied (extends_then u c.read.new.into w c.read.ensures.keeps c.initialized.ensures.keeps);
}

pub declared-requires-clause-first : goal.declared-requires-clause-first
declared-requires-clause-first g c = (got c.initialized.new.into is_declaration c.args.self.now.source.tokens.now.tokens c.in_ok-first.field-0 _ c.in-Some-2.first c.in-Some-2.behind c.in_ok-first.ensures.answer c.in-Some-2.is).1
