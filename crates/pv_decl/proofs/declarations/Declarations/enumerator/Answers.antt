use Rattle.std.proofs.Common.{◌∙◌, arith, sym}
use Rattle.std.proofs.lemmas.Result.{IfOk-from_err}
use Rattle.pv_tree.proofs.Kept.{extends_same, extends_then}
use Rattle.pv_decl_forms.proofs.Answered.{moved, nothing}
use Rattle.pv_decl_forms.proofs.Constants.{enumerator_end, enumerator_unnamed, enumerator_type, enumerator_made, type_in}
use Rattle.pv_expr_forms.specs.Sources.{known_names}
use Rattle.pv_decl.proofs.declarations.Declarations.enumerator.Goals as goal

pub returns-in_default : goal.returns-in_default
returns-in_default g c = record {
  keeps = extends_same _;
  answer = nothing _ _ _ _ (enumerator_end _ _ _ c.in_default.ensures);
}

pub returns-in_default-name_of : goal.returns-in_default-name_of
returns-in_default-name_of g c = record {
  keeps = extends_same _;
  answer = nothing _ _ _ _ (enumerator_unnamed _ _ _ c.in-Some.token _ c.in-Some.ensures.0 (sym c.in_default-name_of.ensures));
}

pub returns-then-is_type : goal.returns-then-is_type
returns-then-is_type g c = record {
  keeps = extends_same _;
  answer =
      nothing _ _ _ _ (enumerator_type _ _ _ c.in-Some.token _ c.in-Some.ensures.0 c.in-Some-name_of.name (sym c.in-Some-name_of.ensures) (type_in c.args.self.now.source.typedefs.now (g.R.TypeReader.types c.args.self.now.source.reader.now) c.args.into.now c.args.self.now.source.tokens.now.tokens c.in-Some-name_of.name ∙ sym c.is_type.ensures ∙ c.if-is_type.true));
}

pub returns : goal.returns
returns g c = record {
  keeps = extends_then _ _ _ c.constant_value.ensures.keeps c.found_declaration.ensures.keeps;
  answer =
      moved _ _ _ _ _ _ (enumerator_made (known_names g.R.TypeReader.types c.args.self.now.source c.args.into.now) c.args.depth _ c.in-Some.token _ c.in-Some.ensures.0 c.in-Some-name_of.name (sym c.in-Some-name_of.ensures) (type_in c.args.self.now.source.typedefs.now (g.R.TypeReader.types c.args.self.now.source.reader.now) c.args.into.now c.args.self.now.source.tokens.now.tokens c.in-Some-name_of.name ∙ sym c.is_type.ensures ∙ c.if-is_type.false) c.constant_value.new.into c.args.self.now.source.tokens.now.tokens c.in_ok-value.value c.in_ok-value.end c.in_ok-value.ensures.answer) c.found_declaration.ensures.ok;
}

pub peek-requires : goal.peek-requires
peek-requires g c = c.requires.place

pub found_declaration-requires-clause-place : goal.found_declaration-requires-clause-place
found_declaration-requires-clause-place g c = c.in_ok-value.ensures.answer.place

pub returns-in_err-value : goal.returns-in_err-value
returns-in_err-value g c = record {
  keeps = c.constant_value.ensures.keeps;
  answer = IfOk-from_err _ _ c.from_residual.ensures.0;
}

pub overflow_add-at : goal.overflow_add-at
overflow_add-at g c = record { fits = c.in-Some.ensures.2 }

pub constant_value-requires : goal.constant_value-requires
constant_value-requires g c = record { place = omega (arith, c.in-Some.ensures.1); tied = c.requires.tied }

pub found_declaration-requires-clause-children : goal.found_declaration-requires-clause-children
found_declaration-requires-clause-children g c = c.in_ok-value.ensures.answer.there
