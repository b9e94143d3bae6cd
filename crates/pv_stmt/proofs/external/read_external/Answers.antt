use Rattle.std.proofs.lemmas.Result.{IfOk-from_err}
use Rattle.pv_tree.proofs.Kept.{extends_then}
use Rattle.pv_tree.specs.Tables.{is_declaration}
use Rattle.pv_stmt_forms.proofs.Chains.{there_of}
use Rattle.pv_expr_forms.proofs.Naming.{tied_kept}
use Rattle.pv_decl_forms.proofs.Answered.{moved}
use Rattle.pv_stmt_forms.proofs.OuterSteps.{head_none, head_declared, head_reads, head_abstract, head_other, not_outer}
use Rattle.pv_stmt.proofs.external.read_external.Goals as goal

pub returns-in_default : goal.returns-in_default
returns-in_default g c = record {
  keeps = c.declaration.ensures.keeps;
  answer =
      head_none c.args.source.now.typedefs.now (g.R.TypeReader.types c.args.source.now.reader.now) c.args.into.now c.declaration.new.into c.args.source.now.tokens.now.tokens c.requires.tied c.declaration.ensures.keeps c.args.at
      c.in_ok-head.field-0 c.in_ok-head.ensures.answer c.in_default.is;
}

pub returns-in-Declaration : goal.returns-in-Declaration
returns-in-Declaration g c = record {
  keeps = c.declaration.ensures.keeps;
  answer =
      head_declared c.args.source.now.typedefs.now (g.R.TypeReader.types c.args.source.now.reader.now) c.args.into.now c.declaration.new.into c.args.source.now.tokens.now.tokens c.requires.tied c.declaration.ensures.keeps c.args.at
      c.in_ok-head.field-0 c.in_ok-head.ensures.answer c.in-Some.head c.in-Some.next c.in-Some.is _ c.in-Declaration.specs c.in-Declaration.declared c.in-Declaration.ensures.tree;
}

pub returns-in_default-declarator : goal.returns-in_default-declarator
returns-in_default-declarator g c = record {
  keeps = c.declaration.ensures.keeps;
  answer =
      head_abstract c.args.source.now.typedefs.now (g.R.TypeReader.types c.args.source.now.reader.now) c.args.into.now c.declaration.new.into c.args.source.now.tokens.now.tokens c.requires.tied c.declaration.ensures.keeps c.args.at
      c.in_ok-head.field-0 c.in_ok-head.ensures.answer c.in-Some.head c.in-Some.next c.in-Some.is _ c.in-Parameter.specs c.in-Parameter.declarator c.in-Parameter.ensures.tree c.in_default-declarator.is;
}

pub returns-in-Some-declarator : goal.returns-in-Some-declarator
returns-in-Some-declarator g c = record {
  keeps = extends_then c.args.into.now c.declaration.new.into c.function.new.into c.declaration.ensures.keeps c.function.ensures.keeps;
  answer =
      moved _ _ _ _ _ _
      (head_reads c.args.source.now.typedefs.now (g.R.TypeReader.types c.args.source.now.reader.now) c.args.into.now c.declaration.new.into c.args.source.now.tokens.now.tokens c.requires.tied c.declaration.ensures.keeps c.args.at
      c.in_ok-head.field-0 c.in_ok-head.ensures.answer c.in-Some.head c.in-Some.next c.in-Some.is c.line-line.result _ c.in-Parameter.specs c.in-Parameter.declarator c.in-Some-declarator.declarator _ c.in-Parameter.ensures.tree c.in-Parameter.ensures.children.1 c.in-Some-declarator.is c.line-line.ensures)
      c.function.ensures.answer;
}

pub returns-in_default-decl : goal.returns-in_default-decl
returns-in_default-decl g c = record {
  keeps = c.declaration.ensures.keeps;
  answer =
      head_other c.args.source.now.typedefs.now (g.R.TypeReader.types c.args.source.now.reader.now) c.args.into.now c.declaration.new.into c.args.source.now.tokens.now.tokens c.requires.tied c.declaration.ensures.keeps c.args.at
      c.in_ok-head.field-0 c.in_ok-head.ensures.answer c.in-Some.head c.in-Some.next c.in-Some.is _ c.decl.result c.decl.ensures.tree (not_outer c.decl.result c.in_default-decl.not-Declaration c.in_default-decl.not-Parameter);
}

pub declaration-requires : goal.declaration-requires
declaration-requires g c = c.requires

pub decl-requires : goal.decl-requires
decl-requires g c = (there_of c.declaration.new.into is_declaration c.args.source.now.tokens.now.tokens c.in_ok-head.field-0 _ c.in_ok-head.ensures.answer c.in-Some.head c.in-Some.next c.in-Some.is).0

pub function-requires-clause-ready : goal.function-requires-clause-ready
function-requires-clause-ready g c = record { place = (there_of c.declaration.new.into is_declaration c.args.source.now.tokens.now.tokens c.in_ok-head.field-0 _ c.in_ok-head.ensures.answer c.in-Some.head c.in-Some.next c.in-Some.is).1; tied = tied_kept (g.R.TypeReader.types c.args.source.now.reader.now) c.args.into.now c.declaration.new.into c.args.source.now.tokens.now.tokens c.requires.tied c.declaration.ensures.keeps }

pub returns-in_err-head : goal.returns-in_err-head
returns-in_err-head g c = record {
  keeps = c.declaration.ensures.keeps;
  answer = IfOk-from_err _ _ c.from_residual.ensures.0;
}
