use Rattle.std.proofs.Common.{◌∙◌, sym, drop}
use Rattle.std.proofs.lemmas.Result.{IfOk-from_err}
use Rattle.pv_tree.specs.Tables.{tree_at, is_declaration}
use Rattle.pv_decl_forms.specs.Reader.{declaration}
use Rattle.pv_decl_forms.proofs.Answered.{nothing}
use Rattle.pv_stmt_forms.proofs.Chains.{first_some, first_none, there_of, declared_none, declared_other, declared_so}
use Rattle.pv_expr_forms.specs.Sources.{known_names}
use Rattle.pv_stmt.proofs.parts.declared.Goals as goal

pub returns-in_default : goal.returns-in_default
returns-in_default g c = record {
  keeps = c.declaration.ensures.keeps;
  answer =
      nothing _ _ _ _ (declared_none (declaration (known_names g.R.TypeReader.types c.args.source.now c.args.into.now) c.args.depth (drop c.args.at c.args.source.now.tokens.now.tokens)) (first_none c.declaration.new.into is_declaration c.args.source.now.tokens.now.tokens c.in_ok-node.field-0 (declaration (known_names g.R.TypeReader.types c.args.source.now c.args.into.now) c.args.depth (drop c.args.at c.args.source.now.tokens.now.tokens)) c.in_ok-node.ensures.answer c.in_default.is));
}

pub returns-then-is_declaration : goal.returns-then-is_declaration
returns-then-is_declaration g c = record {
  keeps = c.declaration.ensures.keeps;
  answer =
      record {
        is = declared_so (declaration (known_names g.R.TypeReader.types c.args.source.now c.args.into.now) c.args.depth (drop c.args.at c.args.source.now.tokens.now.tokens)) (tree_at c.declaration.new.into.forest c.in-Some.node, drop c.in-Some.end c.args.source.now.tokens.now.tokens) (first_some c.declaration.new.into is_declaration c.args.source.now.tokens.now.tokens c.in_ok-node.field-0 (declaration (known_names g.R.TypeReader.types c.args.source.now c.args.into.now) c.args.depth (drop c.args.at c.args.source.now.tokens.now.tokens)) c.in_ok-node.ensures.answer c.in-Some.node c.in-Some.end c.in-Some.is) (sym c.is_declaration.ensures ∙ c.if-is_declaration.true);
        there = there_of c.declaration.new.into is_declaration c.args.source.now.tokens.now.tokens c.in_ok-node.field-0 (declaration (known_names g.R.TypeReader.types c.args.source.now c.args.into.now) c.args.depth (drop c.args.at c.args.source.now.tokens.now.tokens)) c.in_ok-node.ensures.answer c.in-Some.node c.in-Some.end c.in-Some.is;
      };
}

pub returns-else-is_declaration : goal.returns-else-is_declaration
returns-else-is_declaration g c = record {
  keeps = c.declaration.ensures.keeps;
  answer =
      nothing _ _ _ _ (declared_other (declaration (known_names g.R.TypeReader.types c.args.source.now c.args.into.now) c.args.depth (drop c.args.at c.args.source.now.tokens.now.tokens)) (tree_at c.declaration.new.into.forest c.in-Some.node, drop c.in-Some.end c.args.source.now.tokens.now.tokens) (first_some c.declaration.new.into is_declaration c.args.source.now.tokens.now.tokens c.in_ok-node.field-0 (declaration (known_names g.R.TypeReader.types c.args.source.now c.args.into.now) c.args.depth (drop c.args.at c.args.source.now.tokens.now.tokens)) c.in_ok-node.ensures.answer c.in-Some.node c.in-Some.end c.in-Some.is) (sym c.is_declaration.ensures ∙ c.if-is_declaration.false));
}

pub is_declaration-requires : goal.is_declaration-requires
is_declaration-requires g c = (there_of c.declaration.new.into is_declaration c.args.source.now.tokens.now.tokens c.in_ok-node.field-0 (declaration (known_names g.R.TypeReader.types c.args.source.now c.args.into.now) c.args.depth (drop c.args.at c.args.source.now.tokens.now.tokens)) c.in_ok-node.ensures.answer c.in-Some.node c.in-Some.end c.in-Some.is).0

pub declaration-requires : goal.declaration-requires
declaration-requires g c = c.requires

pub returns-in_err-node : goal.returns-in_err-node
returns-in_err-node g c = record {
  keeps = c.declaration.ensures.keeps;
  answer = IfOk-from_err _ _ c.from_residual.ensures.0;
}
