use Rattle.std.proofs.Common.{refl}
use Rattle.pv_tree.specs.Nodes.{declaration_of}
use Rattle.pv_tree.specs.Syntax.{OfDeclaration}
use Rattle.pv_tree.specs.Tables.{is_declaration}
use Rattle.pv_expr_forms.proofs.Answered.{kept_same, kept_tree}
use Rattle.pv_decl_forms.proofs.Answered.{added}
use Rattle.pv_decl_forms.proofs.nodes.found_declaration.Goals as goal

pub returns-in_err-add_decl-clause-keeps : goal.returns-in_err-add_decl-clause-keeps
returns-in_err-add_decl-clause-keeps c = kept_same c.args.into.now c.add_decl.new.self (c.in_err-add_decl.ensures.unchanged)

pub returns-clause-keeps : goal.returns-clause-keeps
returns-clause-keeps c = kept_tree c.args.into.now c.add_decl.new.self (OfDeclaration (declaration_of c.args.into.now.forest c.args.line c.args.declaration)) c.in_ok-add_decl.ensures.made.0

pub returns-clause-ok : goal.returns-clause-ok
returns-clause-ok c = added c.args.into.now c.add_decl.new.self is_declaration c.args.tokens.now.tokens (OfDeclaration (declaration_of c.args.into.now.forest c.args.line c.args.declaration)) c.in_ok-add_decl.field-0 c.args.next c.in_ok-add_decl.ensures.made.0 c.in_ok-add_decl.ensures.made.1 refl c.requires.place
