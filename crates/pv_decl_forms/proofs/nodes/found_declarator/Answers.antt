use Rattle.std.proofs.Common.{refl}
use Rattle.pv_tree.specs.Nodes.{declarator_of}
use Rattle.pv_tree.specs.Syntax.{OfDeclarator}
use Rattle.pv_tree.specs.Tables.{is_declarator}
use Rattle.pv_expr_forms.proofs.Answered.{kept_same, kept_tree}
use Rattle.pv_decl_forms.proofs.Answered.{added}
use Rattle.pv_decl_forms.proofs.nodes.found_declarator.Goals as goal

pub returns-in_err-add_declarator-clause-keeps : goal.returns-in_err-add_declarator-clause-keeps
returns-in_err-add_declarator-clause-keeps c = kept_same c.args.into.now c.add_declarator.new.self (c.in_err-add_declarator.ensures.unchanged)

pub returns-clause-keeps : goal.returns-clause-keeps
returns-clause-keeps c = kept_tree c.args.into.now c.add_declarator.new.self (OfDeclarator (declarator_of c.args.into.now.forest c.args.line c.args.declarator)) c.in_ok-add_declarator.ensures.made.0

pub returns-clause-ok : goal.returns-clause-ok
returns-clause-ok c = added c.args.into.now c.add_declarator.new.self is_declarator c.args.tokens.now.tokens (OfDeclarator (declarator_of c.args.into.now.forest c.args.line c.args.declarator)) c.in_ok-add_declarator.field-0 c.args.next c.in_ok-add_declarator.ensures.made.0 c.in_ok-add_declarator.ensures.made.1 refl c.requires.place
