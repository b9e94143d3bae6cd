use Rattle.std.proofs.Common.{refl}
use Rattle.pv_tree.specs.Nodes.{specifier_of}
use Rattle.pv_tree.specs.Syntax.{OfSpecifier}
use Rattle.pv_tree.specs.Tables.{is_specifier}
use Rattle.pv_expr_forms.proofs.Answered.{kept_same, kept_tree}
use Rattle.pv_decl_forms.proofs.Answered.{added}
use Rattle.pv_decl_forms.proofs.nodes.found_specifier.Goals as goal

pub returns-in_err-add_spec-clause-keeps : goal.returns-in_err-add_spec-clause-keeps
returns-in_err-add_spec-clause-keeps c = kept_same c.args.into.now c.add_spec.new.self (c.in_err-add_spec.ensures.unchanged)

pub returns-clause-keeps : goal.returns-clause-keeps
returns-clause-keeps c = kept_tree c.args.into.now c.add_spec.new.self (OfSpecifier (specifier_of c.args.into.now.forest c.args.line c.args.specifier)) c.in_ok-add_spec.ensures.made.0

pub returns-clause-ok : goal.returns-clause-ok
returns-clause-ok c = added c.args.into.now c.add_spec.new.self is_specifier c.args.tokens.now.tokens (OfSpecifier (specifier_of c.args.into.now.forest c.args.line c.args.specifier)) c.in_ok-add_spec.field-0 c.args.next c.in_ok-add_spec.ensures.made.0 c.in_ok-add_spec.ensures.made.1 refl c.requires.place
