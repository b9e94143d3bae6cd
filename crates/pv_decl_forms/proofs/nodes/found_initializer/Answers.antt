use Rattle.std.proofs.Common.{refl}
use Rattle.pv_tree.specs.Nodes.{initializer_of}
use Rattle.pv_tree.specs.Syntax.{OfInitializer}
use Rattle.pv_tree.specs.Tables.{is_initializer}
use Rattle.pv_expr_forms.proofs.Answered.{kept_same, kept_tree}
use Rattle.pv_decl_forms.proofs.Answered.{added}
use Rattle.pv_decl_forms.proofs.nodes.found_initializer.Goals as goal

pub returns-in_err-add_init-clause-keeps : goal.returns-in_err-add_init-clause-keeps
returns-in_err-add_init-clause-keeps c = kept_same c.args.into.now c.add_init.new.self (c.in_err-add_init.ensures.unchanged)

pub returns-clause-keeps : goal.returns-clause-keeps
returns-clause-keeps c = kept_tree c.args.into.now c.add_init.new.self (OfInitializer (initializer_of c.args.into.now.forest c.args.line c.args.initializer)) c.in_ok-add_init.ensures.made.0

pub returns-clause-ok : goal.returns-clause-ok
returns-clause-ok c = added c.args.into.now c.add_init.new.self is_initializer c.args.tokens.now.tokens (OfInitializer (initializer_of c.args.into.now.forest c.args.line c.args.initializer)) c.in_ok-add_init.field-0 c.args.next c.in_ok-add_init.ensures.made.0 c.in_ok-add_init.ensures.made.1 refl c.requires.place
