use Rattle.std.proofs.Common.{refl}
use Rattle.pv_serve.proofs.TypedLemmas.{nameless_constraint, nameless_main, its_name}
use Rattle.pv_serve.proofs.checking.name_of.Goals as goal

pub returns-in-Constraint : goal.returns-in-Constraint
returns-in-Constraint c = nameless_constraint c.args.tokens.now _ _ _ c.in-Constraint.is c.empty.ensures

pub returns-in-Unresolved : goal.returns-in-Unresolved
returns-in-Unresolved c = its_name c.args.tokens.now _ _ _ _ _ c.in-Unresolved.is c.name.ensures refl c.copied.ensures

pub returns-in-NoMain : goal.returns-in-NoMain
returns-in-NoMain c = nameless_main c.args.tokens.now _ _ c.in-NoMain.is c.empty-in-NoMain.ensures
