use Rattle.std.proofs.Common.{sym, ◌∙◌}
use Rattle.pv_eval.proofs.codes.code_of.Goals as goal

pub node-requires : goal.node-requires
node-requires c = (c.requires.within, sym c.is_expression.ensures ∙ c.if-not-is_expression.false)

pub form_code-requires-clause-there : goal.form_code-requires-clause-there
form_code-requires-clause-there c = (c.requires.within, sym c.is_expression.ensures ∙ c.if-not-is_expression.false)

pub returns-in-Some : goal.returns-in-Some
returns-in-Some c = λ there. c.in-Some.ensures
