use Rattle.std.proofs.Common.{sym, ap, ◌∙◌}
use Rattle.pv_tree.specs.Tables.{as_expression}
use Rattle.pv_check.specs.Open.{state_of}
use Rattle.pv_check.specs.Rows.{callee}
use Rattle.pv_check.proofs.calls.+callee.Goals as goal

pub returns-in-Paren-clause-value : goal.returns-in-Paren-clause-value
returns-in-Paren-clause-value t c = λ texts hidden.
    c.callee.ensures.value texts hidden ∙ ap (λ x. callee (state_of texts hidden c.args.s.now c.args.into.now).scopes (as_expression x)) (sym c.in-Paren.ensures.tree)
