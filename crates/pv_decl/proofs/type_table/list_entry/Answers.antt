use Rattle.std.proofs.lemmas.Result.{IfOk-from_err}
use Rattle.pv_tree.proofs.Kept.{extends_same}
use Rattle.pv_decl.proofs.Givens.{limited}
use Rattle.pv_decl.proofs.type_table.list_entry.Goals as goal

pub returns-clause-ok : goal.returns-clause-ok
returns-clause-ok c = limited _ _ _ _ _ c.in_ok-parameters.ensures.answer

pub returns-then-not-opens-clause-keeps : goal.returns-then-not-opens-clause-keeps
returns-then-not-opens-clause-keeps c = extends_same _

pub returns-then-not-opens-clause-ok : goal.returns-then-not-opens-clause-ok
returns-then-not-opens-clause-ok c = tt

pub closes_soon-requires : goal.closes_soon-requires
closes_soon-requires c = c.requires.place

pub returns-then-closes_soon-clause-keeps : goal.returns-then-closes_soon-clause-keeps
returns-then-closes_soon-clause-keeps c = extends_same _

pub returns-then-closes_soon-clause-ok : goal.returns-then-closes_soon-clause-ok
returns-then-closes_soon-clause-ok c = tt

pub parameters-requires-clause-ready : goal.parameters-requires-clause-ready
parameters-requires-clause-ready c = record { place = c.requires.place; tied = c.requires.tied }

pub parameters-requires-clause-left : goal.parameters-requires-clause-left
parameters-requires-clause-left c = tt

pub returns-in_err-parameters-clause-keeps : goal.returns-in_err-parameters-clause-keeps
returns-in_err-parameters-clause-keeps c = c.parameters.ensures.keeps

pub returns-in_err-parameters-clause-ok : goal.returns-in_err-parameters-clause-ok
returns-in_err-parameters-clause-ok c = IfOk-from_err _ _ c.from_residual.ensures.0

pub returns-clause-keeps : goal.returns-clause-keeps
returns-clause-keeps c = c.parameters.ensures.keeps
