use Rattle.std.proofs.Common.{sym, ◌∙◌, arith}
use Rattle.pv_typed.specs.NodeTrees.{expression_at, statement_at}
use Rattle.pv_exec.proofs.Enters.{switch-enters, switch-leaves}
use Rattle.pv_exec.proofs.enter.begin_switch.Goals as goal

pub returns-then-is_block-clause-led : goal.returns-then-is_block-clause-led
returns-then-is_block-clause-led c = λ b k s lt.
    let u = c.args.unit.now in
    c.evaluate.ensures.led b u k s _ (omega (arith, lt)) (switch-enters b u k c.args.n _ (expression_at u c.args.c) (statement_at u c.args.x) s c.requires.form (sym c.is_block.ensures ∙ c.if-is_block.true))

pub returns-else-is_block-clause-led : goal.returns-else-is_block-clause-led
returns-else-is_block-clause-led c = λ b k s lt.
    let u = c.args.unit.now in
    switch-leaves b u k c.args.machine.now.started (statement_at u c.args.n) _ (expression_at u c.args.c) (statement_at u c.args.x) s lt c.requires.form (sym c.is_block.ensures ∙ c.if-is_block.false)
