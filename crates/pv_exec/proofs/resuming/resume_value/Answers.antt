use Rattle.pv_exec.specs.declared.task.Task.TheVariants as task
use Rattle.pv_exec.specs.Tasks.{after_value}
use Rattle.pv_exec.proofs.ByTask.{task-task}
use Rattle.pv_exec.proofs.resuming.resume_value.Goals as goal

pub returns-in-Dropping-clause-led : goal.returns-in-Dropping-clause-led
returns-in-Dropping-clause-led c = task-task c.args.unit.now c.args.task (task.Dropping) c.after_expression.result c.args.machine.now c.after_expression.new.machine c.in-Dropping.is c.after_expression.ensures.led

pub returns-in-Chosen-clause-led : goal.returns-in-Chosen-clause-led
returns-in-Chosen-clause-led c = task-task c.args.unit.now c.args.task (task.Chosen c.in-Chosen.n) c.after_choice.result c.args.machine.now c.after_choice.new.machine c.in-Chosen.is c.after_choice.ensures.led

pub returns-in-First-clause-led : goal.returns-in-First-clause-led
returns-in-First-clause-led c = task-task c.args.unit.now c.args.task (task.First c.in-First.n) c.after_first_part.result c.args.machine.now c.after_first_part.new.machine c.in-First.is c.after_first_part.ensures.led

pub returns-in-Stepped-clause-led : goal.returns-in-Stepped-clause-led
returns-in-Stepped-clause-led c = task-task c.args.unit.now c.args.task (task.Stepped c.in-Stepped.n) c.after_step.result c.args.machine.now c.after_step.new.machine c.in-Stepped.is c.after_step.ensures.led

pub returns-in-TestedDo-clause-led : goal.returns-in-TestedDo-clause-led
returns-in-TestedDo-clause-led c = task-task c.args.unit.now c.args.task (task.TestedDo c.in-TestedDo.n) c.after_do_condition.result c.args.machine.now c.after_do_condition.new.machine c.in-TestedDo.is c.after_do_condition.ensures.led

pub returns-in-Selecting-clause-led : goal.returns-in-Selecting-clause-led
returns-in-Selecting-clause-led c = task-task c.args.unit.now c.args.task (task.Selecting c.in-Selecting.n) c.after_selection.result c.args.machine.now c.after_selection.new.machine c.in-Selecting.is c.after_selection.ensures.led

pub returns-in-Returning-clause-led : goal.returns-in-Returning-clause-led
returns-in-Returning-clause-led c = task-task c.args.unit.now c.args.task (task.Returning c.in-Returning.n) c.after_return.result c.args.machine.now c.after_return.new.machine c.in-Returning.is c.after_return.ensures.led

pub returns-in-Storing-clause-led : goal.returns-in-Storing-clause-led
returns-in-Storing-clause-led c = task-task c.args.unit.now c.args.task (task.Storing c.in-Storing.o c.in-Storing.i) c.after_store.result c.args.machine.now c.after_store.new.machine c.in-Storing.is c.after_store.ensures.led

pub returns-in-Tested-clause-led : goal.returns-in-Tested-clause-led
unfolding after_value
returns-in-Tested-clause-led c = task-task c.args.unit.now c.args.task (task.Tested c.in-Tested.n) c.after_condition.result c.args.machine.now c.after_condition.new.machine c.in-Tested.is (λ b out es hs hl k le lt. c.after_condition.ensures.led b out es hs hl k lt)

pub returns-in-InList-clause-led : goal.returns-in-InList-clause-led
returns-in-InList-clause-led c = task-task c.args.unit.now c.args.task (task.InList c.in-InList.l c.in-InList.i) c.pass_value.result c.args.machine.now c.pass_value.new.machine c.in-InList.is c.pass_value.ensures.led

pub returns-in-InBlock-clause-led : goal.returns-in-InBlock-clause-led
returns-in-InBlock-clause-led c = task-task c.args.unit.now c.args.task (task.InBlock c.in-InBlock.n) c.pass_value-in-InBlock.result c.args.machine.now c.pass_value-in-InBlock.new.machine c.in-InBlock.is c.pass_value-in-InBlock.ensures.led

pub returns-in-InSwitch-clause-led : goal.returns-in-InSwitch-clause-led
returns-in-InSwitch-clause-led c = task-task c.args.unit.now c.args.task (task.InSwitch) c.pass_value-in-InSwitch.result c.args.machine.now c.pass_value-in-InSwitch.new.machine c.in-InSwitch.is c.pass_value-in-InSwitch.ensures.led

pub returns-in-Declared-clause-led : goal.returns-in-Declared-clause-led
returns-in-Declared-clause-led c = task-task c.args.unit.now c.args.task (task.Declared c.in-Declared.n) c.pass_value-in-Declared.result c.args.machine.now c.pass_value-in-Declared.new.machine c.in-Declared.is c.pass_value-in-Declared.ensures.led

pub returns-in-Rounded-clause-led : goal.returns-in-Rounded-clause-led
returns-in-Rounded-clause-led c = task-task c.args.unit.now c.args.task (task.Rounded c.in-Rounded.n) c.pass_value-in-Rounded.result c.args.machine.now c.pass_value-in-Rounded.new.machine c.in-Rounded.is c.pass_value-in-Rounded.ensures.led

pub returns-in-RoundedDo-clause-led : goal.returns-in-RoundedDo-clause-led
returns-in-RoundedDo-clause-led c = task-task c.args.unit.now c.args.task (task.RoundedDo c.in-RoundedDo.n) c.pass_value-in-RoundedDo.result c.args.machine.now c.pass_value-in-RoundedDo.new.machine c.in-RoundedDo.is c.pass_value-in-RoundedDo.ensures.led

pub returns-in-InCall-clause-led : goal.returns-in-InCall-clause-led
returns-in-InCall-clause-led c = task-task c.args.unit.now c.args.task (task.InCall c.in-InCall.f c.in-InCall.line) c.pass_value-in-InCall.result c.args.machine.now c.pass_value-in-InCall.new.machine c.in-InCall.is c.pass_value-in-InCall.ensures.led
