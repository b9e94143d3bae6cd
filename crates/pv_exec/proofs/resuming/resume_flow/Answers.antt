use Rattle.std.proofs.Common.{refl, sym}
use Rattle.pv_eval.specs.Moments.{state_of}
use Rattle.pv_exec.specs.declared.task.Task.TheVariants as task
use Rattle.std.proofs.Common.{Ok}
use Rattle.pv_exec.specs.declared.task.Doing.TheVariants as doing
use Rattle.pv_exec.specs.declared.task.Way.TheVariants as way
use Rattle.pv_exec.specs.declared.task.Task.{Task}
use Rattle.pv_exec.specs.Fits.{WayFits}
use Rattle.pv_exec.specs.Works.{behind_call}
use Rattle.std.proofs.Common.{subst}
use Rattle.pv_exec.specs.Tasks.{after_flow}
use Rattle.pv_exec.proofs.ByTask.{flow-task}
use Rattle.pv_exec.proofs.Enters.{at-world}
use Rattle.pv_exec.proofs.Leaving.{leaves-at}
use Rattle.pv_exec.proofs.resuming.resume_flow.Goals as goal

pub returns-in-InList-clause-led : goal.returns-in-InList-clause-led
returns-in-InList-clause-led c = flow-task c.args.unit.now c.args.task (task.InList c.in-InList.l c.in-InList.i) c.args.flow c.after_statement.result c.args.machine.now c.after_statement.new.machine c.in-InList.is c.after_statement.ensures.led

pub returns-in-Declared-clause-led : goal.returns-in-Declared-clause-led
returns-in-Declared-clause-led c = flow-task c.args.unit.now c.args.task (task.Declared c.in-Declared.n) c.args.flow c.after_declarations.result c.args.machine.now c.after_declarations.new.machine c.in-Declared.is c.after_declarations.ensures.led

pub returns-in-RoundedDo-clause-led : goal.returns-in-RoundedDo-clause-led
returns-in-RoundedDo-clause-led c = flow-task c.args.unit.now c.args.task (task.RoundedDo c.in-RoundedDo.n) c.args.flow c.after_do_body.result c.args.machine.now c.after_do_body.new.machine c.in-RoundedDo.is c.after_do_body.ensures.led

pub returns-in-InCall-clause-led : goal.returns-in-InCall-clause-led
returns-in-InCall-clause-led c = flow-task c.args.unit.now c.args.task (task.InCall c.in-InCall.f c.in-InCall.line) c.args.flow c.after_call.result c.args.machine.now c.after_call.new.machine c.in-InCall.is c.after_call.ensures.led

pub returns-in-InBlock-clause-led : goal.returns-in-InBlock-clause-led
unfolding after_flow
returns-in-InBlock-clause-led c = flow-task c.args.unit.now c.args.task (task.InBlock c.in-InBlock.n) c.args.flow c.after_block.result c.args.machine.now c.after_block.new.machine c.in-InBlock.is (λ b out es hs hl k le lt. c.after_block.ensures.led b out es hs hl k lt)

pub returns-in-InSwitch-clause-led : goal.returns-in-InSwitch-clause-led
unfolding after_flow
returns-in-InSwitch-clause-led c = flow-task c.args.unit.now c.args.task task.InSwitch c.args.flow (Ok c.after_switch.result) c.args.machine.now c.args.machine.now c.in-InSwitch.is (λ b out es hs hl k le lt. c.after_switch.ensures.led b c.args.unit.now k c.args.machine.now.started (state_of c.args.machine.now.moment out es) lt)

pub returns-in-Rounded-clause-led : goal.returns-in-Rounded-clause-led
unfolding after_flow
returns-in-Rounded-clause-led c = flow-task c.args.unit.now c.args.task (task.Rounded c.in-Rounded.n) c.args.flow c.after_body.result c.args.machine.now c.after_body.new.machine c.in-Rounded.is (λ b out es hs hl k le lt. at-world b c.args.unit.now _ c.args.machine.now.started c.after_body.new.machine.started c.after_body.result c.args.machine.now.moment c.after_body.new.machine.moment out es c.after_body.ensures.moment (c.after_body.ensures.led b k (state_of c.args.machine.now.moment out es) le lt))

pub returns-in-Dropping-clause-led : goal.returns-in-Dropping-clause-led
unfolding after_flow
returns-in-Dropping-clause-led c = flow-task c.args.unit.now c.args.task (task.Dropping) c.args.flow (Ok (way.Do (doing.Left c.args.flow))) c.args.machine.now c.args.machine.now c.in-Dropping.is (λ b out es hs hl k le lt. leaves-at b c.args.unit.now k _ c.args.flow c.args.machine.now.started c.args.machine.now.started (state_of c.args.machine.now.moment out es) lt refl refl)

pub returns-in-Chosen-clause-led : goal.returns-in-Chosen-clause-led
unfolding after_flow
returns-in-Chosen-clause-led c = flow-task c.args.unit.now c.args.task (task.Chosen c.in-Chosen.field-0) c.args.flow (Ok (way.Do (doing.Left c.args.flow))) c.args.machine.now c.args.machine.now c.in-Chosen.is (λ b out es hs hl k le lt. leaves-at b c.args.unit.now k _ c.args.flow c.args.machine.now.started c.args.machine.now.started (state_of c.args.machine.now.moment out es) lt refl refl)

pub returns-in-First-clause-led : goal.returns-in-First-clause-led
unfolding after_flow
returns-in-First-clause-led c = flow-task c.args.unit.now c.args.task (task.First c.in-First.field-0) c.args.flow (Ok (way.Do (doing.Left c.args.flow))) c.args.machine.now c.args.machine.now c.in-First.is (λ b out es hs hl k le lt. leaves-at b c.args.unit.now k _ c.args.flow c.args.machine.now.started c.args.machine.now.started (state_of c.args.machine.now.moment out es) lt refl refl)

pub returns-in-Tested-clause-led : goal.returns-in-Tested-clause-led
unfolding after_flow
returns-in-Tested-clause-led c = flow-task c.args.unit.now c.args.task (task.Tested c.in-Tested.field-0) c.args.flow (Ok (way.Do (doing.Left c.args.flow))) c.args.machine.now c.args.machine.now c.in-Tested.is (λ b out es hs hl k le lt. leaves-at b c.args.unit.now k _ c.args.flow c.args.machine.now.started c.args.machine.now.started (state_of c.args.machine.now.moment out es) lt refl refl)

pub returns-in-Stepped-clause-led : goal.returns-in-Stepped-clause-led
unfolding after_flow
returns-in-Stepped-clause-led c = flow-task c.args.unit.now c.args.task (task.Stepped c.in-Stepped.field-0) c.args.flow (Ok (way.Do (doing.Left c.args.flow))) c.args.machine.now c.args.machine.now c.in-Stepped.is (λ b out es hs hl k le lt. leaves-at b c.args.unit.now k _ c.args.flow c.args.machine.now.started c.args.machine.now.started (state_of c.args.machine.now.moment out es) lt refl refl)

pub returns-in-TestedDo-clause-led : goal.returns-in-TestedDo-clause-led
unfolding after_flow
returns-in-TestedDo-clause-led c = flow-task c.args.unit.now c.args.task (task.TestedDo c.in-TestedDo.field-0) c.args.flow (Ok (way.Do (doing.Left c.args.flow))) c.args.machine.now c.args.machine.now c.in-TestedDo.is (λ b out es hs hl k le lt. leaves-at b c.args.unit.now k _ c.args.flow c.args.machine.now.started c.args.machine.now.started (state_of c.args.machine.now.moment out es) lt refl refl)

pub returns-in-Selecting-clause-led : goal.returns-in-Selecting-clause-led
unfolding after_flow
returns-in-Selecting-clause-led c = flow-task c.args.unit.now c.args.task (task.Selecting c.in-Selecting.field-0) c.args.flow (Ok (way.Do (doing.Left c.args.flow))) c.args.machine.now c.args.machine.now c.in-Selecting.is (λ b out es hs hl k le lt. leaves-at b c.args.unit.now k _ c.args.flow c.args.machine.now.started c.args.machine.now.started (state_of c.args.machine.now.moment out es) lt refl refl)

pub returns-in-Returning-clause-led : goal.returns-in-Returning-clause-led
unfolding after_flow
returns-in-Returning-clause-led c = flow-task c.args.unit.now c.args.task (task.Returning c.in-Returning.field-0) c.args.flow (Ok (way.Do (doing.Left c.args.flow))) c.args.machine.now c.args.machine.now c.in-Returning.is (λ b out es hs hl k le lt. leaves-at b c.args.unit.now k _ c.args.flow c.args.machine.now.started c.args.machine.now.started (state_of c.args.machine.now.moment out es) lt refl refl)

pub returns-in-Storing-clause-led : goal.returns-in-Storing-clause-led
unfolding after_flow
returns-in-Storing-clause-led c = flow-task c.args.unit.now c.args.task (task.Storing c.in-Storing.field-0 c.in-Storing.field-1) c.args.flow (Ok (way.Do (doing.Left c.args.flow))) c.args.machine.now c.args.machine.now c.in-Storing.is (λ b out es hs hl k le lt. leaves-at b c.args.unit.now k _ c.args.flow c.args.machine.now.started c.args.machine.now.started (state_of c.args.machine.now.moment out es) lt refl refl)

pub returns-in-InSwitch-clause-ways : goal.returns-in-InSwitch-clause-ways
returns-in-InSwitch-clause-ways c =
    let es = c.args.machine.now.started in
    subst (λ (t : Task). WayFits c.args.unit.now (behind_call t es) es c.after_switch.result) (sym c.in-InSwitch.is) (c.after_switch.ensures.ways c.args.unit.now es).0

pub returns-in-InSwitch-clause-quick : goal.returns-in-InSwitch-clause-quick
returns-in-InSwitch-clause-quick c = (c.after_switch.ensures.ways c.args.unit.now c.args.machine.now.started).1
