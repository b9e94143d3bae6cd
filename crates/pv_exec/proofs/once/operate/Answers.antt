use Rattle.std.proofs.Common.{refl, sym, subst, arith}
use Rattle.pv_eval.specs.States.{Res}
use Rattle.pv_eval.specs.Moments.{state_of}
use Rattle.pv_eval.specs.Machines.{after_first}
use Rattle.pv_exec.specs.declared.task.Doing.TheVariants as doing
use Rattle.std.proofs.Common.{Ok}
use Rattle.pv_exec.specs.declared.task.Way.TheVariants as way
use Rattle.pv_exec.specs.Tasks.{Reached}
use Rattle.pv_exec.specs.Works.{does}
use Rattle.pv_exec.specs.Leading.{LeadsOr}
use Rattle.pv_exec.proofs.ByTask.{doing-doing}
use Rattle.pv_exec.proofs.Leaving.{left-again, value-again}
use Rattle.pv_exec.proofs.Calling.{call-does, call-fits}
use Rattle.pv_exec.proofs.Enters.{at-world}
use Rattle.pv_exec.proofs.Loops.{again-does, round-does}
use Rattle.pv_exec.proofs.Rounding.{again-fits, round-fits, body-fits}
use Rattle.pv_exec.proofs.once.operate.Goals as goal

pub returns-in-Enter-clause-led : goal.returns-in-Enter-clause-led
unfolding does
returns-in-Enter-clause-led c = doing-doing c.args.unit.now c.args.doing (doing.Enter c.in-Enter.n) c.enter.result c.args.machine.now c.enter.new.machine c.in-Enter.is (λ b out es hs hl k le tu lt. c.enter.ensures.led b out es hs hl k (tu refl) lt)

pub returns-in-Jump-clause-led : goal.returns-in-Jump-clause-led
returns-in-Jump-clause-led c = doing-doing c.args.unit.now c.args.doing (doing.Jump c.in-Jump.n c.in-Jump.l c.in-Jump.i) c.jump.result c.args.machine.now c.jump.new.machine c.in-Jump.is c.jump.ensures.led

pub returns-in-Statements-clause-led : goal.returns-in-Statements-clause-led
returns-in-Statements-clause-led c = doing-doing c.args.unit.now c.args.doing (doing.Statements c.in-Statements.l c.in-Statements.i) c.next_statement.result c.args.machine.now c.next_statement.new.machine c.in-Statements.is c.next_statement.ensures.led

pub returns-in-Within-clause-led : goal.returns-in-Within-clause-led
returns-in-Within-clause-led c = doing-doing c.args.unit.now c.args.doing (doing.Within c.in-Within.n) c.within.result c.args.machine.now c.within.new.machine c.in-Within.is c.within.ensures.led

pub round_goes_on-requires-clause-there : goal.round_goes_on-requires-clause-there
round_goes_on-requires-clause-there c = (again-fits c.args.unit.now c.args.machine.now.started _ c.in-Again.parts c.args.doing c.in-Again.is c.requires.fits).round.there

pub returns-in-Again-clause-led : goal.returns-in-Again-clause-led
returns-in-Again-clause-led c = doing-doing c.args.unit.now c.args.doing (doing.Again c.in-Again.field-0 c.in-Again.parts) c.round_goes_on.result c.args.machine.now c.round_goes_on.new.machine c.in-Again.is (λ b out es hs hl k le tu lt.
    let u = c.args.unit.now in
    let old = c.args.machine.now in
    let new = c.round_goes_on.new.machine in
    let s = state_of old.moment out es in
    at-world b u (does b u k old.started (doing.Again c.in-Again.field-0 c.in-Again.parts) s) old.started new.started c.round_goes_on.result old.moment new.moment out es c.round_goes_on.ensures.moment
    (again-does b u k c.in-Again.field-0 c.in-Again.parts old.started new.started c.round_goes_on.result s (c.round_goes_on.ensures.led b k s le (omega (arith, lt)))))

pub begin_again-requires-clause-there : goal.begin_again-requires-clause-there
begin_again-requires-clause-there c = (round-fits c.args.unit.now c.args.machine.now.started c.in-Round.parts c.args.doing c.in-Round.is c.requires.fits).there

pub returns-in-Round-clause-led : goal.returns-in-Round-clause-led
returns-in-Round-clause-led c = doing-doing c.args.unit.now c.args.doing (doing.Round c.in-Round.parts) c.begin_again.result c.args.machine.now c.begin_again.new.machine c.in-Round.is (λ b out es hs hl k le tu lt.
    let u = c.args.unit.now in
    let old = c.args.machine.now in
    let new = c.begin_again.new.machine in
    let s = state_of old.moment out es in
    at-world b u (does b u k old.started (doing.Round c.in-Round.parts) s) old.started new.started c.begin_again.result old.moment new.moment out es c.begin_again.ensures.moment
    (round-does b u k c.in-Round.parts old.started new.started c.begin_again.result s (c.begin_again.ensures.led b k s le (omega (arith, lt)))))

pub begin_body-requires-clause-fits : goal.begin_body-requires-clause-fits
begin_body-requires-clause-fits c = body-fits c.args.unit.now c.args.machine.now.started c.in-Body.parts c.args.doing c.in-Body.is c.requires.fits

pub returns-in-Body-clause-led : goal.returns-in-Body-clause-led
returns-in-Body-clause-led c = doing-doing c.args.unit.now c.args.doing (doing.Body c.in-Body.parts) c.begin_body.result c.args.machine.now c.begin_body.new.machine c.in-Body.is c.begin_body.ensures.led

pub returns-in-Store-clause-led : goal.returns-in-Store-clause-led
returns-in-Store-clause-led c = doing-doing c.args.unit.now c.args.doing (doing.Store c.in-Store.o c.in-Store.i) c.store.result c.args.machine.now c.store.new.machine c.in-Store.is c.store.ensures.led

pub returns-in-Absent-clause-led : goal.returns-in-Absent-clause-led
returns-in-Absent-clause-led c = doing-doing c.args.unit.now c.args.doing doing.Absent c.pass_body.result c.args.machine.now c.pass_body.new.machine c.in-Absent.is c.pass_body.ensures.led

pub call-requires-clause-asked : goal.call-requires-clause-asked
call-requires-clause-asked c = (call-fits c.args.unit.now c.args.machine.now.started c.in-Call.f c.args.doing c.in-Call.is c.requires.fits).0

pub call-requires-clause-there : goal.call-requires-clause-there
call-requires-clause-there c = (call-fits c.args.unit.now c.args.machine.now.started c.in-Call.f c.args.doing c.in-Call.is c.requires.fits).2

pub returns-in-Call-clause-led : goal.returns-in-Call-clause-led
returns-in-Call-clause-led c = doing-doing c.args.unit.now c.args.doing (doing.Call c.in-Call.f) c.call.result c.args.machine.now c.call.new.machine c.in-Call.is (λ b out es hs hl k le tu lt.
    let u = c.args.unit.now in
    let f = c.in-Call.f in
    let old = c.args.machine.now in
    let new = c.call.new.machine in
    let s = state_of old.moment out es in
    let fits = call-fits u old.started f c.args.doing c.in-Call.is c.requires.fits in
    subst (λ (m : Res Reached). LeadsOr b u m (after_first old.started) c.call.result new.started (state_of new.moment out es)) (sym (call-does b u k f old.started s fits.0 fits.1))
    (c.call.ensures.led b out es hs hl k le (omega (arith, lt))))

pub returns-in-Evaluate-clause-led : goal.returns-in-Evaluate-clause-led
returns-in-Evaluate-clause-led c = doing-doing c.args.unit.now c.args.doing doing.Evaluate c.go_on.result c.args.machine.now c.go_on.new.machine c.in-Evaluate.is c.go_on.ensures.led

pub returns-in-Left-clause-led : goal.returns-in-Left-clause-led
returns-in-Left-clause-led c = doing-doing c.args.unit.now c.args.doing (doing.Left c.in-Left.flow) (Ok (way.Do (doing.Left c.in-Left.flow))) c.args.machine.now c.args.machine.now c.in-Left.is (λ b out es hs hl k le tu lt. left-again b c.args.unit.now k c.in-Left.flow c.args.machine.now.started (state_of c.args.machine.now.moment out es) (omega (arith, lt)))

pub returns-in-Evaluated-clause-led : goal.returns-in-Evaluated-clause-led
returns-in-Evaluated-clause-led c = doing-doing c.args.unit.now c.args.doing doing.Evaluated (Ok (way.Do doing.Evaluated)) c.args.machine.now c.args.machine.now c.in-Evaluated.is (λ b out es hs hl k le tu lt. value-again b c.args.unit.now k c.args.machine.now.started (state_of c.args.machine.now.moment out es) (omega (arith, lt)))
