use Rattle.std.proofs.Common.{refl, sym, subst, ap, ◌∙◌, arith}
use Rattle.pv_typed.specs.Tables.{nodes}
use Rattle.pv_typed.specs.NodeTrees.{expression_at, statement_at}
use Rattle.pv_eval.specs.Moments.{state_of}
use Rattle.pv_exec.specs.OfRuns.{below}
use Rattle.pv_exec.specs.declared.task.Flow.TheVariants as flow
use Rattle.pv_typed.specs.Nodes.{optional_in}
use Rattle.pv_typed.specs.TypedStatement.{For, Return}
use Rattle.pv_typed.specs.Trees.{statement_line}
use Rattle.pv_world.specs.declared.got.Got.TheVariants as got
use Rattle.pv_exec.specs.Leading.{LeadsOr}
use Rattle.pv_exec.specs.Entering.{behind_turn}
use Rattle.pv_exec.specs.Tasks.{left_flow}
use Rattle.pv_exec.proofs.Leaving.{leaves-with}
use Rattle.pv_exec.proofs.Enters.{expression-enters, choice-enters, choice-else-enters, return-enters, for-enters, do-enters, leaves, at-world, while-is, for-is-round}
use Rattle.pv_exec.proofs.enter.begin.Goals as goal

pub returns-in-Expression-clause-led : goal.returns-in-Expression-clause-led
returns-in-Expression-clause-led c = λ b out es hs hl k lt.
    let u = c.args.unit.now in
    let m = c.args.machine.now.moment in
    at-world b u _ c.args.machine.now.started c.evaluate.new.machine.started c.evaluate.result m c.evaluate.new.machine.moment out es c.evaluate.ensures.moment
    (c.evaluate.ensures.led b u k (state_of m out es) _ (omega (arith, lt)) (expression-enters b u k _ _ (expression_at u c.in-Expression.x) (state_of m out es) c.in-Expression.ensures.form))

pub returns-in-If-clause-led : goal.returns-in-If-clause-led
returns-in-If-clause-led c = λ b out es hs hl k lt.
    let u = c.args.unit.now in
    let m = c.args.machine.now.moment in
    at-world b u _ c.args.machine.now.started c.evaluate-in-If.new.machine.started c.evaluate-in-If.result m c.evaluate-in-If.new.machine.moment out es c.evaluate-in-If.ensures.moment
    (c.evaluate-in-If.ensures.led b u k (state_of m out es) _ (omega (arith, lt)) (choice-enters b u k c.args.n _ (expression_at u c.in-If.c) (statement_at u c.in-If.field-1) (state_of m out es) c.in-If.ensures.form))

pub returns-in-IfElse-clause-led : goal.returns-in-IfElse-clause-led
returns-in-IfElse-clause-led c = λ b out es hs hl k lt.
    let u = c.args.unit.now in
    let m = c.args.machine.now.moment in
    at-world b u _ c.args.machine.now.started c.evaluate-in-IfElse.new.machine.started c.evaluate-in-IfElse.result m c.evaluate-in-IfElse.new.machine.moment out es c.evaluate-in-IfElse.ensures.moment
    (c.evaluate-in-IfElse.ensures.led b u k (state_of m out es) _ (omega (arith, lt)) (choice-else-enters b u k c.args.n _ (expression_at u c.in-IfElse.c) (statement_at u c.in-IfElse.field-1) (statement_at u c.in-IfElse.field-2) (state_of m out es) c.in-IfElse.ensures.form))

pub returns-in-Block-clause-led : goal.returns-in-Block-clause-led
returns-in-Block-clause-led c = λ b out es hs hl k lt. c.begin_block.ensures.led b out es hs hl k lt

pub returns-in-Switch-clause-led : goal.returns-in-Switch-clause-led
returns-in-Switch-clause-led c = λ b out es hs hl k lt.
    let u = c.args.unit.now in
    let m = c.args.machine.now.moment in
    at-world b u _ c.args.machine.now.started c.begin_switch.new.machine.started c.begin_switch.result m c.begin_switch.new.machine.moment out es c.begin_switch.ensures.moment (c.begin_switch.ensures.led b k (state_of m out es) lt)

pub returns-in-Declare-clause-led : goal.returns-in-Declare-clause-led
returns-in-Declare-clause-led c = λ b out es hs hl k lt.
    let s = state_of c.args.machine.now.moment out es in
    leaves b c.args.unit.now k c.args.machine.now.started _ flow.Falls s lt (ap (λ t. behind_turn b (below b k) t s) c.in-Declare.ensures.form)

pub returns-in-Empty-clause-led : goal.returns-in-Empty-clause-led
returns-in-Empty-clause-led c = λ b out es hs hl k lt.
    let s = state_of c.args.machine.now.moment out es in
    leaves b c.args.unit.now k c.args.machine.now.started _ flow.Falls s lt (ap (λ t. behind_turn b (below b k) t s) c.in-Empty.ensures.form)

pub returns-in-Case-clause-led : goal.returns-in-Case-clause-led
returns-in-Case-clause-led c = λ b out es hs hl k lt.
    let s = state_of c.args.machine.now.moment out es in
    leaves b c.args.unit.now k c.args.machine.now.started _ flow.Falls s lt (ap (λ t. behind_turn b (below b k) t s) c.in-Case.ensures.form)

pub returns-in-Default-clause-led : goal.returns-in-Default-clause-led
returns-in-Default-clause-led c = λ b out es hs hl k lt.
    let s = state_of c.args.machine.now.moment out es in
    leaves b c.args.unit.now k c.args.machine.now.started _ flow.Falls s lt (ap (λ t. behind_turn b (below b k) t s) c.in-Default.ensures.form)

pub returns-in-Continue-clause-led : goal.returns-in-Continue-clause-led
returns-in-Continue-clause-led c = λ b out es hs hl k lt.
    let s = state_of c.args.machine.now.moment out es in
    leaves b c.args.unit.now k c.args.machine.now.started _ flow.Continues s lt (ap (λ t. behind_turn b (below b k) t s) c.in-Continue.ensures.form)

pub returns-in-Break-clause-led : goal.returns-in-Break-clause-led
returns-in-Break-clause-led c = λ b out es hs hl k lt.
    let s = state_of c.args.machine.now.moment out es in
    leaves b c.args.unit.now k c.args.machine.now.started _ flow.Breaks s lt (ap (λ t. behind_turn b (below b k) t s) c.in-Break.ensures.form)

pub returns-in-DoWhile-clause-led : goal.returns-in-DoWhile-clause-led
returns-in-DoWhile-clause-led c = λ b out es hs hl k lt.
    do-enters b c.args.unit.now k c.args.n c.in-DoWhile.x _ _ c.args.machine.now.started (state_of c.args.machine.now.moment out es) lt c.in-DoWhile.ensures.form

pub returns-in-While-clause-led : goal.returns-in-While-clause-led
returns-in-While-clause-led c = λ b out es hs hl k lt.
    let u = c.args.unit.now in
    let m = c.args.machine.now.moment in
    at-world b u _ c.args.machine.now.started c.begin_round.new.machine.started c.begin_round.result m c.begin_round.new.machine.moment out es c.begin_round.ensures.moment
    (subst (λ q. LeadsOr b u q c.args.machine.now.started c.begin_round.result c.begin_round.new.machine.started (state_of m out es)) (sym (while-is b u k c.args.n _ _ _ (state_of m out es) c.in-While.ensures.form))
    (c.begin_round.ensures.led b k (state_of m out es) (omega (arith, lt))))

pub returns-in-Some-clause-led : goal.returns-in-Some-clause-led
returns-in-Some-clause-led c = λ b out es hs hl k lt.
    let u = c.args.unit.now in
    let m = c.args.machine.now.moment in
    at-world b u _ c.args.machine.now.started c.evaluate-in-Some.new.machine.started c.evaluate-in-Some.result m c.evaluate-in-Some.new.machine.moment out es c.evaluate-in-Some.ensures.moment
    (c.evaluate-in-Some.ensures.led b u k (state_of m out es) _ (omega (arith, lt)) (for-enters b u k c.args.n _ (expression_at u c.in-Some.x) _ _ _ (state_of m out es) (c.in-For.ensures.form ∙ ap (λ q. For (statement_line (statement_at u c.args.n)) (optional_in (nodes u) q) (optional_in (nodes u) c.in-For.condition) (optional_in (nodes u) c.in-For.step) (statement_at u c.in-For.body)) c.in-Some.is)))

pub returns-in-None-clause-led : goal.returns-in-None-clause-led
returns-in-None-clause-led c = λ b out es hs hl k lt.
    let u = c.args.unit.now in
    let m = c.args.machine.now.moment in
    at-world b u _ c.args.machine.now.started c.begin_round-in-None.new.machine.started c.begin_round-in-None.result m c.begin_round-in-None.new.machine.moment out es c.begin_round-in-None.ensures.moment
    (subst (λ q. LeadsOr b u q c.args.machine.now.started c.begin_round-in-None.result c.begin_round-in-None.new.machine.started (state_of m out es)) (sym (for-is-round b u k c.args.n _ _ _ _ _ (state_of m out es) c.in-For.ensures.form (ap (optional_in (nodes u)) c.in-None.is)))
    (c.begin_round-in-None.ensures.led b k (state_of m out es) (omega (arith, lt))))

pub returns-in-Some-value-clause-led : goal.returns-in-Some-value-clause-led
returns-in-Some-value-clause-led c = λ b out es hs hl k lt.
    let u = c.args.unit.now in
    let m = c.args.machine.now.moment in
    at-world b u _ c.args.machine.now.started c.evaluate-in-Some-value.new.machine.started c.evaluate-in-Some-value.result m c.evaluate-in-Some-value.new.machine.moment out es c.evaluate-in-Some-value.ensures.moment
    (c.evaluate-in-Some-value.ensures.led b u k (state_of m out es) _ (omega (arith, lt)) (return-enters b u k c.args.n _ (expression_at u c.in-Some-value.x) (state_of m out es) (c.in-Return.ensures.form ∙ ap (λ q. Return (statement_line (statement_at u c.args.n)) (optional_in (nodes u) q)) c.in-Some-value.is)))

pub returns-in-None-value-clause-led : goal.returns-in-None-value-clause-led
returns-in-None-value-clause-led c = λ b out es hs hl k lt.
    let u = c.args.unit.now in
    let s = state_of c.args.machine.now.moment out es in
    leaves-with b u k _ got.Nothing c.leave_with.result c.args.machine.now.started _ s lt (ap (λ t. left_flow (behind_turn b (below b k) t s)) (c.in-Return.ensures.form ∙ ap (λ q. Return (statement_line (statement_at u c.args.n)) (optional_in (nodes u) q)) c.in-None-value.is)) refl c.leave_with.ensures.way c.leave_with.ensures.memory

pub returns-in-Expression-clause-ways : goal.returns-in-Expression-clause-ways
returns-in-Expression-clause-ways c = c.evaluate.ensures.ways c.args.unit.now tt
