use Rattle.std.proofs.Common.{◌∙◌, ap, sym, arith}
use Rattle.pv_typed.specs.Trees.{declared_of}
use Rattle.pv_typed.specs.NodeTrees.{statement_at}
use Rattle.pv_eval.specs.Moments.{state_of}
use Rattle.pv_eval.specs.States.{Gives, then_do}
use Rattle.pv_exec.specs.OfRuns.{end_all}
use Rattle.pv_exec.specs.declared.task.Doing.TheVariants as doing
use Rattle.pv_exec.specs.declared.task.Way.TheVariants as way
use Rattle.pv_exec.specs.Works.{flow_of}
use Rattle.pv_exec.proofs.Enters.{leaves, started-same}
use Rattle.pv_exec.proofs.Pieces.{made-ok}
use Rattle.pv_exec.proofs.scopes.after_block.Goals as goal

pub returns-clause-led : goal.returns-clause-led
returns-clause-led c = λ b out es hs hl k lt.
    let u = c.args.unit.now in
    let old = c.args.machine.now in
    let new = c.end_objects-ended.new.machine in
    let s = state_of old.moment out es in
    let s' = state_of new.moment out es in
    let m = end_all b (declared_of (statement_at u c.args.n)) s in
    let is = made-ok c.end_objects-ended.result m s' (sym c.is_err.ensures.value ∙ c.if-is_err.false) (c.end_objects-ended.ensures.made b out es hs hl) in
    started-same b u _ (way.Do (doing.Left c.args.flow)) old.started new.started s' c.end_objects-ended.ensures.started
    (leaves b u k old.started (then_do m (λ v s. Gives (flow_of c.args.flow) s)) c.args.flow s' (omega (arith, lt, c.end_objects-ended.ensures.stays.taken)) (ap (λ r. then_do r (λ v s. Gives (flow_of c.args.flow) s)) is))
