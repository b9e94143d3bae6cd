use Rattle.std.proofs.Common.{ap}
use Rattle.pv_typed.specs.NodeTrees.{statement_at}
use Rattle.pv_exec.specs.OfRuns.{below}
use Rattle.pv_exec.specs.declared.task.Flow.{Flow}
use Rattle.pv_exec.specs.declared.task.Flow.TheVariants as flow
use Rattle.pv_exec.specs.Parts.{loop_of, rest_of_loop}
use Rattle.pv_exec.specs.Works.{flow_of}
use Rattle.pv_exec.proofs.Enters.{leaves}
use Rattle.pv_exec.proofs.rounds.after_body.Goals as goal

pub returns-in-Breaks-clause-led : goal.returns-in-Breaks-clause-led
returns-in-Breaks-clause-led c = λ b k s le lt.
    let l = loop_of (statement_at c.args.unit.now c.args.n) in
    leaves b c.args.unit.now k c.args.machine.now.started (rest_of_loop b (below b k) l (flow_of c.args.flow) s) flow.Falls s lt (ap (λ (fl : Flow). rest_of_loop b (below b k) l (flow_of fl) s) c.in-Breaks.is)

pub returns-in-Returns-clause-led : goal.returns-in-Returns-clause-led
returns-in-Returns-clause-led c = λ b k s le lt.
    let l = loop_of (statement_at c.args.unit.now c.args.n) in
    leaves b c.args.unit.now k c.args.machine.now.started (rest_of_loop b (below b k) l (flow_of c.args.flow) s) (flow.Returns c.in-Returns.v) s lt (ap (λ (fl : Flow). rest_of_loop b (below b k) l (flow_of fl) s) c.in-Returns.is)
