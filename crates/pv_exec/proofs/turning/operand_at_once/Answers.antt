use Rattle.std.proofs.Common.{◌≡◌, subst}
use Rattle.std.specs.Prelude.{IfSome, IfNone}
use Rattle.pv_eval.specs.Machines.{Machine}
use Rattle.pv_exec.specs.declared.task.Doing.TheVariants as doing
use Rattle.pv_exec.specs.Turning.{ComesAtOnce}
use Rattle.pv_exec.proofs.AtOnce.{operand-led, at-once-cut, ended-goes}
use Rattle.pv_exec.proofs.Pieces.{keeps-both}
use Rattle.pv_exec.proofs.turning.operand_at_once.Goals as goal

pub returns-then-operand-clause-some : goal.returns-then-operand-clause-some
returns-then-operand-clause-some c =
    let u = c.args.unit.now in
    let old = c.args.machine.now in
    let new = c.operand.new.self in
    let e = c.if-operand.true in
    record {
      led = λ ts. operand-led u ts old new (c.operand.ensures.goes e) (c.operand.ensures.more e) c.operand.ensures.others;
      cut = λ ts. at-once-cut u ts old new (c.operand.ensures.cut e);
      more = c.operand.ensures.more e;
      within = c.operand.ensures.within e;
      fits = ended-goes new.started (c.operand.ensures.ended e);
      waiting = c.operand.ensures.others;
    }

pub returns-else-operand-clause-some : goal.returns-else-operand-clause-some
returns-else-operand-clause-some c =
    subst (λ (q : Machine). IfSome c.call_at_once.result (λ e. ComesAtOnce c.args.unit.now c.args.bound doing.Evaluate e q c.call_at_once.new.machine)) (c.operand.ensures.same c.if-operand.false) c.call_at_once.ensures.some

pub returns-else-operand-clause-none : goal.returns-else-operand-clause-none
returns-else-operand-clause-none c = subst (λ (q : Machine). IfNone c.call_at_once.result (c.call_at_once.new.machine ≡ q)) (c.operand.ensures.same c.if-operand.false) c.call_at_once.ensures.none

pub returns-else-operand-clause-setting : goal.returns-else-operand-clause-setting
returns-else-operand-clause-setting c = keeps-both c.args.machine.now.moment c.operand.new.self.moment c.call_at_once.new.machine.moment c.operand.ensures.stays c.call_at_once.ensures.setting
