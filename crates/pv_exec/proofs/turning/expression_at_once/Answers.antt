use Rattle.std.proofs.Common.{◌≡◌, subst}
use Rattle.std.specs.Prelude.{IfSome, IfNone}
use Rattle.pv_eval.specs.Machines.{Machine}
use Rattle.pv_exec.specs.declared.task.Doing.TheVariants as doing
use Rattle.pv_exec.specs.Turning.{ComesAtOnce}
use Rattle.pv_exec.proofs.AtOnce.{at-once-led, at-once-cut}
use Rattle.pv_exec.proofs.Pieces.{keeps-both}
use Rattle.pv_exec.proofs.turning.expression_at_once.Goals as goal

pub returns-then-whole-clause-some : goal.returns-then-whole-clause-some
returns-then-whole-clause-some c =
    let u = c.args.unit.now in
    let old = c.args.machine.now in
    let new = c.whole.new.self in
    let e = c.if-whole.true in
    record {
      led = λ ts. at-once-led u ts old new (c.whole.ensures.whole e) (c.whole.ensures.more e) c.whole.ensures.others;
      cut = λ ts. at-once-cut u ts old new (c.whole.ensures.cut e);
      more = c.whole.ensures.more e;
      within = c.whole.ensures.within e;
      fits = c.whole.ensures.ended e;
      waiting = c.whole.ensures.others;
    }

pub returns-else-whole-clause-some : goal.returns-else-whole-clause-some
returns-else-whole-clause-some c =
    subst (λ (q : Machine). IfSome c.operand_at_once.result (λ e. ComesAtOnce c.args.unit.now c.args.bound doing.Evaluate e q c.operand_at_once.new.machine)) (c.whole.ensures.same c.if-whole.false) c.operand_at_once.ensures.some

pub returns-else-whole-clause-none : goal.returns-else-whole-clause-none
returns-else-whole-clause-none c = subst (λ (q : Machine). IfNone c.operand_at_once.result (c.operand_at_once.new.machine ≡ q)) (c.whole.ensures.same c.if-whole.false) c.operand_at_once.ensures.none

pub returns-else-whole-clause-setting : goal.returns-else-whole-clause-setting
returns-else-whole-clause-setting c = keeps-both c.args.machine.now.moment c.whole.new.self.moment c.operand_at_once.new.machine.moment c.whole.ensures.stays c.operand_at_once.ensures.setting
