use Rattle.std.proofs.Common.{arith, sym, subst}
use Rattle.pv_exec.specs.declared.task.Doing.{Doing}
use Rattle.pv_exec.specs.declared.task.Doing.TheVariants as doing
use Rattle.pv_exec.specs.Turning.{ComesAtOnce}
use Rattle.pv_exec.proofs.Choices.{choice-led, choice-cut, side-fits, side-waiting}
use Rattle.pv_exec.proofs.turning.choose_at_once.Goals as goal

pub returns-in-Some-clause-some : goal.returns-in-Some-clause-some
returns-in-Some-clause-some c =
    let u = c.args.unit.now in
    let n = c.args.n in
    let p = c.args.parts in
    let t = c.in-Some.yes in
    let old = c.args.machine.now in
    let new = c.decide_next.new.self in
    subst (λ (d : Doing). ComesAtOnce u c.args.bound (doing.Enter n) d old new) (sym c.side.ensures) (record {
      led = λ ts. choice-led u n p t ts old new c.requires.value c.in-Some.ensures.some c.in-Some.ensures.more c.decide_next.ensures.started;
      cut = λ ts. choice-cut u n p t ts old new c.requires.value c.in-Some.ensures.cut;
      more = omega (arith, c.in-Some.ensures.more);
      within = c.in-Some.ensures.within;
      fits = side-fits u new.started p t c.requires.there;
      waiting = side-waiting p t new.started old.started c.decide_next.ensures.started;
    })
