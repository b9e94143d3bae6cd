use Rattle.std.proofs.Common.{◌≡◌, ◌+◌, refl, ap, arith}
use Rattle.pv_eval.specs.Moments.{Moment}
use Rattle.pv_exec.specs.declared.task.Doing.TheVariants as doing
use Rattle.pv_exec.proofs.AtOnce.{cut-turn}
use Rattle.pv_exec.proofs.Opening.{block-led}
use Rattle.pv_exec.proofs.turning.block_at_once.Goals as goal

pub returns-clause-some : goal.returns-clause-some
returns-clause-some c =
    let u = c.args.unit.now in
    let n = c.args.n in
    let l = c.args.l in
    let old = c.args.machine.now in
    let new = c.tick.new.self in
    let taken : new.moment.taken ≡ old.moment.taken + 1 = ap (λ (m : Moment). m.taken) c.tick.ensures.moment in
    record {
      led = λ ts. block-led u n l ts old new c.requires.value (c.is_without_objects.ensures c.if-not-is_without_objects.false) c.tick.ensures.moment c.tick.ensures.started;
      cut = λ ts. cut-turn u (doing.Enter n) ts old new refl c.requires.there taken;
      more = omega (arith, taken);
      within = omega (arith, taken, c.requires.room);
      fits = c.requires.list;
      waiting = c.tick.ensures.started;
    }
