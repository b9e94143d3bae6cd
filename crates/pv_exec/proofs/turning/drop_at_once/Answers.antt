use Rattle.std.proofs.Common.{arith}
use Rattle.pv_world.specs.Coming.{worth_of}
use Rattle.pv_exec.proofs.AtOnce.{statement-led, statement-cut}
use Rattle.pv_exec.proofs.turning.drop_at_once.Goals as goal

pub returns-clause-some : goal.returns-clause-some
returns-clause-some c =
    let u = c.args.unit.now in
    let n = c.args.n in
    let x = c.args.x in
    let v = worth_of c.in_ok-whole_next.field-0 in
    let old = c.args.machine.now in
    let new = c.whole_next.new.self in
    record {
      led = λ ts. statement-led u n x _ v ts old new c.requires.form c.in_ok-whole_next.ensures.some c.in_ok-whole_next.ensures.more c.whole_next.ensures.started;
      cut = λ ts. statement-cut u n x _ v ts old new c.requires.form c.in_ok-whole_next.ensures.cut;
      more = omega (arith, c.in_ok-whole_next.ensures.more);
      within = c.in_ok-whole_next.ensures.within;
      fits = tt;
      waiting = c.whole_next.ensures.started;
    }
