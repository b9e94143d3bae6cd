use Rattle.pv_world.specs.Coming.{worth_of}
use Rattle.pv_exec.proofs.Rounding.{step-led, step-cut}
use Rattle.pv_exec.proofs.turning.step_at_once.Goals as goal

pub whole_now-requires-clause-there : goal.whole_now-requires-clause-there
whole_now-requires-clause-there c = c.requires.fits.has_step

pub returns-clause-some : goal.returns-clause-some
returns-clause-some c =
    let u = c.args.unit.now in
    let x = c.args.x in
    let p = c.args.parts in
    let v = worth_of c.in_ok-whole_now.field-0 in
    let old = c.args.machine.now in
    let new = c.whole_now.new.self in
    let form = c.requires.fits.step in
    record {
      led = λ ts. step-led u x p v ts old new form c.in_ok-whole_now.ensures.some c.in_ok-whole_now.ensures.more c.whole_now.ensures.started;
      cut = λ ts. step-cut u x p v ts old new form c.in_ok-whole_now.ensures.cut;
      more = c.in_ok-whole_now.ensures.more;
      within = c.in_ok-whole_now.ensures.within;
      fits = c.requires.fits.round;
      waiting = c.whole_now.ensures.started;
    }
