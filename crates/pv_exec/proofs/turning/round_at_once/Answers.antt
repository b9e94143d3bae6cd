use Rattle.std.proofs.Common.{◌∙◌, sym, subst}
use Rattle.pv_exec.specs.declared.task.Doing.{Doing}
use Rattle.pv_exec.specs.declared.task.Doing.TheVariants as doing
use Rattle.pv_exec.specs.Turning.{ComesAtOnce}
use Rattle.pv_exec.proofs.Rounding.{round-led, round-cut, side-fits, round-waits}
use Rattle.pv_exec.proofs.turning.round_at_once.Goals as goal

pub decide_now-requires-clause-there : goal.decide_now-requires-clause-there
decide_now-requires-clause-there c = c.requires.fits.has_condition

pub returns-clause-some : goal.returns-clause-some
returns-clause-some c =
    let u = c.args.unit.now in
    let p = c.args.parts in
    let t = c.in_ok-yes.yes in
    let old = c.args.machine.now in
    let new = c.decide_now.new.self in
    let form = c.requires.fits.condition in
    subst (λ (d : Doing). ComesAtOnce u c.args.bound (doing.Round p) d old new) (sym c.round_side.ensures) (record {
      led = λ ts. round-led u p t ts old new form c.in_ok-yes.ensures.some c.in_ok-yes.ensures.more c.decide_now.ensures.started;
      cut = λ ts. round-cut u p t ts old new form c.in_ok-yes.ensures.cut;
      more = c.in_ok-yes.ensures.more;
      within = c.in_ok-yes.ensures.within;
      fits = side-fits u p new.started t c.requires.fits;
      waiting = round-waits p new.started t ∙ c.decide_now.ensures.started;
    })
