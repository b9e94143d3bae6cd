use Rattle.std.proofs.Common.{◌∙◌, ap, arith}
use Rattle.pv_typed.specs.Nodes.{optional_in}
use Rattle.pv_typed.specs.Tables.{nodes}
use Rattle.pv_exec.proofs.Handing.{handed-led, handed-cut}
use Rattle.pv_exec.proofs.turning.return_at_once.Goals as goal

pub returns-in_ok-v-in-Some-clause-some : goal.returns-in_ok-v-in-Some-clause-some
returns-in_ok-v-in-Some-clause-some c =
    let u = c.args.unit.now in
    let n = c.args.n in
    let x = c.in-Some.x in
    let v = c.in_ok-v-in-Some.v in
    let old = c.args.machine.now in
    let new = c.hand_next.new.self in
    let form = c.requires.value ∙ ap (optional_in (nodes u)) c.in-Some.is in
    record {
      led = λ ts. handed-led u n x v ts old new form c.in_ok-v-in-Some.ensures.some c.in_ok-v-in-Some.ensures.more c.hand_next.ensures.started;
      cut = λ ts. handed-cut u n x v ts old new form c.in_ok-v-in-Some.ensures.cut;
      more = omega (arith, c.in_ok-v-in-Some.ensures.more);
      within = c.in_ok-v-in-Some.ensures.within;
      fits = tt;
      waiting = c.hand_next.ensures.started;
    }
