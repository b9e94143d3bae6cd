use Rattle.std.proofs.Common.{◌<◌, sym, subst}
use Rattle.std.specs.Prelude.{length}
use Rattle.pv_exec.proofs.AtOnce.{call-led, at-once-cut}
use Rattle.pv_exec.proofs.Calling.{asked-there}
use Rattle.pv_exec.proofs.turning.call_at_once.Goals as goal

pub returns-then-call-clause-some : goal.returns-then-call-clause-some
returns-then-call-clause-some c =
    let u = c.args.unit.now in
    let old = c.args.machine.now in
    let new = c.call.new.self in
    let e = c.if-call.true in
    let called = c.call.ensures.called e in
    record {
      led = λ ts. call-led u c.callee.result ts old new (c.call.ensures.goes e) (c.call.ensures.more e) c.call.ensures.others;
      cut = λ ts. at-once-cut u ts old new (c.call.ensures.cut e);
      more = c.call.ensures.more e;
      within = c.call.ensures.within e;
      fits = (called, sym c.callee.ensures, subst (λ f. f < length u.functions) (sym c.callee.ensures) (asked-there u new.started called c.call.ensures.fit));
      waiting = c.call.ensures.others;
    }
