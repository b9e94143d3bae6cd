use Rattle.std.proofs.Common.{arith}
use Rattle.pv_exec.proofs.Outside.{first-told, far-here, far-none}
use Rattle.pv_exec.proofs.delivering.tell_near.Goals as goal

pub events-preserved : goal.events-preserved
events-preserved g c = record {
  told = first-told c.events.i c.args.events.now c.args.written _ _ _ c.names.result.now c.args.unit.now.names c.events.invariant.told (omega (arith, c.events-test.true)) (omega (arith, c.if-events-i.false, c.saturating_add-most.ensures)) c.fits_words.ensures c.names.ensures c.in_ok-tell.ensures;
}

pub returns-then-events-i-clause-far : goal.returns-then-events-i-clause-far
returns-then-events-i-clause-far g c = far-here c.events.i c.args.written c.args.events.now (omega (arith, c.events-test.true)) (omega (arith, c.if-events-i.true, c.saturating_add-most.ensures, c.fits_words.ensures.mark)) c.fits_words.ensures.mark

pub returns-clause-far : goal.returns-clause-far
returns-clause-far g c = far-none c.events.i c.args.written c.args.events.now (omega (arith, c.events-test.false))
