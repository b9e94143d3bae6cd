use Rattle.std.proofs.Common.{arith, refl}
use Rattle.pv_script.proofs.GainsLemmas.{at_err, gains_nothing}
use Rattle.pv_exec.proofs.Outside.{next-block, block-part}
use Rattle.pv_exec.proofs.delivering.write_blocks.Goals as goal

pub writes-init : goal.writes-init
writes-init g c = record {
  written = record { most = omega arith; gains = gains_nothing _; blocks = 0; whole = refl };
  later = omega arith;
}

pub writes-preserved : goal.writes-preserved
writes-preserved g c = record {
  written = next-block c.writes.at c.args.kept.now _ _ _ c.writes.invariant.written (omega (arith, c.writes-test.true)) c.in_ok-write_all.ensures.ok;
  later = omega (arith, c.writes.invariant.later, c.in_ok-write_all.ensures.cause.later);
}

pub returns-clause-few : goal.returns-clause-few
returns-clause-few g c = omega (arith, c.writes-test.false, c.writes.invariant.written.most)

pub returns-in_err-write_all-clause-err : goal.returns-in_err-write_all-clause-err
returns-in_err-write_all-clause-err g c = at_err c.from_residual.result (block-part c.writes.at c.args.kept.now _ _ _ c.writes.invariant.written (omega (arith, c.writes-test.true)) c.in_err-write_all.ensures.err)
