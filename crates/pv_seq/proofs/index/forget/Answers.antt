use Rattle.std.proofs.Common.{◌-◌, arith}
use Rattle.pv_seq.proofs.Finding.{found_less}
use Rattle.pv_seq.proofs.index.forget.Goals as goal

pub loop-index-preserved : goal.loop-index-preserved
loop-index-preserved c = found_less c.loop-index.index c.strike.new.index c.args.accesses.now (c.loop-index.index.known - 1) (omega (arith, c.loop-index-test.true)) c.strike.ensures.kept c.loop-index.invariant
