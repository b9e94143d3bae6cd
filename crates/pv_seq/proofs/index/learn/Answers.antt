use Rattle.std.proofs.Common.{arith}
use Rattle.pv_seq.proofs.Finding.{found_kept, found_more}
use Rattle.pv_seq.proofs.index.learn.Goals as goal

pub returns-in_err-file : goal.returns-in_err-file
returns-in_err-file c = found_kept c.loop-index.index c.file.new.index c.args.accesses.now c.file.ensures.kept c.file.ensures.known c.loop-index.invariant

pub loop-index-preserved : goal.loop-index-preserved
loop-index-preserved c =
    let to = c.requires.to in
    found_more c.loop-index.index c.file.new.index c.args.accesses.now c.file.ensures.kept (omega (arith, to, c.loop-index-test.true)) c.in_ok-file.ensures.filed c.loop-index.invariant
