use Rattle.std.proofs.Common.{ap, sym, ◌∙◌}
use Rattle.pv_watch.specs.Lines.{first_told}
use Rattle.pv_watch.specs.Kinds.{suspects_of}
use Rattle.pv_explain.proofs.Walks.{told_here, told_not, told_at_end, no_suspects}
use Rattle.pv_explain.proofs.explain.suspected.Goals as goal

pub returns-in-Fault : goal.returns-in-Fault
returns-in-Fault c =
    told_here suspects_of c.args.seen.now c.loop-e.e-index _ (record { low = c.in-Fault.low; high = c.in-Fault.high; pair = c.in-Fault.pair }) (first_told suspects_of c.args.seen.now) c.loop-e-test.true (ap suspects_of c.in-Fault.is) c.loop-e.invariant

pub loop-e-preserved : goal.loop-e-preserved
loop-e-preserved c = told_not suspects_of c.args.seen.now c.loop-e.e-index _ (first_told suspects_of c.args.seen.now) c.loop-e-test.true (no_suspects _ (λ v l h p. c.in_default.not-Fault v l h p)) c.loop-e.invariant

pub returns : goal.returns
returns c = sym (told_at_end suspects_of c.args.seen.now c.loop-e.e-index c.loop-e-test.false) ∙ c.loop-e.invariant
