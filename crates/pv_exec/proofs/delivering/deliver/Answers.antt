use Rattle.std.proofs.Common.{◌∙◌, sym, arith}
use Rattle.pv_exec.proofs.Outside.{first-part}
use Rattle.pv_exec.proofs.Streaming.{delivered, delivered-quiet}
use Rattle.pv_exec.proofs.delivering.deliver.Goals as goal

pub returns-then-is_quiet-clause-delivered : goal.returns-then-is_quiet-clause-delivered
returns-then-is_quiet-clause-delivered g c = delivered-quiet _ c.args.unit.now.names c.args.written.now c.args.machine.now (sym c.is_quiet.ensures ∙ c.if-is_quiet.true)

pub returns-in-Ok-tell_waiting-clause-delivered : goal.returns-in-Ok-tell_waiting-clause-delivered
returns-in-Ok-tell_waiting-clause-delivered g c =
    delivered c.in-Ok.n c.args.written.now c.saturating_add.result c.args.machine.now c.write_kept.new.machine c.tell_waiting.new.machine c.in-Ok.ensures.ok (omega (arith, c.saturating_add.ensures)) (λ lt. omega (arith, c.saturating_add.ensures, lt)) c.in-Ok-tell_waiting.ensures

pub returns-in-Err-tell_waiting-clause-delivered : goal.returns-in-Err-tell_waiting-clause-delivered
returns-in-Err-tell_waiting-clause-delivered g c = first-part c.in-Ok.n c.args.machine.now.moment.printed _ _ c.in-Ok.ensures.ok.first
