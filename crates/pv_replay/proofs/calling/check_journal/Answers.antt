use Rattle.std.proofs.Common.{refl}
use Rattle.pv_serve.specs.Replying.{WasLost}
use Rattle.pv_replay.proofs.FileLemmas.{check_served, one_rose}
use Rattle.pv_replay.proofs.calling.check_journal.Goals as goal

pub returns-in-Ok-clause-served : goal.returns-in-Ok-clause-served
returns-in-Ok-clause-served g c = check_served c.args.name.now (g.F.Files.held c.args.files.now) _ _ _ _ _ c.in-Ok.ensures.bytes (rw c.as_slice.ensures.value at c.check_text.ensures)

pub returns-in-Err-Fault-clause-served : goal.returns-in-Err-Fault-clause-served
returns-in-Err-Fault-clause-served g c =
    WasLost (one_rose c.args.name.now _ _ ((rw c.in-Err-Fault.field-0-is at c.in-Err-Fault.ensures.cause) refl)) c.tell.ensures
