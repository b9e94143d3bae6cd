use Rattle.std.proofs.Common.{refl}
use Rattle.pv_serve.specs.Replying.{WasLost}
use Rattle.pv_replay.proofs.FileLemmas.{write_served}
use Rattle.pv_replay.proofs.calling.write_journal.Goals as goal

pub returns-in-Ok-clause-served : goal.returns-in-Ok-clause-served
returns-in-Ok-clause-served g c = write_served _ (g.F.Files.held c.args.files.now) _ _ _ _ _ _ c.in-Ok.ensures.read c.write_text.ensures

pub returns-in-Err-Fault-clause-served : goal.returns-in-Err-Fault-clause-served
returns-in-Err-Fault-clause-served g c = WasLost ((rw c.in-Err-Fault.field-0-is at c.in-Err-Fault.ensures.cause) refl) c.tell.ensures
