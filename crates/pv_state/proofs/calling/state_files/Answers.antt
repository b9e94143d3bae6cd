use Rattle.std.proofs.Common.{refl}
use Rattle.pv_state.specs.ReadWords.{asked_job}
use Rattle.pv_serve.specs.Replying.{WasLost}
use Rattle.pv_state.proofs.FileLemmas.{text_served}
use Rattle.pv_state.proofs.calling.state_files.Goals as goal

pub returns-in-Ok-clause-served : goal.returns-in-Ok-clause-served
returns-in-Ok-clause-served g c =
    text_served (asked_job c.args.asked) (g.F.Files.held c.args.files.now) _ _ _ _ _ _ c.in-Ok.ensures.read c.state_of.ensures

pub returns-in-Err-Fault-clause-served : goal.returns-in-Err-Fault-clause-served
returns-in-Err-Fault-clause-served g c = WasLost ((rw c.in-Err-Fault.field-0-is at c.in-Err-Fault.ensures.cause) refl) c.tell.ensures
