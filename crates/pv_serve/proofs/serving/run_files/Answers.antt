use Rattle.std.proofs.Common.{refl}
use Rattle.pv_serve.specs.Serving.{WereRead, WereLost, HadNoRoom}
use Rattle.pv_serve.proofs.serving.run_files.Goals as goal

pub answer_asked-requires : goal.answer_asked-requires
answer_asked-requires g c = c.requires.task

pub returns-in-Ok-clause-served : goal.returns-in-Ok-clause-served
returns-in-Ok-clause-served g c = WereRead _ _ c.in-Ok.ensures.read c.answer_asked.ensures

pub returns-in-Ok-clause-files_same : goal.returns-in-Ok-clause-files_same
returns-in-Ok-clause-files_same g c = c.in-Ok.ensures.same

pub returns-in-Err-Fault-clause-served : goal.returns-in-Err-Fault-clause-served
returns-in-Err-Fault-clause-served g c =
    WereLost ((rw c.in-Err-Fault.field-0-is at c.in-Err-Fault.ensures.cause) refl) refl refl c.tell.ensures

pub returns-in-Err-Fault-clause-files_same : goal.returns-in-Err-Fault-clause-files_same
returns-in-Err-Fault-clause-files_same g c = c.in-Err-Fault.ensures.same

pub returns-in-Err-NoMemory-clause-served : goal.returns-in-Err-NoMemory-clause-served
returns-in-Err-NoMemory-clause-served g c = HadNoRoom refl refl refl

pub returns-in-Err-NoMemory-clause-files_same : goal.returns-in-Err-NoMemory-clause-files_same
returns-in-Err-NoMemory-clause-files_same g c = c.in-Err-NoMemory.ensures.same
