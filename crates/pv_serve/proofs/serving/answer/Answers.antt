use Rattle.std.proofs.Common.{refl}
use Rattle.pv_serve.proofs.CausesLemmas.{answered_by, answered_no_memory, answered_write_fault}
use Rattle.pv_serve.proofs.serving.answer.Goals as goal

pub judge_task-requires : goal.judge_task-requires
judge_task-requires g c = c.requires

pub returns-in-Ok : goal.returns-in-Ok
returns-in-Ok g c = answered_by _ _ _ _ _ _ _ _ _ c.in-Ok.ensures.judged c.told.ensures

pub returns-in-Err-NoMemory : goal.returns-in-Err-NoMemory
returns-in-Err-NoMemory g c = answered_no_memory _ _ _ _ _ _ _ (rw c.in-Err-NoMemory.field-0-is at c.in-Err-NoMemory.ensures.part) refl

pub returns-in-Err-WriteFault : goal.returns-in-Err-WriteFault
returns-in-Err-WriteFault g c = answered_write_fault _ _ _ _ _ _ _ (rw c.in-Err-WriteFault.field-0-is at c.in-Err-WriteFault.ensures.part)
    (rw c.in-Err-WriteFault.field-0-is at c.in-Err-WriteFault.ensures.cause) refl
