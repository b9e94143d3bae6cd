use Rattle.std.proofs.Common.{Vec, Global}
use Rattle.pv_shown.specs.declared.reading.Command.{Command}
use Rattle.pv_step.proofs.RunLemmas.{by_commands, by_refusal, own_refusal}
use Rattle.pv_step.proofs.running.answer.Goals as goal

pub returns-in-Ok-clause-stepped : goal.returns-in-Ok-clause-stepped
returns-in-Ok-clause-stepped g c =
    by_commands _ _ c.in-Ok.commands.items _ _ (rw c.as_slice.ensures.value at c.in-Ok.ensures) (rw c.as_slice-in-Ok.ensures.value at c.look.ensures.looked)

pub returns-in-Err-clause-stepped : goal.returns-in-Err-clause-stepped
returns-in-Err-clause-stepped g c =
    by_refusal _ _ c.in-Err.error _ _ (λ (v : Vec Command Global). v.items) (rw c.as_slice.ensures.value at c.in-Err.ensures) c.refuse.ensures.told c.refuse.ensures.memory

pub returns-in-Err-clause-own : goal.returns-in-Err-clause-own
returns-in-Err-clause-own g c = own_refusal c.refuse.result c.refuse.ensures.own
