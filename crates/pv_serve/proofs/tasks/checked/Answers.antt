use Rattle.pv_serve.proofs.tasks.checked.Goals as goal

pub returns : goal.returns
returns c = record { described = c.described.ensures.described _ c.check_text-text.ensures; memory = c.described.ensures.memory }
