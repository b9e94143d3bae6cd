use Rattle.pvwhere.proofs.CauseLemmas.{file_served}
use Rattle.pvwhere.proofs.locating.locate_in.Goals as goal

pub returns-in-Ok-clause-served : goal.returns-in-Ok-clause-served
returns-in-Ok-clause-served g c = file_served c.args.name.now c.in-Ok.source.items (g.F.Files.held c.args.files.now) _ _ _ c.in-Ok.ensures.bytes (rw c.as_slice.ensures.value at c.answer.ensures)
