use Rattle.pv_serve.proofs.tasks.laid_out.Goals as goal

pub layout_text-text-requires : goal.layout_text-text-requires
layout_text-text-requires c = record { known = c.requires.known; small = c.requires.small }

pub returns : goal.returns
returns c = record { described = c.described.ensures.described _ c.layout_text-text.ensures; memory = c.described.ensures.memory }
