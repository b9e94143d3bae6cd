use Rattle.std.proofs.Common.{◌∙◌}
use Rattle.pv_gen.proofs.Lines.{pieces, program_short}
use Rattle.pv_gen.proofs.texts.source.Goals as goal

pub returns-clause-text : goal.returns-clause-text
returns-clause-text c =
    pieces c.args.n _ _ _ _ _ _ _ _ c.in_ok-text.ensures.items (c.deref.ensures.value ∙ c.in_ok-objects.ensures) (c.deref-2.ensures.value ∙ c.in_ok-uses.ensures) c.in_ok-extend_from_slice.ensures.items c.in_ok-extend_from_slice-2.ensures.items
    c.in_ok-extend_from_slice-3.ensures.items c.in_ok-extend_from_slice-4.ensures.items c.in_ok-extend_from_slice-5.ensures.items

pub returns-clause-small : goal.returns-clause-small
returns-clause-small c = rw (returns-clause-text c) (program_short c.args.n c.requires.most)
