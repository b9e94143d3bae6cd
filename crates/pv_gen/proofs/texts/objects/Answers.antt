use Rattle.std.proofs.Common.{◌∙◌}
use Rattle.pv_gen.specs.Source.{object_line}
use Rattle.pv_gen.proofs.Lines.{next}
use Rattle.pv_gen.proofs.texts.objects.Goals as goal

pub loop-k-preserved : goal.loop-k-preserved
loop-k-preserved c = next object_line c.loop-k.k _ _ _ c.loop-k.invariant (c.as_bytes.ensures.value ∙ c.in_ok-line.ensures) c.in_ok-extend_from_slice.ensures.items
