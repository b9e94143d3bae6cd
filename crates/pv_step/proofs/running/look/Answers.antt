use Rattle.std.proofs.Common.{refl}
use Rattle.pv_step.proofs.running.look.Goals as goal

pub look_at-requires : goal.look_at-requires
look_at-requires g c = (
  _,
  _,
  c.requires,
  refl,
  rw c.as_slice-script.ensures.value at (rw c.as_slice-source.ensures.value at c.in-Ok.ensures.judged),
)
