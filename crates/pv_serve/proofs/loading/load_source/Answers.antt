use Rattle.std.proofs.Common.{refl}
use Rattle.pv_serve.specs.Judged.{Unfit}
use Rattle.pv_serve.proofs.RunLemmas.{within}
use Rattle.pv_serve.proofs.loading.load_source.Goals as goal

pub typed-requires : goal.typed-requires
typed-requires c = c.requires

pub returns-in-Ok-Ok : goal.returns-in-Ok-Ok
returns-in-Ok-Ok c = λ script is. record {
  short = within _ c.requires;
  reads = is;
  comes = rw c.in-Ok-Ok.field-0-is at c.in-Ok-Ok.ensures.comes;
  fit = rw c.in-Ok-Ok.field-0-is at c.in-Ok-Ok.ensures.ready;
}

pub returns-in-Ok-Err : goal.returns-in-Ok-Err
returns-in-Ok-Err c = λ script is. record {
  judged = λ t sides. Unfit _ _ (within _ c.requires) is (rw c.in-Ok-Err.field-0-is at c.in-Ok-Err.ensures.comes) refl;
  parts = rw c.in-Ok-Err.field-0-is at c.in-Ok-Err.ensures.parts;
}

pub returns-in-Err : goal.returns-in-Err
returns-in-Err c = λ script is. tt
