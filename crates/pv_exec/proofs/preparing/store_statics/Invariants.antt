use Rattle.std.proofs.Common.{◌≡◌, ◌-◌}
use Rattle.std.specs.Prelude.{length, drop}
use Rattle.pv_typed.specs.TypedUnits.{object_at}
use Rattle.pv_eval.specs.Moments.{Always, state_of, Stays}
use Rattle.pv_exec.specs.Lists.{store_statics}
use Rattle.pv_exec.proofs.preparing.store_statics.Given as goal

abbrev pub invariant-stores : goal.invariant-stores
invariant-stores l = record {
  made : Always l.unit l.fn.machine.moment (λ b out es. store_statics b l.fn.o (object_at b.unit l.fn.o).inits (state_of l.fn.machine.moment out es) ≡ store_statics b l.fn.o (drop l.i (object_at b.unit l.fn.o).inits) (state_of l.machine.moment out es));
  started : l.machine.started ≡ l.fn.machine.started;
  stays : Stays l.fn.machine.moment l.machine.moment;
}

abbrev pub decreases-stores : goal.decreases-stores
decreases-stores l = length l.stores - l.i
