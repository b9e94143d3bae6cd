use Rattle.std.proofs.Common.{◌≡◌, take}
use Rattle.std.specs.Prelude.{true}
use Rattle.std.specs.List.{list_all}
use Rattle.pv_libc.specs.declared.values.Arg.{Arg}
use Rattle.pv_world.specs.Suiting.{knows_value}
use Rattle.pv_eval.proofs.asking.knows_arguments.Given as goal

-- those so far were made
abbrev pub invariant-loop-i : goal.invariant-loop-i
invariant-loop-i l = list_all (λ (x : Arg). knows_value l.world.memory.table x.value) (take l.i l.args) ≡ true
