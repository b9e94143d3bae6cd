use Rattle.std.proofs.Common.{drop}
use Rattle.pv_types.specs.Known.{trees, named_in}
use Rattle.pv_types.proofs.Parted.{Looking}
use Rattle.pv_types.proofs.types.Types.some_member_has_const.Given as goal

abbrev pub invariant-loop-m : goal.invariant-loop-m
invariant-loop-m l = Looking l.self (named_in (trees l.self) l.members) (drop l.m-index l.members)
