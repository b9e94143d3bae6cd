use Rattle.pv_unit.proofs.ListedTypes.{Listed}
use Rattle.pv_unit.proofs.library_types.listed.Given as goal

abbrev pub invariant-loop-x : goal.invariant-loop-x
invariant-loop-x l = Listed l.fn.types l.types l.xs l.x-index l.list.items
