use Rattle.pv_unit.proofs.BlockLists.{Along}
use Rattle.pv_unit.proofs.blocks.block_declarators.Given as goal

abbrev pub invariant-loop-n : goal.invariant-loop-n
invariant-loop-n l = Along l.t.texts l.lasting l.base.0 l.u.forest l.nodes l.fn.s l.fn.into l.n-index l.s l.into l.all.items
