use Rattle.pv_unit.specs.There.{AreThere}
use Rattle.pv_unit.proofs.FileLists.{Along}
use Rattle.pv_unit.proofs.outside.file_declarators.Given as goal

abbrev pub invariant-loop-n : goal.invariant-loop-n
invariant-loop-n l = Along l.t.texts l.x l.u.forest l.nodes l.fn.s l.fn.into l.fn.outer l.n-index l.s l.into l.outer × AreThere l.into l.outer.entities
