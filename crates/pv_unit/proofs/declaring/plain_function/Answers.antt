use Rattle.pv_unit.specs.There.{AreThere}
use Rattle.std.proofs.Common.{sym, subst, true}
use Rattle.pv_unit.proofs.Ends.{there_marked}
use Rattle.pv_unit.proofs.declaring.plain_function.Goals as goal

pub returns-clause-entities : goal.returns-clause-entities
returns-clause-entities c =
    subst (AreThere c.function_declared.new.into) (sym c.note.ensures) (there_marked c.function_declared.new.into true c.in-Some.f _ _ _ c.function_declared.new.outer.entities c.in_ok-f.ensures.entities)
