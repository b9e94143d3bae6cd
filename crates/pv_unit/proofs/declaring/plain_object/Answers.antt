use Rattle.pv_unit.specs.There.{AreThere}
use Rattle.std.proofs.Common.{sym, subst, false}
use Rattle.pv_unit.proofs.Ends.{there_marked}
use Rattle.pv_unit.proofs.declaring.plain_object.Goals as goal

pub returns-clause-entities : goal.returns-clause-entities
returns-clause-entities c =
    subst (AreThere c.object_declared.new.into) (sym c.note.ensures) (there_marked c.object_declared.new.into false c.in-Some.o _ _ _ c.object_declared.new.outer.entities c.in_ok-o.ensures.entities)
