use Rattle.pv_unit.specs.There.{AreThere}
use Rattle.pv_unit.proofs.Ends.{there_goes, there_more}
use Rattle.std.proofs.Common.{false, sym, subst}
use Rattle.pv_types.specs.Known.{tree}
use Rattle.pv_unit.proofs.EntityRows.{object_more}
use Rattle.pv_unit.proofs.declaring.object_more.Goals as goal

pub returns-clause-answer : goal.returns-clause-answer
returns-clause-answer c = λ texts.
    object_more texts c.args.into.now c.new_object.new.into c.args.s.now c.new_object.new.s c.args.outer.now c.add.new.self c.args.name c.args.line c.in_ok-o.o (tree c.args.into.now.known c.args.t.0)
    c.in_ok-o.ensures.number.0 (c.in_ok-o.ensures.answer texts false) c.in_ok-add.ensures

pub returns-clause-entities : goal.returns-clause-entities
returns-clause-entities c =
    subst (AreThere c.new_object.new.into) (sym c.in_ok-add.ensures) (there_more c.new_object.new.into c.args.outer.now.entities c.args.name false c.in_ok-o.o (there_goes c.args.into.now c.new_object.new.into c.args.outer.now.entities c.in_ok-o.ensures.goes c.requires.entities) c.in_ok-o.ensures.number.1)
