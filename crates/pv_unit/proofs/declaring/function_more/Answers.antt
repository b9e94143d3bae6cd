use Rattle.pv_unit.specs.There.{AreThere}
use Rattle.pv_unit.proofs.Ends.{there_goes, there_more}
use Rattle.std.proofs.Common.{false, sym, subst, true}
use Rattle.pv_types.specs.Known.{tree}
use Rattle.pv_unit.proofs.EntityRows.{function_more}
use Rattle.pv_unit.proofs.declaring.function_more.Goals as goal

pub returns-clause-answer : goal.returns-clause-answer
returns-clause-answer c = λ texts.
    function_more texts c.args.into.now c.new_function.new.into c.args.s.now c.new_function.new.s c.args.outer.now c.add.new.self c.args.name c.args.line c.in_ok-f.f (tree c.args.into.now.known c.args.t.0)
    c.in_ok-f.ensures.number.0 (c.in_ok-f.ensures.answer texts false) c.in_ok-add.ensures

pub returns-clause-entities : goal.returns-clause-entities
returns-clause-entities c =
    subst (AreThere c.new_function.new.into) (sym c.in_ok-add.ensures) (there_more c.new_function.new.into c.args.outer.now.entities c.args.name true c.in_ok-f.f (there_goes c.args.into.now c.new_function.new.into c.args.outer.now.entities c.in_ok-f.ensures.goes c.requires.entities) c.in_ok-f.ensures.number.1)
