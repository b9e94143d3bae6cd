use Rattle.pv_unit.specs.There.{AreThere}
use Rattle.pv_check.specs.Open.{Goes}
use Rattle.std.proofs.Common.{rules, sym, subst, false}
use Rattle.pv_unit.proofs.Ends.{there_goes, there_marked}
use Rattle.pv_unit.proofs.outside.object_initialized.Goals as goal

pub returns-clause-entities : goal.returns-clause-entities
returns-clause-entities c =
    let goes : Goes c.args.into.now c.given.new.into = search rules in
    subst (AreThere c.given.new.into) (sym c.note.ensures) (there_marked c.given.new.into false c.args.o _ _ _ c.args.outer.now.entities (there_goes c.args.into.now c.given.new.into c.args.outer.now.entities goes c.requires.entities))
