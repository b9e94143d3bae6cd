use Rattle.std.proofs.Common.{List, subst, sym, true, false}
use Rattle.pv_unit.specs.Redeclarations.{Entity}
use Rattle.pv_unit.specs.There.{AreThere}
use Rattle.pv_unit.proofs.Ends.{there_marked}
use Rattle.pv_unit.proofs.heads.defined_once.Goals as goal

pub returns-clause-entities : goal.returns-clause-entities
returns-clause-entities c =
    subst (λ (es : List Entity). AreThere c.args.into.now es) (sym c.note.ensures) (there_marked c.args.into.now true c.args.function true true false c.args.outer.now.entities c.requires.entities)
