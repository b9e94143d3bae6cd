use Rattle.pv_check.specs.Open.{Goes}
use Rattle.pv_check.proofs.SpecifierRows.{there}
use Rattle.pv_unit.proofs.Ends.{there_goes}
use Rattle.pv_unit.proofs.outside.file_declared.Goals as goal

pub file_declarators-requires-clause-entities : goal.file_declarators-requires-clause-entities
file_declarators-requires-clause-entities c =
    there_goes c.args.into.now c.specified.new.into c.args.outer.now.entities (there (λ x. Goes c.args.into.now c.specified.new.into) c.in-Some.is c.in_ok-x.ensures.goes) c.requires.entities
