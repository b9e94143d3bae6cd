use Rattle.pv_check.specs.Open.{Goes}
use Rattle.pv_check.proofs.SpecifierRows.{there}
use Rattle.pv_unit.proofs.Ends.{there_goes, goes_on}
use Rattle.pv_unit.proofs.outside.file_declarator.Goals as goal

pub entity_declared-requires-clause-entities : goal.entity_declared-requires-clause-entities
entity_declared-requires-clause-entities c =
    there_goes c.args.into.now c.type_declared.new.into c.args.outer.now.entities (there (λ x. Goes c.args.into.now c.type_declared.new.into) c.in-Some-2.is c.in_ok-made.ensures.goes) c.requires.entities

pub returns-clause-goes : goal.returns-clause-goes
returns-clause-goes c =
    goes_on c.args.into.now c.type_declared.new.into c.entity_declared.new.into c.in_ok-b.b
    (there (λ x. Goes c.args.into.now c.type_declared.new.into) c.in-Some-2.is c.in_ok-made.ensures.goes) c.in_ok-b.ensures.goes
