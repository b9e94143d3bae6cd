use Rattle.pv_unit.proofs.Ends.{there_on}
use Rattle.pv_unit.proofs.outside.file_alone.Goals as goal

pub returns-in_ok-b-in-Some-clause-entities : goal.returns-in_ok-b-in-Some-clause-entities
returns-in_ok-b-in-Some-clause-entities c =
    there_on c.args.into.now c.tag_alone.new.into c.args.outer.now.entities c.in_ok-b-in-Some.b c.in_ok-b-in-Some.ensures.goes c.requires.entities
