use Rattle.pv_unit.proofs.Ends.{there_goes}
use Rattle.std.proofs.Common.{rules, ◌≡◌, true, sym, ◌∙◌}
use Rattle.pv_unit.proofs.EntityRows.{function_allowed}
use Rattle.pv_unit.proofs.declaring.function_declared.Goals as goal

pub returns-clause-answer : goal.returns-clause-answer
returns-clause-answer c = λ texts.
    let may : c.in_ok-may.may ≡ true = search rules in
    function_allowed texts c.args.into.now c.may_have.new.into c.args.s.now c.args.outer.now c.args.name c.args.line c.args.t.0 _ c.requires.opened c.in_ok-may.ensures.goes c.in_ok-may.ensures.whole c.requires.known
    (sym c.in_ok-may.ensures.answer ∙ may) (c.in_ok-r.ensures.answer texts)

pub returns-then-not-may-clause-entities : goal.returns-then-not-may-clause-entities
returns-then-not-may-clause-entities c =
    there_goes c.args.into.now c.may_have.new.into c.args.outer.now.entities c.in_ok-may.ensures.goes c.requires.entities

pub function_found-requires-clause-entities : goal.function_found-requires-clause-entities
function_found-requires-clause-entities c =
    there_goes c.args.into.now c.may_have.new.into c.args.outer.now.entities c.in_ok-may.ensures.goes c.requires.entities
