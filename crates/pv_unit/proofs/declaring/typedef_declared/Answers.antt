use Rattle.pv_unit.proofs.Ends.{there_goes}
use Rattle.std.proofs.Common.{rules, ◌≡◌, true, sym, ◌∙◌}
use Rattle.pv_unit.proofs.EntityRows.{typedef_allowed}
use Rattle.pv_unit.proofs.declaring.typedef_declared.Goals as goal

pub returns-clause-answer : goal.returns-clause-answer
returns-clause-answer c = λ texts.
    let may : c.in_ok-may.may ≡ true = search rules in
    typedef_allowed texts c.args.into.now c.may_be_typedef.new.into c.args.s.now c.args.outer.now c.args.name c.args.d.t.0 c.args.d.without_size c.either-without.result _ c.requires.opened c.in_ok-may.ensures.goes c.in_ok-may.ensures.whole c.requires.known
    (sym c.in_ok-may.ensures.answer ∙ may) c.either-without.ensures (c.in_ok-b.ensures.answer texts _)

pub returns-then-not-may-clause-entities : goal.returns-then-not-may-clause-entities
returns-then-not-may-clause-entities c =
    there_goes c.args.into.now c.may_be_typedef.new.into c.args.outer.now.entities c.in_ok-may.ensures.goes c.requires.entities

pub returns-clause-entities : goal.returns-clause-entities
returns-clause-entities c =
    there_goes c.args.into.now c.may_be_typedef.new.into c.args.outer.now.entities c.in_ok-may.ensures.goes c.requires.entities
