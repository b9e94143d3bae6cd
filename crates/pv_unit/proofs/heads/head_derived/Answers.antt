use Rattle.std.proofs.Common.{sym, ap, ◌∙◌}
use Rattle.pv_check.specs.Growing.{type_if}
use Rattle.pv_check.specs.Stepping.{steps_in}
use Rattle.pv_check.proofs.Opening.{open_goes}
use Rattle.pv_unit.proofs.Ends.{there_goes}
use Rattle.pv_unit.proofs.HeadRows.{shown_stay, known_stay, head_done}
use Rattle.pv_unit.proofs.heads.head_derived.Goals as goal

pub returns-clause-answer : goal.returns-clause-answer
returns-clause-answer c = λ texts g same.
    let a = c.args.into.now in
    let b = c.derived_in.new.into in
    head_done texts a b c.args.s.now c.args.outer.now c.args.base.0 c.in-Some.t.0 c.args.name c.args.line (steps_in a.known c.args.steps.now) g _
    c.requires.opened c.in_ok-t.ensures.goes c.in_ok-t.ensures.whole
    (ap (type_if b.known) (sym c.in-Some.is) ∙ c.in_ok-t.ensures.tree)
    (c.in_ok-r.ensures.answer texts g (same ∙ sym (shown_stay a b c.args.parameters.now c.in_ok-t.ensures.goes c.requires.parameters)))

pub returns-in_default-clause-entities : goal.returns-in_default-clause-entities
returns-in_default-clause-entities c = there_goes c.args.into.now c.derived_in.new.into c.args.outer.now.entities c.in_ok-t.ensures.goes c.requires.entities

pub head_of-requires-clause-opened : goal.head_of-requires-clause-opened
head_of-requires-clause-opened c = open_goes c.args.into.now c.derived_in.new.into c.args.s.now c.requires.opened c.in_ok-t.ensures.goes

pub head_of-requires-clause-parameters : goal.head_of-requires-clause-parameters
head_of-requires-clause-parameters c = known_stay c.args.into.now c.derived_in.new.into c.args.parameters.now c.in_ok-t.ensures.goes c.requires.parameters

pub head_of-requires-clause-entities : goal.head_of-requires-clause-entities
head_of-requires-clause-entities c = there_goes c.args.into.now c.derived_in.new.into c.args.outer.now.entities c.in_ok-t.ensures.goes c.requires.entities
