use Rattle.pv_unit.proofs.Ends.{there_goes}
use Rattle.std.proofs.Common.{rules, ◌≡◌, Some, false, sym, ap, ◌∙◌}
use Rattle.pv_types.specs.Known.{tree}
use Rattle.pv_check.specs.declared.scopes.Entry.TheVariants as entry
use Rattle.pv_check.specs.Raw.{meaning_if}
use Rattle.pv_check.specs.Open.{after_nothing}
use Rattle.pv_unit.specs.Redeclarations.{object_again}
use Rattle.pv_unit.specs.Outside.{unit_state}
use Rattle.pv_unit.proofs.EntityRows.{object_same, object_other}
use Rattle.pv_unit.proofs.declaring.object_again.Goals as goal

pub returns-in_ok-o-in-None-clause-answer : goal.returns-in_ok-o-in-None-clause-answer
returns-in_ok-o-in-None-clause-answer c = λ texts.
    ap Some (c.in_ok-o-in-None.ensures.answer texts)
    ∙ ap (λ x. object_again (meaning_if c.args.into.now.known x) c.args.name c.args.line (tree c.args.into.now.known c.args.t.0) (unit_state texts c.args.s.now c.args.into.now c.args.outer.now)) (sym c.in-None.is)

pub returns-then-same-clause-answer : goal.returns-then-same-clause-answer
returns-then-same-clause-answer c = λ texts.
    let is : c.args.before ≡ Some (entry.Object c.in-Some-Object.o) = search rules in
    object_same texts c.args.into.now c.object_composed.new.into c.args.s.now c.args.outer.now c.args.name c.args.line c.in-Some-Object.o (tree c.args.into.now.known c.args.t.0)
    (ap (after_nothing texts false c.args.s.now c.object_composed.new.into) (sym c.if-same.true) ∙ c.in_ok-same-in-Some-Object.ensures.answer texts false)
    ∙ ap (λ x. object_again (meaning_if c.args.into.now.known x) c.args.name c.args.line (tree c.args.into.now.known c.args.t.0) (unit_state texts c.args.s.now c.args.into.now c.args.outer.now)) (sym is)

pub returns-else-same-clause-answer : goal.returns-else-same-clause-answer
returns-else-same-clause-answer c = λ texts.
    let is : c.args.before ≡ Some (entry.Object c.in-Some-Object.o) = search rules in
    object_other texts c.args.into.now c.args.s.now c.args.outer.now c.args.name c.args.line c.in-Some-Object.o (tree c.args.into.now.known c.args.t.0)
    (ap (after_nothing texts false c.args.s.now c.object_composed.new.into) (sym c.if-same.false) ∙ c.in_ok-same-in-Some-Object.ensures.answer texts false)
    ∙ ap (λ x. object_again (meaning_if c.args.into.now.known x) c.args.name c.args.line (tree c.args.into.now.known c.args.t.0) (unit_state texts c.args.s.now c.args.into.now c.args.outer.now)) (sym is)

pub returns-then-same-clause-entities : goal.returns-then-same-clause-entities
returns-then-same-clause-entities c =
    there_goes c.args.into.now c.object_composed.new.into c.args.outer.now.entities c.in_ok-same-in-Some-Object.ensures.goes c.requires.entities

pub returns-else-same-clause-entities : goal.returns-else-same-clause-entities
returns-else-same-clause-entities c =
    there_goes c.args.into.now c.object_composed.new.into c.args.outer.now.entities c.in_ok-same-in-Some-Object.ensures.goes c.requires.entities
