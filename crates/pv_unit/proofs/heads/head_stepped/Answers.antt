use Rattle.std.proofs.Common.{◌∙◌, ap, sym, false}
use Rattle.pv_types.specs.Known.{tree}
use Rattle.pv_check.specs.Declarators.{after_steps, steps_shown}
use Rattle.pv_check.specs.Open.{state_of, Goes}
use Rattle.pv_check.proofs.SpecifierRows.{there}
use Rattle.pv_unit.specs.Outside.{unit_state}
use Rattle.pv_unit.proofs.Ends.{there_goes}
use Rattle.pv_unit.proofs.HeadRows.{stepped_is}
use Rattle.pv_unit.proofs.Moving.{type_stays}
use Rattle.pv_unit.proofs.heads.head_stepped.Goals as goal

pub head_signed-requires-clause-base : goal.head_signed-requires-clause-base
head_signed-requires-clause-base c =
    let a = c.args.into.now in
    let b = c.steps_of.new.into in
    type_stays a b c.args.base.0 (there (λ x. Goes a b) c.in-Some.is c.in_ok-steps.ensures.goes) c.requires.base

pub head_signed-requires-clause-entities : goal.head_signed-requires-clause-entities
head_signed-requires-clause-entities c =
    let a = c.args.into.now in
    let b = c.steps_of.new.into in
    there_goes a b c.args.outer.now.entities (there (λ x. Goes a b) c.in-Some.is c.in_ok-steps.ensures.goes) c.requires.entities

pub returns-clause-answer : goal.returns-clause-answer
returns-clause-answer c =
    let texts = c.args.t.now.texts in
    let a = c.args.into.now in
    let b = c.steps_of.new.into in
    let goes : Goes a b = there (λ x. Goes a b) c.in-Some.is c.in_ok-steps.ensures.goes in
    stepped_is (tree a.known c.args.base.0) (tree b.known c.args.base.0) (steps_shown b.known c.in-Some.steps) (state_of texts false c.steps_of.new.s b) (c.args.name, c.args.line) (unit_state texts c.args.s.now a c.args.outer.now) _ _
    (goes.grown.types c.args.base.0 c.requires.base)
    (ap (after_steps texts false c.steps_of.new.s b) (sym c.in-Some.is) ∙ c.in_ok-steps.ensures.answer)
    (c.in_ok-r.ensures.answer texts)
