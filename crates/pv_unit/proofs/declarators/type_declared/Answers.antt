use Rattle.std.proofs.Common.{false, Some, sym, ap, ◌∙◌}
use Rattle.pv_types.specs.Known.{env, tree}
use Rattle.pv_tree.specs.Tables.{declarator_at}
use Rattle.pv_check.specs.Declarators.{after_steps}
use Rattle.pv_check.specs.Derivations.{derived_type}
use Rattle.pv_check.specs.Growing.{type_if}
use Rattle.pv_check.specs.Open.{state_of, IsOpen, Goes}
use Rattle.pv_check.specs.Stepping.{steps_in}
use Rattle.pv_check.proofs.Opening.{open_goes, then_goes}
use Rattle.pv_check.proofs.SpecifierRows.{there}
use Rattle.pv_unit.specs.DeclarationParts.{has_unsized}
use Rattle.pv_unit.proofs.DeclaredRows.{declared_done}
use Rattle.pv_unit.proofs.declarators.type_declared.Goals as goal

pub returns-clause-opened : goal.returns-clause-opened
returns-clause-opened c =
    open_goes c.steps_of.new.into c.derived_in.new.into c.steps_of.new.s (there (λ x. IsOpen c.steps_of.new.into c.steps_of.new.s) c.in-Some.is c.in_ok-steps.ensures.opened) c.in_ok-made.ensures.goes

pub returns-clause-goes : goal.returns-clause-goes
returns-clause-goes c =
    then_goes c.args.into.now c.steps_of.new.into c.derived_in.new.into (there (λ x. Goes c.args.into.now c.steps_of.new.into) c.in-Some.is c.in_ok-steps.ensures.goes) c.in_ok-made.ensures.goes

pub returns-clause-answer : goal.returns-clause-answer
returns-clause-answer c =
    let m = c.steps_of.new.into.known in
    declared_done c.args.t.now.texts c.args.unsized_may_be c.has_unsized-without_size.result c.args.base.0 (declarator_at c.args.u.now.forest c.args.d) (state_of c.args.t.now.texts false c.args.s.now c.args.into.now)
    c.args.into.now c.steps_of.new.into c.derived_in.new.into c.steps_of.new.s c.in-Some.steps (Some c.in-Some-2.made) c.requires.base
    (there (λ x. Goes c.args.into.now c.steps_of.new.into) c.in-Some.is c.in_ok-steps.ensures.goes) (there (λ x. IsOpen c.steps_of.new.into c.steps_of.new.s) c.in-Some.is c.in_ok-steps.ensures.opened) c.in_ok-made.ensures.goes c.in_ok-made.ensures.whole
    (ap (after_steps c.args.t.now.texts false c.steps_of.new.s c.steps_of.new.into) (sym c.in-Some.is) ∙ c.in_ok-steps.ensures.answer)
    (ap (type_if c.derived_in.new.into.known) (sym c.in-Some-2.is) ∙ c.in_ok-made.ensures.tree ∙ ap (λ xs. derived_type c.args.unsized_may_be (env m) (steps_in m xs) (tree m c.args.base.0)) c.deref-2.ensures.value)
    (ap (λ xs. has_unsized (steps_in m xs)) (sym c.deref.ensures.value) ∙ c.has_unsized-without_size.ensures m)
