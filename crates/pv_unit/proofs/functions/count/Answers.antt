use Rattle.std.proofs.Common.{rules, ◌≡◌, ◌∙◌, ap, false}
use Rattle.pv_typed.specs.AddingParts.{with_declaration}
use Rattle.pv_typed.specs.Formed.{Grown}
use Rattle.pv_typed.specs.Tables.{whole_unit}
use Rattle.pv_typed.specs.TypedUnits.{WholeUnit}
use Rattle.pv_check.specs.Open.{state_of}
use Rattle.pv_check.proofs.Literals.{goes_same_types}
use Rattle.pv_check.proofs.Opening.{open_goes}
use Rattle.pv_unit.proofs.Naming.{state_more}
use Rattle.pv_unit.proofs.functions.count.Goals as goal

pub returns-clause-goes : goal.returns-clause-goes
returns-clause-goes c =
    let grown : Grown c.args.into.now c.add_declaration.new.self = search rules in
    let same : c.add_declaration.new.self.known ≡ c.args.into.now.known = search rules in
    goes_same_types c.args.into.now c.add_declaration.new.self grown same

pub returns-clause-opened : goal.returns-clause-opened
returns-clause-opened c = open_goes c.args.into.now c.add_declaration.new.self c.args.s.now c.requires.opened (returns-clause-goes c)

pub returns-clause-state : goal.returns-clause-state
returns-clause-state c = λ texts.
    let is : whole_unit c.add_declaration.new.self ≡ with_declaration (whole_unit c.args.into.now) = search rules in
    state_more texts false c.args.into.now c.add_declaration.new.self c.args.s.now c.requires.opened (returns-clause-goes c)
    ∙ ap (λ (w : WholeUnit). record (state_of texts false c.args.s.now c.args.into.now) { unit = w }) is
