use Rattle.std.proofs.Common.{rules, ◌≡◌, ◌∙◌, ap, sym, false}
use Rattle.pv_tree.specs.Tables.{declaration_at}
use Rattle.pv_unit.specs.Bodies.{is_definition, AreParts}
use Rattle.pv_unit.specs.Functions.{typed_declaration}
use Rattle.pv_unit.specs.Outside.{unit_state}
use Rattle.pv_unit.proofs.FunctionRows.{declared_alone}
use Rattle.pv_unit.proofs.functions.declaration.Goals as goal

pub returns-in_default-clause-answer : goal.returns-in_default-clause-answer
returns-in_default-clause-answer c =
    let d = declaration_at c.args.u.now.forest c.args.d in
    let u = unit_state c.args.t.now.texts c.args.s.now c.args.into.now c.args.outer.now in
    let no : is_definition d ≡ false = search rules in
    c.in_ok-b.ensures.answer ∙ declared_alone d u no

pub returns-clause-answer : goal.returns-clause-answer
returns-clause-answer c =
    let u = unit_state c.args.t.now.texts c.args.s.now c.args.into.now c.args.outer.now in
    let is : AreParts c.args.u.now c.args.d c.in-Some.x = search rules in
    c.in_ok-b-2.ensures.answer ∙ ap (λ d. typed_declaration d u) (sym is.0)
