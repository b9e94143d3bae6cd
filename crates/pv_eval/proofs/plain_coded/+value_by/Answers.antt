use Rattle.std.proofs.Common.{FitsSigned, rules, Some, sym, ap, ◌∙◌, subst, arith, w64, to_z, of_z}
use Rattle.std.proofs.lemmas.Int.{to_z-of_z}
use Rattle.pv_world.specs.Worths.{int}
use Rattle.pv_eval.specs.declared.plain.Found.TheVariants as found
use Rattle.pv_eval.specs.Codes.{IsCode}
use Rattle.pv_eval.proofs.PlainSteps.{alone_some, with_some, both_some}
use Rattle.pv_eval.proofs.PlainCodes.{number_coded, object_coded, same_coded, part_coded, read_coded, arithmetic_coded, element_coded, sum_coded, operand_before}
use Rattle.pv_eval.proofs.plain_coded.+value_by.Goals as goal

pub value_by-returns-in-Number : goal.value_by-returns-in-Number
value_by-returns-in-Number t c =
    let is = subst (IsCode c.args.unit.now c.args.n) (sym c.code-code.ensures ∙ c.in-Number.is) (c.requires.codes c.args.n c.requires.there) in
    let f : FitsSigned w64 c.in-Number.k = search rules in
    number_coded c.args.unit.now c.args.world.now c.args.n c.args.noting c.args.notes.now.items c.in-Number.k (Some (found.Number (to_z w64 (of_z w64 c.in-Number.k)))) is (ap int (to_z-of_z w64 c.in-Number.k f))

pub value_by-returns-in-Object : goal.value_by-returns-in-Object
value_by-returns-in-Object t c =
    let is = subst (IsCode c.args.unit.now c.args.n) (sym c.code-code.ensures ∙ c.in-Object.is) (c.requires.codes c.args.n c.requires.there) in
    object_coded c.args.unit.now c.args.world.now c.args.n c.args.noting c.args.notes.now.items c.in-Object.o c.in-Object.lasting c.object.result is c.object.ensures

pub value_by-own_integer-requires-clause-code : goal.value_by-own_integer-requires-clause-code
value_by-own_integer-requires-clause-code t c = subst (IsCode c.args.unit.now c.args.n) (sym c.code-code.ensures ∙ c.in-OwnInteger.is) (c.requires.codes c.args.n c.requires.there)

pub value_by-own_pointer-requires-clause-code : goal.value_by-own_pointer-requires-clause-code
value_by-own_pointer-requires-clause-code t c = subst (IsCode c.args.unit.now c.args.n) (sym c.code-code.ensures ∙ c.in-OwnPointer.is) (c.requires.codes c.args.n c.requires.there)

pub value_by-composed-requires : goal.value_by-composed-requires
value_by-composed-requires t c = (omega (arith, c.decreases), (c.requires.known, (c.requires.codes, c.requires.there)))

pub composed-value_by-requires : goal.composed-value_by-requires
composed-value_by-requires t c =
    let is = subst (IsCode c.args.unit.now c.args.n) (sym c.code-code.ensures ∙ c.in-Same.is) (c.requires.codes c.args.n c.requires.there) in
    let before = is.before in
    (omega (arith, c.decreases, before.1), (c.requires.known, (c.requires.codes, before.0)))

pub composed-returns-in-Same : goal.composed-returns-in-Same
composed-returns-in-Same t c =
    let is = subst (IsCode c.args.unit.now c.args.n) (sym c.code-code.ensures ∙ c.in-Same.is) (c.requires.codes c.args.n c.requires.there) in
    same_coded c.args.unit.now c.args.world.now c.args.n c.args.noting c.args.notes.now.items c.value_by.new.notes.items c.in-Same.a c.value_by.result is c.value_by.ensures

pub composed-value_by-requires-in-Part : goal.composed-value_by-requires-in-Part
composed-value_by-requires-in-Part t c =
    let is = subst (IsCode c.args.unit.now c.args.n) (sym c.code-code.ensures ∙ c.in-Part.is) (c.requires.codes c.args.n c.requires.there) in
    let before = is.before in
    (omega (arith, c.decreases, before.1), (c.requires.known, (c.requires.codes, before.0)))

pub composed-returns-in_ok-place-in-Part : goal.composed-returns-in_ok-place-in-Part
composed-returns-in_ok-place-in-Part t c =
    let is = subst (IsCode c.args.unit.now c.args.n) (sym c.code-code.ensures ∙ c.in-Part.is) (c.requires.codes c.args.n c.requires.there) in
    part_coded c.args.unit.now c.args.world.now c.args.n c.in-Part.a c.in-Part.offset c.in_ok-place-in-Part.place c.part.result is c.in_ok-place-in-Part.ensures c.part.ensures

pub composed-value_by-requires-in-Integer : goal.composed-value_by-requires-in-Integer
composed-value_by-requires-in-Integer t c =
    let is = subst (IsCode c.args.unit.now c.args.n) (sym c.code-code.ensures ∙ c.in-Integer.is) (c.requires.codes c.args.n c.requires.there) in
    let before = is.0.operand in
    (omega (arith, c.decreases, before.1), (c.requires.known, (c.requires.codes, before.0)))

pub composed-read_integer-requires-clause-number : goal.composed-read_integer-requires-clause-number
composed-read_integer-requires-clause-number t c = (subst (IsCode c.args.unit.now c.args.n) (sym c.code-code.ensures ∙ c.in-Integer.is) (c.requires.codes c.args.n c.requires.there)).0.known

pub composed-read_integer-requires-clause-same : goal.composed-read_integer-requires-clause-same
composed-read_integer-requires-clause-same t c = (subst (IsCode c.args.unit.now c.args.n) (sym c.code-code.ensures ∙ c.in-Integer.is) (c.requires.codes c.args.n c.requires.there)).0.same

pub composed-read_integer-requires-clause-integer : goal.composed-read_integer-requires-clause-integer
composed-read_integer-requires-clause-integer t c = (subst (IsCode c.args.unit.now c.args.n) (sym c.code-code.ensures ∙ c.in-Integer.is) (c.requires.codes c.args.n c.requires.there)).1

pub composed-read_integer-requires-clause-own : goal.composed-read_integer-requires-clause-own
composed-read_integer-requires-clause-own t c = (subst (IsCode c.args.unit.now c.args.n) (sym c.code-code.ensures ∙ c.in-Integer.is) (c.requires.codes c.args.n c.requires.there)).2

pub composed-returns-in_ok-place-in-Integer : goal.composed-returns-in_ok-place-in-Integer
composed-returns-in_ok-place-in-Integer t c =
    let is = subst (IsCode c.args.unit.now c.args.n) (sym c.code-code.ensures ∙ c.in-Integer.is) (c.requires.codes c.args.n c.requires.there) in
    read_coded c.args.unit.now c.args.world.now c.args.n c.read_integer.new.notes.items c.in-Integer.a c.in-Integer.t c.in_ok-place-in-Integer.place c.read_integer.result is.0 c.in_ok-place-in-Integer.ensures c.read_integer.ensures

pub composed-value_by-requires-in-Pointer : goal.composed-value_by-requires-in-Pointer
composed-value_by-requires-in-Pointer t c =
    let is = subst (IsCode c.args.unit.now c.args.n) (sym c.code-code.ensures ∙ c.in-Pointer.is) (c.requires.codes c.args.n c.requires.there) in
    let before = is.0.operand in
    (omega (arith, c.decreases, before.1), (c.requires.known, (c.requires.codes, before.0)))

pub composed-read_pointer-requires-clause-number : goal.composed-read_pointer-requires-clause-number
composed-read_pointer-requires-clause-number t c = (subst (IsCode c.args.unit.now c.args.n) (sym c.code-code.ensures ∙ c.in-Pointer.is) (c.requires.codes c.args.n c.requires.there)).0.known

pub composed-read_pointer-requires-clause-same : goal.composed-read_pointer-requires-clause-same
composed-read_pointer-requires-clause-same t c = (subst (IsCode c.args.unit.now c.args.n) (sym c.code-code.ensures ∙ c.in-Pointer.is) (c.requires.codes c.args.n c.requires.there)).0.same

pub composed-read_pointer-requires-clause-pointer : goal.composed-read_pointer-requires-clause-pointer
composed-read_pointer-requires-clause-pointer t c = (subst (IsCode c.args.unit.now c.args.n) (sym c.code-code.ensures ∙ c.in-Pointer.is) (c.requires.codes c.args.n c.requires.there)).1

pub composed-read_pointer-requires-clause-own : goal.composed-read_pointer-requires-clause-own
composed-read_pointer-requires-clause-own t c = (subst (IsCode c.args.unit.now c.args.n) (sym c.code-code.ensures ∙ c.in-Pointer.is) (c.requires.codes c.args.n c.requires.there)).2

pub composed-returns-in_ok-place-in-Pointer : goal.composed-returns-in_ok-place-in-Pointer
composed-returns-in_ok-place-in-Pointer t c =
    let is = subst (IsCode c.args.unit.now c.args.n) (sym c.code-code.ensures ∙ c.in-Pointer.is) (c.requires.codes c.args.n c.requires.there) in
    read_coded c.args.unit.now c.args.world.now c.args.n c.read_pointer.new.notes.items c.in-Pointer.a c.in-Pointer.t c.in_ok-place-in-Pointer.place c.read_pointer.result is.0 c.in_ok-place-in-Pointer.ensures c.read_pointer.ensures

pub composed-value_by-requires-in-Arithmetic : goal.composed-value_by-requires-in-Arithmetic
composed-value_by-requires-in-Arithmetic t c =
    let is = subst (IsCode c.args.unit.now c.args.n) (sym c.code-code.ensures ∙ c.in-Arithmetic.is) (c.requires.codes c.args.n c.requires.there) in
    let before = operand_before c.args.unit.now c.args.n is.a c.in-Arithmetic.left is.first is.left_is in
    (omega (arith, c.decreases, before.1), (c.requires.known, (c.requires.codes, before.0)))

pub composed-value_by-requires-in-Arithmetic-2 : goal.composed-value_by-requires-in-Arithmetic-2
composed-value_by-requires-in-Arithmetic-2 t c =
    let is = subst (IsCode c.args.unit.now c.args.n) (sym c.code-code.ensures ∙ c.in-Arithmetic.is) (c.requires.codes c.args.n c.requires.there) in
    let before = operand_before c.args.unit.now c.args.n is.d c.in-Arithmetic.right is.second is.right_is in
    (omega (arith, c.decreases, before.1), (c.requires.known, (c.requires.codes, before.0)))

pub composed-returns-in_ok-second-in-Arithmetic : goal.composed-returns-in_ok-second-in-Arithmetic
composed-returns-in_ok-second-in-Arithmetic t c =
    let is = subst (IsCode c.args.unit.now c.args.n) (sym c.code-code.ensures ∙ c.in-Arithmetic.is) (c.requires.codes c.args.n c.requires.there) in
    arithmetic_coded c.args.unit.now c.args.world.now c.args.n c.in-Arithmetic.op c.in-Arithmetic.kind c.in-Arithmetic.left c.in-Arithmetic.right c.in_ok-first-in-Arithmetic.first c.in_ok-second-in-Arithmetic.second c.arithmetic.result is
    c.in_ok-first-in-Arithmetic.ensures c.in_ok-second-in-Arithmetic.ensures c.arithmetic.ensures

pub composed-value_by-requires-in-Element : goal.composed-value_by-requires-in-Element
composed-value_by-requires-in-Element t c =
    let is = subst (IsCode c.args.unit.now c.args.n) (sym c.code-code.ensures ∙ c.in-Element.is) (c.requires.codes c.args.n c.requires.there) in
    (omega (arith, c.decreases, is.first.1, is.given.least), (c.requires.known, (c.requires.codes, is.given.there)))

pub composed-value_by-requires-in-Element-2 : goal.composed-value_by-requires-in-Element-2
composed-value_by-requires-in-Element-2 t c =
    let is = subst (IsCode c.args.unit.now c.args.n) (sym c.code-code.ensures ∙ c.in-Element.is) (c.requires.codes c.args.n c.requires.there) in
    let before = is.second in
    (omega (arith, c.decreases, before.1), (c.requires.known, (c.requires.codes, before.0)))

pub composed-element-requires : goal.composed-element-requires
composed-element-requires t c = (subst (IsCode c.args.unit.now c.args.n) (sym c.code-code.ensures ∙ c.in-Element.is) (c.requires.codes c.args.n c.requires.there)).small

pub composed-returns-in_ok-second-in-Element : goal.composed-returns-in_ok-second-in-Element
composed-returns-in_ok-second-in-Element t c =
    let is = subst (IsCode c.args.unit.now c.args.n) (sym c.code-code.ensures ∙ c.in-Element.is) (c.requires.codes c.args.n c.requires.there) in
    element_coded c.args.unit.now c.args.world.now c.args.n c.in-Element.a c.in-Element.d c.in-Element.size c.in_ok-first-in-Element.first c.in_ok-second-in-Element.second c.element.result is
    c.in_ok-first-in-Element.ensures c.in_ok-second-in-Element.ensures c.element.ensures

pub composed-value_by-requires-in-Sum : goal.composed-value_by-requires-in-Sum
composed-value_by-requires-in-Sum t c =
    let is = subst (IsCode c.args.unit.now c.args.n) (sym c.code-code.ensures ∙ c.in-Sum.is) (c.requires.codes c.args.n c.requires.there) in
    let before = is.first in
    (omega (arith, c.decreases, before.1), (c.requires.known, (c.requires.codes, before.0)))

pub composed-value_by-requires-in-Sum-2 : goal.composed-value_by-requires-in-Sum-2
composed-value_by-requires-in-Sum-2 t c =
    let is = subst (IsCode c.args.unit.now c.args.n) (sym c.code-code.ensures ∙ c.in-Sum.is) (c.requires.codes c.args.n c.requires.there) in
    let before = is.second in
    (omega (arith, c.decreases, before.1), (c.requires.known, (c.requires.codes, before.0)))

pub composed-element-requires-in-Sum : goal.composed-element-requires-in-Sum
composed-element-requires-in-Sum t c = (subst (IsCode c.args.unit.now c.args.n) (sym c.code-code.ensures ∙ c.in-Sum.is) (c.requires.codes c.args.n c.requires.there)).small

pub composed-returns-in_ok-second-in-Sum : goal.composed-returns-in_ok-second-in-Sum
composed-returns-in_ok-second-in-Sum t c =
    let is = subst (IsCode c.args.unit.now c.args.n) (sym c.code-code.ensures ∙ c.in-Sum.is) (c.requires.codes c.args.n c.requires.there) in
    sum_coded c.args.unit.now c.args.world.now c.args.n c.in-Sum.sign c.minus.result c.in-Sum.a c.in-Sum.d c.in-Sum.size c.in_ok-first-in-Sum.first c.in_ok-second-in-Sum.second c.element-in-Sum.result is c.minus.ensures
    c.in_ok-first-in-Sum.ensures c.in_ok-second-in-Sum.ensures c.element-in-Sum.ensures

pub composed-by_node-requires : goal.composed-by_node-requires
composed-by_node-requires t c = (omega (arith, c.decreases), (c.requires.known, (c.requires.codes, c.requires.there)))

pub by_node-returns-in_default : goal.by_node-returns-in_default
by_node-returns-in_default t c = alone_some c.args.unit.now c.args.world.now c.args.n c.node-x.result c.node-x.ensures.form c.args.noting c.args.notes.now.items c.alone.result c.alone.ensures

pub by_node-returns-in_default-second_operand : goal.by_node-returns-in_default-second_operand
by_node-returns-in_default-second_operand t c =
    with_some c.args.unit.now c.args.world.now c.args.n c.node-x.result c.node-x.ensures.form c.in-Some.a c.in_ok-first.first c.with_one.result
    (sym c.first_operand.ensures ∙ c.in-Some.is) c.in_ok-first.ensures c.with_one.ensures

pub by_node-returns : goal.by_node-returns
by_node-returns t c =
    both_some c.args.unit.now c.args.world.now c.args.n c.node-x.result c.node-x.ensures.form c.in-Some.a c.in-Some-second_operand.d c.in_ok-first.first c.in_ok-second.second c.with_both.result
    (sym c.first_operand.ensures ∙ c.in-Some.is) (sym c.second_operand.ensures ∙ c.in-Some-second_operand.is) c.in_ok-first.ensures c.in_ok-second.ensures c.with_both.ensures
