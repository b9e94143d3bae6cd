use Rattle.std.proofs.Common.{◌≡◌, ap, false, Some}
use Rattle.pv_tree.specs.Tables.{initializer_at}
use Rattle.pv_types.specs.Known.{tree}
use Rattle.pv_typed.specs.Tables.{whole_unit}
use Rattle.pv_typed.specs.TypedUnits.{TypedObject, object_at}
use Rattle.pv_check.specs.Open.{state_of}
use Rattle.pv_check.proofs.Opening.{then_goes}
use Rattle.pv_unit.specs.Giving.{given_if, given_in}
use Rattle.pv_unit.specs.Initializers.{initialized_object}
use Rattle.pv_unit.specs.Stores.{FillsIf}
use Rattle.pv_unit.specs.ValueRules.{values, with_given}
use Rattle.pv_unit.proofs.GivenRows.{giving_done}
use Rattle.pv_unit.proofs.giving.given.Goals as goal

pub returns-clause-goes : goal.returns-clause-goes
returns-clause-goes c =
    let m1 = c.initialized_object.new.into in
    let fills : FillsIf c.args.into.now m1 c.initialized_object.new.s c.initialized_object.new.out.items (Some c.in-Some.x) = rw c.in-Some.is at c.in_ok-x.ensures.fills in
    then_goes c.args.into.now m1 c.filled.new.into fills.goes c.in_ok-filled.ensures.goes

pub returns-clause-answer : goal.returns-clause-answer
returns-clause-answer c =
    let m0 = c.args.into.now in
    let m1 = c.initialized_object.new.into in
    let s1 = c.initialized_object.new.s in
    let out = c.initialized_object.new.out.items in
    let texts = c.args.t.now.texts in
    let t = tree m0.known c.object.result.t.0 in
    let i = initializer_at c.args.u.now.forest c.args.i in
    let st = state_of texts false c.args.s.now m0 in
    let typed : given_if texts s1 m1 out (Some c.in-Some.x) ≡ initialized_object values c.args.lasting t i st = rw c.in-Some.is at c.in_ok-x.ensures.typed in
    let same = ap (λ (x : TypedObject). x.t) c.object.ensures.object in
    let is : state_of texts false s1 c.filled.new.into ≡ with_given c.args.o (given_in m1 out c.in-Some.x) (state_of texts false s1 m1) = rw c.deref.ensures.value at c.in_ok-filled.ensures.answer texts in
    giving_done c.args.lasting texts m1 c.filled.new.into s1 t (object_at (whole_unit m0) c.args.o).t i st c.args.o out c.in-Some.x same typed is
