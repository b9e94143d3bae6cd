use Rattle.std.proofs.Common.{◌∙◌, ◌++◌, ap}
use Rattle.std.specs.Prelude.{Option}
use Rattle.pv_inst.specs.declared.values.Instance.{Instance}
use Rattle.pv_types.specs.Known.{tree}
use Rattle.pv_typed.specs.Tables.{whole_unit}
use Rattle.pv_values.specs.Values.{value_at}
use Rattle.pv_values.proofs.Adding.{step}
use Rattle.pv_values.proofs.objects.object_line.Goals as goal

pub returns : goal.returns
returns c =
    let t = tree c.args.u.now.known c.args.t.0 in
    let name = c.in_ok-add-3.ensures ∙ ap (λ x. c.add-2.new.text.items ++ x) (c.as_slice.ensures.value ∙ c.in_ok-name.ensures) in
    let value = c.in_ok-add_value.ensures ∙ ap (λ (x : Option Instance). c.add-6.new.text.items ++ value_at (whole_unit c.args.u.now) c.args.memory.now x 3 0 t) c.requires.is in
    let first = step _ _ c.in_ok-line.ensures.items c.in_ok-add.ensures in
    let second = step _ _ first c.in_ok-add_id.ensures in
    let third = step _ _ (step _ _ second c.in_ok-add-2.ensures) name in
    let fourth = step _ _ (step _ _ third c.in_ok-add-4.ensures) c.in_ok-add_address.ensures in
    let fifth = step _ _ (step _ _ fourth c.in_ok-add-5.ensures) c.in_ok-add_number.ensures in
    let sixth = step _ _ (step _ _ fifth c.in_ok-add-6.ensures) value in
    step _ _ sixth c.in_ok-add-7.ensures
