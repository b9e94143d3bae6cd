use Rattle.std.proofs.Common.{◌≡◌, ◌<◌, ◌+◌, ◌*◌, ◌++◌, false, [], drop, length}
use Rattle.pv_types.specs.Known.{tree, trees, tys_in}
use Rattle.pv_typed.specs.Tables.{whole_unit}
use Rattle.pv_values.specs.TypeTexts.{declared, param_texts}
use Rattle.pv_values.specs.TypeTextParts.{rest_text}
use Rattle.pv_values.proofs.declarators.+declaring.Given as goal

abbrev pub decreases-declared : goal.decreases-declared
decreases-declared l = l.levels * 5 + 3

abbrev pub decreases-behind_params : goal.decreases-behind_params
decreases-behind_params l = l.levels * 5 + 2

abbrev pub decreases-add_param_list : goal.decreases-add_param_list
decreases-add_param_list l = l.levels * 5 + 1

abbrev pub decreases-add_params : goal.decreases-add_params
decreases-add_params l = l.levels * 5 + 5

abbrev pub decreases-add_param : goal.decreases-add_param
decreases-add_param l = l.levels * 5 + 4

abbrev pub decreases-declared-outwards : goal.decreases-declared-outwards
decreases-declared-outwards l = l.rest.t.0

abbrev pub invariant-declared-outwards : goal.invariant-declared-outwards
invariant-declared-outwards l =
    (l.rest.t.0 < length l.u.known.terms)
    × (rest_text (whole_unit l.u) l.u.known l.levels l.rest ≡ declared (whole_unit l.u) l.levels false (tree l.u.known l.fn.t.0) [])

abbrev pub invariant-add_params-loop-i : goal.invariant-add_params-loop-i
invariant-add_params-loop-i l =
    l.text.items ++ param_texts (whole_unit l.u) l.levels l.i (tys_in (trees l.u.known) (drop l.i l.list))
    ≡ l.initial.text.items ++ param_texts (whole_unit l.u) l.levels 0 (tys_in (trees l.u.known) l.list)
