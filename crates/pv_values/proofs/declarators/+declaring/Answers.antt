use Rattle.std.proofs.Common.{arith, rules}
use Rattle.pv_types.proofs.Compared.{at_below}
use Rattle.pv_typed.specs.Tables.{whole_unit}
use Rattle.pv_values.proofs.Written.{params_written, whole_left, rest_left, called_left}
use Rattle.pv_values.proofs.declarators.+declaring.Goals as goal

pub add_param_list-returns : goal.add_param_list-returns
add_param_list-returns t c =
    params_written (whole_unit c.args.u.now) c.args.u.now.known c.args.levels _ c.args.params c.args.variadic c.param_list-list.result.now _ _ _ _ _ _
    (omega arith) (search rules) (search rules) c.in_ok-add.ensures c.in_ok-add_params.ensures c.in_ok-add_ellipsis.ensures c.add-3.ensures

pub add_params-add_param-requires : goal.add_params-add_param-requires
add_params-add_param-requires t c = (omega (arith, c.decreases), at_below _ c.args.list.now c.loop-i.i _ c.requires (omega arith))

pub declared-returns-in-Whole : goal.declared-returns-in-Whole
declared-returns-in-Whole t c =
    whole_left (whole_unit c.args.u.now) c.args.u.now.known c.args.levels _ c.outwards.rest _ _ c.in-Whole.is (c.in_ok-text.ensures.text c.args.levels) c.outwards.invariant.1

pub declared-outwards-preserved-in-On : goal.declared-outwards-preserved-in-On
declared-outwards-preserved-in-On t c =
    rest_left (whole_unit c.args.u.now) c.args.u.now.known c.args.levels _ c.outwards.rest _ _ c.in-On.is (c.in_ok-text.ensures.text c.args.levels) c.in_ok-text.ensures.below
    c.outwards.invariant.0 c.outwards.invariant.1

pub declared-outwards-preserved : goal.declared-outwards-preserved
declared-outwards-preserved t c =
    called_left (whole_unit c.args.u.now) c.args.u.now.known c.args.levels _ c.outwards.rest c.in_ok-rest-in-Calls.rest c.in-Calls.called _ c.in-Calls.is (c.in_ok-text.ensures.text c.args.levels)
    c.in_ok-text.ensures.below c.outwards.invariant.0 c.outwards.invariant.1
    c.in_ok-rest-in-Calls.ensures.t c.in_ok-rest-in-Calls.ensures.constant c.in_ok-rest-in-Calls.ensures.declarator
