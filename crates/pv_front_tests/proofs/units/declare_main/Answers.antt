use Rattle.std.proofs.Common.{None}
use Rattle.pv_front_tests.proofs.Declared.{main_is_declared}
use Rattle.pv_front_tests.proofs.units.declare_main.Goals as goal

pub returns-clause-main : goal.returns-clause-main
returns-clause-main g c =
    main_is_declared c.add_name.new.self c.add_function.new.self (record { name = c.expect-name.result; t = c.args.t; line = 7; body = None })
    c.add_name.result c.add_function.result c.expect.result c.add_name.ensures.number c.expect-name.ensures c.add_function.ensures.whole c.expect.ensures
