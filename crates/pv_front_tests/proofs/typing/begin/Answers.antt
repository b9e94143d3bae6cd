use Rattle.std.proofs.Common.{ap}
use Rattle.pv_typed.specs.Tables.{Stored}
use Rattle.pv_front_tests.proofs.Begun.{begun, on_ok}
use Rattle.pv_front_tests.proofs.typing.begin.Goals as goal

pub returns : goal.returns
returns g c =
    begun c.args.into.now c.args.s.now c.enter.new.self c.requires.known (ap (λ (m : Stored). m.known) c.requires.tables) c.requires.scopes
    (on_ok _ c.enter.result c.expect.result c.enter.ensures c.expect.ensures)
