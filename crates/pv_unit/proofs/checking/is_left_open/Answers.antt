use Rattle.pv_unit.specs.Definitions.{may_end}
use Rattle.pv_unit.specs.Outside.{unit_state}
use Rattle.pv_unit.proofs.Firsts.{counted_open}
use Rattle.pv_unit.proofs.checking.is_left_open.Goals as goal

pub returns-then-count-gt0 : goal.returns-then-count-gt0
returns-then-count-gt0 c = λ texts.
    counted_open c.args.count c.may_end.result (may_end (unit_state texts c.args.s.now c.args.into.now c.args.outer.now)) c.if-count-gt0.true (c.may_end.ensures texts c.args.s.now)
