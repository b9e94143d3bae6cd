use Rattle.pv_shown.proofs.Turns.{next_is, next_none}
use Rattle.pv_shown.proofs.moving.next_turn.Goals as goal

pub returns-then-place-lines : goal.returns-then-place-lines
returns-then-place-lines c = λ names. next_is names c.args.lines.now c.args.n c.above-place.result _ (search) c.above-place.ensures.point

pub returns-else-place-lines : goal.returns-else-place-lines
returns-else-place-lines c = λ names. next_none names c.args.lines.now c.args.n c.above-place.result (search) c.above-place.ensures.point
