use Rattle.std.proofs.Common.{sym, ◌∙◌}
use Rattle.pv_shown.proofs.Turns.{last_none, last_some, zero_turn, other_turn}
use Rattle.pv_shown.proofs.moving.last_turn.Goals as goal

pub returns-then-place-eq0 : goal.returns-then-place-eq0
returns-then-place-eq0 c = λ names. last_none names c.args.lines.now c.args.n c.from-place.result c.requires c.if-place-eq0.true c.from-place.ensures.point

pub returns-then-turn-eq0 : goal.returns-then-turn-eq0
returns-then-turn-eq0 c = λ names.
    zero_turn _ c.args.n c.if-turn-eq0.true ∙ sym (last_some names c.args.lines.now c.args.n c.from-place.result _ c.requires c.from-place.ensures.within c.if-place-eq0.false c.from-place.ensures.point)

pub returns-else-turn-eq0 : goal.returns-else-turn-eq0
returns-else-turn-eq0 c = λ names.
    other_turn _ c.args.n c.if-turn-eq0.false ∙ sym (last_some names c.args.lines.now c.args.n c.from-place.result _ c.requires c.from-place.ensures.within c.if-place-eq0.false c.from-place.ensures.point)
