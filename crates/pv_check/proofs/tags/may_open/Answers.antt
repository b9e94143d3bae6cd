use Rattle.std.proofs.Common.{◌&&◌, sym, ap, ◌∙◌}
use Rattle.std.specs.Bool.{beq}
use Rattle.pv_check.specs.Open.{state_of}
use Rattle.pv_check.specs.Tags.{is_open}
use Rattle.pv_check.proofs.tags.may_open.Goals as goal

pub returns-then-other-union : goal.returns-then-other-union
returns-then-other-union c = λ texts u s.
    c.is_open.ensures.value texts u s ∙ ap (λ b. b && is_open (state_of texts u s c.args.into.now) c.args.number) (sym c.if-other-union.true ∙ ap (λ b. beq b c.args.union) c.is_union-other.ensures)

pub returns-else-other-union : goal.returns-else-other-union
returns-else-other-union c = λ texts u s.
    c.if-other-union.false ∙ ap (λ b. b && is_open (state_of texts u s c.args.into.now) c.args.number) (sym c.if-other-union.false ∙ ap (λ b. beq b c.args.union) c.is_union-other.ensures)
