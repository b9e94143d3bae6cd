use Rattle.std.proofs.Common.{List, [], subst, sym}
use Rattle.pv_shown.specs.declared.past.Life.{Life}
use Rattle.pv_shown.specs.declared.past.Tie.{Tie}
use Rattle.pv_shown.proofs.Recording.{Kept, kept_first}
use Rattle.pv_shown.proofs.Turns.{note_next, all_noted}
use Rattle.pv_shown.proofs.past.noted.Goals as goal

pub loop-line-init : goal.loop-line-init
loop-line-init c =
    subst (λ (xs : List Life). Kept c.args.names.now [] xs c.new-past.result.ties.items) (sym c.new-past.ensures.lives)
    (subst (λ (bs : List Tie). Kept c.args.names.now [] [] bs) (sym c.new-past.ensures.ties) (kept_first c.args.names.now))

pub loop-line-preserved : goal.loop-line-preserved
loop-line-preserved c = note_next c.args.names.now c.args.lines.now c.loop-line.line-index _ _ _ _ _ c.requires c.loop-line-test.true c.loop-line.invariant c.in_ok-note.ensures

pub returns : goal.returns
returns c = all_noted c.args.names.now c.args.lines.now c.loop-line.line-index _ _ c.loop-line-test.false c.loop-line.invariant
