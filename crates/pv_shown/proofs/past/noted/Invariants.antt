use Rattle.std.proofs.Common.{take}
use Rattle.pv_journal.specs.Lines.{rows_under}
use Rattle.pv_shown.proofs.Recording.{Kept}
use Rattle.pv_shown.proofs.past.noted.Given as goal

abbrev pub invariant-loop-line : goal.invariant-loop-line
invariant-loop-line l = Kept l.names (rows_under l.names (take l.line-index l.lines)) l.past.lives.items l.past.ties.items
