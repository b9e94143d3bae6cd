use Rattle.std.proofs.Common.{◌≡◌, ◌+◌, drop, map, []}
use Rattle.pv_shown.specs.Commands.{after_lines}
use Rattle.pv_shown.proofs.reading.commands.Given as goal

-- the lines that are left lead where all of them lead
abbrev pub invariant-loop-i : goal.invariant-loop-i
invariant-loop-i l = after_lines (l.i + 1) (drop l.i (map (λ x. x.now) l.lines.items)) l.commands.items ≡ after_lines 1 (map (λ x. x.now) l.lines.items) []
