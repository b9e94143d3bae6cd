use Rattle.std.proofs.Common.{◌≡◌, ◌+◌, ◌≤◌, length, take}
use Rattle.std.specs.Prelude.{not}
use Rattle.std.specs.List.{suffix_len}
use Rattle.pv_where.specs.SourceLines.{ends_line}
use Rattle.pv_where.proofs.shown.last_begin.Given as goal

abbrev pub invariant-loop-begin : goal.invariant-loop-begin
invariant-loop-begin l = record {
  within : l.begin ≤ length l.text;
  far : l.begin + suffix_len (λ b. not (ends_line b)) l.text ≡ length l.text + suffix_len (λ b. not (ends_line b)) (take l.begin l.text);
}

abbrev pub decreases-loop-begin : goal.decreases-loop-begin
decreases-loop-begin l = l.begin
