use Rattle.std.proofs.Common.{◌≡◌, ◌≤◌, ◌+◌, ◌-◌, length, drop}
use Rattle.pv_decl_forms.specs.Declarators.{consts_in_row}
use Rattle.pv_decl_forms.proofs.tokens.consts_in_row.Given as goal

abbrev pub invariant-loop-count : goal.invariant-loop-count
invariant-loop-count l = record {
  far : l.next ≡ l.at + l.count;
  place : l.next ≤ length l.tokens.tokens;
  count : l.count + consts_in_row (drop l.next l.tokens.tokens) ≡ consts_in_row (drop l.at l.tokens.tokens);
}

abbrev pub decreases-loop-count : goal.decreases-loop-count
decreases-loop-count l = length l.tokens.tokens - l.next
