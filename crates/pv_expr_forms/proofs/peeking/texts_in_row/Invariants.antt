use Rattle.std.proofs.Common.{◌≡◌, ◌≤◌, ◌+◌, ◌-◌, length, drop}
use Rattle.pv_expr_forms.specs.Reader.{texts_in_row}
use Rattle.pv_expr_forms.proofs.peeking.texts_in_row.Given as goal

abbrev pub invariant-loop-more : goal.invariant-loop-more
invariant-loop-more l = record {
  far : l.next ≡ l.at + l.more;
  place : l.next ≤ length l.tokens.tokens;
  count : l.more + texts_in_row (l.first + 1 + l.more) (drop l.next l.tokens.tokens) ≡ texts_in_row (l.first + 1) (drop l.at l.tokens.tokens);
}

abbrev pub decreases-loop-more : goal.decreases-loop-more
decreases-loop-more l = length l.tokens.tokens - l.next
