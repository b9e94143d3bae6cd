use Rattle.std.proofs.Common.{◌+◌, ◌≤◌, length}
use Rattle.pv_lex.proofs.Cutting.{Cut}
use Rattle.pv_lex.proofs.lexing.cut.Given as goal

abbrev pub invariant-pieces : goal.invariant-pieces
invariant-pieces l = record {
  room : length l.rest ≤ length l.bytes;
  lines : l.line + length l.rest ≤ 2147483647 + length l.bytes;
  cut : Cut l.bytes l.out (record { text = l.rest; line = l.line; fresh = l.fresh });
}

abbrev pub decreases-pieces : goal.decreases-pieces
decreases-pieces l = length l.rest
