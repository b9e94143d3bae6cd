use Rattle.std.proofs.Common.{◌≡◌, ◌+◌, ◌≤◌, drop}
use Rattle.pv_lex.specs.Bytes.{line_feeds}
use Rattle.pv_where.proofs.spots.line_feeds.Given as goal

abbrev pub invariant-loop-b : goal.invariant-loop-b
invariant-loop-b l = record {
  most : l.count ≤ l.b-index;
  feeds : line_feeds l.text ≡ l.count + line_feeds (drop l.b-index l.text);
}
