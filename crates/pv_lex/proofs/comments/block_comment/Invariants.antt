use Rattle.std.proofs.Common.{◌≡◌, ◌+◌, ◌≤◌, length}
use Rattle.pv_lex.specs.Bytes.{line_feeds}
use Rattle.pv_lex.specs.Comments.{behind_close}
use Rattle.pv_lex.proofs.comments.block_comment.Given as goal

abbrev pub invariant-loop-rest : goal.invariant-loop-rest
invariant-loop-rest l = record {
  closes : behind_close l.text ≡ behind_close l.rest;
  feeds : l.lines + line_feeds l.rest ≡ line_feeds l.text;
  room : l.lines + length l.rest ≤ length l.text;
}

abbrev pub decreases-loop-rest : goal.decreases-loop-rest
decreases-loop-rest l = length l.rest
