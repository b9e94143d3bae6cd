use Rattle.std.proofs.Common.{◌≡◌, ◌+◌, ◌-◌, ◌≤◌, length}
use Rattle.pv_lex.specs.Characters.{characters}
use Rattle.pv_lex.proofs.Joining.{joined}
use Rattle.pv_lex.proofs.literals.string_literal.Given as goal

abbrev pub invariant-loop-rest : goal.invariant-loop-rest
invariant-loop-rest l = record {
  room : length l.rest + length l.out.items ≤ length l.text;
  reads : joined l.out.items (characters (length l.text - length l.out.items) l.rest) ≡ characters (length l.text) l.text;
}

abbrev pub decreases-loop-rest : goal.decreases-loop-rest
decreases-loop-rest l = length l.rest
