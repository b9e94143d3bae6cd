use Rattle.std.proofs.Common.{◌≡◌, drop}
use Rattle.pv_lex.specs.Constants.{value_from}
use Rattle.pv_lex.proofs.numbers.value.Given as goal

abbrev pub invariant-loop-d : goal.invariant-loop-d
invariant-loop-d l = value_from l.base 0 l.digits ≡ value_from l.base l.n (drop l.d-index l.digits)
