use Rattle.std.proofs.Common.{◌≡◌}
use Rattle.std.specs.Prelude.{take, map, ◌==◌}
use Rattle.pv_exec.specs.Sided.{is_high}
use Rattle.pv_serve.proofs.sides.sides_of.Given as goal

abbrev pub invariant-loop-letter : goal.invariant-loop-letter
invariant-loop-letter l = map is_high l.sides.items ≡ map (λ letter. letter == 104) (take l.letter-index l.letters)
