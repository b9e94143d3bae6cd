use Rattle.std.proofs.Common.{take, All}
use Rattle.pv_object.specs.Answers.{IsMadeValue}
use Rattle.pv_memory_tests.proofs.library.known.Given as goal

-- the names of those that were asked are made
abbrev pub invariant-loop-i : goal.invariant-loop-i
invariant-loop-i g l = All (λ a. IsMadeValue l.memory.table a.value) (take l.i l.args)
