-- A bridge: what functions answer that do a part of what Verdicts says.
use Rattle.std.specs.Prelude.{List, ℕ}
use Rattle.pv_serve.specs.Outside.{WrotePrefix, Sunk}
use Rattle.pv_eval.specs.States.{State}

-- 7.21.3p3: a sink gained a first part of what the run printed
abbrev pub BeganOutput : (out : Sunk) → State → (names : List (List ℕ)) → Type 0
BeganOutput out end names = WrotePrefix out end.output
