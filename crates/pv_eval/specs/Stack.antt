-- A bridge: the meaning of a stack, whatever its frames are: the specified rest of the run. The innermost frame comes first.
use Rattle.std.specs.Prelude.{List, [], ◌∷◌}
use Rattle.pv_eval.specs.States.{State, Res, Gives, then_do}

-- 5.1.2.3p3: what is left, one frame after the other: each has the value of the one within it
abbrev pub rest : {F V : Type 0} → (F → V → State → Res V) → List F → V → State → Res V
rest after [] v s = Gives v s
rest after (f ∷ fs) v s = then_do (after f v s) (rest after fs)
