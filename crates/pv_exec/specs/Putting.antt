-- A bridge: stores of initializers as the code makes them: the value of the first of those that are left is there.
use Rattle.std.specs.Prelude.{ℕ, ◌+◌, ◌<◌, List, [], ◌∷◌, drop, Result}
use Rattle.pv_typed.specs.TypedUnits.{Store, object_at}
use Rattle.pv_typed.specs.Tables.{Stored}
use Rattle.pv_world.specs.Worlds.{Worth}
use Rattle.pv_eval.specs.declared.failure.Failure.{Failure}
use Rattle.pv_eval.specs.States.{Setting, State, Res, Gives, then_do}
use Rattle.pv_eval.specs.TypeForms.{lvalue}
use Rattle.pv_eval.specs.Operations.{Puts, act}
use Rattle.pv_eval.specs.Moments.{Always, state_of}
use Rattle.pv_eval.specs.Machines.{Machine}
use Rattle.pv_exec.specs.declared.task.Way.{Way}
use Rattle.pv_exec.specs.Flows.{Falls}
use Rattle.pv_exec.specs.Lists.{store_all}
use Rattle.pv_exec.specs.OfRuns.{below}
use Rattle.pv_exec.specs.Tasks.{Reached, Left, left_flow}
use Rattle.pv_exec.specs.Leading.{LeadsOr}

-- 6.7.9p11: the first of these stores, and then the others
abbrev pub put_first : Setting → (level o : ℕ) → List Store → Worth → State → Res Reached
put_first b k o [] v s = Gives (Left Falls) s
put_first b k o (x ∷ xs) v s = left_flow (then_do (then_do (act b x.line (Puts o x.offset (lvalue b x.t) v) s) (λ v s. store_all b (below b k).call o xs s)) (λ v s. Gives Falls s))

-- 6.7.9p11: what a store of this value leads to
abbrev pub PutLed : Stored → (object i : ℕ) → Worth → Result Way Failure → Machine → Machine → Type 0
PutLed u o i v r old new =
    Always u old.moment (λ b out es. (k : ℕ) → b.bound < old.moment.taken + k →
    LeadsOr b u (put_first b k o (drop i (object_at b.unit o).inits) v (state_of old.moment out es)) old.started r new.started (state_of new.moment out es))
