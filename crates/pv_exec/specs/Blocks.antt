-- Blocks (C17 6.8.2): their objects are made when one is entered, and end in whatever way it is left (6.2.4p6).
use Rattle.std.specs.Prelude.{ℕ, List}
use Rattle.pv_typed.specs.TypedUnits.{object_at}
use Rattle.pv_world.specs.Worlds.{Worth}
use Rattle.pv_eval.specs.States.{Setting, State, Res, Gives, then_do}
use Rattle.pv_eval.specs.Operations.{Makes, Ends}
use Rattle.pv_exec.specs.Rules.{Rules}
use Rattle.pv_exec.specs.Flows.{Flow, each}

-- 6.2.4p6: the objects of a block end when it is left, in the order of their declarations
abbrev pub end_all_by : Rules → Setting → List ℕ → State → Res Worth
end_all_by R b os s = each (λ (o : ℕ) s. R.act b (object_at b.unit o).line (Ends o) s) os s

-- 6.2.4p6, 6.8.2p2: a block: its objects are made when it is entered, in the order of their declarations (which is our choice), it is executed, and
-- in whatever way it is left they end
abbrev pub in_block_by : Rules → Setting → List ℕ → (State → Res Flow) → State → Res Flow
in_block_by R b os body s =
    then_do (each (λ (o : ℕ) s. R.act b (object_at b.unit o).line (Makes o) s) os s) (λ v s. then_do (body s) (λ fl s.
    then_do (end_all_by R b os s) (λ v s. Gives fl s)))
