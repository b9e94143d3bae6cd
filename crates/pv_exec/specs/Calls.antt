-- Calls of the program's functions (C17 6.5.2.2, 6.9.1), and the levels of calls and rounds.
use Rattle.std.specs.Prelude.{ℕ, zero, suc, pos, List, [], ◌∷◌, Some, None, if◌then◌else◌}
use Rattle.std.specs.declared.option.Option.{Option}
use Rattle.pv_typed.specs.TypedStatement.{TypedStatement}
use Rattle.pv_typed.specs.TypedUnits.{TypedFunction, object_at, function_at}
use Rattle.pv_typed.specs.Mains.{named_main}
use Rattle.pv_world.specs.Worlds.{Worth, Nothing, Missing}
use Rattle.pv_world.specs.Worths.{int}
use Rattle.pv_eval.specs.States.{Setting, State, Res, Gives, Stops, Unreached, then_do, tick}
use Rattle.pv_eval.specs.TypeForms.{lvalue, gives_none}
use Rattle.pv_eval.specs.Operations.{Makes, BeginsBody, EndsBody, Puts}
use Rattle.pv_exec.specs.Rules.{Rules, unruled}
use Rattle.pv_exec.specs.Flows.{Flow, Falls, Returns, Below, round_by, round_do_by}
use Rattle.pv_exec.specs.Blocks.{end_all_by}
use Rattle.pv_exec.specs.Execution.{ex_by}

-- 6.5.2.2p4, 6.9.1p10: each parameter is made and gets its argument
abbrev pub take_params_by : Rules → Setting → (line : ℕ) → List ℕ → List Worth → State → Res Worth
take_params_by R b line [] vs s = Gives Nothing s
take_params_by R b line (o ∷ os) [] s = unruled R (Gives Nothing s) s
take_params_by R b line (o ∷ os) (v ∷ vs) s =
    then_do (R.act b line (Makes o) s) (λ x s. then_do (R.act b line (Puts o 0 (lvalue b (object_at b.unit o).t) v) s) (λ x s. take_params_by R b line os vs s))

-- 5.1.2.2.3p1, 6.9.1p12: what there is where the `}` is reached: 0 of `main`, nothing of a `void` function, else a missing value
abbrev pub value_at_end : Setting → TypedFunction → Worth
value_at_end b f = if named_main b.unit.names f.name then int (pos 0) else (if gives_none f.t then Nothing else Missing)

-- 6.8.6.4p3, 6.9.1p12: what a call gives, from how its body was left
abbrev pub value_by : Setting → TypedFunction → Flow → Worth
value_by b f (Returns v) = v
value_by b f _ = value_at_end b f

-- 6.9p3, p5: a function that is called is defined; the body of another one would be an empty statement
abbrev pub runs_body_by : Rules → Setting → Below → Option TypedStatement → State → Res Flow
runs_body_by R b u None s = unruled R (tick b s (λ s. Gives Falls s)) s
runs_body_by R b u (Some x) s = ex_by R b u x s

-- 6.5.2.2p4, 6.9.1p10, p11: a call: the parameters are made, the body is executed, and the parameters end (6.2.4p6)
abbrev pub call_body_by : Rules → Setting → Below → TypedFunction → List Worth → (line : ℕ) → State → Res Worth
call_body_by R b u f vs line s =
    then_do (R.act b line (BeginsBody f.name line) s) (λ x s. then_do (take_params_by R b line f.params vs s) (λ x s. then_do (runs_body_by R b u f.body s) (λ fl s.
    then_do (end_all_by R b f.params s) (λ x s. then_do (R.act b line EndsBody s) (λ x s. Gives (value_by b f fl) s)))))

-- 6.5.2.2p11, 6.8.5p4: what lies below, where so many calls and rounds may still begin, one within or after another
unfoldable pub below_by : Rules → Setting → ℕ → Below
below_by R b zero = record {
  call = λ f vs line s. Stops Unreached s;
  again = λ c step x s. Stops Unreached s;
  again_do = λ x c s. Stops Unreached s;
}
below_by R b (suc k) = record {
  call = λ f vs line s. call_body_by R b (below_by R b k) (function_at b.unit f) vs line s;
  again = λ c step x s. round_by R b (below_by R b k).call c step (ex_by R b (below_by R b k) x) ((below_by R b k).again c step x) s;
  again_do = λ x c s. round_do_by R b (below_by R b k).call c (ex_by R b (below_by R b k) x) ((below_by R b k).again_do x c) s;
}
