-- A bridge: the words of execution (6.8) and of runs (5.1.2), by the rules that runs go by.
use Rattle.std.specs.Prelude.{ℕ, Bool, List}
use Rattle.std.specs.declared.option.Option.{Option}
use Rattle.pv_typed.specs.declared.values.Const.{Const}
use Rattle.pv_typed.specs.TypedTree.{TypedTree}
use Rattle.pv_typed.specs.TypedStatement.{TypedStatement, Statements}
use Rattle.pv_typed.specs.TypedUnits.{Store, StoredValue, TypedObject, TypedFunction}
use Rattle.pv_world.specs.Worlds.{Worth}
use Rattle.pv_eval.specs.States.{Setting, State, Res}
use Rattle.pv_eval.specs.Steps.{Calling}
use Rattle.pv_exec.specs.Flows.{Flow, Below, full_expression_by, testing_by, stores_value_by, begin_fill_by, declares_by, if_tested_by, then_step_by, round_by, round_do_by, returns_value_by}
use Rattle.pv_exec.specs.Labels.{Target}
use Rattle.pv_exec.specs.Blocks.{end_all_by, in_block_by}
use Rattle.pv_exec.specs.Execution.{ex_by, exs_by, exs_at_by}
use Rattle.pv_exec.specs.Calls.{take_params_by, runs_body_by, call_body_by, below_by}
use Rattle.pv_exec.specs.Preparing.{make_static_by, store_constant_by, store_static_by, prepare_by}
use Rattle.pv_exec.specs.Run.{call_main_by}
use Rattle.pv_exec.specs.Rules.{of_runs}

-- 6.8p4: as runs have it
abbrev pub full_expression : Setting → Calling → TypedTree → State → Res Worth
full_expression = full_expression_by of_runs

-- 6.8.4.1p2: as runs have it
abbrev pub testing : Setting → Calling → TypedTree → State → Res Worth
testing = testing_by of_runs

-- 6.7.9p11: as runs have it
abbrev pub stores_value : Setting → Calling → (object : ℕ) → Store → StoredValue → State → Res Worth
stores_value = stores_value_by of_runs

-- 6.7.9p10: as runs have it
abbrev pub begin_fill : Setting → (object : ℕ) → (braced : Bool) → List Store → State → Res Worth
begin_fill = begin_fill_by of_runs

-- 6.2.4p6: as runs have it
abbrev pub declares : Setting → Calling → (object : ℕ) → TypedObject → State → Res Flow
declares = declares_by of_runs

-- 6.8.5p4: as runs have it
abbrev pub if_tested : Setting → Calling → Option TypedTree → (State → Res Flow) → State → Res Flow
if_tested = if_tested_by of_runs

-- 6.8.5.3p1: as runs have it
abbrev pub then_step : Setting → Calling → Option TypedTree → (State → Res Flow) → State → Res Flow
then_step = then_step_by of_runs

-- 6.8.5.1p1: as runs have it
abbrev pub round : Setting → Calling → (condition step : Option TypedTree) → (body again : State → Res Flow) → State → Res Flow
round = round_by of_runs

-- 6.8.5.2p1: as runs have it
abbrev pub round_do : Setting → Calling → (condition : TypedTree) → (body again : State → Res Flow) → State → Res Flow
round_do = round_do_by of_runs

-- 6.8.6.4p2: as runs have it
abbrev pub returns_value : Setting → Calling → Option TypedTree → (line : ℕ) → State → Res Flow
returns_value = returns_value_by of_runs

-- 6.2.4p6: as runs have it
abbrev pub end_all : Setting → List ℕ → State → Res Worth
end_all = end_all_by of_runs

-- 6.2.4p6: as runs have it
abbrev pub in_block : Setting → List ℕ → (State → Res Flow) → State → Res Flow
in_block = in_block_by of_runs

-- 6.8p2: as runs have it
abbrev pub ex : Setting → Below → TypedStatement → State → Res Flow
ex = ex_by of_runs

-- 6.8p2: as runs have it
abbrev pub exs : Setting → Below → Statements → State → Res Flow
exs = exs_by of_runs

-- 6.8.4.2p4: as runs have it
abbrev pub exs_at : Setting → Below → Target → Statements → State → Res Flow
exs_at = exs_at_by of_runs

-- 6.5.2.2p4: as runs have it
abbrev pub take_params : Setting → (line : ℕ) → List ℕ → List Worth → State → Res Worth
take_params = take_params_by of_runs

-- 6.9p3: as runs have it
abbrev pub runs_body : Setting → Below → Option TypedStatement → State → Res Flow
runs_body = runs_body_by of_runs

-- 6.5.2.2p4: as runs have it
abbrev pub call_body : Setting → Below → TypedFunction → List Worth → (line : ℕ) → State → Res Worth
call_body = call_body_by of_runs

-- 6.5.2.2p11: as runs have it
abbrev pub below : Setting → ℕ → Below
below = below_by of_runs

-- 6.2.4p3: as runs have it
abbrev pub make_static : Setting → ℕ → State → Res Worth
make_static = make_static_by of_runs

-- 6.7.9p4: as runs have it
abbrev pub store_constant : Setting → (object : ℕ) → Store → Option Const → State → Res Worth
store_constant = store_constant_by of_runs

-- 6.7.9p4: as runs have it
abbrev pub store_static : Setting → (object : ℕ) → Store → StoredValue → State → Res Worth
store_static = store_static_by of_runs

-- 5.1.2p1: as runs have it
abbrev pub prepare : Setting → State → Res Worth
prepare = prepare_by of_runs

-- 5.1.2.2.1p1: as runs have it
abbrev pub call_main : Setting → Option ℕ → State → Res Worth
call_main = call_main_by of_runs
