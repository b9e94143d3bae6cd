-- A bridge: the words of evaluation (6.5), execution (6.8) and runs (5.1.2) without the guards.
use Rattle.std.specs.Prelude.{ℕ, Bool, List}
use Rattle.std.specs.declared.option.Option.{Option}
use Rattle.pv_num.specs.declared.kinds.IntKind.{IntKind}
use Rattle.pv_num.specs.declared.operators.BinOp.{BinOp}
use Rattle.pv_library.specs.declared.library.Library.{Library}
use Rattle.pv_libc.specs.declared.values.Arg.{Arg}
use Rattle.pv_types.specs.Ty.{Ty}
use Rattle.pv_typed.specs.declared.nodes.IncrementOperator.{IncrementOperator}
use Rattle.pv_typed.specs.declared.values.Const.{Const}
use Rattle.pv_typed.specs.TypedTree.{TypedTree, Form, Arguments}
use Rattle.pv_typed.specs.TypedStatement.{TypedStatement, Statements}
use Rattle.pv_typed.specs.TypedUnits.{Store, StoredValue, TypedObject, TypedFunction}
use Rattle.pv_seq.specs.Sequencing.{Access, Open}
use Rattle.pv_world.specs.Worlds.{Worth}
use Rattle.pv_eval.specs.States.{Setting, State, Res}
use Rattle.pv_eval.specs.TypeForms.{Lvalue}
use Rattle.pv_eval.specs.Operations.{Op}
use Rattle.pv_eval.specs.Sequenced.{Given, doing_by, work_by}
use Rattle.pv_eval.specs.Steps.{Calling, with_conversion_by, accepted_value_by, reading_by, writing_by, combining_by, stepping_by}
use Rattle.pv_exec.specs.Flows.{Flow, Below, full_expression_by, testing_by, stores_value_by, begin_fill_by, declares_by, if_tested_by, then_step_by, round_by, round_do_by, returns_value_by}
use Rattle.pv_exec.specs.Labels.{Target}
use Rattle.pv_eval.specs.Evaluation.{ev_form_by, ev_call_by, ev_through_by, ev_ask_by}
use Rattle.pv_exec.specs.Blocks.{end_all_by, in_block_by}
use Rattle.pv_exec.specs.Calls.{take_params_by, runs_body_by, call_body_by, below_by}
use Rattle.pv_exec.specs.Execution.{ex_by, exs_by, exs_at_by}
use Rattle.pv_exec.specs.Preparing.{make_static_by, store_constant_by, store_static_by, prepare_by}
use Rattle.pv_exec.specs.Run.{call_main_by}
use Rattle.pv_guards.specs.Plain.{act_plainly, rules}

-- 6.5p1: without the guards
abbrev pub doing : Setting → (line : ℕ) → Op → State → (Worth → State → Res Given) → Res Given
doing = doing_by act_plainly

-- 6.5p1: without the guards
abbrev pub work : Setting → (line : ℕ) → Op → Open → State → Res Given
work = work_by act_plainly

-- 6.3p1: without the guards
abbrev pub with_conversion : Setting → TypedTree → Worth → State → Res Worth
with_conversion = with_conversion_by act_plainly

-- 6.5.2.2p7: without the guards
abbrev pub accepted_value : Setting → TypedTree → Worth → State → Res Worth
accepted_value = accepted_value_by act_plainly

-- 6.3.2.1p2: without the guards
abbrev pub reading : Setting → Lvalue → (line : ℕ) → (place : Worth) → Open → State → (Open → Worth → State → Res Given) → Res Given
reading = reading_by act_plainly

-- 6.5.16p3: without the guards
abbrev pub writing : Setting → Lvalue → (line : ℕ) → (place value : Worth) → (from : Option ℕ) → Open → State → (Open → Worth → State → Res Given) → Res Given
writing = writing_by act_plainly

-- 6.5.16.2p3: without the guards
abbrev pub combining : Setting → (line : ℕ) → BinOp → (kind back : IntKind) → Worth → Worth → State → Res Worth
combining = combining_by act_plainly

-- 6.5.2.4p2: without the guards
abbrev pub stepping : Setting → (line : ℕ) → Ty → IncrementOperator → Worth → State → Res Worth
stepping = stepping_by act_plainly

-- 6.5p1: without the guards
abbrev pub ev_form : Setting → Calling → Ty → ℕ → Form → List Access → State → Res Given
ev_form = ev_form_by act_plainly

-- 6.5.2.2p10: without the guards
abbrev pub ev_call : Setting → Calling → ℕ → ℕ → List Worth → Arguments → Open → State → Res Given
ev_call = ev_call_by act_plainly

-- 6.5.2.2p1: without the guards
abbrev pub ev_through : Setting → Calling → ℕ → Ty → Worth → List Worth → Arguments → Open → State → Res Given
ev_through = ev_through_by act_plainly

-- 6.5.2.2p10: without the guards
abbrev pub ev_ask : Setting → Calling → ℕ → Library → List Arg → Arguments → Open → State → Res Given
ev_ask = ev_ask_by act_plainly

-- 6.8p4: without the guards
abbrev pub full_expression : Setting → Calling → TypedTree → State → Res Worth
full_expression = full_expression_by rules

-- 6.8.4.1p2: without the guards
abbrev pub testing : Setting → Calling → TypedTree → State → Res Worth
testing = testing_by rules

-- 6.2.4p6: without the guards
abbrev pub end_all : Setting → List ℕ → State → Res Worth
end_all = end_all_by rules

-- 6.2.4p6: without the guards
abbrev pub in_block : Setting → List ℕ → (State → Res Flow) → State → Res Flow
in_block = in_block_by rules

-- 6.7.9p11: without the guards
abbrev pub stores_value : Setting → Calling → (object : ℕ) → Store → StoredValue → State → Res Worth
stores_value = stores_value_by rules

-- 6.7.9p10: without the guards
abbrev pub begin_fill : Setting → (object : ℕ) → (braced : Bool) → List Store → State → Res Worth
begin_fill = begin_fill_by rules

-- 6.2.4p6: without the guards
abbrev pub declares : Setting → Calling → (object : ℕ) → TypedObject → State → Res Flow
declares = declares_by rules

-- 6.8.5p4: without the guards
abbrev pub if_tested : Setting → Calling → Option TypedTree → (State → Res Flow) → State → Res Flow
if_tested = if_tested_by rules

-- 6.8.5.3p1: without the guards
abbrev pub then_step : Setting → Calling → Option TypedTree → (State → Res Flow) → State → Res Flow
then_step = then_step_by rules

-- 6.8.5.1p1: without the guards
abbrev pub round : Setting → Calling → (condition step : Option TypedTree) → (body again : State → Res Flow) → State → Res Flow
round = round_by rules

-- 6.8.5.2p1: without the guards
abbrev pub round_do : Setting → Calling → (condition : TypedTree) → (body again : State → Res Flow) → State → Res Flow
round_do = round_do_by rules

-- 6.8.6.4p2: without the guards
abbrev pub returns_value : Setting → Calling → Option TypedTree → (line : ℕ) → State → Res Flow
returns_value = returns_value_by rules

-- 6.8p2: without the guards
abbrev pub ex : Setting → Below → TypedStatement → State → Res Flow
ex = ex_by rules

-- 6.8p2: without the guards
abbrev pub exs : Setting → Below → Statements → State → Res Flow
exs = exs_by rules

-- 6.8.4.2p4: without the guards
abbrev pub exs_at : Setting → Below → Target → Statements → State → Res Flow
exs_at = exs_at_by rules

-- 6.5.2.2p4: without the guards
abbrev pub take_params : Setting → (line : ℕ) → List ℕ → List Worth → State → Res Worth
take_params = take_params_by rules

-- 6.9p3: without the guards
abbrev pub runs_body : Setting → Below → Option TypedStatement → State → Res Flow
runs_body = runs_body_by rules

-- 6.5.2.2p4: without the guards
abbrev pub call_body : Setting → Below → TypedFunction → List Worth → (line : ℕ) → State → Res Worth
call_body = call_body_by rules

-- 6.5.2.2p11: without the guards
abbrev pub below : Setting → ℕ → Below
below = below_by rules

-- 6.2.4p3: without the guards
abbrev pub make_static : Setting → ℕ → State → Res Worth
make_static = make_static_by rules

-- 6.7.9p4: without the guards
abbrev pub store_constant : Setting → (object : ℕ) → Store → Option Const → State → Res Worth
store_constant = store_constant_by rules

-- 6.7.9p4: without the guards
abbrev pub store_static : Setting → (object : ℕ) → Store → StoredValue → State → Res Worth
store_static = store_static_by rules

-- 5.1.2p1: without the guards
abbrev pub prepare : Setting → State → Res Worth
prepare = prepare_by rules

-- 5.1.2.2.1p1: without the guards
abbrev pub call_main : Setting → Option ℕ → State → Res Worth
call_main = call_main_by rules
