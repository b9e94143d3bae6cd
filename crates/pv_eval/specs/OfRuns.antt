-- A bridge: the words of evaluation (6.5) as runs have them, whose operations look first whether their operands suit them.
use Rattle.std.specs.Prelude.{ℕ, List}
use Rattle.std.specs.declared.option.Option.{Option}
use Rattle.pv_num.specs.declared.kinds.IntKind.{IntKind}
use Rattle.pv_num.specs.declared.operators.BinOp.{BinOp}
use Rattle.pv_library.specs.declared.library.Library.{Library}
use Rattle.pv_libc.specs.declared.values.Arg.{Arg}
use Rattle.pv_types.specs.Ty.{Ty}
use Rattle.pv_typed.specs.declared.nodes.IncrementOperator.{IncrementOperator}
use Rattle.pv_typed.specs.TypedTree.{TypedTree, Form, Arguments}
use Rattle.pv_seq.specs.Sequencing.{Access, Open}
use Rattle.pv_world.specs.Worlds.{Worth}
use Rattle.pv_eval.specs.States.{Setting, State, Res}
use Rattle.pv_eval.specs.TypeForms.{Lvalue}
use Rattle.pv_eval.specs.Operations.{Op}
use Rattle.pv_eval.specs.Sequenced.{Given, doing_by, work_by}
use Rattle.pv_eval.specs.Steps.{Calling, with_conversion_by, accepted_value_by, reading_by, writing_by, combining_by, stepping_by}
use Rattle.pv_eval.specs.Evaluation.{ev_form_by, ev_call_by, ev_through_by, ev_ask_by}
use Rattle.pv_eval.specs.Operations.{act}

-- 6.5p1: as runs have it
abbrev pub doing : Setting → (line : ℕ) → Op → State → (Worth → State → Res Given) → Res Given
doing = doing_by act

-- 6.5p1: as runs have it
abbrev pub work : Setting → (line : ℕ) → Op → Open → State → Res Given
work = work_by act

-- 6.3p1: as runs have it
abbrev pub with_conversion : Setting → TypedTree → Worth → State → Res Worth
with_conversion = with_conversion_by act

-- 6.5.2.2p7: as runs have it
abbrev pub accepted_value : Setting → TypedTree → Worth → State → Res Worth
accepted_value = accepted_value_by act

-- 6.3.2.1p2: as runs have it
abbrev pub reading : Setting → Lvalue → (line : ℕ) → (place : Worth) → Open → State → (Open → Worth → State → Res Given) → Res Given
reading = reading_by act

-- 6.5.16p3: as runs have it
abbrev pub writing : Setting → Lvalue → (line : ℕ) → (place value : Worth) → (from : Option ℕ) → Open → State → (Open → Worth → State → Res Given) → Res Given
writing = writing_by act

-- 6.5.16.2p3: as runs have it
abbrev pub combining : Setting → (line : ℕ) → BinOp → (kind back : IntKind) → Worth → Worth → State → Res Worth
combining = combining_by act

-- 6.5.2.4p2: as runs have it
abbrev pub stepping : Setting → (line : ℕ) → Ty → IncrementOperator → Worth → State → Res Worth
stepping = stepping_by act

-- 6.5p1: as runs have it
abbrev pub ev_form : Setting → Calling → Ty → ℕ → Form → List Access → State → Res Given
ev_form = ev_form_by act

-- 6.5.2.2p10: as runs have it
abbrev pub ev_call : Setting → Calling → ℕ → ℕ → List Worth → Arguments → Open → State → Res Given
ev_call = ev_call_by act

-- 6.5.2.2p1: as runs have it
abbrev pub ev_through : Setting → Calling → ℕ → Ty → Worth → List Worth → Arguments → Open → State → Res Given
ev_through = ev_through_by act

-- 6.5.2.2p10: as runs have it
abbrev pub ev_ask : Setting → Calling → ℕ → Library → List Arg → Arguments → Open → State → Res Given
ev_ask = ev_ask_by act
