-- The same by the numbers of instances.
use Rattle.std.proofs.Common.{ℕ, Bool, List}
use Rattle.std.specs.declared.option.Option.{Option}
use Rattle.pv_script.specs.Lines.{ScriptLine}
use Rattle.pv_typed.specs.Tables.{Stored}
use Rattle.pv_eval.specs.States.{end_of}
use Rattle.pv_exec.specs.Laws.{run_at}
use Rattle.pv_exec.proofs.Memory.Runs.{run-sound}
use Rattle.pv_inst.specs.WellFormed.{IsWellFormed}
use Rattle.pv_exec.specs.Laying.{table_at, IsLaidOut, HasNoEmptyTag}
use Rattle.pv_guards.proofs.Laid.{sound-laid, sound-formed}

pub run-laid : (u : Stored) (sides : Option (List Bool)) (zap : Bool) (script : List ScriptLine) (n : ℕ) → IsLaidOut (table_at (end_of (run_at u sides zap script n)))
run-laid u sides zap script n = sound-laid (HasNoEmptyTag u) (table_at (end_of (run_at u sides zap script n))) (run-sound u sides zap script n)

pub run-formed : (u : Stored) (sides : Option (List Bool)) (zap : Bool) (script : List ScriptLine) (n : ℕ) → HasNoEmptyTag u → IsWellFormed (table_at (end_of (run_at u sides zap script n)))
run-formed u sides zap script n f = sound-formed (HasNoEmptyTag u) (table_at (end_of (run_at u sides zap script n))) f (run-sound u sides zap script n)
