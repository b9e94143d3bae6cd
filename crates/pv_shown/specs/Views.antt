-- A bridge: what the code's answers stand for (5.1.2.3).
use Rattle.std.specs.Prelude.{◌≡◌, Result, Ok, Err}
use Rattle.pv_journal.specs.Lines.{rows_under}
use Rattle.pv_shown.specs.declared.reading.CommandError.{CommandError}
use Rattle.pv_shown.specs.declared.reading.CommandError.TheVariants as error
use Rattle.pv_shown.specs.declared.moving.Ran.{Ran}
use Rattle.pv_shown.specs.Shown.{Run}

-- docs/FORMATS.md, Commands: it is what the file says; or there was no memory
abbrev pub OrNoMemory : {A B : Type 0} → (A → B) → Result A CommandError → Result B CommandError → Type 0
OrNoMemory seen (Ok a) wanted = Ok (seen a) ≡ wanted
OrNoMemory seen (Err error.NoMemory) wanted = Unit {0}
OrNoMemory seen (Err error.Size) wanted = Err error.Size ≡ wanted
OrNoMemory seen (Err (error.BadLine n)) wanted = Err (error.BadLine n) ≡ wanted

-- the run that is looked at
abbrev pub run_view : Ran → Run
run_view r = record { rows = rows_under r.names.now r.lines.now; taken = r.taken; by_turns = r.by_turns; line = r.line.now }
