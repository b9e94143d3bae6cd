-- A bridge: what the code reads of the words of the command line.
use Rattle.std.specs.Prelude.{option_map, ◌≡◌, Option, Some, None, MatchOption}
use Rattle.pv_step.specs.declared.words.Asked.{Asked}
use Rattle.pv_step.specs.Words.{StepJob}

-- docs/FORMATS.md, Commands: the job that was read of the words
abbrev pub asked_job : Asked → StepJob
asked_job a = record { file = a.file.now; commands = a.commands.now; script = option_map (λ s. s.now) a.script }

-- docs/FORMATS.md, Commands: it is the job that the words ask for, or they ask for none
abbrev pub IsAsked : Option Asked → (wanted : Option StepJob) → Type 0
IsAsked read wanted = MatchOption read (wanted ≡ None) (λ a. wanted ≡ Some (asked_job a))
