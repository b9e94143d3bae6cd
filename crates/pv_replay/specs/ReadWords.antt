-- A bridge: what the code reads of the words of the command line.
use Rattle.std.specs.Prelude.{Option, Some, None, option_map, ◌≡◌, MatchOption}
use Rattle.pv_serve.specs.ReadWords.{IsBound}
use Rattle.pv_replay.specs.Words.{Options, RunJob, Check, Write, Job}
use Rattle.pv_replay.specs.declared.words.RunAsked.{RunAsked}
use Rattle.pv_replay.specs.declared.words.Asked.{Asked}
use Rattle.pv_replay.specs.declared.words.Asked.TheVariants as asked_for
use Rattle.pv_replay.specs.declared.words.Options.{Options as ReadOptions}

-- docs/FORMATS.md, Journals: the run that was read of the words
abbrev pub run_job : RunAsked → RunJob
run_job r = record { file = r.file.now; script = option_map (λ s. s.now) r.script; bound = r.turns }

-- docs/FORMATS.md, Journals: the job that was read of the words
abbrev pub asked_job : Asked → Job
asked_job (asked_for.Write run) = Write (run_job run)
asked_job (asked_for.Check file) = Check file.now

-- docs/FORMATS.md, Journals: it is the job that the words ask for, or they ask for none
abbrev pub IsAsked : Option Asked → (wanted : Option Job) → Type 0
IsAsked read wanted = MatchOption read (wanted ≡ None) (λ a. wanted ≡ Some (asked_job a))

-- the bound of a run is one
abbrev pub IsBounded : Asked → Type 0
IsBounded (asked_for.Write run) = IsBound run.turns
IsBounded (asked_for.Check file) = Unit {0}

-- docs/FORMATS.md, Journals: the options that were read
abbrev pub options_read : ReadOptions → Options
options_read o = record { script = option_map (λ s. s.now) o.script; turns = o.turns }

-- docs/FORMATS.md, Journals: they are the options that the words say, or the words are no options
abbrev pub AreOptions : Option ReadOptions → (wanted : Option Options) → Type 0
AreOptions read wanted = MatchOption read (wanted ≡ None) (λ o. wanted ≡ Some (options_read o))
