-- A bridge: what the code reads of the words of the command line, one option after another.
use Rattle.std.specs.Prelude.{◌≤◌, ◌<◌, ℕ, Option, Some, None, option_map, ◌≡◌, MatchOption, IfSome}
use Rattle.pv_serve.specs.declared.words.Task.{Task}
use Rattle.pv_serve.specs.declared.words.Task.TheVariants as task
use Rattle.pv_serve.specs.Words.{sides_in, Options}
use Rattle.pv_serve.specs.declared.words.Asked.{Asked}
use Rattle.pv_serve.specs.Jobs.{FileJob}
use Rattle.pv_serve.specs.declared.words.Options.{Options as ReadOptions}

-- a run takes a turn at a time; its bound is from 1 to 100000000 (docs/FORMATS.md)
abbrev pub IsBound : ℕ → Type 0
IsBound n = (0 < n) × (n ≤ 100000000)

-- docs/FORMATS.md, Words: a task whose bound, if it is a run, is one
abbrev pub IsTask : Task → Type 0
IsTask (task.Run bound zap) = IsBound bound
IsTask (task.Settle bound zap) = IsBound bound
IsTask task.Check = Unit {0}
IsTask task.Layout = Unit {0}

-- docs/FORMATS.md, Words: the job that was read of the words
abbrev pub asked_job : Asked → FileJob
asked_job a = record {
  file = a.file.now;
  script = option_map (λ s. s.now) a.script;
  task = a.task;
  sides = option_map (λ s. sides_in s.now) a.sides;
  watched = a.watched;
}

-- docs/FORMATS.md, Words: it is the job that the words ask for, or they ask for none
abbrev pub IsAsked : Option Asked → (wanted : Option FileJob) → Type 0
IsAsked read wanted = MatchOption read (wanted ≡ None) (λ a. wanted ≡ Some (asked_job a))

-- docs/FORMATS.md, Words: the options that were read
abbrev pub options_read : ReadOptions → Options
options_read o = record {
  script = option_map (λ s. s.now) o.script;
  turns = o.turns;
  zap = o.zap;
  sides = option_map (λ s. sides_in s.now) o.sides;
  watched = o.watched;
}

-- docs/FORMATS.md, Words: they are the options that the words say, or the words are no options
abbrev pub AreOptions : Option ReadOptions → (wanted : Option Options) → Type 0
AreOptions read wanted = MatchOption read (wanted ≡ None) (λ o. wanted ≡ Some (options_read o))

-- docs/FORMATS.md, Words: a bound that is given is one
abbrev pub AreBounded : Option ℕ → Type 0
AreBounded turns = IfSome turns IsBound
