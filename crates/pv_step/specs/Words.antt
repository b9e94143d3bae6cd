-- What the words of the command line ask for (5.1.2.2.1p2: a program's parameters). Which words there are is this program's own: docs/FORMATS.md
-- has the rules.
use Rattle.std.specs.Prelude.{ℕ, ◌&&◌, List, [], ◌∷◌, ◌++◌, length, Option, Some, None, if◌then◌else◌, nat_lt, codes, option_map, option_to_list}
use Rattle.std.specs.Str.{bytes_eq}

-- docs/FORMATS.md, Commands (5.1.2.3): the source in this file is run, with the script of addresses in that file, if one is named, and the commands in a third look at
-- its run
pub record StepJob : Type 0 where
  pub file : List ℕ
  pub commands : List ℕ
  pub script : Option (List ℕ)

-- docs/FORMATS.md, Commands (5.1.2.2.1p2): the names of the files that are read, in this order
abbrev pub files_of : StepJob → List (List ℕ)
files_of j = (j.file ∷ option_to_list j.script) ++ j.commands ∷ []

-- docs/FORMATS.md, Commands (5.1.2.2.1p2): `--script F`
abbrev pub script_by : (word name : List ℕ) → Option (Option (List ℕ))
script_by word name = if bytes_eq word (codes "--script") && nat_lt 0 (length name) then Some (Some name) else None

-- docs/FORMATS.md, Commands (5.1.2.2.1p2): the script's file, if the words behind the two files name one; `--script F` is all that may stand there
abbrev pub script_in : List (List ℕ) → Option (Option (List ℕ))
script_in [] = Some None
script_in (word ∷ name ∷ []) = script_by word name
script_in _ = None

-- docs/FORMATS.md, Commands (5.1.2.2.1p2): what two files, each of whose names has a byte, and the words behind them ask for
abbrev pub step_job_of : (file commands : List ℕ) → List (List ℕ) → Option StepJob
step_job_of file commands rest =
    if nat_lt 0 (length file)
    then (if nat_lt 0 (length commands) then option_map (λ script. record { file = file; commands = commands; script = script }) (script_in rest) else None)
    else None

-- docs/FORMATS.md, Commands (5.1.2.2.1p2): what the words ask for, if they do: `SOURCE COMMANDS`, with `--script F` behind them or without
abbrev pub job : List (List ℕ) → Option StepJob
job (file ∷ commands ∷ rest) = step_job_of file commands rest
job _ = None

-- ---- what the code reads
