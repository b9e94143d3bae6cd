-- What the words of the command line ask for (5.1.2.2.1p2: a program's parameters). Which words there are is this program's own: docs/FORMATS.md
-- has the rules.
use Rattle.std.specs.Prelude.{ℕ, List, [], ◌∷◌, length, Option, Some, None, if◌then◌else◌, nat_lt, codes, option_map, option_and_then, unwrap_or}
use Rattle.std.specs.Str.{bytes_eq}
use Rattle.pv_serve.specs.Jobs.{default_turns}
use Rattle.pv_script.specs.Words.{number_to}
use Rattle.pv_serve.specs.Words.{once, file_name}

-- docs/FORMATS.md, Journals (5.1.2.3): a run: of the source in this file, with the script of addresses in that file, if one is named, and with so many turns at most
pub record RunJob : Type 0 where
  pub file : List ℕ
  pub script : Option (List ℕ)
  pub bound : ℕ

-- docs/FORMATS.md, Journals (5.1.2.2.1p2): a job: the journal of a run is written, or the one in this file is checked
pub data Job : Type 0 where
  Write : (run : RunJob) → Job
  Check : (file : List ℕ) → Job

-- ---- options

-- docs/FORMATS.md, Journals (5.1.2.2.1p2): what the options of a run say: the script's file and the bound, each if it is given
pub record Options : Type 0 where
  pub script : Option (List ℕ)
  pub turns : Option ℕ

-- docs/FORMATS.md, Journals (5.1.2.2.1p2): nothing is said
abbrev pub no_options : Options
no_options = record { script = None; turns = None }

-- docs/FORMATS.md, Journals (5.1.2.2.1p2): `--script` with this value, once at most
abbrev pub with_script : Options → List ℕ → Option Options
with_script o word = option_map (λ name. record o { script = Some name }) (once o.script (file_name word))

-- docs/FORMATS.md, Journals (5.1.2.2.1p2): `--turns` with this value, once at most
abbrev pub with_turns : Options → List ℕ → Option Options
with_turns o word = option_map (λ n. record o { turns = Some n }) (once o.turns (number_to 100000000 word))

-- docs/FORMATS.md, Journals (5.1.2.2.1p2): one option more: its word and its value
abbrev pub with_option : Options → (name value : List ℕ) → Option Options
with_option o name value =
    if bytes_eq name (codes "--script") then with_script o value
    else if bytes_eq name (codes "--turns") then with_turns o value else None

-- docs/FORMATS.md, Journals (5.1.2.2.1p2): options in any order, each a word and its value
abbrev pub options : Options → List (List ℕ) → Option Options
options o [] = Some o
options o (name ∷ []) = None
options o (name ∷ value ∷ rest) = option_and_then (λ p. options p rest) (with_option o name value)

-- ---- jobs

-- docs/FORMATS.md, Journals (5.1.2.3): a run of this file, as its options say
abbrev pub run_by : (file : List ℕ) → Options → RunJob
run_by file o = record { file = file; script = o.script; bound = unwrap_or o.turns default_turns }

-- docs/FORMATS.md, Journals (5.1.2.2.1p2): `write FILE` with these words behind it
abbrev pub write_of : (file : List ℕ) → List (List ℕ) → Option Job
write_of file rest = option_map (λ o. Write (run_by file o)) (options no_options rest)

-- docs/FORMATS.md, Journals (5.1.2.2.1p2): `check FILE` has no options
abbrev pub check_of : (file : List ℕ) → List (List ℕ) → Option Job
check_of file [] = Some (Check file)
check_of file _ = None

-- docs/FORMATS.md, Journals (5.1.2.2.1p2): what a mode asks of a file, with these words behind it
abbrev pub job_of_mode : (mode file : List ℕ) → List (List ℕ) → Option Job
job_of_mode mode file rest =
    if bytes_eq mode (codes "write") then write_of file rest
    else if bytes_eq mode (codes "check") then check_of file rest else None

-- 5.1.2.2.1p2: the job that the words ask for, if they do: `write FILE` with `--script F` and `--turns N` or without, or `check FILE`, where FILE and F have
-- a byte; anything else is no job (docs/FORMATS.md)
abbrev pub job : List (List ℕ) → Option Job
job (mode ∷ file ∷ rest) = if nat_lt 0 (length file) then job_of_mode mode file rest else None
job _ = None
