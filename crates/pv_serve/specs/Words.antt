-- What the words of the command line ask for (5.1.2.2.1p2: a program's parameters). Which words there are is this program's own: docs/FORMATS.md
-- has the rules.
use Rattle.std.specs.Prelude.{ℕ, Bool, List, [], ◌∷◌, length, map, Option, Some, None, if◌then◌else◌, ◌==◌, nat_lt, codes, option_map, option_and_then, unwrap_or, is_some, String, string_bytes, true, false, ◌||◌, ◌&&◌}
use Rattle.std.specs.Str.{bytes_eq}
use Rattle.std.specs.List.{list_all}
use Rattle.std.specs.declared.alloc.Global.{Global}
use Rattle.pv_script.specs.Words.{number_to}
use Rattle.pv_serve.specs.declared.words.Task.{Task}
use Rattle.pv_serve.specs.declared.words.Task.TheVariants as task
use Rattle.pv_serve.specs.declared.words.Watched.{Watched}
use Rattle.pv_serve.specs.declared.words.Mode.{Mode}
use Rattle.pv_serve.specs.declared.words.Mode.TheVariants as whose
use Rattle.pv_serve.specs.Jobs.{FileJob, Job, Files, Generated, default_turns, nobody}
use Rattle.std.specs.Option.{option_or}

-- 5.1.2.2.1p2: a word is a string: the bytes of each
abbrev pub texts : List (String Global) → List (List ℕ)
texts words = map string_bytes words

-- ---- the values of options

-- docs/FORMATS.md, Words (5.1.2.2.1p2): the value of `--zap`: whether a pointer to what has ended is indeterminate (6.2.4p2)
abbrev pub zap_of : List ℕ → Option Bool
zap_of word = if bytes_eq word (codes "on") then Some true else if bytes_eq word (codes "off") then Some false else None

-- docs/FORMATS.md, Words (the memory model: sides of pairs): the value of `--sides`: `-` for no sides, or one or more letters: `l` is the low side,
-- `h` the high one
abbrev pub are_sides : List ℕ → Bool
are_sides word = bytes_eq word (codes "-") || nat_lt 0 (length word) && list_all (λ letter. letter == 108 || letter == 104) word

-- docs/FORMATS.md, Words (the memory model: sides of pairs): the sides that it says, of each whether it is the high one
abbrev pub sides_in : List ℕ → List Bool
sides_in word = if bytes_eq word (codes "-") then [] else map (λ letter. letter == 104) word

-- ---- options

-- docs/FORMATS.md, Words (5.1.2.2.1p2): what the options of a run or of a settled run say: the script's file, the bound, whether a pointer to what has
-- ended is indeterminate (6.2.4p2), the sides of pairs (the memory model), and the watchers
pub record Options : Type 0 where
  pub script : Option (List ℕ)
  pub turns : Option ℕ
  pub zap : Option Bool
  pub sides : Option (List Bool)
  pub watched : Watched

-- docs/FORMATS.md, Words (5.1.2.2.1p2): without an option there is no script, nothing else is said, and nobody watches
abbrev pub no_options : Options
no_options = record { script = None; turns = None; zap = None; sides = None; watched = nobody }

-- docs/FORMATS.md, Words (5.1.2.2.1p2): what an option says that stands once at most
abbrev pub once : {A : Type 0} → (before said : Option A) → Option A
once before said = if is_some before then None else said

-- docs/FORMATS.md, Words (5.1.2.2.1p2): the name of a file has a byte
abbrev pub file_name : List ℕ → Option (List ℕ)
file_name word = if nat_lt 0 (length word) then Some word else None

-- docs/FORMATS.md, Words (5.1.2.2.1p2): the watcher of this word more; each is asked for once at most
abbrev pub one_more : Watched → List ℕ → Option Watched
one_more w word =
    if bytes_eq word (codes "explain") then (if w.explain then None else Some (record w { explain = true }))
    else if bytes_eq word (codes "census") then (if w.census then None else Some (record w { census = true }))
    else if bytes_eq word (codes "pointers") then (if w.pointers then None else Some (record w { pointers = true })) else None

-- docs/FORMATS.md, Words (5.1.2.2.1p2): the option that a mode has by itself: `run` has `--watch`, for each watcher, and `settle` has `--sides`, once
-- (the memory model)
abbrev pub with_own : Mode → Options → (name value : List ℕ) → Option Options
with_own whose.Run o name value = if bytes_eq name (codes "--watch") then option_map (λ w. record o { watched = w }) (one_more o.watched value) else None
with_own whose.Settle o name value =
    if bytes_eq name (codes "--sides")
    then option_map (λ sides. record o { sides = Some sides }) (once o.sides (if are_sides value then Some (sides_in value) else None)) else None

-- docs/FORMATS.md, Words (5.1.2.2.1p2): one option more: its word and its value: `--script`, `--turns` and `--zap` once each, or the mode's own
abbrev pub with_option : Mode → Options → (name value : List ℕ) → Option Options
with_option m o name value =
    if bytes_eq name (codes "--script") then option_map (λ name. record o { script = Some name }) (once o.script (file_name value))
    else if bytes_eq name (codes "--turns") then option_map (λ n. record o { turns = Some n }) (once o.turns (number_to 100000000 value))
    else if bytes_eq name (codes "--zap") then option_map (λ zap. record o { zap = Some zap }) (once o.zap (zap_of value))
    else with_own m o name value

-- docs/FORMATS.md, Words (5.1.2.2.1p2): options in any order, each a word and its value
abbrev pub options : Mode → Options → List (List ℕ) → Option Options
options m o [] = Some o
options m o (name ∷ []) = None
options m o (name ∷ value ∷ rest) = option_and_then (λ p. options m p rest) (with_option m o name value)

-- ---- jobs

-- docs/FORMATS.md, Words (5.1.2.2.1p2): a run of this file, as its options say: 1000000 turns, and a pointer to what has ended is indeterminate
-- (6.2.4p2), unless they say otherwise
abbrev pub run_by : (file : List ℕ) → Options → FileJob
run_by file o =
    record { file = file; script = o.script; task = task.Run (unwrap_or o.turns default_turns) (unwrap_or o.zap true); sides = None; watched = o.watched }

-- docs/FORMATS.md, Words (the memory model): a settled run of this file, as its options say; turns and pointers as in a run
abbrev pub settled_by : (file : List ℕ) → Options → FileJob
settled_by file o =
    record { file = file; script = o.script; task = task.Settle (unwrap_or o.turns default_turns) (unwrap_or o.zap true); sides = o.sides; watched = nobody }

-- docs/FORMATS.md, Words (5.1.2.2.1p2): what describes a source has no options
abbrev pub description_job : Task → (file : List ℕ) → List (List ℕ) → Option FileJob
description_job t file rest = if length rest == 0 then Some (record { file = file; script = None; task = t; sides = None; watched = nobody }) else None

-- docs/FORMATS.md, Words (5.1.2.2.1p2): what a mode asks of a file, with these words behind it
abbrev pub file_job_for : (mode file : List ℕ) → List (List ℕ) → Option FileJob
file_job_for mode file rest =
    if bytes_eq mode (codes "run") then option_map (run_by file) (options whose.Run no_options rest)
    else if bytes_eq mode (codes "settle") then option_map (settled_by file) (options whose.Settle no_options rest)
    else if bytes_eq mode (codes "check") then description_job task.Check file rest
    else if bytes_eq mode (codes "layout") then description_job task.Layout file rest else None

-- docs/FORMATS.md, Words (5.1.2.2.1p2): `run FILE` with `--script F`, `--turns N`, `--zap V` and `--watch W` or without, `settle FILE` with `--script F`,
-- `--turns N`, `--zap V` and `--sides S` or without, `check FILE`, `layout FILE`, where FILE and F have a byte
abbrev pub file_job : List (List ℕ) → Option FileJob
file_job (mode ∷ file ∷ rest) = if nat_lt 0 (length file) then file_job_for mode file rest else None
file_job _ = None

-- docs/FORMATS.md, Words (5.1.2.2.1p2): `gen N`, with N from 1 to 8192
abbrev pub generator_count : List (List ℕ) → Option ℕ
generator_count (mode ∷ number ∷ []) = if bytes_eq mode (codes "gen") then number_to 8192 number else None
generator_count _ = None

-- 5.1.2.2.1p2: the job that the words ask for, if they do; anything else is no job (docs/FORMATS.md)
abbrev pub job : List (List ℕ) → Option Job
job words = option_or (option_map Generated (generator_count words)) (option_map Files (file_job words))

-- ---- what the code reads
