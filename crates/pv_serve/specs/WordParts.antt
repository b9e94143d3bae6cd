-- A bridge: what functions answer that do a part of what Words says.
use Rattle.pv_script.specs.Words.{number_to}
use Rattle.pv_serve.specs.Words.{file_name, Options, once, zap_of, sides_in, are_sides, one_more, no_options, run_by, options, settled_by}
use Rattle.pv_serve.specs.Jobs.{FileJob, Files, Generated, Job}
use Rattle.pv_serve.specs.declared.words.Watched.{Watched}
use Rattle.pv_serve.specs.declared.words.Mode.TheVariants as whose
use Rattle.std.specs.Prelude.{List, ℕ, Option, Bool, ◌||◌, ◌==◌, Some, option_map, None, if◌then◌else◌}
use Rattle.std.specs.Option.{option_or}

-- docs/FORMATS.md, Words: the value of `--turns`
abbrev pub turns_of : List ℕ → Option ℕ
turns_of digits = number_to 100000000 digits

-- docs/FORMATS.md, Words (the memory model: sides of a pair): the letter `l` is the low side, `h` the high one
abbrev pub is_side : ℕ → Bool
is_side letter = letter == 108 || letter == 104

-- docs/FORMATS.md, Words: `--script` with this value
abbrev pub with_script : Options → List ℕ → Option Options
with_script o word = option_map (λ name. record o { script = Some name }) (once o.script (file_name word))

-- docs/FORMATS.md, Words: `--turns` with this value; the value of `--turns`
abbrev pub with_turns : Options → List ℕ → Option Options
with_turns o word = option_map (λ n. record o { turns = Some n }) (once o.turns (number_to 100000000 word))

-- docs/FORMATS.md, Words: `--zap` with this value
abbrev pub with_zap : Options → List ℕ → Option Options
with_zap o word = option_map (λ zap. record o { zap = Some zap }) (once o.zap (zap_of word))

-- docs/FORMATS.md, Words (the memory model): `--sides` with this value
abbrev pub with_sides : Options → List ℕ → Option Options
with_sides o word = option_map (λ sides. record o { sides = Some sides }) (once o.sides (if are_sides word then Some (sides_in word) else None))

-- docs/FORMATS.md, Words: a watcher is asked for once at most
abbrev pub watch_once : (wanted : Bool) → Watched → Option Watched
watch_once wanted more = if wanted then None else Some more

-- docs/FORMATS.md, Words: `--watch` with this value
abbrev pub with_watch : Options → List ℕ → Option Options
with_watch o word = option_map (λ w. record o { watched = w }) (one_more o.watched word)

-- docs/FORMATS.md, Words: `run FILE` with these words behind it
abbrev pub run_of : (file : List ℕ) → List (List ℕ) → Option FileJob
run_of file rest = option_map (run_by file) (options whose.Run no_options rest)

-- docs/FORMATS.md, Words (the memory model): `settle FILE` with these words behind it
abbrev pub settle_of : (file : List ℕ) → List (List ℕ) → Option FileJob
settle_of file rest = option_map (settled_by file) (options whose.Settle no_options rest)

-- docs/FORMATS.md, Words (5.1.2.2.1p2): the job of a generated source, or a file's
abbrev pub either : Option ℕ → Option FileJob → Option Job
either number other = option_or (option_map Generated number) (option_map Files other)
