-- The answer that a source with its script, or words that are no job, must get.
use Rattle.std.specs.Prelude.{ℕ, Bool, false, List, [], ◌∷◌, length, nat_lt, Option, Some, None, IfSome, IsSomeAnd, if◌then◌else◌, ◌++◌, codes, option_to_list}
use Rattle.std.specs.Option.{option_map_or}
use Rattle.pv_watch.specs.Slots.{Slot}
use Rattle.pv_gen.specs.Source.{source_text}
use Rattle.pv_eval.specs.States.{State}
use Rattle.pv_serve.specs.declared.words.Task.{Task}
use Rattle.pv_serve.specs.Jobs.{Job, Files, Generated, task_of, sides_of}
use Rattle.pv_serve.specs.Verdicts.{Verdict}
use Rattle.pv_serve.specs.Comes.{source_limit}
use Rattle.pv_serve.specs.Judged.{Judged, SomeRun}
use Rattle.pv_serve.specs.LateSettling.{SettlesRight}
use Rattle.pv_serve.specs.Report.{Answer, answer_of, line_answer, line_feed}
use Rattle.pv_serve.specs.Watching.{AreTold, IsReport}

-- docs/FORMATS.md, The report (5.1.1.3p1, 7.21.8.1p3): the answer where a file that the words name could not be read
abbrev pub read_fault : Answer
read_fault = line_answer 11 (codes "fault read" ++ line_feed)

-- docs/FORMATS.md, What watchers say (the memory model): those who watch were told of the answer, and of its report, their texts behind its line, P holds
pub record HasReport (kept new : List Slot) (a : Answer) (P : List ℕ → Type 0) : Type 0 where
  pub told : AreTold a.course kept new
  pub text : List ℕ
  pub is : IsReport a.course new a.line text
  pub holds : P text

-- 5.1.1.3p1, 5.1.2.3: there is a verdict on the source with this script, what it says of sides is right (the memory model), and of its answer P holds
pub record SomeVerdict (source script : List ℕ) (task : Task) (sides : Option (List Bool)) (P : Answer → Type 0) : Type 0 where
  pub verdict : Verdict
  pub judged : Judged source script task sides verdict
  pub right : SettlesRight (Judged source script task) verdict
  pub answered : P (answer_of verdict)

-- 5.2.4.1: of a source that is too long no script is needed
abbrev pub script_needed : (source : List ℕ) → Option (List ℕ) → Option (List ℕ)
script_needed source script = if nat_lt source_limit (length source) then Some [] else script

-- 7.21.3p8: the files that a source and its script are read from; of a source that is known to be too long (5.2.4.1) no script is read
abbrev pub files_read : (file : List ℕ) (script : Option (List ℕ)) (held : List ℕ → Option (List ℕ)) → List (List ℕ)
files_read file script held =
    file ∷ (if option_map_or (λ (source : List ℕ). nat_lt source_limit (length source)) (held file) false then [] else option_to_list script)

-- docs/FORMATS.md, Words (5.1.2.2.1p2): the files that are read for a job
abbrev pub files_of : Job → (held : List ℕ → Option (List ℕ)) → List (List ℕ)
files_of (Files j) held = files_read j.file j.script held
files_of (Generated n) held = []

-- docs/FORMATS.md, Scripts of addresses (the memory model): the bytes of the script that a job names, where they are told; one that names none has none
abbrev pub script_held : Option (List ℕ) → (held : List ℕ → Option (List ℕ)) → Option (List ℕ)
script_held script held = option_map_or held script (Some [])

-- docs/FORMATS.md, Words (5.1.2.2.1p2): of the source in a file and its script, where they are told, P holds; nothing is said where a file that is needed isn't told
abbrev pub OfFiles : (file : List ℕ) (script : Option (List ℕ)) (held : List ℕ → Option (List ℕ)) → ((source text : List ℕ) → Type 0) → Type 0
OfFiles file script held P = IfSome (held file) (λ source. IfSome (script_needed source (script_held script held)) (P source))

-- docs/FORMATS.md, Words (5.1.2.2.1p2): of a job's source and its script, where they are told, P holds. A source that is generated has no script
abbrev pub OfSource : Job → (held : List ℕ → Option (List ℕ)) → ((source script : List ℕ) → Type 0) → Type 0
OfSource (Files job) held P = OfFiles job.file job.script held P
OfSource (Generated number) held P = P (source_text number) []

-- 5.1.1.3p1, 5.1.2.3: there is an answer to the job, and of it P holds; one to words that are no job, too (docs/FORMATS.md, Words; 5.1.2.2.1p2)
abbrev pub SomeAnswer : Option Job → (held : List ℕ → Option (List ℕ)) → (Answer → Type 0) → Type 0
SomeAnswer None held P = P (line_answer 10 (codes "words" ++ line_feed))
SomeAnswer (Some job) held P = OfSource job held (λ source script. SomeVerdict source script (task_of job) (sides_of job) P)

-- 5.1.2.3: the job is a run, and of the state in which it ends P holds
abbrev pub SomeEnd : Option Job → (held : List ℕ → Option (List ℕ)) → (State → List (List ℕ) → Type 0) → Type 0
SomeEnd asked held P = IsSomeAnd asked (λ job. OfSource job held (λ source script. SomeRun source script (task_of job) (sides_of job) P))
