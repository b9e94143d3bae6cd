-- What may be asked of the program. What a program's parameters (5.1.2.2.1p2) mean is its own: docs/FORMATS.md has the rules.
use Rattle.std.specs.Prelude.{ℕ, Bool, List, [], ◌∷◌, ◌++◌, Option, None, if◌then◌else◌, true, false}
use Rattle.pv_serve.specs.declared.words.Task.{Task}
use Rattle.pv_serve.specs.declared.words.Task.TheVariants as task
use Rattle.pv_serve.specs.declared.words.Watched.{Watched}

-- docs/FORMATS.md: a task for the source of this file, with the script of that file, if one is named, which says where storage instances
-- lie, the sides of pairs of candidates, of each whether it is the high one, if any are given (the memory model), and the watchers that are asked for
pub record FileJob : Type 0 where
  pub file : List ℕ
  pub script : Option (List ℕ)
  pub task : Task
  pub sides : Option (List Bool)
  pub watched : Watched

-- docs/FORMATS.md, Words (5.1.2.2.1p2): a job: a file's, or the run of the source that is generated for this number
pub data Job : Type 0 where
  Files : (job : FileJob) → Job
  Generated : (number : ℕ) → Job

-- docs/FORMATS.md, Words (5.1.2.2.1p2): as many turns has a run whose words do not say how many, and that of a generated source
abbrev pub default_turns : ℕ
default_turns = 1000000

-- docs/FORMATS.md, Words (5.1.2.2.1p2): what is to be done with a job's source; a generated one is run, and a pointer to what has ended is
-- indeterminate (6.2.4p2)
abbrev pub task_of : Job → Task
task_of (Files j) = j.task
task_of (Generated n) = task.Run default_turns true

-- docs/FORMATS.md, Words (the memory model): the sides that a job gives
abbrev pub sides_of : Job → Option (List Bool)
sides_of (Files j) = j.sides
sides_of (Generated n) = None

-- docs/FORMATS.md, What watchers say (the memory model): no watcher
abbrev pub nobody : Watched
nobody = record { explain = false; census = false; pointers = false }

-- docs/FORMATS.md, What watchers say (the memory model): the number of a kind of watcher, where it is wanted
abbrev pub if_wanted : Bool → (number : ℕ) → List ℕ
if_wanted wanted number = if wanted then number ∷ [] else []

-- docs/FORMATS.md: the numbers of the kinds of watchers: 1 tells the story of a fault, 2 counts events, 3 tells the life of each pair (the memory model)
abbrev pub kinds_of : Watched → List ℕ
kinds_of w = if_wanted w.explain 1 ++ if_wanted w.census 2 ++ if_wanted w.pointers 3

-- docs/FORMATS.md, What watchers say (the memory model): those who watch a job; a generated source has a count of its events alone
abbrev pub watched_of : Job → Watched
watched_of (Files j) = j.watched
watched_of (Generated n) = record { explain = false; census = true; pointers = false }
