-- The reply that a source with its script and a file of commands must get.
use Rattle.std.specs.Prelude.{◌≡◌, ℕ, Bool, true, false, List, Option, None, Result, Ok, Err, IfSome}
use Rattle.pv_watch.specs.Texts as watched
use Rattle.pv_exec.specs.declared.outcome.Outcome.{Outcome}
use Rattle.pv_exec.specs.declared.outcome.Outcome.TheVariants as outcome
use Rattle.pv_serve.specs.declared.words.Task.TheVariants as task
use Rattle.pv_serve.specs.Verdicts.{Verdict, Ended}
use Rattle.pv_serve.specs.Judged.{Judged}
use Rattle.pv_serve.specs.Report.{answer_of}
use Rattle.pv_serve.specs.Outside.{AnyRose}
use Rattle.pv_serve.specs.Answer.{script_held}
use Rattle.pv_serve.specs.Replies.{Reply, Service}
use Rattle.pv_journal.specs.Journals.{Row}
use Rattle.pv_journal.specs.Obeying.{IsJournal}
use Rattle.pv_shown.specs.declared.reading.Command.{Command}
use Rattle.pv_shown.specs.declared.reading.CommandError.{CommandError}
use Rattle.pv_shown.specs.Commands.{commands_of, refusal_line, last_position}
use Rattle.pv_shown.specs.Shown.{Run, report_of}
use Rattle.pv_step.specs.Words.{StepJob, files_of, job}

-- 5.1.1.3p1: the reply to a file of commands that has no reading
abbrev pub refused_by : CommandError → Reply
refused_by e = record { status = 19; text = refusal_line e }

-- ---- the run that is looked at

-- 5.1.2.3p1: a run ended because one more turn was due
abbrev pub is_turns : Outcome → Bool
is_turns outcome.Turns = true
is_turns _ = false

-- 5.1.2.3: the run that is looked at, by how it ended, the line of its report, and the lines of its journal (the memory model)
abbrev pub run_of : (turns : ℕ) → Outcome → (line : List ℕ) → List Row → Run
run_of turns o line rows = record { rows = rows; taken = turns; by_turns = is_turns o; line = line }

-- 5.1.1.3p1: what is told of a source, or of its script, that is refused
abbrev pub told_of : Verdict → Reply
told_of v = record { status = (answer_of v).status; text = (answer_of v).line }

-- docs/FORMATS.md, Commands (5.1.2.3): a run is looked at by commands, with the lines of its journal (the memory model), which obey; a source that has no run is told
abbrev pub IsShown : Verdict → List Command → Reply → Type 0
IsShown (Ended e bound) cs reply =
    (rows : List Row) × IsJournal rows (watched.journal_text e.events e.names)
    × (reply ≡ record { status = 0; text = report_of (run_of e.turns e.outcome (answer_of (Ended e bound)).line rows) cs })
IsShown v cs reply = reply ≡ told_of v

-- 5.1.2.3: the source is run with its script, with as many turns as there are positions, with a pointer to what has ended indeterminate (6.2.4p2) and no
-- sides (the memory model); and so it is shown
pub record IsLookedAt (source script : List ℕ) (cs : List Command) (reply : Reply) : Type 0 where
  pub verdict : Verdict
  pub judged : Judged source script (task.Run last_position true) None verdict
  pub shown : IsShown verdict cs reply

-- docs/FORMATS.md, Commands (5.1.1.3p1): commands that have no reading are refused before the source and its script are
abbrev pub IsBy : (source script : List ℕ) → Result (List Command) CommandError → Reply → Type 0
IsBy source script (Err e) reply = reply ≡ refused_by e
IsBy source script (Ok cs) reply = IsLookedAt source script cs reply

-- docs/FORMATS.md, Commands (5.1.2.3): the reply to a source with its script, and a file of commands
abbrev pub IsStepped : (source script commands : List ℕ) → Reply → Type 0
IsStepped source script commands reply = IsBy source script (commands_of commands) reply

-- ---- what the program does for its words

-- 7.21.3p8: of what the files hold P holds; nothing is said where one of them isn't told
abbrev pub OfFiles : StepJob → (held : List ℕ → Option (List ℕ)) → ((source script commands : List ℕ) → Type 0) → Type 0
OfFiles j held P = IfSome (held j.file) (λ source. IfSome (script_held j.script held) (λ script. IfSome (held j.commands) (P source script)))

-- 5.1.2.3: a reply to a job
abbrev pub IsReply : StepJob → (held : List ℕ → Option (List ℕ)) → Reply → Type 0
IsReply j held reply = OfFiles j held (λ source script commands. IsStepped source script commands reply)

-- docs/FORMATS.md, Commands (5.1.2.3): what the program does for its words; a fault at a name that its job doesn't name is none of the job's
abbrev pub service : Service StepJob
service = record { job = job; ReadFailed = λ j c. AnyRose (files_of j) c.faults_old c.faults_new; IsReply = IsReply }
