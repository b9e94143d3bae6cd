-- The reply that a source with its script, or a journal, must get.
use Rattle.std.specs.Prelude.{◌≡◌, ℕ, ◌≤◌, ◌<◌, List, [], ◌∷◌, ◌++◌, length, take, codes, Option, Some, None, IfSome, true}
use Rattle.std.specs.Fmt.{decimal}
use Rattle.pv_watch.specs.Texts as watched
use Rattle.pv_serve.specs.declared.words.Task.TheVariants as task
use Rattle.pv_serve.specs.Verdicts.{Verdict, Course}
use Rattle.pv_serve.specs.Judged.{Judged}
use Rattle.pv_serve.specs.Report.{answer_of, line_feed}
use Rattle.pv_serve.specs.Outside.{AnyRose}
use Rattle.pv_serve.specs.Answer.{OfFiles, files_read}
use Rattle.pv_serve.specs.Replies.{Reply, Service}
use Rattle.pv_journal.specs.Journals.{Row}
use Rattle.pv_journal.specs.Obeying.{IsJournal, IsBad}
use Rattle.pv_replay.specs.Words.{Job, Write, Check, job}

-- ---- the journal of a run

-- 5.2.4.1: the most events of a run that its journal tells
abbrev pub most_events : ℕ
most_events = 65536

-- docs/FORMATS.md, Journals (the memory model): what is written of a run of which this is told, however it ended: a line for each of its first events, and how many
-- they are. Where there is no run, the refusal is told.
abbrev pub written_by : (refused : Reply) → Option Course → Reply
written_by refused None = refused
written_by refused (Some c) = record { status = 0; text = watched.journal_text (take most_events c.events) c.names }

-- 5.1.1.3p1, 5.1.2.3: what is written by the verdict: of a refusal its line, with its status
abbrev pub written_of : Verdict → Reply
written_of v = written_by (record { status = (answer_of v).status; text = (answer_of v).line }) (answer_of v).course

-- 5.1.2.3: the reply is that to the run of a source with this script, with so many turns at most, with a pointer to what has ended indeterminate
-- (6.2.4p2), and each pair of candidates settled late (the memory model); or to the first refusal (5.1.1.3p1)
pub record IsWritten (source script : List ℕ) (bound : ℕ) (reply : Reply) : Type 0 where
  pub verdict : Verdict
  pub judged : Judged source script (task.Run bound true) None verdict
  pub is : reply ≡ written_of verdict

-- ---- the check of a journal

-- 5.2.4.1: the most bytes of a journal that is checked
abbrev pub journal_limit : ℕ
journal_limit = 16777216

-- docs/FORMATS.md, Journals: the reply to a text that is too long (5.2.4.1)
abbrev pub too_long : Reply
too_long = record { status = 18; text = codes "journal size" ++ line_feed }

-- docs/FORMATS.md, Journals: the reply to the journal of so many lines (the memory model)
abbrev pub acceptance : (events : ℕ) → Reply
acceptance n = record { status = 0; text = codes "journal ok events=" ++ (decimal n ++ line_feed) }

-- docs/FORMATS.md, Journals: the reply to a text whose least wrong line is this one, from 1 (the memory model)
abbrev pub rejection : (line : ℕ) → Reply
rejection n = record { status = 17; text = codes "journal bad line=" ++ (decimal n ++ line_feed) }

-- docs/FORMATS.md, Journals: the reply is that to a text: it is too long (5.2.4.1), it is the journal of lines that obey the memory model, or a line of it
-- is the least that is wrong
pub data IsChecked (bytes : List ℕ) (reply : Reply) : Type 0 where
  TooLong : journal_limit < length bytes → reply ≡ too_long → IsChecked bytes reply
  Obeyed : (rows : List Row) → length bytes ≤ journal_limit → IsJournal rows bytes → reply ≡ acceptance (length rows) → IsChecked bytes reply
  Broken : (line : ℕ) → length bytes ≤ journal_limit → IsBad bytes line → reply ≡ rejection line → IsChecked bytes reply

-- ---- what the program does for its words

-- 5.1.2.3: a reply to a job; nothing is said where a file that is needed isn't told
abbrev pub IsReply : Job → (held : List ℕ → Option (List ℕ)) → Reply → Type 0
IsReply (Write run) held reply = OfFiles run.file run.script held (λ source script. IsWritten source script run.bound reply)
IsReply (Check file) held reply = IfSome (held file) (λ bytes. IsChecked bytes reply)

-- docs/FORMATS.md, Journals (5.1.2.2.1p2): the files that are read for a job
abbrev pub files_of : Job → (held : List ℕ → Option (List ℕ)) → List (List ℕ)
files_of (Write run) held = files_read run.file run.script held
files_of (Check file) held = file ∷ []

-- docs/FORMATS.md, Journals (5.1.2.3): what the program does for its words; a fault at a name that its job doesn't name is none of the job's
abbrev pub service : Service Job
service = record { job = job; ReadFailed = λ j c. AnyRose (files_of j c.held) c.faults_old c.faults_new; IsReply = IsReply }
