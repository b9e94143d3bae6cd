-- A bridge: what the parts of the top call come to, before those who watch.
use Rattle.std.specs.Prelude.{◌≡◌, ◌≢◌, ◌⊎◌, ℕ, ◌+◌, Bool, List, [], ◌++◌, take, Option, Some}
use Rattle.pv_watch.specs.Slots.{Slot, SayAll}
use Rattle.pv_gen.specs.Source.{source_text}
use Rattle.pv_serve.specs.declared.words.Task.{Task}
use Rattle.pv_serve.specs.declared.judging.Judgement.{Judgement}
use Rattle.pv_serve.specs.Jobs.{Job, FileJob, Files, Generated}
use Rattle.pv_serve.specs.VerdictParts.{BeganOutput}
use Rattle.pv_serve.specs.Comes.{source_limit}
use Rattle.pv_serve.specs.Judged.{script_limit, SomeRun}
use Rattle.pv_serve.specs.Outside.{AnyRose, Sunk, SinkRose, Wrote, WrotePrefix, Halls}
use Rattle.pv_serve.specs.Judging.{Shown, verdict_of}
use Rattle.pv_serve.specs.Replies.{read_fault}
use Rattle.pv_serve.specs.Replying.{IsHanded}
use Rattle.pv_serve.specs.Report.{Answer}
use Rattle.pv_serve.specs.ReportParts.{course_of, report_line, status_of}
use Rattle.pv_serve.specs.Watching.{IsReport, kept_by}
use Rattle.pv_serve.specs.Answer.{HasReport, OfFiles, SomeVerdict, files_read}
use Rattle.pv_serve.specs.Causes.{WroteReport, WroteOutput}

-- docs/FORMATS.md, What watchers say (the memory model): the hall once those whom the job keeps are kept, and as the call leaves it
abbrev pub kept_halls : Job → Halls → Halls
kept_halls j hall = record { old = kept_by (Some j) hall.old; new = hall.new }

-- what was read of a source's file and its script's, where they are told: the bytes up to one above the limit of each
abbrev pub AreRead : (file : List ℕ) (script : Option (List ℕ)) (held : List ℕ → Option (List ℕ)) (source text : List ℕ) → Type 0
AreRead file script held source text = OfFiles file script held (λ all rest. (source ≡ take (source_limit + 1) all) × (text ≡ take (script_limit + 1) rest))

-- what a job's source and script are, as far as they are needed
abbrev pub IsSource : Job → (held : List ℕ → Option (List ℕ)) → (source script : List ℕ) → Type 0
IsSource (Files job) held source script = AreRead job.file job.script held source script
IsSource (Generated number) held source script = (source ≡ source_text number) × (script ≡ [])

-- docs/FORMATS.md, The report: the report on a judgement has this text, whatever its run printed and told
abbrev pub IsReportOn : Judgement → (hall : List Slot) → (text : List ℕ) → Type 0
IsReportOn j hall text = (shown : Shown) → IsReport (course_of (verdict_of j shown)) hall (report_line (verdict_of j shown)) text

-- docs/FORMATS.md, What watchers say (the memory model): a line with the texts of a hall behind it
abbrev pub HasStory : (names : List (List ℕ)) → (hall : List Slot) → (line text : List ℕ) → Type 0
HasStory names hall line text = (story : List ℕ) × SayAll names hall story × (text ≡ line ++ story)

-- docs/FORMATS.md, The report: of the report on a judgement P holds
pub record SomeReport (j : Judgement) (hall : List Slot) (P : List ℕ → Type 0) : Type 0 where
  pub text : List ℕ
  pub is : IsReportOn j hall text
  pub holds : P text

-- docs/FORMATS.md, The report: the report on a judgement, by the status
pub record Reported (j : Judgement) (hall : List Slot) (report : Sunk) (status : ℕ) : Type 0 where
  pub no_read_fault : status ≢ 11
  pub no_words : status ≢ 10
  pub write_fault : status ≡ 12 → SinkRose report
  pub begun : status ≡ 12 → SomeReport j hall (WrotePrefix report)
  pub no_memory : status ≡ 13 → Wrote report []
  pub status_is : (shown : Shown) → status ≢ 12 → status ≢ 13 → status ≡ status_of (verdict_of j shown)
  pub whole : status ≢ 12 → status ≢ 13 → SomeReport j hall (Wrote report)

-- 5.1.2.3p6: all of the output was written, and all of the report, and this is the status (7.22.4.4p5)
pub record IsTold (out report : Sunk) (hall : Halls) (status : ℕ) (a : Answer) : Type 0 where
  pub status_is : status ≡ a.status
  pub output : Wrote out a.out
  pub whole : HasReport hall.old hall.new a (Wrote report)

-- docs/FORMATS.md, The report (5.1.2.3p7): the answer to a source with its script, by the status, before those who watch
pub record Answered (source script : List ℕ) (t : Task) (sides : Option (List Bool)) (out report : Sunk) (hall : Halls) (status : ℕ) : Type 0 where
  pub no_read_fault : status ≢ 11
  pub no_words : status ≢ 10
  pub write_fault : status ≡ 12 → SinkRose out ⊎ SinkRose report
  pub wrote : status ≡ 12 → SomeVerdict source script t sides (WroteReport out report hall.old hall.new)
      ⊎ SomeRun source script t sides (WroteOutput out report hall.old hall.new)
  pub printed : status ≡ 13 → Wrote out [] ⊎ SomeRun source script t sides (BeganOutput out)
  pub no_memory : status ≡ 13 → Wrote report []
  pub told : status ≢ 12 → status ≢ 13 → SomeVerdict source script t sides (IsTold out report hall status)

-- docs/FORMATS.md: what came of the files that are asked for: they were read, and the source was answered; one could not be read (7.21.8.1p3), and
-- `fault read` is the report; or there was no memory for them
pub data FilesServed (job : FileJob) (held : List ℕ → Option (List ℕ)) (faults_old faults_new : List ℕ → ℕ) (out report : Sunk) (hall : Halls) (status : ℕ) : Type 0 where
  WereRead : (source script : List ℕ) → AreRead job.file job.script held source script → Answered source script job.task job.sides out report hall status
      → FilesServed job held faults_old faults_new out report hall status
  WereLost : AnyRose (files_read job.file job.script held) faults_old faults_new → out.new ≡ out.old → hall.new ≡ hall.old → IsHanded report status read_fault
      → FilesServed job held faults_old faults_new out report hall status
  HadNoRoom : status ≡ 13 → out.new ≡ out.old → report.new ≡ report.old → FilesServed job held faults_old faults_new out report hall status
