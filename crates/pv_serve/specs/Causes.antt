-- What one call of the program owes to whoever looks at its files, its output and its report: which status comes when,
-- what was written then, and what may have failed. C17 leaves the outside of a program to its implementation (5.1.2.3p7): docs/FORMATS.md
-- has the rules.
use Rattle.std.specs.Prelude.{◌≡◌, ◌⊎◌, ℕ, List, [], Option, IsSomeAnd}
use Rattle.pv_watch.specs.Slots.{Slot}
use Rattle.pv_watch.specs.Shipped.{shipped}
use Rattle.pv_eval.specs.States.{State}
use Rattle.pv_exec.specs.Outlets.{ToldPart}
use Rattle.pv_serve.specs.Jobs.{Job}
use Rattle.pv_serve.specs.Words.{job}
use Rattle.pv_serve.specs.Outside.{AnyRose, Sunk, SinkRose, Wrote, WrotePrefix, Halls}
use Rattle.pv_serve.specs.Owed.{Facts, Owed}
use Rattle.pv_serve.specs.Watching.{kept_by}
use Rattle.pv_serve.specs.Report.{Answer}
use Rattle.pv_serve.specs.Answer.{HasReport, SomeAnswer, SomeEnd, files_of, read_fault}

-- 5.1.2.3p7: one call: its words (5.1.2.2.1p2), what the files hold under each name (7.21.3p8) with the counts of reads that failed (7.21.8.1p3),
-- the two sinks, those who watch, and the status (7.22.4.4p5)
pub record Call : Type 0 where
  pub words : List (List ℕ)
  pub held : List ℕ → Option (List ℕ)
  pub faults_old : List ℕ → ℕ
  pub faults_new : List ℕ → ℕ
  pub out : Sunk
  pub report : Sunk
  pub hall : Halls
  pub status : ℕ

-- docs/FORMATS.md, What watchers say (the memory model): those of the hall whom the job keeps
abbrev pub slots_of_job : Call → List Slot
slots_of_job c = kept_by (job c.words) c.hall.old

-- docs/FORMATS.md: all of the output was written (5.1.2.3p6), and all of the report, and the status is that of the answer (7.22.4.4p5)
pub record IsAnswer (c : Call) (a : Answer) : Type 0 where
  pub status : c.status ≡ a.status
  pub out : Wrote c.out a.out
  pub report : HasReport (slots_of_job c) c.hall.new a (Wrote c.report)

-- 5.1.2.3p6: all of the output was written, and a first part of the report
pub record WroteReport (out report : Sunk) (kept new : List Slot) (a : Answer) : Type 0 where
  pub whole : Wrote out a.out
  pub begun : HasReport kept new a (WrotePrefix report)

-- 7.21.3p3: a first part of the output was written, and of the report nothing; those who watch were told a first part of the events, each of which
-- came when at most 4095 bytes more were printed than were written
pub record WroteOutput (out report : Sunk) (kept new : List Slot) (end : State) (names : List (List ℕ)) : Type 0 where
  pub part : ToldPart (record { sink = out.old; hall = kept }) (record { sink = out.new; hall = new }) end names
  pub nothing : Wrote report []

-- 5.1.2.3p7: what is so of a call. A read that failed (7.21.8.1p3) is one of a file that is read for the job. Where a write failed, that of the report began
-- an answer, and that of the output cut off a run. Where memory ran out, a first part of the output (7.21.3p3) was written, and of the report nothing; of the
-- hall nothing is said.
abbrev pub facts_of : Call → Facts Job
facts_of c = record {
  job = job c.words;
  ReadFailed = IsSomeAnd (job c.words) (λ j. AnyRose (files_of j c.held) c.faults_old c.faults_new);
  WriteFailed = SinkRose c.out ⊎ SinkRose c.report;
  ReportFailed = SinkRose c.report;
  Answered = SomeAnswer (job c.words) c.held (IsAnswer c);
  AnswerBegun = SomeAnswer (job c.words) c.held (WroteReport c.out c.report (slots_of_job c) c.hall.new)
      ⊎ SomeEnd (job c.words) c.held (WroteOutput c.out c.report (slots_of_job c) c.hall.new);
  FaultTold = IsAnswer c read_fault;
  FaultBegun = WroteReport c.out c.report (slots_of_job c) c.hall.new read_fault;
  Unreported = (Wrote c.out [] ⊎ SomeEnd (job c.words) c.held (λ end names. WrotePrefix c.out end.output)) × Wrote c.report [];
}

-- 5.1.2.3p7: all that a call owes to its outside
abbrev pub Served : Call → Type 0
Served c = Owed (facts_of c) c.status

-- docs/FORMATS.md, What watchers say (the memory model): a call before the three watchers of the program, who have seen nothing, whatever they have seen
-- at its end
abbrev pub ServedShipped : (words : List (List ℕ)) (held : List ℕ → Option (List ℕ)) (faults_old faults_new : List ℕ → ℕ) (out report : Sunk) (status : ℕ) → Type 0
ServedShipped words held faults_old faults_new out report status =
    (new : List Slot) × Served (record {
      words = words;
      held = held;
      faults_old = faults_old;
      faults_new = faults_new;
      out = out;
      report = report;
      hall = record { old = shipped; new = new };
      status = status;
    })
