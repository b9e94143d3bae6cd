-- A bridge: what the parts of the top call come to.
use Rattle.std.specs.Prelude.{◌≡◌, ℕ, List, Option}
use Rattle.pv_serve.specs.Outside.{AnyRose, Sunk}
use Rattle.pv_serve.specs.Answer.{OfFiles}
use Rattle.pv_serve.specs.Replies.{Reply}
use Rattle.pv_serve.specs.Replying.{JobReplied}
use Rattle.pv_replay.specs.Words.{Job, Write, Check}
use Rattle.pv_replay.specs.Answers.{IsWritten, IsReply, files_of}
use Rattle.pv_replay.specs.Obeying.{IsRunJournal}

-- docs/FORMATS.md, Journals: the reply is that to the run of a source, and where its status is 0 (7.22.4.4p5), a journal of lines that obey
pub record IsRunReply (source script : List ℕ) (bound : ℕ) (reply : Reply) : Type 0 where
  pub written : IsWritten source script bound reply
  pub journal : reply.status ≡ 0 → IsRunJournal source script bound reply.text

-- docs/FORMATS.md, Journals (the memory model): the same of the reply to a job, by what its files hold
abbrev pub IsObeyed : Job → (held : List ℕ → Option (List ℕ)) → Reply → Type 0
IsObeyed (Write run) held reply = reply.status ≡ 0 → OfFiles run.file run.script held (λ source script. IsRunJournal source script run.bound reply.text)
IsObeyed (Check file) held reply = Unit {0}

-- docs/FORMATS.md, Journals: what came of a text to which such a reply is owed: it was handed out, or there was no memory
abbrev pub TextServed : (IsOwed : Reply → Type 0) (report : Sunk) (status : ℕ) → Type 0
TextServed IsOwed report status = JobReplied IsOwed ⊥ report status

-- docs/FORMATS.md, Journals: what came of a job: it got a reply; a file could not be read (7.21.8.1p3); or there was no memory
abbrev pub JobServed : Job → (held : List ℕ → Option (List ℕ)) (faults_old faults_new : List ℕ → ℕ) (report : Sunk) (status : ℕ) → Type 0
JobServed j held faults_old faults_new report status =
    JobReplied (λ reply. IsReply j held reply × IsObeyed j held reply) (AnyRose (files_of j held) faults_old faults_new) report status
