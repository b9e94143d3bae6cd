-- What a call owes, from what came of its job.
use Rattle.std.proofs.Common.{◌≡◌, ℕ, List, sym, ◌∙◌, subst, arith}
use Rattle.std.specs.Prelude.{Option, Some}
use Rattle.pv_serve.specs.Outside.{AnyRose, Sunk}
use Rattle.pv_serve.specs.Replies.{ReplyCall, Replied}
use Rattle.pv_serve.specs.Replying.{WasTold, WasLost, HadNoRoom}
use Rattle.pv_serve.proofs.OwedLemmas.{two_apart}
use Rattle.pv_serve.proofs.RepliesLemmas.{more_replied, replied_by}
use Rattle.pv_replay.specs.Words.{Job, Write, Check, job}
use Rattle.pv_replay.specs.Answers.{IsReply, service, files_of}
use Rattle.pv_replay.specs.Obeying.{IsRunJournal, WroteJournal, WritesJournals}
use Rattle.pv_replay.specs.Answering.{IsObeyed, JobServed}
use Rattle.pv_replay.proofs.FileLemmas.{of_files}

pub replied_by_job : (c : ReplyCall) (j : Job) → job c.words ≡ Some j → JobServed j c.held c.faults_old c.faults_new c.report c.status → Replied service c
replied_by_job c j e served =
    replied_by service c j e
    (more_replied (λ reply. IsReply j c.held reply × IsObeyed j c.held reply) (IsReply j c.held) (AnyRose (files_of j c.held) c.faults_old c.faults_new)
    (AnyRose (files_of j c.held) c.faults_old c.faults_new) c.report c.status (λ reply is. is.0) (λ rose. rose) served)

-- ---- what `write` writes

job_writes : (j : Job) (held : List ℕ → Option (List ℕ)) (faults_old faults_new : List ℕ → ℕ) (report : Sunk) (status : ℕ) → JobServed j held faults_old faults_new report status
    → WritesJournals (Some j) held report status
job_writes (Check file) held fo fn report status served = tt
job_writes (Write run) held fo fn report status (WasTold a is own handed) = λ zero.
    let told = handed.told (λ twelve. two_apart status 0 12 (omega arith) zero twelve) in
    of_files run.file run.script held (λ source script. IsRunJournal source script run.bound a.text) (λ source script. WroteJournal report source script run.bound)
    (λ source script journal. record { text = a.text; is = journal; wrote = told.1 }) (is.1 (sym told.0 ∙ zero))
job_writes (Write run) held fo fn report status (WasLost rose handed) = λ zero.
    absurd (two_apart status 0 11 (omega arith) zero (handed.told (λ twelve. two_apart status 0 12 (omega arith) zero twelve)).0)
job_writes (Write run) held fo fn report status (HadNoRoom is same) = λ zero. absurd (two_apart status 0 13 (omega arith) zero is)

pub writes_journals : (o : Option Job) (j : Job) (held : List ℕ → Option (List ℕ)) (faults_old faults_new : List ℕ → ℕ) (report : Sunk) (status : ℕ) → o ≡ Some j
    → JobServed j held faults_old faults_new report status → WritesJournals o held report status
writes_journals o j held fo fn report status e served = subst (λ (k : Option Job). WritesJournals k held report status) (sym e) (job_writes j held fo fn report status served)
