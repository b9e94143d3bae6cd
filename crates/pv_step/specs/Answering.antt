-- A bridge: what the parts of the top call come to.
use Rattle.std.specs.Prelude.{◌≡◌, ◌∷◌, [], ℕ, ◌+◌, List, true, take, Option, None}
use Rattle.pv_watch.specs.Slots.{Slot, Present}
use Rattle.pv_watch.specs.Kinds.{journal_kind}
use Rattle.pv_serve.specs.declared.judging.Judgement.{Judgement}
use Rattle.pv_serve.specs.Comes.{source_limit}
use Rattle.pv_serve.specs.Judged.{script_limit}
use Rattle.pv_serve.specs.Outside.{AnyRose, Sunk, Halls}
use Rattle.pv_serve.specs.Replying.{JobReplied}
use Rattle.pv_serve.specs.Settling.{IsOutcome}
use Rattle.pv_shown.specs.Commands.{commands_limit}
use Rattle.pv_step.specs.declared.reading.StepText.{StepText}
use Rattle.pv_step.specs.Words.{StepJob, files_of}
use Rattle.pv_step.specs.Answers.{OfFiles, IsStepped, IsReply}

-- what was read of the files, where they are told: of each the bytes up to one above its limit
abbrev pub AreRead : StepJob → (held : List ℕ → Option (List ℕ)) → (source script commands : List ℕ) → Type 0
AreRead j held source script commands = OfFiles j held (λ all rest lines.
    (source ≡ take (source_limit + 1) all) × (script ≡ take (script_limit + 1) rest) × (commands ≡ take (commands_limit + 1) lines))

-- 5.1.2.3: a source with its script came to this before a watcher that hears all, which has heard this since
abbrev pub IsJudged : (source script : List ℕ) → (heard : List Slot) → Judgement → Type 0
IsJudged source script heard j = (out : Sunk) × (told : Halls) × (told.old ≡ Present journal_kind 18446744073709551615 [] ∷ []) × (told.new ≡ heard)
    × IsOutcome source script 1000000 true None out told j

-- docs/FORMATS.md, Commands: what came of what was read: it got a reply, or there was no memory
abbrev pub TextServed : StepText → (report : Sunk) (status : ℕ) → Type 0
TextServed t report status = JobReplied (IsStepped t.source.items t.script.items t.commands.items) ⊥ report status

-- docs/FORMATS.md, Commands: what came of a job: it got a reply; a file could not be read (7.21.8.1p3); or there was no memory
abbrev pub JobServed : StepJob → (held : List ℕ → Option (List ℕ)) (faults_old faults_new : List ℕ → ℕ) (report : Sunk) (status : ℕ) → Type 0
JobServed j held faults_old faults_new report status = JobReplied (IsReply j held) (AnyRose (files_of j) faults_old faults_new) report status
