-- A bridge: what the parts of the top call come to.
use Rattle.std.specs.Prelude.{ℕ, List, Option}
use Rattle.pv_exec.specs.Answering.{highs}
use Rattle.pv_serve.specs.Answer.{files_read}
use Rattle.pv_serve.specs.Outside.{AnyRose, Sunk}
use Rattle.pv_serve.specs.Replying.{JobReplied}
use Rattle.pv_state.specs.declared.running.Look as declared
use Rattle.pv_state.specs.Words.{Look, StateJob}
use Rattle.pv_state.specs.Answers.{IsAnswered, IsReply}

-- docs/FORMATS.md, Where a run stands: how the code runs a source, and looks at it (the memory model: sides of pairs)
abbrev pub look_of : declared.Look → Look
look_of l = record { bound = l.bound; zap = l.zap; sides = highs l.sides (λ x. x.now); all = l.all }

-- docs/FORMATS.md, Where a run stands: what came of what was read: it got a reply, or there was no memory
abbrev pub TextServed : StateJob → (source script : List ℕ) → (report : Sunk) (status : ℕ) → Type 0
TextServed j source script report status = JobReplied (IsAnswered j.look j.places source script) ⊥ report status

-- docs/FORMATS.md, Where a run stands: what came of a job: it got a reply; a file could not be read (7.21.8.1p3); or there was no memory
abbrev pub JobServed : StateJob → (held : List ℕ → Option (List ℕ)) (faults_old faults_new : List ℕ → ℕ) (report : Sunk) (status : ℕ) → Type 0
JobServed j held faults_old faults_new report status = JobReplied (IsReply j held) (AnyRose (files_read j.file j.script held) faults_old faults_new) report status
