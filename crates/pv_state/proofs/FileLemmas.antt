-- From what was read of files to what they hold.
use Rattle.std.proofs.Common.{◌≡◌, ℕ, ◌+◌, List, take, subst}
use Rattle.std.specs.Prelude.{Option, Some, None, IfSome}
use Rattle.pv_serve.specs.declared.words.Task.TheVariants as task
use Rattle.pv_serve.specs.Comes.{source_limit}
use Rattle.pv_serve.specs.Judged.{script_limit}
use Rattle.pv_serve.specs.Outside.{Sunk}
use Rattle.pv_serve.specs.Serving.{AreRead}
use Rattle.pv_serve.specs.Answer.{script_needed, script_held}
use Rattle.pv_serve.specs.Replies.{Reply}
use Rattle.pv_serve.specs.Replying.{WasTold, WasLost, HadNoRoom}
use Rattle.pv_serve.proofs.Limits.{more_decides, to_run}
use Rattle.pv_state.specs.declared.words.Place.{Place}
use Rattle.pv_state.specs.Words.{Look, StateJob}
use Rattle.pv_state.specs.Answers.{IsAnswered, Refusing, Telling, IsReply}
use Rattle.pv_state.specs.Answering.{TextServed, JobServed}

-- a byte above its limit tells as much as all that follow
all_answered : (l : Look) (ps : List Place) (all rest : List ℕ) (a : Reply) → IsAnswered l ps (take (source_limit + 1) all) (take (script_limit + 1) rest) a → IsAnswered l ps all rest a
all_answered l ps all rest a (Refusing v judged refuses is) = Refusing v (more_decides all rest task.Check None v judged) refuses is
all_answered l ps all rest a (Telling r text told is) = Telling (to_run all rest r) text told is

if_held : (o : Option (List ℕ)) (P Q : List ℕ → Type 0) → ((b : List ℕ) → P b → Q b) → IfSome o P → IfSome o Q
if_held None P Q f h = tt
if_held (Some b) P Q f h = f b h

two_held : (source : Option (List ℕ)) (script : List ℕ → Option (List ℕ)) (P Q : (a b : List ℕ) → Type 0) → ((a b : List ℕ) → P a b → Q a b)
    → IfSome source (λ a. IfSome (script a) (P a)) → IfSome source (λ a. IfSome (script a) (Q a))
two_held None script P Q f h = tt
two_held (Some a) script P Q f h = if_held (script a) (P a) (Q a) (f a) h

answered_so : (l : Look) (ps : List Place) (all rest source text : List ℕ) (a : Reply) → (source ≡ take (source_limit + 1) all) × (text ≡ take (script_limit + 1) rest) → IsAnswered l ps source text a
    → IsAnswered l ps all rest a
answered_so l ps all rest source text a r is =
    all_answered l ps all rest a (subst (λ (s : List ℕ). IsAnswered l ps s (take (script_limit + 1) rest) a) r.0 (subst (λ (t : List ℕ). IsAnswered l ps source t a) r.1 is))

-- what came of what was read is what comes of the files
pub text_served : (j : StateJob) (held : List ℕ → Option (List ℕ)) (source text : List ℕ) (faults_old faults_new : List ℕ → ℕ) (report : Sunk) (status : ℕ) → AreRead j.file j.script held source text
    → TextServed j source text report status → JobServed j held faults_old faults_new report status
text_served j held source text fo fn report status read (WasTold a is own handed) =
    WasTold a (two_held (held j.file) (λ all. script_needed all (script_held j.script held)) (λ all rest. (source ≡ take (source_limit + 1) all) × (text ≡ take (script_limit + 1) rest))
    (λ all rest. IsAnswered j.look j.places all rest a) (λ all rest r. answered_so j.look j.places all rest source text a r is) read) own handed
text_served j held source text fo fn report status read (WasLost failed handed) = absurd failed
text_served j held source text fo fn report status read (HadNoRoom is none) = HadNoRoom is none
