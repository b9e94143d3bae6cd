-- From what was read of files to what they hold.
use Rattle.std.proofs.Common.{◌≡◌, inl, inr, ℕ, ◌+◌, ◌<◌, true, List, [], ◌∷◌, take, length, refl, ap, ◌∙◌, subst, arith}
use Rattle.std.specs.Prelude.{Option, Some, None, IfSome}
use Rattle.std.proofs.lemmas.Bool.{cases_lt}
use Rattle.std.proofs.lemmas.List.{length-take, take_all}
use Rattle.pv_script.specs.Outside.{Rose}
use Rattle.pv_serve.specs.declared.words.Task.TheVariants as task
use Rattle.pv_serve.specs.Comes.{source_limit}
use Rattle.pv_serve.specs.Verdicts.{Verdict, Ended}
use Rattle.pv_serve.specs.Judged.{Judged, script_limit}
use Rattle.pv_serve.specs.Outside.{AnyRose, Sunk}
use Rattle.pv_serve.specs.Answer.{OfFiles, script_needed, script_held}
use Rattle.pv_serve.specs.Replies.{Reply}
use Rattle.pv_serve.specs.Replying.{WasTold, WasLost, HadNoRoom}
use Rattle.pv_serve.specs.Serving.{AreRead}
use Rattle.pv_serve.proofs.Limits.{more_decides}
use Rattle.pv_replay.specs.Words.{RunJob, Write, Check}
use Rattle.pv_replay.specs.Answers.{IsWritten, IsChecked, TooLong, Obeyed, Broken}
use Rattle.pv_replay.specs.Obeying.{IsRunJournal}
use Rattle.pv_replay.specs.Answering.{IsRunReply, TextServed, JobServed}

pub if_some : (o : Option (List ℕ)) (P Q : List ℕ → Type 0) → ((x : List ℕ) → P x → Q x) → IfSome o P → IfSome o Q
if_some None P Q f h = tt
if_some (Some x) P Q f h = f x h

pub of_files : (file : List ℕ) (script : Option (List ℕ)) (held : List ℕ → Option (List ℕ)) (P Q : (source text : List ℕ) → Type 0)
    → ((source text : List ℕ) → P source text → Q source text) → OfFiles file script held P → OfFiles file script held Q
of_files file script held P Q f h =
    if_some (held file) (λ source. IfSome (script_needed source (script_held script held)) (P source)) (λ source. IfSome (script_needed source (script_held script held)) (Q source))
    (λ source. if_some (script_needed source (script_held script held)) (P source) (Q source) (f source)) h

-- ---- a source and its script

all_judged : (all rest source text : List ℕ) (bound : ℕ) (v : Verdict) → source ≡ take (source_limit + 1) all → text ≡ take (script_limit + 1) rest
    → Judged source text (task.Run bound true) None v → Judged all rest (task.Run bound true) None v
all_judged all rest source text bound v first second is =
    more_decides all rest (task.Run bound true) None v
    (subst (λ (s : List ℕ). Judged s (take (script_limit + 1) rest) (task.Run bound true) None v) first
    (subst (λ (t : List ℕ). Judged source t (task.Run bound true) None v) second is))

all_written : (all rest source text : List ℕ) (bound : ℕ) (a : Reply) → source ≡ take (source_limit + 1) all → text ≡ take (script_limit + 1) rest → IsWritten source text bound a
    → IsWritten all rest bound a
all_written all rest source text bound a first second is = record {
  verdict = is.verdict;
  judged = all_judged all rest source text bound is.verdict first second is.judged;
  is = is.is;
}

all_journal : (all rest source text : List ℕ) (bound : ℕ) (bytes : List ℕ) → source ≡ take (source_limit + 1) all → text ≡ take (script_limit + 1) rest
    → IsRunJournal source text bound bytes → IsRunJournal all rest bound bytes
all_journal all rest source text bound bytes first second is = record {
  ending = is.ending;
  judged = all_judged all rest source text bound (Ended is.ending bound) first second is.judged;
  told = is.told;
  rows = is.rows;
  obey = is.obey;
  checked = is.checked;
}

pub write_served : (run : RunJob) (held : List ℕ → Option (List ℕ)) (source text : List ℕ) (faults_old faults_new : List ℕ → ℕ) (report : Sunk) (status : ℕ)
    → AreRead run.file run.script held source text → TextServed (IsRunReply source text run.bound) report status → JobServed (Write run) held faults_old faults_new report status
write_served run held source text fo fn report status read (WasTold a is own handed) =
    WasTold a (
      of_files run.file run.script held (λ all rest. (source ≡ take (source_limit + 1) all) × (text ≡ take (script_limit + 1) rest)) (λ all rest. IsWritten all rest run.bound a)
          (λ all rest r. all_written all rest source text run.bound a r.0 r.1 is.written) read,
      λ zero. of_files run.file run.script held (λ all rest. (source ≡ take (source_limit + 1) all) × (text ≡ take (script_limit + 1) rest))
          (λ all rest. IsRunJournal all rest run.bound a.text) (λ all rest r. all_journal all rest source text run.bound a.text r.0 r.1 (is.journal zero)) read,
    ) own handed
write_served run held source text fo fn report status read (WasLost failed handed) = absurd failed
write_served run held source text fo fn report status read (HadNoRoom is none) = HadNoRoom is none

-- ---- a journal

-- of one file a read failed
pub one_rose : (file : List ℕ) (old new : List ℕ → ℕ) → Rose (old file) (new file) → AnyRose (file ∷ []) old new
one_rose file old new rose = (0, file, omega arith, refl, rose)

longer_checked : (all bytes : List ℕ) (a : Reply) → 16777216 < length all → length bytes ≡ 16777217 → IsChecked bytes a → IsChecked all a
longer_checked all bytes a long e (TooLong more is) = TooLong long is
longer_checked all bytes a long e (Obeyed rows few journal is) = absurd (omega arith)
longer_checked all bytes a long e (Broken line few bad is) = absurd (omega arith)

-- a byte above the limit tells as much as all that follow
all_checked : (all bytes : List ℕ) (a : Reply) → bytes ≡ take (16777216 + 1) all → IsChecked bytes a → IsChecked all a
all_checked all bytes a read is = elim (cases_lt 16777216 (length all)) [
  | inl long ↦ longer_checked all bytes a long (ap length read ∙ (omega (arith, length-take (16777216 + 1) all))) is
  | inr short ↦ subst (λ (b : List ℕ). IsChecked b a) (read ∙ take_all (16777216 + 1) all (omega arith)) is
]

pub check_served : (file : List ℕ) (held : List ℕ → Option (List ℕ)) (bytes : List ℕ) (faults_old faults_new : List ℕ → ℕ) (report : Sunk) (status : ℕ)
    → IfSome (held file) (λ all. bytes ≡ take (16777216 + 1) all) → TextServed (IsChecked bytes) report status → JobServed (Check file) held faults_old faults_new report status
check_served file held bytes fo fn report status read (WasTold a is own handed) =
    WasTold a (if_some (held file) (λ all. bytes ≡ take (16777216 + 1) all) (λ all. IsChecked all a) (λ all r. all_checked all bytes a r is) read, tt) own handed
check_served file held bytes fo fn report status read (WasLost failed handed) = absurd failed
check_served file held bytes fo fn report status read (HadNoRoom is none) = HadNoRoom is none
