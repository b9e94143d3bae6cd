-- The reply that a source with its script must get.
use Rattle.std.specs.Prelude.{◌≡◌, ℕ, ◌-◌, Bool, true, false, List, [], ◌∷◌, ◌++◌, codes, Option, Some, None, if◌then◌else◌}
use Rattle.std.specs.Fmt.{decimal}
use Rattle.pv_script.specs.Lines.{ScriptLine}
use Rattle.pv_typed.specs.TypedUnits.{WholeUnit}
use Rattle.pv_world.specs.Worlds.{Worth}
use Rattle.pv_eval.specs.States.{State, Res, end_of}
use Rattle.pv_exec.specs.declared.outcome.Outcome.{Outcome}
use Rattle.pv_exec.specs.declared.outcome.Outcome.TheVariants as outcome
use Rattle.pv_exec.specs.Run.{outcome_of}
use Rattle.pv_serve.specs.declared.words.Task.TheVariants as task
use Rattle.pv_serve.specs.Verdicts.{Verdict, Refused, Script}
use Rattle.pv_serve.specs.Judged.{Judged, IsToRun, IsRunBy}
use Rattle.pv_serve.specs.Report.{answer_of, outcome_report}
use Rattle.pv_serve.specs.Outside.{AnyRose}
use Rattle.pv_serve.specs.Answer.{OfFiles, files_read}
use Rattle.pv_serve.specs.Replies.{Reply, Service}
use Rattle.pv_values.specs.Standing.{line, state_text}
use Rattle.pv_state.specs.declared.words.Place.{Place}
use Rattle.pv_state.specs.declared.words.Place.TheVariants as place
use Rattle.pv_state.specs.Words.{Look, StateJob, job}

-- ---- what is told at a place

-- 5.1.2.3p1: a run ended because one more turn was due
abbrev pub is_turns : Outcome → Bool
is_turns outcome.Turns = true
is_turns _ = false

-- docs/FORMATS.md, Where a run stands (5.1.2.3p1): the bound of the run that is looked at: where a turn is due the run has taken those before it
abbrev pub bound_at : Look → Place → ℕ
bound_at l place.End = l.bound
bound_at l (place.Turn n) = n - 1

-- docs/FORMATS.md, Where a run stands (5.1.2.3): where a turn is due: its number, and what there is then; or that the run has ended before it. The line of the node
-- that is due is not told
abbrev pub turn_text : WholeUnit → (all : Bool) → (n : ℕ) → Outcome → State → List ℕ
turn_text u all n o s = if is_turns o then line (codes "turn " ++ decimal n) ++ state_text u s.world all else line (codes "turn " ++ decimal n ++ codes " not taken")

-- docs/FORMATS.md, Where a run stands (5.1.2.3): what is told at a place, where the run ended so, in this state: at the end the line of the run's report, and what
-- there is
abbrev pub place_text : WholeUnit → Look → Place → Outcome → State → List ℕ
place_text u l place.End o s = (outcome_report o u.names s.taken l.bound).1 ++ state_text u s.world l.all
place_text u l (place.Turn n) o s = turn_text u l.all n o s

-- 5.1.2.3: the unit is run with its script up to this place, and this text tells of it
pub record IsToldAt (u : WholeUnit) (lines : List ScriptLine) (l : Look) (p : Place) (text : List ℕ) : Type 0 where
  pub run : Res Worth
  pub runs : IsRunBy u lines (bound_at l p) l.zap l.sides run
  pub outcome : Outcome
  pub ended : outcome_of run ≡ Some outcome
  pub told : text ≡ place_text u l p outcome (end_of run)

-- docs/FORMATS.md, Where a run stands (5.1.2.3): the texts of places, one behind the other
abbrev pub AreTold : WholeUnit → List ScriptLine → Look → List Place → (text : List ℕ) → Type 0
AreTold u lines l [] text = text ≡ []
AreTold u lines l (p ∷ ps) text = (first : List ℕ) × (rest : List ℕ) × IsToldAt u lines l p first × AreTold u lines l ps rest × (text ≡ first ++ rest)

-- ---- the reply

-- 5.1.1.3p1: the source, or its script, is refused
abbrev pub is_refusal : Verdict → Bool
is_refusal (Refused why) = true
is_refusal (Script why) = true
is_refusal _ = false

-- docs/FORMATS.md, Where a run stands (5.1.2.3): the reply to a source with its script: its refusal, as that of a source that is checked (5.1.1.3p1); or, however
-- its runs end, their texts
pub data IsAnswered (l : Look) (ps : List Place) (source script : List ℕ) (reply : Reply) : Type 0 where
  Refusing : (v : Verdict) → Judged source script task.Check None v → is_refusal v ≡ true → reply ≡ record { status = (answer_of v).status; text = (answer_of v).line }
      → IsAnswered l ps source script reply
  Telling : (r : IsToRun source script) (text : List ℕ) → AreTold r.unit r.lines l ps text → reply ≡ record { status = 0; text = text }
      → IsAnswered l ps source script reply

-- ---- what the program does for its words

-- 5.1.2.3: a reply to a job, by what the files hold (7.21.3p8); nothing is said where one of them that is needed isn't told
abbrev pub IsReply : StateJob → (held : List ℕ → Option (List ℕ)) → Reply → Type 0
IsReply j held reply = OfFiles j.file j.script held (λ source script. IsAnswered j.look j.places source script reply)

-- docs/FORMATS.md, Where a run stands (5.1.2.3): what the program does for its words; a fault at a name that its job doesn't name is none of the job's
abbrev pub service : Service StateJob
service = record { job = job; ReadFailed = λ j c. AnyRose (files_read j.file j.script c.held) c.faults_old c.faults_new; IsReply = IsReply }
