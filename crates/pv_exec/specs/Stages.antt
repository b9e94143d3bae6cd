-- A bridge: how far a run was let out when a write failed (C17 5.1.2.3p6, 7.21.3p3): its stages, and what had left it in which of them.
use Rattle.std.specs.Prelude.{◌≡◌, ◌⊎◌, ℕ, zero, suc, ◌+◌, ◌*◌, ◌<◌, ◌≤◌, Bool, List, [], length, None, Some}
use Rattle.std.specs.declared.option.Option.{Option}
use Rattle.pv_script.specs.Lines.{ScriptLine}
use Rattle.pv_typed.specs.Known.{Each}
use Rattle.pv_typed.specs.Tables.{Stored}
use Rattle.pv_eval.specs.declared.marked.Marked.{Marked}
use Rattle.pv_eval.specs.States.{Setting, State, end_of}
use Rattle.pv_exec.specs.declared.delivering.Undelivered.{Undelivered}
use Rattle.pv_exec.specs.declared.delivering.Undelivered.TheVariants as undelivered
use Rattle.pv_exec.specs.Run.{initial_state}
use Rattle.pv_exec.specs.Laws.{run_at}

-- 5.1.2p1: the run in stages: nothing is printed or told yet; then all that comes before the first turn was done; then one
-- turn more in each, with what comes before the next one
abbrev pub stage_of : Stored → Option (List Bool) → (zap : Bool) → List ScriptLine → ℕ → State
stage_of u sides zap script zero = initial_state script zap
stage_of u sides zap script (suc n) = end_of (run_at u sides zap script n)

-- 5.1.2.3p6, 7.21.3p3: how far a run that takes so many turns was let out when a write failed. Output leaves it by blocks of 4096 bytes,
-- of which so many were written, and the next one in part. Told are all events up to a stage, and no other. In that stage the next
-- block was not full; in the stage behind it was, or all turns were taken by then.
pub record LetOut (stage : ℕ → State) (taken : ℕ) (written : List ℕ) (events : List Marked) : Type 0 where
  pub stages : ℕ
  pub blocks : ℕ
  pub begun : 4096 * blocks ≤ length written
  pub part : length written ≤ 4096 * blocks + 4096
  pub told : events ≡ (stage stages).events
  pub before : length (stage stages).output < 4096 * blocks + 4096
  pub next : (taken ≤ stages) ⊎ (4096 * blocks + 4096 ≤ length (stage (suc stages)).output)

-- a setting with another bound
abbrev pub with_bound : Setting → (bound : ℕ) → Setting
with_bound b n = record b { bound = n }

-- an event that came when at most so many bytes were printed
abbrev pub IsBehind : (printed : ℕ) → Marked → Type 0
IsBehind n m = m.mark ≤ n

-- these are the stages of a run that is cut off so, by its bound
pub record IsStaged (Cut : (bound : ℕ) → State → Type 0) (stage : ℕ → State) : Type 0 where
  pub output : (stage zero).output ≡ []
  pub events : (stage zero).events ≡ []
  pub cut : (n : ℕ) (s : State) → Cut n s → stage (suc n) ≡ s
  pub behind : (n : ℕ) → Each (IsBehind (length (stage n).output)) (stage n).events

-- 7.21.3p3: whole blocks were written, of the bytes of this stage fewer than 4096 were not, and its events were told
pub record Stands (stage : ℕ → State) (stages : ℕ) (bytes : List ℕ) (events : List Marked) : Type 0 where
  pub blocks : ℕ
  pub whole : length bytes ≡ 4096 * blocks
  pub told : events ≡ (stage stages).events
  pub few : length (stage stages).output < length bytes + 4096

-- the same, of the last stage but one of what took so many turns
pub record StandsLast (stage : ℕ → State) (taken : ℕ) (bytes : List ℕ) (events : List Marked) : Type 0 where
  pub stages : ℕ
  pub stands : Stands stage stages bytes events
  pub last : taken ≤ stages

-- 5.1.2.3p6: the same where a write failed before the last turn
abbrev pub StandsOr : Option Undelivered → (stage : ℕ → State) → (taken : ℕ) → List ℕ → List Marked → Type 0
StandsOr None stage taken bytes events = StandsLast stage taken bytes events
StandsOr (Some undelivered.WriteFault) stage taken bytes events = (last : ℕ) → LetOut stage last bytes events
StandsOr (Some undelivered.NoMemory) stage taken bytes events = Unit {0}
