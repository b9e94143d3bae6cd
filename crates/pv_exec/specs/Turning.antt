-- Turns of a run (C17 5.1.2.3p1), and how its statements end: bridges from the code's loop over turns.
use Rattle.std.specs.Prelude.{◌≡◌, ℕ, ◌<◌, ◌≤◌, List, Result, Ok, Err}
use Rattle.pv_typed.specs.Tables.{Stored}
use Rattle.pv_world.specs.Coming.{wrong_for}
use Rattle.pv_eval.specs.declared.failure.Failure.{Failure}
use Rattle.pv_eval.specs.declared.failure.Failure.TheVariants as failure
use Rattle.pv_eval.specs.States.{Turns, Stopped, Res, Stops}
use Rattle.pv_eval.specs.Moments.{Always, state_of}
use Rattle.pv_eval.specs.Machines.{Machine, Started}
use Rattle.pv_eval.specs.MachineSteps.{Fit}
use Rattle.pv_exec.specs.declared.once.After.{After}
use Rattle.pv_exec.specs.declared.once.After.TheVariants as after
use Rattle.pv_exec.specs.declared.task.Task.{Task}
use Rattle.pv_exec.specs.declared.task.Doing.{Doing}
use Rattle.pv_exec.specs.Tasks.{Reached}
use Rattle.pv_exec.specs.Works.{due, turn_due, others, Holds}
use Rattle.pv_exec.specs.Leading.{HoldsAfter, LastIs}
use Rattle.pv_exec.specs.Fits.{Runs, DoingFits}

-- what operations that take no turn lead to
abbrev pub UntilDueLed : Stored → Doing → Result After Failure → (before behind : List Task) → Machine → Machine → Type 0
UntilDueLed u d r ts ts' old new =
    Always u old.moment (λ b out es. (all : Res Reached) →
    Holds b u all ts old.started d (state_of old.moment out es) → HoldsAfter b u all r ts' new.started (state_of new.moment out es))

-- a turn is due
abbrev pub DueAfter : List Started → Result After Failure → Type 0
DueAfter es (Ok (after.On d)) = due es d ≡ 1
DueAfter es (Ok (after.Last l)) = Unit {0}
DueAfter es (Err e) = Unit {0}

-- the same, or an expression of a loop was not started
abbrev pub AskedAfter : List Started → Result After Failure → Type 0
AskedAfter es (Ok (after.On d)) = turn_due es d ≡ 1
AskedAfter es (Ok (after.Last l)) = Unit {0}
AskedAfter es (Err e) = Unit {0}

-- what a turn leads to: where the run goes on, under whatever bound allows the turn, else where this is the bound
abbrev pub AdvancedLed : Stored → (bound : ℕ) → Doing → Result After Failure → (before behind : List Task) → Machine → Machine → Type 0
AdvancedLed u n d (Ok (after.On e)) ts ts' old new =
    Always u old.moment (λ b out es. (all : Res Reached) → new.moment.taken ≤ b.bound →
    Holds b u all ts old.started d (state_of old.moment out es) → Holds b u all ts' new.started e (state_of new.moment out es))
AdvancedLed u n d (Ok (after.Last l)) ts ts' old new =
    Always u old.moment (λ b out es. (all : Res Reached) → b.bound ≡ n →
    Holds b u all ts old.started d (state_of old.moment out es) → LastIs all l new.started (state_of new.moment out es))
AdvancedLed u n d (Err (failure.Stop y line)) ts ts' old new =
    Always u old.moment (λ b out es. (all : Res Reached) → b.bound ≡ n →
    Holds b u all ts old.started d (state_of old.moment out es) → all ≡ Stops (Stopped (wrong_for y) line) (state_of new.moment out es))
AdvancedLed u n d (Err failure.NoMemory) ts ts' old new = Unit {0}

-- where the run goes on, what waits names what is there (6.8), and another turn is due, or an expression of a loop was not started
abbrev pub AdvancedRuns : Stored → List Task → List Started → Result After Failure → Type 0
AdvancedRuns u ts es (Ok (after.On d)) = Runs u ts es d × Fit u es × (turn_due es d ≡ 1)
AdvancedRuns u ts es (Ok (after.Last l)) = Unit {0}
AdvancedRuns u ts es (Err e) = Unit {0}

-- where the run goes on, turns were taken, within the bound
abbrev pub AdvancedPace : (bound before behind : ℕ) → Result After Failure → Type 0
AdvancedPace n k k' (Ok (after.On d)) = (k < k') × (k' ≤ n)
AdvancedPace n k k' (Ok (after.Last l)) = Unit {0}
AdvancedPace n k k' (Err e) = Unit {0}

-- 6.8p4: what is due came to this, with all its turns
abbrev pub AtOnceLed : Stored → (before behind : Doing) → List Task → Machine → Machine → Type 0
AtOnceLed u d e ts old new =
    Always u old.moment (λ b out es. (all : Res Reached) → new.moment.taken ≤ b.bound →
    Holds b u all ts old.started d (state_of old.moment out es) → Holds b u all ts new.started e (state_of new.moment out es))

-- and under each bound that is met before the turns that were taken, the run stops there, and nothing else has changed
abbrev pub CutBefore : Stored → Doing → List Task → Machine → Machine → Type 0
CutBefore u d ts old new =
    Always u old.moment (λ b out es. (all : Res Reached) → old.moment.taken ≤ b.bound → b.bound < new.moment.taken →
    Holds b u all ts old.started d (state_of old.moment out es) → all ≡ Stops Turns (state_of (record old.moment { taken = b.bound }) out es))

-- 6.8p4: what is due came to this with all its turns, which are within the bound, and what waits names what is there
pub record ComesAtOnce (u : Stored) (n : ℕ) (d e : Doing) (old new : Machine) : Type 0 where
  pub led : (ts : List Task) → AtOnceLed u d e ts old new
  pub cut : (ts : List Task) → CutBefore u d ts old new
  pub more : old.moment.taken < new.moment.taken
  pub within : new.moment.taken ≤ n
  pub fits : DoingFits u new.started e
  pub waiting : others new.started e ≡ others old.started d
