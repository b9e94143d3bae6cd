-- The run of a unit (C17 5.1.2): a function of the unit, its script, the bound on its turns, and in a settled run the sides.
use Rattle.std.specs.Prelude.{ℕ, ℤ, pos, Bool, List, [], None, Some, map, if◌then◌else◌}
use Rattle.std.specs.declared.option.Option.{Option}
use Rattle.pv_num.specs.declared.kinds.IntKind.TheVariants as kind
use Rattle.pv_fault.specs.declared.faults.Reason.TheVariants as reason
use Rattle.pv_num.specs.Kinds.{fits_of}
use Rattle.pv_script.specs.Lines.{ScriptLine}
use Rattle.pv_inst.specs.declared.values.CreateError.{CreateError}
use Rattle.pv_inst.specs.declared.values.CreateError.TheVariants as refusal
use Rattle.pv_typed.specs.TypedUnits.{function_at}
use Rattle.pv_typed.specs.Mains.{main_of}
use Rattle.pv_typed.specs.Tables.{Stored, whole_unit}
use Rattle.pv_world.specs.Worlds.{Worth, Nothing, Wrong, ByVerdict, Halts, Halt, Exits, Aborts, Refused, SidesEnded}
use Rattle.pv_world.specs.Worths.{int_of}
use Rattle.pv_eval.specs.States.{Setting, State, Turns, Unreached, Stopped, Res, Gives, Stops, then_do, first_world}
use Rattle.pv_eval.specs.Constants.{is_high_pair}
use Rattle.pv_exec.specs.Rules.{Rules, of_runs}
use Rattle.pv_exec.specs.declared.outcome.Outcome.{Outcome}
use Rattle.pv_exec.specs.declared.outcome.Outcome.TheVariants as outcome
use Rattle.pv_exec.specs.Calls.{below_by, call_body_by}
use Rattle.pv_exec.specs.Preparing.{prepare_by}

-- what a run is given: the unit (5.1.1.1), its bound, and in a settled run the sides of its pairs
abbrev pub setting_of : Stored → (bound : ℕ) → Option (List Bool) → (zap : Bool) → Setting
setting_of u bound sides zap = record { unit = whole_unit u; types = u.known; bound = bound; sides = sides; zap = zap }

-- 5.1.2p1: nothing is made, printed or told yet, and the script says where storage instances will lie (the memory model)
abbrev pub initial_state : List ScriptLine → (zap : Bool) → State
initial_state script zap = record { world = first_world script zap; output = []; events = []; taken = 0 }

-- 5.1.2.2.1p1: `main` is called, without arguments, in the line of its name
abbrev pub call_main_by : Rules → Setting → Option ℕ → State → Res Worth
call_main_by R b None s = Gives Nothing s
call_main_by R b (Some f) s = call_body_by R b (below_by R b b.bound) (function_at b.unit f) [] (function_at b.unit f).line s

-- 5.1.2p1: the run: what comes before the first turn, and the call of `main`
unfoldable pub run_of_by : Rules → Setting → List ScriptLine → Res Worth
run_of_by R b script = then_do (prepare_by R b (initial_state script b.zap)) (λ v s. call_main_by R b (main_of b.unit) s)

-- 5.1.2.2.3p1: the status, by the value that `main` gives: an `int`; typing makes sure of it
abbrev pub status_of : Worth → ℤ
status_of v = if fits_of kind.Int (int_of v) then int_of v else pos 0

-- the memory model leaves open where a storage instance lies: the request for one was refused;
-- those for objects and literals are never denied
abbrev pub outcome_of_refusal : (name : ℕ) → CreateError → (line : ℕ) → Option Outcome
outcome_of_refusal name (refusal.Storage live size) line = Some (outcome.Storage live size line)
outcome_of_refusal name (refusal.Range k address) line = Some (outcome.Placement reason.Range name k line)
outcome_of_refusal name (refusal.Misaligned k address) line = Some (outcome.Placement reason.Misaligned name k line)
outcome_of_refusal name (refusal.Overlap k address other) line = Some (outcome.Placement reason.Overlap name k line)
outcome_of_refusal name _ line = None

-- a run ended without a verdict: `exit` (7.22.4.4), `abort` (7.22.4.1), a refused request, no side for a pair (the memory model)
abbrev pub outcome_of_halt : Halt → ℕ → Option Outcome
outcome_of_halt (Exits n) line = Some (outcome.Exit n)
outcome_of_halt Aborts line = Some (outcome.Abort line)
outcome_of_halt (Refused name e) line = outcome_of_refusal name e line
outcome_of_halt (SidesEnded k) line = Some (outcome.SidesEnded k)

-- an operation ended the run: undefined behaviour (3.4.3), an indeterminate value (3.19.2), what the memory model leaves undecided, or one of
-- those above
abbrev pub outcome_of_stop : Wrong → ℕ → Option Outcome
outcome_of_stop (ByVerdict v) line = Some (outcome.Ends v line)
outcome_of_stop (Halts h) line = outcome_of_halt h line

-- 5.1.2.2.3p1: how a run ended: `main` returned, its turns were taken, or an operation ended it; its levels are never used up
abbrev pub outcome_of : Res Worth → Option Outcome
outcome_of (Gives v s) = Some (outcome.Exit (status_of v))
outcome_of (Stops Turns s) = Some outcome.Turns
outcome_of (Stops Unreached s) = None
outcome_of (Stops (Stopped y line) s) = outcome_of_stop y line

-- the memory model: of each pair of candidates whether it was settled to its high one
abbrev pub sides_at : State → List Bool
sides_at s = map is_high_pair s.world.memory.table.pairs

-- 5.1.2p1: as runs have it
abbrev pub run_of : Setting → List ScriptLine → Res Worth
run_of = run_of_by of_runs
