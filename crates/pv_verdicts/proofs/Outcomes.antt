-- Every run has an outcome (C17 5.1.2): its levels are never used up, and no request for an object or a literal is denied.
use Rattle.std.proofs.Common.{◌≡◌, ℕ, suc, List, refl, ◌∙◌}
use Rattle.std.specs.Prelude.{Bool, true, false, nat_lt, slice_get, if◌then◌else◌, None, Some}
use Rattle.std.specs.declared.option.Option.{Option}
use Rattle.pv_script.specs.Lines.{ScriptLine}
use Rattle.pv_prov.specs.Names.{twin_at}
use Rattle.pv_inst.specs.declared.values.CreateError.{CreateError}
use Rattle.pv_inst.specs.declared.values.CreateError.TheVariants as refusal
use Rattle.pv_typed.specs.Tables.{Stored, whole_unit}
use Rattle.pv_world.specs.Worlds.{Worth, World, Wrong, ByVerdict, Halts, Exits, Aborts, Refused, SidesEnded}
use Rattle.pv_world.specs.Telling.{Told}
use Rattle.pv_world.specs.Doing.{Done, Answers, Fails, Breaks}
use Rattle.pv_eval.specs.States.{Setting, State, Why, Turns, Unreached, Stopped, Res, Gives, Stops, then_do, spend}
use Rattle.pv_eval.specs.Acting.{after_telling, pair_count, by_side, answer_with_sides, after_doing}
use Rattle.pv_eval.specs.ActingParts.{one_kept, keeps_both}
use Rattle.pv_eval.specs.Constants.{constant_worth}
use Rattle.pv_eval.specs.Operations.{Op, Puts, does}
use Rattle.pv_eval.proofs.Closed.{IsAsked, beside_setting}
use Rattle.pv_exec.specs.declared.outcome.Outcome.{Outcome}
use Rattle.pv_exec.specs.declared.outcome.Outcome.TheVariants as outcome
use Rattle.pv_exec.specs.Run.{setting_of, initial_state, run_of_by, run_of, status_of, outcome_of_refusal, outcome_of_stop}
use Rattle.pv_exec.specs.Laws.{run_at}
use Rattle.pv_exec.proofs.Executed.{WaysIn, even-closed, run-closed}
use Rattle.pv_exec.proofs.Reaching.{EndFits, run-fits}
use Rattle.pv_verdicts.specs.Own.{OwnNames, DeniesHeap}
use Rattle.pv_verdicts.specs.Endings.{HasOutcome}
use Rattle.pv_exec.proofs.Memory.Ways.{OfTables}
use Rattle.pv_exec.proofs.Memory.Worlds.{Onward}
use Rattle.pv_exec.proofs.Memory.Operations.{Filled, does-on}
use Rattle.pv_verdicts.proofs.Scripted.{Same, scripted}
use Rattle.pv_verdicts.proofs.Refusals.{FineError, FineWrong}
use Rattle.pv_verdicts.proofs.Granted.{Granted}
use Rattle.pv_verdicts.proofs.Requests.{does-granted}

-- ---- a piece of a run

-- the script is this one still
abbrev Says : List ScriptLine → State → Type 0
Says lines s = s.world.memory.table.script ≡ lines

abbrev FineWhy : Why → Type 0
FineWhy Turns = Unit {0}
FineWhy Unreached = Unit {0}
FineWhy (Stopped y line) = FineWrong y

-- how a piece ends
abbrev Ends : {A : Type 0} → List ScriptLine → Res A → Type 0
Ends lines (Gives a s) = Says lines s
Ends lines (Stops y s) = FineWhy y

abbrev Going : List ScriptLine → (A : Type 0) → (State → Res A) → Type 0
Going lines A m = (s : State) → Says lines s → Ends lines (m s)

module _ (lines : List ScriptLine) where
  one-says : (w : World) (k : ℕ) (high : Bool) (c : Bool) → w.memory.table.script ≡ lines → (if c then one_kept w k high else w).memory.table.script ≡ lines
  one-says w k high true h = h
  one-says w k high false h = h

  side-ends : (o : Option Bool) (v : Worth) (line : ℕ) (w : World) (t : Told) (s : State) → w.memory.table.script ≡ lines → Ends lines (by_side o v line w t s)
  side-ends None v line w t s h = tt
  side-ends (Some high) v line w t s h = one-says w (pair_count w) high (keeps_both (twin_at w.memory.table.pairs (pair_count w))) h

  either-ends : {A : Type 0} (q : Bool) (r x : Res A) → Ends lines r → Ends lines x → Ends lines (if q then r else x)
  either-ends true r x h g = h
  either-ends false r x h g = g

  answered-ends : (o : Option (List Bool)) (v : Worth) (line : ℕ) (w : World) (t : Told) (s : State) → w.memory.table.script ≡ lines → Ends lines (answer_with_sides o v line w t s)
  answered-ends None v line w t s h = h
  answered-ends (Some sides) v line w t s h =
      let o = slice_get sides (pair_count s.world) in
      either-ends (nat_lt (pair_count s.world) (pair_count w)) (by_side o v line w t s) (Gives v (after_telling w t s)) (side-ends o v line w t s h) h

  acted-ends : (b : Setting) (line : ℕ) (d : Done) (s : State) → Says lines s → Onward (OfTables Same) s.world d → Granted d → Ends lines (after_doing b line d s)
  acted-ends b line (Answers v w t) s h k g = answered-ends b.sides v line w t s (k.leads.script ∙ h)
  acted-ends b line (Fails y p w t) s h k g = g.fine
  acted-ends b line (Breaks y p w t) s h k g = g.fine

  tick-ends : {A : Type 0} (m : State → Res A) (s : State) (q : Bool) → Going lines A m → Says lines s → Ends lines (if q then m (spend s) else Stops Turns s)
  tick-ends m s true h f = h (spend s) f
  tick-ends m s false h f = tt

  seq-ends : {A B : Type 0} (r : Res A) (f : A → State → Res B) → Ends lines r → ((a : A) → Going lines B (f a)) → Ends lines (then_do r f)
  seq-ends (Gives a s) f h g = g a s h
  seq-ends (Stops y s) f h g = h

  module _ (b : Setting) (own : OwnNames b.unit.names) (denies : DeniesHeap lines) where
    act-ends : (line : ℕ) (o : Op) → IsAsked b o → Going lines Worth (λ s. after_doing b line (does b o s.world) s)
    act-ends line o is s h = acted-ends b line (does b o s.world) s h (does-on b (scripted (Filled b)) o is s.world) (does-granted b own lines denies o s.world h)

    -- each way of making pieces
    going : WaysIn b (beside_setting b b.bound b.sides) (λ k j A m m'. Going lines A m)
    going = record {
      ways = record {
        gives = λ a s h. h;
        acts = λ line o is s h. act-ends line o is s h;
        ticks = λ {k} {j} {A} {m} {m'} h s f. tick-ends m s (nat_lt s.taken b.bound) h f;
        seq = λ {k} {j} {i} {A} {B} {m} {m'} {f} {f'} h g s q. seq-ends (m s) f (h s q) g;
        less = λ h. h;
        more = λ h. h;
      };
      reads = λ line o offset v q is s h. act-ends line (Puts o offset v (constant_worth s.world q)) is s h;
    }

-- ---- the whole run

run-ends : (u : Stored) (n : ℕ) (sides : Option (List Bool)) (zap : Bool) (lines : List ScriptLine) → OwnNames (whole_unit u).names → DeniesHeap lines → Ends lines (run_at u sides zap lines n)
unfolding run_of_by
run-ends u n sides zap lines own denies =
    let b = setting_of u n sides zap in
    run-closed b n sides (going lines b own denies) n (even-closed b n sides (going lines b own denies).ways (λ A s h. tt) n) (initial_state lines zap) refl

refused-some : (name : ℕ) (e : CreateError) (line : ℕ) → FineError e → (o : Outcome) × (outcome_of_refusal name e line ≡ Some o)
refused-some name (refusal.Storage live size) line h = (_, refl)
refused-some name refusal.Denied line h = absurd h
refused-some name (refusal.Range k address) line h = (_, refl)
refused-some name (refusal.Misaligned k address) line h = (_, refl)
refused-some name (refusal.Overlap k address other) line h = (_, refl)
refused-some name refusal.NoMemory line h = absurd h

stopped-some : (y : Wrong) (line : ℕ) → FineWrong y → (o : Outcome) × (outcome_of_stop y line ≡ Some o)
stopped-some (ByVerdict v) line h = (_, refl)
stopped-some (Halts (Exits n)) line h = (_, refl)
stopped-some (Halts Aborts) line h = (_, refl)
stopped-some (Halts (Refused name e)) line h = refused-some name e line h
stopped-some (Halts (SidesEnded k)) line h = (_, refl)

outcome-some : (n j : ℕ) (lines : List ScriptLine) (r : Res Worth) → EndFits n j r → Ends lines r → HasOutcome r
outcome-some n j lines (Gives v s) h g = (outcome.Exit (status_of v), refl)
outcome-some n j lines (Stops Turns s) h g = (outcome.Turns, refl)
outcome-some n j lines (Stops Unreached s) h g = absurd h.1
outcome-some n j lines (Stops (Stopped y line) s) h g = stopped-some y line g

-- a unit that has one name of allocations, with a script that denies no other request
pub ends-so : (u : Stored) (n : ℕ) (sides : Option (List Bool)) (zap : Bool) (lines : List ScriptLine) → OwnNames (whole_unit u).names → DeniesHeap lines → HasOutcome (run_at u sides zap lines n)
ends-so u n sides zap lines own denies = outcome-some n (suc n) lines (run_at u sides zap lines n) (run-fits u n sides zap lines) (run-ends u n sides zap lines own denies)
