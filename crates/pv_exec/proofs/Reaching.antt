-- No run takes more turns than its bound, and its level is never used up.
use Rattle.std.proofs.Common.{◌≡◌, ℕ, suc, ◌+◌, ◌<◌, ◌≤◌, List, [], ◌∷◌, ◌++◌, length, length-append, refl, sym, ap, ◌∙◌, arith}
use Rattle.std.specs.Prelude.{Bool, true, false, nat_lt, slice_get, if◌then◌else◌, None, Some}
use Rattle.std.specs.declared.option.Option.{Option}
use Rattle.std.proofs.lemmas.Bool.{ltb-true, ltb-false}
use Rattle.pv_script.specs.Lines.{ScriptLine}
use Rattle.pv_inst.specs.declared.values.CreateError.{CreateError}
use Rattle.pv_inst.specs.declared.values.CreateError.TheVariants as refusal
use Rattle.pv_typed.specs.Known.{Each}
use Rattle.pv_typed.specs.Tables.{Stored}
use Rattle.pv_watch.specs.declared.event.What.{What}
use Rattle.pv_world.specs.Worlds.{Worth, World, Wrong, ByVerdict, Halts, Exits, Aborts, Refused, SidesEnded}
use Rattle.pv_world.specs.Doing.{Done, Answers, Fails, Breaks}
use Rattle.pv_world.specs.Telling.{Told, verdict_of, fault_of, fault_told}
use Rattle.pv_eval.specs.declared.marked.Marked.{Marked}
use Rattle.pv_eval.specs.States.{Setting, State, Why, Turns, Unreached, Stopped, Res, Gives, Stops, then_do, end_of, spend}
use Rattle.pv_eval.specs.Acting.{marked_events, after_telling, pair_count, with_side, settling, by_side, answer_with_sides, after_doing}
use Rattle.pv_eval.specs.Constants.{constant_worth}
use Rattle.pv_eval.specs.Operations.{Puts, does}
use Rattle.pv_eval.proofs.Closed.{beside_setting}
use Rattle.pv_exec.specs.declared.outcome.Outcome.{Outcome}
use Rattle.pv_exec.specs.declared.outcome.Outcome.TheVariants as outcome
use Rattle.pv_exec.specs.Run.{setting_of, initial_state, run_of_by, run_of, outcome_of, outcome_of_stop, outcome_of_refusal}
use Rattle.pv_exec.specs.Laws.{IsUpto, IsWithin, TakesAll, run_at}
use Rattle.pv_exec.proofs.Executed.{WaysIn, even-closed, run-closed}
use Rattle.pv_exec.proofs.Growing.{each-append, each-weaker}

upto-weaker : (n m n' m' : ℕ) (es : List Marked) → n ≤ n' → m ≤ m' → Each (IsUpto n m) es → Each (IsUpto n' m') es
upto-weaker n m n' m' es l k h = each-weaker (IsUpto n m) (IsUpto n' m') es (λ x q. (omega (arith, l, q.0), omega (arith, k, q.1))) h

stamped-upto : (n m : ℕ) (xs : List What) → Each (IsUpto n m) (marked_events n m xs)
stamped-upto n m [] = tt
stamped-upto n m (x ∷ xs) = ((omega arith, omega arith), stamped-upto n m xs)

-- how a stop may come
abbrev pub StopFits : ℕ → Why → State → Type 0
StopFits b Turns s = s.taken ≡ b
StopFits b (Stopped y line) s = Unit {0}
StopFits b Unreached s = ⊥

abbrev pub EndFits : {A : Type 0} → ℕ → ℕ → Res A → Type 0
EndFits b j (Gives a s) = IsWithin b s × (b < s.taken + j)
EndFits b j (Stops y s) = IsWithin b s × StopFits b y s

abbrev Fitting : ℕ → ℕ → ℕ → (A : Type 0) → (State → Res A) → Type 0
Fitting b k j A m = (s : State) → IsWithin b s → b < s.taken + k → EndFits b j (m s)

noted-within : (b : ℕ) (w : World) (t : Told) (s : State) → IsWithin b s → IsWithin b (after_telling w t s)
noted-within b w t s h =
    let es = marked_events s.taken (length s.output) t.events in
    record {
      taken = h.taken;
      events = upto-weaker s.taken (length s.output) s.taken (length (s.output ++ t.bytes)) (s.events ++ es) (omega arith) (omega (arith, length-append s.output t.bytes)) (each-append (IsUpto s.taken (length s.output)) s.events es h.events (stamped-upto s.taken (length s.output) t.events));
    }

side-fits : (b j : ℕ) (o : Option Bool) (v : Worth) (line : ℕ) (w : World) (t : Told) (s : State) → IsWithin b s → b < s.taken + j → EndFits b j (by_side o v line w t s)
side-fits b j None v line w t s h r = (noted-within b w (settling (pair_count w) t) s h, tt)
side-fits b j (Some high) v line w t s h r = (noted-within b (with_side w (pair_count w) high) (settling (pair_count w) t) s h, r)

either-fits : {A : Type 0} (b j : ℕ) (q : Bool) (r x : Res A) → EndFits b j r → EndFits b j x → EndFits b j (if q then r else x)
either-fits b j true r x h g = h
either-fits b j false r x h g = g

answered-fits : (b j : ℕ) (o : Option (List Bool)) (v : Worth) (line : ℕ) (w : World) (t : Told) (s : State) → IsWithin b s → b < s.taken + j → EndFits b j (answer_with_sides o v line w t s)
answered-fits b j None v line w t s h r = (noted-within b w t s h, r)
answered-fits b j (Some sides) v line w t s h r =
    let o = slice_get sides (pair_count s.world) in
    either-fits b j (nat_lt (pair_count s.world) (pair_count w)) (by_side o v line w t s) (Gives v (after_telling w t s)) (side-fits b j o v line w t s h r) (noted-within b w t s h, r)

acted-fits : (b : Setting) (j line : ℕ) (d : Done) (s : State) → IsWithin b.bound s → b.bound < s.taken + j → EndFits b.bound j (after_doing b line d s)
acted-fits b j line (Answers v w t) s h r = answered-fits b.bound j b.sides v line w t s h r
acted-fits b j line (Fails y p w t) s h r = (noted-within b.bound w (record t { events = t.events ++ fault_told s.world.memory y p }) s h, tt)
acted-fits b j line (Breaks y p w t) s h r = (noted-within b.bound w (record t { events = t.events ++ fault_of p (verdict_of y) }) s h, tt)

tick-fits : {A : Type 0} (b k j : ℕ) (m : State → Res A) (s : State) (q : Bool) → nat_lt s.taken b ≡ q → Fitting b k j A m → IsWithin b s → b < s.taken + suc k → EndFits b j (if q then m (spend s) else Stops Turns s)
tick-fits b k j m s true is h f r =
    let lt : s.taken < b = ltb-true s.taken b is in
    h (spend s) (record { taken = omega (arith, lt); events = upto-weaker s.taken (length s.output) (s.taken + 1) (length s.output) s.events (omega arith) (omega arith) f.events }) (omega (arith, r))
tick-fits b k j m s false is h f r =
    let le : b ≤ s.taken = ltb-false s.taken b is in
    (f, omega (arith, le, f.taken))

seq-fits : {A B : Type 0} (b j i : ℕ) (r : Res A) (f : A → State → Res B) → EndFits b j r → ((a : A) → Fitting b j i B (f a)) → EndFits b i (then_do r f)
seq-fits b j i (Gives a s) f h g = g a s h.0 h.1
seq-fits b j i (Stops y s) f h g = h

more-fits : {A : Type 0} (b j : ℕ) (r : Res A) → EndFits b j r → EndFits b (suc j) r
more-fits b j (Gives a s) h = (h.0, omega (arith, h.1))
more-fits b j (Stops y s) h = h

fitting : (b : Setting) → WaysIn b (beside_setting b b.bound b.sides) (λ k j A m m'. Fitting b.bound k j A m)
fitting b = record {
  ways = record {
    gives = λ a s h r. (h, r);
    acts = λ {k} line o is s h r. acted-fits b k line (does b o s.world) s h r;
    ticks = λ {k} {j} {A} {m} {m'} h s f r. tick-fits b.bound k j m s (nat_lt s.taken b.bound) refl h f r;
    seq = λ {k} {j} {i} {A} {B} {m} {m'} {f} {f'} h g s q r. seq-fits b.bound j i (m s) f (h s q r) g;
    less = λ h s f r. h s f (omega (arith, r));
    more = λ {k} {j} {A} {m} {m'} h s f r. more-fits b.bound j (m s) (h s f r);
  };
  reads = λ {k} line o offset v q is s h r. acted-fits b k line (does b (Puts o offset v (constant_worth s.world q)) s.world) s h r;
}

pub run-fits : (u : Stored) (n : ℕ) (sides : Option (List Bool)) (zap : Bool) (script : List ScriptLine) → EndFits n (suc n) (run_at u sides zap script n)
unfolding run_of_by
run-fits u n sides zap script =
    let b = setting_of u n sides zap in
    run-closed b n sides (fitting b) n (even-closed b n sides (fitting b).ways (λ A s h r. absurd (omega (arith, h.taken, r))) n) (initial_state script zap) (record { taken = omega arith; events = tt }) (omega arith)

end-within : (n j : ℕ) (r : Res Worth) → EndFits n j r → IsWithin n (end_of r)
end-within n j (Gives v s) h = h.0
end-within n j (Stops y s) h = h.0

pub within-bound : (u : Stored) (n : ℕ) (sides : Option (List Bool)) (zap : Bool) (script : List ScriptLine) → IsWithin n (end_of (run_at u sides zap script n))
within-bound u n sides zap script = end-within n (suc n) (run_at u sides zap script n) (run-fits u n sides zap script)

-- no other outcome is called so
abbrev is_turns : Option Outcome → Bool
is_turns (Some outcome.Turns) = true
is_turns (Some (outcome.Exit status)) = false
is_turns (Some (outcome.Abort line)) = false
is_turns (Some (outcome.Ends v line)) = false
is_turns (Some (outcome.Placement reason name k line)) = false
is_turns (Some (outcome.Storage live size line)) = false
is_turns (Some (outcome.SidesEnded pair)) = false
is_turns None = false

refused-not : (name : ℕ) (e : CreateError) (line : ℕ) → is_turns (outcome_of_refusal name e line) ≡ false
refused-not name (refusal.Storage live size) line = refl
refused-not name refusal.Denied line = refl
refused-not name (refusal.Range k address) line = refl
refused-not name (refusal.Misaligned k address) line = refl
refused-not name (refusal.Overlap k address other) line = refl
refused-not name refusal.NoMemory line = refl

stopped-not : (y : Wrong) (line : ℕ) → is_turns (outcome_of_stop y line) ≡ false
stopped-not (ByVerdict v) line = refl
stopped-not (Halts (Exits n)) line = refl
stopped-not (Halts Aborts) line = refl
stopped-not (Halts (Refused name e)) line = refused-not name e line
stopped-not (Halts (SidesEnded k)) line = refl

not-turns : {A : Type 0} (o : Option Outcome) → is_turns o ≡ false → o ≡ Some outcome.Turns → A
not-turns o h e = let z : false ≡ true = sym h ∙ ap is_turns e in absurd (cc)

pub takes-all : (n j : ℕ) (r : Res Worth) → EndFits n j r → TakesAll n r
takes-all n j (Gives v s) h e = not-turns (outcome_of (Gives v s)) refl e
takes-all n j (Stops Turns s) h e = h.1
takes-all n j (Stops Unreached s) h e = absurd h.1
takes-all n j (Stops (Stopped y line) s) h e = not-turns (outcome_of_stop y line) (stopped-not y line) e

pub all-taken : (u : Stored) (n : ℕ) (sides : Option (List Bool)) (zap : Bool) (script : List ScriptLine) → TakesAll n (run_at u sides zap script n)
all-taken u n sides zap script = takes-all n (suc n) (run_at u sides zap script n) (run-fits u n sides zap script)
