-- Parts of a run between turns.
use Rattle.std.proofs.Common.{◌≡◌, ℕ, ◌+◌, ◌<◌, ◌≤◌, List, refl, sym, ap, ◌∙◌, arith}
use Rattle.std.specs.Prelude.{Bool, true, false, Result, Ok, Err, OnOk, length, if◌then◌else◌}
use Rattle.pv_typed.specs.Tables.{Stored}
use Rattle.pv_eval.specs.declared.failure.Failure.{Failure}
use Rattle.pv_eval.specs.declared.failure.Failure.TheVariants as failure
use Rattle.pv_eval.specs.States.{Setting}
use Rattle.pv_eval.specs.Moments.{Moment, IsSetting}
use Rattle.pv_eval.specs.Machines.{Machine, Started}
use Rattle.pv_eval.specs.MachineSteps.{Fit, KeepsSetting}
use Rattle.pv_exec.specs.declared.once.After.{After}
use Rattle.pv_exec.specs.declared.once.After.TheVariants as after
use Rattle.pv_exec.specs.declared.task.Task.{Task}
use Rattle.pv_exec.specs.declared.task.Doing.{Doing}
use Rattle.pv_exec.specs.declared.task.Doing.TheVariants as doing
use Rattle.pv_exec.specs.Works.{due, turn_due}
use Rattle.pv_exec.specs.Fits.{AfterRuns}
use Rattle.pv_exec.specs.Leading.{OnceLed}
use Rattle.pv_exec.specs.Turning.{UntilDueLed, AskedAfter, AdvancedLed, AdvancedRuns, AdvancedPace}

pub keeps-setting : (b : Setting) (u : Stored) (m n : Moment) → KeepsSetting m n → IsSetting b u m → IsSetting b u n
keeps-setting b u m n h i = record { unit = i.unit; types = i.types; sides = i.sides ∙ sym h.sides }

pub undue : (n : ℕ) (q : Bool) → n ≡ (if q then 1 else 0) → q ≡ false → n ≡ 0
undue n q e f = e ∙ ap (λ (x : Bool). if x then 1 else 0) f

pub is-due : (n : ℕ) (q : Bool) → n ≡ (if q then 1 else 0) → q ≡ true → n ≡ 1
is-due n q e f = e ∙ ap (λ (x : Bool). if x then 1 else 0) f

pub not-due : {A : Type 0} (n : ℕ) → n ≡ 0 → n ≡ 1 → A
not-due n z e = absurd (omega (arith, z, e))

-- a turn, and the operations that come before the next one
pub until-due-led : (u : Stored) (n : ℕ) (d e : Doing) (r : Result After Failure) (ts tm ts' : List Task) (old mid new : Machine) → old.moment.taken < n → mid.moment.taken ≡ old.moment.taken + due old.started d → new.moment.taken ≡ mid.moment.taken → KeepsSetting old.moment mid.moment → OnceLed u d (Ok (after.On e)) ts tm old mid → UntilDueLed u e r tm ts' mid new → AdvancedLed u n d r ts ts' old new
until-due-led u n d e (Ok (after.On f)) ts tm ts' old mid new lt t t' k o h = λ b out es hs hl all q g. h b out es (keeps-setting b u old.moment mid.moment k hs) (k.total (length out) hl) all (o b out es hs hl all (λ one. omega (arith, t, t', one, q)) g)
until-due-led u n d e (Ok (after.Last l)) ts tm ts' old mid new lt t t' k o h = λ b out es hs hl all q g. h b out es (keeps-setting b u old.moment mid.moment k hs) (k.total (length out) hl) all (o b out es hs hl all (λ one. omega (arith, lt, q)) g)
until-due-led u n d e (Err (failure.Stop y line)) ts tm ts' old mid new lt t t' k o h = λ b out es hs hl all q g. h b out es (keeps-setting b u old.moment mid.moment k hs) (k.total (length out) hl) all (o b out es hs hl all (λ one. omega (arith, lt, q)) g)
until-due-led u n d e (Err failure.NoMemory) ts tm ts' old mid new lt t t' k o h = tt

pub once-led : (u : Stored) (n : ℕ) (d : Doing) (r : Result After Failure) (ts ts' : List Task) (old new : Machine) → old.moment.taken < n → new.moment.taken ≡ old.moment.taken + due old.started d → OnceLed u d r ts ts' old new → AdvancedLed u n d r ts ts' old new
once-led u n d (Ok (after.On e)) ts ts' old new lt t h = λ b out es hs hl all q g. h b out es hs hl all (λ one. omega (arith, t, one, q)) g
once-led u n d (Ok (after.Last l)) ts ts' old new lt t h = λ b out es hs hl all q g. h b out es hs hl all (λ one. omega (arith, lt, q)) g
once-led u n d (Err (failure.Stop y line)) ts ts' old new lt t h = λ b out es hs hl all q g. h b out es hs hl all (λ one. omega (arith, lt, q)) g
once-led u n d (Err failure.NoMemory) ts ts' old new lt t h = tt

pub until-due-runs : (u : Stored) (ts : List Task) (es : List Started) (r : Result After Failure) → AfterRuns u ts es r → OnOk r (Fit u es) → AskedAfter es r → AdvancedRuns u ts es r
until-due-runs u ts es (Ok (after.On d)) h f e = (h, f, e)
until-due-runs u ts es (Ok (after.Last l)) h f e = tt
until-due-runs u ts es (Err y) h f e = tt

pub pace-of : (n k k' : ℕ) (a : Result After Failure) → k < k' → k' ≤ n → AdvancedPace n k k' a
pace-of n k k' (Ok (after.On d)) lt le = (lt, le)
pace-of n k k' (Ok (after.Last l)) lt le = tt
pace-of n k k' (Err e) lt le = tt

-- what isn't asked for is not due, and what is due is asked for
pub unasked-undue : (es : List Started) (d : Doing) → turn_due es d ≡ 0 → due es d ≡ 0
unasked-undue es (doing.Enter n) e = absurd (omega (arith, e))
unasked-undue es (doing.Jump n l i) e = absurd (omega (arith, e))
unasked-undue es (doing.Statements l i) e = refl
unasked-undue es (doing.Within n) e = refl
unasked-undue es (doing.Again x p) e = absurd (omega (arith, e))
unasked-undue es (doing.Round p) e = absurd (omega (arith, e))
unasked-undue es (doing.Body p) e = refl
unasked-undue es (doing.Store o i) e = absurd (omega (arith, e))
unasked-undue es doing.Absent e = absurd (omega (arith, e))
unasked-undue es (doing.Left fl) e = refl
unasked-undue es (doing.Call f) e = refl
unasked-undue es doing.Evaluate e = e
unasked-undue es doing.Evaluated e = refl

pub due-asked : (es : List Started) (d : Doing) → due es d ≡ 1 → turn_due es d ≡ 1
due-asked es (doing.Enter n) e = refl
due-asked es (doing.Jump n l i) e = refl
due-asked es (doing.Statements l i) e = absurd (omega (arith, e))
due-asked es (doing.Within n) e = absurd (omega (arith, e))
due-asked es (doing.Again x p) e = absurd (omega (arith, e))
due-asked es (doing.Round p) e = absurd (omega (arith, e))
due-asked es (doing.Body p) e = absurd (omega (arith, e))
due-asked es (doing.Store o i) e = refl
due-asked es doing.Absent e = refl
due-asked es (doing.Left fl) e = absurd (omega (arith, e))
due-asked es (doing.Call f) e = absurd (omega (arith, e))
due-asked es doing.Evaluate e = e
due-asked es doing.Evaluated e = absurd (omega (arith, e))

-- the operations that come before the next turn, and that turn
pub ahead-led : (u : Stored) (n : ℕ) (d e : Doing) (a : Result After Failure) (ts tm ts' : List Task) (old mid new : Machine) → KeepsSetting old.moment mid.moment → UntilDueLed u d (Ok (after.On e)) ts tm old mid → AdvancedLed u n e a tm ts' mid new → AdvancedLed u n d a ts ts' old new
ahead-led u n d e (Ok (after.On f)) ts tm ts' old mid new k o h = λ b out es hs hl all q g. h b out es (keeps-setting b u old.moment mid.moment k hs) (k.total (length out) hl) all q (o b out es hs hl all g)
ahead-led u n d e (Ok (after.Last l)) ts tm ts' old mid new k o h = λ b out es hs hl all q g. h b out es (keeps-setting b u old.moment mid.moment k hs) (k.total (length out) hl) all q (o b out es hs hl all g)
ahead-led u n d e (Err (failure.Stop y line)) ts tm ts' old mid new k o h = λ b out es hs hl all q g. h b out es (keeps-setting b u old.moment mid.moment k hs) (k.total (length out) hl) all q (o b out es hs hl all g)
ahead-led u n d e (Err failure.NoMemory) ts tm ts' old mid new k o h = tt

pub until-last : (u : Stored) (n : ℕ) (d : Doing) (r : Result After Failure) (ts ts' : List Task) (old new : Machine) → UntilDueLed u d r ts ts' old new → AdvancedLed u n d r ts ts' old new
until-last u n d (Ok (after.On e)) ts ts' old new o = λ b out es hs hl all q g. o b out es hs hl all g
until-last u n d (Ok (after.Last l)) ts ts' old new o = λ b out es hs hl all q g. o b out es hs hl all g
until-last u n d (Err (failure.Stop y line)) ts ts' old new o = λ b out es hs hl all q g. o b out es hs hl all g
until-last u n d (Err failure.NoMemory) ts ts' old new o = tt
