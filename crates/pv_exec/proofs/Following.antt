-- What is named by what waits and by what is done, and how many operations are left, when a way is followed.
use Rattle.std.proofs.Common.{◌≡◌, ℕ, ◌+◌, ◌*◌, ◌<◌, ◌≤◌, List, [], ◌∷◌, ◌++◌, refl, sym, ap, ◌∙◌, subst, arith}
use Rattle.std.specs.Prelude.{Bool, true, false, nat_eq, if◌then◌else◌, reverse, All, Result, Ok, Err, Some, IfOk, OnOk}
use Rattle.std.proofs.lemmas.List.{reverse-append}
use Rattle.std.proofs.lemmas.List.Elements.{All-push, All-pop}
use Rattle.pv_typed.specs.Tables.{Stored}
use Rattle.pv_eval.specs.declared.failure.Failure.{Failure}
use Rattle.pv_eval.specs.Machines.{Started, due_turns}
use Rattle.pv_exec.specs.declared.task.Task.{Task}
use Rattle.pv_exec.specs.declared.task.Doing.{Doing}
use Rattle.pv_exec.specs.declared.task.Flow.{Flow}
use Rattle.pv_exec.specs.declared.task.Doing.TheVariants as doing
use Rattle.pv_exec.specs.declared.task.Way.{Way}
use Rattle.pv_exec.specs.declared.task.Way.TheVariants as way
use Rattle.pv_exec.specs.Works.{others, behind_call, due}
use Rattle.pv_exec.specs.Fits.{TaskFits, Stands, TasksStand, WayFits, Runs, RunsOr}
use Rattle.pv_exec.specs.Quickness.{Quick, QuickOr, Ends, EndsNow, WithinNow, PaceOr}
use Rattle.pv_exec.specs.Pace.{goes_on, doing_ops, way_ops, FollowedPace}

-- followed with no new task
pub runs-do : (u : Stored) (ts : List Task) (stand es : List Started) (d : Doing) → All (TaskFits u) ts → TasksStand (reverse ts) stand → WayFits u stand es (way.Do d) → Runs u ts es d
runs-do u ts stand es d fits st w = record { tasks_fit = fits; stand = subst (TasksStand (reverse ts)) (sym w.1) st; doing_fits = w.0 }

-- followed, and a task waits
pub runs-with : (u : Stored) (ts : List Task) (stand es : List Started) (t : Task) (d : Doing) → All (TaskFits u) ts → TasksStand (reverse ts) stand → WayFits u stand es (way.With t d) → Runs u (ts ++ t ∷ []) es d
runs-with u ts stand es t d fits st w = record {
  tasks_fit = All-push (TaskFits u) ts t fits w.0;
  stand = subst (λ (xs : List Task). TasksStand xs (others es d)) (sym (reverse-append ts (t ∷ []))) (w.3, subst (TasksStand (reverse ts)) (sym w.2) st);
  doing_fits = w.1;
}

-- the last task is reached
pub record Last (u : Stored) (ts : List Task) (t : Task) (es : List Started) : Type 0 where
  pub fits : TaskFits u t
  pub rest : All (TaskFits u) ts
  pub stands : Stands t es
  pub below : TasksStand (reverse ts) (behind_call t es)

pub last-of : (u : Stored) (tasks ts : List Task) (t : Task) (es : List Started) (d : Doing) → tasks ≡ ts ++ t ∷ [] → Runs u tasks es d → Last u ts t (others es d)
last-of u tasks ts t es d e h =
    let fits = All-pop (TaskFits u) tasks ts (Some t) e h.tasks_fit in
    let st = subst (λ (xs : List Task). TasksStand xs (others es d)) (ap reverse e ∙ reverse-append ts (t ∷ [])) h.stand in
    record { fits = fits.1; rest = fits.0; stands = st.0; below = st.1 }

-- how many operations are left
zero-ops : (es : List Started) (d : Doing) (k : ℕ) → due es d ≡ 1 → doing_ops es d k ≡ 0
zero-ops es (doing.Enter n) k e = refl
zero-ops es (doing.Jump n l i) k e = refl
zero-ops es (doing.Statements l i) k e = absurd (omega (arith, e))
zero-ops es (doing.Within n) k e = absurd (omega (arith, e))
zero-ops es (doing.Again x p) k e = absurd (omega (arith, e))
zero-ops es (doing.Round p) k e = absurd (omega (arith, e))
zero-ops es (doing.Body p) k e = absurd (omega (arith, e))
zero-ops es (doing.Store o i) k e = refl
zero-ops es doing.Absent k e = refl
zero-ops es (doing.Left fl) k e = absurd (omega (arith, e))
zero-ops es (doing.Call f) k e = absurd (omega (arith, e))
zero-ops es doing.Evaluate k e = ap (λ n. if nat_eq n 0 then 4 * k + 4 else 0) e
zero-ops es doing.Evaluated k e = absurd (omega (arith, e))

evaluate-ops : (es : List Started) (k : ℕ) → doing_ops es doing.Evaluate k ≤ 4 * k + 4
evaluate-ops es k = by-bool (nat_eq (due_turns es) 0) where
  by-bool : (q : Bool) → (if q then 4 * k + 4 else 0) ≤ 4 * k + 4
  by-bool true = omega (arith)
  by-bool false = omega (arith)

pub quick-ops : (es : List Started) (w : Way) (k : ℕ) → Quick es w → way_ops es w k < 4 * k + 5
quick-ops es (way.Do (doing.Within n)) k h = absurd h
quick-ops es (way.Do (doing.Again x p)) k h = omega (arith)
quick-ops es (way.Do (doing.Round p)) k h = omega (arith)
quick-ops es (way.Do (doing.Body p)) k h = omega (arith)
quick-ops es (way.Do (doing.Enter n)) k h = omega (arith)
quick-ops es (way.Do (doing.Jump n l i)) k h = omega (arith)
quick-ops es (way.Do (doing.Statements l i)) k h = omega (arith)
quick-ops es (way.Do (doing.Store o i)) k h = omega (arith)
quick-ops es (way.Do doing.Absent) k h = omega (arith)
quick-ops es (way.Do (doing.Left fl)) k h = omega (arith)
quick-ops es (way.Do (doing.Call f)) k h = omega (arith)
quick-ops es (way.Do doing.Evaluate) k h = let x = evaluate-ops es k in omega (arith, x)
quick-ops es (way.Do doing.Evaluated) k h = omega (arith)
quick-ops es (way.With t d) k h = let x = zero-ops es d (k + 1) h in omega (arith, x)

ends-now-ops : (es : List Started) (d : Doing) (k : ℕ) → EndsNow es d → doing_ops es d k < 4 * k + 2
ends-now-ops es (doing.Enter n) k h = omega (arith)
ends-now-ops es (doing.Jump n l i) k h = omega (arith)
ends-now-ops es (doing.Statements l i) k h = absurd h
ends-now-ops es (doing.Within n) k h = absurd h
ends-now-ops es (doing.Again x p) k h = absurd h
ends-now-ops es (doing.Round p) k h = absurd h
ends-now-ops es (doing.Body p) k h = absurd h
ends-now-ops es (doing.Store o i) k h = omega (arith)
ends-now-ops es doing.Absent k h = omega (arith)
ends-now-ops es (doing.Left fl) k h = omega (arith)
ends-now-ops es (doing.Call f) k h = absurd h
ends-now-ops es doing.Evaluate k h = let x = zero-ops es doing.Evaluate k h in omega (arith, x)
ends-now-ops es doing.Evaluated k h = omega (arith)

ends-ops : (es : List Started) (w : Way) (k : ℕ) → Ends es w → way_ops es w k < 4 * k + 2
ends-ops es (way.Do d) k h = ends-now-ops es d k h
ends-ops es (way.With t d) k h = let x = zero-ops es d (k + 1) h in omega (arith, x)

within-ops : (es : List Started) (w : Way) (k : ℕ) → WithinNow es w → way_ops es w k < 4 * k + 7
within-ops es (way.Do d) k h = let x = ends-now-ops es d k h in omega (arith, x)
within-ops es (way.With t (doing.Statements l i)) k h = omega (arith)
within-ops es (way.With t (doing.Enter n)) k h = absurd h
within-ops es (way.With t (doing.Jump n l i)) k h = absurd h
within-ops es (way.With t (doing.Within n)) k h = absurd h
within-ops es (way.With t (doing.Again x p)) k h = absurd h
within-ops es (way.With t (doing.Round p)) k h = absurd h
within-ops es (way.With t (doing.Body p)) k h = absurd h
within-ops es (way.With t (doing.Store o i)) k h = absurd h
within-ops es (way.With t doing.Absent) k h = absurd h
within-ops es (way.With t (doing.Left fl)) k h = absurd h
within-ops es (way.With t (doing.Call f)) k h = absurd h
within-ops es (way.With t doing.Evaluate) k h = absurd h
within-ops es (way.With t doing.Evaluated) k h = absurd h

pub pace-ops : (old es : List Started) (d : Doing) (w : Way) (k : ℕ) → goes_on d ≡ true → due old d ≡ 0 → PaceOr old d es (Ok w) → way_ops es w k < doing_ops old d k
pace-ops old es (doing.Enter n) w k g z h = absurd (omega (arith, z))
pace-ops old es (doing.Jump n l i) w k g z h = absurd (omega (arith, z))
pace-ops old es (doing.Statements l i) w k g z h = ends-ops es w k h
pace-ops old es (doing.Within n) w k g z h = within-ops es w k h
pace-ops old es (doing.Again x p) w k g z h = ends-ops es w k h
pace-ops old es (doing.Round p) w k g z h = ends-ops es w k h
pace-ops old es (doing.Body p) w k g z h = ends-ops es w k h
pace-ops old es (doing.Store o i) w k g z h = absurd (omega (arith, z))
pace-ops old es doing.Absent w k g z h = absurd (omega (arith, z))
pace-ops old es (doing.Left fl) w k g z h = absurd (cc)
pace-ops old es (doing.Call f) w k g z h = ends-ops es w k h
pace-ops old es doing.Evaluate w k g z h =
    let x = ends-ops es w k h in
    let y : doing_ops old doing.Evaluate k ≡ 4 * k + 4 = ap (λ n. if nat_eq n 0 then 4 * k + 4 else 0) z in
    omega (arith, x, y)
pace-ops old es doing.Evaluated w k g z h = absurd (cc)

-- the same of what was followed
pub quick-pace : (es : List Started) (r : Result Way Failure) (d : Doing) (k j : ℕ) → QuickOr es r → FollowedPace es r k (Ok d) j → doing_ops es d j < 4 * k + 5
quick-pace es (Ok w) d k j q e = let x = quick-ops es w k q in omega (arith, x, e)
quick-pace es (Err x) d k j q e = absurd e

pub goes-pace : (old es : List Started) (d : Doing) (r : Result Way Failure) (n : Doing) (k j : ℕ) → goes_on d ≡ true → due old d ≡ 0 → PaceOr old d es r → FollowedPace es r k (Ok n) j → doing_ops es n j < doing_ops old d k
goes-pace old es d (Ok w) n k j g z p e = let x = pace-ops old es d w k g z p in omega (arith, x, e)
goes-pace old es d (Err x) n k j g z p e = absurd e

-- what was followed
pub runs-on : (u : Stored) (ts : List Task) (es : List Started) (r : Result Doing Failure) (d : Doing) → r ≡ Ok d → RunsOr u ts es r → Runs u ts es d
runs-on u ts es r d e h = subst (RunsOr u ts es) e h

pub pace-on : (es : List Started) (w : Result Way Failure) (k j : ℕ) (r : Result Doing Failure) (d : Doing) → r ≡ Ok d → FollowedPace es w k r j → FollowedPace es w k (Ok d) j
pace-on es w k j r d e h = subst (λ (q : Result Doing Failure). FollowedPace es w k q j) e h

-- a way is followed
pub followed-pace : (es : List Started) (w : Way) (r : Result Doing Failure) (k j : ℕ) → IfOk r (λ (d : Doing). doing_ops es d j ≡ way_ops es w k) → FollowedPace es (Ok w) k r j
followed-pace es w (Ok d) k j h = h
followed-pace es w (Err e) k j h = tt

-- what was followed was no failure
pub fit-on : (es : List Started) (w : Result Way Failure) (d : Doing) (k j : ℕ) (P : Type 0) → FollowedPace es w k (Ok d) j → OnOk w P → P
fit-on es (Ok x) d k j P e h = h
fit-on es (Err x) d k j P e h = absurd e

-- neither the end of a statement nor that of an expression
pub goes-by : (d : Doing) → ((fl : Flow) → d ≡ doing.Left fl → ⊥) → (d ≡ doing.Evaluated → ⊥) → goes_on d ≡ true
goes-by (doing.Enter n) l e = refl
goes-by (doing.Jump n l i) f e = refl
goes-by (doing.Statements l i) f e = refl
goes-by (doing.Within n) l e = refl
goes-by (doing.Again x p) l e = refl
goes-by (doing.Round p) l e = refl
goes-by (doing.Body p) l e = refl
goes-by (doing.Store o i) l e = refl
goes-by doing.Absent l e = refl
goes-by (doing.Call f) l e = refl
goes-by doing.Evaluate l e = refl
goes-by (doing.Left fl) l e = absurd (l fl refl)
goes-by doing.Evaluated l e = absurd (e refl)
