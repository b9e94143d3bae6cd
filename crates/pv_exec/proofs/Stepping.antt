-- What steps of expressions lead to.
use Rattle.std.proofs.Common.{◌≡◌, ℕ, ◌+◌, ◌<◌, List, [], ◌∷◌, refl, sym, ap, ◌∙◌, subst, arith, true}
use Rattle.std.specs.Prelude.{Bool, Result, Ok, Err, if◌then◌else◌}
use Rattle.pv_typed.specs.Tables.{Stored}
use Rattle.pv_eval.specs.Machines.{left_of, answered_of, given_by, ended_value, is_due, due_turns, after_first, asked_arguments, asked_line}
use Rattle.pv_eval.specs.MachineSteps.{Stepped}
use Rattle.pv_eval.specs.Sequenced.{Given}
use Rattle.pv_eval.specs.States.{Setting, State, Res, Gives, then_do}
use Rattle.pv_exec.specs.OfRuns.{below}
use Rattle.pv_eval.specs.declared.failure.Failure.{Failure}
use Rattle.pv_eval.specs.declared.failure.Failure.TheVariants as failure
use Rattle.pv_eval.specs.Machines.{Started}
use Rattle.pv_eval.specs.declared.frames.Step.TheVariants as step
use Rattle.pv_exec.specs.declared.task.Doing.TheVariants as doing
use Rattle.pv_exec.specs.declared.task.Way.{Way}
use Rattle.pv_exec.specs.declared.task.Way.TheVariants as way
use Rattle.pv_exec.specs.Tasks.{Reached, Valued}
use Rattle.pv_exec.specs.Works.{does}
use Rattle.pv_exec.specs.Leading.{Leads, LeadsOr}
use Rattle.pv_exec.proofs.Loops.{leads-do}

abbrev value_of : Res Given → Res Reached
value_of r = then_do r (λ g s. Gives (Valued g.value) s)

pub went-on : (b : Setting) (u : Stored) (k : ℕ) (old new : List Started) (s s' : State) → b.bound < s'.taken + k → is_due new ≡ true → after_first new ≡ after_first old → Stepped b (below b k).call u (left_of b (below b k).call u old s) (Ok step.More) new s' → Leads b u (does b u k old doing.Evaluate s) (after_first old) (way.Do doing.Evaluate) new s'
unfolding does
went-on b u k old new s s' lt d o h =
    let one : due_turns new ≡ 1 = ap (λ (q : Bool). if q then 1 else 0) d in
    leads-do b u k _ new doing.Evaluate s' (omega (arith, lt, one)) (ap value_of h) (after_first old) o

given-ended : (es : List Started) → (given_by es).value ≡ ended_value es
given-ended [] = refl
given-ended (e ∷ es) = refl

pub went-done : (b : Setting) (u : Stored) (k : ℕ) (old new : List Started) (s s' : State) → b.bound < s'.taken + k → after_first new ≡ after_first old → Stepped b (below b k).call u (left_of b (below b k).call u old s) (Ok step.Done) new s' → Leads b u (does b u k old doing.Evaluate s) (after_first old) (way.Do doing.Evaluated) new s'
unfolding does
went-done b u k old new s s' lt o h =
    leads-do b u k _ new doing.Evaluated s' (omega (arith, lt)) (ap value_of h ∙ ap (λ v. Gives (Valued v) s') (given-ended new)) (after_first old) o

pub went-call : (b : Setting) (u : Stored) (k f : ℕ) (old new last : List Started) (r : Result Way Failure) (s s' s'' : State) → after_first new ≡ after_first old → Stepped b (below b k).call u (left_of b (below b k).call u old s) (Ok (step.Call f)) new s' → LeadsOr b u (value_of (then_do ((below b k).call f (asked_arguments new) (asked_line new) s') (answered_of b (below b k).call u new))) (after_first new) r last s'' → LeadsOr b u (does b u k old doing.Evaluate s) (after_first old) r last s''
unfolding does
went-call b u k f old new last r s s' s'' o h l =
    subst (λ m. LeadsOr b u m (after_first old) r last s'') (sym (ap value_of h)) (subst (λ x. LeadsOr b u (value_of (then_do ((below b k).call f (asked_arguments new) (asked_line new) s') (answered_of b (below b k).call u new))) x r last s'') o l)

pub went-out : (b : Setting) (u : Stored) (k : ℕ) (old new : List Started) (e : Failure) (s s' : State) → Stepped b (below b k).call u (left_of b (below b k).call u old s) (Err e) new s' → LeadsOr b u (does b u k old doing.Evaluate s) (after_first old) (Err e) new s'
unfolding does
went-out b u k old new failure.NoMemory s s' h = tt
went-out b u k old new (failure.Stop y line) s s' h = ap value_of h

pub may-turn : (b : Setting) (es : List Started) (P : Type 0) → (due_turns es ≡ 1 → P) → is_due es ≡ true → P
may-turn b es P h e = h (ap (λ (q : Bool). if q then 1 else 0) e)
