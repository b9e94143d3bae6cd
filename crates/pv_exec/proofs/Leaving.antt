-- Ends of statements, in whatever way an operation comes to them.
use Rattle.std.proofs.Common.{◌≡◌, ℕ, ◌+◌, ◌<◌, List, [], ◌∷◌, refl, sym, subst, arith}
use Rattle.std.specs.Prelude.{Result, Ok, Err, IfOk, length}
use Rattle.pv_typed.specs.Tables.{Stored}
use Rattle.pv_eval.specs.declared.failure.Failure.{Failure}
use Rattle.pv_eval.specs.declared.failure.Failure.TheVariants as failure
use Rattle.pv_eval.specs.declared.marked.Marked.{Marked}
use Rattle.pv_eval.specs.States.{Setting, State, Res, Gives}
use Rattle.pv_eval.specs.Moments.{Moment, state_of, IsMemory}
use Rattle.pv_world.specs.declared.got.Got.{Got}
use Rattle.pv_eval.specs.Machines.{Started, after_first}
use Rattle.pv_eval.specs.MachineSteps.{Fit, IsOpen}
use Rattle.pv_exec.specs.declared.task.Flow.{Flow}
use Rattle.pv_exec.specs.declared.task.Flow.TheVariants as flow
use Rattle.pv_exec.specs.declared.task.Doing.TheVariants as doing
use Rattle.pv_exec.specs.declared.task.Way.{Way}
use Rattle.pv_exec.specs.declared.task.Way.TheVariants as way
use Rattle.pv_exec.specs.Tasks.{Reached, Left}
use Rattle.pv_exec.specs.Works.{flow_of, does}
use Rattle.pv_exec.specs.Leading.{Leads, LeadsOr}

-- what comes to this end
pub leaves-at : (b : Setting) (u : Stored) (k : ℕ) (all : Res Reached) (fl : Flow) (stand new : List Started) (s : State) → b.bound < s.taken + k → all ≡ Gives (Left (flow_of fl)) s → new ≡ stand → Leads b u all stand (way.Do (doing.Left fl)) new s
unfolding does
leaves-at b u k all fl stand new s lt e n = record { waits = k; level = k; law = e; stands = n; room_waits = omega (arith, lt); room = omega (arith, lt) }

-- the same where the moment stayed
pub leaves-here : (b : Setting) (u : Stored) (k : ℕ) (all : State → Res Reached) (fl : Flow) (stand new : List Started) (m n : Moment) (out : List ℕ) (es : List Marked) → b.bound < m.taken + k → ((s : State) → all s ≡ Gives (Left (flow_of fl)) s) → n ≡ m → new ≡ stand → Leads b u (all (state_of m out es)) stand (way.Do (doing.Left fl)) new (state_of n out es)
leaves-here b u k all fl stand new m n out es lt e same st =
    subst (λ (x : Moment). Leads b u (all (state_of m out es)) stand (way.Do (doing.Left fl)) new (state_of x out es)) (sym same)
    (leaves-at b u k (all (state_of m out es)) fl stand new (state_of m out es) lt (e (state_of m out es)) st)

-- moment and expressions stayed
pub at-both : (b : Setting) (u : Stored) (all : Res Reached) (stand first es : List Started) (r : Result Way Failure) (m n : Moment) (out : List ℕ) (marks : List Marked) → n ≡ m → first ≡ stand → LeadsOr b u all first r es (state_of m out marks) → LeadsOr b u all stand r es (state_of n out marks)
at-both b u all stand first es r m n out marks e f h =
    subst (λ (x : Moment). LeadsOr b u all stand r es (state_of x out marks)) (sym e) (subst (λ (x : List Started). LeadsOr b u all x r es (state_of m out marks)) f h)

-- the moment stayed at the last step
pub at-moment : (b : Setting) (u : Stored) (all : Res Reached) (stand es : List Started) (w : Way) (m n : Moment) (out : List ℕ) (marks : List Marked) → n ≡ m → Leads b u all stand w es (state_of m out marks) → Leads b u all stand w es (state_of n out marks)
at-moment b u all stand es w m n out marks e h = subst (λ (x : Moment). Leads b u all stand w es (state_of x out marks)) (sym e) h

-- what has just ended
pub left-again : (b : Setting) (u : Stored) (k : ℕ) (fl : Flow) (es : List Started) (s : State) → b.bound < s.taken + k → Leads b u (does b u k es (doing.Left fl) s) es (way.Do (doing.Left fl)) es s
left-again b u k fl es s lt = record { waits = k; level = k; law = refl; stands = refl; room_waits = omega (arith, lt); room = omega (arith, lt) }

pub value-again : (b : Setting) (u : Stored) (k : ℕ) (es : List Started) (s : State) → b.bound < s.taken + k → Leads b u (does b u k es doing.Evaluated s) (after_first es) (way.Do doing.Evaluated) es s
value-again b u k es s lt = record { waits = k; level = k; law = refl; stands = refl; room_waits = omega (arith, lt); room = omega (arith, lt) }

-- an expression that waits has its accesses
pub open-there : (u : Stored) (es : List Started) → Fit u es → 0 < length es → IsOpen es
open-there u [] h lt = absurd (omega (arith, lt))
open-there u (e ∷ es) h lt = h.0.matched

-- the same where a value is kept, if there is memory for it
pub leaves-with : (b : Setting) (u : Stored) (k : ℕ) (all : Res Reached) (v : Got) (r : Result Way Failure) (stand new : List Started) (s : State) → b.bound < s.taken + k → all ≡ Gives (Left (flow_of (flow.Returns v))) s → new ≡ stand
    → IfOk r (λ w. w ≡ way.Do (doing.Left (flow.Returns v))) → IsMemory r → LeadsOr b u all stand r new s
leaves-with b u k all v (Ok w) stand new s lt e n is h = subst (λ (w : Way). Leads b u all stand w new s) (sym is) (leaves-at b u k all (flow.Returns v) stand new s lt e n)
leaves-with b u k all v (Err failure.NoMemory) stand new s lt e n is h = tt
leaves-with b u k all v (Err (failure.Stop y line)) stand new s lt e n is h = absurd h
