-- Tasks come and go: the levels.
use Rattle.std.proofs.Common.{◌≡◌, ℕ, ◌+◌, ◌<◌, ◌≤◌, List, [], ◌∷◌, ◌++◌, zero, suc, refl, sym, ap, ◌∙◌, subst, arith}
use Rattle.std.specs.Prelude.{Bool, true, false, if◌then◌else◌, reverse, map, All, Result, Ok, Err}
use Rattle.std.proofs.lemmas.List.{reverse-append}
use Rattle.std.proofs.lemmas.List.Elements.{All-weaker}
use Rattle.pv_typed.specs.Tables.{Stored}
use Rattle.pv_eval.specs.Machines.{ended_value, is_due}
use Rattle.pv_eval.specs.States.{Setting, State, Res, Gives, then_do}
use Rattle.pv_eval.specs.Stack.{rest}
use Rattle.pv_eval.specs.Machines.{Started}
use Rattle.pv_exec.specs.declared.task.Task.{Task}
use Rattle.pv_exec.specs.declared.task.Doing.{Doing}
use Rattle.pv_exec.specs.declared.task.Way.{Way}
use Rattle.pv_exec.specs.declared.task.Way.TheVariants as way
use Rattle.pv_exec.specs.declared.task.Doing.TheVariants as doing
use Rattle.pv_exec.specs.declared.task.Flow.{Flow}
use Rattle.pv_exec.specs.declared.once.After.TheVariants as after
use Rattle.pv_eval.specs.declared.failure.Failure.{Failure}
use Rattle.pv_eval.specs.declared.failure.Failure.TheVariants as failure
use Rattle.pv_exec.specs.Tasks.{Reached, Left, Valued, after_task}
use Rattle.pv_exec.specs.Works.{does, due, others, behind_call, Work, after_work, Standing, Holds, flow_of}
use Rattle.pv_exec.specs.Leading.{Leads, Waits, Popped, HoldsAfter, FollowedOr, Operates, LeadsOr}
use Rattle.pv_exec.proofs.Pieces.{then-then}

-- followed with no new task
pub followed-do : (b : Setting) (u : Stored) (all next : Res Reached) (tasks : List Task) (stand es : List Started) (d : Doing) (s : State) → Waits b u all tasks stand next s → Leads b u next stand (way.Do d) es s → Holds b u all tasks es d s
followed-do b u all next tasks stand es d s h l = record {
  works = h.works;
  level = l.level;
  same = h.same;
  standing = subst (Standing h.works) (sym l.stands) h.standing;
  law = h.law ∙ ap (λ m. then_do m (rest (after_work b u) h.works)) l.law;
  rooms = All-weaker (λ (w : Work). b.bound < s.taken + w.level) (λ (w : Work). b.bound < s.taken + w.level + due es d) (λ w lt. omega arith) h.works h.rooms;
  room = l.room;
  most = h.most;
}

all-cons : {X : Type 0} (P : X → Type 0) (x : X) (xs : List X) → P x → All P xs → All P (x ∷ xs)
all-cons P x xs p ps zero d lt = p
all-cons P x xs p ps (suc k) d lt = ps k d (omega arith)

all-first : {X : Type 0} (P : X → Type 0) (x : X) (xs : List X) → All P (x ∷ xs) → P x
all-first P x xs h = h zero x (omega arith)

all-rest : {X : Type 0} (P : X → Type 0) (x : X) (xs : List X) → All P (x ∷ xs) → All P xs
all-rest P x xs h k d lt = h (suc k) d (omega arith)

-- followed, and a task waits
pub followed-with : (b : Setting) (u : Stored) (all next : Res Reached) (tasks : List Task) (stand es : List Started) (t : Task) (d : Doing) (s : State) → Waits b u all tasks stand next s → Leads b u next stand (way.With t d) es s → Holds b u all (tasks ++ t ∷ []) es d s
unfolding after_work
followed-with b u all next tasks stand es t d s h l =
    let w : Work = record { level = l.waits; task = t; waiting = others es d } in
    record {
      works = w ∷ h.works;
      level = l.level;
      same = ap (λ ts. t ∷ ts) h.same ∙ sym (reverse-append tasks (t ∷ []));
      standing = (refl, subst (Standing h.works) (sym l.stands) h.standing);
      law = h.law ∙ ap (λ m. then_do m (rest (after_work b u) h.works)) l.law ∙ sym (then-then (does b u l.level es d s) (after_task b u l.waits (others es d) t) (rest (after_work b u) h.works));
      rooms = all-cons (λ (w : Work). b.bound < s.taken + w.level + due es d) w h.works l.room_waits (All-weaker (λ (w : Work). b.bound < s.taken + w.level) (λ (w : Work). b.bound < s.taken + w.level + due es d) (λ w lt. omega arith) h.works h.rooms);
      room = l.room;
      most = h.most;
    }

-- an operation, where what is done was known
pub waiting : (b : Setting) (u : Stored) (all : Res Reached) (tasks : List Task) (es : List Started) (d : Doing) (s s' : State) (h : Holds b u all tasks es d s) → s'.taken ≡ s.taken + due es d → s'.taken ≤ b.bound → Waits b u all tasks (others es d) (does b u h.level es d s) s'
waiting b u all tasks es d s s' h e le = record {
  works = h.works;
  same = h.same;
  standing = h.standing;
  law = h.law;
  rooms = All-weaker (λ (w : Work). b.bound < s.taken + w.level + due es d) (λ (w : Work). b.bound < s'.taken + w.level) (λ w lt. omega (arith, e, lt)) h.works h.rooms;
  most = le;
}

-- the last task is reached
pub popped : (b : Setting) (u : Stored) (all : Res Reached) (tasks ts : List Task) (t : Task) (es : List Started) (d : Doing) (r : Reached) (s : State) → tasks ≡ ts ++ t ∷ [] → due es d ≡ 0 → ((k : ℕ) → does b u k es d s ≡ Gives r s) → Holds b u all tasks es d s → Popped b u all ts t (others es d) r s
unfolding after_work
popped b u all tasks ts t es d r s e z is h =
    popped-of h.works (h.same ∙ ap reverse e ∙ reverse-append ts (t ∷ [])) h.standing (h.law ∙ ap (λ m. then_do m (rest (after_work b u) h.works)) (is h.level)) h.rooms where
      popped-of : (ws : List Work) → map (λ (w : Work). w.task) ws ≡ t ∷ reverse ts → Standing ws (others es d) → all ≡ rest (after_work b u) ws r s → All (λ (w : Work). b.bound < s.taken + w.level + due es d) ws → Popped b u all ts t (others es d) r s
      popped-of [] e st law rooms = absurd (cc)
      popped-of (w ∷ ws) e st law rooms =
          let one : w.task ≡ t = cc in
          let two : map (λ (w : Work). w.task) ws ≡ reverse ts = cc in
          let room = all-first (λ (w : Work). b.bound < s.taken + w.level + due es d) w ws rooms in
          record {
            level = w.level;
            room = omega (arith, room, z);
            waits = record {
              works = ws;
              same = two;
              standing = subst (λ x. Standing ws (behind_call x (others es d))) one st.1;
              law = law ∙ ap (λ x. then_do (after_task b u w.level x w.task r s) (rest (after_work b u) ws)) st.0 ∙ ap (λ x. then_do (after_task b u w.level (others es d) x r s) (rest (after_work b u) ws)) one;
              rooms = All-weaker (λ (w : Work). b.bound < s.taken + w.level + due es d) (λ (w : Work). b.bound < s.taken + w.level) (λ w lt. omega (arith, lt, z)) ws (all-rest (λ (w : Work). b.bound < s.taken + w.level + due es d) w ws rooms);
              most = h.most;
            };
          }

pub no-works : (ws : List Work) → map (λ (w : Work). w.task) ws ≡ [] → ws ≡ []
no-works [] e = refl
no-works (w ∷ ws) e = absurd (cc)

pub ends-here : (b : Setting) (u : Stored) (all : Res Reached) (tasks : List Task) (es : List Started) (d : Doing) (r : Reached) (s : State) → tasks ≡ [] → ((k : ℕ) → does b u k es d s ≡ Gives r s) → Holds b u all tasks es d s → all ≡ Gives r s
ends-here b u all tasks es d r s e is h =
    h.law ∙ ap (λ ws. then_do (does b u h.level es d s) (rest (after_work b u) ws)) (no-works h.works (h.same ∙ ap reverse e)) ∙ ap (λ m. then_do m (λ r s. Gives r s)) (is h.level)

pub left-does : (b : Setting) (u : Stored) (k : ℕ) (es : List Started) (fl : Flow) (s : State) → does b u k es (doing.Left fl) s ≡ Gives (Left (flow_of fl)) s
unfolding does
left-does b u k es fl s = refl

pub value-does : (b : Setting) (u : Stored) (k : ℕ) (es : List Started) (s : State) → does b u k es doing.Evaluated s ≡ Gives (Valued (ended_value es)) s
unfolding does
value-does b u k es s = refl

-- what was followed is what is done after the operation
pub followed-on : (b : Setting) (u : Stored) (all : Res Reached) (r : Result Doing Failure) (d : Doing) (ts : List Task) (es : List Started) (s : State) → r ≡ Ok d → FollowedOr b u all r ts es s → HoldsAfter b u all (Ok (after.On d)) ts es s
followed-on b u all r d ts es s e h = subst (λ q. FollowedOr b u all q ts es s) e h

pub followed-out : (b : Setting) (u : Stored) (all : Res Reached) (r : Result Doing Failure) (x : Failure) (ts : List Task) (es : List Started) (s : State) → r ≡ Err x → FollowedOr b u all r ts es s → HoldsAfter b u all (Err x) ts es s
followed-out b u all r failure.NoMemory ts es s e h = tt
followed-out b u all r (failure.Stop y line) ts es s e h = subst (λ q. FollowedOr b u all q ts es s) e h

-- where the popped task leads: its works wait in the state after the operation
pub at-state : (b : Setting) (u : Stored) (all : Res Reached) (ts : List Task) (stand : List Started) (next : Res Reached) (s s' : State) → s'.taken ≡ s.taken → Waits b u all ts stand next s → Waits b u all ts stand next s'
at-state b u all ts stand next s s' e h = record {
  works = h.works;
  same = h.same;
  standing = h.standing;
  law = h.law;
  rooms = All-weaker (λ (w : Work). b.bound < s.taken + w.level) (λ (w : Work). b.bound < s'.taken + w.level) (λ w lt. omega (arith, lt, e)) h.works h.rooms;
  most = omega (arith, e, h.most);
}

pub due-two : (b : Setting) (es : List Started) (d : Doing) (s : State) → s.taken ≤ b.bound → (due es d ≡ 1 → s.taken < b.bound) → s.taken + due es d ≤ b.bound
due-two b es (doing.Enter n) s le h = let x = h refl in omega (arith, x)
due-two b es (doing.Jump n l i) s le h = let x = h refl in omega (arith, x)
due-two b es (doing.Statements l i) s le h = omega (arith, le)
due-two b es (doing.Within n) s le h = omega (arith, le)
due-two b es (doing.Again x p) s le h = omega (arith, le)
due-two b es (doing.Round p) s le h = omega (arith, le)
due-two b es (doing.Body p) s le h = omega (arith, le)
due-two b es (doing.Store o i) s le h = let x = h refl in omega (arith, x)
due-two b es doing.Absent s le h = let x = h refl in omega (arith, x)
due-two b es (doing.Left fl) s le h = omega (arith, le)
due-two b es (doing.Call f) s le h = omega (arith, le)
due-two b es doing.Evaluate s le h = by-bool (is_due es) (λ e. h (ap (λ (q : Bool). if q then 1 else 0) e)) where
  by-bool : (q : Bool) → (q ≡ true → s.taken < b.bound) → s.taken + (if q then 1 else 0) ≤ b.bound
  by-bool true g = let x = g refl in omega (arith, x)
  by-bool false g = omega (arith, le)
due-two b es doing.Evaluated s le h = omega (arith, le)

-- an operation that is no end of a statement or expression
pub operated : (b : Setting) (u : Stored) (all : Res Reached) (tasks : List Task) (es : List Started) (d : Doing) (s s' : State) (r : Result Way Failure) (new : List Started) (P : Type 0) → (h : Holds b u all tasks es d s) → s'.taken ≡ s.taken + due es d → (due es d ≡ 1 → s.taken < b.bound) → Operates b u es d r new s s' → ((next : Res Reached) → Waits b u all tasks (others es d) next s' → LeadsOr b u next (others es d) r new s' → P) → P
operated b u all tasks es d s s' r new P h e lt o f =
    let most = due-two b es d s h.most lt in
    f (does b u h.level es d s) (waiting b u all tasks es d s s' h e (omega (arith, e, most))) (o h.level h.most lt h.room)
