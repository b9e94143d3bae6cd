-- At each moment of a run what was printed and told so far is a first part of what the whole run prints and tells.
use Rattle.std.proofs.Common.{ℕ, List, [], sym, subst, arith}
use Rattle.pv_typed.specs.Tables.{Stored}
use Rattle.pv_typed.specs.TypedUnits.{function_at}
use Rattle.pv_world.specs.Worlds.{Worth}
use Rattle.pv_eval.specs.States.{Setting, State, Res, Stops, Unreached, end_of}
use Rattle.pv_eval.proofs.Closed.{beside_setting}
use Rattle.pv_eval.specs.Stack.{rest}
use Rattle.pv_eval.specs.Machines.{Started}
use Rattle.pv_exec.specs.declared.task.Task.{Task}
use Rattle.pv_exec.specs.declared.task.Doing.{Doing}
use Rattle.pv_exec.specs.Tasks.{Reached}
use Rattle.pv_exec.specs.Works.{does, Work, after_work, Holds}
use Rattle.pv_exec.specs.OfRuns.{end_all, below}
use Rattle.pv_exec.specs.Running.{main_called, whole_run}
use Rattle.pv_exec.proofs.Executed.{Alike, end-way, body-closed, run-closed, even-closed}
use Rattle.pv_exec.proofs.Framed.{rest-closed}
use Rattle.pv_exec.proofs.Heading.{task-closed, does-closed}
use Rattle.pv_exec.proofs.Growing.{grew-refl, Grows, Growing, seq-grows, growing}

stop-grows : (k : ℕ) (A : Type 0) → Growing A (λ s. Stops Unreached s)
stop-grows k A s = grew-refl s.taken s (omega arith)

does-grow : (b : Setting) (u : Stored) (k : ℕ) (es : List Started) (d : Doing) → Growing Reached (does b u k es d)
does-grow b u k es d = does-closed b b.bound b.sides (growing b).ways stop-grows u k es d

work-grows : (b : Setting) (u : Stored) (w : Work) (r : Reached) → Growing Reached (after_work b u w r)
unfolding after_work
work-grows b u w r = task-closed b b.bound b.sides (growing b).ways stop-grows u w.level w.waiting w.task r

works-grow : (b : Setting) (u : Stored) (works : List Work) (r : Reached) → Growing Reached (rest (after_work b u) works r)
works-grow b u works r = rest-closed (growing b).ways {k = 0} (after_work b u) (after_work b u) (work-grows b u) works r

-- what is to come only adds
pub holds-grow : (b : Setting) (u : Stored) (all : Res Reached) (tasks : List Task) (es : List Started) (d : Doing) (s : State) → Holds b u all tasks es d s → Grows s (end_of all)
holds-grow b u all tasks es d s h =
    subst (λ (r : Res Reached). Grows s (end_of r)) (sym h.law)
    (seq-grows s (does b u h.level es d s) (rest (after_work b u) h.works) (does-grow b u h.level es d s) (λ r. works-grow b u h.works r))

-- the same of whole calls, and of the whole run
abbrev pub second : Setting → Setting
second b = beside_setting b b.bound b.sides

pub alike : (b : Setting) (k : ℕ) → Alike b b.bound b.sides (growing b).ways k (below b k) (below (second b) k)
alike b k = even-closed b b.bound b.sides (growing b).ways (stop-grows 0) k

pub ends-grow : (b : Setting) (os : List ℕ) → Growing Worth (end_all b os)
ends-grow b os = end-way b b.bound b.sides (growing b).ways {k = 0} os

pub main-grows : (b : Setting) (f : ℕ) → Growing Worth (main_called f b)
main-grows b f = body-closed b b.bound b.sides (growing b).ways b.bound (below b b.bound) (below (second b) b.bound) (alike b b.bound) (function_at b.unit f) [] (function_at b.unit f).line

pub run-grows : (b : Setting) → Growing Worth (whole_run b)
run-grows b = run-closed b b.bound b.sides (growing b) b.bound (alike b b.bound)
