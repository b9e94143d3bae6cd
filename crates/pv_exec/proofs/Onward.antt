-- Where a list, and a `for` behind its declarations, go on.
use Rattle.std.proofs.Common.{◌≡◌, ℕ, ◌+◌, ◌<◌, List, Result, Ok, Err, refl, ap, sym, subst, arith}
use Rattle.pv_tree.specs.declared.nodes.NodeId.{NodeId}
use Rattle.pv_tree.specs.declared.nodes.ListId.{ListId}
use Rattle.pv_typed.specs.Tables.{Stored}
use Rattle.pv_typed.specs.NodeTrees.{statement_at}
use Rattle.pv_eval.specs.declared.failure.Failure.{Failure}
use Rattle.pv_eval.specs.States.{Setting, State, Res}
use Rattle.pv_eval.specs.Machines.{Started}
use Rattle.pv_exec.specs.declared.task.Task.TheVariants as task
use Rattle.pv_exec.specs.declared.task.Doing.{Doing}
use Rattle.pv_exec.specs.declared.task.Doing.TheVariants as doing
use Rattle.pv_exec.specs.declared.task.Way.{Way}
use Rattle.pv_exec.specs.declared.task.Way.TheVariants as way
use Rattle.pv_exec.specs.Flows.{Flow, Falls}
use Rattle.pv_exec.specs.OfRuns.{below}
use Rattle.pv_exec.specs.Parts.{loop_of, rounds}
use Rattle.pv_exec.specs.Tasks.{Reached, left_flow, after_flow}
use Rattle.pv_exec.specs.Works.{does, due, others}
use Rattle.pv_exec.specs.Leading.{Leads, LeadsOr}
use Rattle.pv_exec.specs.Quickness.{Quick, QuickOr, Ends, EndsOr}

-- behind a statement that falls, a list goes on
pub list-next : (b : Setting) (u : Stored) (k : ℕ) (l : ListId) (i : ℕ) (fl : Flow) (r : Result Way Failure) (es fs : List Started) (s z : State) → fl ≡ Falls → LeadsOr b u (does b u k es (doing.Statements l i) s) es r fs z → LeadsOr b u (after_flow b u k es (task.InList l i) fl s) es r fs z
unfolding after_flow does
list-next b u k l i fl r es fs s z e h = subst (λ (x : Flow). LeadsOr b u (after_flow b u k es (task.InList l i) x s) es r fs z) (sym e) h

-- what comes to an end, or to a turn, does so at once
ends-quick : (es : List Started) (w : Way) → Ends es w → Quick es w
ends-quick es (way.Do (doing.Enter n)) e = tt
ends-quick es (way.Do (doing.Jump n l i)) e = tt
ends-quick es (way.Do (doing.Statements l i)) e = tt
ends-quick es (way.Do (doing.Within n)) e = e
ends-quick es (way.Do (doing.Again x p)) e = tt
ends-quick es (way.Do (doing.Round p)) e = tt
ends-quick es (way.Do (doing.Body p)) e = tt
ends-quick es (way.Do (doing.Store o i)) e = tt
ends-quick es (way.Do doing.Absent) e = tt
ends-quick es (way.Do (doing.Left fl)) e = tt
ends-quick es (way.Do (doing.Call f)) e = tt
ends-quick es (way.Do doing.Evaluate) e = tt
ends-quick es (way.Do doing.Evaluated) e = tt
ends-quick es (way.With t d) e = e

pub ends-quick-or : (es : List Started) (r : Result Way Failure) → EndsOr es r → QuickOr es r
ends-quick-or es (Ok w) e = ends-quick es w e
ends-quick-or es (Err x) e = tt

-- what is done next leads on
pub leads-then : (b : Setting) (u : Stored) (all : Res Reached) (stand es fs : List Started) (d : Doing) (r : Result Way Failure) (s s' : State) → Leads b u all stand (way.Do d) es s
    → ((k : ℕ) → b.bound < s.taken + k + due es d → LeadsOr b u (does b u k es d s) (others es d) r fs s') → LeadsOr b u all stand r fs s'
leads-then b u all stand es fs d r s s' l h =
    subst (λ (m : Res Reached). LeadsOr b u m stand r fs s') (sym l.law)
    (subst (λ (xs : List Started). LeadsOr b u (does b u l.level es d s) xs r fs s') l.stands (h l.level l.room))

pub declared-goes : (b : Setting) (u : Stored) (k : ℕ) (n : NodeId) (fl : Flow) (es : List Started) (s : State) → fl ≡ Falls → after_flow b u k es (task.Declared n) fl s ≡ left_flow (rounds b (below b k) (loop_of (statement_at u n)) s)
unfolding after_flow
declared-goes b u k n fl es s e = ap (λ x. after_flow b u k es (task.Declared n) x s) e
