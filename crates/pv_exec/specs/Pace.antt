-- A bridge: how many operations may come before the next turn (C17 5.1.2.3p1): the measure by which the code's loop comes to it.
use Rattle.std.specs.Prelude.{◌≡◌, ℕ, ◌+◌, ◌*◌, ◌<◌, Bool, true, false, List, length, Result, Ok, Err, nat_eq, if◌then◌else◌}
use Rattle.pv_eval.specs.declared.failure.Failure.{Failure}
use Rattle.pv_eval.specs.Machines.{Started, due_turns}
use Rattle.pv_exec.specs.declared.once.After.{After}
use Rattle.pv_exec.specs.declared.once.After.TheVariants as after
use Rattle.pv_exec.specs.declared.task.Task.{Task}
use Rattle.pv_exec.specs.declared.task.Doing.{Doing}
use Rattle.pv_exec.specs.declared.task.Doing.TheVariants as doing
use Rattle.pv_exec.specs.declared.task.Way.{Way}
use Rattle.pv_exec.specs.declared.task.Way.TheVariants as way

-- what has not just ended a statement (6.8p2) or an expression (6.8p4)
abbrev pub goes_on : Doing → Bool
goes_on (doing.Enter n) = true
goes_on (doing.Jump n l i) = true
goes_on (doing.Statements l i) = true
goes_on (doing.Within n) = true
goes_on (doing.Again x p) = true
goes_on (doing.Round p) = true
goes_on (doing.Body p) = true
goes_on (doing.Store o i) = true
goes_on doing.Absent = true
goes_on (doing.Call f) = true
goes_on doing.Evaluate = true
goes_on (doing.Left fl) = false
goes_on doing.Evaluated = false

-- how many operations come before the next turn at most, with so many tasks that wait
abbrev pub doing_ops : List Started → Doing → ℕ → ℕ
doing_ops es (doing.Enter n) k = 0
doing_ops es (doing.Jump n l i) k = 0
doing_ops es (doing.Statements l i) k = 4 * k + 2
doing_ops es (doing.Within n) k = 4 * k + 7
doing_ops es (doing.Again x p) k = 4 * k + 2
doing_ops es (doing.Round p) k = 4 * k + 2
doing_ops es (doing.Body p) k = 4 * k + 2
doing_ops es (doing.Store o i) k = 0
doing_ops es doing.Absent k = 0
doing_ops es (doing.Left fl) k = 4 * k + 1
doing_ops es (doing.Call f) k = 4 * k + 2
doing_ops es doing.Evaluate k = if nat_eq (due_turns es) 0 then 4 * k + 4 else 0
doing_ops es doing.Evaluated k = 4 * k + 1

-- the same of what an operation leads to
abbrev pub way_ops : List Started → Way → ℕ → ℕ
way_ops es (way.Do d) k = doing_ops es d k
way_ops es (way.With t d) k = doing_ops es d (k + 1)

-- the same operations are left once a way was followed
abbrev pub FollowedPace : List Started → Result Way Failure → ℕ → Result Doing Failure → ℕ → Type 0
FollowedPace es (Ok w) k (Ok d) j = doing_ops es d j ≡ way_ops es w k
FollowedPace es (Ok w) k (Err e) j = Unit {0}
FollowedPace es (Err x) k (Ok d) j = ⊥
FollowedPace es (Err x) k (Err e) j = Unit {0}

-- fewer operations are left
abbrev pub AfterPace : (before : ℕ) → Result After Failure → List Task → List Started → Type 0
AfterPace n (Ok (after.On d)) tasks es = doing_ops es d (length tasks) < n
AfterPace n (Ok (after.Last l)) tasks es = Unit {0}
AfterPace n (Err e) tasks es = Unit {0}
