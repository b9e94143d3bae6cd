-- A bridge: how soon an operation ends a statement or an expression, or comes to a turn (C17 5.1.2.3p1): for the code's loop over operations.
use Rattle.std.specs.Prelude.{◌≡◌, List, Result, Ok, Err}
use Rattle.pv_eval.specs.declared.failure.Failure.{Failure}
use Rattle.pv_eval.specs.Machines.{Started, due_turns}
use Rattle.pv_exec.specs.declared.task.Doing.{Doing}
use Rattle.pv_exec.specs.declared.task.Doing.TheVariants as doing
use Rattle.pv_exec.specs.declared.task.Way.{Way}
use Rattle.pv_exec.specs.declared.task.Way.TheVariants as way
use Rattle.pv_exec.specs.Works.{due}

-- an operation that leads on at once comes to the end of a statement (6.8p2) or of an expression (6.8p4)
abbrev pub Quick : List Started → Way → Type 0
Quick es (way.Do (doing.Within n)) = ⊥
Quick es (way.Do (doing.Enter n)) = Unit {0}
Quick es (way.Do (doing.Jump n l i)) = Unit {0}
Quick es (way.Do (doing.Statements l i)) = Unit {0}
Quick es (way.Do (doing.Again x p)) = Unit {0}
Quick es (way.Do (doing.Round p)) = Unit {0}
Quick es (way.Do (doing.Body p)) = Unit {0}
Quick es (way.Do (doing.Store o i)) = Unit {0}
Quick es (way.Do doing.Absent) = Unit {0}
Quick es (way.Do (doing.Left fl)) = Unit {0}
Quick es (way.Do (doing.Call f)) = Unit {0}
Quick es (way.Do doing.Evaluate) = Unit {0}
Quick es (way.Do doing.Evaluated) = Unit {0}
Quick es (way.With t d) = due es d ≡ 1

-- the same, unless the run ended (as by undefined behaviour, 3.4.3)
abbrev pub QuickOr : List Started → Result Way Failure → Type 0
QuickOr es (Ok w) = Quick es w
QuickOr es (Err e) = Unit {0}

-- what is done next is the end of a statement (6.8p2) or of an expression (6.8p4), or takes a turn
abbrev pub EndsNow : List Started → Doing → Type 0
EndsNow es (doing.Enter n) = Unit {0}
EndsNow es (doing.Jump n l i) = Unit {0}
EndsNow es (doing.Statements l i) = ⊥
EndsNow es (doing.Within n) = ⊥
EndsNow es (doing.Again x p) = ⊥
EndsNow es (doing.Round p) = ⊥
EndsNow es (doing.Body p) = ⊥
EndsNow es (doing.Store o i) = Unit {0}
EndsNow es doing.Absent = Unit {0}
EndsNow es (doing.Left fl) = Unit {0}
EndsNow es (doing.Call f) = ⊥
EndsNow es doing.Evaluate = due_turns es ≡ 1
EndsNow es doing.Evaluated = Unit {0}

-- one that ends a statement (6.8p2) or an expression (6.8p4), or where a turn is due
abbrev pub Ends : List Started → Way → Type 0
Ends es (way.Do d) = EndsNow es d
Ends es (way.With t d) = due es d ≡ 1

-- the same, unless the run ended (as by undefined behaviour, 3.4.3)
abbrev pub EndsOr : List Started → Result Way Failure → Type 0
EndsOr es (Ok w) = Ends es w
EndsOr es (Err e) = Unit {0}

-- 6.8.5.3p1: the declarations of a `for` come before its first round
abbrev pub WithinNow : List Started → Way → Type 0
WithinNow es (way.Do d) = EndsNow es d
WithinNow es (way.With t (doing.Statements l i)) = Unit {0}
WithinNow es (way.With t d) = ⊥

-- 6.8.5.3p1: the same, unless the run ended
abbrev pub WithinOr : List Started → Result Way Failure → Type 0
WithinOr es (Ok w) = WithinNow es w
WithinOr es (Err e) = Unit {0}

-- how soon an operation ends, by what it is an operation of (6.8): what takes a turn is not asked
abbrev pub PaceOr : (old : List Started) → Doing → List Started → Result Way Failure → Type 0
PaceOr old (doing.Statements l i) es r = EndsOr es r
PaceOr old (doing.Within n) es r = WithinOr es r
PaceOr old (doing.Call f) es r = EndsOr es r
PaceOr old doing.Evaluate es r = EndsOr es r
PaceOr old (doing.Again x p) es r = EndsOr es r
PaceOr old (doing.Round p) es r = EndsOr es r
PaceOr old (doing.Body p) es r = EndsOr es r
PaceOr old (doing.Enter n) es r = Unit {0}
PaceOr old (doing.Jump n l i) es r = Unit {0}
PaceOr old (doing.Store o i) es r = Unit {0}
PaceOr old doing.Absent es r = Unit {0}
PaceOr old (doing.Left fl) es r = Unit {0}
PaceOr old doing.Evaluated es r = Unit {0}
