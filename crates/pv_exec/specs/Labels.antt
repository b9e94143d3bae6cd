-- Labels of a `switch` (C17 6.8.1, 6.8.4.2).
use Rattle.std.specs.Prelude.{ℤ, Bool, true, false, ◌||◌, if◌then◌else◌}
use Rattle.std.specs.Ordering.{int_eq}
use Rattle.pv_typed.specs.TypedStatement.{TypedStatement, Case, Default, Statements, NoStatements, MoreStatements}
use Rattle.pv_eval.specs.States.{State, Res, Gives}
use Rattle.pv_exec.specs.Flows.{Flow, Falls}

-- 6.8.4.2p5: the label to which a `switch` jumps: that of its value, else `default`, else none
pub data Target : Type 0 where
  ToCase : ℤ → Target
  ToDefault : Target
  ToNone : Target

-- 6.8.4.2p5: a `case` with this value is among the labels of a statement (6.8.1)
abbrev pub has_case : ℤ → TypedStatement → Bool
has_case v (Case line n x) = int_eq n v || has_case v x
has_case v (Default line x) = has_case v x
has_case v _ = false

-- 6.8.4.2p5: a `default` is among the labels of a statement
abbrev pub has_default : TypedStatement → Bool
has_default (Default line x) = true
has_default (Case line n x) = has_default x
has_default _ = false

-- 6.8.4.2p4: some statement of the body passes
abbrev pub some_statement : (TypedStatement → Bool) → Statements → Bool
some_statement f NoStatements = false
some_statement f (MoreStatements x xs) = f x || some_statement f xs

-- 6.8.4.2p5: where a `switch` with this value jumps
abbrev pub target_of : ℤ → Statements → Target
target_of v xs = if some_statement (has_case v) xs then ToCase v else (if some_statement has_default xs then ToDefault else ToNone)

-- 6.8.4.2p5: whether this is the statement to which it jumps
abbrev pub is_target : Target → TypedStatement → Bool
is_target (ToCase v) x = has_case v x
is_target ToDefault x = has_default x
is_target ToNone x = false

-- 6.8.4.2p5: where no label fits, nothing of the body is executed
abbrev pub unless_none : Target → (State → Res Flow) → State → Res Flow
unless_none ToNone go s = Gives Falls s
unless_none _ go s = go s
