-- A bridge: what a call calls, as the code has it: the number of a function, or of the node of a value.
use Rattle.std.specs.Prelude.{◌≡◌, ℕ, ◌<◌, Bool, Option, Some, None, List, length}
use Rattle.pv_tree.specs.Syntax.{ExpressionTree}
use Rattle.pv_typed.specs.Tables.{Stored}
use Rattle.pv_typed.specs.NodeTrees.{expression_at, IsExpression}
use Rattle.pv_check.specs.declared.calls.Target.{Target as Called}
use Rattle.pv_check.specs.declared.calls.Target.TheVariants as called
use Rattle.pv_check.specs.Open.{state_of, IsOpen}
use Rattle.pv_check.specs.Raw.{Raw}
use Rattle.pv_check.specs.Rows.{Callee, ByName, ByValue, callee}
use Rattle.pv_check.specs.RowParts.{with_callee}
use Rattle.pv_check.specs.State.{State, After}

-- what is called (6.5.2.2p1), by the trees of the tables
abbrev pub callee_in : Stored → Called → Callee
callee_in m (called.Named f) = ByName f
callee_in m (called.Pointed a) = ByValue (expression_at m a)

-- the function (6.9.1), or the value, is there
abbrev pub CalleeKnown : Stored → Called → Type 0
CalleeKnown m (called.Named f) = f < length m.functions
CalleeKnown m (called.Pointed a) = IsExpression m a

-- what is called (6.5.2.2p1), and the state after it
abbrev pub after_callee : List (List ℕ) → Bool → Raw → Stored → Option Called → Option (After Callee)
after_callee texts unevaluated s m None = None
after_callee texts unevaluated s m (Some c) = Some (record { value = callee_in m c; state = state_of texts unevaluated s m })

-- where there is what is called, it is there, and the scopes after it are open (6.2.1p4)
abbrev pub CalledIf : Stored → Raw → Option Called → Type 0
CalledIf m s None = Unit {0}
CalledIf m s (Some c) = CalleeKnown m c × IsOpen m s

-- the function whose name is the callee of an expression (6.5.2.2p1), noted as used; or none, and nothing is noted
abbrev pub AreCalled : List (List ℕ) → Bool → Raw → Stored → ExpressionTree → State → Option ℕ → Type 0
AreCalled texts unevaluated s m e before None = (callee before.scopes e ≡ None) × (state_of texts unevaluated s m ≡ before)
AreCalled texts unevaluated s m e before (Some f) = (callee before.scopes e ≡ Some f) × (state_of texts unevaluated s m ≡ with_callee before f)
