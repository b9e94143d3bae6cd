-- A bridge: what functions answer that do a part of what Statements says.
use Rattle.pv_unit.specs.Statements.{Around, Label, CaseLabel, Switched, is_label, is_automatic}
use Rattle.std.specs.Prelude.{true, None, Some, if◌then◌else◌, Option, [], ◌∷◌, List, ◌++◌, ℕ, Bool, ◌&&◌, length, ◌==◌}
use Rattle.std.specs.List.{list_any, list_all}
use Rattle.pv_types.specs.Sorts.{kind_of, is_scalar, is_void}
use Rattle.pv_check.specs.State.{After, give, State, Meaning}
use Rattle.pv_check.specs.Scopes.{innermost_scope}
use Rattle.pv_check.specs.Values.{as_if_assigned, promoted_value}
use Rattle.pv_typed.specs.TypedTree.{TypedTree, type_of}
use Rattle.pv_typed.specs.Constants.{integer, and_then}
use Rattle.pv_typed.specs.TypedStatement.{TypedStatement, Return}
use Rattle.pv_num.specs.Kinds.{convert_of}
use Rattle.pv_num.specs.declared.kinds.IntKind.{IntKind}
use Rattle.pv_types.specs.Ty.{Ty}

-- 6.8.6.3p1: in the body of a `switch`
abbrev pub in_switch : Around → Around
in_switch w = record w { breaks = true }

-- 6.8.4.1p1, 6.8.5p2: its type is a scalar one
abbrev pub if_scalar : After TypedTree → Option (After TypedTree)
if_scalar x = if is_scalar (type_of x.value) then Some x else None

-- 6.8.3p2: the value of an expression that may be left out
abbrev pub some_value : After TypedTree → Option (After (Option TypedTree))
some_value x = give (Some (Some x.value)) x.state

-- 6.8.4.2p3: the label is among these
abbrev pub stands : Label → List Label → Bool
stands l xs = list_any (is_label l) xs

-- 6.8.4.2p3: no two `case` labels of a switch have one value, and it has one `default` at most
abbrev pub labels_with : (seen own : List Label) → After Label → Option (After (List Label))
labels_with seen own x = if stands x.value (seen ++ own) then None else give (Some (own ++ (x.value ∷ []))) x.state

-- 6.8.4.2p3: an integer constant expression; p5: its value is converted to the promoted type of the switch
abbrev pub case_label : IntKind → (line : ℕ) → After TypedTree → Option (After Label)
case_label k line x = and_then (integer x.value) (λ n. give (Some (CaseLabel line (convert_of k n))) x.state)

-- 6.8.6.4p1: without an expression, in a function that returns `void` alone
abbrev pub nothing_returned : (result : Ty) → (line : ℕ) → State → Option (After TypedStatement)
nothing_returned t line s = if is_void t then give (Some (Return line None)) s else None

-- 6.8.6.4p1, p3: in a function that returns a value: it is converted as if by assignment to an object of the function's type
abbrev pub value_returned : (result : Ty) → (line : ℕ) → After TypedTree → Option (After TypedStatement)
value_returned t line x = if is_void t then None else and_then (as_if_assigned t x.value) (λ e. give (Some (Return line (Some e))) x.state)

-- 6.8.4.2p1, p5: the integer promotions of an integer
abbrev pub switched_by : After TypedTree → Option (After Switched)
switched_by x = and_then (kind_of (type_of (promoted_value x.value))) (λ k. give (Some (record { value = promoted_value x.value; kind = k })) x.state)

-- 6.8.5p3: each name of a scope is that of an automatic object
abbrev pub are_automatic : State → List (ℕ × Meaning) → Bool
are_automatic s es = list_all (λ (e : ℕ × Meaning). is_automatic s e.1) es

-- 6.8.5p3: the innermost scope declares nothing but automatic objects
abbrev pub automatic_alone : State → Bool
automatic_alone s = are_automatic s (innermost_scope s.scopes).names && (length (innermost_scope s.scopes).tags == 0)
