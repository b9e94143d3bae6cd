-- Rows of statements (C17 6.8): their parts are typed already.
use Rattle.std.specs.Prelude.{ℕ, ℤ, Bool, true, false, not, if◌then◌else◌, List, [], ◌∷◌, ◌++◌, Option, Some, None}
use Rattle.std.specs.Ordering.{int_eq}
use Rattle.pv_num.specs.declared.kinds.IntKind.{IntKind}
use Rattle.pv_num.specs.Kinds.{convert_of}
use Rattle.pv_tree.specs.Syntax.{ExpressionTree, StatementTree, Case, Default, OfExpression, OfStatement, Tree, Trees, NoTrees, Then, OptionalTree, Absent, Present}
use Rattle.pv_types.specs.Ty.{Ty}
use Rattle.pv_typed.specs.TypedTree.{TypedTree, type_of}
use Rattle.pv_typed.specs.TypedStatement.{TypedStatement, Block, ForDeclaration, Declare, Return, Case as CaseOf, Default as DefaultOf, statements_of}
use Rattle.pv_typed.specs.TypedUnits.{object_at}
use Rattle.pv_typed.specs.Constants.{integer, and_then}
use Rattle.pv_check.specs.State.{State, After, Meaning, ObjectName, give}
use Rattle.pv_check.specs.Scopes.{behind_scope}
use Rattle.pv_types.specs.Sorts.{kind_of, is_scalar, is_void}
use Rattle.pv_check.specs.Typing.{types}
use Rattle.pv_check.specs.Rows.{operand}
use Rattle.pv_check.specs.Values.{as_if_assigned, promoted_value}
use Rattle.pv_unit.specs.Blocks.{Reached}
use Rattle.std.specs.List.{list_any, flat_map}
use Rattle.std.specs.Option.{option_map}

-- 6.8.6.2p1, 6.8.6.3p1, 6.8.6.4: what stands around a statement: the type that its function returns, whether a `break` and whether
-- a `continue` has something to leave
pub record Around : Type 0 where
  pub result : Ty
  pub breaks : Bool
  pub continues : Bool

-- 6.8.6.2p1, 6.8.6.3p1: in the body of a loop
abbrev pub in_loop : Around → Around
in_loop w = record w { breaks = true; continues = true }

-- 6.8.2p2, 6.8.4p3, 6.8.5p5: what was typed in a scope that ends with it
abbrev pub leaving : {A : Type 0} → Option (After A) → Option (After A)
leaving {A} o = option_map (λ (x : After A). record { value = x.value; state = behind_scope x.state }) o

-- 6.3.2.1p2: an expression, and its value taken
abbrev pub taken_value : ExpressionTree → State → Option (After TypedTree)
taken_value a s = operand (types a s)

-- 6.8.4.1p1, 6.8.5p2: a condition is a scalar
abbrev pub condition : ExpressionTree → State → Option (After TypedTree)
condition a s = and_then (taken_value a s) (λ x. if is_scalar (type_of x.value) then Some x else None)

-- 6.8.3p3, 6.8.5.3p2, 6.8.6.4: an expression that may be left out
abbrev pub expression_if_any : (ExpressionTree → State → Option (After TypedTree)) → OptionalTree → State → Option (After (Option TypedTree))
expression_if_any typed Absent s = give (Some None) s
expression_if_any typed (Present (OfExpression a)) s = and_then (typed a s) (λ x. give (Some (Some x.value)) x.state)
expression_if_any typed (Present _) s = None

-- ---- labels (6.8.1, 6.8.4.2)

-- 6.8.1, 6.8.4.2: a label: `case` with its value, converted to the promoted type of the switch, or `default`
pub data Label : Type 0 where
  CaseLabel : (line : ℕ) → ℤ → Label
  DefaultLabel : (line : ℕ) → Label

-- 6.8.4.2p3: two labels are one: `case` labels of one value, or `default`
abbrev pub is_label : Label → Label → Bool
is_label (CaseLabel line m) (CaseLabel other n) = int_eq m n
is_label (DefaultLabel line) (DefaultLabel other) = true
is_label _ _ = false

-- 6.8.1p1, 6.8.4.2p3, p5: one label: `case` with an integer constant expression, converted to the promoted type of the switch, or `default`
abbrev pub typed_label : IntKind → StatementTree → State → Option (After Label)
typed_label k (Case line a) s = and_then (taken_value a s) (λ x. and_then (integer x.value) (λ n. give (Some (CaseLabel line (convert_of k n))) x.state))
typed_label k (Default line) s = give (Some (DefaultLabel line)) s
typed_label k _ s = None

-- 6.8.1p1, 6.8.4.2p3: one label behind others: no two `case` labels of a switch have one value, and it has one `default` at most
abbrev pub label_in : IntKind → (seen : List Label) → Tree → After (List Label) → Option (After (List Label))
label_in k seen (OfStatement l) own =
    and_then (typed_label k l own.state) (λ x. if list_any (is_label x.value) (seen ++ own.value) then None
    else give (Some (own.value ++ (x.value ∷ []))) x.state)
label_in k seen _ own = None

-- 6.8.4.2p3: the labels of a statement, where the switch has those that were seen before it
abbrev pub typed_labels : IntKind → (seen : List Label) → Trees → State → Option (After (List Label))
typed_labels k seen NoTrees s = give (Some []) s
typed_labels k seen (Then before x) s = and_then (typed_labels k seen before s) (label_in k seen x)

-- 6.8.1p1: a statement under its labels
abbrev pub under : List Label → TypedStatement → TypedStatement
under [] b = b
under (CaseLabel line n ∷ ls) b = CaseOf line n (under ls b)
under (DefaultLabel line ∷ ls) b = DefaultOf line (under ls b)

-- ---- `return` (6.8.6.4)

-- 6.8.6.4p1, p3: `return` without an expression in a function that returns `void`, else with one, converted as if by assignment to an object of the
-- function's type
abbrev pub return_of : (result : Ty) → (line : ℕ) → OptionalTree → State → Option (After TypedStatement)
return_of t line Absent s = if is_void t then give (Some (Return line None)) s else None
return_of t line (Present (OfExpression a)) s =
    and_then (taken_value a s) (λ x. if is_void t then None else and_then (as_if_assigned t x.value) (λ e. give (Some (Return line (Some e))) x.state))
return_of t line (Present _) s = None

-- ---- switches (6.8.4.2)

-- 6.8.4.2p5: the promoted value of a switch, and its kind
pub record Switched : Type 0 where
  pub value : TypedTree
  pub kind : IntKind

-- 6.8.4.2p1, p5: the controlling expression is an integer, which is promoted
abbrev pub switch_value : ExpressionTree → State → Option (After Switched)
switch_value a s =
    and_then (taken_value a s) (λ x. and_then (kind_of (type_of (promoted_value x.value))) (λ k.
    give (Some (record { value = promoted_value x.value; kind = k })) x.state))

-- ---- blocks (6.8.2)

-- 6.2.4p6, 6.8p3: reaching the declarations of automatic objects
abbrev pub reached_declarations : List Reached → List TypedStatement
reached_declarations [] = []
reached_declarations (x ∷ xs) = Declare x.line x.object ∷ reached_declarations xs

-- 6.2.4p5: the automatic object that an item of a block declares
abbrev pub declared_by : TypedStatement → List ℕ
declared_by (Declare line o) = o ∷ []
declared_by _ = []

-- 6.2.4p5: the automatic objects that a block declares, in the order of their declarations
abbrev pub declared_in : List TypedStatement → List ℕ
declared_in xs = flat_map declared_by xs

-- 6.8.2p2: a block of these items
abbrev pub block_of : (line : ℕ) → List TypedStatement → TypedStatement
block_of line xs = Block line (declared_in xs) (statements_of xs)

-- 6.8.5.3: a `for` that begins with these declarations
abbrev pub round_of : (line : ℕ) → List TypedStatement → (condition step : Option TypedTree) → (body : TypedStatement) → TypedStatement
round_of line xs c t b = ForDeclaration line (declared_in xs) (statements_of xs) c t b

-- 6.2.4p5: the name is that of an automatic object
abbrev pub is_automatic : State → Meaning → Bool
is_automatic s (ObjectName o) = not (object_at s.unit o).lasting
is_automatic s _ = false
