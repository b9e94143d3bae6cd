-- Typing statements leaves the names of the unit as they were, and each new object has the name of an identifier (C17 6.4.2.1, 6.8).
use Rattle.std.proofs.Common.{ℕ, Option, Some, None, List, [], ◌++◌, refl}
use Rattle.pv_num.specs.declared.kinds.IntKind.{IntKind}
use Rattle.pv_tree.specs.Syntax.{ExpressionTree, StatementTree, Block, ExpressionStatement, If, IfElse, While, DoWhile, For, ForDeclaration, Switch, SwitchBlock, Labelled, Case, Default, Break, Continue, Return, Tree, OfExpression, OfDeclaration, OfStatement, Trees, NoTrees, Then, OptionalTree, Absent, Present}
use Rattle.pv_types.specs.Ty.{Ty}
use Rattle.pv_typed.specs.TypedTree.{TypedTree, type_of}
use Rattle.pv_typed.specs.TypedStatement.{TypedStatement}
use Rattle.pv_typed.specs.Constants.{integer}
use Rattle.pv_check.specs.State.{State, After}
use Rattle.pv_check.specs.Scopes.{in_new_scope, behind_scope}
use Rattle.pv_types.specs.Sorts.{kind_of, is_scalar, is_void}
use Rattle.pv_check.specs.Typing.{types}
use Rattle.pv_check.specs.Values.{as_if_assigned, promoted_value}
use Rattle.pv_unit.specs.Statements.{Around, in_loop, leaving, taken_value, condition, expression_if_any, Label, typed_label, label_in, typed_labels, return_of, switch_value}
use Rattle.pv_unit.specs.StatementParts.{in_switch, if_scalar, some_value, labels_with, case_label, value_returned, switched_by, stands}
use Rattle.pv_unit.specs.TypedStatements.{Body, typed_statement, typed_items, typed_item, switch_block, switch_items, switch_item}
use Rattle.pv_unit.specs.Made.{body_with}
use Rattle.pv_unit.proofs.Named.{AreNamed, Keeps, none_keeps, some_keeps, then_keeps, value_then, if_keeps, operand_keeps, types_keep}
use Rattle.pv_unit.proofs.NamedBlocks.{not_keeps, declaration_keeps}

leaving_keeps : {A : Type 0} (n : List (List ℕ)) (o : Option (After A)) → Keeps n o → Keeps n (leaving o)
leaving_keeps n None h = none_keeps n
leaving_keeps n (Some x) h = some_keeps n x.value (behind_scope x.state) (h.held x refl)

-- ---- expressions

valued_keeps : (a : ExpressionTree) (n : List (List ℕ)) (s : State) → AreNamed n s.unit → Keeps n (taken_value a s)
valued_keeps a n s h = operand_keeps n (types a s) (types_keep a n s h)

condition_keeps : (a : ExpressionTree) (n : List (List ℕ)) (s : State) → AreNamed n s.unit → Keeps n (condition a s)
condition_keeps a n s h = then_keeps n (taken_value a s) if_scalar (valued_keeps a n s h) (λ x k. if_keeps n (is_scalar (type_of x.value)) (Some x) (some_keeps n x.value x.state k))

optional_keeps : (typed : ExpressionTree → State → Option (After TypedTree)) (n : List (List ℕ)) → ((a : ExpressionTree) (s : State) → AreNamed n s.unit → Keeps n (typed a s)) → (o : OptionalTree) (s : State) → AreNamed n s.unit → Keeps n (expression_if_any typed o s)
optional_keeps typed n f Absent s h = some_keeps n None s h
optional_keeps typed n f (Present (OfExpression a)) s h = then_keeps n (typed a s) some_value (f a s h) (λ x k. some_keeps n (Some x.value) x.state k)
optional_keeps typed n f (Present _) s h = none_keeps n

any_keeps : (o : OptionalTree) (n : List (List ℕ)) (s : State) → AreNamed n s.unit → Keeps n (expression_if_any taken_value o s)
any_keeps o n s h = optional_keeps taken_value n (λ a s h. valued_keeps a n s h) o s h

test_keeps : (o : OptionalTree) (n : List (List ℕ)) (s : State) → AreNamed n s.unit → Keeps n (expression_if_any condition o s)
test_keeps o n s h = optional_keeps condition n (λ a s h. condition_keeps a n s h) o s h

-- ---- labels

label_keeps : (k : IntKind) (l : StatementTree) (n : List (List ℕ)) (s : State) → AreNamed n s.unit → Keeps n (typed_label k l s)
label_keeps k (Case line a) n s h = then_keeps n (taken_value a s) (case_label k line) (valued_keeps a n s h) (λ x j. value_then n (integer x.value) _ (λ m. some_keeps n _ x.state j))
label_keeps k (Default line) n s h = some_keeps n _ s h
label_keeps k _ n s h = none_keeps n

label_in_keeps : (k : IntKind) (seen : List Label) (x : Tree) (n : List (List ℕ)) (own : After (List Label)) → AreNamed n own.state.unit → Keeps n (label_in k seen x own)
label_in_keeps k seen (OfStatement l) n own h =
    then_keeps n (typed_label k l own.state) (labels_with seen own.value) (label_keeps k l n own.state h) (λ x j. not_keeps n (stands x.value (seen ++ own.value)) _ (some_keeps n _ x.state j))
label_in_keeps k seen _ n own h = none_keeps n

labels_keep : (k : IntKind) (seen : List Label) (ts : Trees) (n : List (List ℕ)) (s : State) → AreNamed n s.unit → Keeps n (typed_labels k seen ts s)
labels_keep k seen NoTrees n s h = some_keeps n _ s h
labels_keep k seen (Then before x) n s h = then_keeps n (typed_labels k seen before s) (label_in k seen x) (labels_keep k seen before n s h) (λ own j. label_in_keeps k seen x n own j)

-- ---- `return`, and the head of a switch

returned_keeps : (t : Ty) (line : ℕ) (a : OptionalTree) (n : List (List ℕ)) (s : State) → AreNamed n s.unit → Keeps n (return_of t line a s)
returned_keeps t line Absent n s h = if_keeps n (is_void t) _ (some_keeps n _ s h)
returned_keeps t line (Present (OfExpression a)) n s h =
    then_keeps n (taken_value a s) (value_returned t line) (valued_keeps a n s h) (λ x j. not_keeps n (is_void t) _ (value_then n (as_if_assigned t x.value) _ (λ e. some_keeps n _ x.state j)))
returned_keeps t line (Present _) n s h = none_keeps n

switched_keeps : (a : ExpressionTree) (n : List (List ℕ)) (s : State) → AreNamed n s.unit → Keeps n (switch_value a s)
switched_keeps a n s h = then_keeps n (taken_value a s) switched_by (valued_keeps a n s h) (λ x j. value_then n (kind_of (type_of (promoted_value x.value))) _ (λ k. some_keeps n _ x.state j))

-- ---- statements

mutual
  pub statement_keeps : (b : StatementTree) (w : Around) (n : List (List ℕ)) (s : State) → AreNamed n s.unit → Keeps n (typed_statement w b s)
  statement_keeps (Block line items) w n s h = leaving_keeps n _ (then_keeps n _ _ (items_keep items w n (in_new_scope s) h) (λ x j. some_keeps n _ x.state j))
  statement_keeps (ExpressionStatement line a) w n s h = then_keeps n _ _ (any_keeps a n s h) (λ x j. some_keeps n _ x.state j)
  statement_keeps (If line a body) w n s h =
      leaving_keeps n _ (then_keeps n _ _ (condition_keeps a n (in_new_scope s) h) (λ c i. then_keeps n _ _ (leaving_keeps n _ (statement_keeps body w n (in_new_scope c.state) i)) (λ x j. some_keeps n _ x.state j)))
  statement_keeps (IfElse line a body other) w n s h =
      leaving_keeps n _ (then_keeps n _ _ (condition_keeps a n (in_new_scope s) h) (λ c i. then_keeps n _ _ (leaving_keeps n _ (statement_keeps body w n (in_new_scope c.state) i))
      (λ b k. then_keeps n _ _ (leaving_keeps n _ (statement_keeps other w n (in_new_scope b.state) k)) (λ x j. some_keeps n _ x.state j))))
  statement_keeps (While line a body) w n s h =
      leaving_keeps n _ (then_keeps n _ _ (condition_keeps a n (in_new_scope s) h) (λ c i. then_keeps n _ _ (leaving_keeps n _ (statement_keeps body (in_loop w) n (in_new_scope c.state) i)) (λ x j. some_keeps n _ x.state j)))
  statement_keeps (DoWhile line body a) w n s h =
      leaving_keeps n _ (then_keeps n _ _ (leaving_keeps n _ (statement_keeps body (in_loop w) n (in_new_scope (in_new_scope s)) h)) (λ b i. then_keeps n _ _ (condition_keeps a n b.state i) (λ x j. some_keeps n _ x.state j)))
  statement_keeps (For line first a step body) w n s h =
      leaving_keeps n _ (then_keeps n _ _ (any_keeps first n (in_new_scope s) h) (λ f i. then_keeps n _ _ (test_keeps a n f.state i) (λ c k. then_keeps n _ _ (any_keeps step n c.state k)
      (λ t m. then_keeps n _ _ (leaving_keeps n _ (statement_keeps body (in_loop w) n (in_new_scope t.state) m)) (λ x j. some_keeps n _ x.state j)))))
  statement_keeps (ForDeclaration line d a step body) w n s h =
      leaving_keeps n _ (then_keeps n _ _ (then_keeps n _ _ (declaration_keeps d n (in_new_scope s) h) (λ x j. if_keeps n _ _ (some_keeps n _ x.state j)))
      (λ f i. then_keeps n _ _ (test_keeps a n f.state i) (λ c k. then_keeps n _ _ (any_keeps step n c.state k)
      (λ t m. then_keeps n _ _ (leaving_keeps n _ (statement_keeps body (in_loop w) n (in_new_scope t.state) m)) (λ x j. some_keeps n _ x.state j)))))
  statement_keeps (Switch line a body) w n s h =
      leaving_keeps n _ (then_keeps n _ _ (switched_keeps a n (in_new_scope s) h) (λ c i. then_keeps n _ _ (block_keeps body w c.value.kind n c.state i) (λ x j. some_keeps n _ x.state j)))
  statement_keeps (Break line) w n s h = if_keeps n w.breaks _ (some_keeps n _ s h)
  statement_keeps (Continue line) w n s h = if_keeps n w.continues _ (some_keeps n _ s h)
  statement_keeps (Return line a) w n s h = returned_keeps w.result line a n s h
  statement_keeps _ w n s h = none_keeps n

  pub items_keep : (ts : Trees) (w : Around) (n : List (List ℕ)) (s : State) → AreNamed n s.unit → Keeps n (typed_items w ts s)
  items_keep NoTrees w n s h = some_keeps n _ s h
  items_keep (Then before x) w n s h = then_keeps n _ _ (items_keep before w n s h) (λ y j. item_keeps x w n y j)

  pub item_keeps : (x : Tree) (w : Around) (n : List (List ℕ)) (y : After (List TypedStatement)) → AreNamed n y.state.unit → Keeps n (typed_item w x y)
  item_keeps (OfDeclaration d) w n y h = then_keeps n _ _ (declaration_keeps d n y.state h) (λ z j. some_keeps n _ z.state j)
  item_keeps (OfStatement b) w n y h = then_keeps n _ _ (statement_keeps b w n y.state h) (λ z j. some_keeps n _ z.state j)
  item_keeps _ w n y h = none_keeps n

  pub block_keeps : (b : StatementTree) (w : Around) (k : IntKind) (n : List (List ℕ)) (s : State) → AreNamed n s.unit → Keeps n (switch_block w k b s)
  block_keeps (SwitchBlock line items) w k n s h = leaving_keeps n _ (then_keeps n _ _ (rows_keep items (in_switch w) k n (in_new_scope s) h) (λ x j. some_keeps n _ x.state j))
  block_keeps _ w k n s h = none_keeps n

  pub rows_keep : (ts : Trees) (w : Around) (k : IntKind) (n : List (List ℕ)) (s : State) → AreNamed n s.unit → Keeps n (switch_items w k ts s)
  rows_keep NoTrees w k n s h = some_keeps n _ s h
  rows_keep (Then before x) w k n s h = then_keeps n _ _ (rows_keep before w k n s h) (λ y j. row_keeps x w k n y j)

  pub row_keeps : (x : Tree) (w : Around) (k : IntKind) (n : List (List ℕ)) (y : After Body) → AreNamed n y.state.unit → Keeps n (switch_item w k x y)
  row_keeps (OfDeclaration d) w k n y h = then_keeps n _ _ (declaration_keeps d n y.state h) (λ z j. some_keeps n _ z.state j)
  row_keeps (OfStatement (Labelled line labels b)) w k n y h =
      then_keeps n _ _ (labels_keep k y.value.labels labels n y.state h) (λ l i. then_keeps n _ _ (statement_keeps b w n l.state i) (λ z j. some_keeps n _ z.state j))
  row_keeps (OfStatement b) w k n y h = then_keeps n (typed_statement w b y.state) (body_with y.value y.value.labels []) (statement_keeps b w n y.state h) (λ z j. some_keeps n _ z.state j)
  row_keeps _ w k n y h = none_keeps n
