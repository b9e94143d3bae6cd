-- Typing of expressions (C17 6.5), specifiers (6.7.2), declarators (6.7.6) and type names (6.7.7): the typed tree or the type, and the
-- state after it. Parts come from left to right, each in the state that the part before it leaves.
use Rattle.std.specs.Prelude.{ℕ, ℤ, pos, true, false, if◌then◌else◌, Option, Some, None, List, [], ◌++◌, ◌∷◌, nat_lt, length}
use Rattle.pv_num.specs.declared.kinds.IntKind.TheVariants as kind
use Rattle.pv_num.specs.declared.kinds.IntKind.TheVariants.{Int}
use Rattle.pv_types.specs.Ty.{Ty, IntTy}
use Rattle.pv_types.specs.Layouts.{Named}
use Rattle.pv_tree.specs.Syntax.{ExpressionTree, Name, Number, Character, Text, Paren, Index, Call, Member, Arrow, PostIncrement, PostDecrement, PreIncrement, PreDecrement, Unary, SizeofExpr, SizeofType, Cast, Binary, Conditional, Assign, Comma, ArgumentTrees, NoArguments, Argument, DeclarationTree, MemberDeclaration, Enumerator, Parameter, TypeName, DeclaratorTree, DeclaredName, ParenDeclarator, Pointer, Array, FunctionDeclarator, AbstractParen, AbstractPointer, AbstractArray, AbstractFunction, SpecifierTree, Keyword, Composite, Enumeration, Tag, TypedefName, OfExpression, OfDeclaration, OfDeclarator, OfSpecifier, Tree, Trees, NoTrees, Then, OptionalTree, Absent, Present}
use Rattle.pv_typed.specs.declared.nodes.IncrementOperator.TheVariants as step
use Rattle.pv_typed.specs.TypedTree.{TypedTree, type_of, Constant}
use Rattle.pv_check.specs.State.{State, After, ◌>>=◌, give, env}
use Rattle.pv_check.specs.Scopes.{look, in_new_scope}
use Rattle.pv_typed.specs.Constants.{and_then}
use Rattle.pv_check.specs.Specifiers.{Seen, with_keyword, with_type, typedef_of, nothing_seen}
use Rattle.pv_check.specs.Tags.{is_union_word, tag_named, tag_before_list, completion_of, opened_enumeration, closed_enumeration, enumerator_step}
use Rattle.pv_check.specs.Derivations.{Parameter as OneParameter, Steps, no_steps, declared_name, optional_name, may_be_variadic, size_of, derived_type, adjustment_of, with_parameter, with_step, ByPointer, ByArray, signature, with_function}
use Rattle.pv_check.specs.Primary.{name_of, integer_of}
use Rattle.pv_check.specs.StringLiterals.{bytes_of_text, text_of}
use Rattle.pv_check.specs.Rows.{operand, within_sizeof, callee, called_by, integer_value, type_without_storage, member_of, after_sizeof, call_by}
use Rattle.pv_check.specs.Postfix.{subscript_of, member_from, arrow_from, increment_of}
use Rattle.pv_check.specs.Unary.{unary_of, sizeof_type, cast_of}
use Rattle.pv_check.specs.Binary.{binary_of}
use Rattle.pv_check.specs.Conditional.{conditional_of}
use Rattle.pv_check.specs.Assignment.{assign_of, comma_of}
use Rattle.pv_check.specs.Values.{source_node}

abbrev mutual
  -- 6.5: an expression's typed tree, or none where it breaks a constraint
  pub types : ExpressionTree → State → Option (After TypedTree)
  types (Name line n) s = name_of line (look s.scopes n) s
  types (Number line value decimal unsigned longs) s = give (integer_of line value decimal unsigned longs) s
  types (Character line value) s = give (Some (source_node line (IntTy Int) (Constant value))) s
  types (Text line first more) s = Some (text_of line (bytes_of_text s.texts first more) s)
  types (Paren line a) s = types a s
  types (Index line a i) s = do
    l ← operand (types a s)
    r ← operand (types i l.state)
    give (subscript_of (env r.state) line l.value r.value) r.state
  types (Call line f args) s = do
    c ← called_by (callee s.scopes f) s (operand (types f s))
    a ← arguments args c.state
    give (call_by a.state.unit line c.value a.value) a.state
  types (Member line a n) s = types a s >>= λ a. give (member_from a.state.unit.completed line n a.value) a.state
  types (Arrow line a n) s = operand (types a s) >>= λ a. give (arrow_from a.state.unit.completed line n a.value) a.state
  types (PostIncrement line a) s = types a s >>= λ a. give (increment_of (env a.state) line step.PostIncrement a.value) a.state
  types (PostDecrement line a) s = types a s >>= λ a. give (increment_of (env a.state) line step.PostDecrement a.value) a.state
  types (PreIncrement line a) s = types a s >>= λ a. give (increment_of (env a.state) line step.PreIncrement a.value) a.state
  types (PreDecrement line a) s = types a s >>= λ a. give (increment_of (env a.state) line step.PreDecrement a.value) a.state
  types (Unary line op a) s = types a s >>= λ a. give (unary_of (env a.state) line op a.value) a.state
  types (SizeofExpr line a) s = types a (within_sizeof s) >>= λ a. give (sizeof_type (env a.state) line (type_of a.value)) (after_sizeof s a.state)
  types (SizeofType line t) s = type_named t (within_sizeof s) >>= λ t. give (sizeof_type (env t.state) line t.value) (after_sizeof s t.state)
  types (Cast line t a) s = do
    u ← type_named t s
    a ← operand (types a u.state)
    give (cast_of line u.value a.value) a.state
  types (Binary line op a b) s = do
    l ← operand (types a s)
    r ← operand (types b l.state)
    give (binary_of (env r.state) line op l.value r.value) r.state
  types (Conditional line a b c) s = do
    l ← operand (types a s)
    m ← operand (types b l.state)
    r ← operand (types c m.state)
    give (conditional_of line l.value m.value r.value) r.state
  types (Assign line op a b) s = do
    l ← types a s
    r ← operand (types b l.state)
    give (assign_of (env r.state) line op l.value r.value) r.state
  types (Comma line a b) s = do
    l ← operand (types a s)
    r ← operand (types b l.state)
    give (Some (comma_of line l.value r.value)) r.state

  -- 6.5.2.2p4: the values of the arguments
  pub arguments : ArgumentTrees → State → Option (After (List TypedTree))
  arguments NoArguments s = give (Some []) s
  arguments (Argument before last) s = do
    l ← arguments before s
    a ← operand (types last l.state)
    give (Some (l.value ++ a.value ∷ [])) a.state

  -- 6.7.7p2: the type that a type name names
  -- worked: named_type_rows (proofs/FurtherExamples); type_name_rows (proofs/TagExamples)
  pub type_named : DeclarationTree → State → Option (After Ty)
  type_named (TypeName line specs d) s = do
    a ← specifiers specs s
    b ← type_without_storage a
    c ← optional_steps d b.state
    give (derived_type false (env c.state) c.value.list b.value) c.state
  type_named _ s = None

  -- 6.7p1: specifiers in a row
  pub specifiers : Trees → State → Option (After Seen)
  specifiers NoTrees s = give (Some nothing_seen) s
  specifiers (Then before x) s = specifiers before s >>= specifier_in x

  pub specifier_in : Tree → After Seen → Option (After Seen)
  specifier_in (OfSpecifier x) a = specifier x a.value a.state
  specifier_in _ a = None

  -- 6.7.1 to 6.7.3, 6.7.8: what a specifier says beside those before it
  pub specifier : SpecifierTree → Seen → State → Option (After Seen)
  specifier (Keyword line w) seen s = give (with_keyword seen w) s
  specifier (TypedefName line n) seen s = give (typedef_of (look s.scopes n) >>= with_type seen) s
  specifier (Tag line w n) seen s = do a ← tag_named w n s; give (with_type seen a.value) a.state
  specifier (Composite line w n ms) seen s = do
    o ← tag_before_list (is_union_word w) n s
    m ← members ms o.state >>= λ (a : After (List Named)). if nat_lt 0 (length a.value) then Some a else None
    a ← completion_of (is_union_word w) n o.value m.value m.state
    give (with_type seen a.value) a.state
  specifier (Enumeration line n es comma) seen s = do
    o ← opened_enumeration n s
    e ← enumerators es o
    give (with_type seen (IntTy kind.Int)) (closed_enumeration n e.state)

  -- 6.7.2.1p1: the members of a structure or union
  -- worked: nested_declaration_rows (proofs/TagExamples)
  pub members : Trees → State → Option (After (List Named))
  members NoTrees s = give (Some []) s
  members (Then before x) s = members before s >>= member_in x

  -- 6.7.2.1p1: the members of one declaration
  pub member_in : Tree → After (List Named) → Option (After (List Named))
  member_in (OfDeclaration (MemberDeclaration line specs ds)) m = do
    a ← specifiers specs m.state
    b ← type_without_storage a
    member_declarators ds b.value m.value b.state
  member_in _ m = None

  -- 6.7.2.1p1: its declarators, from left to right
  pub member_declarators : Trees → Ty → List Named → State → Option (After (List Named))
  member_declarators NoTrees t ms s = give (Some ms) s
  member_declarators (Then before x) t ms s = member_declarators before t ms s >>= member_declarator t x

  -- 6.7.2.1p9: one member
  pub member_declarator : Ty → Tree → After (List Named) → Option (After (List Named))
  member_declarator t (OfDeclarator d) m = steps d m.state >>= member_of (declared_name d) t m.value
  member_declarator t _ m = None

  -- 6.7.2.2p3: enumerators, and the value that one behind them has without its own
  pub enumerators : Trees → State → Option (After ℤ)
  enumerators NoTrees s = give (Some (pos 0)) s
  enumerators (Then before x) s = enumerators before s >>= enumerator_in x

  -- 6.7.2.2p3: one enumerator
  pub enumerator_in : Tree → After ℤ → Option (After ℤ)
  enumerator_in (OfDeclaration (Enumerator line n v)) a = do b ← enumerator_value v a.value a.state; enumerator_step n b.value b.state
  enumerator_in _ a = None

  -- 6.7.2.2p3: its value, or the next one
  pub enumerator_value : OptionalTree → ℤ → State → Option (After ℤ)
  enumerator_value Absent next s = give (Some next) s
  enumerator_value (Present (OfExpression a)) next s = integer_value (operand (types a s))
  enumerator_value _ next s = None

  -- 6.7.6: the steps of a declarator from its name outwards, in the order of the text
  pub steps : DeclaratorTree → State → Option (After Steps)
  steps (DeclaredName line n) s = give (Some no_steps) s
  steps (ParenDeclarator line d) s = steps d s
  steps (Pointer line consts d) s = steps d s >>= λ a. give (Some (with_step a.value (ByPointer (nat_lt 0 consts)))) a.state
  steps (Array line d n) s = do
    a ← steps d s
    k ← array_size n a.state
    give (Some (with_step a.value (ByArray k.value))) k.state
  steps (FunctionDeclarator line d ps v) s =
      if may_be_variadic v d s then (do
        a ← steps d s
        b ← parameters ps (in_new_scope a.state)
        and_then (signature v b) (λ g. give (Some (with_function a.value g.value)) g.state))
      else None
  steps (AbstractParen line d) s = steps d s
  steps (AbstractPointer line consts d) s = optional_steps d s >>= λ a. give (Some (with_step a.value (ByPointer (nat_lt 0 consts)))) a.state
  steps (AbstractArray line d n) s = do
    a ← optional_steps d s
    k ← array_size n a.state
    give (Some (with_step a.value (ByArray k.value))) k.state
  steps (AbstractFunction line d ps true) s = None
  steps (AbstractFunction line d ps false) s = do
    a ← optional_steps d s
    b ← parameters ps (in_new_scope a.state)
    and_then (signature false b) (λ g. give (Some (with_function a.value g.value)) g.state)

  pub optional_steps : OptionalTree → State → Option (After Steps)
  optional_steps Absent s = give (Some no_steps) s
  optional_steps (Present (OfDeclarator d)) s = steps d s
  optional_steps _ s = None

  -- 6.7.6.2p1: the size of an array, where one stands
  pub array_size : OptionalTree → State → Option (After (Option ℕ))
  array_size Absent s = give (Some None) s
  array_size (Present (OfExpression a)) s = integer_value (operand (types a s)) >>= λ a. and_then (size_of a.value) (λ n. give (Some (Some n)) a.state)
  array_size _ s = None

  -- 6.7.6.3p1: a list of parameters
  pub parameters : Trees → State → Option (After (List OneParameter))
  parameters NoTrees s = give (Some []) s
  parameters (Then before x) s = parameters before s >>= parameter_in x

  -- 6.7.6.3p1: one parameter
  pub parameter_in : Tree → After (List OneParameter) → Option (After (List OneParameter))
  parameter_in (OfDeclaration (Parameter line specs d)) p = do
    a ← specifiers specs p.state
    b ← type_without_storage a
    c ← optional_steps d b.state
    and_then (and_then (derived_type true (env c.state) c.value.list b.value) adjustment_of) (with_parameter p.value (optional_name d) c.state)
  parameter_in _ p = None
