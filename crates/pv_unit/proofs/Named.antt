-- Typing expressions, specifiers, declarators and type names leaves the names of the unit as they were, and each new object has the name
-- of an identifier (C17 6.4.2.1, 6.5, 6.7).
use Rattle.std.proofs.Common.{◌≡◌, ℕ, zero, suc, ℤ, pos, ◌-◌, ◌+ℤ◌, Bool, true, false, Option, Some, None, is_some, List, [], ◌∷◌, ◌++◌, length, take, set, get_or, refl, subst}
use Rattle.std.specs.Prelude.{if◌then◌else◌}
use Rattle.std.specs.Bool.{beq}
use Rattle.pv_token.specs.declared.words.Word.{Word}
use Rattle.pv_token.specs.declared.words.Word.TheVariants as word
use Rattle.pv_types.specs.Ty.{Ty}
use Rattle.pv_types.specs.Layouts.{Named, tag_type}
use Rattle.pv_tree.specs.Syntax.{ExpressionTree, Name, Number, Character, Text, Paren, Index, Call, Member, Arrow, PostIncrement, PostDecrement, PreIncrement, PreDecrement, Unary, SizeofExpr, SizeofType, Cast, Binary, Conditional, Assign, Comma, ArgumentTrees, NoArguments, Argument, DeclarationTree, Function as FunctionTree, Declaration, InitDeclarator, MemberDeclaration, Enumerator, Parameter, TypeName, DeclaratorTree, DeclaredName, ParenDeclarator, Pointer, Array, FunctionDeclarator, AbstractParen, AbstractPointer, AbstractArray, AbstractFunction, SpecifierTree, Keyword, Composite, Enumeration, Tag, TypedefName, Tree, OfExpression, OfDeclaration, OfDeclarator, OfSpecifier, OfInitializer, OfStatement, Trees, NoTrees, Then, OptionalTree, Absent, Present}
use Rattle.pv_typed.specs.Known.{Each}
use Rattle.pv_typed.specs.TypedTree.{TypedTree}
use Rattle.pv_typed.specs.TypedUnits.{WholeUnit, TypedObject, TypedFunction, object_at, function_at}
use Rattle.pv_typed.specs.UnitParts.{no_object, no_function}
use Rattle.pv_typed.proofs.Each.{each_append}
use Rattle.pv_check.specs.State.{State, After, env, Meaning, ObjectName, FunctionName, TypedefOf, ConstantOf, TagMeaning, CompositeTag, EnumerationTag, OpenEnumeration, give}
use Rattle.pv_check.specs.Scopes.{look, look_tag, find, innermost_scope, in_new_scope, bind, bind_tag}
use Rattle.pv_typed.specs.Constants.{and_then}
use Rattle.pv_check.specs.Specifiers.{Seen}
use Rattle.pv_check.specs.Tags.{with_member, tag_named, composite_named, enumeration_named, tag_before_list, opened_named, is_open, completion_of, with_done, filed_with, opened_enumeration, closed_enumeration, enumerator_step, is_union_word}
use Rattle.pv_check.specs.TagParts.{some_members}
use Rattle.pv_check.specs.Derivations.{Parameter as OneParameter, Steps, declared_name, optional_name, may_be_variadic, Signature, proper_parameters, with_function, with_parameter, with_object, derived_type, adjustment_of}
use Rattle.pv_check.specs.Primary.{name_of}
use Rattle.pv_check.specs.PrimaryParts.{is_of_library}
use Rattle.pv_check.specs.Rows.{operand, integer_value, type_without_storage, member_of, callee, called_by}
use Rattle.pv_check.specs.RowParts.{by_function}
use Rattle.pv_check.specs.Typing.{types, arguments, type_named, specifiers, specifier_in, specifier, members, member_in, member_declarators, member_declarator, enumerators, enumerator_in, enumerator_value, steps, optional_steps, array_size, parameters, parameter_in}
use Rattle.pv_unit.specs.Redeclarations.{unit_name}

-- the number of a name is that of an identifier, behind the two names that no source has
abbrev pub IsOfSource : ℕ → Type 0
IsOfSource n = (i : ℕ) × (n ≡ unit_name i)

-- the unit's names are these, and each object and each function has the name of an identifier
abbrev pub AreNamed : List (List ℕ) → WholeUnit → Type 0
AreNamed n u = (u.names ≡ n) × Each (λ (x : TypedObject). IsOfSource x.name) u.objects × Each (λ (x : TypedFunction). IsOfSource x.name) u.functions

-- one of a list is changed, and what holds of each stays
each_set : {A : Type 0} (P : A → Type 0) (z : A) (f : A → A) → ((x : A) → P x → P (f x)) → (xs : List A) (i : ℕ) → Each P xs → Each P (set xs i (f (get_or xs i z)))
each_set P z f k [] i h = tt
each_set P z f k (x ∷ xs) zero h = (k x h.0, h.1)
each_set P z f k (x ∷ xs) (suc i) h = (h.0, each_set P z f k xs i h.1)

abbrev object_new : ℕ → ℕ → Ty → Bool → TypedObject
object_new k line t lasting = record { name = unit_name k; t = t; line = line; lasting = lasting; braced = false; inits = [] }

abbrev function_new : ℕ → ℕ → Ty → TypedFunction
function_new k line t = record { name = unit_name k; t = t; line = line; params = []; body = None }

-- 6.2.1p7: one more object
pub object_added : (n : List (List ℕ)) (u : WholeUnit) (k line : ℕ) (t : Ty) (lasting : Bool) → AreNamed n u → AreNamed n (record u { objects = u.objects ++ (object_new k line t lasting ∷ []) })
object_added n u k line t lasting h = (h.0, each_append (λ (x : TypedObject). IsOfSource x.name) u.objects (object_new k line t lasting ∷ []) h.1 ((k, refl), tt), h.2)

-- 6.2.1p7: one more function
pub function_added : (n : List (List ℕ)) (u : WholeUnit) (k line : ℕ) (t : Ty) → AreNamed n u → AreNamed n (record u { functions = u.functions ++ (function_new k line t ∷ []) })
function_added n u k line t h = (h.0, h.1, each_append (λ (x : TypedFunction). IsOfSource x.name) u.functions (function_new k line t ∷ []) h.2 ((k, refl), tt))

-- 6.2.7p4, 6.7.9: a change of an object that leaves its name
pub object_changed : (n : List (List ℕ)) (u : WholeUnit) (o : ℕ) (f : TypedObject → TypedObject) → ((x : TypedObject) → IsOfSource x.name → IsOfSource (f x).name) → AreNamed n u → AreNamed n (record u { objects = set u.objects o (f (object_at u o)) })
object_changed n u o f k h = (h.0, each_set (λ (x : TypedObject). IsOfSource x.name) no_object f k u.objects o h.1, h.2)

-- 6.2.7p4, 6.9.1: a change of a function that leaves its name
pub function_changed : (n : List (List ℕ)) (u : WholeUnit) (o : ℕ) (f : TypedFunction → TypedFunction) → ((x : TypedFunction) → IsOfSource x.name → IsOfSource (f x).name) → AreNamed n u → AreNamed n (record u { functions = set u.functions o (f (function_at u o)) })
function_changed n u o f k h = (h.0, h.1, each_set (λ (x : TypedFunction). IsOfSource x.name) no_function f k u.functions o h.2)

-- where there is an answer, it is so behind it
pub record Keeps {A : Type 0} (n : List (List ℕ)) (o : Option (After A)) : Type 0 where
  pub held : (a : After A) → o ≡ Some a → AreNamed n a.state.unit

pub none_keeps : {A : Type 0} (n : List (List ℕ)) → Keeps {A = A} n None
none_keeps n = record { held = λ a e. absurd cc }

pub some_keeps : {A : Type 0} (n : List (List ℕ)) (x : A) (s : State) → AreNamed n s.unit → Keeps n (Some (record { value = x; state = s }))
some_keeps {A} n x s h = record { held = λ a e. same a e }
  where
    same : (a : After A) → Some (record { value = x; state = s }) ≡ Some a → AreNamed n a.state.unit
    same a e = let f : record { value = x; state = s } ≡ a = cc in subst (λ (y : After A). AreNamed n y.state.unit) f h

pub give_keeps : {A : Type 0} (n : List (List ℕ)) (o : Option A) (s : State) → AreNamed n s.unit → Keeps n (give o s)
give_keeps n None s h = none_keeps n
give_keeps n (Some x) s h = some_keeps n x s h

pub then_keeps : {A B : Type 0} (n : List (List ℕ)) (o : Option (After A)) (f : After A → Option (After B)) → Keeps n o → ((a : After A) → AreNamed n a.state.unit → Keeps n (f a)) → Keeps n (and_then o f)
then_keeps n None f h k = none_keeps n
then_keeps n (Some a) f h k = k a (h.held a refl)

-- something that is no state before
pub value_then : {A B : Type 0} (n : List (List ℕ)) (o : Option A) (f : A → Option (After B)) → ((a : A) → Keeps n (f a)) → Keeps n (and_then o f)
value_then n None f k = none_keeps n
value_then n (Some a) f k = k a

pub if_keeps : {A : Type 0} (n : List (List ℕ)) (b : Bool) (x : Option (After A)) → Keeps n x → Keeps n (if b then x else None)
if_keeps n true x h = h
if_keeps n false x h = none_keeps n

unless_keeps : {A : Type 0} (n : List (List ℕ)) (b : Bool) (x : Option (After A)) → Keeps n x → Keeps n (if b then None else x)
unless_keeps n true x h = none_keeps n
unless_keeps n false x h = h

pub operand_keeps : (n : List (List ℕ)) (o : Option (After TypedTree)) → Keeps n o → Keeps n (operand o)
operand_keeps n None h = none_keeps n
operand_keeps n (Some a) h = give_keeps n _ a.state (h.held a refl)

integer_keeps : (n : List (List ℕ)) (o : Option (After TypedTree)) → Keeps n o → Keeps n (integer_value o)
integer_keeps n None h = none_keeps n
integer_keeps n (Some a) h = give_keeps n _ a.state (h.held a refl)

-- 6.5.2.2p1: what a call calls
called_keeps : (n : List (List ℕ)) (o : Option ℕ) (s : State) (a : Option (After TypedTree)) → AreNamed n s.unit → Keeps n a → Keeps n (called_by o s a)
called_keeps n (Some f) s a h k = some_keeps n _ _ h
called_keeps n None s None h k = none_keeps n
called_keeps n None s (Some a) h k = some_keeps n _ a.state (k.held a refl)

name_keeps : (n : List (List ℕ)) (line : ℕ) (m : Option Meaning) (s : State) → AreNamed n s.unit → Keeps n (name_of line m s)
name_keeps n line None s h = none_keeps n
name_keeps n line (Some (ObjectName o)) s h = some_keeps n _ _ h
name_keeps n line (Some (FunctionName f)) s h = unless_keeps n (is_of_library s f) _ (some_keeps n _ _ h)
name_keeps n line (Some (TypedefOf t)) s h = none_keeps n
name_keeps n line (Some (ConstantOf v)) s h = some_keeps n _ s h

-- ---- tags

pub named_keeps : (n : List (List ℕ)) (union : Bool) (k : ℕ) (m : Option TagMeaning) (s : State) → AreNamed n s.unit → Keeps n (composite_named union k m s)
named_keeps n union k None s h = some_keeps n _ _ h
named_keeps n union k (Some (CompositeTag u i)) s h = if_keeps n (beq u union) _ (some_keeps n _ s h)
named_keeps n union k (Some EnumerationTag) s h = none_keeps n
named_keeps n union k (Some OpenEnumeration) s h = none_keeps n

enumeration_keeps : (n : List (List ℕ)) (m : Option TagMeaning) (s : State) → AreNamed n s.unit → Keeps n (enumeration_named m s)
enumeration_keeps n None s h = none_keeps n
enumeration_keeps n (Some (CompositeTag u i)) s h = none_keeps n
enumeration_keeps n (Some EnumerationTag) s h = some_keeps n _ s h
enumeration_keeps n (Some OpenEnumeration) s h = none_keeps n

pub tag_keeps : (n : List (List ℕ)) (w : Word) (k : ℕ) (s : State) → AreNamed n s.unit → Keeps n (tag_named w k s)
tag_keeps n word.Struct k s h = named_keeps n false k (look_tag s.scopes k) s h
tag_keeps n word.Union k s h = named_keeps n true k (look_tag s.scopes k) s h
tag_keeps n word.Enum k s h = enumeration_keeps n (look_tag s.scopes k) s h
tag_keeps n _ k s h = none_keeps n

opened_at_keeps : (n : List (List ℕ)) (union : Bool) (k : ℕ) (m : Option TagMeaning) (s : State) → AreNamed n s.unit → Keeps n (opened_named union k m s)
opened_at_keeps n union k None s h = some_keeps n _ _ h
opened_at_keeps n union k (Some (CompositeTag u i)) s h = if_keeps n _ _ (some_keeps n i s h)
opened_at_keeps n union k (Some EnumerationTag) s h = none_keeps n
opened_at_keeps n union k (Some OpenEnumeration) s h = none_keeps n

opened_keeps : (n : List (List ℕ)) (union : Bool) (k : Option ℕ) (s : State) → AreNamed n s.unit → Keeps n (tag_before_list union k s)
opened_keeps n union None s h = some_keeps n _ _ h
opened_keeps n union (Some k) s h = opened_at_keeps n union k _ s h

filed_same : (n : List (List ℕ)) (k : Option ℕ) (t : Ty) (s : State) → AreNamed n s.unit → AreNamed n (filed_with k t s).unit
filed_same n None t s h = h
filed_same n (Some k) t s h = here _
  where
    here : (b : Bool) → AreNamed n (if b then record s { unit = record s.unit { tags = s.unit.tags ++ (t ∷ []) } } else s).unit
    here true = h
    here false = h

completed_keeps : (n : List (List ℕ)) (union : Bool) (k : Option ℕ) (i : ℕ) (ms : List Named) (s : State) → AreNamed n s.unit → Keeps n (completion_of union k i ms s)
completed_keeps n union k i ms s h =
    if_keeps n (is_open s i) _ (if_keeps n _ _ (some_keeps n (tag_type union i) _ (filed_same n k (tag_type union i) (with_done union i ms s) h)))

some_members_keep : (n : List (List ℕ)) (a : After (List Named)) → AreNamed n a.state.unit → Keeps n (some_members a)
some_members_keep n a h = if_keeps n _ _ (some_keeps n a.value a.state h)

enumerated_keeps : (n : List (List ℕ)) (k : ℕ) (v : ℤ) (s : State) → AreNamed n s.unit → Keeps n (enumerator_step k v s)
enumerated_keeps n k v s h = if_keeps n _ _ (here (is_some (find (innermost_scope s.scopes).names k)))
  where
    here : (b : Bool) → Keeps n (and_then (if b then None else Some (bind k (ConstantOf v) s)) (give (Some (v +ℤ pos 1))))
    here true = none_keeps n
    here false = some_keeps n _ _ h

-- an enumeration's tag before its list, and behind it
opened_then : {A : Type 0} (n : List (List ℕ)) (k : Option ℕ) (s : State) (f : State → Option (After A)) → AreNamed n s.unit → ((z : State) → AreNamed n z.unit → Keeps n (f z)) → Keeps n (and_then (opened_enumeration k s) f)
opened_then n None s f h g = g s h
opened_then {A} n (Some k) s f h g = here (is_some (find (innermost_scope s.scopes).tags k))
  where
    here : (b : Bool) → Keeps n (and_then (if b then None else Some (bind_tag k OpenEnumeration s)) f)
    here true = none_keeps n
    here false = g (bind_tag k OpenEnumeration s) h

closed_same : (n : List (List ℕ)) (k : Option ℕ) (s : State) → AreNamed n s.unit → AreNamed n (closed_enumeration k s).unit
closed_same n None s h = h
closed_same n (Some k) s h = h

-- ---- parameters

parameter_keeps : (n : List (List ℕ)) (ps : List OneParameter) (k : Option (ℕ × ℕ)) (s : State) (t : Ty) → AreNamed n s.unit → Keeps n (with_parameter ps k s t)
parameter_keeps n ps None s t h = some_keeps n _ s h
parameter_keeps n ps (Some (k, line)) s t h = here (is_some (find (innermost_scope s.scopes).names k))
  where
    here : (b : Bool) → Keeps n (and_then (if b then None else Some (bind k (ObjectName (length s.unit.objects)) s)) (λ (x : State). give (Some (ps ++ (record { t = t; name = Some k; object = Some (length s.unit.objects) } ∷ []))) (with_object (Some (k, line)) t x)))
    here true = none_keeps n
    here false = some_keeps n _ _ (object_added n s.unit k line t false h)

-- a list of parameters in a scope of its own
list_keeps : (n : List (List ℕ)) (v : Bool) (x : Steps) (o : Option (After (List OneParameter))) → Keeps n o → Keeps n (and_then o (by_function v x))
list_keeps n v x None h = none_keeps n
list_keeps n v x (Some a) h = here (proper_parameters v a.value)
  where
    here : (o : Option (List OneParameter)) → Keeps n (and_then (and_then o (λ ps. give (Some (record { parameters = ps; variadic = v; scope = innermost_scope a.state.scopes })) (record a.state { scopes = take (length a.state.scopes - 1) a.state.scopes }))) (λ (g : After Signature). give (Some (with_function x g.value)) g.state))
    here None = none_keeps n
    here (Some ps) = some_keeps n _ _ (h.held a refl)

member_keeps : (k : Option (ℕ × ℕ)) (t : Ty) (ms : List Named) (n : List (List ℕ)) (a : After Steps) → AreNamed n a.state.unit → Keeps n (member_of k t ms a)
member_keeps None t ms n a h = none_keeps n
member_keeps (Some (k, line)) t ms n a h = value_then n (derived_type false (env a.state) a.value.list t) _ (λ (u : Ty). give_keeps n (with_member a.state ms k u) a.state h)

plain_keeps : {B : Type 0} (n : List (List ℕ)) (a : After Seen) (f : After Ty → Option (After B)) → AreNamed n a.state.unit → ((b : After Ty) → AreNamed n b.state.unit → Keeps n (f b)) → Keeps n (and_then (type_without_storage a) f)
plain_keeps n a f h k = then_keeps n (type_without_storage a) f (give_keeps n _ a.state h) k

mutual
  pub types_keep : (e : ExpressionTree) (n : List (List ℕ)) (s : State) → AreNamed n s.unit → Keeps n (types e s)
  types_keep (Name line k) n s h = name_keeps n line (look s.scopes k) s h
  types_keep (Number line value decimal unsigned longs) n s h = give_keeps n _ s h
  types_keep (Character line value) n s h = some_keeps n _ s h
  types_keep (Text line first more) n s h = some_keeps n _ _ h
  types_keep (Paren line a) n s h = types_keep a n s h
  types_keep (Index line a b) n s h = then_keeps n _ _ (operand_keeps n _ (types_keep a n s h)) (λ l k. then_keeps n _ _ (operand_keeps n _ (types_keep b n l.state k)) (λ m j. give_keeps n _ m.state j))
  types_keep (Call line f args) n s h = then_keeps n _ _ (called_keeps n (callee s.scopes f) s _ h (operand_keeps n _ (types_keep f n s h))) (λ c k. then_keeps n _ _ (arguments_keep args n c.state k) (λ m j. give_keeps n _ m.state j))
  types_keep (Member line a k) n s h = then_keeps n _ _ (types_keep a n s h) (λ m j. give_keeps n _ m.state j)
  types_keep (Arrow line a k) n s h = then_keeps n _ _ (operand_keeps n _ (types_keep a n s h)) (λ m j. give_keeps n _ m.state j)
  types_keep (PostIncrement line a) n s h = then_keeps n _ _ (types_keep a n s h) (λ m j. give_keeps n _ m.state j)
  types_keep (PostDecrement line a) n s h = then_keeps n _ _ (types_keep a n s h) (λ m j. give_keeps n _ m.state j)
  types_keep (PreIncrement line a) n s h = then_keeps n _ _ (types_keep a n s h) (λ m j. give_keeps n _ m.state j)
  types_keep (PreDecrement line a) n s h = then_keeps n _ _ (types_keep a n s h) (λ m j. give_keeps n _ m.state j)
  types_keep (Unary line op a) n s h = then_keeps n _ _ (types_keep a n s h) (λ m j. give_keeps n _ m.state j)
  types_keep (SizeofExpr line a) n s h = then_keeps n _ _ (types_keep a n (record s { unevaluated = true }) h) (λ m j. give_keeps n _ _ j)
  types_keep (SizeofType line t) n s h = then_keeps n _ _ (type_keeps t n (record s { unevaluated = true }) h) (λ m j. give_keeps n _ _ j)
  types_keep (Cast line t a) n s h = then_keeps n _ _ (type_keeps t n s h) (λ l k. then_keeps n _ _ (operand_keeps n _ (types_keep a n l.state k)) (λ m j. give_keeps n _ m.state j))
  types_keep (Binary line op a b) n s h = then_keeps n _ _ (operand_keeps n _ (types_keep a n s h)) (λ l k. then_keeps n _ _ (operand_keeps n _ (types_keep b n l.state k)) (λ m j. give_keeps n _ m.state j))
  types_keep (Conditional line a b c) n s h = then_keeps n _ _ (operand_keeps n _ (types_keep a n s h)) (λ l k. then_keeps n _ _ (operand_keeps n _ (types_keep b n l.state k)) (λ m j. then_keeps n _ _ (operand_keeps n _ (types_keep c n m.state j)) (λ o i. give_keeps n _ o.state i)))
  types_keep (Assign line op a b) n s h = then_keeps n _ _ (types_keep a n s h) (λ l k. then_keeps n _ _ (operand_keeps n _ (types_keep b n l.state k)) (λ m j. give_keeps n _ m.state j))
  types_keep (Comma line a b) n s h = then_keeps n _ _ (operand_keeps n _ (types_keep a n s h)) (λ l k. then_keeps n _ _ (operand_keeps n _ (types_keep b n l.state k)) (λ m j. some_keeps n _ m.state j))

  pub arguments_keep : (args : ArgumentTrees) (n : List (List ℕ)) (s : State) → AreNamed n s.unit → Keeps n (arguments args s)
  arguments_keep NoArguments n s h = some_keeps n _ s h
  arguments_keep (Argument before last) n s h = then_keeps n _ _ (arguments_keep before n s h) (λ l k. then_keeps n _ _ (operand_keeps n _ (types_keep last n l.state k)) (λ m j. some_keeps n _ m.state j))

  pub type_keeps : (t : DeclarationTree) (n : List (List ℕ)) (s : State) → AreNamed n s.unit → Keeps n (type_named t s)
  type_keeps (TypeName line specs d) n s h = then_keeps n _ _ (specifiers_keep specs n s h) (λ a i. plain_keeps n a _ i (λ b j. then_keeps n _ _ (optional_keeps d n b.state j) (λ c k. give_keeps n _ c.state k)))
  type_keeps (FunctionTree line specs d b) n s h = none_keeps n
  type_keeps (Declaration line specs ds) n s h = none_keeps n
  type_keeps (InitDeclarator line d i) n s h = none_keeps n
  type_keeps (MemberDeclaration line specs ds) n s h = none_keeps n
  type_keeps (Enumerator line k v) n s h = none_keeps n
  type_keeps (Parameter line specs d) n s h = none_keeps n

  pub specifiers_keep : (ts : Trees) (n : List (List ℕ)) (s : State) → AreNamed n s.unit → Keeps n (specifiers ts s)
  specifiers_keep NoTrees n s h = some_keeps n _ s h
  specifiers_keep (Then before x) n s h = then_keeps n _ _ (specifiers_keep before n s h) (λ a k. specifier_in_keeps x n a k)

  pub specifier_in_keeps : (x : Tree) (n : List (List ℕ)) (a : After Seen) → AreNamed n a.state.unit → Keeps n (specifier_in x a)
  specifier_in_keeps (OfSpecifier x) n a h = specifier_keeps x a.value n a.state h
  specifier_in_keeps (OfExpression x) n a h = none_keeps n
  specifier_in_keeps (OfDeclaration x) n a h = none_keeps n
  specifier_in_keeps (OfDeclarator x) n a h = none_keeps n
  specifier_in_keeps (OfInitializer x) n a h = none_keeps n
  specifier_in_keeps (OfStatement x) n a h = none_keeps n

  pub specifier_keeps : (x : SpecifierTree) (seen : Seen) (n : List (List ℕ)) (s : State) → AreNamed n s.unit → Keeps n (specifier x seen s)
  specifier_keeps (Keyword line w) seen n s h = give_keeps n _ s h
  specifier_keeps (TypedefName line k) seen n s h = give_keeps n _ s h
  specifier_keeps (Tag line w k) seen n s h = then_keeps n _ _ (tag_keeps n w k s h) (λ a i. give_keeps n _ a.state i)
  specifier_keeps (Composite line w k ms) seen n s h =
      then_keeps n _ _ (opened_keeps n (is_union_word w) k s h) (λ o i. then_keeps n _ _ (then_keeps n _ _ (members_keep ms n o.state i) (λ m j. some_members_keep n m j))
      (λ m j. then_keeps n _ _ (completed_keeps n (is_union_word w) k o.value m.value m.state j) (λ a q. give_keeps n _ a.state q)))
  specifier_keeps (Enumeration line k es comma) seen n s h =
      opened_then n k s _ h (λ z i. then_keeps n _ _ (enumerators_keep es n z i) (λ e j. give_keeps n _ _ (closed_same n k e.state j)))

  pub members_keep : (ts : Trees) (n : List (List ℕ)) (s : State) → AreNamed n s.unit → Keeps n (members ts s)
  members_keep NoTrees n s h = some_keeps n _ s h
  members_keep (Then before x) n s h = then_keeps n _ _ (members_keep before n s h) (λ m i. member_in_keeps x n m i)

  pub member_in_keeps : (x : Tree) (n : List (List ℕ)) (m : After (List Named)) → AreNamed n m.state.unit → Keeps n (member_in x m)
  member_in_keeps (OfDeclaration (MemberDeclaration line specs ds)) n m h =
      then_keeps n _ _ (specifiers_keep specs n m.state h) (λ a j. plain_keeps n a _ j (λ b k. declarators_keep ds b.value m.value n b.state k))
  member_in_keeps (OfDeclaration (FunctionTree line specs d b)) n m h = none_keeps n
  member_in_keeps (OfDeclaration (Declaration line specs ds)) n m h = none_keeps n
  member_in_keeps (OfDeclaration (InitDeclarator line d i)) n m h = none_keeps n
  member_in_keeps (OfDeclaration (Enumerator line k v)) n m h = none_keeps n
  member_in_keeps (OfDeclaration (Parameter line specs d)) n m h = none_keeps n
  member_in_keeps (OfDeclaration (TypeName line specs d)) n m h = none_keeps n
  member_in_keeps (OfExpression x) n m h = none_keeps n
  member_in_keeps (OfDeclarator x) n m h = none_keeps n
  member_in_keeps (OfSpecifier x) n m h = none_keeps n
  member_in_keeps (OfInitializer x) n m h = none_keeps n
  member_in_keeps (OfStatement x) n m h = none_keeps n

  pub declarators_keep : (ts : Trees) (t : Ty) (ms : List Named) (n : List (List ℕ)) (s : State) → AreNamed n s.unit → Keeps n (member_declarators ts t ms s)
  declarators_keep NoTrees t ms n s h = some_keeps n _ s h
  declarators_keep (Then before x) t ms n s h = then_keeps n _ _ (declarators_keep before t ms n s h) (λ m i. declarator_keeps t x n m i)

  pub declarator_keeps : (t : Ty) (x : Tree) (n : List (List ℕ)) (m : After (List Named)) → AreNamed n m.state.unit → Keeps n (member_declarator t x m)
  declarator_keeps t (OfDeclarator d) n m h = then_keeps n _ _ (steps_keep d n m.state h) (λ a j. member_keeps (declared_name d) t m.value n a j)
  declarator_keeps t (OfExpression x) n m h = none_keeps n
  declarator_keeps t (OfDeclaration x) n m h = none_keeps n
  declarator_keeps t (OfSpecifier x) n m h = none_keeps n
  declarator_keeps t (OfInitializer x) n m h = none_keeps n
  declarator_keeps t (OfStatement x) n m h = none_keeps n

  pub enumerators_keep : (ts : Trees) (n : List (List ℕ)) (s : State) → AreNamed n s.unit → Keeps n (enumerators ts s)
  enumerators_keep NoTrees n s h = some_keeps n _ s h
  enumerators_keep (Then before x) n s h = then_keeps n _ _ (enumerators_keep before n s h) (λ a i. enumerator_in_keeps x n a i)

  pub enumerator_in_keeps : (x : Tree) (n : List (List ℕ)) (a : After ℤ) → AreNamed n a.state.unit → Keeps n (enumerator_in x a)
  enumerator_in_keeps (OfDeclaration (Enumerator line k v)) n a h = then_keeps n _ _ (value_keeps v a.value n a.state h) (λ b j. enumerated_keeps n k b.value b.state j)
  enumerator_in_keeps (OfDeclaration (FunctionTree line specs d b)) n a h = none_keeps n
  enumerator_in_keeps (OfDeclaration (Declaration line specs ds)) n a h = none_keeps n
  enumerator_in_keeps (OfDeclaration (InitDeclarator line d i)) n a h = none_keeps n
  enumerator_in_keeps (OfDeclaration (MemberDeclaration line specs ds)) n a h = none_keeps n
  enumerator_in_keeps (OfDeclaration (Parameter line specs d)) n a h = none_keeps n
  enumerator_in_keeps (OfDeclaration (TypeName line specs d)) n a h = none_keeps n
  enumerator_in_keeps (OfExpression x) n a h = none_keeps n
  enumerator_in_keeps (OfDeclarator x) n a h = none_keeps n
  enumerator_in_keeps (OfSpecifier x) n a h = none_keeps n
  enumerator_in_keeps (OfInitializer x) n a h = none_keeps n
  enumerator_in_keeps (OfStatement x) n a h = none_keeps n

  pub value_keeps : (o : OptionalTree) (next : ℤ) (n : List (List ℕ)) (s : State) → AreNamed n s.unit → Keeps n (enumerator_value o next s)
  value_keeps Absent next n s h = some_keeps n _ s h
  value_keeps (Present (OfExpression a)) next n s h = integer_keeps n _ (operand_keeps n _ (types_keep a n s h))
  value_keeps (Present (OfDeclaration x)) next n s h = none_keeps n
  value_keeps (Present (OfDeclarator x)) next n s h = none_keeps n
  value_keeps (Present (OfSpecifier x)) next n s h = none_keeps n
  value_keeps (Present (OfInitializer x)) next n s h = none_keeps n
  value_keeps (Present (OfStatement x)) next n s h = none_keeps n

  pub steps_keep : (d : DeclaratorTree) (n : List (List ℕ)) (s : State) → AreNamed n s.unit → Keeps n (steps d s)
  steps_keep (DeclaredName line k) n s h = some_keeps n _ s h
  steps_keep (ParenDeclarator line d) n s h = steps_keep d n s h
  steps_keep (Pointer line consts d) n s h = then_keeps n _ _ (steps_keep d n s h) (λ m j. some_keeps n _ m.state j)
  steps_keep (Array line d z) n s h = then_keeps n _ _ (steps_keep d n s h) (λ a i. then_keeps n _ _ (size_keeps z n a.state i) (λ m j. some_keeps n _ m.state j))
  steps_keep (FunctionDeclarator line d ps v) n s h =
      if_keeps n (may_be_variadic v d s) _ (then_keeps n _ _ (steps_keep d n s h) (λ a i. list_keeps n v a.value _ (parameters_keep ps n (in_new_scope a.state) i)))
  steps_keep (AbstractParen line d) n s h = steps_keep d n s h
  steps_keep (AbstractPointer line consts d) n s h = then_keeps n _ _ (optional_keeps d n s h) (λ m j. some_keeps n _ m.state j)
  steps_keep (AbstractArray line d z) n s h = then_keeps n _ _ (optional_keeps d n s h) (λ a i. then_keeps n _ _ (size_keeps z n a.state i) (λ m j. some_keeps n _ m.state j))
  steps_keep (AbstractFunction line d ps true) n s h = none_keeps n
  steps_keep (AbstractFunction line d ps false) n s h =
      then_keeps n _ _ (optional_keeps d n s h) (λ a i. list_keeps n false a.value _ (parameters_keep ps n (in_new_scope a.state) i))

  pub optional_keeps : (o : OptionalTree) (n : List (List ℕ)) (s : State) → AreNamed n s.unit → Keeps n (optional_steps o s)
  optional_keeps Absent n s h = some_keeps n _ s h
  optional_keeps (Present (OfDeclarator d)) n s h = steps_keep d n s h
  optional_keeps (Present (OfExpression x)) n s h = none_keeps n
  optional_keeps (Present (OfDeclaration x)) n s h = none_keeps n
  optional_keeps (Present (OfSpecifier x)) n s h = none_keeps n
  optional_keeps (Present (OfInitializer x)) n s h = none_keeps n
  optional_keeps (Present (OfStatement x)) n s h = none_keeps n

  pub size_keeps : (o : OptionalTree) (n : List (List ℕ)) (s : State) → AreNamed n s.unit → Keeps n (array_size o s)
  size_keeps Absent n s h = some_keeps n _ s h
  size_keeps (Present (OfExpression a)) n s h = then_keeps n _ _ (integer_keeps n _ (operand_keeps n _ (types_keep a n s h))) (λ m j. value_then n _ _ (λ k. some_keeps n _ m.state j))
  size_keeps (Present (OfDeclaration x)) n s h = none_keeps n
  size_keeps (Present (OfDeclarator x)) n s h = none_keeps n
  size_keeps (Present (OfSpecifier x)) n s h = none_keeps n
  size_keeps (Present (OfInitializer x)) n s h = none_keeps n
  size_keeps (Present (OfStatement x)) n s h = none_keeps n

  pub parameters_keep : (ts : Trees) (n : List (List ℕ)) (s : State) → AreNamed n s.unit → Keeps n (parameters ts s)
  parameters_keep NoTrees n s h = some_keeps n _ s h
  parameters_keep (Then before x) n s h = then_keeps n _ _ (parameters_keep before n s h) (λ p i. parameter_in_keeps x n p i)

  pub parameter_in_keeps : (x : Tree) (n : List (List ℕ)) (p : After (List OneParameter)) → AreNamed n p.state.unit → Keeps n (parameter_in x p)
  parameter_in_keeps (OfDeclaration (Parameter line specs d)) n p h =
      then_keeps n _ _ (specifiers_keep specs n p.state h) (λ a j. plain_keeps n a _ j
      (λ b k. then_keeps n _ _ (optional_keeps d n b.state k) (λ c m. value_then n (and_then (derived_type true (env c.state) c.value.list b.value) adjustment_of) (with_parameter p.value (optional_name d) c.state) (λ t. parameter_keeps n p.value (optional_name d) c.state t m))))
  parameter_in_keeps (OfDeclaration (FunctionTree line specs d b)) n p h = none_keeps n
  parameter_in_keeps (OfDeclaration (Declaration line specs ds)) n p h = none_keeps n
  parameter_in_keeps (OfDeclaration (InitDeclarator line d i)) n p h = none_keeps n
  parameter_in_keeps (OfDeclaration (MemberDeclaration line specs ds)) n p h = none_keeps n
  parameter_in_keeps (OfDeclaration (Enumerator line k v)) n p h = none_keeps n
  parameter_in_keeps (OfDeclaration (TypeName line specs d)) n p h = none_keeps n
  parameter_in_keeps (OfExpression x) n p h = none_keeps n
  parameter_in_keeps (OfDeclarator x) n p h = none_keeps n
  parameter_in_keeps (OfSpecifier x) n p h = none_keeps n
  parameter_in_keeps (OfInitializer x) n p h = none_keeps n
  parameter_in_keeps (OfStatement x) n p h = none_keeps n
