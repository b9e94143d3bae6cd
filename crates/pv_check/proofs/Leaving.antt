-- Typing leaves as many scopes as there were.
use Rattle.std.proofs.Common.{◌≡◌, ℕ, ℤ, pos, ◌-◌, ◌+◌, ◌+ℤ◌, Bool, true, false, Option, Some, None, is_some, List, [], ◌∷◌, ◌++◌, length, take, refl, sym, ap, arith, ◌∙◌, length-set, length-append}
use Rattle.std.specs.Prelude.{if◌then◌else◌}
use Rattle.std.proofs.lemmas.List.{length-take-le, length-map}
use Rattle.std.specs.Bool.{beq}
use Rattle.pv_token.specs.declared.words.Word.{Word}
use Rattle.pv_token.specs.declared.words.Word.TheVariants as word
use Rattle.pv_types.specs.Ty.{Ty}
use Rattle.pv_types.specs.Layouts.{Named, tag_type}
use Rattle.pv_tree.specs.Syntax.{ExpressionTree, Name, Number, Character, Text, Paren, Index, Call, Member, Arrow, PostIncrement, PostDecrement, PreIncrement, PreDecrement, Unary, SizeofExpr, SizeofType, Cast, Binary, Conditional, Assign, Comma, ArgumentTrees, NoArguments, Argument, DeclarationTree, Function as FunctionTree, Declaration, InitDeclarator, MemberDeclaration, Enumerator, Parameter, TypeName, DeclaratorTree, DeclaredName, ParenDeclarator, Pointer, Array, FunctionDeclarator, AbstractParen, AbstractPointer, AbstractArray, AbstractFunction, SpecifierTree, Keyword, Composite, Enumeration, Tag, TypedefName, Tree, OfExpression, OfDeclaration, OfDeclarator, OfSpecifier, OfInitializer, OfStatement, Trees, NoTrees, Then, OptionalTree, Absent, Present}
use Rattle.pv_typed.specs.TypedTree.{TypedTree}
use Rattle.pv_typed.specs.Tables.{Stored}
use Rattle.pv_check.specs.Open.{state_of}
use Rattle.pv_check.specs.Raw.{Raw, scope_shown, scopes_shown}
use Rattle.pv_check.specs.State.{State, After, env, Meaning, ObjectName, FunctionName, TypedefOf, ConstantOf, TagMeaning, CompositeTag, EnumerationTag, OpenEnumeration, give}
use Rattle.pv_check.specs.Scopes.{look, look_tag, find, innermost_scope, in_new_scope, bind, bind_tag}
use Rattle.pv_typed.specs.Constants.{and_then}
use Rattle.pv_check.specs.Specifiers.{Seen}
use Rattle.pv_check.specs.Tags.{with_member, tag_named, composite_named, enumeration_named, tag_before_list, opened_named, is_open, completion_of, with_done, filed_with, opened_enumeration, closed_enumeration, enumerator_step, is_union_word, new_tag}
use Rattle.pv_check.specs.TagParts.{some_members}
use Rattle.pv_check.specs.Derivations.{Parameter as OneParameter, Steps, declared_name, optional_name, may_be_variadic, Signature, proper_parameters, with_function, with_parameter, with_object, derived_type, adjustment_of}
use Rattle.pv_check.specs.Primary.{name_of}
use Rattle.pv_check.specs.PrimaryParts.{designator_of, is_of_library}
use Rattle.pv_check.specs.Rows.{ByValue, operand, integer_value, type_without_storage, member_of, callee, called_by}
use Rattle.pv_check.specs.RowParts.{by_function}
use Rattle.pv_check.specs.Typing.{types, arguments, type_named, specifiers, specifier_in, specifier, members, member_in, member_declarators, member_declarator, enumerators, enumerator_in, enumerator_value, steps, optional_steps, array_size, parameters, parameter_in}

-- where there is an answer, there are n scopes behind it
pub record Leaves {A : Type 0} (n : ℕ) (o : Option (After A)) : Type 0 where
  pub held : (a : After A) → o ≡ Some a → length a.state.scopes ≡ n

none_leaves : {A : Type 0} (n : ℕ) → Leaves {A = A} n None
none_leaves n = record { held = λ a e. absurd cc }

some_leaves : {A : Type 0} (n : ℕ) (x : A) (s : State) → length s.scopes ≡ n → Leaves n (Some (record { value = x; state = s }))
some_leaves {A} n x s h = record { held = λ a e. same a e }
  where
    same : (a : After A) → Some (record { value = x; state = s }) ≡ Some a → length a.state.scopes ≡ n
    same a e = let f : record { value = x; state = s } ≡ a = cc in sym (ap (λ (y : After A). length y.state.scopes) f) ∙ h

give_leaves : {A : Type 0} (n : ℕ) (o : Option A) (s : State) → length s.scopes ≡ n → Leaves n (give o s)
give_leaves n None s h = none_leaves n
give_leaves n (Some x) s h = some_leaves n x s h

then_leaves : {A B : Type 0} (n : ℕ) (o : Option (After A)) (f : After A → Option (After B)) → Leaves n o → ((a : After A) → length a.state.scopes ≡ n → Leaves n (f a)) → Leaves n (and_then o f)
then_leaves n None f h k = none_leaves n
then_leaves n (Some a) f h k = k a (h.held a refl)

-- something that is no state before
value_then : {A B : Type 0} (n : ℕ) (o : Option A) (f : A → Option (After B)) → ((a : A) → Leaves n (f a)) → Leaves n (and_then o f)
value_then n None f k = none_leaves n
value_then n (Some a) f k = k a

if_leaves : {A : Type 0} (n : ℕ) (b : Bool) (x : Option (After A)) → Leaves n x → Leaves n (if b then x else None)
if_leaves n true x h = h
if_leaves n false x h = none_leaves n

operand_leaves : (n : ℕ) (o : Option (After TypedTree)) → Leaves n o → Leaves n (operand o)
operand_leaves n None h = none_leaves n
operand_leaves n (Some a) h = give_leaves n _ a.state (h.held a refl)

integer_leaves : (n : ℕ) (o : Option (After TypedTree)) → Leaves n o → Leaves n (integer_value o)
integer_leaves n None h = none_leaves n
integer_leaves n (Some a) h = give_leaves n _ a.state (h.held a refl)

called_leaves : (n : ℕ) (o : Option ℕ) (s : State) → length s.scopes ≡ n → (a : Option (After TypedTree)) → Leaves n a → Leaves n (called_by o s a)
called_leaves n (Some f) s h a k = some_leaves n _ _ h
called_leaves n None s h None k = none_leaves n
called_leaves n None s h (Some a) k = give_leaves n (Some (ByValue a.value)) a.state (k.held a refl)

name_leaves : (n line : ℕ) (m : Option Meaning) (s : State) → length s.scopes ≡ n → Leaves n (name_of line m s)
name_leaves n line None s h = none_leaves n
name_leaves n line (Some (ObjectName o)) s h = some_leaves n _ _ h
name_leaves n line (Some (FunctionName f)) s h = by (is_of_library s f)
  where
    by : (b : Bool) → Leaves n (if b then None else Some (designator_of line f s))
    by true = none_leaves n
    by false = some_leaves n _ _ h
name_leaves n line (Some (TypedefOf t)) s h = none_leaves n
name_leaves n line (Some (ConstantOf v)) s h = some_leaves n _ s h

-- ---- scopes

tag_bound : (n k : ℕ) (m : TagMeaning) (s : State) → length s.scopes ≡ n → length (bind_tag k m s).scopes ≡ n
tag_bound n k m s h = length-set s.scopes (length s.scopes - 1) _ ∙ h

name_bound : (n k : ℕ) (m : Meaning) (s : State) → length s.scopes ≡ n → length (bind k m s).scopes ≡ n
name_bound n k m s h = length-set s.scopes (length s.scopes - 1) _ ∙ h

-- ---- tags

named_leaves : (n : ℕ) (union : Bool) (k : ℕ) (m : Option TagMeaning) (s : State) → length s.scopes ≡ n → Leaves n (composite_named union k m s)
named_leaves n union k None s h = some_leaves n _ _ (tag_bound n k _ (new_tag (Some k) union s).state h)
named_leaves n union k (Some (CompositeTag u i)) s h = if_leaves n (beq u union) _ (some_leaves n _ s h)
named_leaves n union k (Some EnumerationTag) s h = none_leaves n
named_leaves n union k (Some OpenEnumeration) s h = none_leaves n

enumeration_leaves : (n : ℕ) (m : Option TagMeaning) (s : State) → length s.scopes ≡ n → Leaves n (enumeration_named m s)
enumeration_leaves n None s h = none_leaves n
enumeration_leaves n (Some (CompositeTag u i)) s h = none_leaves n
enumeration_leaves n (Some EnumerationTag) s h = some_leaves n _ s h
enumeration_leaves n (Some OpenEnumeration) s h = none_leaves n

tag_leaves : (n : ℕ) (w : Word) (k : ℕ) (s : State) → length s.scopes ≡ n → Leaves n (tag_named w k s)
tag_leaves n word.Struct k s h = named_leaves n false k (look_tag s.scopes k) s h
tag_leaves n word.Union k s h = named_leaves n true k (look_tag s.scopes k) s h
tag_leaves n word.Enum k s h = enumeration_leaves n (look_tag s.scopes k) s h
tag_leaves n _ k s h = none_leaves n

opened_at_leaves : (n : ℕ) (union : Bool) (k : ℕ) (m : Option TagMeaning) (s : State) → length s.scopes ≡ n → Leaves n (opened_named union k m s)
opened_at_leaves n union k None s h = some_leaves n _ _ (tag_bound n k _ (new_tag (Some k) union s).state h)
opened_at_leaves n union k (Some (CompositeTag u i)) s h = if_leaves n _ _ (some_leaves n i s h)
opened_at_leaves n union k (Some EnumerationTag) s h = none_leaves n
opened_at_leaves n union k (Some OpenEnumeration) s h = none_leaves n

opened_leaves : (n : ℕ) (union : Bool) (k : Option ℕ) (s : State) → length s.scopes ≡ n → Leaves n (tag_before_list union k s)
opened_leaves n union None s h = some_leaves n _ _ h
opened_leaves n union (Some k) s h = opened_at_leaves n union k _ s h

filed_same : (k : Option ℕ) (t : Ty) (s : State) → (filed_with k t s).scopes ≡ s.scopes
filed_same None t s = refl
filed_same (Some k) t s = here _
  where
    here : (b : Bool) → (if b then record s { unit = record s.unit { tags = s.unit.tags ++ (t ∷ []) } } else s).scopes ≡ s.scopes
    here true = refl
    here false = refl

completed_leaves : (n : ℕ) (union : Bool) (k : Option ℕ) (i : ℕ) (ms : List Named) (s : State) → length s.scopes ≡ n → Leaves n (completion_of union k i ms s)
completed_leaves n union k i ms s h =
    if_leaves n (is_open s i) _ (if_leaves n _ _ (some_leaves n (tag_type union i) _ (ap length (filed_same k (tag_type union i) (with_done union i ms s)) ∙ h)))

some_members_leave : (n : ℕ) (a : After (List Named)) → length a.state.scopes ≡ n → Leaves n (some_members a)
some_members_leave n a h = if_leaves n _ _ (some_leaves n a.value a.state h)

enumerated_leaves : (n k : ℕ) (v : ℤ) (s : State) → length s.scopes ≡ n → Leaves n (enumerator_step k v s)
enumerated_leaves n k v s h = if_leaves n _ _ (here (is_some (find (innermost_scope s.scopes).names k)))
  where
    here : (b : Bool) → Leaves n (and_then (if b then None else Some (bind k (ConstantOf v) s)) (give (Some (v +ℤ pos 1))))
    here true = none_leaves n
    here false = some_leaves n _ _ (name_bound n k (ConstantOf v) s h)

-- an enumeration's tag before its list, and behind it
opened_then : {A : Type 0} (n : ℕ) (k : Option ℕ) (s : State) (f : State → Option (After A)) → length s.scopes ≡ n → ((z : State) → length z.scopes ≡ n → Leaves n (f z)) → Leaves n (and_then (opened_enumeration k s) f)
opened_then n None s f h g = g s h
opened_then {A} n (Some k) s f h g = here (is_some (find (innermost_scope s.scopes).tags k))
  where
    here : (b : Bool) → Leaves n (and_then (if b then None else Some (bind_tag k OpenEnumeration s)) f)
    here true = none_leaves n
    here false = g (bind_tag k OpenEnumeration s) (tag_bound n k OpenEnumeration s h)

closed_same : (n : ℕ) (k : Option ℕ) (s : State) → length s.scopes ≡ n → length (closed_enumeration k s).scopes ≡ n
closed_same n None s h = h
closed_same n (Some k) s h = tag_bound n k EnumerationTag s h

-- ---- parameters

parameter_leaves : (n : ℕ) (ps : List OneParameter) (k : Option (ℕ × ℕ)) (s : State) (t : Ty) → length s.scopes ≡ n → Leaves n (with_parameter ps k s t)
parameter_leaves n ps None s t h = some_leaves n _ s h
parameter_leaves n ps (Some (k, line)) s t h = here (is_some (find (innermost_scope s.scopes).names k))
  where
    here : (b : Bool) → Leaves n (and_then (if b then None else Some (bind k (ObjectName (length s.unit.objects)) s)) (λ (x : State). give (Some (ps ++ (record { t = t; name = Some k; object = Some (length s.unit.objects) } ∷ []))) (with_object (Some (k, line)) t x)))
    here true = none_leaves n
    here false = some_leaves n _ _ (name_bound n k (ObjectName (length s.unit.objects)) s h)

left_length : (n : ℕ) (s : State) → length s.scopes ≡ n + 1 → length (take (length s.scopes - 1) s.scopes) ≡ n
left_length n s h = let e : length (take (length s.scopes - 1) s.scopes) ≡ length s.scopes - 1 = length-take-le (length s.scopes - 1) s.scopes (omega arith) in omega (arith, e, h)

-- a list of parameters in a scope of its own
list_leaves : (n : ℕ) (v : Bool) (x : Steps) (o : Option (After (List OneParameter))) → Leaves (n + 1) o → Leaves n (and_then o (by_function v x))
list_leaves n v x None h = none_leaves n
list_leaves n v x (Some a) h = here (proper_parameters v a.value)
  where
    here : (o : Option (List OneParameter)) → Leaves n (and_then (and_then o (λ ps. give (Some (record { parameters = ps; variadic = v; scope = innermost_scope a.state.scopes })) (record a.state { scopes = take (length a.state.scopes - 1) a.state.scopes }))) (λ (g : After Signature). give (Some (with_function x g.value)) g.state))
    here None = none_leaves n
    here (Some ps) = some_leaves n _ _ (left_length n a.state (h.held a refl))

entered_length : (n : ℕ) (s : State) → length s.scopes ≡ n → length (in_new_scope s).scopes ≡ n + 1
entered_length n s h = omega (arith, h, length-append s.scopes (record { names = []; tags = [] } ∷ []))

member_leaves : (k : Option (ℕ × ℕ)) (t : Ty) (ms : List Named) (n : ℕ) (a : After Steps) → length a.state.scopes ≡ n → Leaves n (member_of k t ms a)
member_leaves None t ms n a h = none_leaves n
member_leaves (Some (k, line)) t ms n a h = value_then n (derived_type false (env a.state) a.value.list t) _ (λ (u : Ty). give_leaves n (with_member a.state ms k u) a.state h)

plain_leaves : {B : Type 0} (n : ℕ) (a : After Seen) (f : After Ty → Option (After B)) → length a.state.scopes ≡ n → ((b : After Ty) → length b.state.scopes ≡ n → Leaves n (f b)) → Leaves n (and_then (type_without_storage a) f)
plain_leaves n a f h k = then_leaves n (type_without_storage a) f (give_leaves n _ a.state h) k

mutual
  pub types_leave : (e : ExpressionTree) (n : ℕ) (s : State) → length s.scopes ≡ n → Leaves n (types e s)
  types_leave (Name line k) n s h = name_leaves n line (look s.scopes k) s h
  types_leave (Number line value decimal unsigned longs) n s h = give_leaves n _ s h
  types_leave (Character line value) n s h = some_leaves n _ s h
  types_leave (Text line first more) n s h = some_leaves n _ _ h
  types_leave (Paren line a) n s h = types_leave a n s h
  types_leave (Index line a b) n s h = then_leaves n _ _ (operand_leaves n _ (types_leave a n s h)) (λ l k. then_leaves n _ _ (operand_leaves n _ (types_leave b n l.state k)) (λ m j. give_leaves n _ m.state j))
  types_leave (Call line f args) n s h =
      then_leaves n _ _ (called_leaves n (callee s.scopes f) s h (operand (types f s)) (operand_leaves n _ (types_leave f n s h))) (λ c k. then_leaves n _ _ (arguments_leave args n c.state k) (λ m j. give_leaves n _ m.state j))
  types_leave (Member line a k) n s h = then_leaves n _ _ (types_leave a n s h) (λ m j. give_leaves n _ m.state j)
  types_leave (Arrow line a k) n s h = then_leaves n _ _ (operand_leaves n _ (types_leave a n s h)) (λ m j. give_leaves n _ m.state j)
  types_leave (PostIncrement line a) n s h = then_leaves n _ _ (types_leave a n s h) (λ m j. give_leaves n _ m.state j)
  types_leave (PostDecrement line a) n s h = then_leaves n _ _ (types_leave a n s h) (λ m j. give_leaves n _ m.state j)
  types_leave (PreIncrement line a) n s h = then_leaves n _ _ (types_leave a n s h) (λ m j. give_leaves n _ m.state j)
  types_leave (PreDecrement line a) n s h = then_leaves n _ _ (types_leave a n s h) (λ m j. give_leaves n _ m.state j)
  types_leave (Unary line op a) n s h = then_leaves n _ _ (types_leave a n s h) (λ m j. give_leaves n _ m.state j)
  types_leave (SizeofExpr line a) n s h = then_leaves n _ _ (types_leave a n (record s { unevaluated = true }) h) (λ m j. give_leaves n _ _ j)
  types_leave (SizeofType line t) n s h = then_leaves n _ _ (type_leaves t n (record s { unevaluated = true }) h) (λ m j. give_leaves n _ _ j)
  types_leave (Cast line t a) n s h = then_leaves n _ _ (type_leaves t n s h) (λ l k. then_leaves n _ _ (operand_leaves n _ (types_leave a n l.state k)) (λ m j. give_leaves n _ m.state j))
  types_leave (Binary line op a b) n s h = then_leaves n _ _ (operand_leaves n _ (types_leave a n s h)) (λ l k. then_leaves n _ _ (operand_leaves n _ (types_leave b n l.state k)) (λ m j. give_leaves n _ m.state j))
  types_leave (Conditional line a b c) n s h = then_leaves n _ _ (operand_leaves n _ (types_leave a n s h)) (λ l k. then_leaves n _ _ (operand_leaves n _ (types_leave b n l.state k)) (λ m j. then_leaves n _ _ (operand_leaves n _ (types_leave c n m.state j)) (λ o i. give_leaves n _ o.state i)))
  types_leave (Assign line op a b) n s h = then_leaves n _ _ (types_leave a n s h) (λ l k. then_leaves n _ _ (operand_leaves n _ (types_leave b n l.state k)) (λ m j. give_leaves n _ m.state j))
  types_leave (Comma line a b) n s h = then_leaves n _ _ (operand_leaves n _ (types_leave a n s h)) (λ l k. then_leaves n _ _ (operand_leaves n _ (types_leave b n l.state k)) (λ m j. some_leaves n _ m.state j))

  pub arguments_leave : (args : ArgumentTrees) (n : ℕ) (s : State) → length s.scopes ≡ n → Leaves n (arguments args s)
  arguments_leave NoArguments n s h = some_leaves n _ s h
  arguments_leave (Argument before last) n s h = then_leaves n _ _ (arguments_leave before n s h) (λ l k. then_leaves n _ _ (operand_leaves n _ (types_leave last n l.state k)) (λ m j. some_leaves n _ m.state j))

  pub type_leaves : (t : DeclarationTree) (n : ℕ) (s : State) → length s.scopes ≡ n → Leaves n (type_named t s)
  type_leaves (TypeName line specs d) n s h = then_leaves n _ _ (specifiers_leave specs n s h) (λ a i. plain_leaves n a _ i (λ b j. then_leaves n _ _ (optional_leaves d n b.state j) (λ c k. give_leaves n _ c.state k)))
  type_leaves (FunctionTree line specs d b) n s h = none_leaves n
  type_leaves (Declaration line specs ds) n s h = none_leaves n
  type_leaves (InitDeclarator line d i) n s h = none_leaves n
  type_leaves (MemberDeclaration line specs ds) n s h = none_leaves n
  type_leaves (Enumerator line k v) n s h = none_leaves n
  type_leaves (Parameter line specs d) n s h = none_leaves n

  pub specifiers_leave : (ts : Trees) (n : ℕ) (s : State) → length s.scopes ≡ n → Leaves n (specifiers ts s)
  specifiers_leave NoTrees n s h = some_leaves n _ s h
  specifiers_leave (Then before x) n s h = then_leaves n _ _ (specifiers_leave before n s h) (λ a k. specifier_in_leaves x n a k)

  pub specifier_in_leaves : (x : Tree) (n : ℕ) (a : After Seen) → length a.state.scopes ≡ n → Leaves n (specifier_in x a)
  specifier_in_leaves (OfSpecifier x) n a h = specifier_leaves x a.value n a.state h
  specifier_in_leaves (OfExpression x) n a h = none_leaves n
  specifier_in_leaves (OfDeclaration x) n a h = none_leaves n
  specifier_in_leaves (OfDeclarator x) n a h = none_leaves n
  specifier_in_leaves (OfInitializer x) n a h = none_leaves n
  specifier_in_leaves (OfStatement x) n a h = none_leaves n

  pub specifier_leaves : (x : SpecifierTree) (seen : Seen) (n : ℕ) (s : State) → length s.scopes ≡ n → Leaves n (specifier x seen s)
  specifier_leaves (Keyword line w) seen n s h = give_leaves n _ s h
  specifier_leaves (TypedefName line k) seen n s h = give_leaves n _ s h
  specifier_leaves (Tag line w k) seen n s h = then_leaves n _ _ (tag_leaves n w k s h) (λ a i. give_leaves n _ a.state i)
  specifier_leaves (Composite line w k ms) seen n s h =
      then_leaves n _ _ (opened_leaves n (is_union_word w) k s h) (λ o i. then_leaves n _ _ (then_leaves n _ _ (members_leave ms n o.state i) (λ m j. some_members_leave n m j))
      (λ m j. then_leaves n _ _ (completed_leaves n (is_union_word w) k o.value m.value m.state j) (λ a q. give_leaves n _ a.state q)))
  specifier_leaves (Enumeration line k es comma) seen n s h =
      opened_then n k s _ h (λ z i. then_leaves n _ _ (enumerators_leave es n z i) (λ e j. give_leaves n _ _ (closed_same n k e.state j)))

  pub members_leave : (ts : Trees) (n : ℕ) (s : State) → length s.scopes ≡ n → Leaves n (members ts s)
  members_leave NoTrees n s h = some_leaves n _ s h
  members_leave (Then before x) n s h = then_leaves n _ _ (members_leave before n s h) (λ m i. member_in_leaves x n m i)

  pub member_in_leaves : (x : Tree) (n : ℕ) (m : After (List Named)) → length m.state.scopes ≡ n → Leaves n (member_in x m)
  member_in_leaves (OfDeclaration (MemberDeclaration line specs ds)) n m h =
      then_leaves n _ _ (specifiers_leave specs n m.state h) (λ a j. plain_leaves n a _ j (λ b k. declarators_leave ds b.value m.value n b.state k))
  member_in_leaves (OfDeclaration (FunctionTree line specs d b)) n m h = none_leaves n
  member_in_leaves (OfDeclaration (Declaration line specs ds)) n m h = none_leaves n
  member_in_leaves (OfDeclaration (InitDeclarator line d i)) n m h = none_leaves n
  member_in_leaves (OfDeclaration (Enumerator line k v)) n m h = none_leaves n
  member_in_leaves (OfDeclaration (Parameter line specs d)) n m h = none_leaves n
  member_in_leaves (OfDeclaration (TypeName line specs d)) n m h = none_leaves n
  member_in_leaves (OfExpression x) n m h = none_leaves n
  member_in_leaves (OfDeclarator x) n m h = none_leaves n
  member_in_leaves (OfSpecifier x) n m h = none_leaves n
  member_in_leaves (OfInitializer x) n m h = none_leaves n
  member_in_leaves (OfStatement x) n m h = none_leaves n

  pub declarators_leave : (ts : Trees) (t : Ty) (ms : List Named) (n : ℕ) (s : State) → length s.scopes ≡ n → Leaves n (member_declarators ts t ms s)
  declarators_leave NoTrees t ms n s h = some_leaves n _ s h
  declarators_leave (Then before x) t ms n s h = then_leaves n _ _ (declarators_leave before t ms n s h) (λ m i. declarator_leaves t x n m i)

  pub declarator_leaves : (t : Ty) (x : Tree) (n : ℕ) (m : After (List Named)) → length m.state.scopes ≡ n → Leaves n (member_declarator t x m)
  declarator_leaves t (OfDeclarator d) n m h = then_leaves n _ _ (steps_leave d n m.state h) (λ a j. member_leaves (declared_name d) t m.value n a j)
  declarator_leaves t (OfExpression x) n m h = none_leaves n
  declarator_leaves t (OfDeclaration x) n m h = none_leaves n
  declarator_leaves t (OfSpecifier x) n m h = none_leaves n
  declarator_leaves t (OfInitializer x) n m h = none_leaves n
  declarator_leaves t (OfStatement x) n m h = none_leaves n

  pub enumerators_leave : (ts : Trees) (n : ℕ) (s : State) → length s.scopes ≡ n → Leaves n (enumerators ts s)
  enumerators_leave NoTrees n s h = some_leaves n _ s h
  enumerators_leave (Then before x) n s h = then_leaves n _ _ (enumerators_leave before n s h) (λ a i. enumerator_in_leaves x n a i)

  pub enumerator_in_leaves : (x : Tree) (n : ℕ) (a : After ℤ) → length a.state.scopes ≡ n → Leaves n (enumerator_in x a)
  enumerator_in_leaves (OfDeclaration (Enumerator line k v)) n a h = then_leaves n _ _ (value_leaves v a.value n a.state h) (λ b j. enumerated_leaves n k b.value b.state j)
  enumerator_in_leaves (OfDeclaration (FunctionTree line specs d b)) n a h = none_leaves n
  enumerator_in_leaves (OfDeclaration (Declaration line specs ds)) n a h = none_leaves n
  enumerator_in_leaves (OfDeclaration (InitDeclarator line d i)) n a h = none_leaves n
  enumerator_in_leaves (OfDeclaration (MemberDeclaration line specs ds)) n a h = none_leaves n
  enumerator_in_leaves (OfDeclaration (Parameter line specs d)) n a h = none_leaves n
  enumerator_in_leaves (OfDeclaration (TypeName line specs d)) n a h = none_leaves n
  enumerator_in_leaves (OfExpression x) n a h = none_leaves n
  enumerator_in_leaves (OfDeclarator x) n a h = none_leaves n
  enumerator_in_leaves (OfSpecifier x) n a h = none_leaves n
  enumerator_in_leaves (OfInitializer x) n a h = none_leaves n
  enumerator_in_leaves (OfStatement x) n a h = none_leaves n

  pub value_leaves : (o : OptionalTree) (next : ℤ) (n : ℕ) (s : State) → length s.scopes ≡ n → Leaves n (enumerator_value o next s)
  value_leaves Absent next n s h = some_leaves n _ s h
  value_leaves (Present (OfExpression a)) next n s h = integer_leaves n _ (operand_leaves n _ (types_leave a n s h))
  value_leaves (Present (OfDeclaration x)) next n s h = none_leaves n
  value_leaves (Present (OfDeclarator x)) next n s h = none_leaves n
  value_leaves (Present (OfSpecifier x)) next n s h = none_leaves n
  value_leaves (Present (OfInitializer x)) next n s h = none_leaves n
  value_leaves (Present (OfStatement x)) next n s h = none_leaves n

  pub steps_leave : (d : DeclaratorTree) (n : ℕ) (s : State) → length s.scopes ≡ n → Leaves n (steps d s)
  steps_leave (DeclaredName line k) n s h = some_leaves n _ s h
  steps_leave (ParenDeclarator line d) n s h = steps_leave d n s h
  steps_leave (Pointer line consts d) n s h = then_leaves n _ _ (steps_leave d n s h) (λ m j. some_leaves n _ m.state j)
  steps_leave (Array line d z) n s h = then_leaves n _ _ (steps_leave d n s h) (λ a i. then_leaves n _ _ (size_leaves z n a.state i) (λ m j. some_leaves n _ m.state j))
  steps_leave (FunctionDeclarator line d ps v) n s h =
      if_leaves n (may_be_variadic v d s) _ (then_leaves n _ _ (steps_leave d n s h) (λ a i. list_leaves n v a.value _ (parameters_leave ps (n + 1) (in_new_scope a.state) (entered_length n a.state i))))
  steps_leave (AbstractParen line d) n s h = steps_leave d n s h
  steps_leave (AbstractPointer line consts d) n s h = then_leaves n _ _ (optional_leaves d n s h) (λ m j. some_leaves n _ m.state j)
  steps_leave (AbstractArray line d z) n s h = then_leaves n _ _ (optional_leaves d n s h) (λ a i. then_leaves n _ _ (size_leaves z n a.state i) (λ m j. some_leaves n _ m.state j))
  steps_leave (AbstractFunction line d ps true) n s h = none_leaves n
  steps_leave (AbstractFunction line d ps false) n s h =
      then_leaves n _ _ (optional_leaves d n s h) (λ a i. list_leaves n false a.value _ (parameters_leave ps (n + 1) (in_new_scope a.state) (entered_length n a.state i)))

  pub optional_leaves : (o : OptionalTree) (n : ℕ) (s : State) → length s.scopes ≡ n → Leaves n (optional_steps o s)
  optional_leaves Absent n s h = some_leaves n _ s h
  optional_leaves (Present (OfDeclarator d)) n s h = steps_leave d n s h
  optional_leaves (Present (OfExpression x)) n s h = none_leaves n
  optional_leaves (Present (OfDeclaration x)) n s h = none_leaves n
  optional_leaves (Present (OfSpecifier x)) n s h = none_leaves n
  optional_leaves (Present (OfInitializer x)) n s h = none_leaves n
  optional_leaves (Present (OfStatement x)) n s h = none_leaves n

  pub size_leaves : (o : OptionalTree) (n : ℕ) (s : State) → length s.scopes ≡ n → Leaves n (array_size o s)
  size_leaves Absent n s h = some_leaves n _ s h
  size_leaves (Present (OfExpression a)) n s h = then_leaves n _ _ (integer_leaves n _ (operand_leaves n _ (types_leave a n s h))) (λ m j. value_then n _ _ (λ k. some_leaves n _ m.state j))
  size_leaves (Present (OfDeclaration x)) n s h = none_leaves n
  size_leaves (Present (OfDeclarator x)) n s h = none_leaves n
  size_leaves (Present (OfSpecifier x)) n s h = none_leaves n
  size_leaves (Present (OfInitializer x)) n s h = none_leaves n
  size_leaves (Present (OfStatement x)) n s h = none_leaves n

  pub parameters_leave : (ts : Trees) (n : ℕ) (s : State) → length s.scopes ≡ n → Leaves n (parameters ts s)
  parameters_leave NoTrees n s h = some_leaves n _ s h
  parameters_leave (Then before x) n s h = then_leaves n _ _ (parameters_leave before n s h) (λ p i. parameter_in_leaves x n p i)

  pub parameter_in_leaves : (x : Tree) (n : ℕ) (p : After (List OneParameter)) → length p.state.scopes ≡ n → Leaves n (parameter_in x p)
  parameter_in_leaves (OfDeclaration (Parameter line specs d)) n p h =
      then_leaves n _ _ (specifiers_leave specs n p.state h) (λ a j. plain_leaves n a _ j
      (λ b k. then_leaves n _ _ (optional_leaves d n b.state k) (λ c m. value_then n (and_then (derived_type true (env c.state) c.value.list b.value) adjustment_of) (with_parameter p.value (optional_name d) c.state) (λ t. parameter_leaves n p.value (optional_name d) c.state t m))))
  parameter_in_leaves (OfDeclaration (FunctionTree line specs d b)) n p h = none_leaves n
  parameter_in_leaves (OfDeclaration (Declaration line specs ds)) n p h = none_leaves n
  parameter_in_leaves (OfDeclaration (InitDeclarator line d i)) n p h = none_leaves n
  parameter_in_leaves (OfDeclaration (MemberDeclaration line specs ds)) n p h = none_leaves n
  parameter_in_leaves (OfDeclaration (Enumerator line k v)) n p h = none_leaves n
  parameter_in_leaves (OfDeclaration (TypeName line specs d)) n p h = none_leaves n
  parameter_in_leaves (OfExpression x) n p h = none_leaves n
  parameter_in_leaves (OfDeclarator x) n p h = none_leaves n
  parameter_in_leaves (OfSpecifier x) n p h = none_leaves n
  parameter_in_leaves (OfInitializer x) n p h = none_leaves n
  parameter_in_leaves (OfStatement x) n p h = none_leaves n

-- a list of parameters leaves as many scopes as it found
pub as_deep : (ts : Trees) (texts : List (List ℕ)) (u : Bool) (a b : Stored) (s t : Raw) (v : List OneParameter) → Some (record { value = v; state = state_of texts u t b }) ≡ parameters ts (state_of texts u s a) → length t.scopes ≡ length s.scopes
as_deep ts texts u a b s t v e =
    let held : length (scopes_shown b.known t.scopes) ≡ length (scopes_shown a.known s.scopes) = (parameters_leave ts (length (scopes_shown a.known s.scopes)) (state_of texts u s a) refl).held (record { value = v; state = state_of texts u t b }) (sym e) in
    sym (length-map t.scopes (scope_shown b.known)) ∙ held ∙ length-map s.scopes (scope_shown a.known)
