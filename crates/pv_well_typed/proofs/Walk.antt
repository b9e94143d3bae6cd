-- Typing of expressions, specifiers, declarators and type names (C17 6.5, 6.7): each expression that is typed is well typed in every later unit.
use Rattle.std.proofs.Common.{◌≡◌, ℕ, ◌<◌, ◌≤◌, ◌+◌, ◌==◌, ℤ, pos, Bool, true, false, not, ◌&&◌, Option, Some, None, is_some, List, [], ◌∷◌, ◌++◌, length, get_or, refl, sym, ap, subst, ◌∙◌, arith, length-append, append-nil}
use Rattle.std.specs.Prelude.{if◌then◌else◌, nat_lt}
use Rattle.std.proofs.lemmas.Bool.{eqb-true}
use Rattle.pv_types.specs.Formed.{AreComplete}
use Rattle.pv_types.specs.Layouts.{Entry, Named, is_complete_in}
use Rattle.pv_types.specs.Ty.{Ty, IntTy}
use Rattle.pv_num.specs.declared.kinds.IntKind.TheVariants.{Int}
use Rattle.pv_tree.specs.Syntax.{ExpressionTree, Name, Number, Character, Text, Paren, Index, Call, Member, Arrow, PostIncrement, PostDecrement, PreIncrement, PreDecrement, Unary, SizeofExpr, SizeofType, Cast, Binary, Conditional, Assign, Comma, ArgumentTrees, NoArguments, Argument, DeclarationTree, Function as FunctionTree, Declaration, InitDeclarator, MemberDeclaration, Enumerator, Parameter, TypeName, DeclaratorTree, DeclaredName, ParenDeclarator, Pointer, Array, FunctionDeclarator, AbstractParen, AbstractPointer, AbstractArray, AbstractFunction, SpecifierTree, Keyword, Composite, Enumeration, Tag, TypedefName, Tree, OfExpression, OfDeclaration, OfDeclarator, OfSpecifier, OfInitializer, OfStatement, Trees, NoTrees, Then, OptionalTree, Absent, Present}
use Rattle.pv_typed.specs.Known.{Each}
use Rattle.pv_typed.proofs.Each.{each_append}
use Rattle.pv_typed.specs.TypedTree.{TypedTree, Constant, Object, type_of, is_function}
use Rattle.pv_typed.specs.TypedUnits.{WholeUnit, TypedObject, TypedFunction, object_at}
use Rattle.pv_typed.specs.UnitParts.{no_object, no_function}
use Rattle.pv_typed.specs.declared.nodes.IncrementOperator.TheVariants as step_word
use Rattle.pv_check.specs.Assignment.{assign_of, comma_of}
use Rattle.pv_check.specs.Binary.{binary_of}
use Rattle.pv_check.specs.Conditional.{conditional_of}
use Rattle.pv_check.specs.Derivations.{size_of, Parameter as OneParameter, Steps, Derivation, ByPointer, ByArray, ByFunction, no_steps, with_step, declared_name, optional_name, may_be_variadic, is_printf_declarator, Signature, proper_parameters, parameter_types, with_function, with_parameter, derived_type, adjustment_of}
use Rattle.pv_check.specs.Postfix.{subscript_of, member_from, arrow_from, increment_of}
use Rattle.pv_library.specs.LibraryNames.{library_named}
use Rattle.pv_check.specs.Primary.{with_use, name_of, integer_of}
use Rattle.pv_check.specs.PrimaryParts.{used_function, designator_of, is_of_library, character_of}
use Rattle.pv_check.specs.StringLiterals.{bytes_of_text, text_of}
use Rattle.pv_check.specs.Rows.{operand, integer_value, within_sizeof, after_sizeof, callee, Callee, ByName, ByValue, called_by, call_by, type_without_storage, member_of}
use Rattle.pv_check.specs.RowParts.{known_size, by_pointer, by_array, named_type, parameter_of, with_argument, cast, with_callee, pointed_callee, by_function}
use Rattle.pv_check.specs.Specifiers.{Seen, with_keyword, with_type, typedef_of, specification_of, nothing_seen}
use Rattle.pv_check.specs.SpecifierParts.{without_storage}
use Rattle.pv_check.specs.State.{State, After, Scope, Meaning, ObjectName, FunctionName, TypedefOf, ConstantOf, Used, UsedObject, UsedFunction, give, env}
use Rattle.pv_check.specs.Scopes.{no_scope, look, find, innermost_scope, bind, in_new_scope, behind_scope, is_file_scope}
use Rattle.pv_typed.specs.Constants.{and_then}
use Rattle.pv_check.specs.ScopeParts.{names_in}
use Rattle.pv_check.specs.Tags.{is_union_word, with_member, completion_of, tag_before_list, closed_enumeration, tag_named, enumerator_step}
use Rattle.pv_check.specs.TagParts.{is_new_member, some_members}
use Rattle.pv_check.specs.Typing.{types, arguments, type_named, specifiers, specifier_in, specifier, members, member_in, member_declarators, member_declarator, enumerators, enumerator_in, enumerator_value, steps, optional_steps, array_size, parameters, parameter_in}
use Rattle.pv_check.specs.Values.{source_node}
use Rattle.pv_check.specs.Unary.{unary_of, sizeof_type, cast_of}
use Rattle.pv_guards.specs.Typed.{IsTyped}
use Rattle.pv_well_typed.specs.Proper.{IsProper}
use Rattle.pv_well_typed.specs.Later.{IsFinished, IsThere, Later, library_of}
use Rattle.pv_well_typed.specs.ProperStates.{IsMember, IsProperState, AreVisible, IsEvaluated}
use Rattle.pv_well_typed.specs.Characters.{HasCharacters, HaveCharacters}
use Rattle.pv_well_typed.proofs.Types.{no-function}
use Rattle.pv_well_typed.proofs.Operands.{IsExpression, IsOperand, as-made, some-same}
use Rattle.pv_well_typed.proofs.UnaryRows.{both-true, unary-row, sizeof-row, cast-row}
use Rattle.pv_well_typed.proofs.BinaryRows.{binary-row}
use Rattle.pv_well_typed.proofs.PostfixRows.{subscript-row, increment-row, member-row, arrow-row}
use Rattle.pv_well_typed.proofs.AssignmentRows.{assign-row, comma-row}
use Rattle.pv_well_typed.proofs.ConditionalRows.{conditional-row}
use Rattle.pv_well_typed.proofs.CallRows.{named-row, through-row}
use Rattle.pv_well_typed.proofs.PrimaryRows.{number-row, character-row, object-row, function-row, text-row, each-last, last-at}
use Rattle.pv_well_typed.proofs.Changes.{more_object, before-at, look-each, name-meaning, visible-meaning, use-later, use-proper, text-later, text-proper, object-later, object-proper, bind-proper, entered-proper, members-later}
use Rattle.pv_well_typed.proofs.Moving.{IsText, IsApart, identifier-apart, Outer, Grows, IsKnownMeaning, IsKnownUse, Orderly, HasMade, none-made, Moves, Gives, same-outer, same-moves, then-moves, then-grows, gives-none, gives-some, gives-here, gives-behind, gives-then, gives-value, gives-if, gives-unless, gives-from, gives-weaker, gives-operand, gives-integer, left-moves, left-proper}
use Rattle.pv_well_typed.proofs.DeclaredTypes.{from-some, HasProperName, keyword-proper, type-proper, plain-proper, IsPlainStep, IsPlainBehind, plain-more, behind-more, derived-proper, derived-named, adjusted-proper}
use Rattle.pv_well_typed.proofs.Callees.{called-function}
use Rattle.pv_well_typed.proofs.Laid.{HasCompleteMembers, complete-grown, member-complete, some-complete}
use Rattle.pv_well_typed.proofs.TagRows.{bind-moves, HasWord, HasProperType, tag-gives, opened-gives, HasMembers, some-members-gives, MayComplete, completed-gives, opened-then, closed-gives, enumerated-gives}
use Rattle.pv_well_typed.proofs.Literals.{written-orderly, text-bytes}

-- an expression that is typed, and an operand
abbrev pub IsTree : (E : Type 0) → WholeUnit → List ℕ → After TypedTree → Type 0
IsTree E v os a = IsExpression E v os a.value

abbrev pub IsValue : (E : Type 0) → WholeUnit → List ℕ → After TypedTree → Type 0
IsValue E v os a = IsOperand E v os a.value

-- where E is so, what is typed is evaluated (6.5.3.4p2), and the objects that names stand for live
abbrev pub Sees : (E : Type 0) → WholeUnit → List ℕ → State → Type 0
Sees E v os s = E → (s.unevaluated ≡ false) × AreVisible v os s.scopes

-- what a call calls: one of the functions that there are, which the unit defines at its end, or a value
abbrev pub IsCallee : (E : Type 0) → WholeUnit → List ℕ → (functions : ℕ) → Callee → Type 0
IsCallee E v os n (ByName f) = (f < n) × IsThere v (UsedFunction f)
IsCallee E v os n (ByValue a) = IsOperand E v os a

abbrev pub IsCalled : (E : Type 0) → WholeUnit → List ℕ → After Callee → Type 0
IsCalled E v os a = IsCallee E v os (length a.state.unit.functions) a.value

-- what is typed is evaluated, or not (6.5.3.4p2)
abbrev pub IsOn : Bool → Type 0
IsOn true = Unit {0}
IsOn false = ⊥

-- nothing is asked
abbrev pub U : Type 0
U = Unit {0}

abbrev pub IsAnything : {A : Type 0} → After A → Type 0
IsAnything a = Unit {0}

seen-behind : (E : Type 0) (v : WholeUnit) (os : List ℕ) (s t : State) → Moves (Unit {0}) v os s t → Sees E v os s → Sees E v os t
seen-behind E v os s t m h i = (m.evaluated ∙ (h i).0, m.names tt v os (h i).1)

-- 6.7.8p3: the type of a typedef name
typedef-type : (o : Option Meaning) (t : Ty) → typedef_of o ≡ Some t → o ≡ Some (TypedefOf t)
typedef-type None t e = absurd cc
typedef-type (Some (TypedefOf u)) t e = ap (λ (x : Ty). Some (TypedefOf x)) (some-same u t e)
typedef-type (Some (ObjectName o)) t e = absurd cc
typedef-type (Some (FunctionName f)) t e = absurd cc
typedef-type (Some (ConstantOf n)) t e = absurd cc

members-grown : (v : WholeUnit) (es fs : List Entry) (ms : List Named) → Grows es fs → Each (IsMember v es) ms → Each (IsMember v fs) ms
members-grown v es fs ms g h = subst (λ (xs : List Entry). Each (IsMember v xs) ms) (sym g.1) (members-later v es g.0 ms h)

-- 6.7.6: the steps of a declarator: `...` stands in the list of parameters of `printf` alone, at file scope
pub record IsSteps (file : Bool) (v : WholeUnit) (x : Steps) : Type 0 where
  pub behind : IsPlainBehind v x.list
  pub inner : file ≡ false → Each (IsPlainStep v) x.list

steps-made : (file : Bool) (v : WholeUnit) (x y : Steps) → x ≡ y → IsSteps file v x → IsSteps file v y
steps-made file v x y e h = subst (IsSteps file v) e h

steps-more : (file : Bool) (v : WholeUnit) (x : Steps) (d : Derivation) → IsPlainStep v d → IsSteps file v x → IsSteps file v (with_step x d)
steps-more file v x d p h = record { behind = behind-more v x.list d h.behind p; inner = λ f. plain-more v x.list d (h.inner f) p }

first-step : (v : WholeUnit) (ds : List Derivation) (d : Derivation) → ds ≡ [] → IsPlainBehind v (ds ++ (d ∷ []))
first-step v ds d e = subst (λ (xs : List Derivation). IsPlainBehind v (xs ++ (d ∷ []))) (sym e) tt

steps-function : (file c : Bool) (v : WholeUnit) (x : Steps) (g : Signature) → (c ≡ true → (file ≡ true) × (x.list ≡ [])) → g.variadic ≡ c → IsSteps file v x → IsSteps file v (with_function x g)
steps-function file true v x g named e h =
    let n = named refl in
    record { behind = first-step v x.list (ByFunction (parameter_types g.parameters) g.variadic) n.1; inner = λ f. absurd (true-false (sym n.0 ∙ f)) }
  where
    true-false : true ≡ false → ⊥
    true-false e = absurd cc
steps-function file false v x g named e h = record {
  behind = behind-more v x.list (ByFunction (parameter_types g.parameters) g.variadic) h.behind e;
  inner = λ f. plain-more v x.list (ByFunction (parameter_types g.parameters) g.variadic) (h.inner f) e;
}

-- 6.7.6.3p1: a list of parameters, and the scope that it leaves
abbrev pub made_signature : Bool → Scope → List OneParameter → Signature
made_signature c x ps = record { parameters = ps; variadic = c; scope = x }

-- 6.7.6.3p7: the parameters of a list
abbrev pub ParametersProper : WholeUnit → After (List OneParameter) → Type 0
ParametersProper v a = Each (λ (p : OneParameter). IsProper v p.t) a.value

file-same : (ss ts : List Scope) → Outer ss ts → (length ts == 1) ≡ (length ss == 1)
file-same ss ts o = ap (λ n. n == 1) o.deep

-- a scope within others is not that of the file
pub inner-file : (s : State) → 0 < length s.scopes → is_file_scope (in_new_scope s) ≡ false
inner-file s h = by (is_file_scope (in_new_scope s)) refl
  where
    by : (b : Bool) → (length (s.scopes ++ (no_scope ∷ [])) == 1) ≡ b → b ≡ false
    by false e = refl
    by true e =
        let l = length-append s.scopes (no_scope ∷ []) in
        let one : length (s.scopes ++ (no_scope ∷ [])) ≡ 1 = eqb-true (length (s.scopes ++ (no_scope ∷ []))) 1 e in
        absurd (omega (arith, l, one, h))

-- 6.9p5: an expression names something
used-orderly : (s : State) (x : Used) → IsKnownUse s.unit.names s.unit.functions x → Orderly s → Orderly (with_use s x)
used-orderly s x k h = record { names = h.names; uses = each_append (IsKnownUse s.unit.names s.unit.functions) s.used (x ∷ []) h.uses (k, tt); sources = h.sources; written = h.written; ended = h.ended; laid = h.laid; apart = h.apart }

-- 6.2.4p5: one object more
object-orderly : (x : TypedObject) (s : State) → IsApart x → Orderly s → Orderly (more_object x s)
object-orderly x s p h = record { names = h.names; uses = h.uses; sources = h.sources; written = h.written; ended = h.ended; laid = h.laid; apart = each_append IsApart s.unit.objects (x ∷ []) h.apart (p, tt) }

known-name : (s : State) → Orderly s → (n f : ℕ) → look s.scopes n ≡ Some (FunctionName f) → f < length s.unit.functions
known-name s h n f e = look-each names_in (IsKnownMeaning (length s.unit.functions)) n s.scopes h.names (FunctionName f) e

known-function : (b : Bool) (ns : List (List ℕ)) (fs : List TypedFunction) (f : ℕ) → f < length fs → library_named (get_or ns (get_or fs f no_function).name []) ≡ None → IsKnownUse ns fs (used_function b f)
known-function true ns fs f h e = h
known-function false ns fs f h e = (h, e)

-- 6.2.4p5: one object with automatic storage
automatic-made : (v : WholeUnit) (x : TypedObject) (s : State) → x.lasting ≡ false → HasMade v s (more_object x s)
automatic-made v x s automatic k o from below lasting =
    let l = length-append s.unit.objects (x ∷ []) in
    let at : o ≡ length s.unit.objects = omega (arith, from, below, l) in
    let both : true ≡ false = sym lasting ∙ ap (λ i. (object_at (more_object x s).unit i).lasting) at ∙ ap (λ (y : TypedObject). y.lasting) (last-at no_object s.unit.objects x) ∙ automatic in
    absurd cc

module _ (v : WholeUnit) (os : List ℕ) (done : IsFinished v) where
  any-premise : {A : Type 0} (F P : Type 0) (s : State) (Q : After A → Type 0) (o : Option (After A)) → Gives F v os U s Q o → Gives F v os P s Q o
  any-premise F P s Q o h = gives-weaker F F U P v os s Q Q o (λ f. f) (λ p. tt) (λ a q. q) h

  use-moves : (F : Type 0) (s : State) (x : Used) → (Orderly s → IsKnownUse s.unit.names s.unit.functions x) → Moves F v os s (with_use s x)
  use-moves F s x known = record { later = use-later v s x; outer = same-outer s.scopes; grows = ([], sym (append-nil (env s))); names = λ f w ps h. h; evaluated = refl; functions = refl; spelled = refl; noted = (refl, refl); orderly = λ h. used-orderly s x (known h) h; count = omega arith; older = λ o lt. refl }

  pub object-moves : (F : Type 0) (x : TypedObject) (s : State) → IsApart x → Moves F v os s (more_object x s)
  object-moves F x s p = record {
    later = object-later v x s;
    outer = same-outer s.scopes;
    grows = ([], sym (append-nil (env s)));
    names = λ f w ps h. h;
    evaluated = refl;
    functions = refl;
    spelled = refl;
    noted = (refl, refl);
    orderly = λ h. object-orderly x s p h;
    count = let l = length-append s.unit.objects (x ∷ []) in omega (arith, l);
    older = λ o lt. before-at no_object s.unit.objects (x ∷ []) o lt;
  }

  -- ---- rows of one, two and three operands

  one-gives : (E : Type 0) (s : State) (K : TypedTree → Type 0) (o : Option (After TypedTree)) (f : State → TypedTree → Option TypedTree) → Gives U v os U s (λ a. K a.value) o
      → ((t : State) (a : TypedTree) → Later t v → IsProperState v t → K a → (x : TypedTree) → f t a ≡ Some x → IsExpression E v os x)
      → Gives U v os U s (IsTree E v os) (and_then o (λ a. give (f a.state a.value) a.state))
  one-gives E s K o f h row =
      gives-then U v os U s (λ a. K a.value) (IsTree E v os) o (λ a. give (f a.state a.value) a.state) h
      (λ a m. gives-here U v os (U × K a.value) a.state (IsTree E v os) (f a.state a.value) (λ x e l p g. row a.state a.value l g p.1 x e))

  two-gives : (E : Type 0) (s : State) → Sees E v os s → (K : TypedTree → Type 0) (o : Option (After TypedTree)) (second : State → Option (After TypedTree)) (f : TypedTree → State → TypedTree → Option TypedTree)
      → Gives U v os U s (λ a. K a.value) o → ((t : State) → Sees E v os t → Gives U v os U t (IsValue E v os) (second t))
      → ((a : TypedTree) (t : State) (b : TypedTree) → Later t v → IsProperState v t → K a → IsOperand E v os b → (x : TypedTree) → f a t b ≡ Some x → IsExpression E v os x)
      → Gives U v os U s (IsTree E v os) (and_then o (λ a. and_then (second a.state) (λ b. give (f a.value b.state b.value) b.state)))
  two-gives E s sees K o second f h k row =
      gives-then U v os U s (λ a. K a.value) (IsTree E v os) o (λ a. and_then (second a.state) (λ b. give (f a.value b.state b.value) b.state)) h
      (λ a m. gives-then U v os (U × K a.value) a.state (IsValue E v os) (IsTree E v os) (second a.state) (λ b. give (f a.value b.state b.value) b.state)
      (any-premise U (U × K a.value) a.state (IsValue E v os) (second a.state) (k a.state (seen-behind E v os s a.state m sees)))
      (λ b n. gives-here U v os ((U × K a.value) × IsOperand E v os b.value) b.state (IsTree E v os) (f a.value b.state b.value) (λ x e l p g. row a.value b.state b.value l g p.0.1 p.1 x e)))

  three-gives : (E : Type 0) (line : ℕ) (s : State) → Sees E v os s → (o : Option (After TypedTree)) (second third : State → Option (After TypedTree))
      → Gives U v os U s (IsValue E v os) o → ((t : State) → Sees E v os t → Gives U v os U t (IsValue E v os) (second t)) → ((t : State) → Sees E v os t → Gives U v os U t (IsValue E v os) (third t))
      → Gives U v os U s (IsTree E v os) (and_then o (λ a. and_then (second a.state) (λ b. and_then (third b.state) (λ c. give (conditional_of line a.value b.value c.value) c.state))))
  three-gives E line s sees o second third h k j =
      gives-then U v os U s (IsValue E v os) (IsTree E v os) o (λ a. and_then (second a.state) (λ b. and_then (third b.state) (λ c. give (conditional_of line a.value b.value c.value) c.state))) h
      (λ a m. gives-then U v os (U × IsOperand E v os a.value) a.state (IsValue E v os) (IsTree E v os) (second a.state) (λ b. and_then (third b.state) (λ c. give (conditional_of line a.value b.value c.value) c.state))
      (any-premise U (U × IsOperand E v os a.value) a.state (IsValue E v os) (second a.state) (k a.state (seen-behind E v os s a.state m sees)))
      (λ b n. gives-then U v os ((U × IsOperand E v os a.value) × IsOperand E v os b.value) b.state (IsValue E v os) (IsTree E v os) (third b.state) (λ c. give (conditional_of line a.value b.value c.value) c.state)
      (any-premise U ((U × IsOperand E v os a.value) × IsOperand E v os b.value) b.state (IsValue E v os) (third b.state) (j b.state (seen-behind E v os a.state b.state n (seen-behind E v os s a.state m sees))))
      (λ c z. gives-here U v os (((U × IsOperand E v os a.value) × IsOperand E v os b.value) × IsOperand E v os c.value) c.state (IsTree E v os) (conditional_of line a.value b.value c.value)
      (λ x e l p g. conditional-row E v os line a.value b.value c.value p.0.0.1 p.0.1 p.1 x e))))

  -- ---- 6.5.1: primary expressions

  no-library : {A : Type 0} (o : Option A) → is_some o ≡ false → o ≡ None
  no-library None e = refl
  no-library (Some a) e = absurd cc

  name-gives : (E : Type 0) (line n : ℕ) (s : State) → Sees E v os s → (m : Option Meaning) → look s.scopes n ≡ m → Gives U v os U s (IsTree E v os) (name_of line m s)
  name-gives E line n s sees None e = gives-none U v os U s (IsTree E v os)
  name-gives E line n s sees (Some (ObjectName o)) e =
      gives-some U v os U s (IsTree E v os) (record { value = source_node line (object_at s.unit o).t (Object o); state = with_use s (UsedObject o) }) (use-moves U s (UsedObject o) (λ h. tt))
      (λ l p g. (use-proper v s (UsedObject o) g, object-row E v os line o s g l (λ i. visible-meaning v os s.scopes (sees i).1 n (ObjectName o) e), none-made v s (with_use s (UsedObject o)) refl))
  name-gives E line n s sees (Some (FunctionName f)) e =
      gives-unless U v os U s (IsTree E v os) (is_of_library s f) (Some (designator_of line f s))
      (λ q. gives-some U v os U s (IsTree E v os) (designator_of line f s) (use-moves U s (used_function s.unevaluated f) (λ h. known-function s.unevaluated s.unit.names s.unit.functions f (known-name s h n f e) (no-library (library_of s.unit f) q)))
      (λ l p g. (
        use-proper v s (used_function s.unevaluated f) g,
        function-row E v os line f s g (name-meaning v s g n (FunctionName f) e) (no-library (library_of s.unit f) q) (λ i. (sees i).0) l,
        none-made v s (with_use s (used_function s.unevaluated f)) refl,
      )))
  name-gives E line n s sees (Some (TypedefOf t)) e = gives-none U v os U s (IsTree E v os)
  name-gives E line n s sees (Some (ConstantOf k)) e =
      gives-here U v os U s (IsTree E v os) (Some (source_node line (IntTy Int) (Constant k)))
      (λ x q l p g. as-made (IsExpression E v os) (source_node line (IntTy Int) (Constant k)) x (record { typed = λ i. (Int, refl, name-meaning v s g n (ConstantOf k) e); proper = tt; valued = λ z. (refl, tt) }) q)

  text-gives : (E : Type 0) (line : ℕ) (bytes : List ℕ) (s : State) → Sees E v os s → (Orderly s → IsText bytes) → Gives U v os U s (IsTree E v os) (Some (text_of line bytes s))
  text-gives E line bytes s sees good =
      gives-some U v os U s (IsTree E v os) (text_of line bytes s)
      (record { later = text-later v line bytes s; outer = same-outer s.scopes; grows = ([], sym (append-nil (env s))); names = λ f w ps h. h; evaluated = refl; functions = refl; spelled = refl; noted = (refl, refl); orderly = λ h. written-orderly line bytes s (not s.unevaluated) good h; count = omega arith; older = λ o lt. refl })
      (λ l p g. (text-proper v line bytes s g, text-row E v os line bytes s done (λ i. (sees i).0) l, none-made v s (text_of line bytes s).state refl))

  -- ---- 6.5.2.2: calls

  pointed-gives : (E : Type 0) (s : State) (o : Option (After TypedTree)) → Gives U v os U s (IsValue E v os) o → Gives U v os U s (IsCalled E v os) (pointed_callee o)
  pointed-gives E s None h = gives-none U v os U s (IsCalled E v os)
  pointed-gives E s (Some a) h =
      let r = h.held a refl in
      gives-some U v os U s (IsCalled E v os) (record { value = ByValue a.value; state = a.state }) r.0 r.1

  callee-gives : (E : Type 0) (s : State) (e : ExpressionTree) (o : Option ℕ) → callee s.scopes e ≡ o → (a : Option (After TypedTree)) → Gives U v os U s (IsValue E v os) a → Gives U v os U s (IsCalled E v os) (called_by o s a)
  callee-gives E s e None q a h = pointed-gives E s a h
  callee-gives E s e (Some f) q a h =
      gives-some U v os U s (IsCalled E v os) (record { value = ByName f; state = with_callee s f }) (use-moves U s (UsedFunction f) (λ h. called-function s (known-name s h) e f q))
      (λ l p g. (use-proper v s (UsedFunction f) g, (called-function s (λ n k p. name-meaning v s g n (FunctionName k) p) e f q, each-last (IsThere v) s.used (UsedFunction f) l.used), none-made v s (with_callee s f) refl))

  call-row : (E : Type 0) (line n : ℕ) (c : Callee) → IsCallee E v os n c → (t : State) → n ≤ length t.unit.functions → Later t v → IsProperState v t → (args : List TypedTree) → Each (IsOperand E v os) args
      → (x : TypedTree) → call_by t.unit line c args ≡ Some x → IsExpression E v os x
  call-row E line n (ByName f) h t more l g args all x e =
      let first = h.0 in
      let there : f < length t.unit.functions = omega (arith, first, more) in
      let s = l.unit.functions f there in
      named-row E v os args all line t.unit f (g.unit.functions f there) (λ none i. (s.there, h.1 (s.named ∙ none))) s.signed x e
  call-row E line n (ByValue a) h t more l g args all x e = through-row E v os args all line t.unit a h x e

  call-gives : (E : Type 0) (line : ℕ) (s : State) (o : Option (After Callee)) (args : State → Option (After (List TypedTree))) → Sees E v os s → Gives U v os U s (IsCalled E v os) o
      → ((t : State) → Sees E v os t → Gives U v os U t (λ a. Each (IsOperand E v os) a.value) (args t))
      → Gives U v os U s (IsTree E v os) (and_then o (λ c. and_then (args c.state) (λ xs. give (call_by xs.state.unit line c.value xs.value) xs.state)))
  call-gives E line s o args sees h k =
      gives-then U v os U s (IsCalled E v os) (IsTree E v os) o (λ c. and_then (args c.state) (λ xs. give (call_by xs.state.unit line c.value xs.value) xs.state)) h
      (λ c m. gives-then U v os (U × IsCalled E v os c) c.state (λ a. Each (IsOperand E v os) a.value) (IsTree E v os) (args c.state) (λ xs. give (call_by xs.state.unit line c.value xs.value) xs.state)
      (any-premise U (U × IsCalled E v os c) c.state (λ a. Each (IsOperand E v os) a.value) (args c.state) (k c.state (seen-behind E v os s c.state m sees)))
      (λ xs n. gives-here U v os ((U × IsCalled E v os c) × Each (IsOperand E v os) xs.value) xs.state (IsTree E v os) (call_by xs.state.unit line c.value xs.value)
      (λ x e l p g. call-row E line (length c.state.unit.functions) c.value p.0.1 xs.state (let k = ap (λ (fs : List TypedFunction). length fs) n.functions in omega (arith, k)) l g xs.value p.1 x e)))

  -- ---- 6.5.3.4: sizeof, whose operand is not evaluated

  before-orderly : (s : State) → Orderly s → Orderly (within_sizeof s)
  before-orderly s h = record { names = h.names; uses = h.uses; sources = h.sources; written = h.written; ended = h.ended; laid = h.laid; apart = h.apart }

  after-orderly : (s t : State) → Orderly t → Orderly (after_sizeof s t)
  after-orderly s t h = record { names = h.names; uses = h.uses; sources = h.sources; written = h.written; ended = h.ended; laid = h.laid; apart = h.apart }

  after-moves : (s t : State) → Moves U v os (within_sizeof s) t → Moves U v os s (after_sizeof s t)
  after-moves s t m = record {
    later = λ l. let k = m.later (record { unit = l.unit; used = l.used }) in record { unit = k.unit; used = k.used };
    outer = m.outer;
    grows = m.grows;
    names = m.names;
    evaluated = refl;
    functions = m.functions;
    spelled = m.spelled;
    noted = m.noted;
    orderly = λ h. after-orderly s t (m.orderly (before-orderly s h));
    count = m.count;
    older = m.older;
  }

  sizeof-gives : {A : Type 0} (E : Type 0) (line : ℕ) (s : State) (Q : After A → Type 0) (o : Option (After A)) (t : After A → Ty) → Gives U v os U (within_sizeof s) Q o → ((a : After A) → Q a → is_function (t a) ≡ false → IsProper v (t a))
      → Gives U v os U s (IsTree E v os) (and_then o (λ a. give (sizeof_type (env a.state) line (t a)) (after_sizeof s a.state)))
  sizeof-gives E line s Q None t h k = gives-none U v os U s (IsTree E v os)
  sizeof-gives {A} E line s Q (Some a) t h k =
      gives-from U v os U (Q a) s (after_sizeof s a.state) (IsTree E v os) (give (sizeof_type (env a.state) line (t a)) (after_sizeof s a.state)) (after-moves s a.state r.0)
      (λ l p g. let z = r.1 (record { unit = l.unit; used = l.used }) tt (record { unit = g.unit; some = g.some; scopes = g.scopes }) in (record { unit = z.0.unit; some = z.0.some; scopes = z.0.scopes }, z.1, z.2))
      (gives-here U v os (Q a) (after_sizeof s a.state) (IsTree E v os) (sizeof_type (env a.state) line (t a)) (λ x e l p g. sizeof-row E v os done (env a.state) l.unit.layouts line (t a) (k a p) x e))
    where
      r : Moves U v os (within_sizeof s) a.state × (Later a.state v → U → IsProperState v (within_sizeof s) → IsProperState v a.state × Q a × HasMade v (within_sizeof s) a.state)
      r = h.held a refl

  -- ---- 6.7.6.3: a list of parameters

  -- the steps before the list, and that `...` is the list of `printf`
  abbrev pub AreBefore : (file c : Bool) → Steps → Type 0
  AreBefore file c x = IsSteps file v x × (c ≡ true → (file ≡ true) × (x.list ≡ []))

  list-gives : (c : Bool) (x : Steps) (s : State) (o : Option (After (List OneParameter))) (file : Bool) → Gives ⊥ v os (is_file_scope (in_new_scope s) ≡ false) (in_new_scope s) (ParametersProper v) o
      → Gives U v os (AreBefore file c x) s (λ a. IsSteps file v a.value) (and_then o (by_function c x))
  list-gives c x s None file h = gives-none U v os (AreBefore file c x) s (λ a. IsSteps file v a.value)
  list-gives c x s (Some a) file h = by (proper_parameters c a.value)
    where
      r : Moves ⊥ v os (in_new_scope s) a.state × (Later a.state v → is_file_scope (in_new_scope s) ≡ false → IsProperState v (in_new_scope s) → IsProperState v a.state × ParametersProper v a × HasMade v (in_new_scope s) a.state)
      r = h.held a refl

      by : (o : Option (List OneParameter))
          → Gives U v os (AreBefore file c x) s (λ a. IsSteps file v a.value) (and_then (and_then o (λ ps. give (Some (made_signature c (innermost_scope a.state.scopes) ps)) (behind_scope a.state))) (λ g. give (Some (with_function x g.value)) g.state))
      by None = gives-none U v os (AreBefore file c x) s (λ a. IsSteps file v a.value)
      by (Some ps) =
          gives-some U v os (AreBefore file c x) s (λ a. IsSteps file v a.value) (record { value = with_function x (made_signature c (innermost_scope a.state.scopes) ps); state = behind_scope a.state }) (left-moves ⊥ U v os s a.state r.0)
          (λ l p g.
          let z = r.1 (record { unit = l.unit; used = l.used }) (inner-file s g.some) (entered-proper v s g) in
          (left-proper v s a.state g.some r.0.outer z.0, steps-function file c v x (made_signature c (innermost_scope a.state.scopes) ps) p.1 refl p.0, z.2))

  -- 6.7.6.3p7: one parameter more
  parameter-gives : (ps : List OneParameter) (n : Option (ℕ × ℕ)) (s : State) (t : Ty) → Gives ⊥ v os (Each (λ (p : OneParameter). IsProper v p.t) ps × IsProper v t) s (ParametersProper v) (with_parameter ps n s t)
  parameter-gives ps None s t =
      gives-some ⊥ v os (Each (λ (p : OneParameter). IsProper v p.t) ps × IsProper v t) s (ParametersProper v) (record { value = ps ++ (record { t = t; name = None; object = None } ∷ []); state = s }) (same-moves ⊥ v os s)
      (λ l p g. (g, each_append (λ (q : OneParameter). IsProper v q.t) ps (record { t = t; name = None; object = None } ∷ []) p.0 (p.1, tt), none-made v s s refl))
  parameter-gives ps (Some (n, line)) s t = by (is_some (find (innermost_scope s.scopes).names n))
    where
      by : (b : Bool)
          → Gives ⊥ v os (Each (λ (p : OneParameter). IsProper v p.t) ps × IsProper v t) s (ParametersProper v)
          (and_then (if b then None else Some (bind n (ObjectName (length s.unit.objects)) s))
          (λ named. give (Some (ps ++ (record { t = t; name = Some n; object = Some (length s.unit.objects) } ∷ []))) (more_object (record { name = n + 2; t = t; line = line; lasting = false; braced = false; inits = [] }) named)))
      by true = gives-none ⊥ v os (Each (λ (p : OneParameter). IsProper v p.t) ps × IsProper v t) s (ParametersProper v)
      by false =
          let z : State = bind n (ObjectName (length s.unit.objects)) s in
          let o : TypedObject = record { name = n + 2; t = t; line = line; lasting = false; braced = false; inits = [] } in
          gives-some ⊥ v os (Each (λ (p : OneParameter). IsProper v p.t) ps × IsProper v t) s (ParametersProper v)
          (record { value = ps ++ (record { t = t; name = Some n; object = Some (length s.unit.objects) } ∷ []); state = more_object o z })
          (then-moves ⊥ v os s z (more_object o z) (bind-moves ⊥ v os n (ObjectName (length s.unit.objects)) s (λ f. absurd f) tt)
          (object-moves ⊥ o z (identifier-apart (n + 2) n refl)))
          (λ l p g. (
            object-proper v o z p.1 (bind-proper v n (ObjectName (length s.unit.objects)) s tt g),
            each_append (λ (q : OneParameter). IsProper v q.t) ps (record { t = t; name = Some n; object = Some (length s.unit.objects) } ∷ []) p.0 (p.1, tt),
            automatic-made v o z refl,
          ))

  -- ---- 6.7.2.1: a member

  member-gives : (k : Option (ℕ × ℕ)) (t : Ty) (ms : List Named) (a : After Steps) → Gives U v os ((IsProper v t × Each (IsMember v (env a.state)) ms) × IsPlainBehind v a.value.list) a.state (HasMembers U v os) (member_of k t ms a)
  member-gives None t ms a = gives-none U v os ((IsProper v t × Each (IsMember v (env a.state)) ms) × IsPlainBehind v a.value.list) a.state (HasMembers U v os)
  member-gives (Some (n, line)) t ms a =
      gives-value U v os ((IsProper v t × Each (IsMember v (env a.state)) ms) × IsPlainBehind v a.value.list) a.state (HasMembers U v os) (derived_type false (env a.state) a.value.list t) (λ u. give (with_member a.state ms n u) a.state)
      (λ u d. gives-here U v os ((IsProper v t × Each (IsMember v (env a.state)) ms) × IsPlainBehind v a.value.list) a.state (HasMembers U v os) (with_member a.state ms n u)
      (λ x e l p g. by u x (λ f. derived-named v (env a.state) l.unit.layouts false a.value.list t u p.1 p.0.0 d f) p.0.1 (is_complete_in (env a.state) u && is_new_member n ms) refl e))
    where
      by : (u : Ty) (x : List Named) → (is_function u ≡ false → IsProper v u) → Each (IsMember v (env a.state)) ms → (b : Bool) → (is_complete_in (env a.state) u && is_new_member n ms) ≡ b
          → (if b then Some (ms ++ (record { name = n; t = u } ∷ [])) else None) ≡ Some x → Each (IsMember v (env a.state)) x
      by u x proper_parameters all true q e =
          let complete = (both-true (is_complete_in (env a.state) u) (is_new_member n ms) q).0 in
          as-made (Each (IsMember v (env a.state))) (ms ++ (record { name = n; t = u } ∷ [])) x (each_append (IsMember v (env a.state)) ms (record { name = n; t = u } ∷ []) all ((proper_parameters (no-function (env a.state) u complete), complete), tt)) e
      by u x proper_parameters all false q e = absurd cc

  -- ---- 6.7: types by name, what they end with

  abbrev pub IsNamedType : After Ty → Type 0
  IsNamedType a = is_function a.value ≡ false → IsProper v a.value

  abbrev pub IsSeen : After Seen → Type 0
  IsSeen a = HasProperName v a.value.named

  abbrev pub AreSteps : Bool → After Steps → Type 0
  AreSteps file a = IsSteps file v a.value

  -- the same of a declarator that is no more than a name (6.7.6.3p9)
  abbrev pub AreNamedSteps : Bool → DeclaratorTree → After Steps → Type 0
  AreNamedSteps file d a = IsSteps file v a.value × ((names : List (List ℕ)) → is_printf_declarator names d ≡ true → a.value.list ≡ [])

  no-steps : (file : Bool) → IsSteps file v no_steps
  no-steps file = record { behind = tt; inner = λ f. tt }

  plain-gives : {B : Type 0} (P : Type 0) (a : After Seen) (R : After B → Type 0) (f : After Ty → Option (After B)) → (P → HasProperName v a.value.named)
      → ((b : After Ty) → Moves U v os a.state b.state → Gives U v os (P × IsProper v b.value) b.state R (f b)) → Gives U v os P a.state R (and_then (type_without_storage a) f)
  plain-gives P a R f h k =
      gives-then U v os P a.state (λ (b : After Ty). IsProper v b.value) R (type_without_storage a) f
      (gives-here U v os P a.state (λ (b : After Ty). IsProper v b.value) (and_then (specification_of a.value) without_storage) (λ t e l p g. plain-proper v a.value t (h p) e)) k

  pointer-gives : (file : Bool) (consts : ℕ) (s : State) (o : Option (After Steps)) → Gives U v os U s (AreSteps file) o → Gives U v os U s (AreSteps file) (and_then o (by_pointer consts))
  pointer-gives file consts s o h =
      gives-then U v os U s (AreSteps file) (AreSteps file) o (by_pointer consts) h
      (λ a m. gives-here U v os (U × IsSteps file v a.value) a.state (AreSteps file) (Some (with_step a.value (ByPointer (nat_lt 0 consts))))
      (λ x e l p g. subst (IsSteps file v) (some-same (with_step a.value (ByPointer (nat_lt 0 consts))) x e) (steps-more file v a.value (ByPointer (nat_lt 0 consts)) tt p.1)))

  array-gives : (file : Bool) (s : State) (o : Option (After Steps)) (size : State → Option (After (Option ℕ))) → Gives U v os U s (AreSteps file) o → ((t : State) → Gives U v os U t IsAnything (size t))
      → Gives U v os U s (AreSteps file) (and_then o (λ a. and_then (size a.state) (by_array a.value)))
  array-gives file s o size h k =
      gives-then U v os U s (AreSteps file) (AreSteps file) o (λ a. and_then (size a.state) (by_array a.value)) h
      (λ a m. gives-then U v os (U × IsSteps file v a.value) a.state IsAnything (AreSteps file) (size a.state) (by_array a.value) (any-premise U (U × IsSteps file v a.value) a.state IsAnything (size a.state) (k a.state))
      (λ n j. gives-here U v os ((U × IsSteps file v a.value) × U) n.state (AreSteps file) (Some (with_step a.value (ByArray n.value)))
      (λ x e l p g. subst (IsSteps file v) (some-same (with_step a.value (ByArray n.value)) x e) (steps-more file v a.value (ByArray n.value) tt p.0.1))))

  known-gives : (s : State) (o : Option (After ℤ)) → Gives U v os U s IsAnything o → Gives U v os U s IsAnything (and_then o known_size)
  known-gives s o h =
      gives-then U v os U s IsAnything IsAnything o known_size h
      (λ a m. gives-value U v os (U × U) a.state IsAnything (size_of a.value) (λ n. give (Some (Some n)) a.state) (λ n e. gives-here U v os (U × U) a.state IsAnything (Some (Some n)) (λ x q l p g. tt)))

  -- 6.6p6: the value of a constant expression, whose tree is not kept
  constant-gives : (s : State) (o : Option (After TypedTree)) → Gives U v os U s (IsTree ⊥ v os) o → Gives U v os U s IsAnything (integer_value (operand o))
  constant-gives s o h = gives-integer ⊥ U v os done U s (IsValue ⊥ v os) (operand o) (gives-operand ⊥ U v os done U s o h)

  function-gives : (file c : Bool) (s : State) (o : Option (After Steps)) (list : State → Option (After (List OneParameter))) → Gives U v os U s (λ a. AreBefore file c a.value) o
      → ((t : State) → Gives ⊥ v os (is_file_scope t ≡ false) t (ParametersProper v) (list t)) → Gives U v os U s (AreSteps file) (and_then o (λ a. and_then (list (in_new_scope a.state)) (by_function c a.value)))
  function-gives file c s o list h k =
      gives-then U v os U s (λ a. AreBefore file c a.value) (AreSteps file) o (λ a. and_then (list (in_new_scope a.state)) (by_function c a.value)) h
      (λ a m. gives-weaker U U (AreBefore file c a.value) (U × AreBefore file c a.value) v os a.state (AreSteps file) (AreSteps file) (and_then (list (in_new_scope a.state)) (by_function c a.value)) (λ f. f) (λ p. p.1) (λ x q. q)
      (list-gives c a.value a.state (list (in_new_scope a.state)) file (k (in_new_scope a.state))))

  less-named : (d : DeclaratorTree) (s : State) (o : Option (After Steps)) → Gives U v os U s (AreNamedSteps (is_file_scope s) d) o → Gives U v os U s (AreSteps (is_file_scope s)) o
  less-named d s o h = gives-weaker U U U U v os s (AreNamedSteps (is_file_scope s) d) (AreSteps (is_file_scope s)) o (λ f. f) (λ p. p) (λ a q. q.0) h

  unnamed : (d : DeclaratorTree) (s : State) (o : Option (After Steps)) → ((names : List (List ℕ)) → is_printf_declarator names d ≡ true → ⊥) → Gives U v os U s (AreSteps (is_file_scope s)) o → Gives U v os U s (AreNamedSteps (is_file_scope s) d) o
  unnamed d s o none h = gives-weaker U U U U v os s (AreSteps (is_file_scope s)) (AreNamedSteps (is_file_scope s) d) o (λ f. f) (λ p. p) (λ a q. (q, λ names e. absurd (none names e))) h

  named-first : (c : Bool) (d : DeclaratorTree) (s : State) → may_be_variadic c d s ≡ true → c ≡ true → (is_file_scope s ≡ true) × (is_printf_declarator s.unit.names d ≡ true)
  named-first true d s e t = both-true (is_file_scope s) (is_printf_declarator s.unit.names d) e
  named-first false d s e t = absurd cc

  printf-named : (d : DeclaratorTree) (s : State) (c : Bool) (o : Option (After Steps)) → may_be_variadic c d s ≡ true → Gives U v os U s (AreNamedSteps (is_file_scope s) d) o → Gives U v os U s (λ a. AreBefore (is_file_scope s) c a.value) o
  printf-named d s c o e h =
      gives-weaker U U U U v os s (AreNamedSteps (is_file_scope s) d) (λ a. AreBefore (is_file_scope s) c a.value) o (λ f. f) (λ p. p)
      (λ a q. (q.0, λ t. let n = named-first c d s e t in (n.0, q.1 s.unit.names n.1))) h

  no-variadic : (s : State) (o : Option (After Steps)) → Gives U v os U s (AreSteps (is_file_scope s)) o → Gives U v os U s (λ a. AreBefore (is_file_scope s) false a.value) o
  no-variadic s o h = gives-weaker U U U U v os s (AreSteps (is_file_scope s)) (λ a. AreBefore (is_file_scope s) false a.value) o (λ f. f) (λ p. p) (λ a q. (q, λ t. absurd cc)) h

  inner-gives : {A : Type 0} (P : Type 0) (s : State) (Q : After A → Type 0) (o : Option (After A)) → Gives U v os U s Q o → Gives ⊥ v os P s Q o
  inner-gives P s Q o h = gives-weaker U ⊥ U P v os s Q Q o (λ f. absurd f) (λ p. tt) (λ a q. q) h

  with-parameter-gives : (n : Option (ℕ × ℕ)) (t : Ty) (ps : List OneParameter) (a : After Steps) (P : Type 0) (file : Bool) → (P → Each (λ (q : OneParameter). IsProper v q.t) ps × IsProper v t × IsSteps file v a.value × (file ≡ false))
      → Gives ⊥ v os P a.state (ParametersProper v) (parameter_of n t ps a)
  with-parameter-gives n t ps a P file h =
      gives-value ⊥ v os P a.state (ParametersProper v) (and_then (derived_type true (env a.state) a.value.list t) adjustment_of) (with_parameter ps n a.state)
      (λ u e. gives-from ⊥ v os P (Each (λ (q : OneParameter). IsProper v q.t) ps × IsProper v u) a.state a.state (ParametersProper v) (with_parameter ps n a.state u) (same-moves ⊥ v os a.state)
      (λ l p g.
      let f = from-some (derived_type true (env a.state) a.value.list t) adjustment_of u e in
      let k = h p in
      (g, (k.0, adjusted-proper v f.0 u (derived-proper v (env a.state) l.unit.layouts true a.value.list t f.0 (k.2.inner k.3) k.1 f.1) f.2), none-made v a.state a.state refl))
      (parameter-gives ps n a.state u))

  mutual
    pub types-gives : (e : ExpressionTree) (on : Bool) (s : State) → Sees (IsOn on) v os s → (IsOn on → HasCharacters e) → Gives U v os U s (IsTree (IsOn on) v os) (types e s)
    types-gives (Name line n) on s sees h = name-gives (IsOn on) line n s sees (look s.scopes n) refl
    types-gives (Number line value decimal unsigned longs) on s sees h =
        gives-here U v os U s (IsTree (IsOn on) v os) (integer_of line value decimal unsigned longs) (λ x e l p g. number-row (IsOn on) v os line value decimal unsigned longs x e)
    types-gives (Character line value) on s sees h =
        gives-here U v os U s (IsTree (IsOn on) v os) (Some (character_of line value)) (λ x e l p g. as-made (IsExpression (IsOn on) v os) (character_of line value) x (character-row (IsOn on) v os line value h) e)
    types-gives (Text line first more) on s sees h = text-gives (IsOn on) line (bytes_of_text s.texts first more) s sees (λ h. text-bytes s.texts first more h.sources)
    types-gives (Paren line a) on s sees h = types-gives a on s sees h
    types-gives (Index line a b) on s sees h =
        two-gives (IsOn on) s sees (IsOperand (IsOn on) v os) (operand (types a s)) (λ t. operand (types b t)) (λ x t y. subscript_of (env t) line x y)
        (gives-operand (IsOn on) U v os done U s (types a s) (types-gives a on s sees (λ i. (h i).0)))
        (λ t z. gives-operand (IsOn on) U v os done U t (types b t) (types-gives b on t z (λ i. (h i).1)))
        (λ x t y l g p q r e. subscript-row (IsOn on) v os done (env t) l.unit.layouts line x y p q r e)
    types-gives (Call line f args) on s sees h =
        call-gives (IsOn on) line s (called_by (callee s.scopes f) s (operand (types f s))) (arguments args) sees
        (callee-gives (IsOn on) s f (callee s.scopes f) refl (operand (types f s)) (gives-operand (IsOn on) U v os done U s (types f s) (types-gives f on s sees (λ i. (h i).0))))
        (λ t z. arguments-gives args on t z (λ i. (h i).1))
    types-gives (Member line a n) on s sees h =
        one-gives (IsOn on) s (IsExpression (IsOn on) v os) (types a s) (λ t x. member_from t.unit.completed line n x) (types-gives a on s sees h)
        (λ t x l g p y e. member-row (IsOn on) v os done t.unit.completed l.unit.layouts g.unit.completed line n x p y e)
    types-gives (Arrow line a n) on s sees h =
        one-gives (IsOn on) s (IsOperand (IsOn on) v os) (operand (types a s)) (λ t x. arrow_from t.unit.completed line n x) (gives-operand (IsOn on) U v os done U s (types a s) (types-gives a on s sees h))
        (λ t x l g p y e. arrow-row (IsOn on) v os done t.unit.completed l.unit.layouts g.unit.completed line n x p y e)
    types-gives (PostIncrement line a) on s sees h =
        one-gives (IsOn on) s (IsExpression (IsOn on) v os) (types a s) (λ t x. increment_of (env t) line step_word.PostIncrement x) (types-gives a on s sees h)
        (λ t x l g p y e. increment-row (IsOn on) v os done (env t) l.unit.layouts line step_word.PostIncrement x p y e)
    types-gives (PostDecrement line a) on s sees h =
        one-gives (IsOn on) s (IsExpression (IsOn on) v os) (types a s) (λ t x. increment_of (env t) line step_word.PostDecrement x) (types-gives a on s sees h)
        (λ t x l g p y e. increment-row (IsOn on) v os done (env t) l.unit.layouts line step_word.PostDecrement x p y e)
    types-gives (PreIncrement line a) on s sees h =
        one-gives (IsOn on) s (IsExpression (IsOn on) v os) (types a s) (λ t x. increment_of (env t) line step_word.PreIncrement x) (types-gives a on s sees h)
        (λ t x l g p y e. increment-row (IsOn on) v os done (env t) l.unit.layouts line step_word.PreIncrement x p y e)
    types-gives (PreDecrement line a) on s sees h =
        one-gives (IsOn on) s (IsExpression (IsOn on) v os) (types a s) (λ t x. increment_of (env t) line step_word.PreDecrement x) (types-gives a on s sees h)
        (λ t x l g p y e. increment-row (IsOn on) v os done (env t) l.unit.layouts line step_word.PreDecrement x p y e)
    types-gives (Unary line op a) on s sees h =
        one-gives (IsOn on) s (IsExpression (IsOn on) v os) (types a s) (λ t x. unary_of (env t) line op x) (types-gives a on s sees h)
        (λ t x l g p y e. unary-row (IsOn on) v os done (env t) l.unit.layouts line op x p y e)
    types-gives (SizeofExpr line a) on s sees h =
        sizeof-gives (IsOn on) line s (IsTree ⊥ v os) (types a (within_sizeof s)) (λ x. type_of x.value) (types-gives a false (within_sizeof s) (λ i. absurd i) (λ i. absurd i)) (λ x p f. p.proper)
    types-gives (SizeofType line t) on s sees h =
        sizeof-gives (IsOn on) line s IsNamedType (type_named t (within_sizeof s)) (λ x. x.value) (type-gives t (within_sizeof s)) (λ x p f. p f)
    types-gives (Cast line t a) on s sees h =
        gives-then U v os U s IsNamedType (IsTree (IsOn on) v os) (type_named t s) (λ u. and_then (operand (types a u.state)) (cast line u.value)) (type-gives t s)
        (λ u m. gives-then U v os (U × IsNamedType u) u.state (IsValue (IsOn on) v os) (IsTree (IsOn on) v os) (operand (types a u.state)) (cast line u.value)
        (any-premise U (U × IsNamedType u) u.state (IsValue (IsOn on) v os) (operand (types a u.state)) (gives-operand (IsOn on) U v os done U u.state (types a u.state) (types-gives a on u.state (seen-behind (IsOn on) v os s u.state m sees) h)))
        (λ r n. gives-here U v os ((U × IsNamedType u) × IsOperand (IsOn on) v os r.value) r.state (IsTree (IsOn on) v os) (cast_of line u.value r.value)
        (λ x e l p g. cast-row (IsOn on) v os done (env r.state) l.unit.layouts line u.value p.0.1 r.value p.1 x e)))
    types-gives (Binary line op a b) on s sees h =
        two-gives (IsOn on) s sees (IsOperand (IsOn on) v os) (operand (types a s)) (λ t. operand (types b t)) (λ x t y. binary_of (env t) line op x y)
        (gives-operand (IsOn on) U v os done U s (types a s) (types-gives a on s sees (λ i. (h i).0)))
        (λ t z. gives-operand (IsOn on) U v os done U t (types b t) (types-gives b on t z (λ i. (h i).1)))
        (λ x t y l g p q r e. binary-row (IsOn on) v os done (env t) l.unit.layouts line op x y p q r e)
    types-gives (Conditional line a b c) on s sees h =
        three-gives (IsOn on) line s sees (operand (types a s)) (λ t. operand (types b t)) (λ t. operand (types c t))
        (gives-operand (IsOn on) U v os done U s (types a s) (types-gives a on s sees (λ i. (h i).0)))
        (λ t z. gives-operand (IsOn on) U v os done U t (types b t) (types-gives b on t z (λ i. (h i).1)))
        (λ t z. gives-operand (IsOn on) U v os done U t (types c t) (types-gives c on t z (λ i. (h i).2)))
    types-gives (Assign line op a b) on s sees h =
        two-gives (IsOn on) s sees (IsExpression (IsOn on) v os) (types a s) (λ t. operand (types b t)) (λ x t y. assign_of (env t) line op x y)
        (types-gives a on s sees (λ i. (h i).0))
        (λ t z. gives-operand (IsOn on) U v os done U t (types b t) (types-gives b on t z (λ i. (h i).1)))
        (λ x t y l g p q r e. assign-row (IsOn on) v os done (env t) l.unit.layouts line op x y p q r e)
    types-gives (Comma line a b) on s sees h =
        two-gives (IsOn on) s sees (IsOperand (IsOn on) v os) (operand (types a s)) (λ t. operand (types b t)) (λ x t y. Some (comma_of line x y))
        (gives-operand (IsOn on) U v os done U s (types a s) (types-gives a on s sees (λ i. (h i).0)))
        (λ t z. gives-operand (IsOn on) U v os done U t (types b t) (types-gives b on t z (λ i. (h i).1)))
        (λ x t y l g p q r e. as-made (IsExpression (IsOn on) v os) (comma_of line x y) r (comma-row (IsOn on) v os done (env t) l.unit.layouts line x y p q) e)

    pub arguments-gives : (args : ArgumentTrees) (on : Bool) (s : State) → Sees (IsOn on) v os s → (IsOn on → HaveCharacters args) → Gives U v os U s (λ a. Each (IsOperand (IsOn on) v os) a.value) (arguments args s)
    arguments-gives NoArguments on s sees h = gives-here U v os U s (λ a. Each (IsOperand (IsOn on) v os) a.value) (Some []) (λ x e l p g. as-made (Each (IsOperand (IsOn on) v os)) [] x tt e)
    arguments-gives (Argument before last) on s sees h =
        gives-then U v os U s (λ a. Each (IsOperand (IsOn on) v os) a.value) (λ a. Each (IsOperand (IsOn on) v os) a.value) (arguments before s) (λ l. and_then (operand (types last l.state)) (with_argument l.value)) (arguments-gives before on s sees (λ i. (h i).0))
        (λ l m. gives-then U v os (U × Each (IsOperand (IsOn on) v os) l.value) l.state (IsValue (IsOn on) v os) (λ a. Each (IsOperand (IsOn on) v os) a.value) (operand (types last l.state)) (with_argument l.value)
        (any-premise U (U × Each (IsOperand (IsOn on) v os) l.value) l.state (IsValue (IsOn on) v os) (operand (types last l.state)) (gives-operand (IsOn on) U v os done U l.state (types last l.state) (types-gives last on l.state (seen-behind (IsOn on) v os s l.state m sees) (λ i. (h i).1))))
        (λ r n. gives-here U v os ((U × Each (IsOperand (IsOn on) v os) l.value) × IsOperand (IsOn on) v os r.value) r.state (λ a. Each (IsOperand (IsOn on) v os) a.value) (Some (l.value ++ (r.value ∷ [])))
        (λ x e l' p g. as-made (Each (IsOperand (IsOn on) v os)) (l.value ++ (r.value ∷ [])) x (each_append (IsOperand (IsOn on) v os) l.value (r.value ∷ []) p.0.1 (p.1, tt)) e)))

    pub type-gives : (t : DeclarationTree) (s : State) → Gives U v os U s IsNamedType (type_named t s)
    type-gives (TypeName line specs d) s =
        gives-then U v os U s IsSeen IsNamedType (specifiers specs s) (λ a. and_then (type_without_storage a) (λ b. and_then (optional_steps d b.state) (named_type b.value))) (specifiers-give specs s)
        (λ a i. plain-gives (U × IsSeen a) a IsNamedType (λ b. and_then (optional_steps d b.state) (named_type b.value)) (λ p. p.1)
        (λ b j. gives-then U v os ((U × IsSeen a) × IsProper v b.value) b.state (AreSteps (is_file_scope b.state)) IsNamedType (optional_steps d b.state) (named_type b.value)
        (any-premise U ((U × IsSeen a) × IsProper v b.value) b.state (AreSteps (is_file_scope b.state)) (optional_steps d b.state) (optional-give d b.state))
        (λ c k. gives-here U v os (((U × IsSeen a) × IsProper v b.value) × IsSteps (is_file_scope b.state) v c.value) c.state IsNamedType (derived_type false (env c.state) c.value.list b.value)
        (λ x e l p g f. derived-named v (env c.state) l.unit.layouts false c.value.list b.value x p.1.behind p.0.1 e f))))
    type-gives (FunctionTree line specs d b) s = gives-none U v os U s IsNamedType
    type-gives (Declaration line specs ds) s = gives-none U v os U s IsNamedType
    type-gives (InitDeclarator line d i) s = gives-none U v os U s IsNamedType
    type-gives (MemberDeclaration line specs ds) s = gives-none U v os U s IsNamedType
    type-gives (Enumerator line n x) s = gives-none U v os U s IsNamedType
    type-gives (Parameter line specs d) s = gives-none U v os U s IsNamedType

    pub specifiers-give : (ts : Trees) (s : State) → Gives U v os U s IsSeen (specifiers ts s)
    specifiers-give NoTrees s = gives-here U v os U s IsSeen (Some nothing_seen) (λ x e l p g. as-made (λ (y : Seen). HasProperName v y.named) nothing_seen x tt e)
    specifiers-give (Then before x) s =
        gives-then U v os U s IsSeen IsSeen (specifiers before s) (specifier_in x) (specifiers-give before s) (λ a m. gives-weaker U U (IsSeen a) (U × IsSeen a) v os a.state IsSeen IsSeen (specifier_in x a) (λ f. f) (λ p. p.1) (λ b q. q) (specifier-in-gives x a))

    pub specifier-in-gives : (x : Tree) (a : After Seen) → Gives U v os (IsSeen a) a.state IsSeen (specifier_in x a)
    specifier-in-gives (OfSpecifier x) a = specifier-gives x a.value a.state
    specifier-in-gives (OfExpression x) a = gives-none U v os (IsSeen a) a.state IsSeen
    specifier-in-gives (OfDeclaration x) a = gives-none U v os (IsSeen a) a.state IsSeen
    specifier-in-gives (OfDeclarator x) a = gives-none U v os (IsSeen a) a.state IsSeen
    specifier-in-gives (OfInitializer x) a = gives-none U v os (IsSeen a) a.state IsSeen
    specifier-in-gives (OfStatement x) a = gives-none U v os (IsSeen a) a.state IsSeen

    pub specifier-gives : (x : SpecifierTree) (seen : Seen) (s : State) → Gives U v os (HasProperName v seen.named) s IsSeen (specifier x seen s)
    specifier-gives (Keyword line w) seen s = gives-here U v os (HasProperName v seen.named) s IsSeen (with_keyword seen w) (λ x e l p g. keyword-proper v seen w x e p)
    specifier-gives (TypedefName line n) seen s =
        gives-here U v os (HasProperName v seen.named) s IsSeen (and_then (typedef_of (look s.scopes n)) (with_type seen))
        (λ x e l p g. let f = from-some (typedef_of (look s.scopes n)) (with_type seen) x e in type-proper v seen f.0 x f.2 (name-meaning v s g n (TypedefOf f.0) (typedef-type (look s.scopes n) f.0 f.1)))
    specifier-gives (Tag line w n) seen s =
        gives-then U v os (HasProperName v seen.named) s (HasProperType U v os) IsSeen (tag_named w n s) (λ a. give (with_type seen a.value) a.state) (tag-gives U v os (HasProperName v seen.named) w n s)
        (λ a m. gives-here U v os ((HasProperName v seen.named) × IsProper v a.value) a.state IsSeen (with_type seen a.value) (λ x e l p g. type-proper v seen a.value x e p.1))
    specifier-gives (Composite line w n ms) seen s =
        gives-then U v os (HasProperName v seen.named) s (HasWord U v os (is_union_word w)) IsSeen (tag_before_list (is_union_word w) n s)
        (λ o. and_then (and_then (members ms o.state) some_members) (λ m. and_then (completion_of (is_union_word w) n o.value m.value m.state) (λ a. give (with_type seen a.value) a.state)))
        (opened-gives U v os (HasProperName v seen.named) (is_union_word w) n s)
        (λ o i. gives-behind U v os ((HasProperName v seen.named) × HasWord U v os (is_union_word w) o) o.state (HasMembers U v os) IsSeen (and_then (members ms o.state) some_members)
        (λ m. and_then (completion_of (is_union_word w) n o.value m.value m.state) (λ a. give (with_type seen a.value) a.state))
        (any-premise U ((HasProperName v seen.named) × HasWord U v os (is_union_word w) o) o.state (HasMembers U v os) (and_then (members ms o.state) some_members)
        (gives-then U v os U o.state (HasMembers U v os) (HasMembers U v os) (members ms o.state) some_members (members-give ms o.state)
        (λ m j. gives-weaker U U (HasMembers U v os m) (U × HasMembers U v os m) v os m.state (HasMembers U v os) (HasMembers U v os) (some_members m) (λ f. f) (λ p. p.1) (λ a q. q) (some-members-gives U v os m))))
        (λ m e j. gives-then U v os (((HasProperName v seen.named) × HasWord U v os (is_union_word w) o) × HasMembers U v os m) m.state (HasProperType U v os) IsSeen (completion_of (is_union_word w) n o.value m.value m.state) (λ a. give (with_type seen a.value) a.state)
        (gives-weaker U U (MayComplete U v os (is_union_word w) o.value m.value m.state) (((HasProperName v seen.named) × HasWord U v os (is_union_word w) o) × HasMembers U v os m) v os m.state (HasProperType U v os) (HasProperType U v os) (completion_of (is_union_word w) n o.value m.value m.state)
        (λ f. f) (λ p. (p.0.1, p.1)) (λ a q. q)
        (let c = some-complete (members ms o.state) (λ a q. members-complete ms o.state a q) m e in completed-gives U v os (is_union_word w) n o.value m.value m.state c.0 c.1))
        (λ a k. gives-here U v os ((((HasProperName v seen.named) × HasWord U v os (is_union_word w) o) × HasMembers U v os m) × IsProper v a.value) a.state IsSeen (with_type seen a.value) (λ x e l p g. type-proper v seen a.value x e p.1))))
    specifier-gives (Enumeration line n es comma) seen s =
        opened-then U v os (HasProperName v seen.named) n s IsSeen (λ o. and_then (enumerators es o) (λ e. give (with_type seen (IntTy Int)) (closed_enumeration n e.state)))
        (λ t. gives-then U v os (HasProperName v seen.named) t IsAnything IsSeen (enumerators es t) (λ e. give (with_type seen (IntTy Int)) (closed_enumeration n e.state)) (any-premise U (HasProperName v seen.named) t IsAnything (enumerators es t) (enumerators-give es t))
        (λ e m. closed-gives U v os ((HasProperName v seen.named) × U) n e.state IsSeen (give (with_type seen (IntTy Int))) (λ z. gives-here U v os ((HasProperName v seen.named) × U) z IsSeen (with_type seen (IntTy Int)) (λ x q l p g. type-proper v seen (IntTy Int) x q tt))))

    pub members-give : (ts : Trees) (s : State) → Gives U v os U s (HasMembers U v os) (members ts s)
    members-give NoTrees s = gives-here U v os U s (HasMembers U v os) (Some []) (λ x e l p g. as-made (Each (IsMember v (env s))) [] x tt e)
    members-give (Then before x) s =
        gives-then U v os U s (HasMembers U v os) (HasMembers U v os) (members before s) (member_in x) (members-give before s) (λ m i. gives-weaker U U (HasMembers U v os m) (U × HasMembers U v os m) v os m.state (HasMembers U v os) (HasMembers U v os) (member_in x m) (λ f. f) (λ p. p.1) (λ b q. q) (member-in-gives x m))

    pub member-in-gives : (x : Tree) (m : After (List Named)) → Gives U v os (HasMembers U v os m) m.state (HasMembers U v os) (member_in x m)
    member-in-gives (OfDeclaration (MemberDeclaration line specs ds)) m =
        gives-then U v os (HasMembers U v os m) m.state IsSeen (HasMembers U v os) (specifiers specs m.state) (λ a. and_then (type_without_storage a) (λ b. member_declarators ds b.value m.value b.state)) (any-premise U (HasMembers U v os m) m.state IsSeen (specifiers specs m.state) (specifiers-give specs m.state))
        (λ a i. plain-gives ((HasMembers U v os m) × IsSeen a) a (HasMembers U v os) (λ b. member_declarators ds b.value m.value b.state) (λ p. p.1)
        (λ b j. gives-weaker U U (IsProper v b.value × Each (IsMember v (env b.state)) m.value) (((HasMembers U v os m) × IsSeen a) × IsProper v b.value) v os b.state (HasMembers U v os) (HasMembers U v os) (member_declarators ds b.value m.value b.state) (λ f. f)
        (λ p. (p.1, members-grown v (env m.state) (env b.state) m.value (then-grows (env m.state) (env a.state) (env b.state) i.grows j.grows) p.0.0)) (λ c q. q) (declarators-give ds b.value m.value b.state)))
    member-in-gives (OfDeclaration (FunctionTree line specs d b)) m = gives-none U v os (HasMembers U v os m) m.state (HasMembers U v os)
    member-in-gives (OfDeclaration (Declaration line specs ds)) m = gives-none U v os (HasMembers U v os m) m.state (HasMembers U v os)
    member-in-gives (OfDeclaration (InitDeclarator line d i)) m = gives-none U v os (HasMembers U v os m) m.state (HasMembers U v os)
    member-in-gives (OfDeclaration (Enumerator line n x)) m = gives-none U v os (HasMembers U v os m) m.state (HasMembers U v os)
    member-in-gives (OfDeclaration (Parameter line specs d)) m = gives-none U v os (HasMembers U v os m) m.state (HasMembers U v os)
    member-in-gives (OfDeclaration (TypeName line specs d)) m = gives-none U v os (HasMembers U v os m) m.state (HasMembers U v os)
    member-in-gives (OfExpression x) m = gives-none U v os (HasMembers U v os m) m.state (HasMembers U v os)
    member-in-gives (OfDeclarator x) m = gives-none U v os (HasMembers U v os m) m.state (HasMembers U v os)
    member-in-gives (OfSpecifier x) m = gives-none U v os (HasMembers U v os m) m.state (HasMembers U v os)
    member-in-gives (OfInitializer x) m = gives-none U v os (HasMembers U v os m) m.state (HasMembers U v os)
    member-in-gives (OfStatement x) m = gives-none U v os (HasMembers U v os m) m.state (HasMembers U v os)

    pub declarators-give : (ts : Trees) (t : Ty) (ms : List Named) (s : State) → Gives U v os (IsProper v t × Each (IsMember v (env s)) ms) s (HasMembers U v os) (member_declarators ts t ms s)
    declarators-give NoTrees t ms s = gives-here U v os (IsProper v t × Each (IsMember v (env s)) ms) s (HasMembers U v os) (Some ms) (λ x e l p g. as-made (Each (IsMember v (env s))) ms x p.1 e)
    declarators-give (Then before x) t ms s =
        gives-then U v os (IsProper v t × Each (IsMember v (env s)) ms) s (HasMembers U v os) (HasMembers U v os) (member_declarators before t ms s) (member_declarator t x) (declarators-give before t ms s)
        (λ m i. gives-weaker U U (IsProper v t × HasMembers U v os m) ((IsProper v t × Each (IsMember v (env s)) ms) × HasMembers U v os m) v os m.state (HasMembers U v os) (HasMembers U v os) (member_declarator t x m) (λ f. f) (λ p. (p.0.0, p.1)) (λ b q. q) (declarator-gives t x m))

    pub declarator-gives : (t : Ty) (x : Tree) (m : After (List Named)) → Gives U v os (IsProper v t × HasMembers U v os m) m.state (HasMembers U v os) (member_declarator t x m)
    declarator-gives t (OfDeclarator d) m =
        gives-then U v os (IsProper v t × HasMembers U v os m) m.state (AreNamedSteps (is_file_scope m.state) d) (HasMembers U v os) (steps d m.state) (member_of (declared_name d) t m.value) (any-premise U (IsProper v t × HasMembers U v os m) m.state (AreNamedSteps (is_file_scope m.state) d) (steps d m.state) (steps-give d m.state))
        (λ a i. gives-weaker U U ((IsProper v t × Each (IsMember v (env a.state)) m.value) × IsPlainBehind v a.value.list) ((IsProper v t × HasMembers U v os m) × AreNamedSteps (is_file_scope m.state) d a) v os a.state (HasMembers U v os) (HasMembers U v os) (member_of (declared_name d) t m.value a)
        (λ f. f) (λ p. ((p.0.0, members-grown v (env m.state) (env a.state) m.value i.grows p.0.1), p.1.0.behind)) (λ b q. q) (member-gives (declared_name d) t m.value a))
    declarator-gives t (OfExpression x) m = gives-none U v os (IsProper v t × HasMembers U v os m) m.state (HasMembers U v os)
    declarator-gives t (OfDeclaration x) m = gives-none U v os (IsProper v t × HasMembers U v os m) m.state (HasMembers U v os)
    declarator-gives t (OfSpecifier x) m = gives-none U v os (IsProper v t × HasMembers U v os m) m.state (HasMembers U v os)
    declarator-gives t (OfInitializer x) m = gives-none U v os (IsProper v t × HasMembers U v os m) m.state (HasMembers U v os)
    declarator-gives t (OfStatement x) m = gives-none U v os (IsProper v t × HasMembers U v os m) m.state (HasMembers U v os)

    -- 6.7.2.1p3: members are complete, whatever the unit at its end is
    members-complete : (ts : Trees) (s : State) (m : After (List Named)) → members ts s ≡ Some m → HasCompleteMembers m
    members-complete NoTrees s m e = subst HasCompleteMembers (some-same (record { value = []; state = s }) m e) tt
    members-complete (Then before x) s m e =
        let a = from-some (members before s) (member_in x) m e in
        member-in-complete x a.0 m (members-complete before s a.0 a.1) a.2

    member-in-complete : (x : Tree) (m r : After (List Named)) → HasCompleteMembers m → member_in x m ≡ Some r → HasCompleteMembers r
    member-in-complete (OfDeclaration (MemberDeclaration line specs ds)) m r h e =
        let a = from-some (specifiers specs m.state) (λ a. and_then (type_without_storage a) (λ b. member_declarators ds b.value m.value b.state)) r e in
        let b = from-some (type_without_storage a.0) (λ b. member_declarators ds b.value m.value b.state) r a.2 in
        let first = (specifiers-give specs m.state).held a.0 a.1 in
        let second = (gives-here U v os U a.0.state IsAnything (and_then (specification_of a.0.value) without_storage) (λ t q l p g. tt)).held b.0 b.1 in
        let more = then-grows (env m.state) (env a.0.state) (env b.0.state) first.0.grows second.0.grows in
        declarators-complete ds b.0.value m.value b.0.state r (complete-grown (env m.state) (env b.0.state) m.value more h) b.2
    member-in-complete (OfDeclaration _) m r h e = absurd cc
    member-in-complete _ m r h e = absurd cc

    declarators-complete : (ts : Trees) (t : Ty) (ms : List Named) (s : State) (r : After (List Named)) → AreComplete (env s) ms → member_declarators ts t ms s ≡ Some r → HasCompleteMembers r
    declarators-complete NoTrees t ms s r h e = subst HasCompleteMembers (some-same (record { value = ms; state = s }) r e) h
    declarators-complete (Then before x) t ms s r h e =
        let a = from-some (member_declarators before t ms s) (member_declarator t x) r e in
        declarator-complete t x a.0 r (declarators-complete before t ms s a.0 h a.1) a.2

    declarator-complete : (t : Ty) (x : Tree) (m r : After (List Named)) → HasCompleteMembers m → member_declarator t x m ≡ Some r → HasCompleteMembers r
    declarator-complete t (OfDeclarator d) m r h e =
        let a = from-some (steps d m.state) (member_of (declared_name d) t m.value) r e in
        let first = (steps-give d m.state).held a.0 a.1 in
        member-complete (declared_name d) t m.value a.0 r (complete-grown (env m.state) (env a.0.state) m.value first.0.grows h) a.2
    declarator-complete t _ m r h e = absurd cc

    pub enumerators-give : (ts : Trees) (s : State) → Gives U v os U s IsAnything (enumerators ts s)
    enumerators-give NoTrees s = gives-here U v os U s IsAnything (Some (pos 0)) (λ x e l p g. tt)
    enumerators-give (Then before x) s = gives-then U v os U s IsAnything IsAnything (enumerators before s) (enumerator_in x) (enumerators-give before s) (λ a m. any-premise U (U × U) a.state IsAnything (enumerator_in x a) (enumerator-in-gives x a))

    pub enumerator-in-gives : (x : Tree) (a : After ℤ) → Gives U v os U a.state IsAnything (enumerator_in x a)
    enumerator-in-gives (OfDeclaration (Enumerator line n x)) a =
        gives-then U v os U a.state IsAnything IsAnything (enumerator_value x a.value a.state) (λ b. enumerator_step n b.value b.state) (value-gives x a.value a.state) (λ b m. enumerated-gives U v os (U × U) n b.value b.state)
    enumerator-in-gives (OfDeclaration (FunctionTree line specs d b)) a = gives-none U v os U a.state IsAnything
    enumerator-in-gives (OfDeclaration (Declaration line specs ds)) a = gives-none U v os U a.state IsAnything
    enumerator-in-gives (OfDeclaration (InitDeclarator line d i)) a = gives-none U v os U a.state IsAnything
    enumerator-in-gives (OfDeclaration (MemberDeclaration line specs ds)) a = gives-none U v os U a.state IsAnything
    enumerator-in-gives (OfDeclaration (Parameter line specs d)) a = gives-none U v os U a.state IsAnything
    enumerator-in-gives (OfDeclaration (TypeName line specs d)) a = gives-none U v os U a.state IsAnything
    enumerator-in-gives (OfExpression x) a = gives-none U v os U a.state IsAnything
    enumerator-in-gives (OfDeclarator x) a = gives-none U v os U a.state IsAnything
    enumerator-in-gives (OfSpecifier x) a = gives-none U v os U a.state IsAnything
    enumerator-in-gives (OfInitializer x) a = gives-none U v os U a.state IsAnything
    enumerator-in-gives (OfStatement x) a = gives-none U v os U a.state IsAnything

    pub value-gives : (o : OptionalTree) (next : ℤ) (s : State) → Gives U v os U s IsAnything (enumerator_value o next s)
    value-gives Absent next s = gives-here U v os U s IsAnything (Some next) (λ x e l p g. tt)
    value-gives (Present (OfExpression a)) next s = constant-gives s (types a s) (types-gives a false s (λ i. absurd i) (λ i. absurd i))
    value-gives (Present (OfDeclaration x)) next s = gives-none U v os U s IsAnything
    value-gives (Present (OfDeclarator x)) next s = gives-none U v os U s IsAnything
    value-gives (Present (OfSpecifier x)) next s = gives-none U v os U s IsAnything
    value-gives (Present (OfInitializer x)) next s = gives-none U v os U s IsAnything
    value-gives (Present (OfStatement x)) next s = gives-none U v os U s IsAnything

    pub steps-give : (d : DeclaratorTree) (s : State) → Gives U v os U s (AreNamedSteps (is_file_scope s) d) (steps d s)
    steps-give (DeclaredName line n) s = gives-here U v os U s (AreNamedSteps (is_file_scope s) (DeclaredName line n)) (Some no_steps)
        (λ x e l p g. as-made (λ (y : Steps). IsSteps (is_file_scope s) v y × ((names : List (List ℕ)) → is_printf_declarator names (DeclaredName line n) ≡ true → y.list ≡ [])) no_steps x (no-steps (is_file_scope s), λ names q. refl) e)
    steps-give (ParenDeclarator line d) s = steps-give d s
    steps-give (Pointer line consts d) s = unnamed (Pointer line consts d) s (steps (Pointer line consts d) s) (λ names q. absurd cc) (pointer-gives (is_file_scope s) consts s (steps d s) (less-named d s (steps d s) (steps-give d s)))
    steps-give (Array line d n) s =
        unnamed (Array line d n) s (steps (Array line d n) s) (λ names q. absurd cc) (array-gives (is_file_scope s) s (steps d s) (array_size n) (less-named d s (steps d s) (steps-give d s)) (λ t. size-gives n t))
    steps-give (FunctionDeclarator line d ps c) s =
        unnamed (FunctionDeclarator line d ps c) s (steps (FunctionDeclarator line d ps c) s) (λ names q. absurd cc)
        (gives-if U v os U s (AreSteps (is_file_scope s)) (may_be_variadic c d s) _
        (λ e. function-gives (is_file_scope s) c s (steps d s) (parameters ps) (printf-named d s c (steps d s) e (steps-give d s)) (λ t. parameters-give ps t)))
    steps-give (AbstractParen line d) s = unnamed (AbstractParen line d) s (steps d s) (λ names q. absurd cc) (less-named d s (steps d s) (steps-give d s))
    steps-give (AbstractPointer line consts d) s = unnamed (AbstractPointer line consts d) s (steps (AbstractPointer line consts d) s) (λ names q. absurd cc) (pointer-gives (is_file_scope s) consts s (optional_steps d s) (optional-give d s))
    steps-give (AbstractArray line d n) s =
        unnamed (AbstractArray line d n) s (steps (AbstractArray line d n) s) (λ names q. absurd cc) (array-gives (is_file_scope s) s (optional_steps d s) (array_size n) (optional-give d s) (λ t. size-gives n t))
    steps-give (AbstractFunction line d ps true) s = gives-none U v os U s (AreNamedSteps (is_file_scope s) (AbstractFunction line d ps true))
    steps-give (AbstractFunction line d ps false) s =
        unnamed (AbstractFunction line d ps false) s (steps (AbstractFunction line d ps false) s) (λ names q. absurd cc)
        (function-gives (is_file_scope s) false s (optional_steps d s) (parameters ps) (no-variadic s (optional_steps d s) (optional-give d s)) (λ t. parameters-give ps t))

    pub optional-give : (o : OptionalTree) (s : State) → Gives U v os U s (AreSteps (is_file_scope s)) (optional_steps o s)
    optional-give Absent s = gives-here U v os U s (AreSteps (is_file_scope s)) (Some no_steps) (λ x e l p g. as-made (IsSteps (is_file_scope s) v) no_steps x (no-steps (is_file_scope s)) e)
    optional-give (Present (OfDeclarator d)) s = less-named d s (steps d s) (steps-give d s)
    optional-give (Present (OfExpression x)) s = gives-none U v os U s (AreSteps (is_file_scope s))
    optional-give (Present (OfDeclaration x)) s = gives-none U v os U s (AreSteps (is_file_scope s))
    optional-give (Present (OfSpecifier x)) s = gives-none U v os U s (AreSteps (is_file_scope s))
    optional-give (Present (OfInitializer x)) s = gives-none U v os U s (AreSteps (is_file_scope s))
    optional-give (Present (OfStatement x)) s = gives-none U v os U s (AreSteps (is_file_scope s))

    pub size-gives : (o : OptionalTree) (s : State) → Gives U v os U s IsAnything (array_size o s)
    size-gives Absent s = gives-here U v os U s IsAnything (Some None) (λ x e l p g. tt)
    size-gives (Present (OfExpression a)) s = known-gives s (integer_value (operand (types a s))) (constant-gives s (types a s) (types-gives a false s (λ i. absurd i) (λ i. absurd i)))
    size-gives (Present (OfDeclaration x)) s = gives-none U v os U s IsAnything
    size-gives (Present (OfDeclarator x)) s = gives-none U v os U s IsAnything
    size-gives (Present (OfSpecifier x)) s = gives-none U v os U s IsAnything
    size-gives (Present (OfInitializer x)) s = gives-none U v os U s IsAnything
    size-gives (Present (OfStatement x)) s = gives-none U v os U s IsAnything

    pub parameters-give : (ts : Trees) (s : State) → Gives ⊥ v os (is_file_scope s ≡ false) s (ParametersProper v) (parameters ts s)
    parameters-give NoTrees s = gives-here ⊥ v os (is_file_scope s ≡ false) s (ParametersProper v) (Some []) (λ x e l p g. as-made (Each (λ (q : OneParameter). IsProper v q.t)) [] x tt e)
    parameters-give (Then before x) s =
        gives-then ⊥ v os (is_file_scope s ≡ false) s (ParametersProper v) (ParametersProper v) (parameters before s) (parameter_in x) (parameters-give before s)
        (λ a m. gives-weaker ⊥ ⊥ ((is_file_scope a.state ≡ false) × ParametersProper v a) ((is_file_scope s ≡ false) × ParametersProper v a) v os a.state (ParametersProper v) (ParametersProper v) (parameter_in x a) (λ f. f)
        (λ p. (file-same s.scopes a.state.scopes m.outer ∙ p.0, p.1)) (λ b q. q) (parameter-in-gives x a))

    pub parameter-in-gives : (x : Tree) (a : After (List OneParameter)) → Gives ⊥ v os ((is_file_scope a.state ≡ false) × ParametersProper v a) a.state (ParametersProper v) (parameter_in x a)
    parameter-in-gives (OfDeclaration (Parameter line specs d)) ps =
        gives-then ⊥ v os ((is_file_scope ps.state ≡ false) × ParametersProper v ps) ps.state IsSeen (ParametersProper v) (specifiers specs ps.state) (λ a. and_then (type_without_storage a) (λ b. and_then (optional_steps d b.state) (parameter_of (optional_name d) b.value ps.value)))
        (inner-gives ((is_file_scope ps.state ≡ false) × ParametersProper v ps) ps.state IsSeen (specifiers specs ps.state) (specifiers-give specs ps.state))
        (λ a i. gives-then ⊥ v os (((is_file_scope ps.state ≡ false) × ParametersProper v ps) × IsSeen a) a.state (λ (b : After Ty). IsProper v b.value) (ParametersProper v) (type_without_storage a) (λ b. and_then (optional_steps d b.state) (parameter_of (optional_name d) b.value ps.value))
        (gives-here ⊥ v os (((is_file_scope ps.state ≡ false) × ParametersProper v ps) × IsSeen a) a.state (λ (b : After Ty). IsProper v b.value) (and_then (specification_of a.value) without_storage) (λ t e l p g. plain-proper v a.value t p.1 e))
        (λ b j. gives-then ⊥ v os ((((is_file_scope ps.state ≡ false) × ParametersProper v ps) × IsSeen a) × IsProper v b.value) b.state (AreSteps (is_file_scope b.state)) (ParametersProper v) (optional_steps d b.state) (parameter_of (optional_name d) b.value ps.value)
        (inner-gives ((((is_file_scope ps.state ≡ false) × ParametersProper v ps) × IsSeen a) × IsProper v b.value) b.state (AreSteps (is_file_scope b.state)) (optional_steps d b.state) (optional-give d b.state))
        (λ c k. with-parameter-gives (optional_name d) b.value ps.value c (((((is_file_scope ps.state ≡ false) × ParametersProper v ps) × IsSeen a) × IsProper v b.value) × IsSteps (is_file_scope b.state) v c.value) (is_file_scope b.state)
        (λ p. (
          p.0.0.0.1,
          p.0.1,
          p.1,
          file-same a.state.scopes b.state.scopes j.outer ∙ file-same ps.state.scopes a.state.scopes i.outer ∙ p.0.0.0.0,
        )))))
    parameter-in-gives (OfDeclaration (FunctionTree line specs d b)) a = gives-none ⊥ v os ((is_file_scope a.state ≡ false) × ParametersProper v a) a.state (ParametersProper v)
    parameter-in-gives (OfDeclaration (Declaration line specs ds)) a = gives-none ⊥ v os ((is_file_scope a.state ≡ false) × ParametersProper v a) a.state (ParametersProper v)
    parameter-in-gives (OfDeclaration (InitDeclarator line d i)) a = gives-none ⊥ v os ((is_file_scope a.state ≡ false) × ParametersProper v a) a.state (ParametersProper v)
    parameter-in-gives (OfDeclaration (MemberDeclaration line specs ds)) a = gives-none ⊥ v os ((is_file_scope a.state ≡ false) × ParametersProper v a) a.state (ParametersProper v)
    parameter-in-gives (OfDeclaration (Enumerator line n x)) a = gives-none ⊥ v os ((is_file_scope a.state ≡ false) × ParametersProper v a) a.state (ParametersProper v)
    parameter-in-gives (OfDeclaration (TypeName line specs d)) a = gives-none ⊥ v os ((is_file_scope a.state ≡ false) × ParametersProper v a) a.state (ParametersProper v)
    parameter-in-gives (OfExpression x) a = gives-none ⊥ v os ((is_file_scope a.state ≡ false) × ParametersProper v a) a.state (ParametersProper v)
    parameter-in-gives (OfDeclarator x) a = gives-none ⊥ v os ((is_file_scope a.state ≡ false) × ParametersProper v a) a.state (ParametersProper v)
    parameter-in-gives (OfSpecifier x) a = gives-none ⊥ v os ((is_file_scope a.state ≡ false) × ParametersProper v a) a.state (ParametersProper v)
    parameter-in-gives (OfInitializer x) a = gives-none ⊥ v os ((is_file_scope a.state ≡ false) × ParametersProper v a) a.state (ParametersProper v)
    parameter-in-gives (OfStatement x) a = gives-none ⊥ v os ((is_file_scope a.state ≡ false) × ParametersProper v a) a.state (ParametersProper v)

  -- an expression that is evaluated
  pub well-typed : (e : ExpressionTree) (s : State) (a : After TypedTree) → types e s ≡ Some a → IsEvaluated v os s e → Later a.state v → IsTyped v os a.value
  well-typed e s a q h later =
      let r = (types-gives e true s (λ i. (h.evaluated, h.visible)) (λ i. h.characters)).held a q in
      (r.1 later tt h.proper).1.typed tt
