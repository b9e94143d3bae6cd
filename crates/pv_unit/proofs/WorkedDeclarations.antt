-- Declarations whose answers were worked out apart from these definitions: refused at which external declaration, or the size and the alignment of each object.
use Rattle.std.proofs.Common.{◌≡◌, ℕ, ◌+◌, ◌-◌, pos, true, false, List, [], ◌∷◌, ◌++◌, Option, Some, None, if◌then◌else◌, refl}
use Rattle.pv_token.specs.declared.words.Word.TheVariants as word
use Rattle.pv_tree.specs.declared.operators.UnaryOperator.TheVariants as unary
use Rattle.pv_tree.specs.declared.operators.BinaryOperator.TheVariants as op
use Rattle.pv_tree.specs.Syntax.{Name, Number, Character, Paren, Index, Member, Unary, SizeofExpr, SizeofType, Cast, Binary, Conditional, Comma, DeclarationTree, Function, Declaration, InitDeclarator, MemberDeclaration, Enumerator, Parameter, TypeName, DeclaredName, ParenDeclarator, Pointer, Array, FunctionDeclarator, AbstractParen, AbstractPointer, AbstractArray, AbstractFunction, Keyword, Composite, Enumeration, Tag, TypedefName, Initial, Braces, Block, OfExpression, OfDeclaration, OfDeclarator, OfSpecifier, OfInitializer, Trees, NoTrees, Then, Absent, Present}
use Rattle.pv_types.specs.Layouts.{Entry, layout_in, is_complete_in, layouts_of}
use Rattle.pv_types.specs.Compatible.{are_compatible}
use Rattle.pv_check.specs.Words.{type_of_words}
use Rattle.pv_typed.specs.TypedUnits.{TypedObject}
use Rattle.pv_check.specs.State.{State, Scope, env}
use Rattle.pv_check.specs.Scopes.{no_scope, behind_scope}
use Rattle.pv_typed.specs.Constants.{and_then}
use Rattle.pv_library.specs.LibraryNames.{library_named}
use Rattle.pv_unit.specs.Redeclarations.{UnitState}
use Rattle.pv_unit.specs.Initializers.{initialized_object}
use Rattle.pv_unit.specs.ValueRules.{values}
use Rattle.pv_unit.specs.Declarations.{file_declaration}
use Rattle.pv_unit.specs.Blocks.{block_declaration}
use Rattle.pv_unit.specs.Definitions.{head, may_end}

data Answer : Type 0 where
  Refused : ℕ → Answer
  Accepted : List (Option (ℕ × ℕ)) → Answer

abbrev items : Trees → State → Option State
items NoTrees s = Some s
items (Then before (OfDeclaration d)) s = and_then (items before s) (λ t. and_then (block_declaration d t) (λ a. Some a.state))
items _ s = None

abbrev inside : Scope → State → State
inside x s = record s { scopes = s.scopes ++ (x ∷ []) }

abbrev external : DeclarationTree → UnitState → Option UnitState
external (Function line specs d (Block at ds)) u =
    and_then (head specs d u) (λ h. and_then (items ds (inside h.0.signature.scope h.1.state)) (λ s. Some (record h.1 { state = behind_scope s })))
external d u = file_declaration d u

abbrev extents : List Entry → List TypedObject → List (Option (ℕ × ℕ))
extents env [] = []
extents env (o ∷ os) = (if is_complete_in env o.t then Some ((layout_in env o.t).size, (layout_in env o.t).align) else None) ∷ extents env os

abbrev ended : ℕ → Option UnitState → Answer
ended i None = Refused i
ended i (Some u) = if may_end u then Accepted (extents (env u.state) u.state.unit.objects) else Refused i

abbrev judged_from : ℕ → DeclarationTree → List DeclarationTree → Option UnitState → Answer
judged_from i d ds None = Refused (i - 1)
judged_from i d [] (Some u) = ended i (external d u)
judged_from i d (e ∷ ds) (Some u) = judged_from (i + 1) e ds (external d u)

abbrev nothing : List (List ℕ) → UnitState
nothing texts = record { state = record { scopes = no_scope ∷ []; unit = record { names = [] ∷ [] ∷ texts; headings = []; completed = []; objects = []; functions = []; literals = []; instances = []; statics = []; placed = []; tags = []; declarations = 0 }; texts = []; used = []; unevaluated = false }; entities = []; unsized_typedef = false }

abbrev judged : List (List ℕ) → List DeclarationTree → Answer
judged texts [] = Accepted []
judged texts (d ∷ ds) = judged_from 0 d ds (Some (nothing texts))

-- 6.7.2p2: the words of a type
type_words :
    -- int a; unsigned b; signed c; long d; short e; char f; _Bool g; long long h;
    (judged ((97 ∷ []) ∷ (98 ∷ []) ∷ (99 ∷ []) ∷ (100 ∷ []) ∷ (101 ∷ []) ∷ (102 ∷ []) ∷ (103 ∷ []) ∷ (104 ∷ []) ∷ []) ((Declaration 1 (Then NoTrees (OfSpecifier (Keyword 1 word.Int))) (Then NoTrees (OfDeclaration (InitDeclarator 1 (DeclaredName 1 0) Absent)))) ∷ (Declaration 1 (Then NoTrees (OfSpecifier (Keyword 1 word.Unsigned))) (Then NoTrees (OfDeclaration (InitDeclarator 1 (DeclaredName 1 1) Absent)))) ∷ (Declaration 1 (Then NoTrees (OfSpecifier (Keyword 1 word.Signed))) (Then NoTrees (OfDeclaration (InitDeclarator 1 (DeclaredName 1 2) Absent)))) ∷ (Declaration 1 (Then NoTrees (OfSpecifier (Keyword 1 word.Long))) (Then NoTrees (OfDeclaration (InitDeclarator 1 (DeclaredName 1 3) Absent)))) ∷ (Declaration 1 (Then NoTrees (OfSpecifier (Keyword 1 word.Short))) (Then NoTrees (OfDeclaration (InitDeclarator 1 (DeclaredName 1 4) Absent)))) ∷ (Declaration 1 (Then NoTrees (OfSpecifier (Keyword 1 word.Char))) (Then NoTrees (OfDeclaration (InitDeclarator 1 (DeclaredName 1 5) Absent)))) ∷ (Declaration 1 (Then NoTrees (OfSpecifier (Keyword 1 word.Bool))) (Then NoTrees (OfDeclaration (InitDeclarator 1 (DeclaredName 1 6) Absent)))) ∷ (Declaration 1 (Then (Then NoTrees (OfSpecifier (Keyword 1 word.Long))) (OfSpecifier (Keyword 1 word.Long))) (Then NoTrees (OfDeclaration (InitDeclarator 1 (DeclaredName 1 7) Absent)))) ∷ []) ≡ Accepted ((Some (4, 4)) ∷ (Some (4, 4)) ∷ (Some (4, 4)) ∷ (Some (8, 8)) ∷ (Some (2, 2)) ∷ (Some (1, 1)) ∷ (Some (1, 1)) ∷ (Some (8, 8)) ∷ []))
    -- long unsigned int a; int long long unsigned b; char unsigned c; int short d; int signed long e; signed char f;
    × (judged ((97 ∷ []) ∷ (98 ∷ []) ∷ (99 ∷ []) ∷ (100 ∷ []) ∷ (101 ∷ []) ∷ (102 ∷ []) ∷ []) ((Declaration 1 (Then (Then (Then NoTrees (OfSpecifier (Keyword 1 word.Long))) (OfSpecifier (Keyword 1 word.Unsigned))) (OfSpecifier (Keyword 1 word.Int))) (Then NoTrees (OfDeclaration (InitDeclarator 1 (DeclaredName 1 0) Absent)))) ∷ (Declaration 1 (Then (Then (Then (Then NoTrees (OfSpecifier (Keyword 1 word.Int))) (OfSpecifier (Keyword 1 word.Long))) (OfSpecifier (Keyword 1 word.Long))) (OfSpecifier (Keyword 1 word.Unsigned))) (Then NoTrees (OfDeclaration (InitDeclarator 1 (DeclaredName 1 1) Absent)))) ∷ (Declaration 1 (Then (Then NoTrees (OfSpecifier (Keyword 1 word.Char))) (OfSpecifier (Keyword 1 word.Unsigned))) (Then NoTrees (OfDeclaration (InitDeclarator 1 (DeclaredName 1 2) Absent)))) ∷ (Declaration 1 (Then (Then NoTrees (OfSpecifier (Keyword 1 word.Int))) (OfSpecifier (Keyword 1 word.Short))) (Then NoTrees (OfDeclaration (InitDeclarator 1 (DeclaredName 1 3) Absent)))) ∷ (Declaration 1 (Then (Then (Then NoTrees (OfSpecifier (Keyword 1 word.Int))) (OfSpecifier (Keyword 1 word.Signed))) (OfSpecifier (Keyword 1 word.Long))) (Then NoTrees (OfDeclaration (InitDeclarator 1 (DeclaredName 1 4) Absent)))) ∷ (Declaration 1 (Then (Then NoTrees (OfSpecifier (Keyword 1 word.Signed))) (OfSpecifier (Keyword 1 word.Char))) (Then NoTrees (OfDeclaration (InitDeclarator 1 (DeclaredName 1 5) Absent)))) ∷ []) ≡ Accepted ((Some (8, 8)) ∷ (Some (8, 8)) ∷ (Some (1, 1)) ∷ (Some (2, 2)) ∷ (Some (8, 8)) ∷ (Some (1, 1)) ∷ []))
    -- long long long a;
    × (judged ((97 ∷ []) ∷ []) ((Declaration 1 (Then (Then (Then NoTrees (OfSpecifier (Keyword 1 word.Long))) (OfSpecifier (Keyword 1 word.Long))) (OfSpecifier (Keyword 1 word.Long))) (Then NoTrees (OfDeclaration (InitDeclarator 1 (DeclaredName 1 0) Absent)))) ∷ []) ≡ Refused 0)
    -- unsigned signed a;
    × (judged ((97 ∷ []) ∷ []) ((Declaration 1 (Then (Then NoTrees (OfSpecifier (Keyword 1 word.Unsigned))) (OfSpecifier (Keyword 1 word.Signed))) (Then NoTrees (OfDeclaration (InitDeclarator 1 (DeclaredName 1 0) Absent)))) ∷ []) ≡ Refused 0)
    -- short long a;
    × (judged ((97 ∷ []) ∷ []) ((Declaration 1 (Then (Then NoTrees (OfSpecifier (Keyword 1 word.Short))) (OfSpecifier (Keyword 1 word.Long))) (Then NoTrees (OfDeclaration (InitDeclarator 1 (DeclaredName 1 0) Absent)))) ∷ []) ≡ Refused 0)
    -- char int a;
    × (judged ((97 ∷ []) ∷ []) ((Declaration 1 (Then (Then NoTrees (OfSpecifier (Keyword 1 word.Char))) (OfSpecifier (Keyword 1 word.Int))) (Then NoTrees (OfDeclaration (InitDeclarator 1 (DeclaredName 1 0) Absent)))) ∷ []) ≡ Refused 0)
    -- _Bool int a;
    × (judged ((97 ∷ []) ∷ []) ((Declaration 1 (Then (Then NoTrees (OfSpecifier (Keyword 1 word.Bool))) (OfSpecifier (Keyword 1 word.Int))) (Then NoTrees (OfDeclaration (InitDeclarator 1 (DeclaredName 1 0) Absent)))) ∷ []) ≡ Refused 0)
    -- int int a;
    × (judged ((97 ∷ []) ∷ []) ((Declaration 1 (Then (Then NoTrees (OfSpecifier (Keyword 1 word.Int))) (OfSpecifier (Keyword 1 word.Int))) (Then NoTrees (OfDeclaration (InitDeclarator 1 (DeclaredName 1 0) Absent)))) ∷ []) ≡ Refused 0)
    -- const a;
    × (judged ((97 ∷ []) ∷ []) ((Declaration 1 (Then NoTrees (OfSpecifier (Keyword 1 word.Const))) (Then NoTrees (OfDeclaration (InitDeclarator 1 (DeclaredName 1 0) Absent)))) ∷ []) ≡ Refused 0)
    -- static a;
    × (judged ((97 ∷ []) ∷ []) ((Declaration 1 (Then NoTrees (OfSpecifier (Keyword 1 word.Static))) (Then NoTrees (OfDeclaration (InitDeclarator 1 (DeclaredName 1 0) Absent)))) ∷ []) ≡ Refused 0)
unfolding type_of_words library_named are_compatible layouts_of initialized_object values
type_words = (refl, refl, refl, refl, refl, refl, refl, refl, refl, refl)

-- 6.7.1p2, p4: storage classes
storage_classes :
    -- static extern int a;
    (judged ((97 ∷ []) ∷ []) ((Declaration 1 (Then (Then (Then NoTrees (OfSpecifier (Keyword 1 word.Static))) (OfSpecifier (Keyword 1 word.Extern))) (OfSpecifier (Keyword 1 word.Int))) (Then NoTrees (OfDeclaration (InitDeclarator 1 (DeclaredName 1 0) Absent)))) ∷ []) ≡ Refused 0)
    -- typedef static int a;
    × (judged ((97 ∷ []) ∷ []) ((Declaration 1 (Then (Then (Then NoTrees (OfSpecifier (Keyword 1 word.Typedef))) (OfSpecifier (Keyword 1 word.Static))) (OfSpecifier (Keyword 1 word.Int))) (Then NoTrees (OfDeclaration (InitDeclarator 1 (DeclaredName 1 0) Absent)))) ∷ []) ≡ Refused 0)
    -- extern int a = 1;
    × (judged ((97 ∷ []) ∷ []) ((Declaration 1 (Then (Then NoTrees (OfSpecifier (Keyword 1 word.Extern))) (OfSpecifier (Keyword 1 word.Int))) (Then NoTrees (OfDeclaration (InitDeclarator 1 (DeclaredName 1 0) (Present (OfInitializer (Initial 1 (Number 1 1 true false 0)))))))) ∷ []) ≡ Accepted ((Some (4, 4)) ∷ []))
    -- typedef int t = 1;
    × (judged ((116 ∷ []) ∷ []) ((Declaration 1 (Then (Then NoTrees (OfSpecifier (Keyword 1 word.Typedef))) (OfSpecifier (Keyword 1 word.Int))) (Then NoTrees (OfDeclaration (InitDeclarator 1 (DeclaredName 1 0) (Present (OfInitializer (Initial 1 (Number 1 1 true false 0)))))))) ∷ []) ≡ Refused 0)
unfolding type_of_words library_named are_compatible layouts_of initialized_object values
storage_classes = (refl, refl, refl, refl)

-- 6.9.2p3, 6.7.6.2p1: `void` has no objects
void_objects :
    -- void a;
    (judged ((97 ∷ []) ∷ []) ((Declaration 1 (Then NoTrees (OfSpecifier (Keyword 1 word.Void))) (Then NoTrees (OfDeclaration (InitDeclarator 1 (DeclaredName 1 0) Absent)))) ∷ []) ≡ Refused 0)
    -- extern void a;
    × (judged ((97 ∷ []) ∷ []) ((Declaration 1 (Then (Then NoTrees (OfSpecifier (Keyword 1 word.Extern))) (OfSpecifier (Keyword 1 word.Void))) (Then NoTrees (OfDeclaration (InitDeclarator 1 (DeclaredName 1 0) Absent)))) ∷ []) ≡ Accepted (None ∷ []))
    -- void a[3];
    × (judged ((97 ∷ []) ∷ []) ((Declaration 1 (Then NoTrees (OfSpecifier (Keyword 1 word.Void))) (Then NoTrees (OfDeclaration (InitDeclarator 1 (Array 1 (DeclaredName 1 0) (Present (OfExpression (Number 1 3 true false 0)))) Absent)))) ∷ []) ≡ Refused 0)
    -- int f(void) { void a; }
    × (judged ((102 ∷ []) ∷ (97 ∷ []) ∷ []) ((Function 1 (Then NoTrees (OfSpecifier (Keyword 1 word.Int))) (FunctionDeclarator 1 (DeclaredName 1 0) (Then NoTrees (OfDeclaration (Parameter 1 (Then NoTrees (OfSpecifier (Keyword 1 word.Void))) Absent))) false) (Block 1 (Then NoTrees (OfDeclaration (Declaration 1 (Then NoTrees (OfSpecifier (Keyword 1 word.Void))) (Then NoTrees (OfDeclaration (InitDeclarator 1 (DeclaredName 1 1) Absent)))))))) ∷ []) ≡ Refused 0)
    -- typedef void t; t *p;
    × (judged ((116 ∷ []) ∷ (112 ∷ []) ∷ []) ((Declaration 1 (Then (Then NoTrees (OfSpecifier (Keyword 1 word.Typedef))) (OfSpecifier (Keyword 1 word.Void))) (Then NoTrees (OfDeclaration (InitDeclarator 1 (DeclaredName 1 0) Absent)))) ∷ (Declaration 1 (Then NoTrees (OfSpecifier (TypedefName 1 0))) (Then NoTrees (OfDeclaration (InitDeclarator 1 (Pointer 1 0 (DeclaredName 1 1)) Absent)))) ∷ []) ≡ Accepted ((Some (8, 8)) ∷ []))
    -- typedef void t; t x;
    × (judged ((116 ∷ []) ∷ (120 ∷ []) ∷ []) ((Declaration 1 (Then (Then NoTrees (OfSpecifier (Keyword 1 word.Typedef))) (OfSpecifier (Keyword 1 word.Void))) (Then NoTrees (OfDeclaration (InitDeclarator 1 (DeclaredName 1 0) Absent)))) ∷ (Declaration 1 (Then NoTrees (OfSpecifier (TypedefName 1 0))) (Then NoTrees (OfDeclaration (InitDeclarator 1 (DeclaredName 1 1) Absent)))) ∷ []) ≡ Refused 1)
unfolding type_of_words library_named are_compatible layouts_of initialized_object values
void_objects = (refl, refl, refl, refl, refl, refl)

-- 6.7p3, p4, 6.9.2p2: an object that is declared several times
redeclared_objects :
    -- extern int a; int a;
    (judged ((97 ∷ []) ∷ []) ((Declaration 1 (Then (Then NoTrees (OfSpecifier (Keyword 1 word.Extern))) (OfSpecifier (Keyword 1 word.Int))) (Then NoTrees (OfDeclaration (InitDeclarator 1 (DeclaredName 1 0) Absent)))) ∷ (Declaration 1 (Then NoTrees (OfSpecifier (Keyword 1 word.Int))) (Then NoTrees (OfDeclaration (InitDeclarator 1 (DeclaredName 1 0) Absent)))) ∷ []) ≡ Accepted ((Some (4, 4)) ∷ []))
    -- int a; extern int a; int a;
    × (judged ((97 ∷ []) ∷ []) ((Declaration 1 (Then NoTrees (OfSpecifier (Keyword 1 word.Int))) (Then NoTrees (OfDeclaration (InitDeclarator 1 (DeclaredName 1 0) Absent)))) ∷ (Declaration 1 (Then (Then NoTrees (OfSpecifier (Keyword 1 word.Extern))) (OfSpecifier (Keyword 1 word.Int))) (Then NoTrees (OfDeclaration (InitDeclarator 1 (DeclaredName 1 0) Absent)))) ∷ (Declaration 1 (Then NoTrees (OfSpecifier (Keyword 1 word.Int))) (Then NoTrees (OfDeclaration (InitDeclarator 1 (DeclaredName 1 0) Absent)))) ∷ []) ≡ Accepted ((Some (4, 4)) ∷ []))
    -- int a = 1; int a = 2;
    × (judged ((97 ∷ []) ∷ []) ((Declaration 1 (Then NoTrees (OfSpecifier (Keyword 1 word.Int))) (Then NoTrees (OfDeclaration (InitDeclarator 1 (DeclaredName 1 0) (Present (OfInitializer (Initial 1 (Number 1 1 true false 0)))))))) ∷ (Declaration 1 (Then NoTrees (OfSpecifier (Keyword 1 word.Int))) (Then NoTrees (OfDeclaration (InitDeclarator 1 (DeclaredName 1 0) (Present (OfInitializer (Initial 1 (Number 1 2 true false 0)))))))) ∷ []) ≡ Refused 1)
    -- int a; static int a;
    × (judged ((97 ∷ []) ∷ []) ((Declaration 1 (Then NoTrees (OfSpecifier (Keyword 1 word.Int))) (Then NoTrees (OfDeclaration (InitDeclarator 1 (DeclaredName 1 0) Absent)))) ∷ (Declaration 1 (Then (Then NoTrees (OfSpecifier (Keyword 1 word.Static))) (OfSpecifier (Keyword 1 word.Int))) (Then NoTrees (OfDeclaration (InitDeclarator 1 (DeclaredName 1 0) Absent)))) ∷ []) ≡ Accepted ((Some (4, 4)) ∷ []))
    -- enum e { A } x; int x;
    × (judged ((101 ∷ []) ∷ (65 ∷ []) ∷ (120 ∷ []) ∷ []) ((Declaration 1 (Then NoTrees (OfSpecifier (Enumeration 1 (Some 0) (Then NoTrees (OfDeclaration (Enumerator 1 1 Absent))) false))) (Then NoTrees (OfDeclaration (InitDeclarator 1 (DeclaredName 1 2) Absent)))) ∷ (Declaration 1 (Then NoTrees (OfSpecifier (Keyword 1 word.Int))) (Then NoTrees (OfDeclaration (InitDeclarator 1 (DeclaredName 1 2) Absent)))) ∷ []) ≡ Accepted ((Some (4, 4)) ∷ []))
    -- long a; int a;
    × (judged ((97 ∷ []) ∷ []) ((Declaration 1 (Then NoTrees (OfSpecifier (Keyword 1 word.Long))) (Then NoTrees (OfDeclaration (InitDeclarator 1 (DeclaredName 1 0) Absent)))) ∷ (Declaration 1 (Then NoTrees (OfSpecifier (Keyword 1 word.Int))) (Then NoTrees (OfDeclaration (InitDeclarator 1 (DeclaredName 1 0) Absent)))) ∷ []) ≡ Refused 1)
    -- const int a; int a;
    × (judged ((97 ∷ []) ∷ []) ((Declaration 1 (Then (Then NoTrees (OfSpecifier (Keyword 1 word.Const))) (OfSpecifier (Keyword 1 word.Int))) (Then NoTrees (OfDeclaration (InitDeclarator 1 (DeclaredName 1 0) Absent)))) ∷ (Declaration 1 (Then NoTrees (OfSpecifier (Keyword 1 word.Int))) (Then NoTrees (OfDeclaration (InitDeclarator 1 (DeclaredName 1 0) Absent)))) ∷ []) ≡ Refused 1)
    -- int *a; const int *a;
    × (judged ((97 ∷ []) ∷ []) ((Declaration 1 (Then NoTrees (OfSpecifier (Keyword 1 word.Int))) (Then NoTrees (OfDeclaration (InitDeclarator 1 (Pointer 1 0 (DeclaredName 1 0)) Absent)))) ∷ (Declaration 1 (Then (Then NoTrees (OfSpecifier (Keyword 1 word.Const))) (OfSpecifier (Keyword 1 word.Int))) (Then NoTrees (OfDeclaration (InitDeclarator 1 (Pointer 1 0 (DeclaredName 1 0)) Absent)))) ∷ []) ≡ Refused 1)
    -- int *const a; int *a;
    × (judged ((97 ∷ []) ∷ []) ((Declaration 1 (Then NoTrees (OfSpecifier (Keyword 1 word.Int))) (Then NoTrees (OfDeclaration (InitDeclarator 1 (Pointer 1 1 (DeclaredName 1 0)) Absent)))) ∷ (Declaration 1 (Then NoTrees (OfSpecifier (Keyword 1 word.Int))) (Then NoTrees (OfDeclaration (InitDeclarator 1 (Pointer 1 0 (DeclaredName 1 0)) Absent)))) ∷ []) ≡ Refused 1)
    -- int (*a)[3]; const int (*a)[3];
    × (judged ((97 ∷ []) ∷ []) ((Declaration 1 (Then NoTrees (OfSpecifier (Keyword 1 word.Int))) (Then NoTrees (OfDeclaration (InitDeclarator 1 (Array 1 (ParenDeclarator 1 (Pointer 1 0 (DeclaredName 1 0))) (Present (OfExpression (Number 1 3 true false 0)))) Absent)))) ∷ (Declaration 1 (Then (Then NoTrees (OfSpecifier (Keyword 1 word.Const))) (OfSpecifier (Keyword 1 word.Int))) (Then NoTrees (OfDeclaration (InitDeclarator 1 (Array 1 (ParenDeclarator 1 (Pointer 1 0 (DeclaredName 1 0))) (Present (OfExpression (Number 1 3 true false 0)))) Absent)))) ∷ []) ≡ Refused 1)
    -- enum e { A } x; int x;
    × (judged ((101 ∷ []) ∷ (65 ∷ []) ∷ (120 ∷ []) ∷ []) ((Declaration 1 (Then NoTrees (OfSpecifier (Enumeration 1 (Some 0) (Then NoTrees (OfDeclaration (Enumerator 1 1 Absent))) false))) (Then NoTrees (OfDeclaration (InitDeclarator 1 (DeclaredName 1 2) Absent)))) ∷ (Declaration 1 (Then NoTrees (OfSpecifier (Keyword 1 word.Int))) (Then NoTrees (OfDeclaration (InitDeclarator 1 (DeclaredName 1 2) Absent)))) ∷ []) ≡ Accepted ((Some (4, 4)) ∷ []))
unfolding type_of_words library_named are_compatible layouts_of initialized_object values
redeclared_objects = (refl, refl, refl, refl, refl, refl, refl, refl, refl, refl, refl)

-- 6.7.3p4, p5, p9: qualifiers
qualified_types :
    -- const int const a; int const b;
    (judged ((97 ∷ []) ∷ (98 ∷ []) ∷ []) ((Declaration 1 (Then (Then (Then NoTrees (OfSpecifier (Keyword 1 word.Const))) (OfSpecifier (Keyword 1 word.Const))) (OfSpecifier (Keyword 1 word.Int))) (Then NoTrees (OfDeclaration (InitDeclarator 1 (DeclaredName 1 0) Absent)))) ∷ (Declaration 1 (Then (Then NoTrees (OfSpecifier (Keyword 1 word.Const))) (OfSpecifier (Keyword 1 word.Int))) (Then NoTrees (OfDeclaration (InitDeclarator 1 (DeclaredName 1 1) Absent)))) ∷ []) ≡ Accepted ((Some (4, 4)) ∷ (Some (4, 4)) ∷ []))
    -- typedef int t[3]; const t a; extern const int a[3];
    × (judged ((116 ∷ []) ∷ (97 ∷ []) ∷ []) ((Declaration 1 (Then (Then NoTrees (OfSpecifier (Keyword 1 word.Typedef))) (OfSpecifier (Keyword 1 word.Int))) (Then NoTrees (OfDeclaration (InitDeclarator 1 (Array 1 (DeclaredName 1 0) (Present (OfExpression (Number 1 3 true false 0)))) Absent)))) ∷ (Declaration 1 (Then (Then NoTrees (OfSpecifier (Keyword 1 word.Const))) (OfSpecifier (TypedefName 1 0))) (Then NoTrees (OfDeclaration (InitDeclarator 1 (DeclaredName 1 1) Absent)))) ∷ (Declaration 1 (Then (Then (Then NoTrees (OfSpecifier (Keyword 1 word.Extern))) (OfSpecifier (Keyword 1 word.Const))) (OfSpecifier (Keyword 1 word.Int))) (Then NoTrees (OfDeclaration (InitDeclarator 1 (Array 1 (DeclaredName 1 1) (Present (OfExpression (Number 1 3 true false 0)))) Absent)))) ∷ []) ≡ Accepted ((Some (12, 4)) ∷ []))
    -- typedef const int t; const t a;
    × (judged ((116 ∷ []) ∷ (97 ∷ []) ∷ []) ((Declaration 1 (Then (Then (Then NoTrees (OfSpecifier (Keyword 1 word.Typedef))) (OfSpecifier (Keyword 1 word.Const))) (OfSpecifier (Keyword 1 word.Int))) (Then NoTrees (OfDeclaration (InitDeclarator 1 (DeclaredName 1 0) Absent)))) ∷ (Declaration 1 (Then (Then NoTrees (OfSpecifier (Keyword 1 word.Const))) (OfSpecifier (TypedefName 1 0))) (Then NoTrees (OfDeclaration (InitDeclarator 1 (DeclaredName 1 1) Absent)))) ∷ []) ≡ Accepted ((Some (4, 4)) ∷ []))
    -- typedef int f(void); const f g;
    × (judged ((102 ∷ []) ∷ (103 ∷ []) ∷ []) ((Declaration 1 (Then (Then NoTrees (OfSpecifier (Keyword 1 word.Typedef))) (OfSpecifier (Keyword 1 word.Int))) (Then NoTrees (OfDeclaration (InitDeclarator 1 (FunctionDeclarator 1 (DeclaredName 1 0) (Then NoTrees (OfDeclaration (Parameter 1 (Then NoTrees (OfSpecifier (Keyword 1 word.Void))) Absent))) false) Absent)))) ∷ (Declaration 1 (Then (Then NoTrees (OfSpecifier (Keyword 1 word.Const))) (OfSpecifier (TypedefName 1 0))) (Then NoTrees (OfDeclaration (InitDeclarator 1 (DeclaredName 1 1) Absent)))) ∷ []) ≡ Refused 1)
    -- int *const a; int *const *b; const int *const c;
    × (judged ((97 ∷ []) ∷ (98 ∷ []) ∷ (99 ∷ []) ∷ []) ((Declaration 1 (Then NoTrees (OfSpecifier (Keyword 1 word.Int))) (Then NoTrees (OfDeclaration (InitDeclarator 1 (Pointer 1 1 (DeclaredName 1 0)) Absent)))) ∷ (Declaration 1 (Then NoTrees (OfSpecifier (Keyword 1 word.Int))) (Then NoTrees (OfDeclaration (InitDeclarator 1 (Pointer 1 1 (Pointer 1 0 (DeclaredName 1 1))) Absent)))) ∷ (Declaration 1 (Then (Then NoTrees (OfSpecifier (Keyword 1 word.Const))) (OfSpecifier (Keyword 1 word.Int))) (Then NoTrees (OfDeclaration (InitDeclarator 1 (Pointer 1 1 (DeclaredName 1 2)) Absent)))) ∷ []) ≡ Accepted ((Some (8, 8)) ∷ (Some (8, 8)) ∷ (Some (8, 8)) ∷ []))
    -- struct s { const int a; } x; const struct s y;
    × (judged ((115 ∷ []) ∷ (97 ∷ []) ∷ (120 ∷ []) ∷ (121 ∷ []) ∷ []) ((Declaration 1 (Then NoTrees (OfSpecifier (Composite 1 word.Struct (Some 0) (Then NoTrees (OfDeclaration (MemberDeclaration 1 (Then (Then NoTrees (OfSpecifier (Keyword 1 word.Const))) (OfSpecifier (Keyword 1 word.Int))) (Then NoTrees (OfDeclarator (DeclaredName 1 1))))))))) (Then NoTrees (OfDeclaration (InitDeclarator 1 (DeclaredName 1 2) Absent)))) ∷ (Declaration 1 (Then (Then NoTrees (OfSpecifier (Keyword 1 word.Const))) (OfSpecifier (Tag 1 word.Struct 0))) (Then NoTrees (OfDeclaration (InitDeclarator 1 (DeclaredName 1 3) Absent)))) ∷ []) ≡ Accepted ((Some (4, 4)) ∷ (Some (4, 4)) ∷ []))
    -- typedef int t[3]; t a[2]; const t b;
    × (judged ((116 ∷ []) ∷ (97 ∷ []) ∷ (98 ∷ []) ∷ []) ((Declaration 1 (Then (Then NoTrees (OfSpecifier (Keyword 1 word.Typedef))) (OfSpecifier (Keyword 1 word.Int))) (Then NoTrees (OfDeclaration (InitDeclarator 1 (Array 1 (DeclaredName 1 0) (Present (OfExpression (Number 1 3 true false 0)))) Absent)))) ∷ (Declaration 1 (Then NoTrees (OfSpecifier (TypedefName 1 0))) (Then NoTrees (OfDeclaration (InitDeclarator 1 (Array 1 (DeclaredName 1 1) (Present (OfExpression (Number 1 2 true false 0)))) Absent)))) ∷ (Declaration 1 (Then (Then NoTrees (OfSpecifier (Keyword 1 word.Const))) (OfSpecifier (TypedefName 1 0))) (Then NoTrees (OfDeclaration (InitDeclarator 1 (DeclaredName 1 2) Absent)))) ∷ []) ≡ Accepted ((Some (24, 4)) ∷ (Some (12, 4)) ∷ []))
    -- typedef int t; const t *const a; t const *const a;
    × (judged ((116 ∷ []) ∷ (97 ∷ []) ∷ []) ((Declaration 1 (Then (Then NoTrees (OfSpecifier (Keyword 1 word.Typedef))) (OfSpecifier (Keyword 1 word.Int))) (Then NoTrees (OfDeclaration (InitDeclarator 1 (DeclaredName 1 0) Absent)))) ∷ (Declaration 1 (Then (Then NoTrees (OfSpecifier (Keyword 1 word.Const))) (OfSpecifier (TypedefName 1 0))) (Then NoTrees (OfDeclaration (InitDeclarator 1 (Pointer 1 1 (DeclaredName 1 1)) Absent)))) ∷ (Declaration 1 (Then (Then NoTrees (OfSpecifier (Keyword 1 word.Const))) (OfSpecifier (TypedefName 1 0))) (Then NoTrees (OfDeclaration (InitDeclarator 1 (Pointer 1 1 (DeclaredName 1 1)) Absent)))) ∷ []) ≡ Accepted ((Some (8, 8)) ∷ []))
unfolding type_of_words library_named are_compatible layouts_of initialized_object values
qualified_types = (refl, refl, refl, refl, refl, refl, refl, refl)

-- 6.7.6: what declarators make
declarator_forms :
    -- int a[3], *b[3], (*c)[3], d[2][3];
    (judged ((97 ∷ []) ∷ (98 ∷ []) ∷ (99 ∷ []) ∷ (100 ∷ []) ∷ []) ((Declaration 1 (Then NoTrees (OfSpecifier (Keyword 1 word.Int))) (Then (Then (Then (Then NoTrees (OfDeclaration (InitDeclarator 1 (Array 1 (DeclaredName 1 0) (Present (OfExpression (Number 1 3 true false 0)))) Absent))) (OfDeclaration (InitDeclarator 1 (Pointer 1 0 (Array 1 (DeclaredName 1 1) (Present (OfExpression (Number 1 3 true false 0))))) Absent))) (OfDeclaration (InitDeclarator 1 (Array 1 (ParenDeclarator 1 (Pointer 1 0 (DeclaredName 1 2))) (Present (OfExpression (Number 1 3 true false 0)))) Absent))) (OfDeclaration (InitDeclarator 1 (Array 1 (Array 1 (DeclaredName 1 3) (Present (OfExpression (Number 1 2 true false 0)))) (Present (OfExpression (Number 1 3 true false 0)))) Absent)))) ∷ []) ≡ Accepted ((Some (12, 4)) ∷ (Some (24, 8)) ∷ (Some (8, 8)) ∷ (Some (24, 4)) ∷ []))
    -- int a[2][3] ; int (*p)[3]; int q[sizeof *p];
    × (judged ((97 ∷ []) ∷ (112 ∷ []) ∷ (113 ∷ []) ∷ []) ((Declaration 1 (Then NoTrees (OfSpecifier (Keyword 1 word.Int))) (Then NoTrees (OfDeclaration (InitDeclarator 1 (Array 1 (Array 1 (DeclaredName 1 0) (Present (OfExpression (Number 1 2 true false 0)))) (Present (OfExpression (Number 1 3 true false 0)))) Absent)))) ∷ (Declaration 1 (Then NoTrees (OfSpecifier (Keyword 1 word.Int))) (Then NoTrees (OfDeclaration (InitDeclarator 1 (Array 1 (ParenDeclarator 1 (Pointer 1 0 (DeclaredName 1 1))) (Present (OfExpression (Number 1 3 true false 0)))) Absent)))) ∷ (Declaration 1 (Then NoTrees (OfSpecifier (Keyword 1 word.Int))) (Then NoTrees (OfDeclaration (InitDeclarator 1 (Array 1 (DeclaredName 1 2) (Present (OfExpression (SizeofExpr 1 (Unary 1 unary.Indirection (Name 1 1)))))) Absent)))) ∷ []) ≡ Accepted ((Some (24, 4)) ∷ (Some (8, 8)) ∷ (Some (48, 4)) ∷ []))
    -- int (a); int (*b); int (c[3]); int ((d));
    × (judged ((97 ∷ []) ∷ (98 ∷ []) ∷ (99 ∷ []) ∷ (100 ∷ []) ∷ []) ((Declaration 1 (Then NoTrees (OfSpecifier (Keyword 1 word.Int))) (Then NoTrees (OfDeclaration (InitDeclarator 1 (ParenDeclarator 1 (DeclaredName 1 0)) Absent)))) ∷ (Declaration 1 (Then NoTrees (OfSpecifier (Keyword 1 word.Int))) (Then NoTrees (OfDeclaration (InitDeclarator 1 (ParenDeclarator 1 (Pointer 1 0 (DeclaredName 1 1))) Absent)))) ∷ (Declaration 1 (Then NoTrees (OfSpecifier (Keyword 1 word.Int))) (Then NoTrees (OfDeclaration (InitDeclarator 1 (ParenDeclarator 1 (Array 1 (DeclaredName 1 2) (Present (OfExpression (Number 1 3 true false 0))))) Absent)))) ∷ (Declaration 1 (Then NoTrees (OfSpecifier (Keyword 1 word.Int))) (Then NoTrees (OfDeclaration (InitDeclarator 1 (ParenDeclarator 1 (ParenDeclarator 1 (DeclaredName 1 3))) Absent)))) ∷ []) ≡ Accepted ((Some (4, 4)) ∷ (Some (8, 8)) ∷ (Some (12, 4)) ∷ (Some (4, 4)) ∷ []))
    -- int *(a[3]); int (*b)[3]; int **c[2];
    × (judged ((97 ∷ []) ∷ (98 ∷ []) ∷ (99 ∷ []) ∷ []) ((Declaration 1 (Then NoTrees (OfSpecifier (Keyword 1 word.Int))) (Then NoTrees (OfDeclaration (InitDeclarator 1 (Pointer 1 0 (ParenDeclarator 1 (Array 1 (DeclaredName 1 0) (Present (OfExpression (Number 1 3 true false 0)))))) Absent)))) ∷ (Declaration 1 (Then NoTrees (OfSpecifier (Keyword 1 word.Int))) (Then NoTrees (OfDeclaration (InitDeclarator 1 (Array 1 (ParenDeclarator 1 (Pointer 1 0 (DeclaredName 1 1))) (Present (OfExpression (Number 1 3 true false 0)))) Absent)))) ∷ (Declaration 1 (Then NoTrees (OfSpecifier (Keyword 1 word.Int))) (Then NoTrees (OfDeclaration (InitDeclarator 1 (Pointer 1 0 (Pointer 1 0 (Array 1 (DeclaredName 1 2) (Present (OfExpression (Number 1 2 true false 0)))))) Absent)))) ∷ []) ≡ Accepted ((Some (24, 8)) ∷ (Some (8, 8)) ∷ (Some (16, 8)) ∷ []))
unfolding type_of_words library_named are_compatible layouts_of initialized_object values
declarator_forms = (refl, refl, refl, refl)

-- 6.7.6.2p1, p4: arrays, of known size or of none
arrays :
    -- int a[0];
    (judged ((97 ∷ []) ∷ []) ((Declaration 1 (Then NoTrees (OfSpecifier (Keyword 1 word.Int))) (Then NoTrees (OfDeclaration (InitDeclarator 1 (Array 1 (DeclaredName 1 0) (Present (OfExpression (Number 1 0 false false 0)))) Absent)))) ∷ []) ≡ Refused 0)
    -- int a[];
    × (judged ((97 ∷ []) ∷ []) ((Declaration 1 (Then NoTrees (OfSpecifier (Keyword 1 word.Int))) (Then NoTrees (OfDeclaration (InitDeclarator 1 (Array 1 (DeclaredName 1 0) Absent) Absent)))) ∷ []) ≡ Refused 0)
    -- int a[]; int a[3];
    × (judged ((97 ∷ []) ∷ []) ((Declaration 1 (Then NoTrees (OfSpecifier (Keyword 1 word.Int))) (Then NoTrees (OfDeclaration (InitDeclarator 1 (Array 1 (DeclaredName 1 0) Absent) Absent)))) ∷ (Declaration 1 (Then NoTrees (OfSpecifier (Keyword 1 word.Int))) (Then NoTrees (OfDeclaration (InitDeclarator 1 (Array 1 (DeclaredName 1 0) (Present (OfExpression (Number 1 3 true false 0)))) Absent)))) ∷ []) ≡ Accepted ((Some (12, 4)) ∷ []))
    -- int a[3]; extern int a[];
    × (judged ((97 ∷ []) ∷ []) ((Declaration 1 (Then NoTrees (OfSpecifier (Keyword 1 word.Int))) (Then NoTrees (OfDeclaration (InitDeclarator 1 (Array 1 (DeclaredName 1 0) (Present (OfExpression (Number 1 3 true false 0)))) Absent)))) ∷ (Declaration 1 (Then (Then NoTrees (OfSpecifier (Keyword 1 word.Extern))) (OfSpecifier (Keyword 1 word.Int))) (Then NoTrees (OfDeclaration (InitDeclarator 1 (Array 1 (DeclaredName 1 0) Absent) Absent)))) ∷ []) ≡ Accepted ((Some (12, 4)) ∷ []))
    -- int a[] = {1, 2, 3};
    × (judged ((97 ∷ []) ∷ []) ((Declaration 1 (Then NoTrees (OfSpecifier (Keyword 1 word.Int))) (Then NoTrees (OfDeclaration (InitDeclarator 1 (Array 1 (DeclaredName 1 0) Absent) (Present (OfInitializer (Braces 1 (Then (Then (Then NoTrees (OfInitializer (Initial 1 (Number 1 1 true false 0)))) (OfInitializer (Initial 1 (Number 1 2 true false 0)))) (OfInitializer (Initial 1 (Number 1 3 true false 0)))) false))))))) ∷ []) ≡ Accepted ((Some (12, 4)) ∷ []))
    -- int a[2] = {1, 2, 3};
    × (judged ((97 ∷ []) ∷ []) ((Declaration 1 (Then NoTrees (OfSpecifier (Keyword 1 word.Int))) (Then NoTrees (OfDeclaration (InitDeclarator 1 (Array 1 (DeclaredName 1 0) (Present (OfExpression (Number 1 2 true false 0)))) (Present (OfInitializer (Braces 1 (Then (Then (Then NoTrees (OfInitializer (Initial 1 (Number 1 1 true false 0)))) (OfInitializer (Initial 1 (Number 1 2 true false 0)))) (OfInitializer (Initial 1 (Number 1 3 true false 0)))) false))))))) ∷ []) ≡ Refused 0)
    -- int a[][3]; int a[2][3];
    × (judged ((97 ∷ []) ∷ []) ((Declaration 1 (Then NoTrees (OfSpecifier (Keyword 1 word.Int))) (Then NoTrees (OfDeclaration (InitDeclarator 1 (Array 1 (Array 1 (DeclaredName 1 0) Absent) (Present (OfExpression (Number 1 3 true false 0)))) Absent)))) ∷ (Declaration 1 (Then NoTrees (OfSpecifier (Keyword 1 word.Int))) (Then NoTrees (OfDeclaration (InitDeclarator 1 (Array 1 (Array 1 (DeclaredName 1 0) (Present (OfExpression (Number 1 2 true false 0)))) (Present (OfExpression (Number 1 3 true false 0)))) Absent)))) ∷ []) ≡ Accepted ((Some (24, 4)) ∷ []))
    -- int a[3][];
    × (judged ((97 ∷ []) ∷ []) ((Declaration 1 (Then NoTrees (OfSpecifier (Keyword 1 word.Int))) (Then NoTrees (OfDeclaration (InitDeclarator 1 (Array 1 (Array 1 (DeclaredName 1 0) (Present (OfExpression (Number 1 3 true false 0)))) Absent) Absent)))) ∷ []) ≡ Refused 0)
    -- int (*p)[];
    × (judged ((112 ∷ []) ∷ []) ((Declaration 1 (Then NoTrees (OfSpecifier (Keyword 1 word.Int))) (Then NoTrees (OfDeclaration (InitDeclarator 1 (Array 1 (ParenDeclarator 1 (Pointer 1 0 (DeclaredName 1 0))) Absent) Absent)))) ∷ []) ≡ Refused 0)
    -- int (*p)[]; int (*p)[3];
    × (judged ((112 ∷ []) ∷ []) ((Declaration 1 (Then NoTrees (OfSpecifier (Keyword 1 word.Int))) (Then NoTrees (OfDeclaration (InitDeclarator 1 (Array 1 (ParenDeclarator 1 (Pointer 1 0 (DeclaredName 1 0))) Absent) Absent)))) ∷ (Declaration 1 (Then NoTrees (OfSpecifier (Keyword 1 word.Int))) (Then NoTrees (OfDeclaration (InitDeclarator 1 (Array 1 (ParenDeclarator 1 (Pointer 1 0 (DeclaredName 1 0))) (Present (OfExpression (Number 1 3 true false 0)))) Absent)))) ∷ []) ≡ Accepted ((Some (8, 8)) ∷ []))
    -- int (*p)[3]; int (*p)[4];
    × (judged ((112 ∷ []) ∷ []) ((Declaration 1 (Then NoTrees (OfSpecifier (Keyword 1 word.Int))) (Then NoTrees (OfDeclaration (InitDeclarator 1 (Array 1 (ParenDeclarator 1 (Pointer 1 0 (DeclaredName 1 0))) (Present (OfExpression (Number 1 3 true false 0)))) Absent)))) ∷ (Declaration 1 (Then NoTrees (OfSpecifier (Keyword 1 word.Int))) (Then NoTrees (OfDeclaration (InitDeclarator 1 (Array 1 (ParenDeclarator 1 (Pointer 1 0 (DeclaredName 1 0))) (Present (OfExpression (Number 1 4 true false 0)))) Absent)))) ∷ []) ≡ Refused 1)
    -- struct s a[3];
    × (judged ((115 ∷ []) ∷ (97 ∷ []) ∷ []) ((Declaration 1 (Then NoTrees (OfSpecifier (Tag 1 word.Struct 0))) (Then NoTrees (OfDeclaration (InitDeclarator 1 (Array 1 (DeclaredName 1 1) (Present (OfExpression (Number 1 3 true false 0)))) Absent)))) ∷ []) ≡ Refused 0)
    -- struct s a; struct s { int x; };
    × (judged ((115 ∷ []) ∷ (97 ∷ []) ∷ (120 ∷ []) ∷ []) ((Declaration 1 (Then NoTrees (OfSpecifier (Tag 1 word.Struct 0))) (Then NoTrees (OfDeclaration (InitDeclarator 1 (DeclaredName 1 1) Absent)))) ∷ (Declaration 1 (Then NoTrees (OfSpecifier (Composite 1 word.Struct (Some 0) (Then NoTrees (OfDeclaration (MemberDeclaration 1 (Then NoTrees (OfSpecifier (Keyword 1 word.Int))) (Then NoTrees (OfDeclarator (DeclaredName 1 2))))))))) NoTrees) ∷ []) ≡ Accepted ((Some (4, 4)) ∷ []))
    -- struct s { int x; } a[3];
    × (judged ((115 ∷ []) ∷ (120 ∷ []) ∷ (97 ∷ []) ∷ []) ((Declaration 1 (Then NoTrees (OfSpecifier (Composite 1 word.Struct (Some 0) (Then NoTrees (OfDeclaration (MemberDeclaration 1 (Then NoTrees (OfSpecifier (Keyword 1 word.Int))) (Then NoTrees (OfDeclarator (DeclaredName 1 1))))))))) (Then NoTrees (OfDeclaration (InitDeclarator 1 (Array 1 (DeclaredName 1 2) (Present (OfExpression (Number 1 3 true false 0)))) Absent)))) ∷ []) ≡ Accepted ((Some (12, 4)) ∷ []))
    -- int a[]; char b[3]; extern char b[];
    × (judged ((97 ∷ []) ∷ (98 ∷ []) ∷ []) ((Declaration 1 (Then NoTrees (OfSpecifier (Keyword 1 word.Int))) (Then NoTrees (OfDeclaration (InitDeclarator 1 (Array 1 (DeclaredName 1 0) Absent) Absent)))) ∷ (Declaration 1 (Then NoTrees (OfSpecifier (Keyword 1 word.Char))) (Then NoTrees (OfDeclaration (InitDeclarator 1 (Array 1 (DeclaredName 1 1) (Present (OfExpression (Number 1 3 true false 0)))) Absent)))) ∷ (Declaration 1 (Then (Then NoTrees (OfSpecifier (Keyword 1 word.Extern))) (OfSpecifier (Keyword 1 word.Char))) (Then NoTrees (OfDeclaration (InitDeclarator 1 (Array 1 (DeclaredName 1 1) Absent) Absent)))) ∷ []) ≡ Refused 2)
    -- extern int a[]; int b[sizeof a]; int a[3];
    × (judged ((97 ∷ []) ∷ (98 ∷ []) ∷ []) ((Declaration 1 (Then (Then NoTrees (OfSpecifier (Keyword 1 word.Extern))) (OfSpecifier (Keyword 1 word.Int))) (Then NoTrees (OfDeclaration (InitDeclarator 1 (Array 1 (DeclaredName 1 0) Absent) Absent)))) ∷ (Declaration 1 (Then NoTrees (OfSpecifier (Keyword 1 word.Int))) (Then NoTrees (OfDeclaration (InitDeclarator 1 (Array 1 (DeclaredName 1 1) (Present (OfExpression (SizeofExpr 1 (Name 1 0))))) Absent)))) ∷ (Declaration 1 (Then NoTrees (OfSpecifier (Keyword 1 word.Int))) (Then NoTrees (OfDeclaration (InitDeclarator 1 (Array 1 (DeclaredName 1 0) (Present (OfExpression (Number 1 3 true false 0)))) Absent)))) ∷ []) ≡ Refused 1)
    -- extern int a[]; int a[3]; int b[sizeof a];
    × (judged ((97 ∷ []) ∷ (98 ∷ []) ∷ []) ((Declaration 1 (Then (Then NoTrees (OfSpecifier (Keyword 1 word.Extern))) (OfSpecifier (Keyword 1 word.Int))) (Then NoTrees (OfDeclaration (InitDeclarator 1 (Array 1 (DeclaredName 1 0) Absent) Absent)))) ∷ (Declaration 1 (Then NoTrees (OfSpecifier (Keyword 1 word.Int))) (Then NoTrees (OfDeclaration (InitDeclarator 1 (Array 1 (DeclaredName 1 0) (Present (OfExpression (Number 1 3 true false 0)))) Absent)))) ∷ (Declaration 1 (Then NoTrees (OfSpecifier (Keyword 1 word.Int))) (Then NoTrees (OfDeclaration (InitDeclarator 1 (Array 1 (DeclaredName 1 1) (Present (OfExpression (SizeofExpr 1 (Name 1 0))))) Absent)))) ∷ []) ≡ Accepted ((Some (12, 4)) ∷ (Some (48, 4)) ∷ []))
    -- int a[] = {1, 2}, b[sizeof a];
    × (judged ((97 ∷ []) ∷ (98 ∷ []) ∷ []) ((Declaration 1 (Then NoTrees (OfSpecifier (Keyword 1 word.Int))) (Then (Then NoTrees (OfDeclaration (InitDeclarator 1 (Array 1 (DeclaredName 1 0) Absent) (Present (OfInitializer (Braces 1 (Then (Then NoTrees (OfInitializer (Initial 1 (Number 1 1 true false 0)))) (OfInitializer (Initial 1 (Number 1 2 true false 0)))) false)))))) (OfDeclaration (InitDeclarator 1 (Array 1 (DeclaredName 1 1) (Present (OfExpression (SizeofExpr 1 (Name 1 0))))) Absent)))) ∷ []) ≡ Accepted ((Some (8, 4)) ∷ (Some (32, 4)) ∷ []))
unfolding type_of_words library_named are_compatible layouts_of initialized_object values
arrays = (refl, refl, refl, refl, refl, refl, refl, refl, refl, refl, refl, refl, refl, refl, refl, refl, refl, refl)

-- 5.2.4.1p1: an object takes at most 2^32 bytes
largest_objects :
    -- int a[4294967296];
    (judged ((97 ∷ []) ∷ []) ((Declaration 1 (Then NoTrees (OfSpecifier (Keyword 1 word.Int))) (Then NoTrees (OfDeclaration (InitDeclarator 1 (Array 1 (DeclaredName 1 0) (Present (OfExpression (Number 1 4294967296 true false 0)))) Absent)))) ∷ []) ≡ Refused 0)
    -- char a[4294967296];
    × (judged ((97 ∷ []) ∷ []) ((Declaration 1 (Then NoTrees (OfSpecifier (Keyword 1 word.Char))) (Then NoTrees (OfDeclaration (InitDeclarator 1 (Array 1 (DeclaredName 1 0) (Present (OfExpression (Number 1 4294967296 true false 0)))) Absent)))) ∷ []) ≡ Accepted ((Some (4294967296, 1)) ∷ []))
    -- char a[4294967297];
    × (judged ((97 ∷ []) ∷ []) ((Declaration 1 (Then NoTrees (OfSpecifier (Keyword 1 word.Char))) (Then NoTrees (OfDeclaration (InitDeclarator 1 (Array 1 (DeclaredName 1 0) (Present (OfExpression (Number 1 4294967297 true false 0)))) Absent)))) ∷ []) ≡ Refused 0)
    -- char a[65536][65536];
    × (judged ((97 ∷ []) ∷ []) ((Declaration 1 (Then NoTrees (OfSpecifier (Keyword 1 word.Char))) (Then NoTrees (OfDeclaration (InitDeclarator 1 (Array 1 (Array 1 (DeclaredName 1 0) (Present (OfExpression (Number 1 65536 true false 0)))) (Present (OfExpression (Number 1 65536 true false 0)))) Absent)))) ∷ []) ≡ Accepted ((Some (4294967296, 1)) ∷ []))
    -- char a[65536][65537];
    × (judged ((97 ∷ []) ∷ []) ((Declaration 1 (Then NoTrees (OfSpecifier (Keyword 1 word.Char))) (Then NoTrees (OfDeclaration (InitDeclarator 1 (Array 1 (Array 1 (DeclaredName 1 0) (Present (OfExpression (Number 1 65536 true false 0)))) (Present (OfExpression (Number 1 65537 true false 0)))) Absent)))) ∷ []) ≡ Refused 0)
    -- struct s { char a[4294967295]; short b; };
    × (judged ((115 ∷ []) ∷ (97 ∷ []) ∷ (98 ∷ []) ∷ []) ((Declaration 1 (Then NoTrees (OfSpecifier (Composite 1 word.Struct (Some 0) (Then (Then NoTrees (OfDeclaration (MemberDeclaration 1 (Then NoTrees (OfSpecifier (Keyword 1 word.Char))) (Then NoTrees (OfDeclarator (Array 1 (DeclaredName 1 1) (Present (OfExpression (Number 1 4294967295 true false 0))))))))) (OfDeclaration (MemberDeclaration 1 (Then NoTrees (OfSpecifier (Keyword 1 word.Short))) (Then NoTrees (OfDeclarator (DeclaredName 1 2))))))))) NoTrees) ∷ []) ≡ Refused 0)
    -- struct s { char a[4294967294]; short b; };
    × (judged ((115 ∷ []) ∷ (97 ∷ []) ∷ (98 ∷ []) ∷ []) ((Declaration 1 (Then NoTrees (OfSpecifier (Composite 1 word.Struct (Some 0) (Then (Then NoTrees (OfDeclaration (MemberDeclaration 1 (Then NoTrees (OfSpecifier (Keyword 1 word.Char))) (Then NoTrees (OfDeclarator (Array 1 (DeclaredName 1 1) (Present (OfExpression (Number 1 4294967294 true false 0))))))))) (OfDeclaration (MemberDeclaration 1 (Then NoTrees (OfSpecifier (Keyword 1 word.Short))) (Then NoTrees (OfDeclarator (DeclaredName 1 2))))))))) NoTrees) ∷ []) ≡ Accepted ([]))
    -- int a[4294967297];
    × (judged ((97 ∷ []) ∷ []) ((Declaration 1 (Then NoTrees (OfSpecifier (Keyword 1 word.Int))) (Then NoTrees (OfDeclaration (InitDeclarator 1 (Array 1 (DeclaredName 1 0) (Present (OfExpression (Number 1 4294967297 true false 0)))) Absent)))) ∷ []) ≡ Refused 0)
    -- typedef struct { char a[65536]; } t; t a[65536]; t b[65537];
    × (judged ((97 ∷ []) ∷ (116 ∷ []) ∷ (98 ∷ []) ∷ []) ((Declaration 1 (Then (Then NoTrees (OfSpecifier (Keyword 1 word.Typedef))) (OfSpecifier (Composite 1 word.Struct None (Then NoTrees (OfDeclaration (MemberDeclaration 1 (Then NoTrees (OfSpecifier (Keyword 1 word.Char))) (Then NoTrees (OfDeclarator (Array 1 (DeclaredName 1 0) (Present (OfExpression (Number 1 65536 true false 0)))))))))))) (Then NoTrees (OfDeclaration (InitDeclarator 1 (DeclaredName 1 1) Absent)))) ∷ (Declaration 1 (Then NoTrees (OfSpecifier (TypedefName 1 1))) (Then NoTrees (OfDeclaration (InitDeclarator 1 (Array 1 (DeclaredName 1 0) (Present (OfExpression (Number 1 65536 true false 0)))) Absent)))) ∷ (Declaration 1 (Then NoTrees (OfSpecifier (TypedefName 1 1))) (Then NoTrees (OfDeclaration (InitDeclarator 1 (Array 1 (DeclaredName 1 2) (Present (OfExpression (Number 1 65537 true false 0)))) Absent)))) ∷ []) ≡ Refused 2)
    -- typedef struct { char a[65536]; } t; typedef t u[65537];
    × (judged ((97 ∷ []) ∷ (116 ∷ []) ∷ (117 ∷ []) ∷ []) ((Declaration 1 (Then (Then NoTrees (OfSpecifier (Keyword 1 word.Typedef))) (OfSpecifier (Composite 1 word.Struct None (Then NoTrees (OfDeclaration (MemberDeclaration 1 (Then NoTrees (OfSpecifier (Keyword 1 word.Char))) (Then NoTrees (OfDeclarator (Array 1 (DeclaredName 1 0) (Present (OfExpression (Number 1 65536 true false 0)))))))))))) (Then NoTrees (OfDeclaration (InitDeclarator 1 (DeclaredName 1 1) Absent)))) ∷ (Declaration 1 (Then (Then NoTrees (OfSpecifier (Keyword 1 word.Typedef))) (OfSpecifier (TypedefName 1 1))) (Then NoTrees (OfDeclaration (InitDeclarator 1 (Array 1 (DeclaredName 1 2) (Present (OfExpression (Number 1 65537 true false 0)))) Absent)))) ∷ []) ≡ Refused 1)
unfolding type_of_words library_named are_compatible layouts_of initialized_object values
largest_objects = (refl, refl, refl, refl, refl, refl, refl, refl, refl, refl)

-- 6.7.6.2p1, 6.6p6: sizes of arrays
array_sizes :
    -- int a[sizeof(int) + 2]; char b[sizeof(long[3])];
    (judged ((97 ∷ []) ∷ (98 ∷ []) ∷ []) ((Declaration 1 (Then NoTrees (OfSpecifier (Keyword 1 word.Int))) (Then NoTrees (OfDeclaration (InitDeclarator 1 (Array 1 (DeclaredName 1 0) (Present (OfExpression (Binary 1 op.Add (SizeofType 1 (TypeName 1 (Then NoTrees (OfSpecifier (Keyword 1 word.Int))) Absent)) (Number 1 2 true false 0))))) Absent)))) ∷ (Declaration 1 (Then NoTrees (OfSpecifier (Keyword 1 word.Char))) (Then NoTrees (OfDeclaration (InitDeclarator 1 (Array 1 (DeclaredName 1 1) (Present (OfExpression (SizeofType 1 (TypeName 1 (Then NoTrees (OfSpecifier (Keyword 1 word.Long))) (Present (OfDeclarator (AbstractArray 1 Absent (Present (OfExpression (Number 1 3 true false 0))))))))))) Absent)))) ∷ []) ≡ Accepted ((Some (24, 4)) ∷ (Some (24, 1)) ∷ []))
    -- int a[sizeof(struct s { char c; long n; })]; struct s b;
    × (judged ((97 ∷ []) ∷ (115 ∷ []) ∷ (99 ∷ []) ∷ (110 ∷ []) ∷ (98 ∷ []) ∷ []) ((Declaration 1 (Then NoTrees (OfSpecifier (Keyword 1 word.Int))) (Then NoTrees (OfDeclaration (InitDeclarator 1 (Array 1 (DeclaredName 1 0) (Present (OfExpression (SizeofType 1 (TypeName 1 (Then NoTrees (OfSpecifier (Composite 1 word.Struct (Some 1) (Then (Then NoTrees (OfDeclaration (MemberDeclaration 1 (Then NoTrees (OfSpecifier (Keyword 1 word.Char))) (Then NoTrees (OfDeclarator (DeclaredName 1 2)))))) (OfDeclaration (MemberDeclaration 1 (Then NoTrees (OfSpecifier (Keyword 1 word.Long))) (Then NoTrees (OfDeclarator (DeclaredName 1 3))))))))) Absent))))) Absent)))) ∷ (Declaration 1 (Then NoTrees (OfSpecifier (Tag 1 word.Struct 1))) (Then NoTrees (OfDeclaration (InitDeclarator 1 (DeclaredName 1 4) Absent)))) ∷ []) ≡ Accepted ((Some (64, 4)) ∷ (Some (16, 8)) ∷ []))
    -- int a[1 - 2];
    × (judged ((97 ∷ []) ∷ []) ((Declaration 1 (Then NoTrees (OfSpecifier (Keyword 1 word.Int))) (Then NoTrees (OfDeclaration (InitDeclarator 1 (Array 1 (DeclaredName 1 0) (Present (OfExpression (Binary 1 op.Subtract (Number 1 1 true false 0) (Number 1 2 true false 0))))) Absent)))) ∷ []) ≡ Refused 0)
    -- int a[b];
    × (judged ((97 ∷ []) ∷ (98 ∷ []) ∷ []) ((Declaration 1 (Then NoTrees (OfSpecifier (Keyword 1 word.Int))) (Then NoTrees (OfDeclaration (InitDeclarator 1 (Array 1 (DeclaredName 1 0) (Present (OfExpression (Name 1 1)))) Absent)))) ∷ []) ≡ Refused 0)
    -- int x[3]; int y[sizeof x / sizeof x[0]];
    × (judged ((120 ∷ []) ∷ (121 ∷ []) ∷ []) ((Declaration 1 (Then NoTrees (OfSpecifier (Keyword 1 word.Int))) (Then NoTrees (OfDeclaration (InitDeclarator 1 (Array 1 (DeclaredName 1 0) (Present (OfExpression (Number 1 3 true false 0)))) Absent)))) ∷ (Declaration 1 (Then NoTrees (OfSpecifier (Keyword 1 word.Int))) (Then NoTrees (OfDeclaration (InitDeclarator 1 (Array 1 (DeclaredName 1 1) (Present (OfExpression (Binary 1 op.Divide (SizeofExpr 1 (Name 1 0)) (SizeofExpr 1 (Index 1 (Name 1 0) (Number 1 0 false false 0))))))) Absent)))) ∷ []) ≡ Accepted ((Some (12, 4)) ∷ (Some (12, 4)) ∷ []))
    -- int y[sizeof(struct s { int a; }) + sizeof(struct s)]; struct s z;
    × (judged ((121 ∷ []) ∷ (115 ∷ []) ∷ (97 ∷ []) ∷ (122 ∷ []) ∷ []) ((Declaration 1 (Then NoTrees (OfSpecifier (Keyword 1 word.Int))) (Then NoTrees (OfDeclaration (InitDeclarator 1 (Array 1 (DeclaredName 1 0) (Present (OfExpression (Binary 1 op.Add (SizeofType 1 (TypeName 1 (Then NoTrees (OfSpecifier (Composite 1 word.Struct (Some 1) (Then NoTrees (OfDeclaration (MemberDeclaration 1 (Then NoTrees (OfSpecifier (Keyword 1 word.Int))) (Then NoTrees (OfDeclarator (DeclaredName 1 2))))))))) Absent)) (SizeofType 1 (TypeName 1 (Then NoTrees (OfSpecifier (Tag 1 word.Struct 1))) Absent)))))) Absent)))) ∷ (Declaration 1 (Then NoTrees (OfSpecifier (Tag 1 word.Struct 1))) (Then NoTrees (OfDeclaration (InitDeclarator 1 (DeclaredName 1 3) Absent)))) ∷ []) ≡ Accepted ((Some (32, 4)) ∷ (Some (4, 4)) ∷ []))
    -- int a[(long)3]; int b[3u]; int c['c'];
    × (judged ((97 ∷ []) ∷ (98 ∷ []) ∷ (99 ∷ []) ∷ []) ((Declaration 1 (Then NoTrees (OfSpecifier (Keyword 1 word.Int))) (Then NoTrees (OfDeclaration (InitDeclarator 1 (Array 1 (DeclaredName 1 0) (Present (OfExpression (Cast 1 (TypeName 1 (Then NoTrees (OfSpecifier (Keyword 1 word.Long))) Absent) (Number 1 3 true false 0))))) Absent)))) ∷ (Declaration 1 (Then NoTrees (OfSpecifier (Keyword 1 word.Int))) (Then NoTrees (OfDeclaration (InitDeclarator 1 (Array 1 (DeclaredName 1 1) (Present (OfExpression (Number 1 3 true true 0)))) Absent)))) ∷ (Declaration 1 (Then NoTrees (OfSpecifier (Keyword 1 word.Int))) (Then NoTrees (OfDeclaration (InitDeclarator 1 (Array 1 (DeclaredName 1 2) (Present (OfExpression (Character 1 (pos 99))))) Absent)))) ∷ []) ≡ Accepted ((Some (12, 4)) ∷ (Some (12, 4)) ∷ (Some (396, 4)) ∷ []))
    -- int a[(int *)0 == 0];
    × (judged ((97 ∷ []) ∷ []) ((Declaration 1 (Then NoTrees (OfSpecifier (Keyword 1 word.Int))) (Then NoTrees (OfDeclaration (InitDeclarator 1 (Array 1 (DeclaredName 1 0) (Present (OfExpression (Binary 1 op.Equal (Cast 1 (TypeName 1 (Then NoTrees (OfSpecifier (Keyword 1 word.Int))) (Present (OfDeclarator (AbstractPointer 1 0 Absent)))) (Number 1 0 false false 0)) (Number 1 0 false false 0))))) Absent)))) ∷ []) ≡ Refused 0)
    -- int n; int a[n];
    × (judged ((110 ∷ []) ∷ (97 ∷ []) ∷ []) ((Declaration 1 (Then NoTrees (OfSpecifier (Keyword 1 word.Int))) (Then NoTrees (OfDeclaration (InitDeclarator 1 (DeclaredName 1 0) Absent)))) ∷ (Declaration 1 (Then NoTrees (OfSpecifier (Keyword 1 word.Int))) (Then NoTrees (OfDeclaration (InitDeclarator 1 (Array 1 (DeclaredName 1 1) (Present (OfExpression (Name 1 0)))) Absent)))) ∷ []) ≡ Refused 1)
    -- struct s { int m; } x; int a[sizeof x.m];
    × (judged ((115 ∷ []) ∷ (109 ∷ []) ∷ (120 ∷ []) ∷ (97 ∷ []) ∷ []) ((Declaration 1 (Then NoTrees (OfSpecifier (Composite 1 word.Struct (Some 0) (Then NoTrees (OfDeclaration (MemberDeclaration 1 (Then NoTrees (OfSpecifier (Keyword 1 word.Int))) (Then NoTrees (OfDeclarator (DeclaredName 1 1))))))))) (Then NoTrees (OfDeclaration (InitDeclarator 1 (DeclaredName 1 2) Absent)))) ∷ (Declaration 1 (Then NoTrees (OfSpecifier (Keyword 1 word.Int))) (Then NoTrees (OfDeclaration (InitDeclarator 1 (Array 1 (DeclaredName 1 3) (Present (OfExpression (SizeofExpr 1 (Member 1 (Name 1 2) 1))))) Absent)))) ∷ []) ≡ Accepted ((Some (4, 4)) ∷ (Some (16, 4)) ∷ []))
    -- struct s *p; int a[sizeof *p];
    × (judged ((115 ∷ []) ∷ (112 ∷ []) ∷ (97 ∷ []) ∷ []) ((Declaration 1 (Then NoTrees (OfSpecifier (Tag 1 word.Struct 0))) (Then NoTrees (OfDeclaration (InitDeclarator 1 (Pointer 1 0 (DeclaredName 1 1)) Absent)))) ∷ (Declaration 1 (Then NoTrees (OfSpecifier (Keyword 1 word.Int))) (Then NoTrees (OfDeclaration (InitDeclarator 1 (Array 1 (DeclaredName 1 2) (Present (OfExpression (SizeofExpr 1 (Unary 1 unary.Indirection (Name 1 1)))))) Absent)))) ∷ []) ≡ Refused 1)
    -- struct s *p; int a[sizeof p];
    × (judged ((115 ∷ []) ∷ (112 ∷ []) ∷ (97 ∷ []) ∷ []) ((Declaration 1 (Then NoTrees (OfSpecifier (Tag 1 word.Struct 0))) (Then NoTrees (OfDeclaration (InitDeclarator 1 (Pointer 1 0 (DeclaredName 1 1)) Absent)))) ∷ (Declaration 1 (Then NoTrees (OfSpecifier (Keyword 1 word.Int))) (Then NoTrees (OfDeclaration (InitDeclarator 1 (Array 1 (DeclaredName 1 2) (Present (OfExpression (SizeofExpr 1 (Name 1 1))))) Absent)))) ∷ []) ≡ Accepted ((Some (8, 8)) ∷ (Some (32, 4)) ∷ []))
    -- int a[sizeof(enum { A = 3 })]; int b[A];
    × (judged ((97 ∷ []) ∷ (65 ∷ []) ∷ (98 ∷ []) ∷ []) ((Declaration 1 (Then NoTrees (OfSpecifier (Keyword 1 word.Int))) (Then NoTrees (OfDeclaration (InitDeclarator 1 (Array 1 (DeclaredName 1 0) (Present (OfExpression (SizeofType 1 (TypeName 1 (Then NoTrees (OfSpecifier (Enumeration 1 None (Then NoTrees (OfDeclaration (Enumerator 1 1 (Present (OfExpression (Number 1 3 true false 0)))))) false))) Absent))))) Absent)))) ∷ (Declaration 1 (Then NoTrees (OfSpecifier (Keyword 1 word.Int))) (Then NoTrees (OfDeclaration (InitDeclarator 1 (Array 1 (DeclaredName 1 2) (Present (OfExpression (Name 1 1)))) Absent)))) ∷ []) ≡ Accepted ((Some (16, 4)) ∷ (Some (12, 4)) ∷ []))
    -- int a[(enum { A = 3 })2 + A];
    × (judged ((97 ∷ []) ∷ (65 ∷ []) ∷ []) ((Declaration 1 (Then NoTrees (OfSpecifier (Keyword 1 word.Int))) (Then NoTrees (OfDeclaration (InitDeclarator 1 (Array 1 (DeclaredName 1 0) (Present (OfExpression (Binary 1 op.Add (Cast 1 (TypeName 1 (Then NoTrees (OfSpecifier (Enumeration 1 None (Then NoTrees (OfDeclaration (Enumerator 1 1 (Present (OfExpression (Number 1 3 true false 0)))))) false))) Absent) (Number 1 2 true false 0)) (Name 1 1))))) Absent)))) ∷ []) ≡ Accepted ((Some (20, 4)) ∷ []))
    -- int a[sizeof(int[])];
    × (judged ((97 ∷ []) ∷ []) ((Declaration 1 (Then NoTrees (OfSpecifier (Keyword 1 word.Int))) (Then NoTrees (OfDeclaration (InitDeclarator 1 (Array 1 (DeclaredName 1 0) (Present (OfExpression (SizeofType 1 (TypeName 1 (Then NoTrees (OfSpecifier (Keyword 1 word.Int))) (Present (OfDeclarator (AbstractArray 1 Absent Absent)))))))) Absent)))) ∷ []) ≡ Refused 0)
    -- int a[sizeof(int(*)[])];
    × (judged ((97 ∷ []) ∷ []) ((Declaration 1 (Then NoTrees (OfSpecifier (Keyword 1 word.Int))) (Then NoTrees (OfDeclaration (InitDeclarator 1 (Array 1 (DeclaredName 1 0) (Present (OfExpression (SizeofType 1 (TypeName 1 (Then NoTrees (OfSpecifier (Keyword 1 word.Int))) (Present (OfDeclarator (AbstractArray 1 (Present (OfDeclarator (AbstractParen 1 (AbstractPointer 1 0 Absent)))) Absent)))))))) Absent)))) ∷ []) ≡ Refused 0)
    -- int a[sizeof(int(*)[4])]; int b[sizeof(int[4][5])];
    × (judged ((97 ∷ []) ∷ (98 ∷ []) ∷ []) ((Declaration 1 (Then NoTrees (OfSpecifier (Keyword 1 word.Int))) (Then NoTrees (OfDeclaration (InitDeclarator 1 (Array 1 (DeclaredName 1 0) (Present (OfExpression (SizeofType 1 (TypeName 1 (Then NoTrees (OfSpecifier (Keyword 1 word.Int))) (Present (OfDeclarator (AbstractArray 1 (Present (OfDeclarator (AbstractParen 1 (AbstractPointer 1 0 Absent)))) (Present (OfExpression (Number 1 4 true false 0))))))))))) Absent)))) ∷ (Declaration 1 (Then NoTrees (OfSpecifier (Keyword 1 word.Int))) (Then NoTrees (OfDeclaration (InitDeclarator 1 (Array 1 (DeclaredName 1 1) (Present (OfExpression (SizeofType 1 (TypeName 1 (Then NoTrees (OfSpecifier (Keyword 1 word.Int))) (Present (OfDeclarator (AbstractArray 1 (Present (OfDeclarator (AbstractArray 1 Absent (Present (OfExpression (Number 1 4 true false 0)))))) (Present (OfExpression (Number 1 5 true false 0))))))))))) Absent)))) ∷ []) ≡ Accepted ((Some (32, 4)) ∷ (Some (320, 4)) ∷ []))
    -- int a[sizeof(void)];
    × (judged ((97 ∷ []) ∷ []) ((Declaration 1 (Then NoTrees (OfSpecifier (Keyword 1 word.Int))) (Then NoTrees (OfDeclaration (InitDeclarator 1 (Array 1 (DeclaredName 1 0) (Present (OfExpression (SizeofType 1 (TypeName 1 (Then NoTrees (OfSpecifier (Keyword 1 word.Void))) Absent))))) Absent)))) ∷ []) ≡ Refused 0)
    -- int a[sizeof(struct t)];
    × (judged ((97 ∷ []) ∷ (116 ∷ []) ∷ []) ((Declaration 1 (Then NoTrees (OfSpecifier (Keyword 1 word.Int))) (Then NoTrees (OfDeclaration (InitDeclarator 1 (Array 1 (DeclaredName 1 0) (Present (OfExpression (SizeofType 1 (TypeName 1 (Then NoTrees (OfSpecifier (Tag 1 word.Struct 1))) Absent))))) Absent)))) ∷ []) ≡ Refused 0)
    -- int a[sizeof(int(void))];
    × (judged ((97 ∷ []) ∷ []) ((Declaration 1 (Then NoTrees (OfSpecifier (Keyword 1 word.Int))) (Then NoTrees (OfDeclaration (InitDeclarator 1 (Array 1 (DeclaredName 1 0) (Present (OfExpression (SizeofType 1 (TypeName 1 (Then NoTrees (OfSpecifier (Keyword 1 word.Int))) (Present (OfDeclarator (AbstractFunction 1 Absent (Then NoTrees (OfDeclaration (Parameter 1 (Then NoTrees (OfSpecifier (Keyword 1 word.Void))) Absent))) false)))))))) Absent)))) ∷ []) ≡ Refused 0)
    -- int a[sizeof(const struct s { int x; }[2])]; struct s b;
    × (judged ((97 ∷ []) ∷ (115 ∷ []) ∷ (120 ∷ []) ∷ (98 ∷ []) ∷ []) ((Declaration 1 (Then NoTrees (OfSpecifier (Keyword 1 word.Int))) (Then NoTrees (OfDeclaration (InitDeclarator 1 (Array 1 (DeclaredName 1 0) (Present (OfExpression (SizeofType 1 (TypeName 1 (Then (Then NoTrees (OfSpecifier (Keyword 1 word.Const))) (OfSpecifier (Composite 1 word.Struct (Some 1) (Then NoTrees (OfDeclaration (MemberDeclaration 1 (Then NoTrees (OfSpecifier (Keyword 1 word.Int))) (Then NoTrees (OfDeclarator (DeclaredName 1 2))))))))) (Present (OfDeclarator (AbstractArray 1 Absent (Present (OfExpression (Number 1 2 true false 0))))))))))) Absent)))) ∷ (Declaration 1 (Then NoTrees (OfSpecifier (Tag 1 word.Struct 1))) (Then NoTrees (OfDeclaration (InitDeclarator 1 (DeclaredName 1 3) Absent)))) ∷ []) ≡ Accepted ((Some (32, 4)) ∷ (Some (4, 4)) ∷ []))
    -- int a[-1];
    × (judged ((97 ∷ []) ∷ []) ((Declaration 1 (Then NoTrees (OfSpecifier (Keyword 1 word.Int))) (Then NoTrees (OfDeclaration (InitDeclarator 1 (Array 1 (DeclaredName 1 0) (Present (OfExpression (Unary 1 unary.Minus (Number 1 1 true false 0))))) Absent)))) ∷ []) ≡ Refused 0)
    -- int a[-1 + 2];
    × (judged ((97 ∷ []) ∷ []) ((Declaration 1 (Then NoTrees (OfSpecifier (Keyword 1 word.Int))) (Then NoTrees (OfDeclaration (InitDeclarator 1 (Array 1 (DeclaredName 1 0) (Present (OfExpression (Binary 1 op.Add (Unary 1 unary.Minus (Number 1 1 true false 0)) (Number 1 2 true false 0))))) Absent)))) ∷ []) ≡ Accepted ((Some (4, 4)) ∷ []))
    -- const int a = 3; int b[a];
    × (judged ((97 ∷ []) ∷ (98 ∷ []) ∷ []) ((Declaration 1 (Then (Then NoTrees (OfSpecifier (Keyword 1 word.Const))) (OfSpecifier (Keyword 1 word.Int))) (Then NoTrees (OfDeclaration (InitDeclarator 1 (DeclaredName 1 0) (Present (OfInitializer (Initial 1 (Number 1 3 true false 0)))))))) ∷ (Declaration 1 (Then NoTrees (OfSpecifier (Keyword 1 word.Int))) (Then NoTrees (OfDeclaration (InitDeclarator 1 (Array 1 (DeclaredName 1 1) (Present (OfExpression (Name 1 0)))) Absent)))) ∷ []) ≡ Refused 1)
unfolding type_of_words library_named are_compatible layouts_of initialized_object values
array_sizes = (refl, refl, refl, refl, refl, refl, refl, refl, refl, refl, refl, refl, refl, refl, refl, refl, refl, refl, refl, refl, refl, refl, refl, refl)

-- 6.7.6.3: types of functions, and of what they take
function_types :
    -- int f(void); int f();
    (judged ((102 ∷ []) ∷ []) ((Declaration 1 (Then NoTrees (OfSpecifier (Keyword 1 word.Int))) (Then NoTrees (OfDeclaration (InitDeclarator 1 (FunctionDeclarator 1 (DeclaredName 1 0) (Then NoTrees (OfDeclaration (Parameter 1 (Then NoTrees (OfSpecifier (Keyword 1 word.Void))) Absent))) false) Absent)))) ∷ (Declaration 1 (Then NoTrees (OfSpecifier (Keyword 1 word.Int))) (Then NoTrees (OfDeclaration (InitDeclarator 1 (FunctionDeclarator 1 (DeclaredName 1 0) NoTrees false) Absent)))) ∷ []) ≡ Accepted ([]))
    -- int f(int); int f(const int);
    × (judged ((102 ∷ []) ∷ []) ((Declaration 1 (Then NoTrees (OfSpecifier (Keyword 1 word.Int))) (Then NoTrees (OfDeclaration (InitDeclarator 1 (FunctionDeclarator 1 (DeclaredName 1 0) (Then NoTrees (OfDeclaration (Parameter 1 (Then NoTrees (OfSpecifier (Keyword 1 word.Int))) Absent))) false) Absent)))) ∷ (Declaration 1 (Then NoTrees (OfSpecifier (Keyword 1 word.Int))) (Then NoTrees (OfDeclaration (InitDeclarator 1 (FunctionDeclarator 1 (DeclaredName 1 0) (Then NoTrees (OfDeclaration (Parameter 1 (Then (Then NoTrees (OfSpecifier (Keyword 1 word.Const))) (OfSpecifier (Keyword 1 word.Int))) Absent))) false) Absent)))) ∷ []) ≡ Accepted ([]))
    -- int f(int a[3]); int f(int *b);
    × (judged ((102 ∷ []) ∷ (97 ∷ []) ∷ (98 ∷ []) ∷ []) ((Declaration 1 (Then NoTrees (OfSpecifier (Keyword 1 word.Int))) (Then NoTrees (OfDeclaration (InitDeclarator 1 (FunctionDeclarator 1 (DeclaredName 1 0) (Then NoTrees (OfDeclaration (Parameter 1 (Then NoTrees (OfSpecifier (Keyword 1 word.Int))) (Present (OfDeclarator (Array 1 (DeclaredName 1 1) (Present (OfExpression (Number 1 3 true false 0))))))))) false) Absent)))) ∷ (Declaration 1 (Then NoTrees (OfSpecifier (Keyword 1 word.Int))) (Then NoTrees (OfDeclaration (InitDeclarator 1 (FunctionDeclarator 1 (DeclaredName 1 0) (Then NoTrees (OfDeclaration (Parameter 1 (Then NoTrees (OfSpecifier (Keyword 1 word.Int))) (Present (OfDeclarator (Pointer 1 0 (DeclaredName 1 2))))))) false) Absent)))) ∷ []) ≡ Accepted ((Some (8, 8)) ∷ (Some (8, 8)) ∷ []))
    -- int f(const int a[3]); int f(int *b);
    × (judged ((102 ∷ []) ∷ (97 ∷ []) ∷ (98 ∷ []) ∷ []) ((Declaration 1 (Then NoTrees (OfSpecifier (Keyword 1 word.Int))) (Then NoTrees (OfDeclaration (InitDeclarator 1 (FunctionDeclarator 1 (DeclaredName 1 0) (Then NoTrees (OfDeclaration (Parameter 1 (Then (Then NoTrees (OfSpecifier (Keyword 1 word.Const))) (OfSpecifier (Keyword 1 word.Int))) (Present (OfDeclarator (Array 1 (DeclaredName 1 1) (Present (OfExpression (Number 1 3 true false 0))))))))) false) Absent)))) ∷ (Declaration 1 (Then NoTrees (OfSpecifier (Keyword 1 word.Int))) (Then NoTrees (OfDeclaration (InitDeclarator 1 (FunctionDeclarator 1 (DeclaredName 1 0) (Then NoTrees (OfDeclaration (Parameter 1 (Then NoTrees (OfSpecifier (Keyword 1 word.Int))) (Present (OfDeclarator (Pointer 1 0 (DeclaredName 1 2))))))) false) Absent)))) ∷ []) ≡ Refused 1)
    -- int f(int); int f(long);
    × (judged ((102 ∷ []) ∷ []) ((Declaration 1 (Then NoTrees (OfSpecifier (Keyword 1 word.Int))) (Then NoTrees (OfDeclaration (InitDeclarator 1 (FunctionDeclarator 1 (DeclaredName 1 0) (Then NoTrees (OfDeclaration (Parameter 1 (Then NoTrees (OfSpecifier (Keyword 1 word.Int))) Absent))) false) Absent)))) ∷ (Declaration 1 (Then NoTrees (OfSpecifier (Keyword 1 word.Int))) (Then NoTrees (OfDeclaration (InitDeclarator 1 (FunctionDeclarator 1 (DeclaredName 1 0) (Then NoTrees (OfDeclaration (Parameter 1 (Then NoTrees (OfSpecifier (Keyword 1 word.Long))) Absent))) false) Absent)))) ∷ []) ≡ Refused 1)
    -- int f(int); long f(int);
    × (judged ((102 ∷ []) ∷ []) ((Declaration 1 (Then NoTrees (OfSpecifier (Keyword 1 word.Int))) (Then NoTrees (OfDeclaration (InitDeclarator 1 (FunctionDeclarator 1 (DeclaredName 1 0) (Then NoTrees (OfDeclaration (Parameter 1 (Then NoTrees (OfSpecifier (Keyword 1 word.Int))) Absent))) false) Absent)))) ∷ (Declaration 1 (Then NoTrees (OfSpecifier (Keyword 1 word.Long))) (Then NoTrees (OfDeclaration (InitDeclarator 1 (FunctionDeclarator 1 (DeclaredName 1 0) (Then NoTrees (OfDeclaration (Parameter 1 (Then NoTrees (OfSpecifier (Keyword 1 word.Int))) Absent))) false) Absent)))) ∷ []) ≡ Refused 1)
    -- int f(int, int); int f(int);
    × (judged ((102 ∷ []) ∷ []) ((Declaration 1 (Then NoTrees (OfSpecifier (Keyword 1 word.Int))) (Then NoTrees (OfDeclaration (InitDeclarator 1 (FunctionDeclarator 1 (DeclaredName 1 0) (Then (Then NoTrees (OfDeclaration (Parameter 1 (Then NoTrees (OfSpecifier (Keyword 1 word.Int))) Absent))) (OfDeclaration (Parameter 1 (Then NoTrees (OfSpecifier (Keyword 1 word.Int))) Absent))) false) Absent)))) ∷ (Declaration 1 (Then NoTrees (OfSpecifier (Keyword 1 word.Int))) (Then NoTrees (OfDeclaration (InitDeclarator 1 (FunctionDeclarator 1 (DeclaredName 1 0) (Then NoTrees (OfDeclaration (Parameter 1 (Then NoTrees (OfSpecifier (Keyword 1 word.Int))) Absent))) false) Absent)))) ∷ []) ≡ Refused 1)
    -- int f(void, int);
    × (judged ((102 ∷ []) ∷ []) ((Declaration 1 (Then NoTrees (OfSpecifier (Keyword 1 word.Int))) (Then NoTrees (OfDeclaration (InitDeclarator 1 (FunctionDeclarator 1 (DeclaredName 1 0) (Then (Then NoTrees (OfDeclaration (Parameter 1 (Then NoTrees (OfSpecifier (Keyword 1 word.Void))) Absent))) (OfDeclaration (Parameter 1 (Then NoTrees (OfSpecifier (Keyword 1 word.Int))) Absent))) false) Absent)))) ∷ []) ≡ Refused 0)
    -- int f(const void);
    × (judged ((102 ∷ []) ∷ []) ((Declaration 1 (Then NoTrees (OfSpecifier (Keyword 1 word.Int))) (Then NoTrees (OfDeclaration (InitDeclarator 1 (FunctionDeclarator 1 (DeclaredName 1 0) (Then NoTrees (OfDeclaration (Parameter 1 (Then (Then NoTrees (OfSpecifier (Keyword 1 word.Const))) (OfSpecifier (Keyword 1 word.Void))) Absent))) false) Absent)))) ∷ []) ≡ Refused 0)
    -- int f(void a);
    × (judged ((102 ∷ []) ∷ (97 ∷ []) ∷ []) ((Declaration 1 (Then NoTrees (OfSpecifier (Keyword 1 word.Int))) (Then NoTrees (OfDeclaration (InitDeclarator 1 (FunctionDeclarator 1 (DeclaredName 1 0) (Then NoTrees (OfDeclaration (Parameter 1 (Then NoTrees (OfSpecifier (Keyword 1 word.Void))) (Present (OfDeclarator (DeclaredName 1 1)))))) false) Absent)))) ∷ []) ≡ Refused 0)
    -- typedef void v; int f(v);
    × (judged ((118 ∷ []) ∷ (102 ∷ []) ∷ []) ((Declaration 1 (Then (Then NoTrees (OfSpecifier (Keyword 1 word.Typedef))) (OfSpecifier (Keyword 1 word.Void))) (Then NoTrees (OfDeclaration (InitDeclarator 1 (DeclaredName 1 0) Absent)))) ∷ (Declaration 1 (Then NoTrees (OfSpecifier (Keyword 1 word.Int))) (Then NoTrees (OfDeclaration (InitDeclarator 1 (FunctionDeclarator 1 (DeclaredName 1 1) (Then NoTrees (OfDeclaration (Parameter 1 (Then NoTrees (OfSpecifier (TypedefName 1 0))) Absent))) false) Absent)))) ∷ []) ≡ Accepted ([]))
    -- int f(int a, int a);
    × (judged ((102 ∷ []) ∷ (97 ∷ []) ∷ []) ((Declaration 1 (Then NoTrees (OfSpecifier (Keyword 1 word.Int))) (Then NoTrees (OfDeclaration (InitDeclarator 1 (FunctionDeclarator 1 (DeclaredName 1 0) (Then (Then NoTrees (OfDeclaration (Parameter 1 (Then NoTrees (OfSpecifier (Keyword 1 word.Int))) (Present (OfDeclarator (DeclaredName 1 1)))))) (OfDeclaration (Parameter 1 (Then NoTrees (OfSpecifier (Keyword 1 word.Int))) (Present (OfDeclarator (DeclaredName 1 1)))))) false) Absent)))) ∷ []) ≡ Refused 0)
    -- int f(int n, int a[sizeof(int)]);
    × (judged ((102 ∷ []) ∷ (110 ∷ []) ∷ (97 ∷ []) ∷ []) ((Declaration 1 (Then NoTrees (OfSpecifier (Keyword 1 word.Int))) (Then NoTrees (OfDeclaration (InitDeclarator 1 (FunctionDeclarator 1 (DeclaredName 1 0) (Then (Then NoTrees (OfDeclaration (Parameter 1 (Then NoTrees (OfSpecifier (Keyword 1 word.Int))) (Present (OfDeclarator (DeclaredName 1 1)))))) (OfDeclaration (Parameter 1 (Then NoTrees (OfSpecifier (Keyword 1 word.Int))) (Present (OfDeclarator (Array 1 (DeclaredName 1 2) (Present (OfExpression (SizeofType 1 (TypeName 1 (Then NoTrees (OfSpecifier (Keyword 1 word.Int))) Absent)))))))))) false) Absent)))) ∷ []) ≡ Accepted ((Some (4, 4)) ∷ (Some (8, 8)) ∷ []))
    -- int f(int g(void));
    × (judged ((102 ∷ []) ∷ (103 ∷ []) ∷ []) ((Declaration 1 (Then NoTrees (OfSpecifier (Keyword 1 word.Int))) (Then NoTrees (OfDeclaration (InitDeclarator 1 (FunctionDeclarator 1 (DeclaredName 1 0) (Then NoTrees (OfDeclaration (Parameter 1 (Then NoTrees (OfSpecifier (Keyword 1 word.Int))) (Present (OfDeclarator (FunctionDeclarator 1 (DeclaredName 1 1) (Then NoTrees (OfDeclaration (Parameter 1 (Then NoTrees (OfSpecifier (Keyword 1 word.Void))) Absent))) false)))))) false) Absent)))) ∷ []) ≡ Accepted ((Some (8, 8)) ∷ []))
    -- int (*f)(void);
    × (judged ((102 ∷ []) ∷ []) ((Declaration 1 (Then NoTrees (OfSpecifier (Keyword 1 word.Int))) (Then NoTrees (OfDeclaration (InitDeclarator 1 (FunctionDeclarator 1 (ParenDeclarator 1 (Pointer 1 0 (DeclaredName 1 0))) (Then NoTrees (OfDeclaration (Parameter 1 (Then NoTrees (OfSpecifier (Keyword 1 word.Void))) Absent))) false) Absent)))) ∷ []) ≡ Accepted ((Some (8, 8)) ∷ []))
    -- int f(void)(void);
    × (judged ((102 ∷ []) ∷ []) ((Declaration 1 (Then NoTrees (OfSpecifier (Keyword 1 word.Int))) (Then NoTrees (OfDeclaration (InitDeclarator 1 (FunctionDeclarator 1 (FunctionDeclarator 1 (DeclaredName 1 0) (Then NoTrees (OfDeclaration (Parameter 1 (Then NoTrees (OfSpecifier (Keyword 1 word.Void))) Absent))) false) (Then NoTrees (OfDeclaration (Parameter 1 (Then NoTrees (OfSpecifier (Keyword 1 word.Void))) Absent))) false) Absent)))) ∷ []) ≡ Refused 0)
    -- int f(void)[3];
    × (judged ((102 ∷ []) ∷ []) ((Declaration 1 (Then NoTrees (OfSpecifier (Keyword 1 word.Int))) (Then NoTrees (OfDeclaration (InitDeclarator 1 (Array 1 (FunctionDeclarator 1 (DeclaredName 1 0) (Then NoTrees (OfDeclaration (Parameter 1 (Then NoTrees (OfSpecifier (Keyword 1 word.Void))) Absent))) false) (Present (OfExpression (Number 1 3 true false 0)))) Absent)))) ∷ []) ≡ Refused 0)
    -- const int f(void); int f(void);
    × (judged ((102 ∷ []) ∷ []) ((Declaration 1 (Then (Then NoTrees (OfSpecifier (Keyword 1 word.Const))) (OfSpecifier (Keyword 1 word.Int))) (Then NoTrees (OfDeclaration (InitDeclarator 1 (FunctionDeclarator 1 (DeclaredName 1 0) (Then NoTrees (OfDeclaration (Parameter 1 (Then NoTrees (OfSpecifier (Keyword 1 word.Void))) Absent))) false) Absent)))) ∷ (Declaration 1 (Then NoTrees (OfSpecifier (Keyword 1 word.Int))) (Then NoTrees (OfDeclaration (InitDeclarator 1 (FunctionDeclarator 1 (DeclaredName 1 0) (Then NoTrees (OfDeclaration (Parameter 1 (Then NoTrees (OfSpecifier (Keyword 1 word.Void))) Absent))) false) Absent)))) ∷ []) ≡ Accepted ([]))
    -- int f(int (*)[]); int f(int (*)[3]);
    × (judged ((102 ∷ []) ∷ []) ((Declaration 1 (Then NoTrees (OfSpecifier (Keyword 1 word.Int))) (Then NoTrees (OfDeclaration (InitDeclarator 1 (FunctionDeclarator 1 (DeclaredName 1 0) (Then NoTrees (OfDeclaration (Parameter 1 (Then NoTrees (OfSpecifier (Keyword 1 word.Int))) (Present (OfDeclarator (AbstractArray 1 (Present (OfDeclarator (AbstractParen 1 (AbstractPointer 1 0 Absent)))) Absent)))))) false) Absent)))) ∷ (Declaration 1 (Then NoTrees (OfSpecifier (Keyword 1 word.Int))) (Then NoTrees (OfDeclaration (InitDeclarator 1 (FunctionDeclarator 1 (DeclaredName 1 0) (Then NoTrees (OfDeclaration (Parameter 1 (Then NoTrees (OfSpecifier (Keyword 1 word.Int))) (Present (OfDeclarator (AbstractArray 1 (Present (OfDeclarator (AbstractParen 1 (AbstractPointer 1 0 Absent)))) (Present (OfExpression (Number 1 3 true false 0))))))))) false) Absent)))) ∷ []) ≡ Accepted ([]))
    -- typedef int t; int f(t t);
    × (judged ((116 ∷ []) ∷ (102 ∷ []) ∷ []) ((Declaration 1 (Then (Then NoTrees (OfSpecifier (Keyword 1 word.Typedef))) (OfSpecifier (Keyword 1 word.Int))) (Then NoTrees (OfDeclaration (InitDeclarator 1 (DeclaredName 1 0) Absent)))) ∷ (Declaration 1 (Then NoTrees (OfSpecifier (Keyword 1 word.Int))) (Then NoTrees (OfDeclaration (InitDeclarator 1 (FunctionDeclarator 1 (DeclaredName 1 1) (Then NoTrees (OfDeclaration (Parameter 1 (Then (Then NoTrees (OfSpecifier (TypedefName 1 0))) (OfSpecifier (TypedefName 1 0))) Absent))) false) Absent)))) ∷ []) ≡ Refused 1)
    -- int f(char); int f(signed char);
    × (judged ((102 ∷ []) ∷ []) ((Declaration 1 (Then NoTrees (OfSpecifier (Keyword 1 word.Int))) (Then NoTrees (OfDeclaration (InitDeclarator 1 (FunctionDeclarator 1 (DeclaredName 1 0) (Then NoTrees (OfDeclaration (Parameter 1 (Then NoTrees (OfSpecifier (Keyword 1 word.Char))) Absent))) false) Absent)))) ∷ (Declaration 1 (Then NoTrees (OfSpecifier (Keyword 1 word.Int))) (Then NoTrees (OfDeclaration (InitDeclarator 1 (FunctionDeclarator 1 (DeclaredName 1 0) (Then NoTrees (OfDeclaration (Parameter 1 (Then (Then NoTrees (OfSpecifier (Keyword 1 word.Signed))) (OfSpecifier (Keyword 1 word.Char))) Absent))) false) Absent)))) ∷ []) ≡ Refused 1)
    -- int f(enum e { A }); int f(int);
    × (judged ((102 ∷ []) ∷ (101 ∷ []) ∷ (65 ∷ []) ∷ []) ((Declaration 1 (Then NoTrees (OfSpecifier (Keyword 1 word.Int))) (Then NoTrees (OfDeclaration (InitDeclarator 1 (FunctionDeclarator 1 (DeclaredName 1 0) (Then NoTrees (OfDeclaration (Parameter 1 (Then NoTrees (OfSpecifier (Enumeration 1 (Some 1) (Then NoTrees (OfDeclaration (Enumerator 1 2 Absent))) false))) Absent))) false) Absent)))) ∷ (Declaration 1 (Then NoTrees (OfSpecifier (Keyword 1 word.Int))) (Then NoTrees (OfDeclaration (InitDeclarator 1 (FunctionDeclarator 1 (DeclaredName 1 0) (Then NoTrees (OfDeclaration (Parameter 1 (Then NoTrees (OfSpecifier (Keyword 1 word.Int))) Absent))) false) Absent)))) ∷ []) ≡ Accepted ([]))
    -- int f(const void); int g(void);
    × (judged ((102 ∷ []) ∷ (103 ∷ []) ∷ []) ((Declaration 1 (Then NoTrees (OfSpecifier (Keyword 1 word.Int))) (Then NoTrees (OfDeclaration (InitDeclarator 1 (FunctionDeclarator 1 (DeclaredName 1 0) (Then NoTrees (OfDeclaration (Parameter 1 (Then (Then NoTrees (OfSpecifier (Keyword 1 word.Const))) (OfSpecifier (Keyword 1 word.Void))) Absent))) false) Absent)))) ∷ (Declaration 1 (Then NoTrees (OfSpecifier (Keyword 1 word.Int))) (Then NoTrees (OfDeclaration (InitDeclarator 1 (FunctionDeclarator 1 (DeclaredName 1 1) (Then NoTrees (OfDeclaration (Parameter 1 (Then NoTrees (OfSpecifier (Keyword 1 word.Void))) Absent))) false) Absent)))) ∷ []) ≡ Refused 0)
unfolding type_of_words library_named are_compatible layouts_of initialized_object values
function_types = (refl, refl, refl, refl, refl, refl, refl, refl, refl, refl, refl, refl, refl, refl, refl, refl, refl, refl, refl, refl, refl, refl, refl)

-- 7.1.3p1, 7.1.4p2: names of the library, and `...`
library_functions :
    -- int f(int, ...);
    (judged ((102 ∷ []) ∷ []) ((Declaration 1 (Then NoTrees (OfSpecifier (Keyword 1 word.Int))) (Then NoTrees (OfDeclaration (InitDeclarator 1 (FunctionDeclarator 1 (DeclaredName 1 0) (Then NoTrees (OfDeclaration (Parameter 1 (Then NoTrees (OfSpecifier (Keyword 1 word.Int))) Absent))) true) Absent)))) ∷ []) ≡ Refused 0)
    -- int printf(const char *, ...);
    × (judged ((112 ∷ 114 ∷ 105 ∷ 110 ∷ 116 ∷ 102 ∷ []) ∷ []) ((Declaration 1 (Then NoTrees (OfSpecifier (Keyword 1 word.Int))) (Then NoTrees (OfDeclaration (InitDeclarator 1 (FunctionDeclarator 1 (DeclaredName 1 0) (Then NoTrees (OfDeclaration (Parameter 1 (Then (Then NoTrees (OfSpecifier (Keyword 1 word.Const))) (OfSpecifier (Keyword 1 word.Char))) (Present (OfDeclarator (AbstractPointer 1 0 Absent)))))) true) Absent)))) ∷ []) ≡ Accepted ([]))
    -- int printf(const char *const, ...); int printf(const char *f, ...);
    × (judged ((112 ∷ 114 ∷ 105 ∷ 110 ∷ 116 ∷ 102 ∷ []) ∷ (102 ∷ []) ∷ []) ((Declaration 1 (Then NoTrees (OfSpecifier (Keyword 1 word.Int))) (Then NoTrees (OfDeclaration (InitDeclarator 1 (FunctionDeclarator 1 (DeclaredName 1 0) (Then NoTrees (OfDeclaration (Parameter 1 (Then (Then NoTrees (OfSpecifier (Keyword 1 word.Const))) (OfSpecifier (Keyword 1 word.Char))) (Present (OfDeclarator (AbstractPointer 1 1 Absent)))))) true) Absent)))) ∷ (Declaration 1 (Then NoTrees (OfSpecifier (Keyword 1 word.Int))) (Then NoTrees (OfDeclaration (InitDeclarator 1 (FunctionDeclarator 1 (DeclaredName 1 0) (Then NoTrees (OfDeclaration (Parameter 1 (Then (Then NoTrees (OfSpecifier (Keyword 1 word.Const))) (OfSpecifier (Keyword 1 word.Char))) (Present (OfDeclarator (Pointer 1 0 (DeclaredName 1 1))))))) true) Absent)))) ∷ []) ≡ Accepted ((Some (8, 8)) ∷ []))
    -- int printf(char *, ...);
    × (judged ((112 ∷ 114 ∷ 105 ∷ 110 ∷ 116 ∷ 102 ∷ []) ∷ []) ((Declaration 1 (Then NoTrees (OfSpecifier (Keyword 1 word.Int))) (Then NoTrees (OfDeclaration (InitDeclarator 1 (FunctionDeclarator 1 (DeclaredName 1 0) (Then NoTrees (OfDeclaration (Parameter 1 (Then NoTrees (OfSpecifier (Keyword 1 word.Char))) (Present (OfDeclarator (AbstractPointer 1 0 Absent)))))) true) Absent)))) ∷ []) ≡ Refused 0)
    -- int (printf)(const char *, ...);
    × (judged ((112 ∷ 114 ∷ 105 ∷ 110 ∷ 116 ∷ 102 ∷ []) ∷ []) ((Declaration 1 (Then NoTrees (OfSpecifier (Keyword 1 word.Int))) (Then NoTrees (OfDeclaration (InitDeclarator 1 (FunctionDeclarator 1 (ParenDeclarator 1 (DeclaredName 1 0)) (Then NoTrees (OfDeclaration (Parameter 1 (Then (Then NoTrees (OfSpecifier (Keyword 1 word.Const))) (OfSpecifier (Keyword 1 word.Char))) (Present (OfDeclarator (AbstractPointer 1 0 Absent)))))) true) Absent)))) ∷ []) ≡ Accepted ([]))
    -- typedef int t(const char *, ...);
    × (judged ((116 ∷ []) ∷ []) ((Declaration 1 (Then (Then NoTrees (OfSpecifier (Keyword 1 word.Typedef))) (OfSpecifier (Keyword 1 word.Int))) (Then NoTrees (OfDeclaration (InitDeclarator 1 (FunctionDeclarator 1 (DeclaredName 1 0) (Then NoTrees (OfDeclaration (Parameter 1 (Then (Then NoTrees (OfSpecifier (Keyword 1 word.Const))) (OfSpecifier (Keyword 1 word.Char))) (Present (OfDeclarator (AbstractPointer 1 0 Absent)))))) true) Absent)))) ∷ []) ≡ Refused 0)
    -- void *malloc(unsigned long); void *malloc(unsigned long int n);
    × (judged ((109 ∷ 97 ∷ 108 ∷ 108 ∷ 111 ∷ 99 ∷ []) ∷ (110 ∷ []) ∷ []) ((Declaration 1 (Then NoTrees (OfSpecifier (Keyword 1 word.Void))) (Then NoTrees (OfDeclaration (InitDeclarator 1 (Pointer 1 0 (FunctionDeclarator 1 (DeclaredName 1 0) (Then NoTrees (OfDeclaration (Parameter 1 (Then (Then NoTrees (OfSpecifier (Keyword 1 word.Unsigned))) (OfSpecifier (Keyword 1 word.Long))) Absent))) false)) Absent)))) ∷ (Declaration 1 (Then NoTrees (OfSpecifier (Keyword 1 word.Void))) (Then NoTrees (OfDeclaration (InitDeclarator 1 (Pointer 1 0 (FunctionDeclarator 1 (DeclaredName 1 0) (Then NoTrees (OfDeclaration (Parameter 1 (Then (Then (Then NoTrees (OfSpecifier (Keyword 1 word.Unsigned))) (OfSpecifier (Keyword 1 word.Long))) (OfSpecifier (Keyword 1 word.Int))) (Present (OfDeclarator (DeclaredName 1 1)))))) false)) Absent)))) ∷ []) ≡ Accepted ((Some (8, 8)) ∷ []))
    -- void *malloc(unsigned);
    × (judged ((109 ∷ 97 ∷ 108 ∷ 108 ∷ 111 ∷ 99 ∷ []) ∷ []) ((Declaration 1 (Then NoTrees (OfSpecifier (Keyword 1 word.Void))) (Then NoTrees (OfDeclaration (InitDeclarator 1 (Pointer 1 0 (FunctionDeclarator 1 (DeclaredName 1 0) (Then NoTrees (OfDeclaration (Parameter 1 (Then NoTrees (OfSpecifier (Keyword 1 word.Unsigned))) Absent))) false)) Absent)))) ∷ []) ≡ Refused 0)
    -- void free(void *); void *memcpy(void *, const void *, unsigned long); void exit(int); void abort();
    × (judged ((102 ∷ 114 ∷ 101 ∷ 101 ∷ []) ∷ (109 ∷ 101 ∷ 109 ∷ 99 ∷ 112 ∷ 121 ∷ []) ∷ (101 ∷ 120 ∷ 105 ∷ 116 ∷ []) ∷ (97 ∷ 98 ∷ 111 ∷ 114 ∷ 116 ∷ []) ∷ []) ((Declaration 1 (Then NoTrees (OfSpecifier (Keyword 1 word.Void))) (Then NoTrees (OfDeclaration (InitDeclarator 1 (FunctionDeclarator 1 (DeclaredName 1 0) (Then NoTrees (OfDeclaration (Parameter 1 (Then NoTrees (OfSpecifier (Keyword 1 word.Void))) (Present (OfDeclarator (AbstractPointer 1 0 Absent)))))) false) Absent)))) ∷ (Declaration 1 (Then NoTrees (OfSpecifier (Keyword 1 word.Void))) (Then NoTrees (OfDeclaration (InitDeclarator 1 (Pointer 1 0 (FunctionDeclarator 1 (DeclaredName 1 1) (Then (Then (Then NoTrees (OfDeclaration (Parameter 1 (Then NoTrees (OfSpecifier (Keyword 1 word.Void))) (Present (OfDeclarator (AbstractPointer 1 0 Absent)))))) (OfDeclaration (Parameter 1 (Then (Then NoTrees (OfSpecifier (Keyword 1 word.Const))) (OfSpecifier (Keyword 1 word.Void))) (Present (OfDeclarator (AbstractPointer 1 0 Absent)))))) (OfDeclaration (Parameter 1 (Then (Then NoTrees (OfSpecifier (Keyword 1 word.Unsigned))) (OfSpecifier (Keyword 1 word.Long))) Absent))) false)) Absent)))) ∷ (Declaration 1 (Then NoTrees (OfSpecifier (Keyword 1 word.Void))) (Then NoTrees (OfDeclaration (InitDeclarator 1 (FunctionDeclarator 1 (DeclaredName 1 2) (Then NoTrees (OfDeclaration (Parameter 1 (Then NoTrees (OfSpecifier (Keyword 1 word.Int))) Absent))) false) Absent)))) ∷ (Declaration 1 (Then NoTrees (OfSpecifier (Keyword 1 word.Void))) (Then NoTrees (OfDeclaration (InitDeclarator 1 (FunctionDeclarator 1 (DeclaredName 1 3) NoTrees false) Absent)))) ∷ []) ≡ Accepted ([]))
    -- unsigned long strlen(char *);
    × (judged ((115 ∷ 116 ∷ 114 ∷ 108 ∷ 101 ∷ 110 ∷ []) ∷ []) ((Declaration 1 (Then (Then NoTrees (OfSpecifier (Keyword 1 word.Unsigned))) (OfSpecifier (Keyword 1 word.Long))) (Then NoTrees (OfDeclaration (InitDeclarator 1 (FunctionDeclarator 1 (DeclaredName 1 0) (Then NoTrees (OfDeclaration (Parameter 1 (Then NoTrees (OfSpecifier (Keyword 1 word.Char))) (Present (OfDeclarator (AbstractPointer 1 0 Absent)))))) false) Absent)))) ∷ []) ≡ Refused 0)
    -- int malloc;
    × (judged ((109 ∷ 97 ∷ 108 ∷ 108 ∷ 111 ∷ 99 ∷ []) ∷ []) ((Declaration 1 (Then NoTrees (OfSpecifier (Keyword 1 word.Int))) (Then NoTrees (OfDeclaration (InitDeclarator 1 (DeclaredName 1 0) Absent)))) ∷ []) ≡ Accepted ((Some (4, 4)) ∷ []))
    -- void free(void *p) { }
    × (judged ((102 ∷ 114 ∷ 101 ∷ 101 ∷ []) ∷ (112 ∷ []) ∷ []) ((Function 1 (Then NoTrees (OfSpecifier (Keyword 1 word.Void))) (FunctionDeclarator 1 (DeclaredName 1 0) (Then NoTrees (OfDeclaration (Parameter 1 (Then NoTrees (OfSpecifier (Keyword 1 word.Void))) (Present (OfDeclarator (Pointer 1 0 (DeclaredName 1 1))))))) false) (Block 1 NoTrees)) ∷ []) ≡ Refused 0)
    -- typedef int printf(const char *, ...);
    × (judged ((112 ∷ 114 ∷ 105 ∷ 110 ∷ 116 ∷ 102 ∷ []) ∷ []) ((Declaration 1 (Then (Then NoTrees (OfSpecifier (Keyword 1 word.Typedef))) (OfSpecifier (Keyword 1 word.Int))) (Then NoTrees (OfDeclaration (InitDeclarator 1 (FunctionDeclarator 1 (DeclaredName 1 0) (Then NoTrees (OfDeclaration (Parameter 1 (Then (Then NoTrees (OfSpecifier (Keyword 1 word.Const))) (OfSpecifier (Keyword 1 word.Char))) (Present (OfDeclarator (AbstractPointer 1 0 Absent)))))) true) Absent)))) ∷ []) ≡ Accepted ([]))
unfolding type_of_words library_named are_compatible layouts_of initialized_object values
library_functions = (refl, refl, refl, refl, refl, refl, refl, refl, refl, refl, refl, refl, refl)

-- 6.9.1: heads of definitions
function_definitions :
    -- int f(struct s); struct s { int x; };
    (judged ((102 ∷ []) ∷ (115 ∷ []) ∷ (120 ∷ []) ∷ []) ((Declaration 1 (Then NoTrees (OfSpecifier (Keyword 1 word.Int))) (Then NoTrees (OfDeclaration (InitDeclarator 1 (FunctionDeclarator 1 (DeclaredName 1 0) (Then NoTrees (OfDeclaration (Parameter 1 (Then NoTrees (OfSpecifier (Tag 1 word.Struct 1))) Absent))) false) Absent)))) ∷ (Declaration 1 (Then NoTrees (OfSpecifier (Composite 1 word.Struct (Some 1) (Then NoTrees (OfDeclaration (MemberDeclaration 1 (Then NoTrees (OfSpecifier (Keyword 1 word.Int))) (Then NoTrees (OfDeclarator (DeclaredName 1 2))))))))) NoTrees) ∷ []) ≡ Accepted ([]))
    -- int f(struct s *p) { struct s *q; }
    × (judged ((102 ∷ []) ∷ (115 ∷ []) ∷ (112 ∷ []) ∷ (113 ∷ []) ∷ []) ((Function 1 (Then NoTrees (OfSpecifier (Keyword 1 word.Int))) (FunctionDeclarator 1 (DeclaredName 1 0) (Then NoTrees (OfDeclaration (Parameter 1 (Then NoTrees (OfSpecifier (Tag 1 word.Struct 1))) (Present (OfDeclarator (Pointer 1 0 (DeclaredName 1 2))))))) false) (Block 1 (Then NoTrees (OfDeclaration (Declaration 1 (Then NoTrees (OfSpecifier (Tag 1 word.Struct 1))) (Then NoTrees (OfDeclaration (InitDeclarator 1 (Pointer 1 0 (DeclaredName 1 3)) Absent)))))))) ∷ []) ≡ Accepted ((Some (8, 8)) ∷ (Some (8, 8)) ∷ []))
    -- int f(struct s p) { }
    × (judged ((102 ∷ []) ∷ (115 ∷ []) ∷ (112 ∷ []) ∷ []) ((Function 1 (Then NoTrees (OfSpecifier (Keyword 1 word.Int))) (FunctionDeclarator 1 (DeclaredName 1 0) (Then NoTrees (OfDeclaration (Parameter 1 (Then NoTrees (OfSpecifier (Tag 1 word.Struct 1))) (Present (OfDeclarator (DeclaredName 1 2)))))) false) (Block 1 NoTrees)) ∷ []) ≡ Refused 0)
    -- struct s f(void);
    × (judged ((115 ∷ []) ∷ (102 ∷ []) ∷ []) ((Declaration 1 (Then NoTrees (OfSpecifier (Tag 1 word.Struct 0))) (Then NoTrees (OfDeclaration (InitDeclarator 1 (FunctionDeclarator 1 (DeclaredName 1 1) (Then NoTrees (OfDeclaration (Parameter 1 (Then NoTrees (OfSpecifier (Keyword 1 word.Void))) Absent))) false) Absent)))) ∷ []) ≡ Accepted ([]))
    -- struct s f(void) { }
    × (judged ((115 ∷ []) ∷ (102 ∷ []) ∷ []) ((Function 1 (Then NoTrees (OfSpecifier (Tag 1 word.Struct 0))) (FunctionDeclarator 1 (DeclaredName 1 1) (Then NoTrees (OfDeclaration (Parameter 1 (Then NoTrees (OfSpecifier (Keyword 1 word.Void))) Absent))) false) (Block 1 NoTrees)) ∷ []) ≡ Refused 0)
    -- int f(int) { }
    × (judged ((102 ∷ []) ∷ []) ((Function 1 (Then NoTrees (OfSpecifier (Keyword 1 word.Int))) (FunctionDeclarator 1 (DeclaredName 1 0) (Then NoTrees (OfDeclaration (Parameter 1 (Then NoTrees (OfSpecifier (Keyword 1 word.Int))) Absent))) false) (Block 1 NoTrees)) ∷ []) ≡ Refused 0)
    -- int f(int a) { int a; }
    × (judged ((102 ∷ []) ∷ (97 ∷ []) ∷ []) ((Function 1 (Then NoTrees (OfSpecifier (Keyword 1 word.Int))) (FunctionDeclarator 1 (DeclaredName 1 0) (Then NoTrees (OfDeclaration (Parameter 1 (Then NoTrees (OfSpecifier (Keyword 1 word.Int))) (Present (OfDeclarator (DeclaredName 1 1)))))) false) (Block 1 (Then NoTrees (OfDeclaration (Declaration 1 (Then NoTrees (OfSpecifier (Keyword 1 word.Int))) (Then NoTrees (OfDeclaration (InitDeclarator 1 (DeclaredName 1 1) Absent)))))))) ∷ []) ≡ Refused 0)
    -- int f(int a) { int b; long b; }
    × (judged ((102 ∷ []) ∷ (97 ∷ []) ∷ (98 ∷ []) ∷ []) ((Function 1 (Then NoTrees (OfSpecifier (Keyword 1 word.Int))) (FunctionDeclarator 1 (DeclaredName 1 0) (Then NoTrees (OfDeclaration (Parameter 1 (Then NoTrees (OfSpecifier (Keyword 1 word.Int))) (Present (OfDeclarator (DeclaredName 1 1)))))) false) (Block 1 (Then (Then NoTrees (OfDeclaration (Declaration 1 (Then NoTrees (OfSpecifier (Keyword 1 word.Int))) (Then NoTrees (OfDeclaration (InitDeclarator 1 (DeclaredName 1 2) Absent)))))) (OfDeclaration (Declaration 1 (Then NoTrees (OfSpecifier (Keyword 1 word.Long))) (Then NoTrees (OfDeclaration (InitDeclarator 1 (DeclaredName 1 2) Absent)))))))) ∷ []) ≡ Refused 0)
    -- typedef int t(void); t f { }
    × (judged ((116 ∷ []) ∷ (102 ∷ []) ∷ []) ((Declaration 1 (Then (Then NoTrees (OfSpecifier (Keyword 1 word.Typedef))) (OfSpecifier (Keyword 1 word.Int))) (Then NoTrees (OfDeclaration (InitDeclarator 1 (FunctionDeclarator 1 (DeclaredName 1 0) (Then NoTrees (OfDeclaration (Parameter 1 (Then NoTrees (OfSpecifier (Keyword 1 word.Void))) Absent))) false) Absent)))) ∷ (Function 1 (Then NoTrees (OfSpecifier (TypedefName 1 0))) (DeclaredName 1 1) (Block 1 NoTrees)) ∷ []) ≡ Refused 1)
    -- typedef int t(void); t f;
    × (judged ((116 ∷ []) ∷ (102 ∷ []) ∷ []) ((Declaration 1 (Then (Then NoTrees (OfSpecifier (Keyword 1 word.Typedef))) (OfSpecifier (Keyword 1 word.Int))) (Then NoTrees (OfDeclaration (InitDeclarator 1 (FunctionDeclarator 1 (DeclaredName 1 0) (Then NoTrees (OfDeclaration (Parameter 1 (Then NoTrees (OfSpecifier (Keyword 1 word.Void))) Absent))) false) Absent)))) ∷ (Declaration 1 (Then NoTrees (OfSpecifier (TypedefName 1 0))) (Then NoTrees (OfDeclaration (InitDeclarator 1 (DeclaredName 1 1) Absent)))) ∷ []) ≡ Accepted ([]))
    -- extern int f(int a) { int b[sizeof(int)]; }
    × (judged ((102 ∷ []) ∷ (97 ∷ []) ∷ (98 ∷ []) ∷ []) ((Function 1 (Then (Then NoTrees (OfSpecifier (Keyword 1 word.Extern))) (OfSpecifier (Keyword 1 word.Int))) (FunctionDeclarator 1 (DeclaredName 1 0) (Then NoTrees (OfDeclaration (Parameter 1 (Then NoTrees (OfSpecifier (Keyword 1 word.Int))) (Present (OfDeclarator (DeclaredName 1 1)))))) false) (Block 1 (Then NoTrees (OfDeclaration (Declaration 1 (Then NoTrees (OfSpecifier (Keyword 1 word.Int))) (Then NoTrees (OfDeclaration (InitDeclarator 1 (Array 1 (DeclaredName 1 2) (Present (OfExpression (SizeofType 1 (TypeName 1 (Then NoTrees (OfSpecifier (Keyword 1 word.Int))) Absent))))) Absent)))))))) ∷ []) ≡ Accepted ((Some (4, 4)) ∷ (Some (16, 4)) ∷ []))
    -- int f(void) { } int f(void) { }
    × (judged ((102 ∷ []) ∷ []) ((Function 1 (Then NoTrees (OfSpecifier (Keyword 1 word.Int))) (FunctionDeclarator 1 (DeclaredName 1 0) (Then NoTrees (OfDeclaration (Parameter 1 (Then NoTrees (OfSpecifier (Keyword 1 word.Void))) Absent))) false) (Block 1 NoTrees)) ∷ (Function 1 (Then NoTrees (OfSpecifier (Keyword 1 word.Int))) (FunctionDeclarator 1 (DeclaredName 1 0) (Then NoTrees (OfDeclaration (Parameter 1 (Then NoTrees (OfSpecifier (Keyword 1 word.Void))) Absent))) false) (Block 1 NoTrees)) ∷ []) ≡ Refused 1)
    -- int f(void); int f;
    × (judged ((102 ∷ []) ∷ []) ((Declaration 1 (Then NoTrees (OfSpecifier (Keyword 1 word.Int))) (Then NoTrees (OfDeclaration (InitDeclarator 1 (FunctionDeclarator 1 (DeclaredName 1 0) (Then NoTrees (OfDeclaration (Parameter 1 (Then NoTrees (OfSpecifier (Keyword 1 word.Void))) Absent))) false) Absent)))) ∷ (Declaration 1 (Then NoTrees (OfSpecifier (Keyword 1 word.Int))) (Then NoTrees (OfDeclaration (InitDeclarator 1 (DeclaredName 1 0) Absent)))) ∷ []) ≡ Refused 1)
    -- static int f(void); int f(void) { }
    × (judged ((102 ∷ []) ∷ []) ((Declaration 1 (Then (Then NoTrees (OfSpecifier (Keyword 1 word.Static))) (OfSpecifier (Keyword 1 word.Int))) (Then NoTrees (OfDeclaration (InitDeclarator 1 (FunctionDeclarator 1 (DeclaredName 1 0) (Then NoTrees (OfDeclaration (Parameter 1 (Then NoTrees (OfSpecifier (Keyword 1 word.Void))) Absent))) false) Absent)))) ∷ (Function 1 (Then NoTrees (OfSpecifier (Keyword 1 word.Int))) (FunctionDeclarator 1 (DeclaredName 1 0) (Then NoTrees (OfDeclaration (Parameter 1 (Then NoTrees (OfSpecifier (Keyword 1 word.Void))) Absent))) false) (Block 1 NoTrees)) ∷ []) ≡ Accepted ([]))
    -- int f(struct t { int x; } p) { struct t q; }
    × (judged ((102 ∷ []) ∷ (116 ∷ []) ∷ (120 ∷ []) ∷ (112 ∷ []) ∷ (113 ∷ []) ∷ []) ((Function 1 (Then NoTrees (OfSpecifier (Keyword 1 word.Int))) (FunctionDeclarator 1 (DeclaredName 1 0) (Then NoTrees (OfDeclaration (Parameter 1 (Then NoTrees (OfSpecifier (Composite 1 word.Struct (Some 1) (Then NoTrees (OfDeclaration (MemberDeclaration 1 (Then NoTrees (OfSpecifier (Keyword 1 word.Int))) (Then NoTrees (OfDeclarator (DeclaredName 1 2))))))))) (Present (OfDeclarator (DeclaredName 1 3)))))) false) (Block 1 (Then NoTrees (OfDeclaration (Declaration 1 (Then NoTrees (OfSpecifier (Tag 1 word.Struct 1))) (Then NoTrees (OfDeclaration (InitDeclarator 1 (DeclaredName 1 4) Absent)))))))) ∷ []) ≡ Accepted ((Some (4, 4)) ∷ (Some (4, 4)) ∷ []))
    -- int x; int f(int x) { }
    × (judged ((120 ∷ []) ∷ (102 ∷ []) ∷ []) ((Declaration 1 (Then NoTrees (OfSpecifier (Keyword 1 word.Int))) (Then NoTrees (OfDeclaration (InitDeclarator 1 (DeclaredName 1 0) Absent)))) ∷ (Function 1 (Then NoTrees (OfSpecifier (Keyword 1 word.Int))) (FunctionDeclarator 1 (DeclaredName 1 1) (Then NoTrees (OfDeclaration (Parameter 1 (Then NoTrees (OfSpecifier (Keyword 1 word.Int))) (Present (OfDeclarator (DeclaredName 1 0)))))) false) (Block 1 NoTrees)) ∷ []) ≡ Accepted ((Some (4, 4)) ∷ (Some (4, 4)) ∷ []))
    -- int f(int n, int a[sizeof n]); int g(int n, char a[sizeof(n) * 2]) { int b[sizeof a]; }
    × (judged ((102 ∷ []) ∷ (110 ∷ []) ∷ (97 ∷ []) ∷ (103 ∷ []) ∷ (98 ∷ []) ∷ []) ((Declaration 1 (Then NoTrees (OfSpecifier (Keyword 1 word.Int))) (Then NoTrees (OfDeclaration (InitDeclarator 1 (FunctionDeclarator 1 (DeclaredName 1 0) (Then (Then NoTrees (OfDeclaration (Parameter 1 (Then NoTrees (OfSpecifier (Keyword 1 word.Int))) (Present (OfDeclarator (DeclaredName 1 1)))))) (OfDeclaration (Parameter 1 (Then NoTrees (OfSpecifier (Keyword 1 word.Int))) (Present (OfDeclarator (Array 1 (DeclaredName 1 2) (Present (OfExpression (SizeofExpr 1 (Name 1 1)))))))))) false) Absent)))) ∷ (Function 1 (Then NoTrees (OfSpecifier (Keyword 1 word.Int))) (FunctionDeclarator 1 (DeclaredName 1 3) (Then (Then NoTrees (OfDeclaration (Parameter 1 (Then NoTrees (OfSpecifier (Keyword 1 word.Int))) (Present (OfDeclarator (DeclaredName 1 1)))))) (OfDeclaration (Parameter 1 (Then NoTrees (OfSpecifier (Keyword 1 word.Char))) (Present (OfDeclarator (Array 1 (DeclaredName 1 2) (Present (OfExpression (Binary 1 op.Multiply (SizeofExpr 1 (Paren 1 (Name 1 1))) (Number 1 2 true false 0)))))))))) false) (Block 1 (Then NoTrees (OfDeclaration (Declaration 1 (Then NoTrees (OfSpecifier (Keyword 1 word.Int))) (Then NoTrees (OfDeclaration (InitDeclarator 1 (Array 1 (DeclaredName 1 4) (Present (OfExpression (SizeofExpr 1 (Name 1 2))))) Absent)))))))) ∷ []) ≡ Accepted ((Some (4, 4)) ∷ (Some (8, 8)) ∷ (Some (4, 4)) ∷ (Some (8, 8)) ∷ (Some (32, 4)) ∷ []))
    -- int f(struct u { int a; } x, struct u *y) { struct u z; } struct u *w;
    × (judged ((102 ∷ []) ∷ (117 ∷ []) ∷ (97 ∷ []) ∷ (120 ∷ []) ∷ (121 ∷ []) ∷ (122 ∷ []) ∷ (119 ∷ []) ∷ []) ((Function 1 (Then NoTrees (OfSpecifier (Keyword 1 word.Int))) (FunctionDeclarator 1 (DeclaredName 1 0) (Then (Then NoTrees (OfDeclaration (Parameter 1 (Then NoTrees (OfSpecifier (Composite 1 word.Struct (Some 1) (Then NoTrees (OfDeclaration (MemberDeclaration 1 (Then NoTrees (OfSpecifier (Keyword 1 word.Int))) (Then NoTrees (OfDeclarator (DeclaredName 1 2))))))))) (Present (OfDeclarator (DeclaredName 1 3)))))) (OfDeclaration (Parameter 1 (Then NoTrees (OfSpecifier (Tag 1 word.Struct 1))) (Present (OfDeclarator (Pointer 1 0 (DeclaredName 1 4))))))) false) (Block 1 (Then NoTrees (OfDeclaration (Declaration 1 (Then NoTrees (OfSpecifier (Tag 1 word.Struct 1))) (Then NoTrees (OfDeclaration (InitDeclarator 1 (DeclaredName 1 5) Absent)))))))) ∷ (Declaration 1 (Then NoTrees (OfSpecifier (Tag 1 word.Struct 1))) (Then NoTrees (OfDeclaration (InitDeclarator 1 (Pointer 1 0 (DeclaredName 1 6)) Absent)))) ∷ []) ≡ Accepted ((Some (4, 4)) ∷ (Some (8, 8)) ∷ (Some (4, 4)) ∷ (Some (8, 8)) ∷ []))
    -- int f(enum e { A, B } x) { int a[B]; }
    × (judged ((102 ∷ []) ∷ (101 ∷ []) ∷ (65 ∷ []) ∷ (66 ∷ []) ∷ (120 ∷ []) ∷ (97 ∷ []) ∷ []) ((Function 1 (Then NoTrees (OfSpecifier (Keyword 1 word.Int))) (FunctionDeclarator 1 (DeclaredName 1 0) (Then NoTrees (OfDeclaration (Parameter 1 (Then NoTrees (OfSpecifier (Enumeration 1 (Some 1) (Then (Then NoTrees (OfDeclaration (Enumerator 1 2 Absent))) (OfDeclaration (Enumerator 1 3 Absent))) false))) (Present (OfDeclarator (DeclaredName 1 4)))))) false) (Block 1 (Then NoTrees (OfDeclaration (Declaration 1 (Then NoTrees (OfSpecifier (Keyword 1 word.Int))) (Then NoTrees (OfDeclaration (InitDeclarator 1 (Array 1 (DeclaredName 1 5) (Present (OfExpression (Name 1 3)))) Absent)))))))) ∷ []) ≡ Accepted ((Some (4, 4)) ∷ (Some (4, 4)) ∷ []))
    -- int f(enum e { A, B } x); int c[B];
    × (judged ((102 ∷ []) ∷ (101 ∷ []) ∷ (65 ∷ []) ∷ (66 ∷ []) ∷ (120 ∷ []) ∷ (99 ∷ []) ∷ []) ((Declaration 1 (Then NoTrees (OfSpecifier (Keyword 1 word.Int))) (Then NoTrees (OfDeclaration (InitDeclarator 1 (FunctionDeclarator 1 (DeclaredName 1 0) (Then NoTrees (OfDeclaration (Parameter 1 (Then NoTrees (OfSpecifier (Enumeration 1 (Some 1) (Then (Then NoTrees (OfDeclaration (Enumerator 1 2 Absent))) (OfDeclaration (Enumerator 1 3 Absent))) false))) (Present (OfDeclarator (DeclaredName 1 4)))))) false) Absent)))) ∷ (Declaration 1 (Then NoTrees (OfSpecifier (Keyword 1 word.Int))) (Then NoTrees (OfDeclaration (InitDeclarator 1 (Array 1 (DeclaredName 1 5) (Present (OfExpression (Name 1 3)))) Absent)))) ∷ []) ≡ Refused 1)
    -- int f(int A, int a[sizeof(enum { A })]);
    × (judged ((102 ∷ []) ∷ (65 ∷ []) ∷ (97 ∷ []) ∷ []) ((Declaration 1 (Then NoTrees (OfSpecifier (Keyword 1 word.Int))) (Then NoTrees (OfDeclaration (InitDeclarator 1 (FunctionDeclarator 1 (DeclaredName 1 0) (Then (Then NoTrees (OfDeclaration (Parameter 1 (Then NoTrees (OfSpecifier (Keyword 1 word.Int))) (Present (OfDeclarator (DeclaredName 1 1)))))) (OfDeclaration (Parameter 1 (Then NoTrees (OfSpecifier (Keyword 1 word.Int))) (Present (OfDeclarator (Array 1 (DeclaredName 1 2) (Present (OfExpression (SizeofType 1 (TypeName 1 (Then NoTrees (OfSpecifier (Enumeration 1 None (Then NoTrees (OfDeclaration (Enumerator 1 1 Absent))) false))) Absent)))))))))) false) Absent)))) ∷ []) ≡ Refused 0)
    -- typedef int t[2]; int f(t a) { int b[sizeof a]; }
    × (judged ((116 ∷ []) ∷ (102 ∷ []) ∷ (97 ∷ []) ∷ (98 ∷ []) ∷ []) ((Declaration 1 (Then (Then NoTrees (OfSpecifier (Keyword 1 word.Typedef))) (OfSpecifier (Keyword 1 word.Int))) (Then NoTrees (OfDeclaration (InitDeclarator 1 (Array 1 (DeclaredName 1 0) (Present (OfExpression (Number 1 2 true false 0)))) Absent)))) ∷ (Function 1 (Then NoTrees (OfSpecifier (Keyword 1 word.Int))) (FunctionDeclarator 1 (DeclaredName 1 1) (Then NoTrees (OfDeclaration (Parameter 1 (Then NoTrees (OfSpecifier (TypedefName 1 0))) (Present (OfDeclarator (DeclaredName 1 2)))))) false) (Block 1 (Then NoTrees (OfDeclaration (Declaration 1 (Then NoTrees (OfSpecifier (Keyword 1 word.Int))) (Then NoTrees (OfDeclaration (InitDeclarator 1 (Array 1 (DeclaredName 1 3) (Present (OfExpression (SizeofExpr 1 (Name 1 2))))) Absent)))))))) ∷ []) ≡ Accepted ((Some (8, 8)) ∷ (Some (32, 4)) ∷ []))
    -- int f(int main) { }
    × (judged ((102 ∷ []) ∷ (109 ∷ 97 ∷ 105 ∷ 110 ∷ []) ∷ []) ((Function 1 (Then NoTrees (OfSpecifier (Keyword 1 word.Int))) (FunctionDeclarator 1 (DeclaredName 1 0) (Then NoTrees (OfDeclaration (Parameter 1 (Then NoTrees (OfSpecifier (Keyword 1 word.Int))) (Present (OfDeclarator (DeclaredName 1 1)))))) false) (Block 1 NoTrees)) ∷ []) ≡ Accepted ((Some (4, 4)) ∷ []))
    -- int (*f(void))[] { }
    × (judged ((102 ∷ []) ∷ []) ((Function 1 (Then NoTrees (OfSpecifier (Keyword 1 word.Int))) (Array 1 (ParenDeclarator 1 (Pointer 1 0 (FunctionDeclarator 1 (DeclaredName 1 0) (Then NoTrees (OfDeclaration (Parameter 1 (Then NoTrees (OfSpecifier (Keyword 1 word.Void))) Absent))) false))) Absent) (Block 1 NoTrees)) ∷ []) ≡ Refused 0)
    -- int (*f(int a[]))[3] { }
    × (judged ((102 ∷ []) ∷ (97 ∷ []) ∷ []) ((Function 1 (Then NoTrees (OfSpecifier (Keyword 1 word.Int))) (Array 1 (ParenDeclarator 1 (Pointer 1 0 (FunctionDeclarator 1 (DeclaredName 1 0) (Then NoTrees (OfDeclaration (Parameter 1 (Then NoTrees (OfSpecifier (Keyword 1 word.Int))) (Present (OfDeclarator (Array 1 (DeclaredName 1 1) Absent)))))) false))) (Present (OfExpression (Number 1 3 true false 0)))) (Block 1 NoTrees)) ∷ []) ≡ Accepted ((Some (8, 8)) ∷ []))
unfolding type_of_words library_named are_compatible layouts_of initialized_object values
function_definitions = (refl, refl, refl, refl, refl, refl, refl, refl, refl, refl, refl, refl, refl, refl, refl, refl, refl, refl, refl, refl, refl, refl, refl, refl, refl)

-- 5.1.2.2.1p1: `main`
main_functions :
    -- int main(void) { }
    (judged ((109 ∷ 97 ∷ 105 ∷ 110 ∷ []) ∷ []) ((Function 1 (Then NoTrees (OfSpecifier (Keyword 1 word.Int))) (FunctionDeclarator 1 (DeclaredName 1 0) (Then NoTrees (OfDeclaration (Parameter 1 (Then NoTrees (OfSpecifier (Keyword 1 word.Void))) Absent))) false) (Block 1 NoTrees)) ∷ []) ≡ Accepted ([]))
    -- int main() { }
    × (judged ((109 ∷ 97 ∷ 105 ∷ 110 ∷ []) ∷ []) ((Function 1 (Then NoTrees (OfSpecifier (Keyword 1 word.Int))) (FunctionDeclarator 1 (DeclaredName 1 0) NoTrees false) (Block 1 NoTrees)) ∷ []) ≡ Accepted ([]))
    -- int main(int a) { }
    × (judged ((109 ∷ 97 ∷ 105 ∷ 110 ∷ []) ∷ (97 ∷ []) ∷ []) ((Function 1 (Then NoTrees (OfSpecifier (Keyword 1 word.Int))) (FunctionDeclarator 1 (DeclaredName 1 0) (Then NoTrees (OfDeclaration (Parameter 1 (Then NoTrees (OfSpecifier (Keyword 1 word.Int))) (Present (OfDeclarator (DeclaredName 1 1)))))) false) (Block 1 NoTrees)) ∷ []) ≡ Refused 0)
    -- void main(void) { }
    × (judged ((109 ∷ 97 ∷ 105 ∷ 110 ∷ []) ∷ []) ((Function 1 (Then NoTrees (OfSpecifier (Keyword 1 word.Void))) (FunctionDeclarator 1 (DeclaredName 1 0) (Then NoTrees (OfDeclaration (Parameter 1 (Then NoTrees (OfSpecifier (Keyword 1 word.Void))) Absent))) false) (Block 1 NoTrees)) ∷ []) ≡ Refused 0)
    -- int main;
    × (judged ((109 ∷ 97 ∷ 105 ∷ 110 ∷ []) ∷ []) ((Declaration 1 (Then NoTrees (OfSpecifier (Keyword 1 word.Int))) (Then NoTrees (OfDeclaration (InitDeclarator 1 (DeclaredName 1 0) Absent)))) ∷ []) ≡ Refused 0)
    -- enum { main };
    × (judged ((109 ∷ 97 ∷ 105 ∷ 110 ∷ []) ∷ []) ((Declaration 1 (Then NoTrees (OfSpecifier (Enumeration 1 None (Then NoTrees (OfDeclaration (Enumerator 1 0 Absent))) false))) NoTrees) ∷ []) ≡ Refused 0)
    -- typedef int main;
    × (judged ((109 ∷ 97 ∷ 105 ∷ 110 ∷ []) ∷ []) ((Declaration 1 (Then (Then NoTrees (OfSpecifier (Keyword 1 word.Typedef))) (OfSpecifier (Keyword 1 word.Int))) (Then NoTrees (OfDeclaration (InitDeclarator 1 (DeclaredName 1 0) Absent)))) ∷ []) ≡ Refused 0)
    -- int f(void) { int main; }
    × (judged ((102 ∷ []) ∷ (109 ∷ 97 ∷ 105 ∷ 110 ∷ []) ∷ []) ((Function 1 (Then NoTrees (OfSpecifier (Keyword 1 word.Int))) (FunctionDeclarator 1 (DeclaredName 1 0) (Then NoTrees (OfDeclaration (Parameter 1 (Then NoTrees (OfSpecifier (Keyword 1 word.Void))) Absent))) false) (Block 1 (Then NoTrees (OfDeclaration (Declaration 1 (Then NoTrees (OfSpecifier (Keyword 1 word.Int))) (Then NoTrees (OfDeclaration (InitDeclarator 1 (DeclaredName 1 1) Absent)))))))) ∷ []) ≡ Accepted ((Some (4, 4)) ∷ []))
    -- static int main(void) { }
    × (judged ((109 ∷ 97 ∷ 105 ∷ 110 ∷ []) ∷ []) ((Function 1 (Then (Then NoTrees (OfSpecifier (Keyword 1 word.Static))) (OfSpecifier (Keyword 1 word.Int))) (FunctionDeclarator 1 (DeclaredName 1 0) (Then NoTrees (OfDeclaration (Parameter 1 (Then NoTrees (OfSpecifier (Keyword 1 word.Void))) Absent))) false) (Block 1 NoTrees)) ∷ []) ≡ Accepted ([]))
    -- typedef int main(void);
    × (judged ((109 ∷ 97 ∷ 105 ∷ 110 ∷ []) ∷ []) ((Declaration 1 (Then (Then NoTrees (OfSpecifier (Keyword 1 word.Typedef))) (OfSpecifier (Keyword 1 word.Int))) (Then NoTrees (OfDeclaration (InitDeclarator 1 (FunctionDeclarator 1 (DeclaredName 1 0) (Then NoTrees (OfDeclaration (Parameter 1 (Then NoTrees (OfSpecifier (Keyword 1 word.Void))) Absent))) false) Absent)))) ∷ []) ≡ Accepted ([]))
unfolding type_of_words library_named are_compatible layouts_of initialized_object values
main_functions = (refl, refl, refl, refl, refl, refl, refl, refl, refl, refl)

-- 6.7.2.1: members of structures and unions
members :
    -- struct s { int a; char b; long c; short d; } x; union u { int a; char b[7]; } y;
    (judged ((115 ∷ []) ∷ (97 ∷ []) ∷ (98 ∷ []) ∷ (99 ∷ []) ∷ (100 ∷ []) ∷ (120 ∷ []) ∷ (117 ∷ []) ∷ (121 ∷ []) ∷ []) ((Declaration 1 (Then NoTrees (OfSpecifier (Composite 1 word.Struct (Some 0) (Then (Then (Then (Then NoTrees (OfDeclaration (MemberDeclaration 1 (Then NoTrees (OfSpecifier (Keyword 1 word.Int))) (Then NoTrees (OfDeclarator (DeclaredName 1 1)))))) (OfDeclaration (MemberDeclaration 1 (Then NoTrees (OfSpecifier (Keyword 1 word.Char))) (Then NoTrees (OfDeclarator (DeclaredName 1 2)))))) (OfDeclaration (MemberDeclaration 1 (Then NoTrees (OfSpecifier (Keyword 1 word.Long))) (Then NoTrees (OfDeclarator (DeclaredName 1 3)))))) (OfDeclaration (MemberDeclaration 1 (Then NoTrees (OfSpecifier (Keyword 1 word.Short))) (Then NoTrees (OfDeclarator (DeclaredName 1 4))))))))) (Then NoTrees (OfDeclaration (InitDeclarator 1 (DeclaredName 1 5) Absent)))) ∷ (Declaration 1 (Then NoTrees (OfSpecifier (Composite 1 word.Union (Some 6) (Then (Then NoTrees (OfDeclaration (MemberDeclaration 1 (Then NoTrees (OfSpecifier (Keyword 1 word.Int))) (Then NoTrees (OfDeclarator (DeclaredName 1 1)))))) (OfDeclaration (MemberDeclaration 1 (Then NoTrees (OfSpecifier (Keyword 1 word.Char))) (Then NoTrees (OfDeclarator (Array 1 (DeclaredName 1 2) (Present (OfExpression (Number 1 7 true false 0)))))))))))) (Then NoTrees (OfDeclaration (InitDeclarator 1 (DeclaredName 1 7) Absent)))) ∷ []) ≡ Accepted ((Some (24, 8)) ∷ (Some (8, 4)) ∷ []))
    -- struct s { int a; int a; };
    × (judged ((115 ∷ []) ∷ (97 ∷ []) ∷ []) ((Declaration 1 (Then NoTrees (OfSpecifier (Composite 1 word.Struct (Some 0) (Then (Then NoTrees (OfDeclaration (MemberDeclaration 1 (Then NoTrees (OfSpecifier (Keyword 1 word.Int))) (Then NoTrees (OfDeclarator (DeclaredName 1 1)))))) (OfDeclaration (MemberDeclaration 1 (Then NoTrees (OfSpecifier (Keyword 1 word.Int))) (Then NoTrees (OfDeclarator (DeclaredName 1 1))))))))) NoTrees) ∷ []) ≡ Refused 0)
    -- struct s { int a[]; };
    × (judged ((115 ∷ []) ∷ (97 ∷ []) ∷ []) ((Declaration 1 (Then NoTrees (OfSpecifier (Composite 1 word.Struct (Some 0) (Then NoTrees (OfDeclaration (MemberDeclaration 1 (Then NoTrees (OfSpecifier (Keyword 1 word.Int))) (Then NoTrees (OfDeclarator (Array 1 (DeclaredName 1 1) Absent))))))))) NoTrees) ∷ []) ≡ Refused 0)
    -- struct s { int f(void); };
    × (judged ((115 ∷ []) ∷ (102 ∷ []) ∷ []) ((Declaration 1 (Then NoTrees (OfSpecifier (Composite 1 word.Struct (Some 0) (Then NoTrees (OfDeclaration (MemberDeclaration 1 (Then NoTrees (OfSpecifier (Keyword 1 word.Int))) (Then NoTrees (OfDeclarator (FunctionDeclarator 1 (DeclaredName 1 1) (Then NoTrees (OfDeclaration (Parameter 1 (Then NoTrees (OfSpecifier (Keyword 1 word.Void))) Absent))) false))))))))) NoTrees) ∷ []) ≡ Refused 0)
    -- union u { char a; long b; } x[2]; struct v { union u a; char c; } y;
    × (judged ((117 ∷ []) ∷ (97 ∷ []) ∷ (98 ∷ []) ∷ (120 ∷ []) ∷ (118 ∷ []) ∷ (99 ∷ []) ∷ (121 ∷ []) ∷ []) ((Declaration 1 (Then NoTrees (OfSpecifier (Composite 1 word.Union (Some 0) (Then (Then NoTrees (OfDeclaration (MemberDeclaration 1 (Then NoTrees (OfSpecifier (Keyword 1 word.Char))) (Then NoTrees (OfDeclarator (DeclaredName 1 1)))))) (OfDeclaration (MemberDeclaration 1 (Then NoTrees (OfSpecifier (Keyword 1 word.Long))) (Then NoTrees (OfDeclarator (DeclaredName 1 2))))))))) (Then NoTrees (OfDeclaration (InitDeclarator 1 (Array 1 (DeclaredName 1 3) (Present (OfExpression (Number 1 2 true false 0)))) Absent)))) ∷ (Declaration 1 (Then NoTrees (OfSpecifier (Composite 1 word.Struct (Some 4) (Then (Then NoTrees (OfDeclaration (MemberDeclaration 1 (Then NoTrees (OfSpecifier (Tag 1 word.Union 0))) (Then NoTrees (OfDeclarator (DeclaredName 1 1)))))) (OfDeclaration (MemberDeclaration 1 (Then NoTrees (OfSpecifier (Keyword 1 word.Char))) (Then NoTrees (OfDeclarator (DeclaredName 1 5))))))))) (Then NoTrees (OfDeclaration (InitDeclarator 1 (DeclaredName 1 6) Absent)))) ∷ []) ≡ Accepted ((Some (16, 8)) ∷ (Some (16, 8)) ∷ []))
    -- struct s { static int a; };
    × (judged ((115 ∷ []) ∷ (97 ∷ []) ∷ []) ((Declaration 1 (Then NoTrees (OfSpecifier (Composite 1 word.Struct (Some 0) (Then NoTrees (OfDeclaration (MemberDeclaration 1 (Then (Then NoTrees (OfSpecifier (Keyword 1 word.Static))) (OfSpecifier (Keyword 1 word.Int))) (Then NoTrees (OfDeclarator (DeclaredName 1 1))))))))) NoTrees) ∷ []) ≡ Refused 0)
    -- struct s { int a, *b, c[3]; } x;
    × (judged ((115 ∷ []) ∷ (97 ∷ []) ∷ (98 ∷ []) ∷ (99 ∷ []) ∷ (120 ∷ []) ∷ []) ((Declaration 1 (Then NoTrees (OfSpecifier (Composite 1 word.Struct (Some 0) (Then NoTrees (OfDeclaration (MemberDeclaration 1 (Then NoTrees (OfSpecifier (Keyword 1 word.Int))) (Then (Then (Then NoTrees (OfDeclarator (DeclaredName 1 1))) (OfDeclarator (Pointer 1 0 (DeclaredName 1 2)))) (OfDeclarator (Array 1 (DeclaredName 1 3) (Present (OfExpression (Number 1 3 true false 0)))))))))))) (Then NoTrees (OfDeclaration (InitDeclarator 1 (DeclaredName 1 4) Absent)))) ∷ []) ≡ Accepted ((Some (32, 8)) ∷ []))
    -- struct s { void a; };
    × (judged ((115 ∷ []) ∷ (97 ∷ []) ∷ []) ((Declaration 1 (Then NoTrees (OfSpecifier (Composite 1 word.Struct (Some 0) (Then NoTrees (OfDeclaration (MemberDeclaration 1 (Then NoTrees (OfSpecifier (Keyword 1 word.Void))) (Then NoTrees (OfDeclarator (DeclaredName 1 1))))))))) NoTrees) ∷ []) ≡ Refused 0)
    -- struct s { char a[sizeof(struct s *)]; } b;
    × (judged ((115 ∷ []) ∷ (97 ∷ []) ∷ (98 ∷ []) ∷ []) ((Declaration 1 (Then NoTrees (OfSpecifier (Composite 1 word.Struct (Some 0) (Then NoTrees (OfDeclaration (MemberDeclaration 1 (Then NoTrees (OfSpecifier (Keyword 1 word.Char))) (Then NoTrees (OfDeclarator (Array 1 (DeclaredName 1 1) (Present (OfExpression (SizeofType 1 (TypeName 1 (Then NoTrees (OfSpecifier (Tag 1 word.Struct 0))) (Present (OfDeclarator (AbstractPointer 1 0 Absent)))))))))))))))) (Then NoTrees (OfDeclaration (InitDeclarator 1 (DeclaredName 1 2) Absent)))) ∷ []) ≡ Accepted ((Some (8, 1)) ∷ []))
    -- struct s { char a[sizeof(struct s)]; } b;
    × (judged ((115 ∷ []) ∷ (97 ∷ []) ∷ (98 ∷ []) ∷ []) ((Declaration 1 (Then NoTrees (OfSpecifier (Composite 1 word.Struct (Some 0) (Then NoTrees (OfDeclaration (MemberDeclaration 1 (Then NoTrees (OfSpecifier (Keyword 1 word.Char))) (Then NoTrees (OfDeclarator (Array 1 (DeclaredName 1 1) (Present (OfExpression (SizeofType 1 (TypeName 1 (Then NoTrees (OfSpecifier (Tag 1 word.Struct 0))) Absent))))))))))))) (Then NoTrees (OfDeclaration (InitDeclarator 1 (DeclaredName 1 2) Absent)))) ∷ []) ≡ Refused 0)
unfolding type_of_words library_named are_compatible layouts_of initialized_object values
members = (refl, refl, refl, refl, refl, refl, refl, refl, refl, refl)

-- 6.7.2.3: tags of structures and unions, and where they are complete
tags :
    -- struct s { int a; }; struct s { int a; };
    (judged ((115 ∷ []) ∷ (97 ∷ []) ∷ []) ((Declaration 1 (Then NoTrees (OfSpecifier (Composite 1 word.Struct (Some 0) (Then NoTrees (OfDeclaration (MemberDeclaration 1 (Then NoTrees (OfSpecifier (Keyword 1 word.Int))) (Then NoTrees (OfDeclarator (DeclaredName 1 1))))))))) NoTrees) ∷ (Declaration 1 (Then NoTrees (OfSpecifier (Composite 1 word.Struct (Some 0) (Then NoTrees (OfDeclaration (MemberDeclaration 1 (Then NoTrees (OfSpecifier (Keyword 1 word.Int))) (Then NoTrees (OfDeclarator (DeclaredName 1 1))))))))) NoTrees) ∷ []) ≡ Refused 1)
    -- struct s { struct s *next; int v; } x;
    × (judged ((115 ∷ []) ∷ (110 ∷ 101 ∷ 120 ∷ 116 ∷ []) ∷ (118 ∷ []) ∷ (120 ∷ []) ∷ []) ((Declaration 1 (Then NoTrees (OfSpecifier (Composite 1 word.Struct (Some 0) (Then (Then NoTrees (OfDeclaration (MemberDeclaration 1 (Then NoTrees (OfSpecifier (Tag 1 word.Struct 0))) (Then NoTrees (OfDeclarator (Pointer 1 0 (DeclaredName 1 1))))))) (OfDeclaration (MemberDeclaration 1 (Then NoTrees (OfSpecifier (Keyword 1 word.Int))) (Then NoTrees (OfDeclarator (DeclaredName 1 2))))))))) (Then NoTrees (OfDeclaration (InitDeclarator 1 (DeclaredName 1 3) Absent)))) ∷ []) ≡ Accepted ((Some (16, 8)) ∷ []))
    -- struct s { struct s a; };
    × (judged ((115 ∷ []) ∷ (97 ∷ []) ∷ []) ((Declaration 1 (Then NoTrees (OfSpecifier (Composite 1 word.Struct (Some 0) (Then NoTrees (OfDeclaration (MemberDeclaration 1 (Then NoTrees (OfSpecifier (Tag 1 word.Struct 0))) (Then NoTrees (OfDeclarator (DeclaredName 1 1))))))))) NoTrees) ∷ []) ≡ Refused 0)
    -- struct s { struct t { int x; } a; } b; struct t c;
    × (judged ((115 ∷ []) ∷ (116 ∷ []) ∷ (120 ∷ []) ∷ (97 ∷ []) ∷ (98 ∷ []) ∷ (99 ∷ []) ∷ []) ((Declaration 1 (Then NoTrees (OfSpecifier (Composite 1 word.Struct (Some 0) (Then NoTrees (OfDeclaration (MemberDeclaration 1 (Then NoTrees (OfSpecifier (Composite 1 word.Struct (Some 1) (Then NoTrees (OfDeclaration (MemberDeclaration 1 (Then NoTrees (OfSpecifier (Keyword 1 word.Int))) (Then NoTrees (OfDeclarator (DeclaredName 1 2))))))))) (Then NoTrees (OfDeclarator (DeclaredName 1 3))))))))) (Then NoTrees (OfDeclaration (InitDeclarator 1 (DeclaredName 1 4) Absent)))) ∷ (Declaration 1 (Then NoTrees (OfSpecifier (Tag 1 word.Struct 1))) (Then NoTrees (OfDeclaration (InitDeclarator 1 (DeclaredName 1 5) Absent)))) ∷ []) ≡ Accepted ((Some (4, 4)) ∷ (Some (4, 4)) ∷ []))
    -- struct s { struct s { int x; } y; };
    × (judged ((115 ∷ []) ∷ (120 ∷ []) ∷ (121 ∷ []) ∷ []) ((Declaration 1 (Then NoTrees (OfSpecifier (Composite 1 word.Struct (Some 0) (Then NoTrees (OfDeclaration (MemberDeclaration 1 (Then NoTrees (OfSpecifier (Composite 1 word.Struct (Some 0) (Then NoTrees (OfDeclaration (MemberDeclaration 1 (Then NoTrees (OfSpecifier (Keyword 1 word.Int))) (Then NoTrees (OfDeclarator (DeclaredName 1 1))))))))) (Then NoTrees (OfDeclarator (DeclaredName 1 2))))))))) NoTrees) ∷ []) ≡ Refused 0)
    -- struct s; union s;
    × (judged ((115 ∷ []) ∷ []) ((Declaration 1 (Then NoTrees (OfSpecifier (Tag 1 word.Struct 0))) NoTrees) ∷ (Declaration 1 (Then NoTrees (OfSpecifier (Tag 1 word.Union 0))) NoTrees) ∷ []) ≡ Refused 1)
    -- struct s; struct s *p; struct s { char c; }; struct s a;
    × (judged ((115 ∷ []) ∷ (112 ∷ []) ∷ (99 ∷ []) ∷ (97 ∷ []) ∷ []) ((Declaration 1 (Then NoTrees (OfSpecifier (Tag 1 word.Struct 0))) NoTrees) ∷ (Declaration 1 (Then NoTrees (OfSpecifier (Tag 1 word.Struct 0))) (Then NoTrees (OfDeclaration (InitDeclarator 1 (Pointer 1 0 (DeclaredName 1 1)) Absent)))) ∷ (Declaration 1 (Then NoTrees (OfSpecifier (Composite 1 word.Struct (Some 0) (Then NoTrees (OfDeclaration (MemberDeclaration 1 (Then NoTrees (OfSpecifier (Keyword 1 word.Char))) (Then NoTrees (OfDeclarator (DeclaredName 1 2))))))))) NoTrees) ∷ (Declaration 1 (Then NoTrees (OfSpecifier (Tag 1 word.Struct 0))) (Then NoTrees (OfDeclaration (InitDeclarator 1 (DeclaredName 1 3) Absent)))) ∷ []) ≡ Accepted ((Some (8, 8)) ∷ (Some (1, 1)) ∷ []))
    -- struct { int a; };
    × (judged ((97 ∷ []) ∷ []) ((Declaration 1 (Then NoTrees (OfSpecifier (Composite 1 word.Struct None (Then NoTrees (OfDeclaration (MemberDeclaration 1 (Then NoTrees (OfSpecifier (Keyword 1 word.Int))) (Then NoTrees (OfDeclarator (DeclaredName 1 0))))))))) NoTrees) ∷ []) ≡ Refused 0)
    -- struct { struct t { int x; } a; };
    × (judged ((116 ∷ []) ∷ (120 ∷ []) ∷ (97 ∷ []) ∷ []) ((Declaration 1 (Then NoTrees (OfSpecifier (Composite 1 word.Struct None (Then NoTrees (OfDeclaration (MemberDeclaration 1 (Then NoTrees (OfSpecifier (Composite 1 word.Struct (Some 0) (Then NoTrees (OfDeclaration (MemberDeclaration 1 (Then NoTrees (OfSpecifier (Keyword 1 word.Int))) (Then NoTrees (OfDeclarator (DeclaredName 1 1))))))))) (Then NoTrees (OfDeclarator (DeclaredName 1 2))))))))) NoTrees) ∷ []) ≡ Accepted ([]))
    -- int;
    × (judged ([]) ((Declaration 1 (Then NoTrees (OfSpecifier (Keyword 1 word.Int))) NoTrees) ∷ []) ≡ Refused 0)
    -- struct s;
    × (judged ((115 ∷ []) ∷ []) ((Declaration 1 (Then NoTrees (OfSpecifier (Tag 1 word.Struct 0))) NoTrees) ∷ []) ≡ Accepted ([]))
    -- const struct s;
    × (judged ((115 ∷ []) ∷ []) ((Declaration 1 (Then (Then NoTrees (OfSpecifier (Keyword 1 word.Const))) (OfSpecifier (Tag 1 word.Struct 0))) NoTrees) ∷ []) ≡ Accepted ([]))
    -- struct s { int a; }; const struct s;
    × (judged ((115 ∷ []) ∷ (97 ∷ []) ∷ []) ((Declaration 1 (Then NoTrees (OfSpecifier (Composite 1 word.Struct (Some 0) (Then NoTrees (OfDeclaration (MemberDeclaration 1 (Then NoTrees (OfSpecifier (Keyword 1 word.Int))) (Then NoTrees (OfDeclarator (DeclaredName 1 1))))))))) NoTrees) ∷ (Declaration 1 (Then (Then NoTrees (OfSpecifier (Keyword 1 word.Const))) (OfSpecifier (Tag 1 word.Struct 0))) NoTrees) ∷ []) ≡ Refused 1)
    -- static struct s { int a; };
    × (judged ((115 ∷ []) ∷ (97 ∷ []) ∷ []) ((Declaration 1 (Then (Then NoTrees (OfSpecifier (Keyword 1 word.Static))) (OfSpecifier (Composite 1 word.Struct (Some 0) (Then NoTrees (OfDeclaration (MemberDeclaration 1 (Then NoTrees (OfSpecifier (Keyword 1 word.Int))) (Then NoTrees (OfDeclarator (DeclaredName 1 1))))))))) NoTrees) ∷ []) ≡ Accepted ([]))
    -- struct s { int a; } b; struct s { int a; } c;
    × (judged ((115 ∷ []) ∷ (97 ∷ []) ∷ (98 ∷ []) ∷ (99 ∷ []) ∷ []) ((Declaration 1 (Then NoTrees (OfSpecifier (Composite 1 word.Struct (Some 0) (Then NoTrees (OfDeclaration (MemberDeclaration 1 (Then NoTrees (OfSpecifier (Keyword 1 word.Int))) (Then NoTrees (OfDeclarator (DeclaredName 1 1))))))))) (Then NoTrees (OfDeclaration (InitDeclarator 1 (DeclaredName 1 2) Absent)))) ∷ (Declaration 1 (Then NoTrees (OfSpecifier (Composite 1 word.Struct (Some 0) (Then NoTrees (OfDeclaration (MemberDeclaration 1 (Then NoTrees (OfSpecifier (Keyword 1 word.Int))) (Then NoTrees (OfDeclarator (DeclaredName 1 1))))))))) (Then NoTrees (OfDeclaration (InitDeclarator 1 (DeclaredName 1 3) Absent)))) ∷ []) ≡ Refused 1)
    -- union s { int a; } b; struct s c;
    × (judged ((115 ∷ []) ∷ (97 ∷ []) ∷ (98 ∷ []) ∷ (99 ∷ []) ∷ []) ((Declaration 1 (Then NoTrees (OfSpecifier (Composite 1 word.Union (Some 0) (Then NoTrees (OfDeclaration (MemberDeclaration 1 (Then NoTrees (OfSpecifier (Keyword 1 word.Int))) (Then NoTrees (OfDeclarator (DeclaredName 1 1))))))))) (Then NoTrees (OfDeclaration (InitDeclarator 1 (DeclaredName 1 2) Absent)))) ∷ (Declaration 1 (Then NoTrees (OfSpecifier (Tag 1 word.Struct 0))) (Then NoTrees (OfDeclaration (InitDeclarator 1 (DeclaredName 1 3) Absent)))) ∷ []) ≡ Refused 1)
    -- extern struct s x; struct s { int a; };
    × (judged ((115 ∷ []) ∷ (120 ∷ []) ∷ (97 ∷ []) ∷ []) ((Declaration 1 (Then (Then NoTrees (OfSpecifier (Keyword 1 word.Extern))) (OfSpecifier (Tag 1 word.Struct 0))) (Then NoTrees (OfDeclaration (InitDeclarator 1 (DeclaredName 1 1) Absent)))) ∷ (Declaration 1 (Then NoTrees (OfSpecifier (Composite 1 word.Struct (Some 0) (Then NoTrees (OfDeclaration (MemberDeclaration 1 (Then NoTrees (OfSpecifier (Keyword 1 word.Int))) (Then NoTrees (OfDeclarator (DeclaredName 1 2))))))))) NoTrees) ∷ []) ≡ Accepted ((Some (4, 4)) ∷ []))
    -- extern struct s x;
    × (judged ((115 ∷ []) ∷ (120 ∷ []) ∷ []) ((Declaration 1 (Then (Then NoTrees (OfSpecifier (Keyword 1 word.Extern))) (OfSpecifier (Tag 1 word.Struct 0))) (Then NoTrees (OfDeclaration (InitDeclarator 1 (DeclaredName 1 1) Absent)))) ∷ []) ≡ Accepted (None ∷ []))
    -- struct s x;
    × (judged ((115 ∷ []) ∷ (120 ∷ []) ∷ []) ((Declaration 1 (Then NoTrees (OfSpecifier (Tag 1 word.Struct 0))) (Then NoTrees (OfDeclaration (InitDeclarator 1 (DeclaredName 1 1) Absent)))) ∷ []) ≡ Refused 0)
    -- static struct s x;
    × (judged ((115 ∷ []) ∷ (120 ∷ []) ∷ []) ((Declaration 1 (Then (Then NoTrees (OfSpecifier (Keyword 1 word.Static))) (OfSpecifier (Tag 1 word.Struct 0))) (Then NoTrees (OfDeclaration (InitDeclarator 1 (DeclaredName 1 1) Absent)))) ∷ []) ≡ Refused 0)
    -- typedef struct s t; t *p; struct s { t *n; }; t x;
    × (judged ((115 ∷ []) ∷ (116 ∷ []) ∷ (112 ∷ []) ∷ (110 ∷ []) ∷ (120 ∷ []) ∷ []) ((Declaration 1 (Then (Then NoTrees (OfSpecifier (Keyword 1 word.Typedef))) (OfSpecifier (Tag 1 word.Struct 0))) (Then NoTrees (OfDeclaration (InitDeclarator 1 (DeclaredName 1 1) Absent)))) ∷ (Declaration 1 (Then NoTrees (OfSpecifier (TypedefName 1 1))) (Then NoTrees (OfDeclaration (InitDeclarator 1 (Pointer 1 0 (DeclaredName 1 2)) Absent)))) ∷ (Declaration 1 (Then NoTrees (OfSpecifier (Composite 1 word.Struct (Some 0) (Then NoTrees (OfDeclaration (MemberDeclaration 1 (Then NoTrees (OfSpecifier (TypedefName 1 1))) (Then NoTrees (OfDeclarator (Pointer 1 0 (DeclaredName 1 3)))))))))) NoTrees) ∷ (Declaration 1 (Then NoTrees (OfSpecifier (TypedefName 1 1))) (Then NoTrees (OfDeclaration (InitDeclarator 1 (DeclaredName 1 4) Absent)))) ∷ []) ≡ Accepted ((Some (8, 8)) ∷ (Some (8, 8)) ∷ []))
    -- struct s; struct s a[sizeof(struct s { int x; })];
    × (judged ((115 ∷ []) ∷ (97 ∷ []) ∷ (120 ∷ []) ∷ []) ((Declaration 1 (Then NoTrees (OfSpecifier (Tag 1 word.Struct 0))) NoTrees) ∷ (Declaration 1 (Then NoTrees (OfSpecifier (Tag 1 word.Struct 0))) (Then NoTrees (OfDeclaration (InitDeclarator 1 (Array 1 (DeclaredName 1 1) (Present (OfExpression (SizeofType 1 (TypeName 1 (Then NoTrees (OfSpecifier (Composite 1 word.Struct (Some 0) (Then NoTrees (OfDeclaration (MemberDeclaration 1 (Then NoTrees (OfSpecifier (Keyword 1 word.Int))) (Then NoTrees (OfDeclarator (DeclaredName 1 2))))))))) Absent))))) Absent)))) ∷ []) ≡ Accepted ((Some (16, 4)) ∷ []))
    -- const struct s; struct s *p;
    × (judged ((115 ∷ []) ∷ (112 ∷ []) ∷ []) ((Declaration 1 (Then (Then NoTrees (OfSpecifier (Keyword 1 word.Const))) (OfSpecifier (Tag 1 word.Struct 0))) NoTrees) ∷ (Declaration 1 (Then NoTrees (OfSpecifier (Tag 1 word.Struct 0))) (Then NoTrees (OfDeclaration (InitDeclarator 1 (Pointer 1 0 (DeclaredName 1 1)) Absent)))) ∷ []) ≡ Accepted ((Some (8, 8)) ∷ []))
    -- struct { struct t { int x; } a; }; struct t b;
    × (judged ((116 ∷ []) ∷ (120 ∷ []) ∷ (97 ∷ []) ∷ (98 ∷ []) ∷ []) ((Declaration 1 (Then NoTrees (OfSpecifier (Composite 1 word.Struct None (Then NoTrees (OfDeclaration (MemberDeclaration 1 (Then NoTrees (OfSpecifier (Composite 1 word.Struct (Some 0) (Then NoTrees (OfDeclaration (MemberDeclaration 1 (Then NoTrees (OfSpecifier (Keyword 1 word.Int))) (Then NoTrees (OfDeclarator (DeclaredName 1 1))))))))) (Then NoTrees (OfDeclarator (DeclaredName 1 2))))))))) NoTrees) ∷ (Declaration 1 (Then NoTrees (OfSpecifier (Tag 1 word.Struct 0))) (Then NoTrees (OfDeclaration (InitDeclarator 1 (DeclaredName 1 3) Absent)))) ∷ []) ≡ Accepted ((Some (4, 4)) ∷ []))
unfolding type_of_words library_named are_compatible layouts_of initialized_object values
tags = (refl, refl, refl, refl, refl, refl, refl, refl, refl, refl, refl, refl, refl, refl, refl, refl, refl, refl, refl, refl, refl, refl, refl, refl)

-- 6.7.8p3, 6.7p3: typedef names
typedef_names :
    -- typedef struct s { int a; } t; t x; struct s x;
    (judged ((115 ∷ []) ∷ (97 ∷ []) ∷ (116 ∷ []) ∷ (120 ∷ []) ∷ []) ((Declaration 1 (Then (Then NoTrees (OfSpecifier (Keyword 1 word.Typedef))) (OfSpecifier (Composite 1 word.Struct (Some 0) (Then NoTrees (OfDeclaration (MemberDeclaration 1 (Then NoTrees (OfSpecifier (Keyword 1 word.Int))) (Then NoTrees (OfDeclarator (DeclaredName 1 1))))))))) (Then NoTrees (OfDeclaration (InitDeclarator 1 (DeclaredName 1 2) Absent)))) ∷ (Declaration 1 (Then NoTrees (OfSpecifier (TypedefName 1 2))) (Then NoTrees (OfDeclaration (InitDeclarator 1 (DeclaredName 1 3) Absent)))) ∷ (Declaration 1 (Then NoTrees (OfSpecifier (Tag 1 word.Struct 0))) (Then NoTrees (OfDeclaration (InitDeclarator 1 (DeclaredName 1 3) Absent)))) ∷ []) ≡ Accepted ((Some (4, 4)) ∷ []))
    -- typedef int t; typedef int t; t x;
    × (judged ((116 ∷ []) ∷ (120 ∷ []) ∷ []) ((Declaration 1 (Then (Then NoTrees (OfSpecifier (Keyword 1 word.Typedef))) (OfSpecifier (Keyword 1 word.Int))) (Then NoTrees (OfDeclaration (InitDeclarator 1 (DeclaredName 1 0) Absent)))) ∷ (Declaration 1 (Then (Then (Then NoTrees (OfSpecifier (Keyword 1 word.Typedef))) (OfSpecifier (Keyword 1 word.Int))) (OfSpecifier (TypedefName 1 0))) NoTrees) ∷ (Declaration 1 (Then NoTrees (OfSpecifier (TypedefName 1 0))) (Then NoTrees (OfDeclaration (InitDeclarator 1 (DeclaredName 1 1) Absent)))) ∷ []) ≡ Refused 1)
    -- typedef int t; typedef long t;
    × (judged ((116 ∷ []) ∷ []) ((Declaration 1 (Then (Then NoTrees (OfSpecifier (Keyword 1 word.Typedef))) (OfSpecifier (Keyword 1 word.Int))) (Then NoTrees (OfDeclaration (InitDeclarator 1 (DeclaredName 1 0) Absent)))) ∷ (Declaration 1 (Then (Then (Then NoTrees (OfSpecifier (Keyword 1 word.Typedef))) (OfSpecifier (Keyword 1 word.Long))) (OfSpecifier (TypedefName 1 0))) NoTrees) ∷ []) ≡ Refused 1)
    -- typedef int t, t;
    × (judged ((116 ∷ []) ∷ []) ((Declaration 1 (Then (Then NoTrees (OfSpecifier (Keyword 1 word.Typedef))) (OfSpecifier (Keyword 1 word.Int))) (Then (Then NoTrees (OfDeclaration (InitDeclarator 1 (DeclaredName 1 0) Absent))) (OfDeclaration (InitDeclarator 1 (DeclaredName 1 0) Absent)))) ∷ []) ≡ Accepted ([]))
    -- typedef int t[]; t a = {1};
    × (judged ((116 ∷ []) ∷ (97 ∷ []) ∷ []) ((Declaration 1 (Then (Then NoTrees (OfSpecifier (Keyword 1 word.Typedef))) (OfSpecifier (Keyword 1 word.Int))) (Then NoTrees (OfDeclaration (InitDeclarator 1 (Array 1 (DeclaredName 1 0) Absent) Absent)))) ∷ (Declaration 1 (Then NoTrees (OfSpecifier (TypedefName 1 0))) (Then NoTrees (OfDeclaration (InitDeclarator 1 (DeclaredName 1 1) (Present (OfInitializer (Braces 1 (Then NoTrees (OfInitializer (Initial 1 (Number 1 1 true false 0)))) false))))))) ∷ []) ≡ Refused 1)
    -- typedef int t; int f(void) { enum t { A } a; struct s { int x; } b; }
    × (judged ((116 ∷ []) ∷ (102 ∷ []) ∷ (65 ∷ []) ∷ (97 ∷ []) ∷ (115 ∷ []) ∷ (120 ∷ []) ∷ (98 ∷ []) ∷ []) ((Declaration 1 (Then (Then NoTrees (OfSpecifier (Keyword 1 word.Typedef))) (OfSpecifier (Keyword 1 word.Int))) (Then NoTrees (OfDeclaration (InitDeclarator 1 (DeclaredName 1 0) Absent)))) ∷ (Function 1 (Then NoTrees (OfSpecifier (Keyword 1 word.Int))) (FunctionDeclarator 1 (DeclaredName 1 1) (Then NoTrees (OfDeclaration (Parameter 1 (Then NoTrees (OfSpecifier (Keyword 1 word.Void))) Absent))) false) (Block 1 (Then (Then NoTrees (OfDeclaration (Declaration 1 (Then NoTrees (OfSpecifier (Enumeration 1 (Some 0) (Then NoTrees (OfDeclaration (Enumerator 1 2 Absent))) false))) (Then NoTrees (OfDeclaration (InitDeclarator 1 (DeclaredName 1 3) Absent)))))) (OfDeclaration (Declaration 1 (Then NoTrees (OfSpecifier (Composite 1 word.Struct (Some 4) (Then NoTrees (OfDeclaration (MemberDeclaration 1 (Then NoTrees (OfSpecifier (Keyword 1 word.Int))) (Then NoTrees (OfDeclarator (DeclaredName 1 5))))))))) (Then NoTrees (OfDeclaration (InitDeclarator 1 (DeclaredName 1 6) Absent)))))))) ∷ []) ≡ Accepted ((Some (4, 4)) ∷ (Some (4, 4)) ∷ []))
    -- typedef int t[]; t a = {1}, b = {1, 2, 3};
    × (judged ((116 ∷ []) ∷ (97 ∷ []) ∷ (98 ∷ []) ∷ []) ((Declaration 1 (Then (Then NoTrees (OfSpecifier (Keyword 1 word.Typedef))) (OfSpecifier (Keyword 1 word.Int))) (Then NoTrees (OfDeclaration (InitDeclarator 1 (Array 1 (DeclaredName 1 0) Absent) Absent)))) ∷ (Declaration 1 (Then NoTrees (OfSpecifier (TypedefName 1 0))) (Then (Then NoTrees (OfDeclaration (InitDeclarator 1 (DeclaredName 1 1) (Present (OfInitializer (Braces 1 (Then NoTrees (OfInitializer (Initial 1 (Number 1 1 true false 0)))) false)))))) (OfDeclaration (InitDeclarator 1 (DeclaredName 1 2) (Present (OfInitializer (Braces 1 (Then (Then (Then NoTrees (OfInitializer (Initial 1 (Number 1 1 true false 0)))) (OfInitializer (Initial 1 (Number 1 2 true false 0)))) (OfInitializer (Initial 1 (Number 1 3 true false 0)))) false))))))) ∷ []) ≡ Refused 1)
unfolding type_of_words library_named are_compatible layouts_of initialized_object values
typedef_names = (refl, refl, refl, refl, refl, refl, refl)

-- 6.7.2.2: enumerators and tags of enumerations
enumerations :
    -- enum e { A, B, C = 7, D } x; int a[D]; int b[B];
    (judged ((101 ∷ []) ∷ (65 ∷ []) ∷ (66 ∷ []) ∷ (67 ∷ []) ∷ (68 ∷ []) ∷ (120 ∷ []) ∷ (97 ∷ []) ∷ (98 ∷ []) ∷ []) ((Declaration 1 (Then NoTrees (OfSpecifier (Enumeration 1 (Some 0) (Then (Then (Then (Then NoTrees (OfDeclaration (Enumerator 1 1 Absent))) (OfDeclaration (Enumerator 1 2 Absent))) (OfDeclaration (Enumerator 1 3 (Present (OfExpression (Number 1 7 true false 0)))))) (OfDeclaration (Enumerator 1 4 Absent))) false))) (Then NoTrees (OfDeclaration (InitDeclarator 1 (DeclaredName 1 5) Absent)))) ∷ (Declaration 1 (Then NoTrees (OfSpecifier (Keyword 1 word.Int))) (Then NoTrees (OfDeclaration (InitDeclarator 1 (Array 1 (DeclaredName 1 6) (Present (OfExpression (Name 1 4)))) Absent)))) ∷ (Declaration 1 (Then NoTrees (OfSpecifier (Keyword 1 word.Int))) (Then NoTrees (OfDeclaration (InitDeclarator 1 (Array 1 (DeclaredName 1 7) (Present (OfExpression (Name 1 2)))) Absent)))) ∷ []) ≡ Accepted ((Some (4, 4)) ∷ (Some (32, 4)) ∷ (Some (4, 4)) ∷ []))
    -- enum e { A }; enum e x;
    × (judged ((101 ∷ []) ∷ (65 ∷ []) ∷ (120 ∷ []) ∷ []) ((Declaration 1 (Then NoTrees (OfSpecifier (Enumeration 1 (Some 0) (Then NoTrees (OfDeclaration (Enumerator 1 1 Absent))) false))) NoTrees) ∷ (Declaration 1 (Then NoTrees (OfSpecifier (Tag 1 word.Enum 0))) (Then NoTrees (OfDeclaration (InitDeclarator 1 (DeclaredName 1 2) Absent)))) ∷ []) ≡ Accepted ((Some (4, 4)) ∷ []))
    -- enum e x;
    × (judged ((101 ∷ []) ∷ (120 ∷ []) ∷ []) ((Declaration 1 (Then NoTrees (OfSpecifier (Tag 1 word.Enum 0))) (Then NoTrees (OfDeclaration (InitDeclarator 1 (DeclaredName 1 1) Absent)))) ∷ []) ≡ Refused 0)
    -- enum e;
    × (judged ((101 ∷ []) ∷ []) ((Declaration 1 (Then NoTrees (OfSpecifier (Tag 1 word.Enum 0))) NoTrees) ∷ []) ≡ Refused 0)
    -- enum e { A }; enum e { B };
    × (judged ((101 ∷ []) ∷ (65 ∷ []) ∷ (66 ∷ []) ∷ []) ((Declaration 1 (Then NoTrees (OfSpecifier (Enumeration 1 (Some 0) (Then NoTrees (OfDeclaration (Enumerator 1 1 Absent))) false))) NoTrees) ∷ (Declaration 1 (Then NoTrees (OfSpecifier (Enumeration 1 (Some 0) (Then NoTrees (OfDeclaration (Enumerator 1 2 Absent))) false))) NoTrees) ∷ []) ≡ Refused 1)
    -- enum e { A }; struct e x;
    × (judged ((101 ∷ []) ∷ (65 ∷ []) ∷ (120 ∷ []) ∷ []) ((Declaration 1 (Then NoTrees (OfSpecifier (Enumeration 1 (Some 0) (Then NoTrees (OfDeclaration (Enumerator 1 1 Absent))) false))) NoTrees) ∷ (Declaration 1 (Then NoTrees (OfSpecifier (Tag 1 word.Struct 0))) (Then NoTrees (OfDeclaration (InitDeclarator 1 (DeclaredName 1 2) Absent)))) ∷ []) ≡ Refused 1)
    -- enum { A, A };
    × (judged ((65 ∷ []) ∷ []) ((Declaration 1 (Then NoTrees (OfSpecifier (Enumeration 1 None (Then (Then NoTrees (OfDeclaration (Enumerator 1 0 Absent))) (OfDeclaration (Enumerator 1 0 Absent))) false))) NoTrees) ∷ []) ≡ Refused 0)
    -- enum { A }; int A;
    × (judged ((65 ∷ []) ∷ []) ((Declaration 1 (Then NoTrees (OfSpecifier (Enumeration 1 None (Then NoTrees (OfDeclaration (Enumerator 1 0 Absent))) false))) NoTrees) ∷ (Declaration 1 (Then NoTrees (OfSpecifier (Keyword 1 word.Int))) (Then NoTrees (OfDeclaration (InitDeclarator 1 (DeclaredName 1 0) Absent)))) ∷ []) ≡ Refused 1)
    -- enum { A = 2147483647 };
    × (judged ((65 ∷ []) ∷ []) ((Declaration 1 (Then NoTrees (OfSpecifier (Enumeration 1 None (Then NoTrees (OfDeclaration (Enumerator 1 0 (Present (OfExpression (Number 1 2147483647 true false 0)))))) false))) NoTrees) ∷ []) ≡ Accepted ([]))
    -- enum { A = 2147483647, B };
    × (judged ((65 ∷ []) ∷ (66 ∷ []) ∷ []) ((Declaration 1 (Then NoTrees (OfSpecifier (Enumeration 1 None (Then (Then NoTrees (OfDeclaration (Enumerator 1 0 (Present (OfExpression (Number 1 2147483647 true false 0)))))) (OfDeclaration (Enumerator 1 1 Absent))) false))) NoTrees) ∷ []) ≡ Refused 0)
    -- enum { A = 2147483648 };
    × (judged ((65 ∷ []) ∷ []) ((Declaration 1 (Then NoTrees (OfSpecifier (Enumeration 1 None (Then NoTrees (OfDeclaration (Enumerator 1 0 (Present (OfExpression (Number 1 2147483648 true false 0)))))) false))) NoTrees) ∷ []) ≡ Refused 0)
    -- enum e { A = sizeof(enum e) };
    × (judged ((101 ∷ []) ∷ (65 ∷ []) ∷ []) ((Declaration 1 (Then NoTrees (OfSpecifier (Enumeration 1 (Some 0) (Then NoTrees (OfDeclaration (Enumerator 1 1 (Present (OfExpression (SizeofType 1 (TypeName 1 (Then NoTrees (OfSpecifier (Tag 1 word.Enum 0))) Absent))))))) false))) NoTrees) ∷ []) ≡ Refused 0)
    -- enum e { A }; int f(void) { enum e { B = sizeof(enum e) }; }
    × (judged ((101 ∷ []) ∷ (65 ∷ []) ∷ (102 ∷ []) ∷ (66 ∷ []) ∷ []) ((Declaration 1 (Then NoTrees (OfSpecifier (Enumeration 1 (Some 0) (Then NoTrees (OfDeclaration (Enumerator 1 1 Absent))) false))) NoTrees) ∷ (Function 1 (Then NoTrees (OfSpecifier (Keyword 1 word.Int))) (FunctionDeclarator 1 (DeclaredName 1 2) (Then NoTrees (OfDeclaration (Parameter 1 (Then NoTrees (OfSpecifier (Keyword 1 word.Void))) Absent))) false) (Block 1 (Then NoTrees (OfDeclaration (Declaration 1 (Then NoTrees (OfSpecifier (Enumeration 1 (Some 0) (Then NoTrees (OfDeclaration (Enumerator 1 3 (Present (OfExpression (SizeofType 1 (TypeName 1 (Then NoTrees (OfSpecifier (Tag 1 word.Enum 0))) Absent))))))) false))) NoTrees))))) ∷ []) ≡ Refused 1)
    -- enum { A = 3, B = A * A + 1 } x; int a[B];
    × (judged ((65 ∷ []) ∷ (66 ∷ []) ∷ (120 ∷ []) ∷ (97 ∷ []) ∷ []) ((Declaration 1 (Then NoTrees (OfSpecifier (Enumeration 1 None (Then (Then NoTrees (OfDeclaration (Enumerator 1 0 (Present (OfExpression (Number 1 3 true false 0)))))) (OfDeclaration (Enumerator 1 1 (Present (OfExpression (Binary 1 op.Add (Binary 1 op.Multiply (Name 1 0) (Name 1 0)) (Number 1 1 true false 0))))))) false))) (Then NoTrees (OfDeclaration (InitDeclarator 1 (DeclaredName 1 2) Absent)))) ∷ (Declaration 1 (Then NoTrees (OfSpecifier (Keyword 1 word.Int))) (Then NoTrees (OfDeclaration (InitDeclarator 1 (Array 1 (DeclaredName 1 3) (Present (OfExpression (Name 1 1)))) Absent)))) ∷ []) ≡ Accepted ((Some (4, 4)) ∷ (Some (40, 4)) ∷ []))
    -- enum { A = sizeof(enum { B = 4 }), C = B }; int a[C];
    × (judged ((65 ∷ []) ∷ (66 ∷ []) ∷ (67 ∷ []) ∷ (97 ∷ []) ∷ []) ((Declaration 1 (Then NoTrees (OfSpecifier (Enumeration 1 None (Then (Then NoTrees (OfDeclaration (Enumerator 1 0 (Present (OfExpression (SizeofType 1 (TypeName 1 (Then NoTrees (OfSpecifier (Enumeration 1 None (Then NoTrees (OfDeclaration (Enumerator 1 1 (Present (OfExpression (Number 1 4 true false 0)))))) false))) Absent))))))) (OfDeclaration (Enumerator 1 2 (Present (OfExpression (Name 1 1)))))) false))) NoTrees) ∷ (Declaration 1 (Then NoTrees (OfSpecifier (Keyword 1 word.Int))) (Then NoTrees (OfDeclaration (InitDeclarator 1 (Array 1 (DeclaredName 1 3) (Present (OfExpression (Name 1 2)))) Absent)))) ∷ []) ≡ Accepted ((Some (16, 4)) ∷ []))
    -- struct s { enum { A = 3 } x; int a[A]; } y; int b[A];
    × (judged ((115 ∷ []) ∷ (65 ∷ []) ∷ (120 ∷ []) ∷ (97 ∷ []) ∷ (121 ∷ []) ∷ (98 ∷ []) ∷ []) ((Declaration 1 (Then NoTrees (OfSpecifier (Composite 1 word.Struct (Some 0) (Then (Then NoTrees (OfDeclaration (MemberDeclaration 1 (Then NoTrees (OfSpecifier (Enumeration 1 None (Then NoTrees (OfDeclaration (Enumerator 1 1 (Present (OfExpression (Number 1 3 true false 0)))))) false))) (Then NoTrees (OfDeclarator (DeclaredName 1 2)))))) (OfDeclaration (MemberDeclaration 1 (Then NoTrees (OfSpecifier (Keyword 1 word.Int))) (Then NoTrees (OfDeclarator (Array 1 (DeclaredName 1 3) (Present (OfExpression (Name 1 1)))))))))))) (Then NoTrees (OfDeclaration (InitDeclarator 1 (DeclaredName 1 4) Absent)))) ∷ (Declaration 1 (Then NoTrees (OfSpecifier (Keyword 1 word.Int))) (Then NoTrees (OfDeclaration (InitDeclarator 1 (Array 1 (DeclaredName 1 5) (Present (OfExpression (Name 1 1)))) Absent)))) ∷ []) ≡ Accepted ((Some (16, 4)) ∷ (Some (12, 4)) ∷ []))
    -- enum e { A }; int f(void) { enum e { B = sizeof(enum e) }; }
    × (judged ((101 ∷ []) ∷ (65 ∷ []) ∷ (102 ∷ []) ∷ (66 ∷ []) ∷ []) ((Declaration 1 (Then NoTrees (OfSpecifier (Enumeration 1 (Some 0) (Then NoTrees (OfDeclaration (Enumerator 1 1 Absent))) false))) NoTrees) ∷ (Function 1 (Then NoTrees (OfSpecifier (Keyword 1 word.Int))) (FunctionDeclarator 1 (DeclaredName 1 2) (Then NoTrees (OfDeclaration (Parameter 1 (Then NoTrees (OfSpecifier (Keyword 1 word.Void))) Absent))) false) (Block 1 (Then NoTrees (OfDeclaration (Declaration 1 (Then NoTrees (OfSpecifier (Enumeration 1 (Some 0) (Then NoTrees (OfDeclaration (Enumerator 1 3 (Present (OfExpression (SizeofType 1 (TypeName 1 (Then NoTrees (OfSpecifier (Tag 1 word.Enum 0))) Absent))))))) false))) NoTrees))))) ∷ []) ≡ Refused 1)
unfolding type_of_words library_named are_compatible layouts_of initialized_object values
enumerations = (refl, refl, refl, refl, refl, refl, refl, refl, refl, refl, refl, refl, refl, refl, refl, refl, refl)

-- 6.6p6, 6.7.2.2p2: values of enumerators
enumerator_values :
    -- enum { A = (char)300, B = -1, C = ~0, D = !5 }; int a[A];
    (judged ((65 ∷ []) ∷ (66 ∷ []) ∷ (67 ∷ []) ∷ (68 ∷ []) ∷ (97 ∷ []) ∷ []) ((Declaration 1 (Then NoTrees (OfSpecifier (Enumeration 1 None (Then (Then (Then (Then NoTrees (OfDeclaration (Enumerator 1 0 (Present (OfExpression (Cast 1 (TypeName 1 (Then NoTrees (OfSpecifier (Keyword 1 word.Char))) Absent) (Number 1 300 true false 0))))))) (OfDeclaration (Enumerator 1 1 (Present (OfExpression (Unary 1 unary.Minus (Number 1 1 true false 0))))))) (OfDeclaration (Enumerator 1 2 (Present (OfExpression (Unary 1 unary.Complement (Number 1 0 false false 0))))))) (OfDeclaration (Enumerator 1 3 (Present (OfExpression (Unary 1 unary.Not (Number 1 5 true false 0))))))) false))) NoTrees) ∷ (Declaration 1 (Then NoTrees (OfSpecifier (Keyword 1 word.Int))) (Then NoTrees (OfDeclaration (InitDeclarator 1 (Array 1 (DeclaredName 1 4) (Present (OfExpression (Name 1 0)))) Absent)))) ∷ []) ≡ Accepted ((Some (176, 4)) ∷ []))
    -- enum { A = 1 ? 2 : 1 / 0 }; int a[A];
    × (judged ((65 ∷ []) ∷ (97 ∷ []) ∷ []) ((Declaration 1 (Then NoTrees (OfSpecifier (Enumeration 1 None (Then NoTrees (OfDeclaration (Enumerator 1 0 (Present (OfExpression (Conditional 1 (Number 1 1 true false 0) (Number 1 2 true false 0) (Binary 1 op.Divide (Number 1 1 true false 0) (Number 1 0 false false 0)))))))) false))) NoTrees) ∷ (Declaration 1 (Then NoTrees (OfSpecifier (Keyword 1 word.Int))) (Then NoTrees (OfDeclaration (InitDeclarator 1 (Array 1 (DeclaredName 1 1) (Present (OfExpression (Name 1 0)))) Absent)))) ∷ []) ≡ Accepted ((Some (8, 4)) ∷ []))
    -- enum { A = 1 / 0 };
    × (judged ((65 ∷ []) ∷ []) ((Declaration 1 (Then NoTrees (OfSpecifier (Enumeration 1 None (Then NoTrees (OfDeclaration (Enumerator 1 0 (Present (OfExpression (Binary 1 op.Divide (Number 1 1 true false 0) (Number 1 0 false false 0))))))) false))) NoTrees) ∷ []) ≡ Refused 0)
    -- enum { A = 1 || 1 / 0 }; int a[A];
    × (judged ((65 ∷ []) ∷ (97 ∷ []) ∷ []) ((Declaration 1 (Then NoTrees (OfSpecifier (Enumeration 1 None (Then NoTrees (OfDeclaration (Enumerator 1 0 (Present (OfExpression (Binary 1 op.LogicalOr (Number 1 1 true false 0) (Binary 1 op.Divide (Number 1 1 true false 0) (Number 1 0 false false 0)))))))) false))) NoTrees) ∷ (Declaration 1 (Then NoTrees (OfSpecifier (Keyword 1 word.Int))) (Then NoTrees (OfDeclaration (InitDeclarator 1 (Array 1 (DeclaredName 1 1) (Present (OfExpression (Name 1 0)))) Absent)))) ∷ []) ≡ Accepted ((Some (4, 4)) ∷ []))
    -- enum { A = (1, 2) };
    × (judged ((65 ∷ []) ∷ []) ((Declaration 1 (Then NoTrees (OfSpecifier (Enumeration 1 None (Then NoTrees (OfDeclaration (Enumerator 1 0 (Present (OfExpression (Paren 1 (Comma 1 (Number 1 1 true false 0) (Number 1 2 true false 0)))))))) false))) NoTrees) ∷ []) ≡ Refused 0)
    -- enum { A = 4294967295 };
    × (judged ((65 ∷ []) ∷ []) ((Declaration 1 (Then NoTrees (OfSpecifier (Enumeration 1 None (Then NoTrees (OfDeclaration (Enumerator 1 0 (Present (OfExpression (Number 1 4294967295 true false 0)))))) false))) NoTrees) ∷ []) ≡ Refused 0)
    -- enum { A = 2147483647 + 1 };
    × (judged ((65 ∷ []) ∷ []) ((Declaration 1 (Then NoTrees (OfSpecifier (Enumeration 1 None (Then NoTrees (OfDeclaration (Enumerator 1 0 (Present (OfExpression (Binary 1 op.Add (Number 1 2147483647 true false 0) (Number 1 1 true false 0))))))) false))) NoTrees) ∷ []) ≡ Refused 0)
    -- enum { A = 2147483647 + 1u };
    × (judged ((65 ∷ []) ∷ []) ((Declaration 1 (Then NoTrees (OfSpecifier (Enumeration 1 None (Then NoTrees (OfDeclaration (Enumerator 1 0 (Present (OfExpression (Binary 1 op.Add (Number 1 2147483647 true false 0) (Number 1 1 true true 0))))))) false))) NoTrees) ∷ []) ≡ Refused 0)
    -- enum { A = 1 << 31 };
    × (judged ((65 ∷ []) ∷ []) ((Declaration 1 (Then NoTrees (OfSpecifier (Enumeration 1 None (Then NoTrees (OfDeclaration (Enumerator 1 0 (Present (OfExpression (Binary 1 op.ShiftLeft (Number 1 1 true false 0) (Number 1 31 true false 0))))))) false))) NoTrees) ∷ []) ≡ Refused 0)
    -- enum { A = 'a' }; char b[A];
    × (judged ((65 ∷ []) ∷ (98 ∷ []) ∷ []) ((Declaration 1 (Then NoTrees (OfSpecifier (Enumeration 1 None (Then NoTrees (OfDeclaration (Enumerator 1 0 (Present (OfExpression (Character 1 (pos 97))))))) false))) NoTrees) ∷ (Declaration 1 (Then NoTrees (OfSpecifier (Keyword 1 word.Char))) (Then NoTrees (OfDeclaration (InitDeclarator 1 (Array 1 (DeclaredName 1 1) (Present (OfExpression (Name 1 0)))) Absent)))) ∷ []) ≡ Accepted ((Some (97, 1)) ∷ []))
unfolding type_of_words library_named are_compatible layouts_of initialized_object values
enumerator_values = (refl, refl, refl, refl, refl, refl, refl, refl, refl, refl)

-- 6.7p1, 6.2.1p4: declarations in blocks
block_declarations :
    -- int f(void) { int a; static long b[3]; const char *c; }
    (judged ((102 ∷ []) ∷ (97 ∷ []) ∷ (98 ∷ []) ∷ (99 ∷ []) ∷ []) ((Function 1 (Then NoTrees (OfSpecifier (Keyword 1 word.Int))) (FunctionDeclarator 1 (DeclaredName 1 0) (Then NoTrees (OfDeclaration (Parameter 1 (Then NoTrees (OfSpecifier (Keyword 1 word.Void))) Absent))) false) (Block 1 (Then (Then (Then NoTrees (OfDeclaration (Declaration 1 (Then NoTrees (OfSpecifier (Keyword 1 word.Int))) (Then NoTrees (OfDeclaration (InitDeclarator 1 (DeclaredName 1 1) Absent)))))) (OfDeclaration (Declaration 1 (Then (Then NoTrees (OfSpecifier (Keyword 1 word.Static))) (OfSpecifier (Keyword 1 word.Long))) (Then NoTrees (OfDeclaration (InitDeclarator 1 (Array 1 (DeclaredName 1 2) (Present (OfExpression (Number 1 3 true false 0)))) Absent)))))) (OfDeclaration (Declaration 1 (Then (Then NoTrees (OfSpecifier (Keyword 1 word.Const))) (OfSpecifier (Keyword 1 word.Char))) (Then NoTrees (OfDeclaration (InitDeclarator 1 (Pointer 1 0 (DeclaredName 1 3)) Absent)))))))) ∷ []) ≡ Accepted ((Some (4, 4)) ∷ (Some (24, 8)) ∷ (Some (8, 8)) ∷ []))
    -- int f(void) { extern int a; }
    × (judged ((102 ∷ []) ∷ (97 ∷ []) ∷ []) ((Function 1 (Then NoTrees (OfSpecifier (Keyword 1 word.Int))) (FunctionDeclarator 1 (DeclaredName 1 0) (Then NoTrees (OfDeclaration (Parameter 1 (Then NoTrees (OfSpecifier (Keyword 1 word.Void))) Absent))) false) (Block 1 (Then NoTrees (OfDeclaration (Declaration 1 (Then (Then NoTrees (OfSpecifier (Keyword 1 word.Extern))) (OfSpecifier (Keyword 1 word.Int))) (Then NoTrees (OfDeclaration (InitDeclarator 1 (DeclaredName 1 1) Absent)))))))) ∷ []) ≡ Refused 0)
    -- int f(void) { typedef int t; }
    × (judged ((102 ∷ []) ∷ (116 ∷ []) ∷ []) ((Function 1 (Then NoTrees (OfSpecifier (Keyword 1 word.Int))) (FunctionDeclarator 1 (DeclaredName 1 0) (Then NoTrees (OfDeclaration (Parameter 1 (Then NoTrees (OfSpecifier (Keyword 1 word.Void))) Absent))) false) (Block 1 (Then NoTrees (OfDeclaration (Declaration 1 (Then (Then NoTrees (OfSpecifier (Keyword 1 word.Typedef))) (OfSpecifier (Keyword 1 word.Int))) (Then NoTrees (OfDeclaration (InitDeclarator 1 (DeclaredName 1 1) Absent)))))))) ∷ []) ≡ Refused 0)
    -- int f(void) { int g(void); }
    × (judged ((102 ∷ []) ∷ (103 ∷ []) ∷ []) ((Function 1 (Then NoTrees (OfSpecifier (Keyword 1 word.Int))) (FunctionDeclarator 1 (DeclaredName 1 0) (Then NoTrees (OfDeclaration (Parameter 1 (Then NoTrees (OfSpecifier (Keyword 1 word.Void))) Absent))) false) (Block 1 (Then NoTrees (OfDeclaration (Declaration 1 (Then NoTrees (OfSpecifier (Keyword 1 word.Int))) (Then NoTrees (OfDeclaration (InitDeclarator 1 (FunctionDeclarator 1 (DeclaredName 1 1) (Then NoTrees (OfDeclaration (Parameter 1 (Then NoTrees (OfSpecifier (Keyword 1 word.Void))) Absent))) false) Absent)))))))) ∷ []) ≡ Refused 0)
    -- int f(void) { int a[]; }
    × (judged ((102 ∷ []) ∷ (97 ∷ []) ∷ []) ((Function 1 (Then NoTrees (OfSpecifier (Keyword 1 word.Int))) (FunctionDeclarator 1 (DeclaredName 1 0) (Then NoTrees (OfDeclaration (Parameter 1 (Then NoTrees (OfSpecifier (Keyword 1 word.Void))) Absent))) false) (Block 1 (Then NoTrees (OfDeclaration (Declaration 1 (Then NoTrees (OfSpecifier (Keyword 1 word.Int))) (Then NoTrees (OfDeclaration (InitDeclarator 1 (Array 1 (DeclaredName 1 1) Absent) Absent)))))))) ∷ []) ≡ Refused 0)
    -- int f(void) { int a[] = {1, 2}; static int b[] = {3}; }
    × (judged ((102 ∷ []) ∷ (97 ∷ []) ∷ (98 ∷ []) ∷ []) ((Function 1 (Then NoTrees (OfSpecifier (Keyword 1 word.Int))) (FunctionDeclarator 1 (DeclaredName 1 0) (Then NoTrees (OfDeclaration (Parameter 1 (Then NoTrees (OfSpecifier (Keyword 1 word.Void))) Absent))) false) (Block 1 (Then (Then NoTrees (OfDeclaration (Declaration 1 (Then NoTrees (OfSpecifier (Keyword 1 word.Int))) (Then NoTrees (OfDeclaration (InitDeclarator 1 (Array 1 (DeclaredName 1 1) Absent) (Present (OfInitializer (Braces 1 (Then (Then NoTrees (OfInitializer (Initial 1 (Number 1 1 true false 0)))) (OfInitializer (Initial 1 (Number 1 2 true false 0)))) false))))))))) (OfDeclaration (Declaration 1 (Then (Then NoTrees (OfSpecifier (Keyword 1 word.Static))) (OfSpecifier (Keyword 1 word.Int))) (Then NoTrees (OfDeclaration (InitDeclarator 1 (Array 1 (DeclaredName 1 2) Absent) (Present (OfInitializer (Braces 1 (Then NoTrees (OfInitializer (Initial 1 (Number 1 3 true false 0)))) false))))))))))) ∷ []) ≡ Accepted ((Some (8, 4)) ∷ (Some (4, 4)) ∷ []))
    -- int f(void) { struct s a; }
    × (judged ((102 ∷ []) ∷ (115 ∷ []) ∷ (97 ∷ []) ∷ []) ((Function 1 (Then NoTrees (OfSpecifier (Keyword 1 word.Int))) (FunctionDeclarator 1 (DeclaredName 1 0) (Then NoTrees (OfDeclaration (Parameter 1 (Then NoTrees (OfSpecifier (Keyword 1 word.Void))) Absent))) false) (Block 1 (Then NoTrees (OfDeclaration (Declaration 1 (Then NoTrees (OfSpecifier (Tag 1 word.Struct 1))) (Then NoTrees (OfDeclaration (InitDeclarator 1 (DeclaredName 1 2) Absent)))))))) ∷ []) ≡ Refused 0)
    -- int f(void) { struct s { int x; } a; struct s b; } struct s { long x; } c;
    × (judged ((102 ∷ []) ∷ (115 ∷ []) ∷ (120 ∷ []) ∷ (97 ∷ []) ∷ (98 ∷ []) ∷ (99 ∷ []) ∷ []) ((Function 1 (Then NoTrees (OfSpecifier (Keyword 1 word.Int))) (FunctionDeclarator 1 (DeclaredName 1 0) (Then NoTrees (OfDeclaration (Parameter 1 (Then NoTrees (OfSpecifier (Keyword 1 word.Void))) Absent))) false) (Block 1 (Then (Then NoTrees (OfDeclaration (Declaration 1 (Then NoTrees (OfSpecifier (Composite 1 word.Struct (Some 1) (Then NoTrees (OfDeclaration (MemberDeclaration 1 (Then NoTrees (OfSpecifier (Keyword 1 word.Int))) (Then NoTrees (OfDeclarator (DeclaredName 1 2))))))))) (Then NoTrees (OfDeclaration (InitDeclarator 1 (DeclaredName 1 3) Absent)))))) (OfDeclaration (Declaration 1 (Then NoTrees (OfSpecifier (Tag 1 word.Struct 1))) (Then NoTrees (OfDeclaration (InitDeclarator 1 (DeclaredName 1 4) Absent)))))))) ∷ (Declaration 1 (Then NoTrees (OfSpecifier (Composite 1 word.Struct (Some 1) (Then NoTrees (OfDeclaration (MemberDeclaration 1 (Then NoTrees (OfSpecifier (Keyword 1 word.Long))) (Then NoTrees (OfDeclarator (DeclaredName 1 2))))))))) (Then NoTrees (OfDeclaration (InitDeclarator 1 (DeclaredName 1 5) Absent)))) ∷ []) ≡ Accepted ((Some (4, 4)) ∷ (Some (4, 4)) ∷ (Some (8, 8)) ∷ []))
    -- struct s { int x; }; int f(void) { struct s; struct s *p; struct s { long y; } a; }
    × (judged ((115 ∷ []) ∷ (120 ∷ []) ∷ (102 ∷ []) ∷ (112 ∷ []) ∷ (121 ∷ []) ∷ (97 ∷ []) ∷ []) ((Declaration 1 (Then NoTrees (OfSpecifier (Composite 1 word.Struct (Some 0) (Then NoTrees (OfDeclaration (MemberDeclaration 1 (Then NoTrees (OfSpecifier (Keyword 1 word.Int))) (Then NoTrees (OfDeclarator (DeclaredName 1 1))))))))) NoTrees) ∷ (Function 1 (Then NoTrees (OfSpecifier (Keyword 1 word.Int))) (FunctionDeclarator 1 (DeclaredName 1 2) (Then NoTrees (OfDeclaration (Parameter 1 (Then NoTrees (OfSpecifier (Keyword 1 word.Void))) Absent))) false) (Block 1 (Then (Then (Then NoTrees (OfDeclaration (Declaration 1 (Then NoTrees (OfSpecifier (Tag 1 word.Struct 0))) NoTrees))) (OfDeclaration (Declaration 1 (Then NoTrees (OfSpecifier (Tag 1 word.Struct 0))) (Then NoTrees (OfDeclaration (InitDeclarator 1 (Pointer 1 0 (DeclaredName 1 3)) Absent)))))) (OfDeclaration (Declaration 1 (Then NoTrees (OfSpecifier (Composite 1 word.Struct (Some 0) (Then NoTrees (OfDeclaration (MemberDeclaration 1 (Then NoTrees (OfSpecifier (Keyword 1 word.Long))) (Then NoTrees (OfDeclarator (DeclaredName 1 4))))))))) (Then NoTrees (OfDeclaration (InitDeclarator 1 (DeclaredName 1 5) Absent)))))))) ∷ []) ≡ Accepted ((Some (8, 8)) ∷ (Some (8, 8)) ∷ []))
    -- struct s { int x; }; int f(void) { struct s a; struct s { long y; } b; }
    × (judged ((115 ∷ []) ∷ (120 ∷ []) ∷ (102 ∷ []) ∷ (97 ∷ []) ∷ (121 ∷ []) ∷ (98 ∷ []) ∷ []) ((Declaration 1 (Then NoTrees (OfSpecifier (Composite 1 word.Struct (Some 0) (Then NoTrees (OfDeclaration (MemberDeclaration 1 (Then NoTrees (OfSpecifier (Keyword 1 word.Int))) (Then NoTrees (OfDeclarator (DeclaredName 1 1))))))))) NoTrees) ∷ (Function 1 (Then NoTrees (OfSpecifier (Keyword 1 word.Int))) (FunctionDeclarator 1 (DeclaredName 1 2) (Then NoTrees (OfDeclaration (Parameter 1 (Then NoTrees (OfSpecifier (Keyword 1 word.Void))) Absent))) false) (Block 1 (Then (Then NoTrees (OfDeclaration (Declaration 1 (Then NoTrees (OfSpecifier (Tag 1 word.Struct 0))) (Then NoTrees (OfDeclaration (InitDeclarator 1 (DeclaredName 1 3) Absent)))))) (OfDeclaration (Declaration 1 (Then NoTrees (OfSpecifier (Composite 1 word.Struct (Some 0) (Then NoTrees (OfDeclaration (MemberDeclaration 1 (Then NoTrees (OfSpecifier (Keyword 1 word.Long))) (Then NoTrees (OfDeclarator (DeclaredName 1 4))))))))) (Then NoTrees (OfDeclaration (InitDeclarator 1 (DeclaredName 1 5) Absent)))))))) ∷ []) ≡ Accepted ((Some (4, 4)) ∷ (Some (8, 8)) ∷ []))
    -- int f(void) { int; }
    × (judged ((102 ∷ []) ∷ []) ((Function 1 (Then NoTrees (OfSpecifier (Keyword 1 word.Int))) (FunctionDeclarator 1 (DeclaredName 1 0) (Then NoTrees (OfDeclaration (Parameter 1 (Then NoTrees (OfSpecifier (Keyword 1 word.Void))) Absent))) false) (Block 1 (Then NoTrees (OfDeclaration (Declaration 1 (Then NoTrees (OfSpecifier (Keyword 1 word.Int))) NoTrees))))) ∷ []) ≡ Refused 0)
    -- int f(void) { enum { A = 5 }; int a[A]; } enum { A };
    × (judged ((102 ∷ []) ∷ (65 ∷ []) ∷ (97 ∷ []) ∷ []) ((Function 1 (Then NoTrees (OfSpecifier (Keyword 1 word.Int))) (FunctionDeclarator 1 (DeclaredName 1 0) (Then NoTrees (OfDeclaration (Parameter 1 (Then NoTrees (OfSpecifier (Keyword 1 word.Void))) Absent))) false) (Block 1 (Then (Then NoTrees (OfDeclaration (Declaration 1 (Then NoTrees (OfSpecifier (Enumeration 1 None (Then NoTrees (OfDeclaration (Enumerator 1 1 (Present (OfExpression (Number 1 5 true false 0)))))) false))) NoTrees))) (OfDeclaration (Declaration 1 (Then NoTrees (OfSpecifier (Keyword 1 word.Int))) (Then NoTrees (OfDeclaration (InitDeclarator 1 (Array 1 (DeclaredName 1 2) (Present (OfExpression (Name 1 1)))) Absent)))))))) ∷ (Declaration 1 (Then NoTrees (OfSpecifier (Enumeration 1 None (Then NoTrees (OfDeclaration (Enumerator 1 1 Absent))) false))) NoTrees) ∷ []) ≡ Accepted ((Some (20, 4)) ∷ []))
    -- int f(void) { int f; } int g;
    × (judged ((102 ∷ []) ∷ (103 ∷ []) ∷ []) ((Function 1 (Then NoTrees (OfSpecifier (Keyword 1 word.Int))) (FunctionDeclarator 1 (DeclaredName 1 0) (Then NoTrees (OfDeclaration (Parameter 1 (Then NoTrees (OfSpecifier (Keyword 1 word.Void))) Absent))) false) (Block 1 (Then NoTrees (OfDeclaration (Declaration 1 (Then NoTrees (OfSpecifier (Keyword 1 word.Int))) (Then NoTrees (OfDeclaration (InitDeclarator 1 (DeclaredName 1 0) Absent)))))))) ∷ (Declaration 1 (Then NoTrees (OfSpecifier (Keyword 1 word.Int))) (Then NoTrees (OfDeclaration (InitDeclarator 1 (DeclaredName 1 1) Absent)))) ∷ []) ≡ Accepted ((Some (4, 4)) ∷ (Some (4, 4)) ∷ []))
    -- typedef int t; int f(void) { static t a, b; }
    × (judged ((116 ∷ []) ∷ (102 ∷ []) ∷ (97 ∷ []) ∷ (98 ∷ []) ∷ []) ((Declaration 1 (Then (Then NoTrees (OfSpecifier (Keyword 1 word.Typedef))) (OfSpecifier (Keyword 1 word.Int))) (Then NoTrees (OfDeclaration (InitDeclarator 1 (DeclaredName 1 0) Absent)))) ∷ (Function 1 (Then NoTrees (OfSpecifier (Keyword 1 word.Int))) (FunctionDeclarator 1 (DeclaredName 1 1) (Then NoTrees (OfDeclaration (Parameter 1 (Then NoTrees (OfSpecifier (Keyword 1 word.Void))) Absent))) false) (Block 1 (Then NoTrees (OfDeclaration (Declaration 1 (Then (Then NoTrees (OfSpecifier (Keyword 1 word.Static))) (OfSpecifier (TypedefName 1 0))) (Then (Then NoTrees (OfDeclaration (InitDeclarator 1 (DeclaredName 1 2) Absent))) (OfDeclaration (InitDeclarator 1 (DeclaredName 1 3) Absent)))))))) ∷ []) ≡ Accepted ((Some (4, 4)) ∷ (Some (4, 4)) ∷ []))
unfolding type_of_words library_named are_compatible layouts_of initialized_object values
block_declarations = (refl, refl, refl, refl, refl, refl, refl, refl, refl, refl, refl, refl, refl, refl)
