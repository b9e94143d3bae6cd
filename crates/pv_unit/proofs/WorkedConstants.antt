-- Units whose constants (C17 6.6) were worked out apart from these definitions.
use Rattle.std.proofs.Common.{◌≡◌, ℕ, ◌-◌, ℤ, pos, negsuc, unsigned_abs, Bool, true, false, List, [], ◌∷◌, Option, Some, None, refl, length}
use Rattle.pv_token.specs.declared.words.Word.TheVariants as word
use Rattle.pv_tree.specs.declared.operators.UnaryOperator.TheVariants as unary
use Rattle.pv_tree.specs.declared.operators.BinaryOperator.TheVariants as op
use Rattle.pv_tree.specs.Syntax.{Name, Number, Character, Text, Paren, Index, Call, Member, Arrow, PostIncrement, Unary, SizeofExpr, SizeofType, Cast, Binary, Conditional, Comma, NoArguments, DeclarationTree, Function, Declaration, InitDeclarator, MemberDeclaration, Enumerator, Parameter, TypeName, DeclaredName, ParenDeclarator, Pointer, Array, FunctionDeclarator, AbstractPointer, AbstractArray, Keyword, Composite, Enumeration, Tag, Initial, Braces, Block, Switch, SwitchBlock, Labelled, Case, Default, Return, OfExpression, OfDeclaration, OfDeclarator, OfSpecifier, OfInitializer, OfStatement, NoTrees, Then, Absent, Present, AbstractFunction, AbstractParen}
use Rattle.pv_types.specs.Layouts.{layouts_of}
use Rattle.pv_types.specs.Compatible.{are_compatible}
use Rattle.pv_check.specs.Words.{type_of_words}
use Rattle.pv_typed.specs.TypedUnits.{WholeUnit, StoredValue, ValueOf, TextOf, literal_at, object_at, function_at}
use Rattle.pv_library.specs.LibraryNames.{library_named}
use Rattle.pv_unit.specs.Initializers.{initialized_object}
use Rattle.pv_unit.specs.ValueRules.{values}
use Rattle.pv_typed.specs.declared.values.Const.{Const}
use Rattle.pv_typed.specs.declared.values.Const.TheVariants as const
use Rattle.pv_typed.specs.Addresses.{constant_of}
use Rattle.pv_unit.proofs.WorkedAnswers.{Look, Answer, Refused, Accepted, judged_by}

-- 0 or more, or less
abbrev sign_of : ℤ → ℕ
sign_of (pos n) = 0
sign_of _ = 1

-- a constant (6.6p7): an integer, an address within an object or a literal, a null pointer, or none
abbrev coded : WholeUnit → Option Const → List ℕ
coded u None = 9 ∷ []
coded u (Some (const.Int n)) = 0 ∷ sign_of n ∷ unsigned_abs n ∷ []
coded u (Some (const.Address o n)) = 1 ∷ ((object_at u o).name - 2) ∷ n ∷ []
coded u (Some (const.Literal l n)) = 2 ∷ length (literal_at u l).bytes ∷ n ∷ []
coded u (Some const.Null) = 3 ∷ []
coded u (Some (const.Function f)) = 4 ∷ ((function_at u f).name - 2) ∷ []

-- of a static object, the constants of its stores
abbrev constant_code : WholeUnit → Bool → StoredValue → List ℕ
constant_code u false v = []
constant_code u true (ValueOf a) = coded u (constant_of u a)
constant_code u true (TextOf l) = []

abbrev constant_look : Look
constant_look u o v = constant_code u o.lasting v

abbrev judged : List (List ℕ) → List (List ℕ) → List DeclarationTree → Answer
judged names texts ds = judged_by constant_look names texts ds

-- 6.6p9: addresses of functions
function_addresses :
    -- int one(void){return 1;} int (*p)(void) = one; int (*q)(void) = &one; long (*r)(void) = (long (*)(void))one; int (*s)(void) = 0; _Bool b = one; int main(void){return 0;}
    (judged ((111 ∷ 110 ∷ 101 ∷ []) ∷ (112 ∷ []) ∷ (113 ∷ []) ∷ (114 ∷ []) ∷ (115 ∷ []) ∷ (98 ∷ []) ∷ (109 ∷ 97 ∷ 105 ∷ 110 ∷ []) ∷ []) ([]) ((Function 1 (Then NoTrees (OfSpecifier (Keyword 1 word.Int))) (FunctionDeclarator 1 (DeclaredName 1 0) (Then NoTrees (OfDeclaration (Parameter 1 (Then NoTrees (OfSpecifier (Keyword 1 word.Void))) Absent))) false) (Block 1 (Then NoTrees (OfStatement (Return 1 (Present (OfExpression (Number 1 1 true false 0)))))))) ∷ (Declaration 1 (Then NoTrees (OfSpecifier (Keyword 1 word.Int))) (Then NoTrees (OfDeclaration (InitDeclarator 1 (FunctionDeclarator 1 (ParenDeclarator 1 (Pointer 1 0 (DeclaredName 1 1))) (Then NoTrees (OfDeclaration (Parameter 1 (Then NoTrees (OfSpecifier (Keyword 1 word.Void))) Absent))) false) (Present (OfInitializer (Initial 1 (Name 1 0)))))))) ∷ (Declaration 1 (Then NoTrees (OfSpecifier (Keyword 1 word.Int))) (Then NoTrees (OfDeclaration (InitDeclarator 1 (FunctionDeclarator 1 (ParenDeclarator 1 (Pointer 1 0 (DeclaredName 1 2))) (Then NoTrees (OfDeclaration (Parameter 1 (Then NoTrees (OfSpecifier (Keyword 1 word.Void))) Absent))) false) (Present (OfInitializer (Initial 1 (Unary 1 unary.Address (Name 1 0))))))))) ∷ (Declaration 1 (Then NoTrees (OfSpecifier (Keyword 1 word.Long))) (Then NoTrees (OfDeclaration (InitDeclarator 1 (FunctionDeclarator 1 (ParenDeclarator 1 (Pointer 1 0 (DeclaredName 1 3))) (Then NoTrees (OfDeclaration (Parameter 1 (Then NoTrees (OfSpecifier (Keyword 1 word.Void))) Absent))) false) (Present (OfInitializer (Initial 1 (Cast 1 (TypeName 1 (Then NoTrees (OfSpecifier (Keyword 1 word.Long))) (Present (OfDeclarator (AbstractFunction 1 (Present (OfDeclarator (AbstractParen 1 (AbstractPointer 1 0 Absent)))) (Then NoTrees (OfDeclaration (Parameter 1 (Then NoTrees (OfSpecifier (Keyword 1 word.Void))) Absent))) false)))) (Name 1 0))))))))) ∷ (Declaration 1 (Then NoTrees (OfSpecifier (Keyword 1 word.Int))) (Then NoTrees (OfDeclaration (InitDeclarator 1 (FunctionDeclarator 1 (ParenDeclarator 1 (Pointer 1 0 (DeclaredName 1 4))) (Then NoTrees (OfDeclaration (Parameter 1 (Then NoTrees (OfSpecifier (Keyword 1 word.Void))) Absent))) false) (Present (OfInitializer (Initial 1 (Number 1 0 false false 0)))))))) ∷ (Declaration 1 (Then NoTrees (OfSpecifier (Keyword 1 word.Bool))) (Then NoTrees (OfDeclaration (InitDeclarator 1 (DeclaredName 1 5) (Present (OfInitializer (Initial 1 (Name 1 0)))))))) ∷ (Function 1 (Then NoTrees (OfSpecifier (Keyword 1 word.Int))) (FunctionDeclarator 1 (DeclaredName 1 6) (Then NoTrees (OfDeclaration (Parameter 1 (Then NoTrees (OfSpecifier (Keyword 1 word.Void))) Absent))) false) (Block 1 (Then NoTrees (OfStatement (Return 1 (Present (OfExpression (Number 1 0 false false 0)))))))) ∷ []) ≡ Accepted ((0 ∷ 1 ∷ 0 ∷ 8 ∷ 1 ∷ 0 ∷ 4 ∷ 0 ∷ []) ∷ (0 ∷ 1 ∷ 0 ∷ 8 ∷ 1 ∷ 0 ∷ 4 ∷ 0 ∷ []) ∷ (0 ∷ 1 ∷ 0 ∷ 8 ∷ 1 ∷ 0 ∷ 4 ∷ 0 ∷ []) ∷ (0 ∷ 1 ∷ 0 ∷ 8 ∷ 1 ∷ 0 ∷ 3 ∷ []) ∷ (0 ∷ 1 ∷ 0 ∷ 1 ∷ 1 ∷ 0 ∷ 0 ∷ 0 ∷ 1 ∷ []) ∷ []) (1 ∷ 2 ∷ 3 ∷ 4 ∷ 5 ∷ []) ([]) ((1 ∷ 1 ∷ 0 ∷ 16 ∷ 1 ∷ 1 ∷ 99 ∷ []) ∷ (1 ∷ 1 ∷ 0 ∷ 16 ∷ 1 ∷ 1 ∷ 99 ∷ []) ∷ []))
    -- int one(void){return 1;} int (*p)(void) = *one; int main(void){return 0;}
    × (judged ((111 ∷ 110 ∷ 101 ∷ []) ∷ (112 ∷ []) ∷ (109 ∷ 97 ∷ 105 ∷ 110 ∷ []) ∷ []) ([]) ((Function 1 (Then NoTrees (OfSpecifier (Keyword 1 word.Int))) (FunctionDeclarator 1 (DeclaredName 1 0) (Then NoTrees (OfDeclaration (Parameter 1 (Then NoTrees (OfSpecifier (Keyword 1 word.Void))) Absent))) false) (Block 1 (Then NoTrees (OfStatement (Return 1 (Present (OfExpression (Number 1 1 true false 0)))))))) ∷ (Declaration 1 (Then NoTrees (OfSpecifier (Keyword 1 word.Int))) (Then NoTrees (OfDeclaration (InitDeclarator 1 (FunctionDeclarator 1 (ParenDeclarator 1 (Pointer 1 0 (DeclaredName 1 1))) (Then NoTrees (OfDeclaration (Parameter 1 (Then NoTrees (OfSpecifier (Keyword 1 word.Void))) Absent))) false) (Present (OfInitializer (Initial 1 (Unary 1 unary.Indirection (Name 1 0))))))))) ∷ (Function 1 (Then NoTrees (OfSpecifier (Keyword 1 word.Int))) (FunctionDeclarator 1 (DeclaredName 1 2) (Then NoTrees (OfDeclaration (Parameter 1 (Then NoTrees (OfSpecifier (Keyword 1 word.Void))) Absent))) false) (Block 1 (Then NoTrees (OfStatement (Return 1 (Present (OfExpression (Number 1 0 false false 0)))))))) ∷ []) ≡ Refused 1)
    -- int one(void){return 1;} int (*p)(void) = &*one; int main(void){return 0;}
    × (judged ((111 ∷ 110 ∷ 101 ∷ []) ∷ (112 ∷ []) ∷ (109 ∷ 97 ∷ 105 ∷ 110 ∷ []) ∷ []) ([]) ((Function 1 (Then NoTrees (OfSpecifier (Keyword 1 word.Int))) (FunctionDeclarator 1 (DeclaredName 1 0) (Then NoTrees (OfDeclaration (Parameter 1 (Then NoTrees (OfSpecifier (Keyword 1 word.Void))) Absent))) false) (Block 1 (Then NoTrees (OfStatement (Return 1 (Present (OfExpression (Number 1 1 true false 0)))))))) ∷ (Declaration 1 (Then NoTrees (OfSpecifier (Keyword 1 word.Int))) (Then NoTrees (OfDeclaration (InitDeclarator 1 (FunctionDeclarator 1 (ParenDeclarator 1 (Pointer 1 0 (DeclaredName 1 1))) (Then NoTrees (OfDeclaration (Parameter 1 (Then NoTrees (OfSpecifier (Keyword 1 word.Void))) Absent))) false) (Present (OfInitializer (Initial 1 (Unary 1 unary.Address (Unary 1 unary.Indirection (Name 1 0)))))))))) ∷ (Function 1 (Then NoTrees (OfSpecifier (Keyword 1 word.Int))) (FunctionDeclarator 1 (DeclaredName 1 2) (Then NoTrees (OfDeclaration (Parameter 1 (Then NoTrees (OfSpecifier (Keyword 1 word.Void))) Absent))) false) (Block 1 (Then NoTrees (OfStatement (Return 1 (Present (OfExpression (Number 1 0 false false 0)))))))) ∷ []) ≡ Refused 1)
    -- int one(void){return 1;} int (*p)(void) = 1 ? one : 0; int main(void){return 0;}
    × (judged ((111 ∷ 110 ∷ 101 ∷ []) ∷ (112 ∷ []) ∷ (109 ∷ 97 ∷ 105 ∷ 110 ∷ []) ∷ []) ([]) ((Function 1 (Then NoTrees (OfSpecifier (Keyword 1 word.Int))) (FunctionDeclarator 1 (DeclaredName 1 0) (Then NoTrees (OfDeclaration (Parameter 1 (Then NoTrees (OfSpecifier (Keyword 1 word.Void))) Absent))) false) (Block 1 (Then NoTrees (OfStatement (Return 1 (Present (OfExpression (Number 1 1 true false 0)))))))) ∷ (Declaration 1 (Then NoTrees (OfSpecifier (Keyword 1 word.Int))) (Then NoTrees (OfDeclaration (InitDeclarator 1 (FunctionDeclarator 1 (ParenDeclarator 1 (Pointer 1 0 (DeclaredName 1 1))) (Then NoTrees (OfDeclaration (Parameter 1 (Then NoTrees (OfSpecifier (Keyword 1 word.Void))) Absent))) false) (Present (OfInitializer (Initial 1 (Conditional 1 (Number 1 1 true false 0) (Name 1 0) (Number 1 0 false false 0))))))))) ∷ (Function 1 (Then NoTrees (OfSpecifier (Keyword 1 word.Int))) (FunctionDeclarator 1 (DeclaredName 1 2) (Then NoTrees (OfDeclaration (Parameter 1 (Then NoTrees (OfSpecifier (Keyword 1 word.Void))) Absent))) false) (Block 1 (Then NoTrees (OfStatement (Return 1 (Present (OfExpression (Number 1 0 false false 0)))))))) ∷ []) ≡ Refused 1)
    -- int one(void){return 1;} void *p = one; int main(void){return 0;}
    × (judged ((111 ∷ 110 ∷ 101 ∷ []) ∷ (112 ∷ []) ∷ (109 ∷ 97 ∷ 105 ∷ 110 ∷ []) ∷ []) ([]) ((Function 1 (Then NoTrees (OfSpecifier (Keyword 1 word.Int))) (FunctionDeclarator 1 (DeclaredName 1 0) (Then NoTrees (OfDeclaration (Parameter 1 (Then NoTrees (OfSpecifier (Keyword 1 word.Void))) Absent))) false) (Block 1 (Then NoTrees (OfStatement (Return 1 (Present (OfExpression (Number 1 1 true false 0)))))))) ∷ (Declaration 1 (Then NoTrees (OfSpecifier (Keyword 1 word.Void))) (Then NoTrees (OfDeclaration (InitDeclarator 1 (Pointer 1 0 (DeclaredName 1 1)) (Present (OfInitializer (Initial 1 (Name 1 0)))))))) ∷ (Function 1 (Then NoTrees (OfSpecifier (Keyword 1 word.Int))) (FunctionDeclarator 1 (DeclaredName 1 2) (Then NoTrees (OfDeclaration (Parameter 1 (Then NoTrees (OfSpecifier (Keyword 1 word.Void))) Absent))) false) (Block 1 (Then NoTrees (OfStatement (Return 1 (Present (OfExpression (Number 1 0 false false 0)))))))) ∷ []) ≡ Refused 1)
unfolding type_of_words library_named are_compatible layouts_of initialized_object values
function_addresses = (refl, refl, refl, refl, refl)

-- 6.6p9: addresses of objects and of elements
array_addresses :
    -- int x; int *p = &x; int main(void){return 0;}
    (judged ((120 ∷ []) ∷ (112 ∷ []) ∷ (109 ∷ 97 ∷ 105 ∷ 110 ∷ []) ∷ []) ([]) ((Declaration 1 (Then NoTrees (OfSpecifier (Keyword 1 word.Int))) (Then NoTrees (OfDeclaration (InitDeclarator 1 (DeclaredName 1 0) Absent)))) ∷ (Declaration 1 (Then NoTrees (OfSpecifier (Keyword 1 word.Int))) (Then NoTrees (OfDeclaration (InitDeclarator 1 (Pointer 1 0 (DeclaredName 1 1)) (Present (OfInitializer (Initial 1 (Unary 1 unary.Address (Name 1 0))))))))) ∷ (Function 1 (Then NoTrees (OfSpecifier (Keyword 1 word.Int))) (FunctionDeclarator 1 (DeclaredName 1 2) (Then NoTrees (OfDeclaration (Parameter 1 (Then NoTrees (OfSpecifier (Keyword 1 word.Void))) Absent))) false) (Block 1 (Then NoTrees (OfStatement (Return 1 (Present (OfExpression (Number 1 0 false false 0)))))))) ∷ []) ≡ Accepted ((0 ∷ 0 ∷ []) ∷ (0 ∷ 1 ∷ 0 ∷ 8 ∷ 1 ∷ 0 ∷ 1 ∷ 0 ∷ 0 ∷ []) ∷ []) (0 ∷ 1 ∷ []) ([]) ((1 ∷ 1 ∷ 0 ∷ 16 ∷ 1 ∷ 1 ∷ 99 ∷ []) ∷ []))
    -- int a[3]; int *p = a; int *q = a + 3; int *r = &a[1]; int *s = 1 + a; int *t = &a[3] - 3; int main(void){return 0;}
    × (judged ((97 ∷ []) ∷ (112 ∷ []) ∷ (113 ∷ []) ∷ (114 ∷ []) ∷ (115 ∷ []) ∷ (116 ∷ []) ∷ (109 ∷ 97 ∷ 105 ∷ 110 ∷ []) ∷ []) ([]) ((Declaration 1 (Then NoTrees (OfSpecifier (Keyword 1 word.Int))) (Then NoTrees (OfDeclaration (InitDeclarator 1 (Array 1 (DeclaredName 1 0) (Present (OfExpression (Number 1 3 true false 0)))) Absent)))) ∷ (Declaration 1 (Then NoTrees (OfSpecifier (Keyword 1 word.Int))) (Then NoTrees (OfDeclaration (InitDeclarator 1 (Pointer 1 0 (DeclaredName 1 1)) (Present (OfInitializer (Initial 1 (Name 1 0)))))))) ∷ (Declaration 1 (Then NoTrees (OfSpecifier (Keyword 1 word.Int))) (Then NoTrees (OfDeclaration (InitDeclarator 1 (Pointer 1 0 (DeclaredName 1 2)) (Present (OfInitializer (Initial 1 (Binary 1 op.Add (Name 1 0) (Number 1 3 true false 0))))))))) ∷ (Declaration 1 (Then NoTrees (OfSpecifier (Keyword 1 word.Int))) (Then NoTrees (OfDeclaration (InitDeclarator 1 (Pointer 1 0 (DeclaredName 1 3)) (Present (OfInitializer (Initial 1 (Unary 1 unary.Address (Index 1 (Name 1 0) (Number 1 1 true false 0)))))))))) ∷ (Declaration 1 (Then NoTrees (OfSpecifier (Keyword 1 word.Int))) (Then NoTrees (OfDeclaration (InitDeclarator 1 (Pointer 1 0 (DeclaredName 1 4)) (Present (OfInitializer (Initial 1 (Binary 1 op.Add (Number 1 1 true false 0) (Name 1 0))))))))) ∷ (Declaration 1 (Then NoTrees (OfSpecifier (Keyword 1 word.Int))) (Then NoTrees (OfDeclaration (InitDeclarator 1 (Pointer 1 0 (DeclaredName 1 5)) (Present (OfInitializer (Initial 1 (Binary 1 op.Subtract (Unary 1 unary.Address (Index 1 (Name 1 0) (Number 1 3 true false 0))) (Number 1 3 true false 0))))))))) ∷ (Function 1 (Then NoTrees (OfSpecifier (Keyword 1 word.Int))) (FunctionDeclarator 1 (DeclaredName 1 6) (Then NoTrees (OfDeclaration (Parameter 1 (Then NoTrees (OfSpecifier (Keyword 1 word.Void))) Absent))) false) (Block 1 (Then NoTrees (OfStatement (Return 1 (Present (OfExpression (Number 1 0 false false 0)))))))) ∷ []) ≡ Accepted ((0 ∷ 0 ∷ []) ∷ (0 ∷ 1 ∷ 0 ∷ 8 ∷ 1 ∷ 0 ∷ 1 ∷ 0 ∷ 0 ∷ []) ∷ (0 ∷ 1 ∷ 0 ∷ 8 ∷ 1 ∷ 0 ∷ 1 ∷ 0 ∷ 12 ∷ []) ∷ (0 ∷ 1 ∷ 0 ∷ 8 ∷ 1 ∷ 0 ∷ 1 ∷ 0 ∷ 4 ∷ []) ∷ (0 ∷ 1 ∷ 0 ∷ 8 ∷ 1 ∷ 0 ∷ 1 ∷ 0 ∷ 4 ∷ []) ∷ (0 ∷ 1 ∷ 0 ∷ 8 ∷ 1 ∷ 0 ∷ 1 ∷ 0 ∷ 0 ∷ []) ∷ []) (0 ∷ 1 ∷ 2 ∷ 3 ∷ 4 ∷ 5 ∷ []) ([]) ((1 ∷ 1 ∷ 0 ∷ 16 ∷ 1 ∷ 1 ∷ 99 ∷ []) ∷ []))
    -- int a[3]; int *p = a + 4; int main(void){return 0;}
    × (judged ((97 ∷ []) ∷ (112 ∷ []) ∷ (109 ∷ 97 ∷ 105 ∷ 110 ∷ []) ∷ []) ([]) ((Declaration 1 (Then NoTrees (OfSpecifier (Keyword 1 word.Int))) (Then NoTrees (OfDeclaration (InitDeclarator 1 (Array 1 (DeclaredName 1 0) (Present (OfExpression (Number 1 3 true false 0)))) Absent)))) ∷ (Declaration 1 (Then NoTrees (OfSpecifier (Keyword 1 word.Int))) (Then NoTrees (OfDeclaration (InitDeclarator 1 (Pointer 1 0 (DeclaredName 1 1)) (Present (OfInitializer (Initial 1 (Binary 1 op.Add (Name 1 0) (Number 1 4 true false 0))))))))) ∷ (Function 1 (Then NoTrees (OfSpecifier (Keyword 1 word.Int))) (FunctionDeclarator 1 (DeclaredName 1 2) (Then NoTrees (OfDeclaration (Parameter 1 (Then NoTrees (OfSpecifier (Keyword 1 word.Void))) Absent))) false) (Block 1 (Then NoTrees (OfStatement (Return 1 (Present (OfExpression (Number 1 0 false false 0)))))))) ∷ []) ≡ Refused 1)
    -- int a[3]; int *p = a - 1; int main(void){return 0;}
    × (judged ((97 ∷ []) ∷ (112 ∷ []) ∷ (109 ∷ 97 ∷ 105 ∷ 110 ∷ []) ∷ []) ([]) ((Declaration 1 (Then NoTrees (OfSpecifier (Keyword 1 word.Int))) (Then NoTrees (OfDeclaration (InitDeclarator 1 (Array 1 (DeclaredName 1 0) (Present (OfExpression (Number 1 3 true false 0)))) Absent)))) ∷ (Declaration 1 (Then NoTrees (OfSpecifier (Keyword 1 word.Int))) (Then NoTrees (OfDeclaration (InitDeclarator 1 (Pointer 1 0 (DeclaredName 1 1)) (Present (OfInitializer (Initial 1 (Binary 1 op.Subtract (Name 1 0) (Number 1 1 true false 0))))))))) ∷ (Function 1 (Then NoTrees (OfSpecifier (Keyword 1 word.Int))) (FunctionDeclarator 1 (DeclaredName 1 2) (Then NoTrees (OfDeclaration (Parameter 1 (Then NoTrees (OfSpecifier (Keyword 1 word.Void))) Absent))) false) (Block 1 (Then NoTrees (OfStatement (Return 1 (Present (OfExpression (Number 1 0 false false 0)))))))) ∷ []) ≡ Refused 1)
    -- int a[3]; int *p = a + 4 - 2; int main(void){return 0;}
    × (judged ((97 ∷ []) ∷ (112 ∷ []) ∷ (109 ∷ 97 ∷ 105 ∷ 110 ∷ []) ∷ []) ([]) ((Declaration 1 (Then NoTrees (OfSpecifier (Keyword 1 word.Int))) (Then NoTrees (OfDeclaration (InitDeclarator 1 (Array 1 (DeclaredName 1 0) (Present (OfExpression (Number 1 3 true false 0)))) Absent)))) ∷ (Declaration 1 (Then NoTrees (OfSpecifier (Keyword 1 word.Int))) (Then NoTrees (OfDeclaration (InitDeclarator 1 (Pointer 1 0 (DeclaredName 1 1)) (Present (OfInitializer (Initial 1 (Binary 1 op.Subtract (Binary 1 op.Add (Name 1 0) (Number 1 4 true false 0)) (Number 1 2 true false 0))))))))) ∷ (Function 1 (Then NoTrees (OfSpecifier (Keyword 1 word.Int))) (FunctionDeclarator 1 (DeclaredName 1 2) (Then NoTrees (OfDeclaration (Parameter 1 (Then NoTrees (OfSpecifier (Keyword 1 word.Void))) Absent))) false) (Block 1 (Then NoTrees (OfStatement (Return 1 (Present (OfExpression (Number 1 0 false false 0)))))))) ∷ []) ≡ Refused 1)
    -- int a[3]; int *p = &a[4]; int main(void){return 0;}
    × (judged ((97 ∷ []) ∷ (112 ∷ []) ∷ (109 ∷ 97 ∷ 105 ∷ 110 ∷ []) ∷ []) ([]) ((Declaration 1 (Then NoTrees (OfSpecifier (Keyword 1 word.Int))) (Then NoTrees (OfDeclaration (InitDeclarator 1 (Array 1 (DeclaredName 1 0) (Present (OfExpression (Number 1 3 true false 0)))) Absent)))) ∷ (Declaration 1 (Then NoTrees (OfSpecifier (Keyword 1 word.Int))) (Then NoTrees (OfDeclaration (InitDeclarator 1 (Pointer 1 0 (DeclaredName 1 1)) (Present (OfInitializer (Initial 1 (Unary 1 unary.Address (Index 1 (Name 1 0) (Number 1 4 true false 0)))))))))) ∷ (Function 1 (Then NoTrees (OfSpecifier (Keyword 1 word.Int))) (FunctionDeclarator 1 (DeclaredName 1 2) (Then NoTrees (OfDeclaration (Parameter 1 (Then NoTrees (OfSpecifier (Keyword 1 word.Void))) Absent))) false) (Block 1 (Then NoTrees (OfStatement (Return 1 (Present (OfExpression (Number 1 0 false false 0)))))))) ∷ []) ≡ Refused 1)
    -- int a[3]; int *p = &2[a]; int main(void){return 0;}
    × (judged ((97 ∷ []) ∷ (112 ∷ []) ∷ (109 ∷ 97 ∷ 105 ∷ 110 ∷ []) ∷ []) ([]) ((Declaration 1 (Then NoTrees (OfSpecifier (Keyword 1 word.Int))) (Then NoTrees (OfDeclaration (InitDeclarator 1 (Array 1 (DeclaredName 1 0) (Present (OfExpression (Number 1 3 true false 0)))) Absent)))) ∷ (Declaration 1 (Then NoTrees (OfSpecifier (Keyword 1 word.Int))) (Then NoTrees (OfDeclaration (InitDeclarator 1 (Pointer 1 0 (DeclaredName 1 1)) (Present (OfInitializer (Initial 1 (Unary 1 unary.Address (Index 1 (Number 1 2 true false 0) (Name 1 0)))))))))) ∷ (Function 1 (Then NoTrees (OfSpecifier (Keyword 1 word.Int))) (FunctionDeclarator 1 (DeclaredName 1 2) (Then NoTrees (OfDeclaration (Parameter 1 (Then NoTrees (OfSpecifier (Keyword 1 word.Void))) Absent))) false) (Block 1 (Then NoTrees (OfStatement (Return 1 (Present (OfExpression (Number 1 0 false false 0)))))))) ∷ []) ≡ Accepted ((0 ∷ 0 ∷ []) ∷ (0 ∷ 1 ∷ 0 ∷ 8 ∷ 1 ∷ 0 ∷ 1 ∷ 0 ∷ 8 ∷ []) ∷ []) (0 ∷ 1 ∷ []) ([]) ((1 ∷ 1 ∷ 0 ∷ 16 ∷ 1 ∷ 1 ∷ 99 ∷ []) ∷ []))
    -- int a[2][3]; int *p = a[1]; int *q = &a[1][2]; int (*r)[3] = a + 1; int *s = *(a + 1) + 3; int main(void){return 0;}
    × (judged ((97 ∷ []) ∷ (112 ∷ []) ∷ (113 ∷ []) ∷ (114 ∷ []) ∷ (115 ∷ []) ∷ (109 ∷ 97 ∷ 105 ∷ 110 ∷ []) ∷ []) ([]) ((Declaration 1 (Then NoTrees (OfSpecifier (Keyword 1 word.Int))) (Then NoTrees (OfDeclaration (InitDeclarator 1 (Array 1 (Array 1 (DeclaredName 1 0) (Present (OfExpression (Number 1 2 true false 0)))) (Present (OfExpression (Number 1 3 true false 0)))) Absent)))) ∷ (Declaration 1 (Then NoTrees (OfSpecifier (Keyword 1 word.Int))) (Then NoTrees (OfDeclaration (InitDeclarator 1 (Pointer 1 0 (DeclaredName 1 1)) (Present (OfInitializer (Initial 1 (Index 1 (Name 1 0) (Number 1 1 true false 0))))))))) ∷ (Declaration 1 (Then NoTrees (OfSpecifier (Keyword 1 word.Int))) (Then NoTrees (OfDeclaration (InitDeclarator 1 (Pointer 1 0 (DeclaredName 1 2)) (Present (OfInitializer (Initial 1 (Unary 1 unary.Address (Index 1 (Index 1 (Name 1 0) (Number 1 1 true false 0)) (Number 1 2 true false 0)))))))))) ∷ (Declaration 1 (Then NoTrees (OfSpecifier (Keyword 1 word.Int))) (Then NoTrees (OfDeclaration (InitDeclarator 1 (Array 1 (ParenDeclarator 1 (Pointer 1 0 (DeclaredName 1 3))) (Present (OfExpression (Number 1 3 true false 0)))) (Present (OfInitializer (Initial 1 (Binary 1 op.Add (Name 1 0) (Number 1 1 true false 0))))))))) ∷ (Declaration 1 (Then NoTrees (OfSpecifier (Keyword 1 word.Int))) (Then NoTrees (OfDeclaration (InitDeclarator 1 (Pointer 1 0 (DeclaredName 1 4)) (Present (OfInitializer (Initial 1 (Binary 1 op.Add (Unary 1 unary.Indirection (Paren 1 (Binary 1 op.Add (Name 1 0) (Number 1 1 true false 0)))) (Number 1 3 true false 0))))))))) ∷ (Function 1 (Then NoTrees (OfSpecifier (Keyword 1 word.Int))) (FunctionDeclarator 1 (DeclaredName 1 5) (Then NoTrees (OfDeclaration (Parameter 1 (Then NoTrees (OfSpecifier (Keyword 1 word.Void))) Absent))) false) (Block 1 (Then NoTrees (OfStatement (Return 1 (Present (OfExpression (Number 1 0 false false 0)))))))) ∷ []) ≡ Accepted ((0 ∷ 0 ∷ []) ∷ (0 ∷ 1 ∷ 0 ∷ 8 ∷ 1 ∷ 0 ∷ 1 ∷ 0 ∷ 12 ∷ []) ∷ (0 ∷ 1 ∷ 0 ∷ 8 ∷ 1 ∷ 0 ∷ 1 ∷ 0 ∷ 20 ∷ []) ∷ (0 ∷ 1 ∷ 0 ∷ 8 ∷ 1 ∷ 0 ∷ 1 ∷ 0 ∷ 12 ∷ []) ∷ (0 ∷ 1 ∷ 0 ∷ 8 ∷ 1 ∷ 0 ∷ 1 ∷ 0 ∷ 24 ∷ []) ∷ []) (0 ∷ 1 ∷ 2 ∷ 3 ∷ 4 ∷ []) ([]) ((1 ∷ 1 ∷ 0 ∷ 16 ∷ 1 ∷ 1 ∷ 99 ∷ []) ∷ []))
    -- int a[2][3]; int *p = a[1] + 4; int main(void){return 0;}
    × (judged ((97 ∷ []) ∷ (112 ∷ []) ∷ (109 ∷ 97 ∷ 105 ∷ 110 ∷ []) ∷ []) ([]) ((Declaration 1 (Then NoTrees (OfSpecifier (Keyword 1 word.Int))) (Then NoTrees (OfDeclaration (InitDeclarator 1 (Array 1 (Array 1 (DeclaredName 1 0) (Present (OfExpression (Number 1 2 true false 0)))) (Present (OfExpression (Number 1 3 true false 0)))) Absent)))) ∷ (Declaration 1 (Then NoTrees (OfSpecifier (Keyword 1 word.Int))) (Then NoTrees (OfDeclaration (InitDeclarator 1 (Pointer 1 0 (DeclaredName 1 1)) (Present (OfInitializer (Initial 1 (Binary 1 op.Add (Index 1 (Name 1 0) (Number 1 1 true false 0)) (Number 1 4 true false 0))))))))) ∷ (Function 1 (Then NoTrees (OfSpecifier (Keyword 1 word.Int))) (FunctionDeclarator 1 (DeclaredName 1 2) (Then NoTrees (OfDeclaration (Parameter 1 (Then NoTrees (OfSpecifier (Keyword 1 word.Void))) Absent))) false) (Block 1 (Then NoTrees (OfStatement (Return 1 (Present (OfExpression (Number 1 0 false false 0)))))))) ∷ []) ≡ Refused 1)
    -- int a[2][3]; int *p = &a[0][5]; int main(void){return 0;}
    × (judged ((97 ∷ []) ∷ (112 ∷ []) ∷ (109 ∷ 97 ∷ 105 ∷ 110 ∷ []) ∷ []) ([]) ((Declaration 1 (Then NoTrees (OfSpecifier (Keyword 1 word.Int))) (Then NoTrees (OfDeclaration (InitDeclarator 1 (Array 1 (Array 1 (DeclaredName 1 0) (Present (OfExpression (Number 1 2 true false 0)))) (Present (OfExpression (Number 1 3 true false 0)))) Absent)))) ∷ (Declaration 1 (Then NoTrees (OfSpecifier (Keyword 1 word.Int))) (Then NoTrees (OfDeclaration (InitDeclarator 1 (Pointer 1 0 (DeclaredName 1 1)) (Present (OfInitializer (Initial 1 (Unary 1 unary.Address (Index 1 (Index 1 (Name 1 0) (Number 1 0 false false 0)) (Number 1 5 true false 0)))))))))) ∷ (Function 1 (Then NoTrees (OfSpecifier (Keyword 1 word.Int))) (FunctionDeclarator 1 (DeclaredName 1 2) (Then NoTrees (OfDeclaration (Parameter 1 (Then NoTrees (OfSpecifier (Keyword 1 word.Void))) Absent))) false) (Block 1 (Then NoTrees (OfStatement (Return 1 (Present (OfExpression (Number 1 0 false false 0)))))))) ∷ []) ≡ Accepted ((0 ∷ 0 ∷ []) ∷ (0 ∷ 1 ∷ 0 ∷ 8 ∷ 1 ∷ 0 ∷ 1 ∷ 0 ∷ 20 ∷ []) ∷ []) (0 ∷ 1 ∷ []) ([]) ((1 ∷ 1 ∷ 0 ∷ 16 ∷ 1 ∷ 1 ∷ 99 ∷ []) ∷ []))
unfolding type_of_words library_named are_compatible layouts_of initialized_object values
array_addresses = (refl, refl, refl, refl, refl, refl, refl, refl, refl, refl)

-- 6.6p9: addresses of members
member_addresses :
    -- struct s {char c; int i; long n[2];} v; int *p = &v.i; long *q = v.n + 1; long *r = &v.n[2]; char *s = &v.c; int main(void){return 0;}
    (judged ((115 ∷ []) ∷ (99 ∷ []) ∷ (105 ∷ []) ∷ (110 ∷ []) ∷ (118 ∷ []) ∷ (112 ∷ []) ∷ (113 ∷ []) ∷ (114 ∷ []) ∷ (109 ∷ 97 ∷ 105 ∷ 110 ∷ []) ∷ []) ([]) ((Declaration 1 (Then NoTrees (OfSpecifier (Composite 1 word.Struct (Some 0) (Then (Then (Then NoTrees (OfDeclaration (MemberDeclaration 1 (Then NoTrees (OfSpecifier (Keyword 1 word.Char))) (Then NoTrees (OfDeclarator (DeclaredName 1 1)))))) (OfDeclaration (MemberDeclaration 1 (Then NoTrees (OfSpecifier (Keyword 1 word.Int))) (Then NoTrees (OfDeclarator (DeclaredName 1 2)))))) (OfDeclaration (MemberDeclaration 1 (Then NoTrees (OfSpecifier (Keyword 1 word.Long))) (Then NoTrees (OfDeclarator (Array 1 (DeclaredName 1 3) (Present (OfExpression (Number 1 2 true false 0)))))))))))) (Then NoTrees (OfDeclaration (InitDeclarator 1 (DeclaredName 1 4) Absent)))) ∷ (Declaration 1 (Then NoTrees (OfSpecifier (Keyword 1 word.Int))) (Then NoTrees (OfDeclaration (InitDeclarator 1 (Pointer 1 0 (DeclaredName 1 5)) (Present (OfInitializer (Initial 1 (Unary 1 unary.Address (Member 1 (Name 1 4) 2))))))))) ∷ (Declaration 1 (Then NoTrees (OfSpecifier (Keyword 1 word.Long))) (Then NoTrees (OfDeclaration (InitDeclarator 1 (Pointer 1 0 (DeclaredName 1 6)) (Present (OfInitializer (Initial 1 (Binary 1 op.Add (Member 1 (Name 1 4) 3) (Number 1 1 true false 0))))))))) ∷ (Declaration 1 (Then NoTrees (OfSpecifier (Keyword 1 word.Long))) (Then NoTrees (OfDeclaration (InitDeclarator 1 (Pointer 1 0 (DeclaredName 1 7)) (Present (OfInitializer (Initial 1 (Unary 1 unary.Address (Index 1 (Member 1 (Name 1 4) 3) (Number 1 2 true false 0)))))))))) ∷ (Declaration 1 (Then NoTrees (OfSpecifier (Keyword 1 word.Char))) (Then NoTrees (OfDeclaration (InitDeclarator 1 (Pointer 1 0 (DeclaredName 1 0)) (Present (OfInitializer (Initial 1 (Unary 1 unary.Address (Member 1 (Name 1 4) 1))))))))) ∷ (Function 1 (Then NoTrees (OfSpecifier (Keyword 1 word.Int))) (FunctionDeclarator 1 (DeclaredName 1 8) (Then NoTrees (OfDeclaration (Parameter 1 (Then NoTrees (OfSpecifier (Keyword 1 word.Void))) Absent))) false) (Block 1 (Then NoTrees (OfStatement (Return 1 (Present (OfExpression (Number 1 0 false false 0)))))))) ∷ []) ≡ Accepted ((0 ∷ 0 ∷ []) ∷ (0 ∷ 1 ∷ 0 ∷ 8 ∷ 1 ∷ 0 ∷ 1 ∷ 4 ∷ 4 ∷ []) ∷ (0 ∷ 1 ∷ 0 ∷ 8 ∷ 1 ∷ 0 ∷ 1 ∷ 4 ∷ 16 ∷ []) ∷ (0 ∷ 1 ∷ 0 ∷ 8 ∷ 1 ∷ 0 ∷ 1 ∷ 4 ∷ 24 ∷ []) ∷ (0 ∷ 1 ∷ 0 ∷ 8 ∷ 1 ∷ 0 ∷ 1 ∷ 4 ∷ 0 ∷ []) ∷ []) (4 ∷ 5 ∷ 6 ∷ 7 ∷ 0 ∷ []) ([]) ((1 ∷ 1 ∷ 0 ∷ 16 ∷ 1 ∷ 1 ∷ 99 ∷ []) ∷ []))
    -- struct s {char c; int i; long n[2];} v; long *p = &v.n[3]; int main(void){return 0;}
    × (judged ((115 ∷ []) ∷ (99 ∷ []) ∷ (105 ∷ []) ∷ (110 ∷ []) ∷ (118 ∷ []) ∷ (112 ∷ []) ∷ (109 ∷ 97 ∷ 105 ∷ 110 ∷ []) ∷ []) ([]) ((Declaration 1 (Then NoTrees (OfSpecifier (Composite 1 word.Struct (Some 0) (Then (Then (Then NoTrees (OfDeclaration (MemberDeclaration 1 (Then NoTrees (OfSpecifier (Keyword 1 word.Char))) (Then NoTrees (OfDeclarator (DeclaredName 1 1)))))) (OfDeclaration (MemberDeclaration 1 (Then NoTrees (OfSpecifier (Keyword 1 word.Int))) (Then NoTrees (OfDeclarator (DeclaredName 1 2)))))) (OfDeclaration (MemberDeclaration 1 (Then NoTrees (OfSpecifier (Keyword 1 word.Long))) (Then NoTrees (OfDeclarator (Array 1 (DeclaredName 1 3) (Present (OfExpression (Number 1 2 true false 0)))))))))))) (Then NoTrees (OfDeclaration (InitDeclarator 1 (DeclaredName 1 4) Absent)))) ∷ (Declaration 1 (Then NoTrees (OfSpecifier (Keyword 1 word.Long))) (Then NoTrees (OfDeclaration (InitDeclarator 1 (Pointer 1 0 (DeclaredName 1 5)) (Present (OfInitializer (Initial 1 (Unary 1 unary.Address (Index 1 (Member 1 (Name 1 4) 3) (Number 1 3 true false 0)))))))))) ∷ (Function 1 (Then NoTrees (OfSpecifier (Keyword 1 word.Int))) (FunctionDeclarator 1 (DeclaredName 1 6) (Then NoTrees (OfDeclaration (Parameter 1 (Then NoTrees (OfSpecifier (Keyword 1 word.Void))) Absent))) false) (Block 1 (Then NoTrees (OfStatement (Return 1 (Present (OfExpression (Number 1 0 false false 0)))))))) ∷ []) ≡ Refused 1)
    -- struct s {int i; struct t {int j; int k;} m;} v; int *p = &v.m.k; int *q = &(&v.m)->k; int *r = &(*&v).m.j; int main(void){return 0;}
    × (judged ((115 ∷ []) ∷ (105 ∷ []) ∷ (116 ∷ []) ∷ (106 ∷ []) ∷ (107 ∷ []) ∷ (109 ∷ []) ∷ (118 ∷ []) ∷ (112 ∷ []) ∷ (113 ∷ []) ∷ (114 ∷ []) ∷ (109 ∷ 97 ∷ 105 ∷ 110 ∷ []) ∷ []) ([]) ((Declaration 1 (Then NoTrees (OfSpecifier (Composite 1 word.Struct (Some 0) (Then (Then NoTrees (OfDeclaration (MemberDeclaration 1 (Then NoTrees (OfSpecifier (Keyword 1 word.Int))) (Then NoTrees (OfDeclarator (DeclaredName 1 1)))))) (OfDeclaration (MemberDeclaration 1 (Then NoTrees (OfSpecifier (Composite 1 word.Struct (Some 2) (Then (Then NoTrees (OfDeclaration (MemberDeclaration 1 (Then NoTrees (OfSpecifier (Keyword 1 word.Int))) (Then NoTrees (OfDeclarator (DeclaredName 1 3)))))) (OfDeclaration (MemberDeclaration 1 (Then NoTrees (OfSpecifier (Keyword 1 word.Int))) (Then NoTrees (OfDeclarator (DeclaredName 1 4))))))))) (Then NoTrees (OfDeclarator (DeclaredName 1 5))))))))) (Then NoTrees (OfDeclaration (InitDeclarator 1 (DeclaredName 1 6) Absent)))) ∷ (Declaration 1 (Then NoTrees (OfSpecifier (Keyword 1 word.Int))) (Then NoTrees (OfDeclaration (InitDeclarator 1 (Pointer 1 0 (DeclaredName 1 7)) (Present (OfInitializer (Initial 1 (Unary 1 unary.Address (Member 1 (Member 1 (Name 1 6) 5) 4))))))))) ∷ (Declaration 1 (Then NoTrees (OfSpecifier (Keyword 1 word.Int))) (Then NoTrees (OfDeclaration (InitDeclarator 1 (Pointer 1 0 (DeclaredName 1 8)) (Present (OfInitializer (Initial 1 (Unary 1 unary.Address (Arrow 1 (Paren 1 (Unary 1 unary.Address (Member 1 (Name 1 6) 5))) 4))))))))) ∷ (Declaration 1 (Then NoTrees (OfSpecifier (Keyword 1 word.Int))) (Then NoTrees (OfDeclaration (InitDeclarator 1 (Pointer 1 0 (DeclaredName 1 9)) (Present (OfInitializer (Initial 1 (Unary 1 unary.Address (Member 1 (Member 1 (Paren 1 (Unary 1 unary.Indirection (Unary 1 unary.Address (Name 1 6)))) 5) 3))))))))) ∷ (Function 1 (Then NoTrees (OfSpecifier (Keyword 1 word.Int))) (FunctionDeclarator 1 (DeclaredName 1 10) (Then NoTrees (OfDeclaration (Parameter 1 (Then NoTrees (OfSpecifier (Keyword 1 word.Void))) Absent))) false) (Block 1 (Then NoTrees (OfStatement (Return 1 (Present (OfExpression (Number 1 0 false false 0)))))))) ∷ []) ≡ Accepted ((0 ∷ 0 ∷ []) ∷ (0 ∷ 1 ∷ 0 ∷ 8 ∷ 1 ∷ 0 ∷ 1 ∷ 6 ∷ 8 ∷ []) ∷ (0 ∷ 1 ∷ 0 ∷ 8 ∷ 1 ∷ 0 ∷ 1 ∷ 6 ∷ 8 ∷ []) ∷ (0 ∷ 1 ∷ 0 ∷ 8 ∷ 1 ∷ 0 ∷ 1 ∷ 6 ∷ 4 ∷ []) ∷ []) (6 ∷ 7 ∷ 8 ∷ 9 ∷ []) ([]) ((1 ∷ 1 ∷ 0 ∷ 16 ∷ 1 ∷ 1 ∷ 99 ∷ []) ∷ []))
    -- struct s {int i; int k;} v[2]; int *p = &v[1].k; int *q = &(v + 1)->i; struct s *r = v + 2; int main(void){return 0;}
    × (judged ((115 ∷ []) ∷ (105 ∷ []) ∷ (107 ∷ []) ∷ (118 ∷ []) ∷ (112 ∷ []) ∷ (113 ∷ []) ∷ (114 ∷ []) ∷ (109 ∷ 97 ∷ 105 ∷ 110 ∷ []) ∷ []) ([]) ((Declaration 1 (Then NoTrees (OfSpecifier (Composite 1 word.Struct (Some 0) (Then (Then NoTrees (OfDeclaration (MemberDeclaration 1 (Then NoTrees (OfSpecifier (Keyword 1 word.Int))) (Then NoTrees (OfDeclarator (DeclaredName 1 1)))))) (OfDeclaration (MemberDeclaration 1 (Then NoTrees (OfSpecifier (Keyword 1 word.Int))) (Then NoTrees (OfDeclarator (DeclaredName 1 2))))))))) (Then NoTrees (OfDeclaration (InitDeclarator 1 (Array 1 (DeclaredName 1 3) (Present (OfExpression (Number 1 2 true false 0)))) Absent)))) ∷ (Declaration 1 (Then NoTrees (OfSpecifier (Keyword 1 word.Int))) (Then NoTrees (OfDeclaration (InitDeclarator 1 (Pointer 1 0 (DeclaredName 1 4)) (Present (OfInitializer (Initial 1 (Unary 1 unary.Address (Member 1 (Index 1 (Name 1 3) (Number 1 1 true false 0)) 2))))))))) ∷ (Declaration 1 (Then NoTrees (OfSpecifier (Keyword 1 word.Int))) (Then NoTrees (OfDeclaration (InitDeclarator 1 (Pointer 1 0 (DeclaredName 1 5)) (Present (OfInitializer (Initial 1 (Unary 1 unary.Address (Arrow 1 (Paren 1 (Binary 1 op.Add (Name 1 3) (Number 1 1 true false 0))) 1))))))))) ∷ (Declaration 1 (Then NoTrees (OfSpecifier (Tag 1 word.Struct 0))) (Then NoTrees (OfDeclaration (InitDeclarator 1 (Pointer 1 0 (DeclaredName 1 6)) (Present (OfInitializer (Initial 1 (Binary 1 op.Add (Name 1 3) (Number 1 2 true false 0))))))))) ∷ (Function 1 (Then NoTrees (OfSpecifier (Keyword 1 word.Int))) (FunctionDeclarator 1 (DeclaredName 1 7) (Then NoTrees (OfDeclaration (Parameter 1 (Then NoTrees (OfSpecifier (Keyword 1 word.Void))) Absent))) false) (Block 1 (Then NoTrees (OfStatement (Return 1 (Present (OfExpression (Number 1 0 false false 0)))))))) ∷ []) ≡ Accepted ((0 ∷ 0 ∷ []) ∷ (0 ∷ 1 ∷ 0 ∷ 8 ∷ 1 ∷ 0 ∷ 1 ∷ 3 ∷ 12 ∷ []) ∷ (0 ∷ 1 ∷ 0 ∷ 8 ∷ 1 ∷ 0 ∷ 1 ∷ 3 ∷ 8 ∷ []) ∷ (0 ∷ 1 ∷ 0 ∷ 8 ∷ 1 ∷ 0 ∷ 1 ∷ 3 ∷ 16 ∷ []) ∷ []) (3 ∷ 4 ∷ 5 ∷ 6 ∷ []) ([]) ((1 ∷ 1 ∷ 0 ∷ 16 ∷ 1 ∷ 1 ∷ 99 ∷ []) ∷ []))
    -- struct s {int i; int k;} v[2]; int *q = &(v + 2)->k; int main(void){return 0;}
    × (judged ((115 ∷ []) ∷ (105 ∷ []) ∷ (107 ∷ []) ∷ (118 ∷ []) ∷ (113 ∷ []) ∷ (109 ∷ 97 ∷ 105 ∷ 110 ∷ []) ∷ []) ([]) ((Declaration 1 (Then NoTrees (OfSpecifier (Composite 1 word.Struct (Some 0) (Then (Then NoTrees (OfDeclaration (MemberDeclaration 1 (Then NoTrees (OfSpecifier (Keyword 1 word.Int))) (Then NoTrees (OfDeclarator (DeclaredName 1 1)))))) (OfDeclaration (MemberDeclaration 1 (Then NoTrees (OfSpecifier (Keyword 1 word.Int))) (Then NoTrees (OfDeclarator (DeclaredName 1 2))))))))) (Then NoTrees (OfDeclaration (InitDeclarator 1 (Array 1 (DeclaredName 1 3) (Present (OfExpression (Number 1 2 true false 0)))) Absent)))) ∷ (Declaration 1 (Then NoTrees (OfSpecifier (Keyword 1 word.Int))) (Then NoTrees (OfDeclaration (InitDeclarator 1 (Pointer 1 0 (DeclaredName 1 4)) (Present (OfInitializer (Initial 1 (Unary 1 unary.Address (Arrow 1 (Paren 1 (Binary 1 op.Add (Name 1 3) (Number 1 2 true false 0))) 2))))))))) ∷ (Function 1 (Then NoTrees (OfSpecifier (Keyword 1 word.Int))) (FunctionDeclarator 1 (DeclaredName 1 5) (Then NoTrees (OfDeclaration (Parameter 1 (Then NoTrees (OfSpecifier (Keyword 1 word.Void))) Absent))) false) (Block 1 (Then NoTrees (OfStatement (Return 1 (Present (OfExpression (Number 1 0 false false 0)))))))) ∷ []) ≡ Refused 1)
unfolding type_of_words library_named are_compatible layouts_of initialized_object values
member_addresses = (refl, refl, refl, refl, refl)

-- 6.6p9, 6.3.2.3p3: casts of addresses, and null pointers
cast_addresses :
    -- int x; char *p = (char *)&x + 3; char *q = (char *)&x + 4; void *r = &x; int main(void){return 0;}
    (judged ((120 ∷ []) ∷ (112 ∷ []) ∷ (113 ∷ []) ∷ (114 ∷ []) ∷ (109 ∷ 97 ∷ 105 ∷ 110 ∷ []) ∷ []) ([]) ((Declaration 1 (Then NoTrees (OfSpecifier (Keyword 1 word.Int))) (Then NoTrees (OfDeclaration (InitDeclarator 1 (DeclaredName 1 0) Absent)))) ∷ (Declaration 1 (Then NoTrees (OfSpecifier (Keyword 1 word.Char))) (Then NoTrees (OfDeclaration (InitDeclarator 1 (Pointer 1 0 (DeclaredName 1 1)) (Present (OfInitializer (Initial 1 (Binary 1 op.Add (Cast 1 (TypeName 1 (Then NoTrees (OfSpecifier (Keyword 1 word.Char))) (Present (OfDeclarator (AbstractPointer 1 0 Absent)))) (Unary 1 unary.Address (Name 1 0))) (Number 1 3 true false 0))))))))) ∷ (Declaration 1 (Then NoTrees (OfSpecifier (Keyword 1 word.Char))) (Then NoTrees (OfDeclaration (InitDeclarator 1 (Pointer 1 0 (DeclaredName 1 2)) (Present (OfInitializer (Initial 1 (Binary 1 op.Add (Cast 1 (TypeName 1 (Then NoTrees (OfSpecifier (Keyword 1 word.Char))) (Present (OfDeclarator (AbstractPointer 1 0 Absent)))) (Unary 1 unary.Address (Name 1 0))) (Number 1 4 true false 0))))))))) ∷ (Declaration 1 (Then NoTrees (OfSpecifier (Keyword 1 word.Void))) (Then NoTrees (OfDeclaration (InitDeclarator 1 (Pointer 1 0 (DeclaredName 1 3)) (Present (OfInitializer (Initial 1 (Unary 1 unary.Address (Name 1 0))))))))) ∷ (Function 1 (Then NoTrees (OfSpecifier (Keyword 1 word.Int))) (FunctionDeclarator 1 (DeclaredName 1 4) (Then NoTrees (OfDeclaration (Parameter 1 (Then NoTrees (OfSpecifier (Keyword 1 word.Void))) Absent))) false) (Block 1 (Then NoTrees (OfStatement (Return 1 (Present (OfExpression (Number 1 0 false false 0)))))))) ∷ []) ≡ Accepted ((0 ∷ 0 ∷ []) ∷ (0 ∷ 1 ∷ 0 ∷ 8 ∷ 1 ∷ 0 ∷ 1 ∷ 0 ∷ 3 ∷ []) ∷ (0 ∷ 1 ∷ 0 ∷ 8 ∷ 1 ∷ 0 ∷ 1 ∷ 0 ∷ 4 ∷ []) ∷ (0 ∷ 1 ∷ 0 ∷ 8 ∷ 1 ∷ 0 ∷ 1 ∷ 0 ∷ 0 ∷ []) ∷ []) (0 ∷ 1 ∷ 2 ∷ 3 ∷ []) ([]) ((1 ∷ 1 ∷ 0 ∷ 16 ∷ 1 ∷ 1 ∷ 99 ∷ []) ∷ []))
    -- int x; char *p = (char *)&x + 5; int main(void){return 0;}
    × (judged ((120 ∷ []) ∷ (112 ∷ []) ∷ (109 ∷ 97 ∷ 105 ∷ 110 ∷ []) ∷ []) ([]) ((Declaration 1 (Then NoTrees (OfSpecifier (Keyword 1 word.Int))) (Then NoTrees (OfDeclaration (InitDeclarator 1 (DeclaredName 1 0) Absent)))) ∷ (Declaration 1 (Then NoTrees (OfSpecifier (Keyword 1 word.Char))) (Then NoTrees (OfDeclaration (InitDeclarator 1 (Pointer 1 0 (DeclaredName 1 1)) (Present (OfInitializer (Initial 1 (Binary 1 op.Add (Cast 1 (TypeName 1 (Then NoTrees (OfSpecifier (Keyword 1 word.Char))) (Present (OfDeclarator (AbstractPointer 1 0 Absent)))) (Unary 1 unary.Address (Name 1 0))) (Number 1 5 true false 0))))))))) ∷ (Function 1 (Then NoTrees (OfSpecifier (Keyword 1 word.Int))) (FunctionDeclarator 1 (DeclaredName 1 2) (Then NoTrees (OfDeclaration (Parameter 1 (Then NoTrees (OfSpecifier (Keyword 1 word.Void))) Absent))) false) (Block 1 (Then NoTrees (OfStatement (Return 1 (Present (OfExpression (Number 1 0 false false 0)))))))) ∷ []) ≡ Refused 1)
    -- int x; int *p = (int *)(char *)&x; long *q = (long *)&x; int main(void){return 0;}
    × (judged ((120 ∷ []) ∷ (112 ∷ []) ∷ (113 ∷ []) ∷ (109 ∷ 97 ∷ 105 ∷ 110 ∷ []) ∷ []) ([]) ((Declaration 1 (Then NoTrees (OfSpecifier (Keyword 1 word.Int))) (Then NoTrees (OfDeclaration (InitDeclarator 1 (DeclaredName 1 0) Absent)))) ∷ (Declaration 1 (Then NoTrees (OfSpecifier (Keyword 1 word.Int))) (Then NoTrees (OfDeclaration (InitDeclarator 1 (Pointer 1 0 (DeclaredName 1 1)) (Present (OfInitializer (Initial 1 (Cast 1 (TypeName 1 (Then NoTrees (OfSpecifier (Keyword 1 word.Int))) (Present (OfDeclarator (AbstractPointer 1 0 Absent)))) (Cast 1 (TypeName 1 (Then NoTrees (OfSpecifier (Keyword 1 word.Char))) (Present (OfDeclarator (AbstractPointer 1 0 Absent)))) (Unary 1 unary.Address (Name 1 0))))))))))) ∷ (Declaration 1 (Then NoTrees (OfSpecifier (Keyword 1 word.Long))) (Then NoTrees (OfDeclaration (InitDeclarator 1 (Pointer 1 0 (DeclaredName 1 2)) (Present (OfInitializer (Initial 1 (Cast 1 (TypeName 1 (Then NoTrees (OfSpecifier (Keyword 1 word.Long))) (Present (OfDeclarator (AbstractPointer 1 0 Absent)))) (Unary 1 unary.Address (Name 1 0)))))))))) ∷ (Function 1 (Then NoTrees (OfSpecifier (Keyword 1 word.Int))) (FunctionDeclarator 1 (DeclaredName 1 3) (Then NoTrees (OfDeclaration (Parameter 1 (Then NoTrees (OfSpecifier (Keyword 1 word.Void))) Absent))) false) (Block 1 (Then NoTrees (OfStatement (Return 1 (Present (OfExpression (Number 1 0 false false 0)))))))) ∷ []) ≡ Accepted ((0 ∷ 0 ∷ []) ∷ (0 ∷ 1 ∷ 0 ∷ 8 ∷ 1 ∷ 0 ∷ 1 ∷ 0 ∷ 0 ∷ []) ∷ (0 ∷ 1 ∷ 0 ∷ 8 ∷ 1 ∷ 0 ∷ 1 ∷ 0 ∷ 0 ∷ []) ∷ []) (0 ∷ 1 ∷ 2 ∷ []) ([]) ((1 ∷ 1 ∷ 0 ∷ 16 ∷ 1 ∷ 1 ∷ 99 ∷ []) ∷ []))
    -- int x; int *p = &*&x; int main(void){return 0;}
    × (judged ((120 ∷ []) ∷ (112 ∷ []) ∷ (109 ∷ 97 ∷ 105 ∷ 110 ∷ []) ∷ []) ([]) ((Declaration 1 (Then NoTrees (OfSpecifier (Keyword 1 word.Int))) (Then NoTrees (OfDeclaration (InitDeclarator 1 (DeclaredName 1 0) Absent)))) ∷ (Declaration 1 (Then NoTrees (OfSpecifier (Keyword 1 word.Int))) (Then NoTrees (OfDeclaration (InitDeclarator 1 (Pointer 1 0 (DeclaredName 1 1)) (Present (OfInitializer (Initial 1 (Unary 1 unary.Address (Unary 1 unary.Indirection (Unary 1 unary.Address (Name 1 0))))))))))) ∷ (Function 1 (Then NoTrees (OfSpecifier (Keyword 1 word.Int))) (FunctionDeclarator 1 (DeclaredName 1 2) (Then NoTrees (OfDeclaration (Parameter 1 (Then NoTrees (OfSpecifier (Keyword 1 word.Void))) Absent))) false) (Block 1 (Then NoTrees (OfStatement (Return 1 (Present (OfExpression (Number 1 0 false false 0)))))))) ∷ []) ≡ Accepted ((0 ∷ 0 ∷ []) ∷ (0 ∷ 1 ∷ 0 ∷ 8 ∷ 1 ∷ 0 ∷ 1 ∷ 0 ∷ 0 ∷ []) ∷ []) (0 ∷ 1 ∷ []) ([]) ((1 ∷ 1 ∷ 0 ∷ 16 ∷ 1 ∷ 1 ∷ 99 ∷ []) ∷ []))
    -- int x; int *p = 0; int *q = (void *)0; int *r = (int *)0; char *s = 0L; void *t = 1 - 1; int main(void){return 0;}
    × (judged ((120 ∷ []) ∷ (112 ∷ []) ∷ (113 ∷ []) ∷ (114 ∷ []) ∷ (115 ∷ []) ∷ (116 ∷ []) ∷ (109 ∷ 97 ∷ 105 ∷ 110 ∷ []) ∷ []) ([]) ((Declaration 1 (Then NoTrees (OfSpecifier (Keyword 1 word.Int))) (Then NoTrees (OfDeclaration (InitDeclarator 1 (DeclaredName 1 0) Absent)))) ∷ (Declaration 1 (Then NoTrees (OfSpecifier (Keyword 1 word.Int))) (Then NoTrees (OfDeclaration (InitDeclarator 1 (Pointer 1 0 (DeclaredName 1 1)) (Present (OfInitializer (Initial 1 (Number 1 0 false false 0)))))))) ∷ (Declaration 1 (Then NoTrees (OfSpecifier (Keyword 1 word.Int))) (Then NoTrees (OfDeclaration (InitDeclarator 1 (Pointer 1 0 (DeclaredName 1 2)) (Present (OfInitializer (Initial 1 (Cast 1 (TypeName 1 (Then NoTrees (OfSpecifier (Keyword 1 word.Void))) (Present (OfDeclarator (AbstractPointer 1 0 Absent)))) (Number 1 0 false false 0))))))))) ∷ (Declaration 1 (Then NoTrees (OfSpecifier (Keyword 1 word.Int))) (Then NoTrees (OfDeclaration (InitDeclarator 1 (Pointer 1 0 (DeclaredName 1 3)) (Present (OfInitializer (Initial 1 (Cast 1 (TypeName 1 (Then NoTrees (OfSpecifier (Keyword 1 word.Int))) (Present (OfDeclarator (AbstractPointer 1 0 Absent)))) (Number 1 0 false false 0))))))))) ∷ (Declaration 1 (Then NoTrees (OfSpecifier (Keyword 1 word.Char))) (Then NoTrees (OfDeclaration (InitDeclarator 1 (Pointer 1 0 (DeclaredName 1 4)) (Present (OfInitializer (Initial 1 (Number 1 0 false false 1)))))))) ∷ (Declaration 1 (Then NoTrees (OfSpecifier (Keyword 1 word.Void))) (Then NoTrees (OfDeclaration (InitDeclarator 1 (Pointer 1 0 (DeclaredName 1 5)) (Present (OfInitializer (Initial 1 (Binary 1 op.Subtract (Number 1 1 true false 0) (Number 1 1 true false 0))))))))) ∷ (Function 1 (Then NoTrees (OfSpecifier (Keyword 1 word.Int))) (FunctionDeclarator 1 (DeclaredName 1 6) (Then NoTrees (OfDeclaration (Parameter 1 (Then NoTrees (OfSpecifier (Keyword 1 word.Void))) Absent))) false) (Block 1 (Then NoTrees (OfStatement (Return 1 (Present (OfExpression (Number 1 0 false false 0)))))))) ∷ []) ≡ Accepted ((0 ∷ 0 ∷ []) ∷ (0 ∷ 1 ∷ 0 ∷ 8 ∷ 1 ∷ 0 ∷ 3 ∷ []) ∷ (0 ∷ 1 ∷ 0 ∷ 8 ∷ 1 ∷ 0 ∷ 3 ∷ []) ∷ (0 ∷ 1 ∷ 0 ∷ 8 ∷ 1 ∷ 0 ∷ 3 ∷ []) ∷ (0 ∷ 1 ∷ 0 ∷ 8 ∷ 1 ∷ 0 ∷ 3 ∷ []) ∷ (0 ∷ 1 ∷ 0 ∷ 8 ∷ 1 ∷ 0 ∷ 3 ∷ []) ∷ []) (0 ∷ 1 ∷ 2 ∷ 3 ∷ 4 ∷ 5 ∷ []) ([]) ((1 ∷ 1 ∷ 0 ∷ 16 ∷ 1 ∷ 1 ∷ 99 ∷ []) ∷ []))
    -- int *p = (int *)1; int main(void){return 0;}
    × (judged ((112 ∷ []) ∷ (109 ∷ 97 ∷ 105 ∷ 110 ∷ []) ∷ []) ([]) ((Declaration 1 (Then NoTrees (OfSpecifier (Keyword 1 word.Int))) (Then NoTrees (OfDeclaration (InitDeclarator 1 (Pointer 1 0 (DeclaredName 1 0)) (Present (OfInitializer (Initial 1 (Cast 1 (TypeName 1 (Then NoTrees (OfSpecifier (Keyword 1 word.Int))) (Present (OfDeclarator (AbstractPointer 1 0 Absent)))) (Number 1 1 true false 0))))))))) ∷ (Function 1 (Then NoTrees (OfSpecifier (Keyword 1 word.Int))) (FunctionDeclarator 1 (DeclaredName 1 1) (Then NoTrees (OfDeclaration (Parameter 1 (Then NoTrees (OfSpecifier (Keyword 1 word.Void))) Absent))) false) (Block 1 (Then NoTrees (OfStatement (Return 1 (Present (OfExpression (Number 1 0 false false 0)))))))) ∷ []) ≡ Refused 0)
    -- int *p = (int *)(1 - 1); int *q = (int *)(char *)0; int main(void){return 0;}
    × (judged ((112 ∷ []) ∷ (113 ∷ []) ∷ (109 ∷ 97 ∷ 105 ∷ 110 ∷ []) ∷ []) ([]) ((Declaration 1 (Then NoTrees (OfSpecifier (Keyword 1 word.Int))) (Then NoTrees (OfDeclaration (InitDeclarator 1 (Pointer 1 0 (DeclaredName 1 0)) (Present (OfInitializer (Initial 1 (Cast 1 (TypeName 1 (Then NoTrees (OfSpecifier (Keyword 1 word.Int))) (Present (OfDeclarator (AbstractPointer 1 0 Absent)))) (Paren 1 (Binary 1 op.Subtract (Number 1 1 true false 0) (Number 1 1 true false 0))))))))))) ∷ (Declaration 1 (Then NoTrees (OfSpecifier (Keyword 1 word.Int))) (Then NoTrees (OfDeclaration (InitDeclarator 1 (Pointer 1 0 (DeclaredName 1 1)) (Present (OfInitializer (Initial 1 (Cast 1 (TypeName 1 (Then NoTrees (OfSpecifier (Keyword 1 word.Int))) (Present (OfDeclarator (AbstractPointer 1 0 Absent)))) (Cast 1 (TypeName 1 (Then NoTrees (OfSpecifier (Keyword 1 word.Char))) (Present (OfDeclarator (AbstractPointer 1 0 Absent)))) (Number 1 0 false false 0)))))))))) ∷ (Function 1 (Then NoTrees (OfSpecifier (Keyword 1 word.Int))) (FunctionDeclarator 1 (DeclaredName 1 2) (Then NoTrees (OfDeclaration (Parameter 1 (Then NoTrees (OfSpecifier (Keyword 1 word.Void))) Absent))) false) (Block 1 (Then NoTrees (OfStatement (Return 1 (Present (OfExpression (Number 1 0 false false 0)))))))) ∷ []) ≡ Accepted ((0 ∷ 1 ∷ 0 ∷ 8 ∷ 1 ∷ 0 ∷ 3 ∷ []) ∷ (0 ∷ 1 ∷ 0 ∷ 8 ∷ 1 ∷ 0 ∷ 3 ∷ []) ∷ []) (0 ∷ 1 ∷ []) ([]) ((1 ∷ 1 ∷ 0 ∷ 16 ∷ 1 ∷ 1 ∷ 99 ∷ []) ∷ []))
    -- int *p = 1; int main(void){return 0;}
    × (judged ((112 ∷ []) ∷ (109 ∷ 97 ∷ 105 ∷ 110 ∷ []) ∷ []) ([]) ((Declaration 1 (Then NoTrees (OfSpecifier (Keyword 1 word.Int))) (Then NoTrees (OfDeclaration (InitDeclarator 1 (Pointer 1 0 (DeclaredName 1 0)) (Present (OfInitializer (Initial 1 (Number 1 1 true false 0)))))))) ∷ (Function 1 (Then NoTrees (OfSpecifier (Keyword 1 word.Int))) (FunctionDeclarator 1 (DeclaredName 1 1) (Then NoTrees (OfDeclaration (Parameter 1 (Then NoTrees (OfSpecifier (Keyword 1 word.Void))) Absent))) false) (Block 1 (Then NoTrees (OfStatement (Return 1 (Present (OfExpression (Number 1 0 false false 0)))))))) ∷ []) ≡ Refused 0)
    -- int *p = &*(int *)0; int main(void){return 0;}
    × (judged ((112 ∷ []) ∷ (109 ∷ 97 ∷ 105 ∷ 110 ∷ []) ∷ []) ([]) ((Declaration 1 (Then NoTrees (OfSpecifier (Keyword 1 word.Int))) (Then NoTrees (OfDeclaration (InitDeclarator 1 (Pointer 1 0 (DeclaredName 1 0)) (Present (OfInitializer (Initial 1 (Unary 1 unary.Address (Unary 1 unary.Indirection (Cast 1 (TypeName 1 (Then NoTrees (OfSpecifier (Keyword 1 word.Int))) (Present (OfDeclarator (AbstractPointer 1 0 Absent)))) (Number 1 0 false false 0))))))))))) ∷ (Function 1 (Then NoTrees (OfSpecifier (Keyword 1 word.Int))) (FunctionDeclarator 1 (DeclaredName 1 1) (Then NoTrees (OfDeclaration (Parameter 1 (Then NoTrees (OfSpecifier (Keyword 1 word.Void))) Absent))) false) (Block 1 (Then NoTrees (OfStatement (Return 1 (Present (OfExpression (Number 1 0 false false 0)))))))) ∷ []) ≡ Accepted ((0 ∷ 1 ∷ 0 ∷ 8 ∷ 1 ∷ 0 ∷ 3 ∷ []) ∷ []) (0 ∷ []) ([]) ((1 ∷ 1 ∷ 0 ∷ 16 ∷ 1 ∷ 1 ∷ 99 ∷ []) ∷ []))
    -- struct s {int i; int k;}; int *p = &((struct s *)0)->k; int main(void){return 0;}
    × (judged ((115 ∷ []) ∷ (105 ∷ []) ∷ (107 ∷ []) ∷ (112 ∷ []) ∷ (109 ∷ 97 ∷ 105 ∷ 110 ∷ []) ∷ []) ([]) ((Declaration 1 (Then NoTrees (OfSpecifier (Composite 1 word.Struct (Some 0) (Then (Then NoTrees (OfDeclaration (MemberDeclaration 1 (Then NoTrees (OfSpecifier (Keyword 1 word.Int))) (Then NoTrees (OfDeclarator (DeclaredName 1 1)))))) (OfDeclaration (MemberDeclaration 1 (Then NoTrees (OfSpecifier (Keyword 1 word.Int))) (Then NoTrees (OfDeclarator (DeclaredName 1 2))))))))) NoTrees) ∷ (Declaration 1 (Then NoTrees (OfSpecifier (Keyword 1 word.Int))) (Then NoTrees (OfDeclaration (InitDeclarator 1 (Pointer 1 0 (DeclaredName 1 3)) (Present (OfInitializer (Initial 1 (Unary 1 unary.Address (Arrow 1 (Paren 1 (Cast 1 (TypeName 1 (Then NoTrees (OfSpecifier (Tag 1 word.Struct 0))) (Present (OfDeclarator (AbstractPointer 1 0 Absent)))) (Number 1 0 false false 0))) 2))))))))) ∷ (Function 1 (Then NoTrees (OfSpecifier (Keyword 1 word.Int))) (FunctionDeclarator 1 (DeclaredName 1 4) (Then NoTrees (OfDeclaration (Parameter 1 (Then NoTrees (OfSpecifier (Keyword 1 word.Void))) Absent))) false) (Block 1 (Then NoTrees (OfStatement (Return 1 (Present (OfExpression (Number 1 0 false false 0)))))))) ∷ []) ≡ Refused 1)
    -- struct s {int i; int k;}; long n = (long)&((struct s *)0)->k; int main(void){return 0;}
    × (judged ((115 ∷ []) ∷ (105 ∷ []) ∷ (107 ∷ []) ∷ (110 ∷ []) ∷ (109 ∷ 97 ∷ 105 ∷ 110 ∷ []) ∷ []) ([]) ((Declaration 1 (Then NoTrees (OfSpecifier (Composite 1 word.Struct (Some 0) (Then (Then NoTrees (OfDeclaration (MemberDeclaration 1 (Then NoTrees (OfSpecifier (Keyword 1 word.Int))) (Then NoTrees (OfDeclarator (DeclaredName 1 1)))))) (OfDeclaration (MemberDeclaration 1 (Then NoTrees (OfSpecifier (Keyword 1 word.Int))) (Then NoTrees (OfDeclarator (DeclaredName 1 2))))))))) NoTrees) ∷ (Declaration 1 (Then NoTrees (OfSpecifier (Keyword 1 word.Long))) (Then NoTrees (OfDeclaration (InitDeclarator 1 (DeclaredName 1 3) (Present (OfInitializer (Initial 1 (Cast 1 (TypeName 1 (Then NoTrees (OfSpecifier (Keyword 1 word.Long))) Absent) (Unary 1 unary.Address (Arrow 1 (Paren 1 (Cast 1 (TypeName 1 (Then NoTrees (OfSpecifier (Tag 1 word.Struct 0))) (Present (OfDeclarator (AbstractPointer 1 0 Absent)))) (Number 1 0 false false 0))) 2)))))))))) ∷ (Function 1 (Then NoTrees (OfSpecifier (Keyword 1 word.Int))) (FunctionDeclarator 1 (DeclaredName 1 4) (Then NoTrees (OfDeclaration (Parameter 1 (Then NoTrees (OfSpecifier (Keyword 1 word.Void))) Absent))) false) (Block 1 (Then NoTrees (OfStatement (Return 1 (Present (OfExpression (Number 1 0 false false 0)))))))) ∷ []) ≡ Refused 1)
    -- int x; int *p = 1 ? &x : 0; int main(void){return 0;}
    × (judged ((120 ∷ []) ∷ (112 ∷ []) ∷ (109 ∷ 97 ∷ 105 ∷ 110 ∷ []) ∷ []) ([]) ((Declaration 1 (Then NoTrees (OfSpecifier (Keyword 1 word.Int))) (Then NoTrees (OfDeclaration (InitDeclarator 1 (DeclaredName 1 0) Absent)))) ∷ (Declaration 1 (Then NoTrees (OfSpecifier (Keyword 1 word.Int))) (Then NoTrees (OfDeclaration (InitDeclarator 1 (Pointer 1 0 (DeclaredName 1 1)) (Present (OfInitializer (Initial 1 (Conditional 1 (Number 1 1 true false 0) (Unary 1 unary.Address (Name 1 0)) (Number 1 0 false false 0))))))))) ∷ (Function 1 (Then NoTrees (OfSpecifier (Keyword 1 word.Int))) (FunctionDeclarator 1 (DeclaredName 1 2) (Then NoTrees (OfDeclaration (Parameter 1 (Then NoTrees (OfSpecifier (Keyword 1 word.Void))) Absent))) false) (Block 1 (Then NoTrees (OfStatement (Return 1 (Present (OfExpression (Number 1 0 false false 0)))))))) ∷ []) ≡ Refused 1)
unfolding type_of_words library_named are_compatible layouts_of initialized_object values
cast_addresses = (refl, refl, refl, refl, refl, refl, refl, refl, refl, refl, refl, refl)

-- 6.6p9, 6.4.5p6: addresses within literals
text_addresses :
    -- char *p = "abc"; char *q = "abc" + 1; char *r = &"abc"[2]; char *s = "abc" + 4; char *t = &2["ab"]; int main(void){return 0;}
    (judged ((112 ∷ []) ∷ (113 ∷ []) ∷ (114 ∷ []) ∷ (115 ∷ []) ∷ (116 ∷ []) ∷ (109 ∷ 97 ∷ 105 ∷ 110 ∷ []) ∷ []) ((97 ∷ 98 ∷ 99 ∷ []) ∷ (97 ∷ 98 ∷ 99 ∷ []) ∷ (97 ∷ 98 ∷ 99 ∷ []) ∷ (97 ∷ 98 ∷ 99 ∷ []) ∷ (97 ∷ 98 ∷ []) ∷ []) ((Declaration 1 (Then NoTrees (OfSpecifier (Keyword 1 word.Char))) (Then NoTrees (OfDeclaration (InitDeclarator 1 (Pointer 1 0 (DeclaredName 1 0)) (Present (OfInitializer (Initial 1 (Text 1 0 0)))))))) ∷ (Declaration 1 (Then NoTrees (OfSpecifier (Keyword 1 word.Char))) (Then NoTrees (OfDeclaration (InitDeclarator 1 (Pointer 1 0 (DeclaredName 1 1)) (Present (OfInitializer (Initial 1 (Binary 1 op.Add (Text 1 1 0) (Number 1 1 true false 0))))))))) ∷ (Declaration 1 (Then NoTrees (OfSpecifier (Keyword 1 word.Char))) (Then NoTrees (OfDeclaration (InitDeclarator 1 (Pointer 1 0 (DeclaredName 1 2)) (Present (OfInitializer (Initial 1 (Unary 1 unary.Address (Index 1 (Text 1 2 0) (Number 1 2 true false 0)))))))))) ∷ (Declaration 1 (Then NoTrees (OfSpecifier (Keyword 1 word.Char))) (Then NoTrees (OfDeclaration (InitDeclarator 1 (Pointer 1 0 (DeclaredName 1 3)) (Present (OfInitializer (Initial 1 (Binary 1 op.Add (Text 1 3 0) (Number 1 4 true false 0))))))))) ∷ (Declaration 1 (Then NoTrees (OfSpecifier (Keyword 1 word.Char))) (Then NoTrees (OfDeclaration (InitDeclarator 1 (Pointer 1 0 (DeclaredName 1 4)) (Present (OfInitializer (Initial 1 (Unary 1 unary.Address (Index 1 (Number 1 2 true false 0) (Text 1 4 0)))))))))) ∷ (Function 1 (Then NoTrees (OfSpecifier (Keyword 1 word.Int))) (FunctionDeclarator 1 (DeclaredName 1 5) (Then NoTrees (OfDeclaration (Parameter 1 (Then NoTrees (OfSpecifier (Keyword 1 word.Void))) Absent))) false) (Block 1 (Then NoTrees (OfStatement (Return 1 (Present (OfExpression (Number 1 0 false false 0)))))))) ∷ []) ≡ Accepted ((0 ∷ 1 ∷ 0 ∷ 8 ∷ 1 ∷ 0 ∷ 2 ∷ 4 ∷ 0 ∷ []) ∷ (0 ∷ 1 ∷ 0 ∷ 8 ∷ 1 ∷ 0 ∷ 2 ∷ 4 ∷ 1 ∷ []) ∷ (0 ∷ 1 ∷ 0 ∷ 8 ∷ 1 ∷ 0 ∷ 2 ∷ 4 ∷ 2 ∷ []) ∷ (0 ∷ 1 ∷ 0 ∷ 8 ∷ 1 ∷ 0 ∷ 2 ∷ 4 ∷ 4 ∷ []) ∷ (0 ∷ 1 ∷ 0 ∷ 8 ∷ 1 ∷ 0 ∷ 2 ∷ 3 ∷ 2 ∷ []) ∷ []) (0 ∷ 1 ∷ 2 ∷ 3 ∷ 4 ∷ []) (4 ∷ 1 ∷ 4 ∷ 1 ∷ 4 ∷ 1 ∷ 4 ∷ 1 ∷ 3 ∷ 1 ∷ []) ((1 ∷ 1 ∷ 0 ∷ 16 ∷ 1 ∷ 1 ∷ 99 ∷ []) ∷ []))
    -- char *p = "abc" + 5; int main(void){return 0;}
    × (judged ((112 ∷ []) ∷ (109 ∷ 97 ∷ 105 ∷ 110 ∷ []) ∷ []) ((97 ∷ 98 ∷ 99 ∷ []) ∷ []) ((Declaration 1 (Then NoTrees (OfSpecifier (Keyword 1 word.Char))) (Then NoTrees (OfDeclaration (InitDeclarator 1 (Pointer 1 0 (DeclaredName 1 0)) (Present (OfInitializer (Initial 1 (Binary 1 op.Add (Text 1 0 0) (Number 1 5 true false 0))))))))) ∷ (Function 1 (Then NoTrees (OfSpecifier (Keyword 1 word.Int))) (FunctionDeclarator 1 (DeclaredName 1 1) (Then NoTrees (OfDeclaration (Parameter 1 (Then NoTrees (OfSpecifier (Keyword 1 word.Void))) Absent))) false) (Block 1 (Then NoTrees (OfStatement (Return 1 (Present (OfExpression (Number 1 0 false false 0)))))))) ∷ []) ≡ Refused 0)
    -- char *p = "abc" - 1; int main(void){return 0;}
    × (judged ((112 ∷ []) ∷ (109 ∷ 97 ∷ 105 ∷ 110 ∷ []) ∷ []) ((97 ∷ 98 ∷ 99 ∷ []) ∷ []) ((Declaration 1 (Then NoTrees (OfSpecifier (Keyword 1 word.Char))) (Then NoTrees (OfDeclaration (InitDeclarator 1 (Pointer 1 0 (DeclaredName 1 0)) (Present (OfInitializer (Initial 1 (Binary 1 op.Subtract (Text 1 0 0) (Number 1 1 true false 0))))))))) ∷ (Function 1 (Then NoTrees (OfSpecifier (Keyword 1 word.Int))) (FunctionDeclarator 1 (DeclaredName 1 1) (Then NoTrees (OfDeclaration (Parameter 1 (Then NoTrees (OfSpecifier (Keyword 1 word.Void))) Absent))) false) (Block 1 (Then NoTrees (OfStatement (Return 1 (Present (OfExpression (Number 1 0 false false 0)))))))) ∷ []) ≡ Refused 0)
unfolding type_of_words library_named are_compatible layouts_of initialized_object values
text_addresses = (refl, refl, refl)

-- 6.3.1.2p1: an address as a `_Bool`
booleans :
    -- int x; _Bool b = &x; _Bool c = 0; _Bool d = 7; int main(void){return 0;}
    (judged ((120 ∷ []) ∷ (98 ∷ []) ∷ (99 ∷ []) ∷ (100 ∷ []) ∷ (109 ∷ 97 ∷ 105 ∷ 110 ∷ []) ∷ []) ([]) ((Declaration 1 (Then NoTrees (OfSpecifier (Keyword 1 word.Int))) (Then NoTrees (OfDeclaration (InitDeclarator 1 (DeclaredName 1 0) Absent)))) ∷ (Declaration 1 (Then NoTrees (OfSpecifier (Keyword 1 word.Bool))) (Then NoTrees (OfDeclaration (InitDeclarator 1 (DeclaredName 1 1) (Present (OfInitializer (Initial 1 (Unary 1 unary.Address (Name 1 0))))))))) ∷ (Declaration 1 (Then NoTrees (OfSpecifier (Keyword 1 word.Bool))) (Then NoTrees (OfDeclaration (InitDeclarator 1 (DeclaredName 1 2) (Present (OfInitializer (Initial 1 (Number 1 0 false false 0)))))))) ∷ (Declaration 1 (Then NoTrees (OfSpecifier (Keyword 1 word.Bool))) (Then NoTrees (OfDeclaration (InitDeclarator 1 (DeclaredName 1 3) (Present (OfInitializer (Initial 1 (Number 1 7 true false 0)))))))) ∷ (Function 1 (Then NoTrees (OfSpecifier (Keyword 1 word.Int))) (FunctionDeclarator 1 (DeclaredName 1 4) (Then NoTrees (OfDeclaration (Parameter 1 (Then NoTrees (OfSpecifier (Keyword 1 word.Void))) Absent))) false) (Block 1 (Then NoTrees (OfStatement (Return 1 (Present (OfExpression (Number 1 0 false false 0)))))))) ∷ []) ≡ Accepted ((0 ∷ 0 ∷ []) ∷ (0 ∷ 1 ∷ 0 ∷ 1 ∷ 1 ∷ 0 ∷ 0 ∷ 0 ∷ 1 ∷ []) ∷ (0 ∷ 1 ∷ 0 ∷ 1 ∷ 1 ∷ 0 ∷ 0 ∷ 0 ∷ 0 ∷ []) ∷ (0 ∷ 1 ∷ 0 ∷ 1 ∷ 1 ∷ 0 ∷ 0 ∷ 0 ∷ 1 ∷ []) ∷ []) (0 ∷ 1 ∷ 2 ∷ 3 ∷ []) ([]) ((1 ∷ 1 ∷ 0 ∷ 16 ∷ 1 ∷ 1 ∷ 99 ∷ []) ∷ []))
    -- _Bool b = "a"; _Bool c = (void *)0; int a[2]; _Bool d = a; int main(void){return 0;}
    × (judged ((98 ∷ []) ∷ (99 ∷ []) ∷ (97 ∷ []) ∷ (100 ∷ []) ∷ (109 ∷ 97 ∷ 105 ∷ 110 ∷ []) ∷ []) ((97 ∷ []) ∷ []) ((Declaration 1 (Then NoTrees (OfSpecifier (Keyword 1 word.Bool))) (Then NoTrees (OfDeclaration (InitDeclarator 1 (DeclaredName 1 0) (Present (OfInitializer (Initial 1 (Text 1 0 0)))))))) ∷ (Declaration 1 (Then NoTrees (OfSpecifier (Keyword 1 word.Bool))) (Then NoTrees (OfDeclaration (InitDeclarator 1 (DeclaredName 1 1) (Present (OfInitializer (Initial 1 (Cast 1 (TypeName 1 (Then NoTrees (OfSpecifier (Keyword 1 word.Void))) (Present (OfDeclarator (AbstractPointer 1 0 Absent)))) (Number 1 0 false false 0))))))))) ∷ (Declaration 1 (Then NoTrees (OfSpecifier (Keyword 1 word.Int))) (Then NoTrees (OfDeclaration (InitDeclarator 1 (Array 1 (DeclaredName 1 2) (Present (OfExpression (Number 1 2 true false 0)))) Absent)))) ∷ (Declaration 1 (Then NoTrees (OfSpecifier (Keyword 1 word.Bool))) (Then NoTrees (OfDeclaration (InitDeclarator 1 (DeclaredName 1 3) (Present (OfInitializer (Initial 1 (Name 1 2)))))))) ∷ (Function 1 (Then NoTrees (OfSpecifier (Keyword 1 word.Int))) (FunctionDeclarator 1 (DeclaredName 1 4) (Then NoTrees (OfDeclaration (Parameter 1 (Then NoTrees (OfSpecifier (Keyword 1 word.Void))) Absent))) false) (Block 1 (Then NoTrees (OfStatement (Return 1 (Present (OfExpression (Number 1 0 false false 0)))))))) ∷ []) ≡ Accepted ((0 ∷ 1 ∷ 0 ∷ 1 ∷ 1 ∷ 0 ∷ 0 ∷ 0 ∷ 1 ∷ []) ∷ (0 ∷ 1 ∷ 0 ∷ 1 ∷ 1 ∷ 0 ∷ 0 ∷ 0 ∷ 0 ∷ []) ∷ (0 ∷ 0 ∷ []) ∷ (0 ∷ 1 ∷ 0 ∷ 1 ∷ 1 ∷ 0 ∷ 0 ∷ 0 ∷ 1 ∷ []) ∷ []) (0 ∷ 1 ∷ 2 ∷ 3 ∷ []) (2 ∷ 1 ∷ []) ((1 ∷ 1 ∷ 0 ∷ 16 ∷ 1 ∷ 1 ∷ 99 ∷ []) ∷ []))
    -- int x; _Bool b = (_Bool)&x; int main(void){return 0;}
    × (judged ((120 ∷ []) ∷ (98 ∷ []) ∷ (109 ∷ 97 ∷ 105 ∷ 110 ∷ []) ∷ []) ([]) ((Declaration 1 (Then NoTrees (OfSpecifier (Keyword 1 word.Int))) (Then NoTrees (OfDeclaration (InitDeclarator 1 (DeclaredName 1 0) Absent)))) ∷ (Declaration 1 (Then NoTrees (OfSpecifier (Keyword 1 word.Bool))) (Then NoTrees (OfDeclaration (InitDeclarator 1 (DeclaredName 1 1) (Present (OfInitializer (Initial 1 (Cast 1 (TypeName 1 (Then NoTrees (OfSpecifier (Keyword 1 word.Bool))) Absent) (Unary 1 unary.Address (Name 1 0)))))))))) ∷ (Function 1 (Then NoTrees (OfSpecifier (Keyword 1 word.Int))) (FunctionDeclarator 1 (DeclaredName 1 2) (Then NoTrees (OfDeclaration (Parameter 1 (Then NoTrees (OfSpecifier (Keyword 1 word.Void))) Absent))) false) (Block 1 (Then NoTrees (OfStatement (Return 1 (Present (OfExpression (Number 1 0 false false 0)))))))) ∷ []) ≡ Refused 1)
unfolding type_of_words library_named are_compatible layouts_of initialized_object values
booleans = (refl, refl, refl)

-- 6.6p7: what is no constant
no_constants :
    -- int x; long n = (long)&x; int main(void){return 0;}
    (judged ((120 ∷ []) ∷ (110 ∷ []) ∷ (109 ∷ 97 ∷ 105 ∷ 110 ∷ []) ∷ []) ([]) ((Declaration 1 (Then NoTrees (OfSpecifier (Keyword 1 word.Int))) (Then NoTrees (OfDeclaration (InitDeclarator 1 (DeclaredName 1 0) Absent)))) ∷ (Declaration 1 (Then NoTrees (OfSpecifier (Keyword 1 word.Long))) (Then NoTrees (OfDeclaration (InitDeclarator 1 (DeclaredName 1 1) (Present (OfInitializer (Initial 1 (Cast 1 (TypeName 1 (Then NoTrees (OfSpecifier (Keyword 1 word.Long))) Absent) (Unary 1 unary.Address (Name 1 0)))))))))) ∷ (Function 1 (Then NoTrees (OfSpecifier (Keyword 1 word.Int))) (FunctionDeclarator 1 (DeclaredName 1 2) (Then NoTrees (OfDeclaration (Parameter 1 (Then NoTrees (OfSpecifier (Keyword 1 word.Void))) Absent))) false) (Block 1 (Then NoTrees (OfStatement (Return 1 (Present (OfExpression (Number 1 0 false false 0)))))))) ∷ []) ≡ Refused 1)
    -- int x; int y = &x == 0; int main(void){return 0;}
    × (judged ((120 ∷ []) ∷ (121 ∷ []) ∷ (109 ∷ 97 ∷ 105 ∷ 110 ∷ []) ∷ []) ([]) ((Declaration 1 (Then NoTrees (OfSpecifier (Keyword 1 word.Int))) (Then NoTrees (OfDeclaration (InitDeclarator 1 (DeclaredName 1 0) Absent)))) ∷ (Declaration 1 (Then NoTrees (OfSpecifier (Keyword 1 word.Int))) (Then NoTrees (OfDeclaration (InitDeclarator 1 (DeclaredName 1 1) (Present (OfInitializer (Initial 1 (Binary 1 op.Equal (Unary 1 unary.Address (Name 1 0)) (Number 1 0 false false 0))))))))) ∷ (Function 1 (Then NoTrees (OfSpecifier (Keyword 1 word.Int))) (FunctionDeclarator 1 (DeclaredName 1 2) (Then NoTrees (OfDeclaration (Parameter 1 (Then NoTrees (OfSpecifier (Keyword 1 word.Void))) Absent))) false) (Block 1 (Then NoTrees (OfStatement (Return 1 (Present (OfExpression (Number 1 0 false false 0)))))))) ∷ []) ≡ Refused 1)
    -- int x; int y = !&x; int main(void){return 0;}
    × (judged ((120 ∷ []) ∷ (121 ∷ []) ∷ (109 ∷ 97 ∷ 105 ∷ 110 ∷ []) ∷ []) ([]) ((Declaration 1 (Then NoTrees (OfSpecifier (Keyword 1 word.Int))) (Then NoTrees (OfDeclaration (InitDeclarator 1 (DeclaredName 1 0) Absent)))) ∷ (Declaration 1 (Then NoTrees (OfSpecifier (Keyword 1 word.Int))) (Then NoTrees (OfDeclaration (InitDeclarator 1 (DeclaredName 1 1) (Present (OfInitializer (Initial 1 (Unary 1 unary.Not (Unary 1 unary.Address (Name 1 0)))))))))) ∷ (Function 1 (Then NoTrees (OfSpecifier (Keyword 1 word.Int))) (FunctionDeclarator 1 (DeclaredName 1 2) (Then NoTrees (OfDeclaration (Parameter 1 (Then NoTrees (OfSpecifier (Keyword 1 word.Void))) Absent))) false) (Block 1 (Then NoTrees (OfStatement (Return 1 (Present (OfExpression (Number 1 0 false false 0)))))))) ∷ []) ≡ Refused 1)
    -- int x = 5; int y = x; int main(void){return 0;}
    × (judged ((120 ∷ []) ∷ (121 ∷ []) ∷ (109 ∷ 97 ∷ 105 ∷ 110 ∷ []) ∷ []) ([]) ((Declaration 1 (Then NoTrees (OfSpecifier (Keyword 1 word.Int))) (Then NoTrees (OfDeclaration (InitDeclarator 1 (DeclaredName 1 0) (Present (OfInitializer (Initial 1 (Number 1 5 true false 0)))))))) ∷ (Declaration 1 (Then NoTrees (OfSpecifier (Keyword 1 word.Int))) (Then NoTrees (OfDeclaration (InitDeclarator 1 (DeclaredName 1 1) (Present (OfInitializer (Initial 1 (Name 1 0)))))))) ∷ (Function 1 (Then NoTrees (OfSpecifier (Keyword 1 word.Int))) (FunctionDeclarator 1 (DeclaredName 1 2) (Then NoTrees (OfDeclaration (Parameter 1 (Then NoTrees (OfSpecifier (Keyword 1 word.Void))) Absent))) false) (Block 1 (Then NoTrees (OfStatement (Return 1 (Present (OfExpression (Number 1 0 false false 0)))))))) ∷ []) ≡ Refused 1)
    -- const int x = 5; int y = x; int main(void){return 0;}
    × (judged ((120 ∷ []) ∷ (121 ∷ []) ∷ (109 ∷ 97 ∷ 105 ∷ 110 ∷ []) ∷ []) ([]) ((Declaration 1 (Then (Then NoTrees (OfSpecifier (Keyword 1 word.Const))) (OfSpecifier (Keyword 1 word.Int))) (Then NoTrees (OfDeclaration (InitDeclarator 1 (DeclaredName 1 0) (Present (OfInitializer (Initial 1 (Number 1 5 true false 0)))))))) ∷ (Declaration 1 (Then NoTrees (OfSpecifier (Keyword 1 word.Int))) (Then NoTrees (OfDeclaration (InitDeclarator 1 (DeclaredName 1 1) (Present (OfInitializer (Initial 1 (Name 1 0)))))))) ∷ (Function 1 (Then NoTrees (OfSpecifier (Keyword 1 word.Int))) (FunctionDeclarator 1 (DeclaredName 1 2) (Then NoTrees (OfDeclaration (Parameter 1 (Then NoTrees (OfSpecifier (Keyword 1 word.Void))) Absent))) false) (Block 1 (Then NoTrees (OfStatement (Return 1 (Present (OfExpression (Number 1 0 false false 0)))))))) ∷ []) ≡ Refused 1)
    -- int main(void){int x; static int *p = &x; return 0;}
    × (judged ((109 ∷ 97 ∷ 105 ∷ 110 ∷ []) ∷ (120 ∷ []) ∷ (112 ∷ []) ∷ []) ([]) ((Function 1 (Then NoTrees (OfSpecifier (Keyword 1 word.Int))) (FunctionDeclarator 1 (DeclaredName 1 0) (Then NoTrees (OfDeclaration (Parameter 1 (Then NoTrees (OfSpecifier (Keyword 1 word.Void))) Absent))) false) (Block 1 (Then (Then (Then NoTrees (OfDeclaration (Declaration 1 (Then NoTrees (OfSpecifier (Keyword 1 word.Int))) (Then NoTrees (OfDeclaration (InitDeclarator 1 (DeclaredName 1 1) Absent)))))) (OfDeclaration (Declaration 1 (Then (Then NoTrees (OfSpecifier (Keyword 1 word.Static))) (OfSpecifier (Keyword 1 word.Int))) (Then NoTrees (OfDeclaration (InitDeclarator 1 (Pointer 1 0 (DeclaredName 1 2)) (Present (OfInitializer (Initial 1 (Unary 1 unary.Address (Name 1 1))))))))))) (OfStatement (Return 1 (Present (OfExpression (Number 1 0 false false 0)))))))) ∷ []) ≡ Refused 0)
    -- int main(void){static int x; static int *p = &x; return 0;}
    × (judged ((109 ∷ 97 ∷ 105 ∷ 110 ∷ []) ∷ (120 ∷ []) ∷ (112 ∷ []) ∷ []) ([]) ((Function 1 (Then NoTrees (OfSpecifier (Keyword 1 word.Int))) (FunctionDeclarator 1 (DeclaredName 1 0) (Then NoTrees (OfDeclaration (Parameter 1 (Then NoTrees (OfSpecifier (Keyword 1 word.Void))) Absent))) false) (Block 1 (Then (Then (Then NoTrees (OfDeclaration (Declaration 1 (Then (Then NoTrees (OfSpecifier (Keyword 1 word.Static))) (OfSpecifier (Keyword 1 word.Int))) (Then NoTrees (OfDeclaration (InitDeclarator 1 (DeclaredName 1 1) Absent)))))) (OfDeclaration (Declaration 1 (Then (Then NoTrees (OfSpecifier (Keyword 1 word.Static))) (OfSpecifier (Keyword 1 word.Int))) (Then NoTrees (OfDeclaration (InitDeclarator 1 (Pointer 1 0 (DeclaredName 1 2)) (Present (OfInitializer (Initial 1 (Unary 1 unary.Address (Name 1 1))))))))))) (OfStatement (Return 1 (Present (OfExpression (Number 1 0 false false 0)))))))) ∷ []) ≡ Accepted ((0 ∷ 0 ∷ []) ∷ (0 ∷ 1 ∷ 0 ∷ 8 ∷ 1 ∷ 0 ∷ 1 ∷ 1 ∷ 0 ∷ []) ∷ []) (1 ∷ 2 ∷ []) ([]) ((1 ∷ 1 ∷ 0 ∷ 16 ∷ 1 ∷ 1 ∷ 99 ∷ []) ∷ []))
    -- int a[3]; int n = &a[2] - &a[0]; int main(void){return 0;}
    × (judged ((97 ∷ []) ∷ (110 ∷ []) ∷ (109 ∷ 97 ∷ 105 ∷ 110 ∷ []) ∷ []) ([]) ((Declaration 1 (Then NoTrees (OfSpecifier (Keyword 1 word.Int))) (Then NoTrees (OfDeclaration (InitDeclarator 1 (Array 1 (DeclaredName 1 0) (Present (OfExpression (Number 1 3 true false 0)))) Absent)))) ∷ (Declaration 1 (Then NoTrees (OfSpecifier (Keyword 1 word.Int))) (Then NoTrees (OfDeclaration (InitDeclarator 1 (DeclaredName 1 1) (Present (OfInitializer (Initial 1 (Binary 1 op.Subtract (Unary 1 unary.Address (Index 1 (Name 1 0) (Number 1 2 true false 0))) (Unary 1 unary.Address (Index 1 (Name 1 0) (Number 1 0 false false 0))))))))))) ∷ (Function 1 (Then NoTrees (OfSpecifier (Keyword 1 word.Int))) (FunctionDeclarator 1 (DeclaredName 1 2) (Then NoTrees (OfDeclaration (Parameter 1 (Then NoTrees (OfSpecifier (Keyword 1 word.Void))) Absent))) false) (Block 1 (Then NoTrees (OfStatement (Return 1 (Present (OfExpression (Number 1 0 false false 0)))))))) ∷ []) ≡ Refused 1)
unfolding type_of_words library_named are_compatible layouts_of initialized_object values
no_constants = (refl, refl, refl, refl, refl, refl, refl, refl)

-- 6.6p4, p6: operators of integer constants
integer_constants :
    -- int x = 1 + 2 * 3 - 4 / 2 % 3; int y = -7 / 2; int z = -7 % 2; int main(void){return 0;}
    (judged ((120 ∷ []) ∷ (121 ∷ []) ∷ (122 ∷ []) ∷ (109 ∷ 97 ∷ 105 ∷ 110 ∷ []) ∷ []) ([]) ((Declaration 1 (Then NoTrees (OfSpecifier (Keyword 1 word.Int))) (Then NoTrees (OfDeclaration (InitDeclarator 1 (DeclaredName 1 0) (Present (OfInitializer (Initial 1 (Binary 1 op.Subtract (Binary 1 op.Add (Number 1 1 true false 0) (Binary 1 op.Multiply (Number 1 2 true false 0) (Number 1 3 true false 0))) (Binary 1 op.Remainder (Binary 1 op.Divide (Number 1 4 true false 0) (Number 1 2 true false 0)) (Number 1 3 true false 0)))))))))) ∷ (Declaration 1 (Then NoTrees (OfSpecifier (Keyword 1 word.Int))) (Then NoTrees (OfDeclaration (InitDeclarator 1 (DeclaredName 1 1) (Present (OfInitializer (Initial 1 (Binary 1 op.Divide (Unary 1 unary.Minus (Number 1 7 true false 0)) (Number 1 2 true false 0))))))))) ∷ (Declaration 1 (Then NoTrees (OfSpecifier (Keyword 1 word.Int))) (Then NoTrees (OfDeclaration (InitDeclarator 1 (DeclaredName 1 2) (Present (OfInitializer (Initial 1 (Binary 1 op.Remainder (Unary 1 unary.Minus (Number 1 7 true false 0)) (Number 1 2 true false 0))))))))) ∷ (Function 1 (Then NoTrees (OfSpecifier (Keyword 1 word.Int))) (FunctionDeclarator 1 (DeclaredName 1 3) (Then NoTrees (OfDeclaration (Parameter 1 (Then NoTrees (OfSpecifier (Keyword 1 word.Void))) Absent))) false) (Block 1 (Then NoTrees (OfStatement (Return 1 (Present (OfExpression (Number 1 0 false false 0)))))))) ∷ []) ≡ Accepted ((0 ∷ 1 ∷ 0 ∷ 4 ∷ 1 ∷ 0 ∷ 0 ∷ 0 ∷ 5 ∷ []) ∷ (0 ∷ 1 ∷ 0 ∷ 4 ∷ 1 ∷ 0 ∷ 0 ∷ 1 ∷ 3 ∷ []) ∷ (0 ∷ 1 ∷ 0 ∷ 4 ∷ 1 ∷ 0 ∷ 0 ∷ 1 ∷ 1 ∷ []) ∷ []) (0 ∷ 1 ∷ 2 ∷ []) ([]) ((1 ∷ 1 ∷ 0 ∷ 16 ∷ 1 ∷ 1 ∷ 99 ∷ []) ∷ []))
    -- int x = 1 << 4 | 3 & ~1 ^ 8; int y = 256 >> 3; int z = -8 >> 1; int main(void){return 0;}
    × (judged ((120 ∷ []) ∷ (121 ∷ []) ∷ (122 ∷ []) ∷ (109 ∷ 97 ∷ 105 ∷ 110 ∷ []) ∷ []) ([]) ((Declaration 1 (Then NoTrees (OfSpecifier (Keyword 1 word.Int))) (Then NoTrees (OfDeclaration (InitDeclarator 1 (DeclaredName 1 0) (Present (OfInitializer (Initial 1 (Binary 1 op.Or (Binary 1 op.ShiftLeft (Number 1 1 true false 0) (Number 1 4 true false 0)) (Binary 1 op.ExclusiveOr (Binary 1 op.And (Number 1 3 true false 0) (Unary 1 unary.Complement (Number 1 1 true false 0))) (Number 1 8 true false 0)))))))))) ∷ (Declaration 1 (Then NoTrees (OfSpecifier (Keyword 1 word.Int))) (Then NoTrees (OfDeclaration (InitDeclarator 1 (DeclaredName 1 1) (Present (OfInitializer (Initial 1 (Binary 1 op.ShiftRight (Number 1 256 true false 0) (Number 1 3 true false 0))))))))) ∷ (Declaration 1 (Then NoTrees (OfSpecifier (Keyword 1 word.Int))) (Then NoTrees (OfDeclaration (InitDeclarator 1 (DeclaredName 1 2) (Present (OfInitializer (Initial 1 (Binary 1 op.ShiftRight (Unary 1 unary.Minus (Number 1 8 true false 0)) (Number 1 1 true false 0))))))))) ∷ (Function 1 (Then NoTrees (OfSpecifier (Keyword 1 word.Int))) (FunctionDeclarator 1 (DeclaredName 1 3) (Then NoTrees (OfDeclaration (Parameter 1 (Then NoTrees (OfSpecifier (Keyword 1 word.Void))) Absent))) false) (Block 1 (Then NoTrees (OfStatement (Return 1 (Present (OfExpression (Number 1 0 false false 0)))))))) ∷ []) ≡ Accepted ((0 ∷ 1 ∷ 0 ∷ 4 ∷ 1 ∷ 0 ∷ 0 ∷ 0 ∷ 26 ∷ []) ∷ (0 ∷ 1 ∷ 0 ∷ 4 ∷ 1 ∷ 0 ∷ 0 ∷ 0 ∷ 32 ∷ []) ∷ (0 ∷ 1 ∷ 0 ∷ 4 ∷ 1 ∷ 0 ∷ 0 ∷ 1 ∷ 4 ∷ []) ∷ []) (0 ∷ 1 ∷ 2 ∷ []) ([]) ((1 ∷ 1 ∷ 0 ∷ 16 ∷ 1 ∷ 1 ∷ 99 ∷ []) ∷ []))
    -- int x = 1 / 0; int main(void){return 0;}
    × (judged ((120 ∷ []) ∷ (109 ∷ 97 ∷ 105 ∷ 110 ∷ []) ∷ []) ([]) ((Declaration 1 (Then NoTrees (OfSpecifier (Keyword 1 word.Int))) (Then NoTrees (OfDeclaration (InitDeclarator 1 (DeclaredName 1 0) (Present (OfInitializer (Initial 1 (Binary 1 op.Divide (Number 1 1 true false 0) (Number 1 0 false false 0))))))))) ∷ (Function 1 (Then NoTrees (OfSpecifier (Keyword 1 word.Int))) (FunctionDeclarator 1 (DeclaredName 1 1) (Then NoTrees (OfDeclaration (Parameter 1 (Then NoTrees (OfSpecifier (Keyword 1 word.Void))) Absent))) false) (Block 1 (Then NoTrees (OfStatement (Return 1 (Present (OfExpression (Number 1 0 false false 0)))))))) ∷ []) ≡ Refused 0)
    -- int x = 1 % 0; int main(void){return 0;}
    × (judged ((120 ∷ []) ∷ (109 ∷ 97 ∷ 105 ∷ 110 ∷ []) ∷ []) ([]) ((Declaration 1 (Then NoTrees (OfSpecifier (Keyword 1 word.Int))) (Then NoTrees (OfDeclaration (InitDeclarator 1 (DeclaredName 1 0) (Present (OfInitializer (Initial 1 (Binary 1 op.Remainder (Number 1 1 true false 0) (Number 1 0 false false 0))))))))) ∷ (Function 1 (Then NoTrees (OfSpecifier (Keyword 1 word.Int))) (FunctionDeclarator 1 (DeclaredName 1 1) (Then NoTrees (OfDeclaration (Parameter 1 (Then NoTrees (OfSpecifier (Keyword 1 word.Void))) Absent))) false) (Block 1 (Then NoTrees (OfStatement (Return 1 (Present (OfExpression (Number 1 0 false false 0)))))))) ∷ []) ≡ Refused 0)
    -- int x = 2147483647 + 1; int main(void){return 0;}
    × (judged ((120 ∷ []) ∷ (109 ∷ 97 ∷ 105 ∷ 110 ∷ []) ∷ []) ([]) ((Declaration 1 (Then NoTrees (OfSpecifier (Keyword 1 word.Int))) (Then NoTrees (OfDeclaration (InitDeclarator 1 (DeclaredName 1 0) (Present (OfInitializer (Initial 1 (Binary 1 op.Add (Number 1 2147483647 true false 0) (Number 1 1 true false 0))))))))) ∷ (Function 1 (Then NoTrees (OfSpecifier (Keyword 1 word.Int))) (FunctionDeclarator 1 (DeclaredName 1 1) (Then NoTrees (OfDeclaration (Parameter 1 (Then NoTrees (OfSpecifier (Keyword 1 word.Void))) Absent))) false) (Block 1 (Then NoTrees (OfStatement (Return 1 (Present (OfExpression (Number 1 0 false false 0)))))))) ∷ []) ≡ Refused 0)
    -- unsigned x = 4294967295u + 1; long y = 2147483647 + 1L; int main(void){return 0;}
    × (judged ((120 ∷ []) ∷ (121 ∷ []) ∷ (109 ∷ 97 ∷ 105 ∷ 110 ∷ []) ∷ []) ([]) ((Declaration 1 (Then NoTrees (OfSpecifier (Keyword 1 word.Unsigned))) (Then NoTrees (OfDeclaration (InitDeclarator 1 (DeclaredName 1 0) (Present (OfInitializer (Initial 1 (Binary 1 op.Add (Number 1 4294967295 true true 0) (Number 1 1 true false 0))))))))) ∷ (Declaration 1 (Then NoTrees (OfSpecifier (Keyword 1 word.Long))) (Then NoTrees (OfDeclaration (InitDeclarator 1 (DeclaredName 1 1) (Present (OfInitializer (Initial 1 (Binary 1 op.Add (Number 1 2147483647 true false 0) (Number 1 1 true false 1))))))))) ∷ (Function 1 (Then NoTrees (OfSpecifier (Keyword 1 word.Int))) (FunctionDeclarator 1 (DeclaredName 1 2) (Then NoTrees (OfDeclaration (Parameter 1 (Then NoTrees (OfSpecifier (Keyword 1 word.Void))) Absent))) false) (Block 1 (Then NoTrees (OfStatement (Return 1 (Present (OfExpression (Number 1 0 false false 0)))))))) ∷ []) ≡ Accepted ((0 ∷ 1 ∷ 0 ∷ 4 ∷ 1 ∷ 0 ∷ 0 ∷ 0 ∷ 0 ∷ []) ∷ (0 ∷ 1 ∷ 0 ∷ 8 ∷ 1 ∷ 0 ∷ 0 ∷ 0 ∷ 2147483648 ∷ []) ∷ []) (0 ∷ 1 ∷ []) ([]) ((1 ∷ 1 ∷ 0 ∷ 16 ∷ 1 ∷ 1 ∷ 99 ∷ []) ∷ []))
    -- int x = 1 << 31; int main(void){return 0;}
    × (judged ((120 ∷ []) ∷ (109 ∷ 97 ∷ 105 ∷ 110 ∷ []) ∷ []) ([]) ((Declaration 1 (Then NoTrees (OfSpecifier (Keyword 1 word.Int))) (Then NoTrees (OfDeclaration (InitDeclarator 1 (DeclaredName 1 0) (Present (OfInitializer (Initial 1 (Binary 1 op.ShiftLeft (Number 1 1 true false 0) (Number 1 31 true false 0))))))))) ∷ (Function 1 (Then NoTrees (OfSpecifier (Keyword 1 word.Int))) (FunctionDeclarator 1 (DeclaredName 1 1) (Then NoTrees (OfDeclaration (Parameter 1 (Then NoTrees (OfSpecifier (Keyword 1 word.Void))) Absent))) false) (Block 1 (Then NoTrees (OfStatement (Return 1 (Present (OfExpression (Number 1 0 false false 0)))))))) ∷ []) ≡ Refused 0)
    -- int x = 1 << 32; int main(void){return 0;}
    × (judged ((120 ∷ []) ∷ (109 ∷ 97 ∷ 105 ∷ 110 ∷ []) ∷ []) ([]) ((Declaration 1 (Then NoTrees (OfSpecifier (Keyword 1 word.Int))) (Then NoTrees (OfDeclaration (InitDeclarator 1 (DeclaredName 1 0) (Present (OfInitializer (Initial 1 (Binary 1 op.ShiftLeft (Number 1 1 true false 0) (Number 1 32 true false 0))))))))) ∷ (Function 1 (Then NoTrees (OfSpecifier (Keyword 1 word.Int))) (FunctionDeclarator 1 (DeclaredName 1 1) (Then NoTrees (OfDeclaration (Parameter 1 (Then NoTrees (OfSpecifier (Keyword 1 word.Void))) Absent))) false) (Block 1 (Then NoTrees (OfStatement (Return 1 (Present (OfExpression (Number 1 0 false false 0)))))))) ∷ []) ≡ Refused 0)
    -- unsigned x = 1u << 31; unsigned y = -1; unsigned char c = 300; signed char s = 200; short h = 65537; int main(void){return 0;}
    × (judged ((120 ∷ []) ∷ (121 ∷ []) ∷ (99 ∷ []) ∷ (115 ∷ []) ∷ (104 ∷ []) ∷ (109 ∷ 97 ∷ 105 ∷ 110 ∷ []) ∷ []) ([]) ((Declaration 1 (Then NoTrees (OfSpecifier (Keyword 1 word.Unsigned))) (Then NoTrees (OfDeclaration (InitDeclarator 1 (DeclaredName 1 0) (Present (OfInitializer (Initial 1 (Binary 1 op.ShiftLeft (Number 1 1 true true 0) (Number 1 31 true false 0))))))))) ∷ (Declaration 1 (Then NoTrees (OfSpecifier (Keyword 1 word.Unsigned))) (Then NoTrees (OfDeclaration (InitDeclarator 1 (DeclaredName 1 1) (Present (OfInitializer (Initial 1 (Unary 1 unary.Minus (Number 1 1 true false 0))))))))) ∷ (Declaration 1 (Then (Then NoTrees (OfSpecifier (Keyword 1 word.Unsigned))) (OfSpecifier (Keyword 1 word.Char))) (Then NoTrees (OfDeclaration (InitDeclarator 1 (DeclaredName 1 2) (Present (OfInitializer (Initial 1 (Number 1 300 true false 0)))))))) ∷ (Declaration 1 (Then (Then NoTrees (OfSpecifier (Keyword 1 word.Signed))) (OfSpecifier (Keyword 1 word.Char))) (Then NoTrees (OfDeclaration (InitDeclarator 1 (DeclaredName 1 3) (Present (OfInitializer (Initial 1 (Number 1 200 true false 0)))))))) ∷ (Declaration 1 (Then NoTrees (OfSpecifier (Keyword 1 word.Short))) (Then NoTrees (OfDeclaration (InitDeclarator 1 (DeclaredName 1 4) (Present (OfInitializer (Initial 1 (Number 1 65537 true false 0)))))))) ∷ (Function 1 (Then NoTrees (OfSpecifier (Keyword 1 word.Int))) (FunctionDeclarator 1 (DeclaredName 1 5) (Then NoTrees (OfDeclaration (Parameter 1 (Then NoTrees (OfSpecifier (Keyword 1 word.Void))) Absent))) false) (Block 1 (Then NoTrees (OfStatement (Return 1 (Present (OfExpression (Number 1 0 false false 0)))))))) ∷ []) ≡ Accepted ((0 ∷ 1 ∷ 0 ∷ 4 ∷ 1 ∷ 0 ∷ 0 ∷ 0 ∷ 2147483648 ∷ []) ∷ (0 ∷ 1 ∷ 0 ∷ 4 ∷ 1 ∷ 0 ∷ 0 ∷ 0 ∷ 4294967295 ∷ []) ∷ (0 ∷ 1 ∷ 0 ∷ 1 ∷ 1 ∷ 0 ∷ 0 ∷ 0 ∷ 44 ∷ []) ∷ (0 ∷ 1 ∷ 0 ∷ 1 ∷ 1 ∷ 0 ∷ 0 ∷ 1 ∷ 56 ∷ []) ∷ (0 ∷ 1 ∷ 0 ∷ 2 ∷ 1 ∷ 0 ∷ 0 ∷ 0 ∷ 1 ∷ []) ∷ []) (0 ∷ 1 ∷ 2 ∷ 3 ∷ 4 ∷ []) ([]) ((1 ∷ 1 ∷ 0 ∷ 16 ∷ 1 ∷ 1 ∷ 99 ∷ []) ∷ []))
    -- int x = -2147483647 - 1; int y = -(-2147483647 - 1); int main(void){return 0;}
    × (judged ((120 ∷ []) ∷ (121 ∷ []) ∷ (109 ∷ 97 ∷ 105 ∷ 110 ∷ []) ∷ []) ([]) ((Declaration 1 (Then NoTrees (OfSpecifier (Keyword 1 word.Int))) (Then NoTrees (OfDeclaration (InitDeclarator 1 (DeclaredName 1 0) (Present (OfInitializer (Initial 1 (Binary 1 op.Subtract (Unary 1 unary.Minus (Number 1 2147483647 true false 0)) (Number 1 1 true false 0))))))))) ∷ (Declaration 1 (Then NoTrees (OfSpecifier (Keyword 1 word.Int))) (Then NoTrees (OfDeclaration (InitDeclarator 1 (DeclaredName 1 1) (Present (OfInitializer (Initial 1 (Unary 1 unary.Minus (Paren 1 (Binary 1 op.Subtract (Unary 1 unary.Minus (Number 1 2147483647 true false 0)) (Number 1 1 true false 0))))))))))) ∷ (Function 1 (Then NoTrees (OfSpecifier (Keyword 1 word.Int))) (FunctionDeclarator 1 (DeclaredName 1 2) (Then NoTrees (OfDeclaration (Parameter 1 (Then NoTrees (OfSpecifier (Keyword 1 word.Void))) Absent))) false) (Block 1 (Then NoTrees (OfStatement (Return 1 (Present (OfExpression (Number 1 0 false false 0)))))))) ∷ []) ≡ Refused 1)
    -- int x = (-2147483647 - 1) / -1; int main(void){return 0;}
    × (judged ((120 ∷ []) ∷ (109 ∷ 97 ∷ 105 ∷ 110 ∷ []) ∷ []) ([]) ((Declaration 1 (Then NoTrees (OfSpecifier (Keyword 1 word.Int))) (Then NoTrees (OfDeclaration (InitDeclarator 1 (DeclaredName 1 0) (Present (OfInitializer (Initial 1 (Binary 1 op.Divide (Paren 1 (Binary 1 op.Subtract (Unary 1 unary.Minus (Number 1 2147483647 true false 0)) (Number 1 1 true false 0))) (Unary 1 unary.Minus (Number 1 1 true false 0)))))))))) ∷ (Function 1 (Then NoTrees (OfSpecifier (Keyword 1 word.Int))) (FunctionDeclarator 1 (DeclaredName 1 1) (Then NoTrees (OfDeclaration (Parameter 1 (Then NoTrees (OfSpecifier (Keyword 1 word.Void))) Absent))) false) (Block 1 (Then NoTrees (OfStatement (Return 1 (Present (OfExpression (Number 1 0 false false 0)))))))) ∷ []) ≡ Refused 0)
unfolding type_of_words library_named are_compatible layouts_of initialized_object values
integer_constants = (refl, refl, refl, refl, refl, refl, refl, refl, refl, refl, refl)

-- 6.6p3: operands that are not evaluated
unevaluated :
    -- int x = 0 && 1 / 0; int y = 1 || 1 / 0; int z = 1 ? 2 : 1 / 0; int main(void){return 0;}
    (judged ((120 ∷ []) ∷ (121 ∷ []) ∷ (122 ∷ []) ∷ (109 ∷ 97 ∷ 105 ∷ 110 ∷ []) ∷ []) ([]) ((Declaration 1 (Then NoTrees (OfSpecifier (Keyword 1 word.Int))) (Then NoTrees (OfDeclaration (InitDeclarator 1 (DeclaredName 1 0) (Present (OfInitializer (Initial 1 (Binary 1 op.LogicalAnd (Number 1 0 false false 0) (Binary 1 op.Divide (Number 1 1 true false 0) (Number 1 0 false false 0)))))))))) ∷ (Declaration 1 (Then NoTrees (OfSpecifier (Keyword 1 word.Int))) (Then NoTrees (OfDeclaration (InitDeclarator 1 (DeclaredName 1 1) (Present (OfInitializer (Initial 1 (Binary 1 op.LogicalOr (Number 1 1 true false 0) (Binary 1 op.Divide (Number 1 1 true false 0) (Number 1 0 false false 0)))))))))) ∷ (Declaration 1 (Then NoTrees (OfSpecifier (Keyword 1 word.Int))) (Then NoTrees (OfDeclaration (InitDeclarator 1 (DeclaredName 1 2) (Present (OfInitializer (Initial 1 (Conditional 1 (Number 1 1 true false 0) (Number 1 2 true false 0) (Binary 1 op.Divide (Number 1 1 true false 0) (Number 1 0 false false 0)))))))))) ∷ (Function 1 (Then NoTrees (OfSpecifier (Keyword 1 word.Int))) (FunctionDeclarator 1 (DeclaredName 1 3) (Then NoTrees (OfDeclaration (Parameter 1 (Then NoTrees (OfSpecifier (Keyword 1 word.Void))) Absent))) false) (Block 1 (Then NoTrees (OfStatement (Return 1 (Present (OfExpression (Number 1 0 false false 0)))))))) ∷ []) ≡ Accepted ((0 ∷ 1 ∷ 0 ∷ 4 ∷ 1 ∷ 0 ∷ 0 ∷ 0 ∷ 0 ∷ []) ∷ (0 ∷ 1 ∷ 0 ∷ 4 ∷ 1 ∷ 0 ∷ 0 ∷ 0 ∷ 1 ∷ []) ∷ (0 ∷ 1 ∷ 0 ∷ 4 ∷ 1 ∷ 0 ∷ 0 ∷ 0 ∷ 2 ∷ []) ∷ []) (0 ∷ 1 ∷ 2 ∷ []) ([]) ((1 ∷ 1 ∷ 0 ∷ 16 ∷ 1 ∷ 1 ∷ 99 ∷ []) ∷ []))
    -- int x = 1 && 1 / 0; int main(void){return 0;}
    × (judged ((120 ∷ []) ∷ (109 ∷ 97 ∷ 105 ∷ 110 ∷ []) ∷ []) ([]) ((Declaration 1 (Then NoTrees (OfSpecifier (Keyword 1 word.Int))) (Then NoTrees (OfDeclaration (InitDeclarator 1 (DeclaredName 1 0) (Present (OfInitializer (Initial 1 (Binary 1 op.LogicalAnd (Number 1 1 true false 0) (Binary 1 op.Divide (Number 1 1 true false 0) (Number 1 0 false false 0)))))))))) ∷ (Function 1 (Then NoTrees (OfSpecifier (Keyword 1 word.Int))) (FunctionDeclarator 1 (DeclaredName 1 1) (Then NoTrees (OfDeclaration (Parameter 1 (Then NoTrees (OfSpecifier (Keyword 1 word.Void))) Absent))) false) (Block 1 (Then NoTrees (OfStatement (Return 1 (Present (OfExpression (Number 1 0 false false 0)))))))) ∷ []) ≡ Refused 0)
    -- int x = 1 ? 1 / 0 : 2; int main(void){return 0;}
    × (judged ((120 ∷ []) ∷ (109 ∷ 97 ∷ 105 ∷ 110 ∷ []) ∷ []) ([]) ((Declaration 1 (Then NoTrees (OfSpecifier (Keyword 1 word.Int))) (Then NoTrees (OfDeclaration (InitDeclarator 1 (DeclaredName 1 0) (Present (OfInitializer (Initial 1 (Conditional 1 (Number 1 1 true false 0) (Binary 1 op.Divide (Number 1 1 true false 0) (Number 1 0 false false 0)) (Number 1 2 true false 0))))))))) ∷ (Function 1 (Then NoTrees (OfSpecifier (Keyword 1 word.Int))) (FunctionDeclarator 1 (DeclaredName 1 1) (Then NoTrees (OfDeclaration (Parameter 1 (Then NoTrees (OfSpecifier (Keyword 1 word.Void))) Absent))) false) (Block 1 (Then NoTrees (OfStatement (Return 1 (Present (OfExpression (Number 1 0 false false 0)))))))) ∷ []) ≡ Refused 0)
    -- int f(void); int x = 0 && f(); int main(void){return 0;} int f(void){return 1;}
    × (judged ((102 ∷ []) ∷ (120 ∷ []) ∷ (109 ∷ 97 ∷ 105 ∷ 110 ∷ []) ∷ []) ([]) ((Declaration 1 (Then NoTrees (OfSpecifier (Keyword 1 word.Int))) (Then NoTrees (OfDeclaration (InitDeclarator 1 (FunctionDeclarator 1 (DeclaredName 1 0) (Then NoTrees (OfDeclaration (Parameter 1 (Then NoTrees (OfSpecifier (Keyword 1 word.Void))) Absent))) false) Absent)))) ∷ (Declaration 1 (Then NoTrees (OfSpecifier (Keyword 1 word.Int))) (Then NoTrees (OfDeclaration (InitDeclarator 1 (DeclaredName 1 1) (Present (OfInitializer (Initial 1 (Binary 1 op.LogicalAnd (Number 1 0 false false 0) (Call 1 (Name 1 0) NoArguments))))))))) ∷ (Function 1 (Then NoTrees (OfSpecifier (Keyword 1 word.Int))) (FunctionDeclarator 1 (DeclaredName 1 2) (Then NoTrees (OfDeclaration (Parameter 1 (Then NoTrees (OfSpecifier (Keyword 1 word.Void))) Absent))) false) (Block 1 (Then NoTrees (OfStatement (Return 1 (Present (OfExpression (Number 1 0 false false 0)))))))) ∷ (Function 1 (Then NoTrees (OfSpecifier (Keyword 1 word.Int))) (FunctionDeclarator 1 (DeclaredName 1 0) (Then NoTrees (OfDeclaration (Parameter 1 (Then NoTrees (OfSpecifier (Keyword 1 word.Void))) Absent))) false) (Block 1 (Then NoTrees (OfStatement (Return 1 (Present (OfExpression (Number 1 1 true false 0)))))))) ∷ []) ≡ Refused 1)
    -- int y; int x = 1 || y; int main(void){return 0;}
    × (judged ((121 ∷ []) ∷ (120 ∷ []) ∷ (109 ∷ 97 ∷ 105 ∷ 110 ∷ []) ∷ []) ([]) ((Declaration 1 (Then NoTrees (OfSpecifier (Keyword 1 word.Int))) (Then NoTrees (OfDeclaration (InitDeclarator 1 (DeclaredName 1 0) Absent)))) ∷ (Declaration 1 (Then NoTrees (OfSpecifier (Keyword 1 word.Int))) (Then NoTrees (OfDeclaration (InitDeclarator 1 (DeclaredName 1 1) (Present (OfInitializer (Initial 1 (Binary 1 op.LogicalOr (Number 1 1 true false 0) (Name 1 0))))))))) ∷ (Function 1 (Then NoTrees (OfSpecifier (Keyword 1 word.Int))) (FunctionDeclarator 1 (DeclaredName 1 2) (Then NoTrees (OfDeclaration (Parameter 1 (Then NoTrees (OfSpecifier (Keyword 1 word.Void))) Absent))) false) (Block 1 (Then NoTrees (OfStatement (Return 1 (Present (OfExpression (Number 1 0 false false 0)))))))) ∷ []) ≡ Refused 1)
    -- int x = (1, 2); int main(void){return 0;}
    × (judged ((120 ∷ []) ∷ (109 ∷ 97 ∷ 105 ∷ 110 ∷ []) ∷ []) ([]) ((Declaration 1 (Then NoTrees (OfSpecifier (Keyword 1 word.Int))) (Then NoTrees (OfDeclaration (InitDeclarator 1 (DeclaredName 1 0) (Present (OfInitializer (Initial 1 (Paren 1 (Comma 1 (Number 1 1 true false 0) (Number 1 2 true false 0)))))))))) ∷ (Function 1 (Then NoTrees (OfSpecifier (Keyword 1 word.Int))) (FunctionDeclarator 1 (DeclaredName 1 1) (Then NoTrees (OfDeclaration (Parameter 1 (Then NoTrees (OfSpecifier (Keyword 1 word.Void))) Absent))) false) (Block 1 (Then NoTrees (OfStatement (Return 1 (Present (OfExpression (Number 1 0 false false 0)))))))) ∷ []) ≡ Refused 0)
unfolding type_of_words library_named are_compatible layouts_of initialized_object values
unevaluated = (refl, refl, refl, refl, refl, refl)

-- 6.6p6: sizes, enumerators, characters, comparisons and casts
sizes_and_casts :
    -- int x = sizeof(int) * 3; unsigned long y = sizeof(long[4]); int a[3]; int z = sizeof a / sizeof a[0]; int main(void){return 0;}
    (judged ((120 ∷ []) ∷ (121 ∷ []) ∷ (97 ∷ []) ∷ (122 ∷ []) ∷ (109 ∷ 97 ∷ 105 ∷ 110 ∷ []) ∷ []) ([]) ((Declaration 1 (Then NoTrees (OfSpecifier (Keyword 1 word.Int))) (Then NoTrees (OfDeclaration (InitDeclarator 1 (DeclaredName 1 0) (Present (OfInitializer (Initial 1 (Binary 1 op.Multiply (SizeofType 1 (TypeName 1 (Then NoTrees (OfSpecifier (Keyword 1 word.Int))) Absent)) (Number 1 3 true false 0))))))))) ∷ (Declaration 1 (Then (Then NoTrees (OfSpecifier (Keyword 1 word.Unsigned))) (OfSpecifier (Keyword 1 word.Long))) (Then NoTrees (OfDeclaration (InitDeclarator 1 (DeclaredName 1 1) (Present (OfInitializer (Initial 1 (SizeofType 1 (TypeName 1 (Then NoTrees (OfSpecifier (Keyword 1 word.Long))) (Present (OfDeclarator (AbstractArray 1 Absent (Present (OfExpression (Number 1 4 true false 0))))))))))))))) ∷ (Declaration 1 (Then NoTrees (OfSpecifier (Keyword 1 word.Int))) (Then NoTrees (OfDeclaration (InitDeclarator 1 (Array 1 (DeclaredName 1 2) (Present (OfExpression (Number 1 3 true false 0)))) Absent)))) ∷ (Declaration 1 (Then NoTrees (OfSpecifier (Keyword 1 word.Int))) (Then NoTrees (OfDeclaration (InitDeclarator 1 (DeclaredName 1 3) (Present (OfInitializer (Initial 1 (Binary 1 op.Divide (SizeofExpr 1 (Name 1 2)) (SizeofExpr 1 (Index 1 (Name 1 2) (Number 1 0 false false 0))))))))))) ∷ (Function 1 (Then NoTrees (OfSpecifier (Keyword 1 word.Int))) (FunctionDeclarator 1 (DeclaredName 1 4) (Then NoTrees (OfDeclaration (Parameter 1 (Then NoTrees (OfSpecifier (Keyword 1 word.Void))) Absent))) false) (Block 1 (Then NoTrees (OfStatement (Return 1 (Present (OfExpression (Number 1 0 false false 0)))))))) ∷ []) ≡ Accepted ((0 ∷ 1 ∷ 0 ∷ 4 ∷ 1 ∷ 0 ∷ 0 ∷ 0 ∷ 12 ∷ []) ∷ (0 ∷ 1 ∷ 0 ∷ 8 ∷ 1 ∷ 0 ∷ 0 ∷ 0 ∷ 32 ∷ []) ∷ (0 ∷ 0 ∷ []) ∷ (0 ∷ 1 ∷ 0 ∷ 4 ∷ 1 ∷ 0 ∷ 0 ∷ 0 ∷ 3 ∷ []) ∷ []) (0 ∷ 1 ∷ 2 ∷ 3 ∷ []) ([]) ((1 ∷ 1 ∷ 0 ∷ 16 ∷ 1 ∷ 1 ∷ 99 ∷ []) ∷ []))
    -- int y; int x = sizeof(y++); int main(void){return 0;}
    × (judged ((121 ∷ []) ∷ (120 ∷ []) ∷ (109 ∷ 97 ∷ 105 ∷ 110 ∷ []) ∷ []) ([]) ((Declaration 1 (Then NoTrees (OfSpecifier (Keyword 1 word.Int))) (Then NoTrees (OfDeclaration (InitDeclarator 1 (DeclaredName 1 0) Absent)))) ∷ (Declaration 1 (Then NoTrees (OfSpecifier (Keyword 1 word.Int))) (Then NoTrees (OfDeclaration (InitDeclarator 1 (DeclaredName 1 1) (Present (OfInitializer (Initial 1 (SizeofExpr 1 (Paren 1 (PostIncrement 1 (Name 1 0))))))))))) ∷ (Function 1 (Then NoTrees (OfSpecifier (Keyword 1 word.Int))) (FunctionDeclarator 1 (DeclaredName 1 2) (Then NoTrees (OfDeclaration (Parameter 1 (Then NoTrees (OfSpecifier (Keyword 1 word.Void))) Absent))) false) (Block 1 (Then NoTrees (OfStatement (Return 1 (Present (OfExpression (Number 1 0 false false 0)))))))) ∷ []) ≡ Accepted ((0 ∷ 0 ∷ []) ∷ (0 ∷ 1 ∷ 0 ∷ 4 ∷ 1 ∷ 0 ∷ 0 ∷ 0 ∷ 4 ∷ []) ∷ []) (0 ∷ 1 ∷ []) ([]) ((1 ∷ 1 ∷ 0 ∷ 16 ∷ 1 ∷ 1 ∷ 99 ∷ []) ∷ []))
    -- enum e {A, B = 5, C}; int x = A + B + C; enum e y = C; int main(void){return 0;}
    × (judged ((101 ∷ []) ∷ (65 ∷ []) ∷ (66 ∷ []) ∷ (67 ∷ []) ∷ (120 ∷ []) ∷ (121 ∷ []) ∷ (109 ∷ 97 ∷ 105 ∷ 110 ∷ []) ∷ []) ([]) ((Declaration 1 (Then NoTrees (OfSpecifier (Enumeration 1 (Some 0) (Then (Then (Then NoTrees (OfDeclaration (Enumerator 1 1 Absent))) (OfDeclaration (Enumerator 1 2 (Present (OfExpression (Number 1 5 true false 0)))))) (OfDeclaration (Enumerator 1 3 Absent))) false))) NoTrees) ∷ (Declaration 1 (Then NoTrees (OfSpecifier (Keyword 1 word.Int))) (Then NoTrees (OfDeclaration (InitDeclarator 1 (DeclaredName 1 4) (Present (OfInitializer (Initial 1 (Binary 1 op.Add (Binary 1 op.Add (Name 1 1) (Name 1 2)) (Name 1 3))))))))) ∷ (Declaration 1 (Then NoTrees (OfSpecifier (Tag 1 word.Enum 0))) (Then NoTrees (OfDeclaration (InitDeclarator 1 (DeclaredName 1 5) (Present (OfInitializer (Initial 1 (Name 1 3)))))))) ∷ (Function 1 (Then NoTrees (OfSpecifier (Keyword 1 word.Int))) (FunctionDeclarator 1 (DeclaredName 1 6) (Then NoTrees (OfDeclaration (Parameter 1 (Then NoTrees (OfSpecifier (Keyword 1 word.Void))) Absent))) false) (Block 1 (Then NoTrees (OfStatement (Return 1 (Present (OfExpression (Number 1 0 false false 0)))))))) ∷ []) ≡ Accepted ((0 ∷ 1 ∷ 0 ∷ 4 ∷ 1 ∷ 0 ∷ 0 ∷ 0 ∷ 11 ∷ []) ∷ (0 ∷ 1 ∷ 0 ∷ 4 ∷ 1 ∷ 0 ∷ 0 ∷ 0 ∷ 6 ∷ []) ∷ []) (4 ∷ 5 ∷ []) ([]) ((1 ∷ 1 ∷ 0 ∷ 16 ∷ 1 ∷ 1 ∷ 99 ∷ []) ∷ []))
    -- int x = 'a'; int y = '\xff'; char c = '\n'; int main(void){return 0;}
    × (judged ((120 ∷ []) ∷ (121 ∷ []) ∷ (99 ∷ []) ∷ (109 ∷ 97 ∷ 105 ∷ 110 ∷ []) ∷ []) ([]) ((Declaration 1 (Then NoTrees (OfSpecifier (Keyword 1 word.Int))) (Then NoTrees (OfDeclaration (InitDeclarator 1 (DeclaredName 1 0) (Present (OfInitializer (Initial 1 (Character 1 (pos 97))))))))) ∷ (Declaration 1 (Then NoTrees (OfSpecifier (Keyword 1 word.Int))) (Then NoTrees (OfDeclaration (InitDeclarator 1 (DeclaredName 1 1) (Present (OfInitializer (Initial 1 (Character 1 (negsuc 0))))))))) ∷ (Declaration 1 (Then NoTrees (OfSpecifier (Keyword 1 word.Char))) (Then NoTrees (OfDeclaration (InitDeclarator 1 (DeclaredName 1 2) (Present (OfInitializer (Initial 1 (Character 1 (pos 10))))))))) ∷ (Function 1 (Then NoTrees (OfSpecifier (Keyword 1 word.Int))) (FunctionDeclarator 1 (DeclaredName 1 3) (Then NoTrees (OfDeclaration (Parameter 1 (Then NoTrees (OfSpecifier (Keyword 1 word.Void))) Absent))) false) (Block 1 (Then NoTrees (OfStatement (Return 1 (Present (OfExpression (Number 1 0 false false 0)))))))) ∷ []) ≡ Accepted ((0 ∷ 1 ∷ 0 ∷ 4 ∷ 1 ∷ 0 ∷ 0 ∷ 0 ∷ 97 ∷ []) ∷ (0 ∷ 1 ∷ 0 ∷ 4 ∷ 1 ∷ 0 ∷ 0 ∷ 1 ∷ 1 ∷ []) ∷ (0 ∷ 1 ∷ 0 ∷ 1 ∷ 1 ∷ 0 ∷ 0 ∷ 0 ∷ 10 ∷ []) ∷ []) (0 ∷ 1 ∷ 2 ∷ []) ([]) ((1 ∷ 1 ∷ 0 ∷ 16 ∷ 1 ∷ 1 ∷ 99 ∷ []) ∷ []))
    -- int x = 3 > 2; int y = 3 <= 2; int z = 3 == 3; int w = -1 < 0u; int v = !5; int u = ~0; int t = +3; int main(void){return 0;}
    × (judged ((120 ∷ []) ∷ (121 ∷ []) ∷ (122 ∷ []) ∷ (119 ∷ []) ∷ (118 ∷ []) ∷ (117 ∷ []) ∷ (116 ∷ []) ∷ (109 ∷ 97 ∷ 105 ∷ 110 ∷ []) ∷ []) ([]) ((Declaration 1 (Then NoTrees (OfSpecifier (Keyword 1 word.Int))) (Then NoTrees (OfDeclaration (InitDeclarator 1 (DeclaredName 1 0) (Present (OfInitializer (Initial 1 (Binary 1 op.Greater (Number 1 3 true false 0) (Number 1 2 true false 0))))))))) ∷ (Declaration 1 (Then NoTrees (OfSpecifier (Keyword 1 word.Int))) (Then NoTrees (OfDeclaration (InitDeclarator 1 (DeclaredName 1 1) (Present (OfInitializer (Initial 1 (Binary 1 op.LessEqual (Number 1 3 true false 0) (Number 1 2 true false 0))))))))) ∷ (Declaration 1 (Then NoTrees (OfSpecifier (Keyword 1 word.Int))) (Then NoTrees (OfDeclaration (InitDeclarator 1 (DeclaredName 1 2) (Present (OfInitializer (Initial 1 (Binary 1 op.Equal (Number 1 3 true false 0) (Number 1 3 true false 0))))))))) ∷ (Declaration 1 (Then NoTrees (OfSpecifier (Keyword 1 word.Int))) (Then NoTrees (OfDeclaration (InitDeclarator 1 (DeclaredName 1 3) (Present (OfInitializer (Initial 1 (Binary 1 op.Less (Unary 1 unary.Minus (Number 1 1 true false 0)) (Number 1 0 false true 0))))))))) ∷ (Declaration 1 (Then NoTrees (OfSpecifier (Keyword 1 word.Int))) (Then NoTrees (OfDeclaration (InitDeclarator 1 (DeclaredName 1 4) (Present (OfInitializer (Initial 1 (Unary 1 unary.Not (Number 1 5 true false 0))))))))) ∷ (Declaration 1 (Then NoTrees (OfSpecifier (Keyword 1 word.Int))) (Then NoTrees (OfDeclaration (InitDeclarator 1 (DeclaredName 1 5) (Present (OfInitializer (Initial 1 (Unary 1 unary.Complement (Number 1 0 false false 0))))))))) ∷ (Declaration 1 (Then NoTrees (OfSpecifier (Keyword 1 word.Int))) (Then NoTrees (OfDeclaration (InitDeclarator 1 (DeclaredName 1 6) (Present (OfInitializer (Initial 1 (Unary 1 unary.Plus (Number 1 3 true false 0))))))))) ∷ (Function 1 (Then NoTrees (OfSpecifier (Keyword 1 word.Int))) (FunctionDeclarator 1 (DeclaredName 1 7) (Then NoTrees (OfDeclaration (Parameter 1 (Then NoTrees (OfSpecifier (Keyword 1 word.Void))) Absent))) false) (Block 1 (Then NoTrees (OfStatement (Return 1 (Present (OfExpression (Number 1 0 false false 0)))))))) ∷ []) ≡ Accepted ((0 ∷ 1 ∷ 0 ∷ 4 ∷ 1 ∷ 0 ∷ 0 ∷ 0 ∷ 1 ∷ []) ∷ (0 ∷ 1 ∷ 0 ∷ 4 ∷ 1 ∷ 0 ∷ 0 ∷ 0 ∷ 0 ∷ []) ∷ (0 ∷ 1 ∷ 0 ∷ 4 ∷ 1 ∷ 0 ∷ 0 ∷ 0 ∷ 1 ∷ []) ∷ (0 ∷ 1 ∷ 0 ∷ 4 ∷ 1 ∷ 0 ∷ 0 ∷ 0 ∷ 0 ∷ []) ∷ (0 ∷ 1 ∷ 0 ∷ 4 ∷ 1 ∷ 0 ∷ 0 ∷ 0 ∷ 0 ∷ []) ∷ (0 ∷ 1 ∷ 0 ∷ 4 ∷ 1 ∷ 0 ∷ 0 ∷ 1 ∷ 1 ∷ []) ∷ (0 ∷ 1 ∷ 0 ∷ 4 ∷ 1 ∷ 0 ∷ 0 ∷ 0 ∷ 3 ∷ []) ∷ []) (0 ∷ 1 ∷ 2 ∷ 3 ∷ 4 ∷ 5 ∷ 6 ∷ []) ([]) ((1 ∷ 1 ∷ 0 ∷ 16 ∷ 1 ∷ 1 ∷ 99 ∷ []) ∷ []))
    -- int x = (char)300; int y = (unsigned char)-1; long z = (unsigned)-1; int w = (_Bool)7; int main(void){return 0;}
    × (judged ((120 ∷ []) ∷ (121 ∷ []) ∷ (122 ∷ []) ∷ (119 ∷ []) ∷ (109 ∷ 97 ∷ 105 ∷ 110 ∷ []) ∷ []) ([]) ((Declaration 1 (Then NoTrees (OfSpecifier (Keyword 1 word.Int))) (Then NoTrees (OfDeclaration (InitDeclarator 1 (DeclaredName 1 0) (Present (OfInitializer (Initial 1 (Cast 1 (TypeName 1 (Then NoTrees (OfSpecifier (Keyword 1 word.Char))) Absent) (Number 1 300 true false 0))))))))) ∷ (Declaration 1 (Then NoTrees (OfSpecifier (Keyword 1 word.Int))) (Then NoTrees (OfDeclaration (InitDeclarator 1 (DeclaredName 1 1) (Present (OfInitializer (Initial 1 (Cast 1 (TypeName 1 (Then (Then NoTrees (OfSpecifier (Keyword 1 word.Unsigned))) (OfSpecifier (Keyword 1 word.Char))) Absent) (Unary 1 unary.Minus (Number 1 1 true false 0)))))))))) ∷ (Declaration 1 (Then NoTrees (OfSpecifier (Keyword 1 word.Long))) (Then NoTrees (OfDeclaration (InitDeclarator 1 (DeclaredName 1 2) (Present (OfInitializer (Initial 1 (Cast 1 (TypeName 1 (Then NoTrees (OfSpecifier (Keyword 1 word.Unsigned))) Absent) (Unary 1 unary.Minus (Number 1 1 true false 0)))))))))) ∷ (Declaration 1 (Then NoTrees (OfSpecifier (Keyword 1 word.Int))) (Then NoTrees (OfDeclaration (InitDeclarator 1 (DeclaredName 1 3) (Present (OfInitializer (Initial 1 (Cast 1 (TypeName 1 (Then NoTrees (OfSpecifier (Keyword 1 word.Bool))) Absent) (Number 1 7 true false 0))))))))) ∷ (Function 1 (Then NoTrees (OfSpecifier (Keyword 1 word.Int))) (FunctionDeclarator 1 (DeclaredName 1 4) (Then NoTrees (OfDeclaration (Parameter 1 (Then NoTrees (OfSpecifier (Keyword 1 word.Void))) Absent))) false) (Block 1 (Then NoTrees (OfStatement (Return 1 (Present (OfExpression (Number 1 0 false false 0)))))))) ∷ []) ≡ Accepted ((0 ∷ 1 ∷ 0 ∷ 4 ∷ 1 ∷ 0 ∷ 0 ∷ 0 ∷ 44 ∷ []) ∷ (0 ∷ 1 ∷ 0 ∷ 4 ∷ 1 ∷ 0 ∷ 0 ∷ 0 ∷ 255 ∷ []) ∷ (0 ∷ 1 ∷ 0 ∷ 8 ∷ 1 ∷ 0 ∷ 0 ∷ 0 ∷ 4294967295 ∷ []) ∷ (0 ∷ 1 ∷ 0 ∷ 4 ∷ 1 ∷ 0 ∷ 0 ∷ 0 ∷ 1 ∷ []) ∷ []) (0 ∷ 1 ∷ 2 ∷ 3 ∷ []) ([]) ((1 ∷ 1 ∷ 0 ∷ 16 ∷ 1 ∷ 1 ∷ 99 ∷ []) ∷ []))
    -- unsigned long x = 18446744073709551615u; unsigned long y = 18446744073709551615u * 2; long z = 9223372036854775807; int main(void){return 0;}
    × (judged ((120 ∷ []) ∷ (121 ∷ []) ∷ (122 ∷ []) ∷ (109 ∷ 97 ∷ 105 ∷ 110 ∷ []) ∷ []) ([]) ((Declaration 1 (Then (Then NoTrees (OfSpecifier (Keyword 1 word.Unsigned))) (OfSpecifier (Keyword 1 word.Long))) (Then NoTrees (OfDeclaration (InitDeclarator 1 (DeclaredName 1 0) (Present (OfInitializer (Initial 1 (Number 1 18446744073709551615 true true 0)))))))) ∷ (Declaration 1 (Then (Then NoTrees (OfSpecifier (Keyword 1 word.Unsigned))) (OfSpecifier (Keyword 1 word.Long))) (Then NoTrees (OfDeclaration (InitDeclarator 1 (DeclaredName 1 1) (Present (OfInitializer (Initial 1 (Binary 1 op.Multiply (Number 1 18446744073709551615 true true 0) (Number 1 2 true false 0))))))))) ∷ (Declaration 1 (Then NoTrees (OfSpecifier (Keyword 1 word.Long))) (Then NoTrees (OfDeclaration (InitDeclarator 1 (DeclaredName 1 2) (Present (OfInitializer (Initial 1 (Number 1 9223372036854775807 true false 0)))))))) ∷ (Function 1 (Then NoTrees (OfSpecifier (Keyword 1 word.Int))) (FunctionDeclarator 1 (DeclaredName 1 3) (Then NoTrees (OfDeclaration (Parameter 1 (Then NoTrees (OfSpecifier (Keyword 1 word.Void))) Absent))) false) (Block 1 (Then NoTrees (OfStatement (Return 1 (Present (OfExpression (Number 1 0 false false 0)))))))) ∷ []) ≡ Accepted ((0 ∷ 1 ∷ 0 ∷ 8 ∷ 1 ∷ 0 ∷ 0 ∷ 0 ∷ 18446744073709551615 ∷ []) ∷ (0 ∷ 1 ∷ 0 ∷ 8 ∷ 1 ∷ 0 ∷ 0 ∷ 0 ∷ 18446744073709551614 ∷ []) ∷ (0 ∷ 1 ∷ 0 ∷ 8 ∷ 1 ∷ 0 ∷ 0 ∷ 0 ∷ 9223372036854775807 ∷ []) ∷ []) (0 ∷ 1 ∷ 2 ∷ []) ([]) ((1 ∷ 1 ∷ 0 ∷ 16 ∷ 1 ∷ 1 ∷ 99 ∷ []) ∷ []))
    -- long z = 9223372036854775807 + 1; int main(void){return 0;}
    × (judged ((122 ∷ []) ∷ (109 ∷ 97 ∷ 105 ∷ 110 ∷ []) ∷ []) ([]) ((Declaration 1 (Then NoTrees (OfSpecifier (Keyword 1 word.Long))) (Then NoTrees (OfDeclaration (InitDeclarator 1 (DeclaredName 1 0) (Present (OfInitializer (Initial 1 (Binary 1 op.Add (Number 1 9223372036854775807 true false 0) (Number 1 1 true false 0))))))))) ∷ (Function 1 (Then NoTrees (OfSpecifier (Keyword 1 word.Int))) (FunctionDeclarator 1 (DeclaredName 1 1) (Then NoTrees (OfDeclaration (Parameter 1 (Then NoTrees (OfSpecifier (Keyword 1 word.Void))) Absent))) false) (Block 1 (Then NoTrees (OfStatement (Return 1 (Present (OfExpression (Number 1 0 false false 0)))))))) ∷ []) ≡ Refused 0)
unfolding type_of_words library_named are_compatible layouts_of initialized_object values
sizes_and_casts = (refl, refl, refl, refl, refl, refl, refl, refl)

-- 6.6p9, 6.7.6.2p4: addresses of arrays whose size is given later
incomplete_arrays :
    -- int a[1 ? 3 : 4]; int b[(long)2]; int *p = b + 2; int main(void){return 0;}
    (judged ((97 ∷ []) ∷ (98 ∷ []) ∷ (112 ∷ []) ∷ (109 ∷ 97 ∷ 105 ∷ 110 ∷ []) ∷ []) ([]) ((Declaration 1 (Then NoTrees (OfSpecifier (Keyword 1 word.Int))) (Then NoTrees (OfDeclaration (InitDeclarator 1 (Array 1 (DeclaredName 1 0) (Present (OfExpression (Conditional 1 (Number 1 1 true false 0) (Number 1 3 true false 0) (Number 1 4 true false 0))))) Absent)))) ∷ (Declaration 1 (Then NoTrees (OfSpecifier (Keyword 1 word.Int))) (Then NoTrees (OfDeclaration (InitDeclarator 1 (Array 1 (DeclaredName 1 1) (Present (OfExpression (Cast 1 (TypeName 1 (Then NoTrees (OfSpecifier (Keyword 1 word.Long))) Absent) (Number 1 2 true false 0))))) Absent)))) ∷ (Declaration 1 (Then NoTrees (OfSpecifier (Keyword 1 word.Int))) (Then NoTrees (OfDeclaration (InitDeclarator 1 (Pointer 1 0 (DeclaredName 1 2)) (Present (OfInitializer (Initial 1 (Binary 1 op.Add (Name 1 1) (Number 1 2 true false 0))))))))) ∷ (Function 1 (Then NoTrees (OfSpecifier (Keyword 1 word.Int))) (FunctionDeclarator 1 (DeclaredName 1 3) (Then NoTrees (OfDeclaration (Parameter 1 (Then NoTrees (OfSpecifier (Keyword 1 word.Void))) Absent))) false) (Block 1 (Then NoTrees (OfStatement (Return 1 (Present (OfExpression (Number 1 0 false false 0)))))))) ∷ []) ≡ Accepted ((0 ∷ 0 ∷ []) ∷ (0 ∷ 0 ∷ []) ∷ (0 ∷ 1 ∷ 0 ∷ 8 ∷ 1 ∷ 0 ∷ 1 ∷ 1 ∷ 8 ∷ []) ∷ []) (0 ∷ 1 ∷ 2 ∷ []) ([]) ((1 ∷ 1 ∷ 0 ∷ 16 ∷ 1 ∷ 1 ∷ 99 ∷ []) ∷ []))
    -- extern int a[]; int *p = a; int *q = &a[0]; int a[3]; int main(void){return 0;}
    × (judged ((97 ∷ []) ∷ (112 ∷ []) ∷ (113 ∷ []) ∷ (109 ∷ 97 ∷ 105 ∷ 110 ∷ []) ∷ []) ([]) ((Declaration 1 (Then (Then NoTrees (OfSpecifier (Keyword 1 word.Extern))) (OfSpecifier (Keyword 1 word.Int))) (Then NoTrees (OfDeclaration (InitDeclarator 1 (Array 1 (DeclaredName 1 0) Absent) Absent)))) ∷ (Declaration 1 (Then NoTrees (OfSpecifier (Keyword 1 word.Int))) (Then NoTrees (OfDeclaration (InitDeclarator 1 (Pointer 1 0 (DeclaredName 1 1)) (Present (OfInitializer (Initial 1 (Name 1 0)))))))) ∷ (Declaration 1 (Then NoTrees (OfSpecifier (Keyword 1 word.Int))) (Then NoTrees (OfDeclaration (InitDeclarator 1 (Pointer 1 0 (DeclaredName 1 2)) (Present (OfInitializer (Initial 1 (Unary 1 unary.Address (Index 1 (Name 1 0) (Number 1 0 false false 0)))))))))) ∷ (Declaration 1 (Then NoTrees (OfSpecifier (Keyword 1 word.Int))) (Then NoTrees (OfDeclaration (InitDeclarator 1 (Array 1 (DeclaredName 1 0) (Present (OfExpression (Number 1 3 true false 0)))) Absent)))) ∷ (Function 1 (Then NoTrees (OfSpecifier (Keyword 1 word.Int))) (FunctionDeclarator 1 (DeclaredName 1 3) (Then NoTrees (OfDeclaration (Parameter 1 (Then NoTrees (OfSpecifier (Keyword 1 word.Void))) Absent))) false) (Block 1 (Then NoTrees (OfStatement (Return 1 (Present (OfExpression (Number 1 0 false false 0)))))))) ∷ []) ≡ Accepted ((0 ∷ 0 ∷ []) ∷ (0 ∷ 1 ∷ 0 ∷ 8 ∷ 1 ∷ 0 ∷ 1 ∷ 0 ∷ 0 ∷ []) ∷ (0 ∷ 1 ∷ 0 ∷ 8 ∷ 1 ∷ 0 ∷ 1 ∷ 0 ∷ 0 ∷ []) ∷ []) (0 ∷ 1 ∷ 2 ∷ []) ([]) ((1 ∷ 1 ∷ 0 ∷ 16 ∷ 1 ∷ 1 ∷ 99 ∷ []) ∷ []))
    -- extern int a[]; int *p = a + 1; int a[3]; int main(void){return 0;}
    × (judged ((97 ∷ []) ∷ (112 ∷ []) ∷ (109 ∷ 97 ∷ 105 ∷ 110 ∷ []) ∷ []) ([]) ((Declaration 1 (Then (Then NoTrees (OfSpecifier (Keyword 1 word.Extern))) (OfSpecifier (Keyword 1 word.Int))) (Then NoTrees (OfDeclaration (InitDeclarator 1 (Array 1 (DeclaredName 1 0) Absent) Absent)))) ∷ (Declaration 1 (Then NoTrees (OfSpecifier (Keyword 1 word.Int))) (Then NoTrees (OfDeclaration (InitDeclarator 1 (Pointer 1 0 (DeclaredName 1 1)) (Present (OfInitializer (Initial 1 (Binary 1 op.Add (Name 1 0) (Number 1 1 true false 0))))))))) ∷ (Declaration 1 (Then NoTrees (OfSpecifier (Keyword 1 word.Int))) (Then NoTrees (OfDeclaration (InitDeclarator 1 (Array 1 (DeclaredName 1 0) (Present (OfExpression (Number 1 3 true false 0)))) Absent)))) ∷ (Function 1 (Then NoTrees (OfSpecifier (Keyword 1 word.Int))) (FunctionDeclarator 1 (DeclaredName 1 2) (Then NoTrees (OfDeclaration (Parameter 1 (Then NoTrees (OfSpecifier (Keyword 1 word.Void))) Absent))) false) (Block 1 (Then NoTrees (OfStatement (Return 1 (Present (OfExpression (Number 1 0 false false 0)))))))) ∷ []) ≡ Refused 1)
    -- int a[]; int *p = &a[1]; int a[3]; int main(void){return 0;}
    × (judged ((97 ∷ []) ∷ (112 ∷ []) ∷ (109 ∷ 97 ∷ 105 ∷ 110 ∷ []) ∷ []) ([]) ((Declaration 1 (Then NoTrees (OfSpecifier (Keyword 1 word.Int))) (Then NoTrees (OfDeclaration (InitDeclarator 1 (Array 1 (DeclaredName 1 0) Absent) Absent)))) ∷ (Declaration 1 (Then NoTrees (OfSpecifier (Keyword 1 word.Int))) (Then NoTrees (OfDeclaration (InitDeclarator 1 (Pointer 1 0 (DeclaredName 1 1)) (Present (OfInitializer (Initial 1 (Unary 1 unary.Address (Index 1 (Name 1 0) (Number 1 1 true false 0)))))))))) ∷ (Declaration 1 (Then NoTrees (OfSpecifier (Keyword 1 word.Int))) (Then NoTrees (OfDeclaration (InitDeclarator 1 (Array 1 (DeclaredName 1 0) (Present (OfExpression (Number 1 3 true false 0)))) Absent)))) ∷ (Function 1 (Then NoTrees (OfSpecifier (Keyword 1 word.Int))) (FunctionDeclarator 1 (DeclaredName 1 2) (Then NoTrees (OfDeclaration (Parameter 1 (Then NoTrees (OfSpecifier (Keyword 1 word.Void))) Absent))) false) (Block 1 (Then NoTrees (OfStatement (Return 1 (Present (OfExpression (Number 1 0 false false 0)))))))) ∷ []) ≡ Refused 1)
    -- int a[] = {1, 2, 3}; int *p = a + 3; int main(void){return 0;}
    × (judged ((97 ∷ []) ∷ (112 ∷ []) ∷ (109 ∷ 97 ∷ 105 ∷ 110 ∷ []) ∷ []) ([]) ((Declaration 1 (Then NoTrees (OfSpecifier (Keyword 1 word.Int))) (Then NoTrees (OfDeclaration (InitDeclarator 1 (Array 1 (DeclaredName 1 0) Absent) (Present (OfInitializer (Braces 1 (Then (Then (Then NoTrees (OfInitializer (Initial 1 (Number 1 1 true false 0)))) (OfInitializer (Initial 1 (Number 1 2 true false 0)))) (OfInitializer (Initial 1 (Number 1 3 true false 0)))) false))))))) ∷ (Declaration 1 (Then NoTrees (OfSpecifier (Keyword 1 word.Int))) (Then NoTrees (OfDeclaration (InitDeclarator 1 (Pointer 1 0 (DeclaredName 1 1)) (Present (OfInitializer (Initial 1 (Binary 1 op.Add (Name 1 0) (Number 1 3 true false 0))))))))) ∷ (Function 1 (Then NoTrees (OfSpecifier (Keyword 1 word.Int))) (FunctionDeclarator 1 (DeclaredName 1 2) (Then NoTrees (OfDeclaration (Parameter 1 (Then NoTrees (OfSpecifier (Keyword 1 word.Void))) Absent))) false) (Block 1 (Then NoTrees (OfStatement (Return 1 (Present (OfExpression (Number 1 0 false false 0)))))))) ∷ []) ≡ Accepted ((1 ∷ 3 ∷ 0 ∷ 4 ∷ 1 ∷ 0 ∷ 0 ∷ 0 ∷ 1 ∷ 4 ∷ 4 ∷ 1 ∷ 0 ∷ 0 ∷ 0 ∷ 2 ∷ 8 ∷ 4 ∷ 1 ∷ 0 ∷ 0 ∷ 0 ∷ 3 ∷ []) ∷ (0 ∷ 1 ∷ 0 ∷ 8 ∷ 1 ∷ 0 ∷ 1 ∷ 0 ∷ 12 ∷ []) ∷ []) (0 ∷ 1 ∷ []) ([]) ((1 ∷ 1 ∷ 0 ∷ 16 ∷ 1 ∷ 1 ∷ 99 ∷ []) ∷ []))
    -- extern int x; int *p = &x; int x; int main(void){return 0;}
    × (judged ((120 ∷ []) ∷ (112 ∷ []) ∷ (109 ∷ 97 ∷ 105 ∷ 110 ∷ []) ∷ []) ([]) ((Declaration 1 (Then (Then NoTrees (OfSpecifier (Keyword 1 word.Extern))) (OfSpecifier (Keyword 1 word.Int))) (Then NoTrees (OfDeclaration (InitDeclarator 1 (DeclaredName 1 0) Absent)))) ∷ (Declaration 1 (Then NoTrees (OfSpecifier (Keyword 1 word.Int))) (Then NoTrees (OfDeclaration (InitDeclarator 1 (Pointer 1 0 (DeclaredName 1 1)) (Present (OfInitializer (Initial 1 (Unary 1 unary.Address (Name 1 0))))))))) ∷ (Declaration 1 (Then NoTrees (OfSpecifier (Keyword 1 word.Int))) (Then NoTrees (OfDeclaration (InitDeclarator 1 (DeclaredName 1 0) Absent)))) ∷ (Function 1 (Then NoTrees (OfSpecifier (Keyword 1 word.Int))) (FunctionDeclarator 1 (DeclaredName 1 2) (Then NoTrees (OfDeclaration (Parameter 1 (Then NoTrees (OfSpecifier (Keyword 1 word.Void))) Absent))) false) (Block 1 (Then NoTrees (OfStatement (Return 1 (Present (OfExpression (Number 1 0 false false 0)))))))) ∷ []) ≡ Accepted ((0 ∷ 0 ∷ []) ∷ (0 ∷ 1 ∷ 0 ∷ 8 ∷ 1 ∷ 0 ∷ 1 ∷ 0 ∷ 0 ∷ []) ∷ []) (0 ∷ 1 ∷ []) ([]) ((1 ∷ 1 ∷ 0 ∷ 16 ∷ 1 ∷ 1 ∷ 99 ∷ []) ∷ []))
unfolding type_of_words library_named are_compatible layouts_of initialized_object values
incomplete_arrays = (refl, refl, refl, refl, refl, refl)

-- 6.7.9p4: constants within structures and unions
aggregates :
    -- struct s {int *p; char *q; int n;} v = {0, "a", 3}; int main(void){return 0;}
    (judged ((115 ∷ []) ∷ (112 ∷ []) ∷ (113 ∷ []) ∷ (110 ∷ []) ∷ (118 ∷ []) ∷ (109 ∷ 97 ∷ 105 ∷ 110 ∷ []) ∷ []) ((97 ∷ []) ∷ []) ((Declaration 1 (Then NoTrees (OfSpecifier (Composite 1 word.Struct (Some 0) (Then (Then (Then NoTrees (OfDeclaration (MemberDeclaration 1 (Then NoTrees (OfSpecifier (Keyword 1 word.Int))) (Then NoTrees (OfDeclarator (Pointer 1 0 (DeclaredName 1 1))))))) (OfDeclaration (MemberDeclaration 1 (Then NoTrees (OfSpecifier (Keyword 1 word.Char))) (Then NoTrees (OfDeclarator (Pointer 1 0 (DeclaredName 1 2))))))) (OfDeclaration (MemberDeclaration 1 (Then NoTrees (OfSpecifier (Keyword 1 word.Int))) (Then NoTrees (OfDeclarator (DeclaredName 1 3))))))))) (Then NoTrees (OfDeclaration (InitDeclarator 1 (DeclaredName 1 4) (Present (OfInitializer (Braces 1 (Then (Then (Then NoTrees (OfInitializer (Initial 1 (Number 1 0 false false 0)))) (OfInitializer (Initial 1 (Text 1 0 0)))) (OfInitializer (Initial 1 (Number 1 3 true false 0)))) false))))))) ∷ (Function 1 (Then NoTrees (OfSpecifier (Keyword 1 word.Int))) (FunctionDeclarator 1 (DeclaredName 1 5) (Then NoTrees (OfDeclaration (Parameter 1 (Then NoTrees (OfSpecifier (Keyword 1 word.Void))) Absent))) false) (Block 1 (Then NoTrees (OfStatement (Return 1 (Present (OfExpression (Number 1 0 false false 0)))))))) ∷ []) ≡ Accepted ((1 ∷ 3 ∷ 0 ∷ 8 ∷ 1 ∷ 0 ∷ 3 ∷ 8 ∷ 8 ∷ 1 ∷ 0 ∷ 2 ∷ 2 ∷ 0 ∷ 16 ∷ 4 ∷ 1 ∷ 0 ∷ 0 ∷ 0 ∷ 3 ∷ []) ∷ []) (4 ∷ []) (2 ∷ 1 ∷ []) ((1 ∷ 1 ∷ 0 ∷ 16 ∷ 1 ∷ 1 ∷ 99 ∷ []) ∷ []))
    -- int x; struct s {int *p; int n[2];} v[2] = {{&x, {1, 2}}, {&x + 1, {3, -4}}}; int main(void){return 0;}
    × (judged ((120 ∷ []) ∷ (115 ∷ []) ∷ (112 ∷ []) ∷ (110 ∷ []) ∷ (118 ∷ []) ∷ (109 ∷ 97 ∷ 105 ∷ 110 ∷ []) ∷ []) ([]) ((Declaration 1 (Then NoTrees (OfSpecifier (Keyword 1 word.Int))) (Then NoTrees (OfDeclaration (InitDeclarator 1 (DeclaredName 1 0) Absent)))) ∷ (Declaration 1 (Then NoTrees (OfSpecifier (Composite 1 word.Struct (Some 1) (Then (Then NoTrees (OfDeclaration (MemberDeclaration 1 (Then NoTrees (OfSpecifier (Keyword 1 word.Int))) (Then NoTrees (OfDeclarator (Pointer 1 0 (DeclaredName 1 2))))))) (OfDeclaration (MemberDeclaration 1 (Then NoTrees (OfSpecifier (Keyword 1 word.Int))) (Then NoTrees (OfDeclarator (Array 1 (DeclaredName 1 3) (Present (OfExpression (Number 1 2 true false 0)))))))))))) (Then NoTrees (OfDeclaration (InitDeclarator 1 (Array 1 (DeclaredName 1 4) (Present (OfExpression (Number 1 2 true false 0)))) (Present (OfInitializer (Braces 1 (Then (Then NoTrees (OfInitializer (Braces 1 (Then (Then NoTrees (OfInitializer (Initial 1 (Unary 1 unary.Address (Name 1 0))))) (OfInitializer (Braces 1 (Then (Then NoTrees (OfInitializer (Initial 1 (Number 1 1 true false 0)))) (OfInitializer (Initial 1 (Number 1 2 true false 0)))) false))) false))) (OfInitializer (Braces 1 (Then (Then NoTrees (OfInitializer (Initial 1 (Binary 1 op.Add (Unary 1 unary.Address (Name 1 0)) (Number 1 1 true false 0))))) (OfInitializer (Braces 1 (Then (Then NoTrees (OfInitializer (Initial 1 (Number 1 3 true false 0)))) (OfInitializer (Initial 1 (Unary 1 unary.Minus (Number 1 4 true false 0))))) false))) false))) false))))))) ∷ (Function 1 (Then NoTrees (OfSpecifier (Keyword 1 word.Int))) (FunctionDeclarator 1 (DeclaredName 1 5) (Then NoTrees (OfDeclaration (Parameter 1 (Then NoTrees (OfSpecifier (Keyword 1 word.Void))) Absent))) false) (Block 1 (Then NoTrees (OfStatement (Return 1 (Present (OfExpression (Number 1 0 false false 0)))))))) ∷ []) ≡ Accepted ((0 ∷ 0 ∷ []) ∷ (1 ∷ 6 ∷ 0 ∷ 8 ∷ 1 ∷ 0 ∷ 1 ∷ 0 ∷ 0 ∷ 8 ∷ 4 ∷ 1 ∷ 0 ∷ 0 ∷ 0 ∷ 1 ∷ 12 ∷ 4 ∷ 1 ∷ 0 ∷ 0 ∷ 0 ∷ 2 ∷ 16 ∷ 8 ∷ 1 ∷ 0 ∷ 1 ∷ 0 ∷ 4 ∷ 24 ∷ 4 ∷ 1 ∷ 0 ∷ 0 ∷ 0 ∷ 3 ∷ 28 ∷ 4 ∷ 1 ∷ 0 ∷ 0 ∷ 1 ∷ 4 ∷ []) ∷ []) (0 ∷ 4 ∷ []) ([]) ((1 ∷ 1 ∷ 0 ∷ 16 ∷ 1 ∷ 1 ∷ 99 ∷ []) ∷ []))
    -- union u {int *p; int n;} v = {0}; int x; union u w = {&x}; int main(void){return 0;}
    × (judged ((117 ∷ []) ∷ (112 ∷ []) ∷ (110 ∷ []) ∷ (118 ∷ []) ∷ (120 ∷ []) ∷ (119 ∷ []) ∷ (109 ∷ 97 ∷ 105 ∷ 110 ∷ []) ∷ []) ([]) ((Declaration 1 (Then NoTrees (OfSpecifier (Composite 1 word.Union (Some 0) (Then (Then NoTrees (OfDeclaration (MemberDeclaration 1 (Then NoTrees (OfSpecifier (Keyword 1 word.Int))) (Then NoTrees (OfDeclarator (Pointer 1 0 (DeclaredName 1 1))))))) (OfDeclaration (MemberDeclaration 1 (Then NoTrees (OfSpecifier (Keyword 1 word.Int))) (Then NoTrees (OfDeclarator (DeclaredName 1 2))))))))) (Then NoTrees (OfDeclaration (InitDeclarator 1 (DeclaredName 1 3) (Present (OfInitializer (Braces 1 (Then NoTrees (OfInitializer (Initial 1 (Number 1 0 false false 0)))) false))))))) ∷ (Declaration 1 (Then NoTrees (OfSpecifier (Keyword 1 word.Int))) (Then NoTrees (OfDeclaration (InitDeclarator 1 (DeclaredName 1 4) Absent)))) ∷ (Declaration 1 (Then NoTrees (OfSpecifier (Tag 1 word.Union 0))) (Then NoTrees (OfDeclaration (InitDeclarator 1 (DeclaredName 1 5) (Present (OfInitializer (Braces 1 (Then NoTrees (OfInitializer (Initial 1 (Unary 1 unary.Address (Name 1 4))))) false))))))) ∷ (Function 1 (Then NoTrees (OfSpecifier (Keyword 1 word.Int))) (FunctionDeclarator 1 (DeclaredName 1 6) (Then NoTrees (OfDeclaration (Parameter 1 (Then NoTrees (OfSpecifier (Keyword 1 word.Void))) Absent))) false) (Block 1 (Then NoTrees (OfStatement (Return 1 (Present (OfExpression (Number 1 0 false false 0)))))))) ∷ []) ≡ Accepted ((1 ∷ 1 ∷ 0 ∷ 8 ∷ 1 ∷ 0 ∷ 3 ∷ []) ∷ (0 ∷ 0 ∷ []) ∷ (1 ∷ 1 ∷ 0 ∷ 8 ∷ 1 ∷ 0 ∷ 1 ∷ 4 ∷ 0 ∷ []) ∷ []) (3 ∷ 4 ∷ 5 ∷ []) ([]) ((1 ∷ 1 ∷ 0 ∷ 16 ∷ 1 ∷ 1 ∷ 99 ∷ []) ∷ []))
unfolding type_of_words library_named are_compatible layouts_of initialized_object values
aggregates = (refl, refl, refl)

-- 6.8.4.2p3: constants of labels
case_constants :
    -- int main(void){switch (3) {case 1 + 2: return 1; case (char)256: return 2; default: return 3;}}
    (judged ((109 ∷ 97 ∷ 105 ∷ 110 ∷ []) ∷ []) ([]) ((Function 1 (Then NoTrees (OfSpecifier (Keyword 1 word.Int))) (FunctionDeclarator 1 (DeclaredName 1 0) (Then NoTrees (OfDeclaration (Parameter 1 (Then NoTrees (OfSpecifier (Keyword 1 word.Void))) Absent))) false) (Block 1 (Then NoTrees (OfStatement (Switch 1 (Number 1 3 true false 0) (SwitchBlock 1 (Then (Then (Then NoTrees (OfStatement (Labelled 1 (Then NoTrees (OfStatement (Case 1 (Binary 1 op.Add (Number 1 1 true false 0) (Number 1 2 true false 0))))) (Return 1 (Present (OfExpression (Number 1 1 true false 0))))))) (OfStatement (Labelled 1 (Then NoTrees (OfStatement (Case 1 (Cast 1 (TypeName 1 (Then NoTrees (OfSpecifier (Keyword 1 word.Char))) Absent) (Number 1 256 true false 0))))) (Return 1 (Present (OfExpression (Number 1 2 true false 0))))))) (OfStatement (Labelled 1 (Then NoTrees (OfStatement (Default 1))) (Return 1 (Present (OfExpression (Number 1 3 true false 0))))))))))))) ∷ []) ≡ Accepted ([]) ([]) ([]) ((1 ∷ 1 ∷ 0 ∷ 7 ∷ 1 ∷ 1 ∷ 1 ∷ 1 ∷ 0 ∷ 8 ∷ 3 ∷ 16 ∷ 1 ∷ 1 ∷ 8 ∷ 0 ∷ 16 ∷ 1 ∷ 1 ∷ 9 ∷ 16 ∷ 1 ∷ 1 ∷ 99 ∷ 99 ∷ []) ∷ []))
    -- int main(void){switch (3) {case 1 / 0: return 1;} return 0;}
    × (judged ((109 ∷ 97 ∷ 105 ∷ 110 ∷ []) ∷ []) ([]) ((Function 1 (Then NoTrees (OfSpecifier (Keyword 1 word.Int))) (FunctionDeclarator 1 (DeclaredName 1 0) (Then NoTrees (OfDeclaration (Parameter 1 (Then NoTrees (OfSpecifier (Keyword 1 word.Void))) Absent))) false) (Block 1 (Then (Then NoTrees (OfStatement (Switch 1 (Number 1 3 true false 0) (SwitchBlock 1 (Then NoTrees (OfStatement (Labelled 1 (Then NoTrees (OfStatement (Case 1 (Binary 1 op.Divide (Number 1 1 true false 0) (Number 1 0 false false 0))))) (Return 1 (Present (OfExpression (Number 1 1 true false 0))))))))))) (OfStatement (Return 1 (Present (OfExpression (Number 1 0 false false 0)))))))) ∷ []) ≡ Refused 0)
unfolding type_of_words library_named are_compatible layouts_of initialized_object values
case_constants = (refl, refl)
