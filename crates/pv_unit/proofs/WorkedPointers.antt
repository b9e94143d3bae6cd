-- Units with pointers to functions (C17 6.3.2.1p4): which functions they point to, and which have none.
use Rattle.std.proofs.Common.{◌≡◌, ℕ, ◌-◌, true, false, List, [], ◌∷◌, Option, Some, None, map, refl}
use Rattle.std.specs.Prelude.{codes}
use Rattle.std.specs.Option.{option_map}
use Rattle.pv_token.specs.declared.words.Word.TheVariants as word
use Rattle.pv_tree.specs.declared.operators.UnaryOperator.TheVariants as unary
use Rattle.pv_tree.specs.declared.operators.BinaryOperator.TheVariants as op
use Rattle.pv_tree.specs.declared.operators.AssignOperator.TheVariants as assign
use Rattle.pv_tree.specs.Syntax.{DeclarationTree, Absent, AbstractFunction, AbstractParen, AbstractPointer, Argument, Array, Assign, Binary, Block, Braces, Call, Cast, Declaration, DeclaredName, ExpressionStatement, For, Function, FunctionDeclarator, If, Index, InitDeclarator, Initial, Keyword, Name, NoArguments, NoTrees, Number, OfDeclaration, OfDeclarator, OfExpression, OfInitializer, OfSpecifier, OfStatement, Parameter, Paren, ParenDeclarator, Pointer, Present, Return, SizeofExpr, Then, TypeName, TypedefName, Unary}
use Rattle.pv_types.specs.Layouts.{layouts_of}
use Rattle.pv_types.specs.Compatible.{are_compatible}
use Rattle.pv_typed.specs.TypedUnits.{WholeUnit, function_at}
use Rattle.pv_typed.specs.Constants.{and_then}
use Rattle.pv_check.specs.Words.{type_of_words}
use Rattle.pv_library.specs.LibraryNames.{library_named}
use Rattle.pv_unit.specs.Redeclarations.{UnitState}
use Rattle.pv_unit.specs.Initializers.{initialized_object}
use Rattle.pv_unit.specs.ValueRules.{values}
use Rattle.pv_unit.specs.Units.{typed_first, first_unresolved, finished_unit}
use Rattle.pv_unit.proofs.WorkedAnswers.{nothing}

-- the names of functions, by their numbers among the tokens
abbrev names_of : WholeUnit → List ℕ → List ℕ
names_of u fs = map (λ (f : ℕ). (function_at u f).name - 2) fs

-- what the external declarations of a unit with these names leave, or none where one has no typing
abbrev behind : List (List ℕ) → List DeclarationTree → Option UnitState
behind names ds = typed_first ds (nothing names [])

-- the names of the functions that the unit points to
abbrev pointed : List (List ℕ) → List DeclarationTree → Option (List ℕ)
pointed names ds = option_map (λ (u : UnitState). names_of u.state.unit (finished_unit u).placed) (behind names ds)

-- the first name that nothing defines
abbrev undefined : List (List ℕ) → List DeclarationTree → Option ℕ
undefined names ds = and_then (behind names ds) (λ u. first_unresolved u.state u.entities)

-- the names of the tokens of a unit, its external declarations, and an answer
abbrev Row : Type 0 → Type 0
Row A = List (List ℕ) × List DeclarationTree × A

abbrev ArePointed : List (Row (Option (List ℕ))) → Type 0
ArePointed rows = map (λ (r : Row (Option (List ℕ))). pointed r.0 r.1) rows ≡ map (λ (r : Row (Option (List ℕ))). r.2) rows

abbrev AreUndefined : List (Row (Option ℕ)) → Type 0
AreUndefined rows = map (λ (r : Row (Option ℕ)). undefined r.0 r.1) rows ≡ map (λ (r : Row (Option ℕ)). r.2) rows

-- 6.3.2.1p4: the functions that a unit points to
pointed_rows : ArePointed (
    -- int twice(int n){return n + n;} int main(void){int (*f)(int) = twice; return f(4);}
    ((codes "twice" ∷ codes "n" ∷ codes "main" ∷ codes "f" ∷ []), ((Function 1 (Then NoTrees (OfSpecifier (Keyword 1 word.Int))) (FunctionDeclarator 1 (DeclaredName 1 0) (Then NoTrees (OfDeclaration (Parameter 1 (Then NoTrees (OfSpecifier (Keyword 1 word.Int))) (Present (OfDeclarator (DeclaredName 1 1)))))) false) (Block 1 (Then NoTrees (OfStatement (Return 1 (Present (OfExpression (Binary 1 op.Add (Name 1 1) (Name 1 1))))))))) ∷ (Function 1 (Then NoTrees (OfSpecifier (Keyword 1 word.Int))) (FunctionDeclarator 1 (DeclaredName 1 2) (Then NoTrees (OfDeclaration (Parameter 1 (Then NoTrees (OfSpecifier (Keyword 1 word.Void))) Absent))) false) (Block 1 (Then (Then NoTrees (OfDeclaration (Declaration 1 (Then NoTrees (OfSpecifier (Keyword 1 word.Int))) (Then NoTrees (OfDeclaration (InitDeclarator 1 (FunctionDeclarator 1 (ParenDeclarator 1 (Pointer 1 0 (DeclaredName 1 3))) (Then NoTrees (OfDeclaration (Parameter 1 (Then NoTrees (OfSpecifier (Keyword 1 word.Int))) Absent))) false) (Present (OfInitializer (Initial 1 (Name 1 0)))))))))) (OfStatement (Return 1 (Present (OfExpression (Call 1 (Name 1 3) (Argument NoArguments (Number 1 4 true false 0)))))))))) ∷ []), Some (0 ∷ [])) ∷
    -- long wide(long n){return n;} int main(void){int (*f)(int) = (int (*)(int))wide; return f(4);}
    ((codes "wide" ∷ codes "n" ∷ codes "main" ∷ codes "f" ∷ []), ((Function 1 (Then NoTrees (OfSpecifier (Keyword 1 word.Long))) (FunctionDeclarator 1 (DeclaredName 1 0) (Then NoTrees (OfDeclaration (Parameter 1 (Then NoTrees (OfSpecifier (Keyword 1 word.Long))) (Present (OfDeclarator (DeclaredName 1 1)))))) false) (Block 1 (Then NoTrees (OfStatement (Return 1 (Present (OfExpression (Name 1 1)))))))) ∷ (Function 1 (Then NoTrees (OfSpecifier (Keyword 1 word.Int))) (FunctionDeclarator 1 (DeclaredName 1 2) (Then NoTrees (OfDeclaration (Parameter 1 (Then NoTrees (OfSpecifier (Keyword 1 word.Void))) Absent))) false) (Block 1 (Then (Then NoTrees (OfDeclaration (Declaration 1 (Then NoTrees (OfSpecifier (Keyword 1 word.Int))) (Then NoTrees (OfDeclaration (InitDeclarator 1 (FunctionDeclarator 1 (ParenDeclarator 1 (Pointer 1 0 (DeclaredName 1 3))) (Then NoTrees (OfDeclaration (Parameter 1 (Then NoTrees (OfSpecifier (Keyword 1 word.Int))) Absent))) false) (Present (OfInitializer (Initial 1 (Cast 1 (TypeName 1 (Then NoTrees (OfSpecifier (Keyword 1 word.Int))) (Present (OfDeclarator (AbstractFunction 1 (Present (OfDeclarator (AbstractParen 1 (AbstractPointer 1 0 Absent)))) (Then NoTrees (OfDeclaration (Parameter 1 (Then NoTrees (OfSpecifier (Keyword 1 word.Int))) Absent))) false)))) (Name 1 0))))))))))) (OfStatement (Return 1 (Present (OfExpression (Call 1 (Name 1 3) (Argument NoArguments (Number 1 4 true false 0)))))))))) ∷ []), Some (0 ∷ [])) ∷
    -- int one(void){return 1;} int main(void){int (*f)(void) = one; int (*g)(void); unsigned char *s = (unsigned char *)&f, *d = (unsigned char *)&g; int i; for (i = 0; i < 8; i = i + 1) d[i] = s[i]; return g();}
    ((codes "one" ∷ codes "main" ∷ codes "f" ∷ codes "g" ∷ codes "s" ∷ codes "d" ∷ codes "i" ∷ []), ((Function 1 (Then NoTrees (OfSpecifier (Keyword 1 word.Int))) (FunctionDeclarator 1 (DeclaredName 1 0) (Then NoTrees (OfDeclaration (Parameter 1 (Then NoTrees (OfSpecifier (Keyword 1 word.Void))) Absent))) false) (Block 1 (Then NoTrees (OfStatement (Return 1 (Present (OfExpression (Number 1 1 true false 0)))))))) ∷ (Function 1 (Then NoTrees (OfSpecifier (Keyword 1 word.Int))) (FunctionDeclarator 1 (DeclaredName 1 1) (Then NoTrees (OfDeclaration (Parameter 1 (Then NoTrees (OfSpecifier (Keyword 1 word.Void))) Absent))) false) (Block 1 (Then (Then (Then (Then (Then (Then NoTrees (OfDeclaration (Declaration 1 (Then NoTrees (OfSpecifier (Keyword 1 word.Int))) (Then NoTrees (OfDeclaration (InitDeclarator 1 (FunctionDeclarator 1 (ParenDeclarator 1 (Pointer 1 0 (DeclaredName 1 2))) (Then NoTrees (OfDeclaration (Parameter 1 (Then NoTrees (OfSpecifier (Keyword 1 word.Void))) Absent))) false) (Present (OfInitializer (Initial 1 (Name 1 0)))))))))) (OfDeclaration (Declaration 1 (Then NoTrees (OfSpecifier (Keyword 1 word.Int))) (Then NoTrees (OfDeclaration (InitDeclarator 1 (FunctionDeclarator 1 (ParenDeclarator 1 (Pointer 1 0 (DeclaredName 1 3))) (Then NoTrees (OfDeclaration (Parameter 1 (Then NoTrees (OfSpecifier (Keyword 1 word.Void))) Absent))) false) Absent)))))) (OfDeclaration (Declaration 1 (Then (Then NoTrees (OfSpecifier (Keyword 1 word.Unsigned))) (OfSpecifier (Keyword 1 word.Char))) (Then (Then NoTrees (OfDeclaration (InitDeclarator 1 (Pointer 1 0 (DeclaredName 1 4)) (Present (OfInitializer (Initial 1 (Cast 1 (TypeName 1 (Then (Then NoTrees (OfSpecifier (Keyword 1 word.Unsigned))) (OfSpecifier (Keyword 1 word.Char))) (Present (OfDeclarator (AbstractPointer 1 0 Absent)))) (Unary 1 unary.Address (Name 1 2))))))))) (OfDeclaration (InitDeclarator 1 (Pointer 1 0 (DeclaredName 1 5)) (Present (OfInitializer (Initial 1 (Cast 1 (TypeName 1 (Then (Then NoTrees (OfSpecifier (Keyword 1 word.Unsigned))) (OfSpecifier (Keyword 1 word.Char))) (Present (OfDeclarator (AbstractPointer 1 0 Absent)))) (Unary 1 unary.Address (Name 1 3)))))))))))) (OfDeclaration (Declaration 1 (Then NoTrees (OfSpecifier (Keyword 1 word.Int))) (Then NoTrees (OfDeclaration (InitDeclarator 1 (DeclaredName 1 6) Absent)))))) (OfStatement (For 1 (Present (OfExpression (Assign 1 assign.Assign (Name 1 6) (Number 1 0 false false 0)))) (Present (OfExpression (Binary 1 op.Less (Name 1 6) (Number 1 8 true false 0)))) (Present (OfExpression (Assign 1 assign.Assign (Name 1 6) (Binary 1 op.Add (Name 1 6) (Number 1 1 true false 0))))) (ExpressionStatement 1 (Present (OfExpression (Assign 1 assign.Assign (Index 1 (Name 1 5) (Name 1 6)) (Index 1 (Name 1 4) (Name 1 6))))))))) (OfStatement (Return 1 (Present (OfExpression (Call 1 (Name 1 3) NoArguments)))))))) ∷ []), Some (0 ∷ [])) ∷
    -- int one(void); int two(void){return 2;} int (*p)(void) = two; int (*q)(void) = &one; int one(void){return 1;} int main(void){return p() + q();}
    ((codes "one" ∷ codes "two" ∷ codes "p" ∷ codes "q" ∷ codes "main" ∷ []), ((Declaration 1 (Then NoTrees (OfSpecifier (Keyword 1 word.Int))) (Then NoTrees (OfDeclaration (InitDeclarator 1 (FunctionDeclarator 1 (DeclaredName 1 0) (Then NoTrees (OfDeclaration (Parameter 1 (Then NoTrees (OfSpecifier (Keyword 1 word.Void))) Absent))) false) Absent)))) ∷ (Function 1 (Then NoTrees (OfSpecifier (Keyword 1 word.Int))) (FunctionDeclarator 1 (DeclaredName 1 1) (Then NoTrees (OfDeclaration (Parameter 1 (Then NoTrees (OfSpecifier (Keyword 1 word.Void))) Absent))) false) (Block 1 (Then NoTrees (OfStatement (Return 1 (Present (OfExpression (Number 1 2 true false 0)))))))) ∷ (Declaration 1 (Then NoTrees (OfSpecifier (Keyword 1 word.Int))) (Then NoTrees (OfDeclaration (InitDeclarator 1 (FunctionDeclarator 1 (ParenDeclarator 1 (Pointer 1 0 (DeclaredName 1 2))) (Then NoTrees (OfDeclaration (Parameter 1 (Then NoTrees (OfSpecifier (Keyword 1 word.Void))) Absent))) false) (Present (OfInitializer (Initial 1 (Name 1 1)))))))) ∷ (Declaration 1 (Then NoTrees (OfSpecifier (Keyword 1 word.Int))) (Then NoTrees (OfDeclaration (InitDeclarator 1 (FunctionDeclarator 1 (ParenDeclarator 1 (Pointer 1 0 (DeclaredName 1 3))) (Then NoTrees (OfDeclaration (Parameter 1 (Then NoTrees (OfSpecifier (Keyword 1 word.Void))) Absent))) false) (Present (OfInitializer (Initial 1 (Unary 1 unary.Address (Name 1 0))))))))) ∷ (Function 1 (Then NoTrees (OfSpecifier (Keyword 1 word.Int))) (FunctionDeclarator 1 (DeclaredName 1 0) (Then NoTrees (OfDeclaration (Parameter 1 (Then NoTrees (OfSpecifier (Keyword 1 word.Void))) Absent))) false) (Block 1 (Then NoTrees (OfStatement (Return 1 (Present (OfExpression (Number 1 1 true false 0)))))))) ∷ (Function 1 (Then NoTrees (OfSpecifier (Keyword 1 word.Int))) (FunctionDeclarator 1 (DeclaredName 1 4) (Then NoTrees (OfDeclaration (Parameter 1 (Then NoTrees (OfSpecifier (Keyword 1 word.Void))) Absent))) false) (Block 1 (Then NoTrees (OfStatement (Return 1 (Present (OfExpression (Binary 1 op.Add (Call 1 (Name 1 2) NoArguments) (Call 1 (Name 1 3) NoArguments))))))))) ∷ []), Some (0 ∷ 1 ∷ [])) ∷
    -- int call(int f(int), int n){return f(n);} int inc(int n){return n + 1;} int main(void){return call(inc, 1);}
    ((codes "call" ∷ codes "f" ∷ codes "n" ∷ codes "inc" ∷ codes "main" ∷ []), ((Function 1 (Then NoTrees (OfSpecifier (Keyword 1 word.Int))) (FunctionDeclarator 1 (DeclaredName 1 0) (Then (Then NoTrees (OfDeclaration (Parameter 1 (Then NoTrees (OfSpecifier (Keyword 1 word.Int))) (Present (OfDeclarator (FunctionDeclarator 1 (DeclaredName 1 1) (Then NoTrees (OfDeclaration (Parameter 1 (Then NoTrees (OfSpecifier (Keyword 1 word.Int))) Absent))) false)))))) (OfDeclaration (Parameter 1 (Then NoTrees (OfSpecifier (Keyword 1 word.Int))) (Present (OfDeclarator (DeclaredName 1 2)))))) false) (Block 1 (Then NoTrees (OfStatement (Return 1 (Present (OfExpression (Call 1 (Name 1 1) (Argument NoArguments (Name 1 2)))))))))) ∷ (Function 1 (Then NoTrees (OfSpecifier (Keyword 1 word.Int))) (FunctionDeclarator 1 (DeclaredName 1 3) (Then NoTrees (OfDeclaration (Parameter 1 (Then NoTrees (OfSpecifier (Keyword 1 word.Int))) (Present (OfDeclarator (DeclaredName 1 2)))))) false) (Block 1 (Then NoTrees (OfStatement (Return 1 (Present (OfExpression (Binary 1 op.Add (Name 1 2) (Number 1 1 true false 0))))))))) ∷ (Function 1 (Then NoTrees (OfSpecifier (Keyword 1 word.Int))) (FunctionDeclarator 1 (DeclaredName 1 4) (Then NoTrees (OfDeclaration (Parameter 1 (Then NoTrees (OfSpecifier (Keyword 1 word.Void))) Absent))) false) (Block 1 (Then NoTrees (OfStatement (Return 1 (Present (OfExpression (Call 1 (Name 1 0) (Argument (Argument NoArguments (Name 1 3)) (Number 1 1 true false 0)))))))))) ∷ []), Some (3 ∷ [])) ∷
    -- typedef int F(int); F inc; F *table[2] = {inc, &inc}; int inc(int n){return n + 1;} int main(void){return table[1](1);}
    ((codes "F" ∷ codes "inc" ∷ codes "table" ∷ codes "n" ∷ codes "main" ∷ []), ((Declaration 1 (Then (Then NoTrees (OfSpecifier (Keyword 1 word.Typedef))) (OfSpecifier (Keyword 1 word.Int))) (Then NoTrees (OfDeclaration (InitDeclarator 1 (FunctionDeclarator 1 (DeclaredName 1 0) (Then NoTrees (OfDeclaration (Parameter 1 (Then NoTrees (OfSpecifier (Keyword 1 word.Int))) Absent))) false) Absent)))) ∷ (Declaration 1 (Then NoTrees (OfSpecifier (TypedefName 1 0))) (Then NoTrees (OfDeclaration (InitDeclarator 1 (DeclaredName 1 1) Absent)))) ∷ (Declaration 1 (Then NoTrees (OfSpecifier (TypedefName 1 0))) (Then NoTrees (OfDeclaration (InitDeclarator 1 (Pointer 1 0 (Array 1 (DeclaredName 1 2) (Present (OfExpression (Number 1 2 true false 0))))) (Present (OfInitializer (Braces 1 (Then (Then NoTrees (OfInitializer (Initial 1 (Name 1 1)))) (OfInitializer (Initial 1 (Unary 1 unary.Address (Name 1 1))))) false))))))) ∷ (Function 1 (Then NoTrees (OfSpecifier (Keyword 1 word.Int))) (FunctionDeclarator 1 (DeclaredName 1 1) (Then NoTrees (OfDeclaration (Parameter 1 (Then NoTrees (OfSpecifier (Keyword 1 word.Int))) (Present (OfDeclarator (DeclaredName 1 3)))))) false) (Block 1 (Then NoTrees (OfStatement (Return 1 (Present (OfExpression (Binary 1 op.Add (Name 1 3) (Number 1 1 true false 0))))))))) ∷ (Function 1 (Then NoTrees (OfSpecifier (Keyword 1 word.Int))) (FunctionDeclarator 1 (DeclaredName 1 4) (Then NoTrees (OfDeclaration (Parameter 1 (Then NoTrees (OfSpecifier (Keyword 1 word.Void))) Absent))) false) (Block 1 (Then NoTrees (OfStatement (Return 1 (Present (OfExpression (Call 1 (Index 1 (Name 1 2) (Number 1 1 true false 0)) (Argument NoArguments (Number 1 1 true false 0)))))))))) ∷ []), Some (1 ∷ [])) ∷
    -- int main(void); _Bool b = main; int main(void){return b;}
    ((codes "main" ∷ codes "b" ∷ []), ((Declaration 1 (Then NoTrees (OfSpecifier (Keyword 1 word.Int))) (Then NoTrees (OfDeclaration (InitDeclarator 1 (FunctionDeclarator 1 (DeclaredName 1 0) (Then NoTrees (OfDeclaration (Parameter 1 (Then NoTrees (OfSpecifier (Keyword 1 word.Void))) Absent))) false) Absent)))) ∷ (Declaration 1 (Then NoTrees (OfSpecifier (Keyword 1 word.Bool))) (Then NoTrees (OfDeclaration (InitDeclarator 1 (DeclaredName 1 1) (Present (OfInitializer (Initial 1 (Name 1 0)))))))) ∷ (Function 1 (Then NoTrees (OfSpecifier (Keyword 1 word.Int))) (FunctionDeclarator 1 (DeclaredName 1 0) (Then NoTrees (OfDeclaration (Parameter 1 (Then NoTrees (OfSpecifier (Keyword 1 word.Void))) Absent))) false) (Block 1 (Then NoTrees (OfStatement (Return 1 (Present (OfExpression (Name 1 1)))))))) ∷ []), Some (0 ∷ [])) ∷
    -- int main(void){if (0) return main != 0; return 0;}
    ((codes "main" ∷ []), ((Function 1 (Then NoTrees (OfSpecifier (Keyword 1 word.Int))) (FunctionDeclarator 1 (DeclaredName 1 0) (Then NoTrees (OfDeclaration (Parameter 1 (Then NoTrees (OfSpecifier (Keyword 1 word.Void))) Absent))) false) (Block 1 (Then (Then NoTrees (OfStatement (If 1 (Number 1 0 false false 0) (Return 1 (Present (OfExpression (Binary 1 op.NotEqual (Name 1 0) (Number 1 0 false false 0)))))))) (OfStatement (Return 1 (Present (OfExpression (Number 1 0 false false 0)))))))) ∷ []), Some (0 ∷ [])) ∷
    [])
unfolding type_of_words library_named are_compatible layouts_of initialized_object values
pointed_rows = refl

-- 6.5.2.2p1, 6.5.3.4p2: a callee by its name, in parentheses or not, and a name in the operand of sizeof are not pointed to; nor is what the
-- unit doesn't define
unpointed_rows : ArePointed (
    -- int one(void){return 1;} int main(void){return one() + ((one))();}
    ((codes "one" ∷ codes "main" ∷ []), ((Function 1 (Then NoTrees (OfSpecifier (Keyword 1 word.Int))) (FunctionDeclarator 1 (DeclaredName 1 0) (Then NoTrees (OfDeclaration (Parameter 1 (Then NoTrees (OfSpecifier (Keyword 1 word.Void))) Absent))) false) (Block 1 (Then NoTrees (OfStatement (Return 1 (Present (OfExpression (Number 1 1 true false 0)))))))) ∷ (Function 1 (Then NoTrees (OfSpecifier (Keyword 1 word.Int))) (FunctionDeclarator 1 (DeclaredName 1 1) (Then NoTrees (OfDeclaration (Parameter 1 (Then NoTrees (OfSpecifier (Keyword 1 word.Void))) Absent))) false) (Block 1 (Then NoTrees (OfStatement (Return 1 (Present (OfExpression (Binary 1 op.Add (Call 1 (Name 1 0) NoArguments) (Call 1 (Paren 1 (Paren 1 (Name 1 0))) NoArguments))))))))) ∷ []), Some ([])) ∷
    -- int one(void){return 1;} int main(void){return sizeof &one == 8;}
    ((codes "one" ∷ codes "main" ∷ []), ((Function 1 (Then NoTrees (OfSpecifier (Keyword 1 word.Int))) (FunctionDeclarator 1 (DeclaredName 1 0) (Then NoTrees (OfDeclaration (Parameter 1 (Then NoTrees (OfSpecifier (Keyword 1 word.Void))) Absent))) false) (Block 1 (Then NoTrees (OfStatement (Return 1 (Present (OfExpression (Number 1 1 true false 0)))))))) ∷ (Function 1 (Then NoTrees (OfSpecifier (Keyword 1 word.Int))) (FunctionDeclarator 1 (DeclaredName 1 1) (Then NoTrees (OfDeclaration (Parameter 1 (Then NoTrees (OfSpecifier (Keyword 1 word.Void))) Absent))) false) (Block 1 (Then NoTrees (OfStatement (Return 1 (Present (OfExpression (Binary 1 op.Equal (SizeofExpr 1 (Unary 1 unary.Address (Name 1 0))) (Number 1 8 true false 0))))))))) ∷ []), Some ([])) ∷
    -- int one(void); int main(void){return one != 0;}
    ((codes "one" ∷ codes "main" ∷ []), ((Declaration 1 (Then NoTrees (OfSpecifier (Keyword 1 word.Int))) (Then NoTrees (OfDeclaration (InitDeclarator 1 (FunctionDeclarator 1 (DeclaredName 1 0) (Then NoTrees (OfDeclaration (Parameter 1 (Then NoTrees (OfSpecifier (Keyword 1 word.Void))) Absent))) false) Absent)))) ∷ (Function 1 (Then NoTrees (OfSpecifier (Keyword 1 word.Int))) (FunctionDeclarator 1 (DeclaredName 1 1) (Then NoTrees (OfDeclaration (Parameter 1 (Then NoTrees (OfSpecifier (Keyword 1 word.Void))) Absent))) false) (Block 1 (Then NoTrees (OfStatement (Return 1 (Present (OfExpression (Binary 1 op.NotEqual (Name 1 0) (Number 1 0 false false 0))))))))) ∷ []), Some ([])) ∷
    [])
unfolding type_of_words library_named are_compatible layouts_of initialized_object values
unpointed_rows = refl

-- 6.3.2.3, 6.5.3.4p1, 6.6p9, 6.5.9p2: units that break a constraint
refused_rows : ArePointed (
    -- int f(int n){return n;} int main(void){return (int)(long)f;}
    ((codes "f" ∷ codes "n" ∷ codes "main" ∷ []), ((Function 1 (Then NoTrees (OfSpecifier (Keyword 1 word.Int))) (FunctionDeclarator 1 (DeclaredName 1 0) (Then NoTrees (OfDeclaration (Parameter 1 (Then NoTrees (OfSpecifier (Keyword 1 word.Int))) (Present (OfDeclarator (DeclaredName 1 1)))))) false) (Block 1 (Then NoTrees (OfStatement (Return 1 (Present (OfExpression (Name 1 1)))))))) ∷ (Function 1 (Then NoTrees (OfSpecifier (Keyword 1 word.Int))) (FunctionDeclarator 1 (DeclaredName 1 2) (Then NoTrees (OfDeclaration (Parameter 1 (Then NoTrees (OfSpecifier (Keyword 1 word.Void))) Absent))) false) (Block 1 (Then NoTrees (OfStatement (Return 1 (Present (OfExpression (Cast 1 (TypeName 1 (Then NoTrees (OfSpecifier (Keyword 1 word.Int))) Absent) (Cast 1 (TypeName 1 (Then NoTrees (OfSpecifier (Keyword 1 word.Long))) Absent) (Name 1 0)))))))))) ∷ []), None) ∷
    -- int one(void){return 1;} int main(void){return sizeof one;}
    ((codes "one" ∷ codes "main" ∷ []), ((Function 1 (Then NoTrees (OfSpecifier (Keyword 1 word.Int))) (FunctionDeclarator 1 (DeclaredName 1 0) (Then NoTrees (OfDeclaration (Parameter 1 (Then NoTrees (OfSpecifier (Keyword 1 word.Void))) Absent))) false) (Block 1 (Then NoTrees (OfStatement (Return 1 (Present (OfExpression (Number 1 1 true false 0)))))))) ∷ (Function 1 (Then NoTrees (OfSpecifier (Keyword 1 word.Int))) (FunctionDeclarator 1 (DeclaredName 1 1) (Then NoTrees (OfDeclaration (Parameter 1 (Then NoTrees (OfSpecifier (Keyword 1 word.Void))) Absent))) false) (Block 1 (Then NoTrees (OfStatement (Return 1 (Present (OfExpression (SizeofExpr 1 (Name 1 0))))))))) ∷ []), None) ∷
    -- int one(void){return 1;} void *p = one; int main(void){return 0;}
    ((codes "one" ∷ codes "p" ∷ codes "main" ∷ []), ((Function 1 (Then NoTrees (OfSpecifier (Keyword 1 word.Int))) (FunctionDeclarator 1 (DeclaredName 1 0) (Then NoTrees (OfDeclaration (Parameter 1 (Then NoTrees (OfSpecifier (Keyword 1 word.Void))) Absent))) false) (Block 1 (Then NoTrees (OfStatement (Return 1 (Present (OfExpression (Number 1 1 true false 0)))))))) ∷ (Declaration 1 (Then NoTrees (OfSpecifier (Keyword 1 word.Void))) (Then NoTrees (OfDeclaration (InitDeclarator 1 (Pointer 1 0 (DeclaredName 1 1)) (Present (OfInitializer (Initial 1 (Name 1 0)))))))) ∷ (Function 1 (Then NoTrees (OfSpecifier (Keyword 1 word.Int))) (FunctionDeclarator 1 (DeclaredName 1 2) (Then NoTrees (OfDeclaration (Parameter 1 (Then NoTrees (OfSpecifier (Keyword 1 word.Void))) Absent))) false) (Block 1 (Then NoTrees (OfStatement (Return 1 (Present (OfExpression (Number 1 0 false false 0)))))))) ∷ []), None) ∷
    -- int one(void){return 1;} int (*p)(void) = *one; int main(void){return 0;}
    ((codes "one" ∷ codes "p" ∷ codes "main" ∷ []), ((Function 1 (Then NoTrees (OfSpecifier (Keyword 1 word.Int))) (FunctionDeclarator 1 (DeclaredName 1 0) (Then NoTrees (OfDeclaration (Parameter 1 (Then NoTrees (OfSpecifier (Keyword 1 word.Void))) Absent))) false) (Block 1 (Then NoTrees (OfStatement (Return 1 (Present (OfExpression (Number 1 1 true false 0)))))))) ∷ (Declaration 1 (Then NoTrees (OfSpecifier (Keyword 1 word.Int))) (Then NoTrees (OfDeclaration (InitDeclarator 1 (FunctionDeclarator 1 (ParenDeclarator 1 (Pointer 1 0 (DeclaredName 1 1))) (Then NoTrees (OfDeclaration (Parameter 1 (Then NoTrees (OfSpecifier (Keyword 1 word.Void))) Absent))) false) (Present (OfInitializer (Initial 1 (Unary 1 unary.Indirection (Name 1 0))))))))) ∷ (Function 1 (Then NoTrees (OfSpecifier (Keyword 1 word.Int))) (FunctionDeclarator 1 (DeclaredName 1 2) (Then NoTrees (OfDeclaration (Parameter 1 (Then NoTrees (OfSpecifier (Keyword 1 word.Void))) Absent))) false) (Block 1 (Then NoTrees (OfStatement (Return 1 (Present (OfExpression (Number 1 0 false false 0)))))))) ∷ []), None) ∷
    -- int f(int n){return n;} int main(void){return f == (int (*)(long))f;}
    ((codes "f" ∷ codes "n" ∷ codes "main" ∷ []), ((Function 1 (Then NoTrees (OfSpecifier (Keyword 1 word.Int))) (FunctionDeclarator 1 (DeclaredName 1 0) (Then NoTrees (OfDeclaration (Parameter 1 (Then NoTrees (OfSpecifier (Keyword 1 word.Int))) (Present (OfDeclarator (DeclaredName 1 1)))))) false) (Block 1 (Then NoTrees (OfStatement (Return 1 (Present (OfExpression (Name 1 1)))))))) ∷ (Function 1 (Then NoTrees (OfSpecifier (Keyword 1 word.Int))) (FunctionDeclarator 1 (DeclaredName 1 2) (Then NoTrees (OfDeclaration (Parameter 1 (Then NoTrees (OfSpecifier (Keyword 1 word.Void))) Absent))) false) (Block 1 (Then NoTrees (OfStatement (Return 1 (Present (OfExpression (Binary 1 op.Equal (Name 1 0) (Cast 1 (TypeName 1 (Then NoTrees (OfSpecifier (Keyword 1 word.Int))) (Present (OfDeclarator (AbstractFunction 1 (Present (OfDeclarator (AbstractParen 1 (AbstractPointer 1 0 Absent)))) (Then NoTrees (OfDeclaration (Parameter 1 (Then NoTrees (OfSpecifier (Keyword 1 word.Long))) Absent))) false)))) (Name 1 0)))))))))) ∷ []), None) ∷
    -- int printf(const char *, ...); int main(void){return printf != 0;}
    ((codes "printf" ∷ codes "main" ∷ []), ((Declaration 1 (Then NoTrees (OfSpecifier (Keyword 1 word.Int))) (Then NoTrees (OfDeclaration (InitDeclarator 1 (FunctionDeclarator 1 (DeclaredName 1 0) (Then NoTrees (OfDeclaration (Parameter 1 (Then (Then NoTrees (OfSpecifier (Keyword 1 word.Const))) (OfSpecifier (Keyword 1 word.Char))) (Present (OfDeclarator (AbstractPointer 1 0 Absent)))))) true) Absent)))) ∷ (Function 1 (Then NoTrees (OfSpecifier (Keyword 1 word.Int))) (FunctionDeclarator 1 (DeclaredName 1 1) (Then NoTrees (OfDeclaration (Parameter 1 (Then NoTrees (OfSpecifier (Keyword 1 word.Void))) Absent))) false) (Block 1 (Then NoTrees (OfStatement (Return 1 (Present (OfExpression (Binary 1 op.NotEqual (Name 1 0) (Number 1 0 false false 0))))))))) ∷ []), None) ∷
    -- int main(void){int f(void); return 0;}
    ((codes "main" ∷ codes "f" ∷ []), ((Function 1 (Then NoTrees (OfSpecifier (Keyword 1 word.Int))) (FunctionDeclarator 1 (DeclaredName 1 0) (Then NoTrees (OfDeclaration (Parameter 1 (Then NoTrees (OfSpecifier (Keyword 1 word.Void))) Absent))) false) (Block 1 (Then (Then NoTrees (OfDeclaration (Declaration 1 (Then NoTrees (OfSpecifier (Keyword 1 word.Int))) (Then NoTrees (OfDeclaration (InitDeclarator 1 (FunctionDeclarator 1 (DeclaredName 1 1) (Then NoTrees (OfDeclaration (Parameter 1 (Then NoTrees (OfSpecifier (Keyword 1 word.Void))) Absent))) false) Absent)))))) (OfStatement (Return 1 (Present (OfExpression (Number 1 0 false false 0)))))))) ∷ []), None) ∷
    [])
unfolding type_of_words library_named are_compatible layouts_of initialized_object values
refused_rows = refl

-- 6.9p5: the first name that an expression names, and that nothing defines
undefined_rows : AreUndefined (
    -- int one(void); int main(void){return one != 0;}
    ((codes "one" ∷ codes "main" ∷ []), ((Declaration 1 (Then NoTrees (OfSpecifier (Keyword 1 word.Int))) (Then NoTrees (OfDeclaration (InitDeclarator 1 (FunctionDeclarator 1 (DeclaredName 1 0) (Then NoTrees (OfDeclaration (Parameter 1 (Then NoTrees (OfSpecifier (Keyword 1 word.Void))) Absent))) false) Absent)))) ∷ (Function 1 (Then NoTrees (OfSpecifier (Keyword 1 word.Int))) (FunctionDeclarator 1 (DeclaredName 1 1) (Then NoTrees (OfDeclaration (Parameter 1 (Then NoTrees (OfSpecifier (Keyword 1 word.Void))) Absent))) false) (Block 1 (Then NoTrees (OfStatement (Return 1 (Present (OfExpression (Binary 1 op.NotEqual (Name 1 0) (Number 1 0 false false 0))))))))) ∷ []), Some 0) ∷
    -- int one(void); int (*p)(void) = one; int main(void){return 0;}
    ((codes "one" ∷ codes "p" ∷ codes "main" ∷ []), ((Declaration 1 (Then NoTrees (OfSpecifier (Keyword 1 word.Int))) (Then NoTrees (OfDeclaration (InitDeclarator 1 (FunctionDeclarator 1 (DeclaredName 1 0) (Then NoTrees (OfDeclaration (Parameter 1 (Then NoTrees (OfSpecifier (Keyword 1 word.Void))) Absent))) false) Absent)))) ∷ (Declaration 1 (Then NoTrees (OfSpecifier (Keyword 1 word.Int))) (Then NoTrees (OfDeclaration (InitDeclarator 1 (FunctionDeclarator 1 (ParenDeclarator 1 (Pointer 1 0 (DeclaredName 1 1))) (Then NoTrees (OfDeclaration (Parameter 1 (Then NoTrees (OfSpecifier (Keyword 1 word.Void))) Absent))) false) (Present (OfInitializer (Initial 1 (Name 1 0)))))))) ∷ (Function 1 (Then NoTrees (OfSpecifier (Keyword 1 word.Int))) (FunctionDeclarator 1 (DeclaredName 1 2) (Then NoTrees (OfDeclaration (Parameter 1 (Then NoTrees (OfSpecifier (Keyword 1 word.Void))) Absent))) false) (Block 1 (Then NoTrees (OfStatement (Return 1 (Present (OfExpression (Number 1 0 false false 0)))))))) ∷ []), Some 0) ∷
    -- int one(void); int main(void){return sizeof &one == 8;}
    ((codes "one" ∷ codes "main" ∷ []), ((Declaration 1 (Then NoTrees (OfSpecifier (Keyword 1 word.Int))) (Then NoTrees (OfDeclaration (InitDeclarator 1 (FunctionDeclarator 1 (DeclaredName 1 0) (Then NoTrees (OfDeclaration (Parameter 1 (Then NoTrees (OfSpecifier (Keyword 1 word.Void))) Absent))) false) Absent)))) ∷ (Function 1 (Then NoTrees (OfSpecifier (Keyword 1 word.Int))) (FunctionDeclarator 1 (DeclaredName 1 1) (Then NoTrees (OfDeclaration (Parameter 1 (Then NoTrees (OfSpecifier (Keyword 1 word.Void))) Absent))) false) (Block 1 (Then NoTrees (OfStatement (Return 1 (Present (OfExpression (Binary 1 op.Equal (SizeofExpr 1 (Unary 1 unary.Address (Name 1 0))) (Number 1 8 true false 0))))))))) ∷ []), Some 0) ∷
    -- int one(void); int main(void){return (*one)();}
    ((codes "one" ∷ codes "main" ∷ []), ((Declaration 1 (Then NoTrees (OfSpecifier (Keyword 1 word.Int))) (Then NoTrees (OfDeclaration (InitDeclarator 1 (FunctionDeclarator 1 (DeclaredName 1 0) (Then NoTrees (OfDeclaration (Parameter 1 (Then NoTrees (OfSpecifier (Keyword 1 word.Void))) Absent))) false) Absent)))) ∷ (Function 1 (Then NoTrees (OfSpecifier (Keyword 1 word.Int))) (FunctionDeclarator 1 (DeclaredName 1 1) (Then NoTrees (OfDeclaration (Parameter 1 (Then NoTrees (OfSpecifier (Keyword 1 word.Void))) Absent))) false) (Block 1 (Then NoTrees (OfStatement (Return 1 (Present (OfExpression (Call 1 (Paren 1 (Unary 1 unary.Indirection (Name 1 0))) NoArguments)))))))) ∷ []), Some 0) ∷
    -- int one(void){return 1;} int main(void){return one != 0;}
    ((codes "one" ∷ codes "main" ∷ []), ((Function 1 (Then NoTrees (OfSpecifier (Keyword 1 word.Int))) (FunctionDeclarator 1 (DeclaredName 1 0) (Then NoTrees (OfDeclaration (Parameter 1 (Then NoTrees (OfSpecifier (Keyword 1 word.Void))) Absent))) false) (Block 1 (Then NoTrees (OfStatement (Return 1 (Present (OfExpression (Number 1 1 true false 0)))))))) ∷ (Function 1 (Then NoTrees (OfSpecifier (Keyword 1 word.Int))) (FunctionDeclarator 1 (DeclaredName 1 1) (Then NoTrees (OfDeclaration (Parameter 1 (Then NoTrees (OfSpecifier (Keyword 1 word.Void))) Absent))) false) (Block 1 (Then NoTrees (OfStatement (Return 1 (Present (OfExpression (Binary 1 op.NotEqual (Name 1 0) (Number 1 0 false false 0))))))))) ∷ []), None) ∷
    [])
unfolding type_of_words library_named are_compatible layouts_of initialized_object values
undefined_rows = refl
