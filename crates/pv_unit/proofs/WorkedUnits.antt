-- Units whose answers were worked out apart from these definitions.
use Rattle.std.proofs.Common.{◌≡◌, ℕ, ◌-◌, pos, true, false, List, [], ◌∷◌, Some, None, refl}
use Rattle.pv_token.specs.declared.words.Word.TheVariants as word
use Rattle.pv_tree.specs.declared.operators.UnaryOperator.TheVariants as unary
use Rattle.pv_tree.specs.declared.operators.BinaryOperator.TheVariants as op
use Rattle.pv_tree.specs.declared.operators.AssignOperator.TheVariants as assign
use Rattle.pv_tree.specs.Syntax.{Name, Number, Character, Text, Paren, Index, Call, Member, Arrow, PostIncrement, PostDecrement, Unary, SizeofExpr, SizeofType, Cast, Binary, Conditional, Assign, NoArguments, Argument, DeclarationTree, Function, Declaration, InitDeclarator, MemberDeclaration, Enumerator, Parameter, TypeName, DeclaredName, Pointer, Array, FunctionDeclarator, AbstractPointer, Keyword, Composite, Enumeration, Tag, Initial, Braces, Block, ExpressionStatement, If, IfElse, While, DoWhile, For, ForDeclaration, Switch, SwitchBlock, Labelled, Case, Default, Break, Continue, Return, OfExpression, OfDeclaration, OfDeclarator, OfSpecifier, OfInitializer, OfStatement, NoTrees, Then, Absent, Present}
use Rattle.pv_types.specs.Layouts.{layouts_of}
use Rattle.pv_types.specs.Compatible.{are_compatible}
use Rattle.pv_check.specs.Words.{type_of_words}
use Rattle.pv_library.specs.LibraryNames.{library_named}
use Rattle.pv_unit.specs.Initializers.{initialized_object}
use Rattle.pv_unit.specs.ValueRules.{values}
use Rattle.pv_unit.proofs.WorkedAnswers.{Look, Answer, Refused, Named, Mainless, Accepted, judged_by, nothing}

-- nothing more of a stored value
abbrev no_look : Look
no_look u o v = []

abbrev judged : List (List ℕ) → List (List ℕ) → List DeclarationTree → Answer
judged names texts ds = judged_by no_look names texts ds

-- 6.9p1: small programs
programs :
    -- int main(void){return 0;}
    (judged ((109 ∷ 97 ∷ 105 ∷ 110 ∷ []) ∷ []) ([]) ((Function 1 (Then NoTrees (OfSpecifier (Keyword 1 word.Int))) (FunctionDeclarator 1 (DeclaredName 1 0) (Then NoTrees (OfDeclaration (Parameter 1 (Then NoTrees (OfSpecifier (Keyword 1 word.Void))) Absent))) false) (Block 1 (Then NoTrees (OfStatement (Return 1 (Present (OfExpression (Number 1 0 false false 0)))))))) ∷ []) ≡ Accepted ([]) ([]) ([]) ((1 ∷ 1 ∷ 0 ∷ 16 ∷ 1 ∷ 1 ∷ 99 ∷ []) ∷ []))
    -- int x = 5; int main(void){return x;}
    × (judged ((120 ∷ []) ∷ (109 ∷ 97 ∷ 105 ∷ 110 ∷ []) ∷ []) ([]) ((Declaration 1 (Then NoTrees (OfSpecifier (Keyword 1 word.Int))) (Then NoTrees (OfDeclaration (InitDeclarator 1 (DeclaredName 1 0) (Present (OfInitializer (Initial 1 (Number 1 5 true false 0)))))))) ∷ (Function 1 (Then NoTrees (OfSpecifier (Keyword 1 word.Int))) (FunctionDeclarator 1 (DeclaredName 1 1) (Then NoTrees (OfDeclaration (Parameter 1 (Then NoTrees (OfSpecifier (Keyword 1 word.Void))) Absent))) false) (Block 1 (Then NoTrees (OfStatement (Return 1 (Present (OfExpression (Name 1 0)))))))) ∷ []) ≡ Accepted ((0 ∷ 1 ∷ 0 ∷ 4 ∷ 1 ∷ 0 ∷ []) ∷ []) (0 ∷ []) ([]) ((1 ∷ 1 ∷ 0 ∷ 16 ∷ 1 ∷ 1 ∷ 99 ∷ []) ∷ []))
    -- int main(void){int i = 1; return i;}
    × (judged ((109 ∷ 97 ∷ 105 ∷ 110 ∷ []) ∷ (105 ∷ []) ∷ []) ([]) ((Function 1 (Then NoTrees (OfSpecifier (Keyword 1 word.Int))) (FunctionDeclarator 1 (DeclaredName 1 0) (Then NoTrees (OfDeclaration (Parameter 1 (Then NoTrees (OfSpecifier (Keyword 1 word.Void))) Absent))) false) (Block 1 (Then (Then NoTrees (OfDeclaration (Declaration 1 (Then NoTrees (OfSpecifier (Keyword 1 word.Int))) (Then NoTrees (OfDeclaration (InitDeclarator 1 (DeclaredName 1 1) (Present (OfInitializer (Initial 1 (Number 1 1 true false 0)))))))))) (OfStatement (Return 1 (Present (OfExpression (Name 1 1)))))))) ∷ []) ≡ Accepted ((0 ∷ 1 ∷ 0 ∷ 4 ∷ 1 ∷ 0 ∷ []) ∷ []) ([]) ([]) ((1 ∷ 1 ∷ 1 ∷ 2 ∷ 1 ∷ 16 ∷ 1 ∷ 1 ∷ 99 ∷ []) ∷ []))
    -- int main(void){;;{} return 0;}
    × (judged ((109 ∷ 97 ∷ 105 ∷ 110 ∷ []) ∷ []) ([]) ((Function 1 (Then NoTrees (OfSpecifier (Keyword 1 word.Int))) (FunctionDeclarator 1 (DeclaredName 1 0) (Then NoTrees (OfDeclaration (Parameter 1 (Then NoTrees (OfSpecifier (Keyword 1 word.Void))) Absent))) false) (Block 1 (Then (Then (Then (Then NoTrees (OfStatement (ExpressionStatement 1 Absent))) (OfStatement (ExpressionStatement 1 Absent))) (OfStatement (Block 1 NoTrees))) (OfStatement (Return 1 (Present (OfExpression (Number 1 0 false false 0)))))))) ∷ []) ≡ Accepted ([]) ([]) ([]) ((1 ∷ 1 ∷ 0 ∷ 4 ∷ 1 ∷ 4 ∷ 1 ∷ 1 ∷ 1 ∷ 0 ∷ 99 ∷ 16 ∷ 1 ∷ 1 ∷ 99 ∷ []) ∷ []))
unfolding type_of_words library_named are_compatible layouts_of initialized_object values
programs = (refl, refl, refl, refl)

-- 5.1.1.2: lines
lines :
    -- int a[2] = {1,\n 2}; int main(void){\n int b = 3;\n return b;\n}
    (judged ((97 ∷ []) ∷ (109 ∷ 97 ∷ 105 ∷ 110 ∷ []) ∷ (98 ∷ []) ∷ []) ([]) ((Declaration 1 (Then NoTrees (OfSpecifier (Keyword 1 word.Int))) (Then NoTrees (OfDeclaration (InitDeclarator 1 (Array 1 (DeclaredName 1 0) (Present (OfExpression (Number 1 2 true false 0)))) (Present (OfInitializer (Braces 1 (Then (Then NoTrees (OfInitializer (Initial 1 (Number 1 1 true false 0)))) (OfInitializer (Initial 2 (Number 2 2 true false 0)))) false))))))) ∷ (Function 2 (Then NoTrees (OfSpecifier (Keyword 1 word.Int))) (FunctionDeclarator 1 (DeclaredName 2 1) (Then NoTrees (OfDeclaration (Parameter 1 (Then NoTrees (OfSpecifier (Keyword 1 word.Void))) Absent))) false) (Block 2 (Then (Then NoTrees (OfDeclaration (Declaration 1 (Then NoTrees (OfSpecifier (Keyword 1 word.Int))) (Then NoTrees (OfDeclaration (InitDeclarator 1 (DeclaredName 3 2) (Present (OfInitializer (Initial 3 (Number 3 3 true false 0)))))))))) (OfStatement (Return 4 (Present (OfExpression (Name 4 2)))))))) ∷ []) ≡ Accepted ((1 ∷ 2 ∷ 0 ∷ 4 ∷ 1 ∷ 0 ∷ 4 ∷ 4 ∷ 2 ∷ 0 ∷ []) ∷ (0 ∷ 1 ∷ 0 ∷ 4 ∷ 3 ∷ 0 ∷ []) ∷ []) (0 ∷ []) ([]) ((1 ∷ 2 ∷ 1 ∷ 2 ∷ 3 ∷ 16 ∷ 4 ∷ 4 ∷ 99 ∷ []) ∷ []))
    -- char s[4] =\n "abc"; int main(void)\n{ return\n 0; }
    × (judged ((115 ∷ []) ∷ (109 ∷ 97 ∷ 105 ∷ 110 ∷ []) ∷ []) ((97 ∷ 98 ∷ 99 ∷ []) ∷ []) ((Declaration 1 (Then NoTrees (OfSpecifier (Keyword 1 word.Char))) (Then NoTrees (OfDeclaration (InitDeclarator 1 (Array 1 (DeclaredName 1 0) (Present (OfExpression (Number 1 4 true false 0)))) (Present (OfInitializer (Initial 2 (Text 2 0 0)))))))) ∷ (Function 2 (Then NoTrees (OfSpecifier (Keyword 1 word.Int))) (FunctionDeclarator 1 (DeclaredName 2 1) (Then NoTrees (OfDeclaration (Parameter 1 (Then NoTrees (OfSpecifier (Keyword 1 word.Void))) Absent))) false) (Block 3 (Then NoTrees (OfStatement (Return 3 (Present (OfExpression (Number 4 0 false false 0)))))))) ∷ []) ≡ Accepted ((1 ∷ 1 ∷ 0 ∷ 4 ∷ 2 ∷ 1 ∷ []) ∷ []) (0 ∷ []) ([]) ((1 ∷ 3 ∷ 0 ∷ 16 ∷ 3 ∷ 4 ∷ 99 ∷ []) ∷ []))
unfolding type_of_words library_named are_compatible layouts_of initialized_object values
lines = (refl, refl)

-- 6.7.9p11, 6.5.16.1p1: initializers of scalars
scalars :
    -- int main(void){int i = {1}; return i;}
    (judged ((109 ∷ 97 ∷ 105 ∷ 110 ∷ []) ∷ (105 ∷ []) ∷ []) ([]) ((Function 1 (Then NoTrees (OfSpecifier (Keyword 1 word.Int))) (FunctionDeclarator 1 (DeclaredName 1 0) (Then NoTrees (OfDeclaration (Parameter 1 (Then NoTrees (OfSpecifier (Keyword 1 word.Void))) Absent))) false) (Block 1 (Then (Then NoTrees (OfDeclaration (Declaration 1 (Then NoTrees (OfSpecifier (Keyword 1 word.Int))) (Then NoTrees (OfDeclaration (InitDeclarator 1 (DeclaredName 1 1) (Present (OfInitializer (Braces 1 (Then NoTrees (OfInitializer (Initial 1 (Number 1 1 true false 0)))) false))))))))) (OfStatement (Return 1 (Present (OfExpression (Name 1 1)))))))) ∷ []) ≡ Accepted ((1 ∷ 1 ∷ 0 ∷ 4 ∷ 1 ∷ 0 ∷ []) ∷ []) ([]) ([]) ((1 ∷ 1 ∷ 1 ∷ 2 ∷ 1 ∷ 16 ∷ 1 ∷ 1 ∷ 99 ∷ []) ∷ []))
    -- int main(void){int i = {1,2}; return i;}
    × (judged ((109 ∷ 97 ∷ 105 ∷ 110 ∷ []) ∷ (105 ∷ []) ∷ []) ([]) ((Function 1 (Then NoTrees (OfSpecifier (Keyword 1 word.Int))) (FunctionDeclarator 1 (DeclaredName 1 0) (Then NoTrees (OfDeclaration (Parameter 1 (Then NoTrees (OfSpecifier (Keyword 1 word.Void))) Absent))) false) (Block 1 (Then (Then NoTrees (OfDeclaration (Declaration 1 (Then NoTrees (OfSpecifier (Keyword 1 word.Int))) (Then NoTrees (OfDeclaration (InitDeclarator 1 (DeclaredName 1 1) (Present (OfInitializer (Braces 1 (Then (Then NoTrees (OfInitializer (Initial 1 (Number 1 1 true false 0)))) (OfInitializer (Initial 1 (Number 1 2 true false 0)))) false))))))))) (OfStatement (Return 1 (Present (OfExpression (Name 1 1)))))))) ∷ []) ≡ Refused 0)
    -- int main(void){int i = {{1}}; return i;}
    × (judged ((109 ∷ 97 ∷ 105 ∷ 110 ∷ []) ∷ (105 ∷ []) ∷ []) ([]) ((Function 1 (Then NoTrees (OfSpecifier (Keyword 1 word.Int))) (FunctionDeclarator 1 (DeclaredName 1 0) (Then NoTrees (OfDeclaration (Parameter 1 (Then NoTrees (OfSpecifier (Keyword 1 word.Void))) Absent))) false) (Block 1 (Then (Then NoTrees (OfDeclaration (Declaration 1 (Then NoTrees (OfSpecifier (Keyword 1 word.Int))) (Then NoTrees (OfDeclaration (InitDeclarator 1 (DeclaredName 1 1) (Present (OfInitializer (Braces 1 (Then NoTrees (OfInitializer (Braces 1 (Then NoTrees (OfInitializer (Initial 1 (Number 1 1 true false 0)))) false))) false))))))))) (OfStatement (Return 1 (Present (OfExpression (Name 1 1)))))))) ∷ []) ≡ Refused 0)
    -- int main(void){char c = 300; long n = 'a'; return c;}
    × (judged ((109 ∷ 97 ∷ 105 ∷ 110 ∷ []) ∷ (99 ∷ []) ∷ (110 ∷ []) ∷ []) ([]) ((Function 1 (Then NoTrees (OfSpecifier (Keyword 1 word.Int))) (FunctionDeclarator 1 (DeclaredName 1 0) (Then NoTrees (OfDeclaration (Parameter 1 (Then NoTrees (OfSpecifier (Keyword 1 word.Void))) Absent))) false) (Block 1 (Then (Then (Then NoTrees (OfDeclaration (Declaration 1 (Then NoTrees (OfSpecifier (Keyword 1 word.Char))) (Then NoTrees (OfDeclaration (InitDeclarator 1 (DeclaredName 1 1) (Present (OfInitializer (Initial 1 (Number 1 300 true false 0)))))))))) (OfDeclaration (Declaration 1 (Then NoTrees (OfSpecifier (Keyword 1 word.Long))) (Then NoTrees (OfDeclaration (InitDeclarator 1 (DeclaredName 1 2) (Present (OfInitializer (Initial 1 (Character 1 (pos 97))))))))))) (OfStatement (Return 1 (Present (OfExpression (Name 1 1)))))))) ∷ []) ≡ Accepted ((0 ∷ 1 ∷ 0 ∷ 1 ∷ 1 ∷ 0 ∷ []) ∷ (0 ∷ 1 ∷ 0 ∷ 8 ∷ 1 ∷ 0 ∷ []) ∷ []) ([]) ([]) ((1 ∷ 1 ∷ 2 ∷ 2 ∷ 1 ∷ 2 ∷ 1 ∷ 16 ∷ 1 ∷ 1 ∷ 99 ∷ []) ∷ []))
    -- int main(void){int *p = 0; int *q = 5; return 0;}
    × (judged ((109 ∷ 97 ∷ 105 ∷ 110 ∷ []) ∷ (112 ∷ []) ∷ (113 ∷ []) ∷ []) ([]) ((Function 1 (Then NoTrees (OfSpecifier (Keyword 1 word.Int))) (FunctionDeclarator 1 (DeclaredName 1 0) (Then NoTrees (OfDeclaration (Parameter 1 (Then NoTrees (OfSpecifier (Keyword 1 word.Void))) Absent))) false) (Block 1 (Then (Then (Then NoTrees (OfDeclaration (Declaration 1 (Then NoTrees (OfSpecifier (Keyword 1 word.Int))) (Then NoTrees (OfDeclaration (InitDeclarator 1 (Pointer 1 0 (DeclaredName 1 1)) (Present (OfInitializer (Initial 1 (Number 1 0 false false 0)))))))))) (OfDeclaration (Declaration 1 (Then NoTrees (OfSpecifier (Keyword 1 word.Int))) (Then NoTrees (OfDeclaration (InitDeclarator 1 (Pointer 1 0 (DeclaredName 1 2)) (Present (OfInitializer (Initial 1 (Number 1 5 true false 0)))))))))) (OfStatement (Return 1 (Present (OfExpression (Number 1 0 false false 0)))))))) ∷ []) ≡ Refused 0)
    -- int x; int *p = &x; int *q = {&x}; int main(void){return 0;}
    × (judged ((120 ∷ []) ∷ (112 ∷ []) ∷ (113 ∷ []) ∷ (109 ∷ 97 ∷ 105 ∷ 110 ∷ []) ∷ []) ([]) ((Declaration 1 (Then NoTrees (OfSpecifier (Keyword 1 word.Int))) (Then NoTrees (OfDeclaration (InitDeclarator 1 (DeclaredName 1 0) Absent)))) ∷ (Declaration 1 (Then NoTrees (OfSpecifier (Keyword 1 word.Int))) (Then NoTrees (OfDeclaration (InitDeclarator 1 (Pointer 1 0 (DeclaredName 1 1)) (Present (OfInitializer (Initial 1 (Unary 1 unary.Address (Name 1 0))))))))) ∷ (Declaration 1 (Then NoTrees (OfSpecifier (Keyword 1 word.Int))) (Then NoTrees (OfDeclaration (InitDeclarator 1 (Pointer 1 0 (DeclaredName 1 2)) (Present (OfInitializer (Braces 1 (Then NoTrees (OfInitializer (Initial 1 (Unary 1 unary.Address (Name 1 0))))) false))))))) ∷ (Function 1 (Then NoTrees (OfSpecifier (Keyword 1 word.Int))) (FunctionDeclarator 1 (DeclaredName 1 3) (Then NoTrees (OfDeclaration (Parameter 1 (Then NoTrees (OfSpecifier (Keyword 1 word.Void))) Absent))) false) (Block 1 (Then NoTrees (OfStatement (Return 1 (Present (OfExpression (Number 1 0 false false 0)))))))) ∷ []) ≡ Accepted ((0 ∷ 0 ∷ []) ∷ (0 ∷ 1 ∷ 0 ∷ 8 ∷ 1 ∷ 0 ∷ []) ∷ (1 ∷ 1 ∷ 0 ∷ 8 ∷ 1 ∷ 0 ∷ []) ∷ []) (0 ∷ 1 ∷ 2 ∷ []) ([]) ((1 ∷ 1 ∷ 0 ∷ 16 ∷ 1 ∷ 1 ∷ 99 ∷ []) ∷ []))
    -- int x; char *p = &x; int main(void){return 0;}
    × (judged ((120 ∷ []) ∷ (112 ∷ []) ∷ (109 ∷ 97 ∷ 105 ∷ 110 ∷ []) ∷ []) ([]) ((Declaration 1 (Then NoTrees (OfSpecifier (Keyword 1 word.Int))) (Then NoTrees (OfDeclaration (InitDeclarator 1 (DeclaredName 1 0) Absent)))) ∷ (Declaration 1 (Then NoTrees (OfSpecifier (Keyword 1 word.Char))) (Then NoTrees (OfDeclaration (InitDeclarator 1 (Pointer 1 0 (DeclaredName 1 1)) (Present (OfInitializer (Initial 1 (Unary 1 unary.Address (Name 1 0))))))))) ∷ (Function 1 (Then NoTrees (OfSpecifier (Keyword 1 word.Int))) (FunctionDeclarator 1 (DeclaredName 1 2) (Then NoTrees (OfDeclaration (Parameter 1 (Then NoTrees (OfSpecifier (Keyword 1 word.Void))) Absent))) false) (Block 1 (Then NoTrees (OfStatement (Return 1 (Present (OfExpression (Number 1 0 false false 0)))))))) ∷ []) ≡ Refused 1)
    -- int main(void){int x = x; return x;}
    × (judged ((109 ∷ 97 ∷ 105 ∷ 110 ∷ []) ∷ (120 ∷ []) ∷ []) ([]) ((Function 1 (Then NoTrees (OfSpecifier (Keyword 1 word.Int))) (FunctionDeclarator 1 (DeclaredName 1 0) (Then NoTrees (OfDeclaration (Parameter 1 (Then NoTrees (OfSpecifier (Keyword 1 word.Void))) Absent))) false) (Block 1 (Then (Then NoTrees (OfDeclaration (Declaration 1 (Then NoTrees (OfSpecifier (Keyword 1 word.Int))) (Then NoTrees (OfDeclaration (InitDeclarator 1 (DeclaredName 1 1) (Present (OfInitializer (Initial 1 (Name 1 1)))))))))) (OfStatement (Return 1 (Present (OfExpression (Name 1 1)))))))) ∷ []) ≡ Accepted ((0 ∷ 1 ∷ 0 ∷ 4 ∷ 1 ∷ 0 ∷ []) ∷ []) ([]) ([]) ((1 ∷ 1 ∷ 1 ∷ 2 ∷ 1 ∷ 16 ∷ 1 ∷ 1 ∷ 99 ∷ []) ∷ []))
    -- _Bool b = 7; unsigned char c = 300; int main(void){return 0;}
    × (judged ((98 ∷ []) ∷ (99 ∷ []) ∷ (109 ∷ 97 ∷ 105 ∷ 110 ∷ []) ∷ []) ([]) ((Declaration 1 (Then NoTrees (OfSpecifier (Keyword 1 word.Bool))) (Then NoTrees (OfDeclaration (InitDeclarator 1 (DeclaredName 1 0) (Present (OfInitializer (Initial 1 (Number 1 7 true false 0)))))))) ∷ (Declaration 1 (Then (Then NoTrees (OfSpecifier (Keyword 1 word.Unsigned))) (OfSpecifier (Keyword 1 word.Char))) (Then NoTrees (OfDeclaration (InitDeclarator 1 (DeclaredName 1 1) (Present (OfInitializer (Initial 1 (Number 1 300 true false 0)))))))) ∷ (Function 1 (Then NoTrees (OfSpecifier (Keyword 1 word.Int))) (FunctionDeclarator 1 (DeclaredName 1 2) (Then NoTrees (OfDeclaration (Parameter 1 (Then NoTrees (OfSpecifier (Keyword 1 word.Void))) Absent))) false) (Block 1 (Then NoTrees (OfStatement (Return 1 (Present (OfExpression (Number 1 0 false false 0)))))))) ∷ []) ≡ Accepted ((0 ∷ 1 ∷ 0 ∷ 1 ∷ 1 ∷ 0 ∷ []) ∷ (0 ∷ 1 ∷ 0 ∷ 1 ∷ 1 ∷ 0 ∷ []) ∷ []) (0 ∷ 1 ∷ []) ([]) ((1 ∷ 1 ∷ 0 ∷ 16 ∷ 1 ∷ 1 ∷ 99 ∷ []) ∷ []))
    -- int b[2]; int a[2] = b; int main(void){return 0;}
    × (judged ((98 ∷ []) ∷ (97 ∷ []) ∷ (109 ∷ 97 ∷ 105 ∷ 110 ∷ []) ∷ []) ([]) ((Declaration 1 (Then NoTrees (OfSpecifier (Keyword 1 word.Int))) (Then NoTrees (OfDeclaration (InitDeclarator 1 (Array 1 (DeclaredName 1 0) (Present (OfExpression (Number 1 2 true false 0)))) Absent)))) ∷ (Declaration 1 (Then NoTrees (OfSpecifier (Keyword 1 word.Int))) (Then NoTrees (OfDeclaration (InitDeclarator 1 (Array 1 (DeclaredName 1 1) (Present (OfExpression (Number 1 2 true false 0)))) (Present (OfInitializer (Initial 1 (Name 1 0)))))))) ∷ (Function 1 (Then NoTrees (OfSpecifier (Keyword 1 word.Int))) (FunctionDeclarator 1 (DeclaredName 1 2) (Then NoTrees (OfDeclaration (Parameter 1 (Then NoTrees (OfSpecifier (Keyword 1 word.Void))) Absent))) false) (Block 1 (Then NoTrees (OfStatement (Return 1 (Present (OfExpression (Number 1 0 false false 0)))))))) ∷ []) ≡ Refused 1)
unfolding type_of_words library_named are_compatible layouts_of initialized_object values
scalars = (refl, refl, refl, refl, refl, refl, refl, refl, refl, refl)

-- 6.7.9p4, 6.6p7 to p9: initializers of static objects are constant
constant_initializers :
    -- int x; int y = x; int main(void){return 0;}
    (judged ((120 ∷ []) ∷ (121 ∷ []) ∷ (109 ∷ 97 ∷ 105 ∷ 110 ∷ []) ∷ []) ([]) ((Declaration 1 (Then NoTrees (OfSpecifier (Keyword 1 word.Int))) (Then NoTrees (OfDeclaration (InitDeclarator 1 (DeclaredName 1 0) Absent)))) ∷ (Declaration 1 (Then NoTrees (OfSpecifier (Keyword 1 word.Int))) (Then NoTrees (OfDeclaration (InitDeclarator 1 (DeclaredName 1 1) (Present (OfInitializer (Initial 1 (Name 1 0)))))))) ∷ (Function 1 (Then NoTrees (OfSpecifier (Keyword 1 word.Int))) (FunctionDeclarator 1 (DeclaredName 1 2) (Then NoTrees (OfDeclaration (Parameter 1 (Then NoTrees (OfSpecifier (Keyword 1 word.Void))) Absent))) false) (Block 1 (Then NoTrees (OfStatement (Return 1 (Present (OfExpression (Number 1 0 false false 0)))))))) ∷ []) ≡ Refused 1)
    -- int x = 1 + 2 * 3; int main(void){return 0;}
    × (judged ((120 ∷ []) ∷ (109 ∷ 97 ∷ 105 ∷ 110 ∷ []) ∷ []) ([]) ((Declaration 1 (Then NoTrees (OfSpecifier (Keyword 1 word.Int))) (Then NoTrees (OfDeclaration (InitDeclarator 1 (DeclaredName 1 0) (Present (OfInitializer (Initial 1 (Binary 1 op.Add (Number 1 1 true false 0) (Binary 1 op.Multiply (Number 1 2 true false 0) (Number 1 3 true false 0)))))))))) ∷ (Function 1 (Then NoTrees (OfSpecifier (Keyword 1 word.Int))) (FunctionDeclarator 1 (DeclaredName 1 1) (Then NoTrees (OfDeclaration (Parameter 1 (Then NoTrees (OfSpecifier (Keyword 1 word.Void))) Absent))) false) (Block 1 (Then NoTrees (OfStatement (Return 1 (Present (OfExpression (Number 1 0 false false 0)))))))) ∷ []) ≡ Accepted ((0 ∷ 1 ∷ 0 ∷ 4 ∷ 1 ∷ 0 ∷ []) ∷ []) (0 ∷ []) ([]) ((1 ∷ 1 ∷ 0 ∷ 16 ∷ 1 ∷ 1 ∷ 99 ∷ []) ∷ []))
    -- int f(void){return 1;} int x = f(); int main(void){return 0;}
    × (judged ((102 ∷ []) ∷ (120 ∷ []) ∷ (109 ∷ 97 ∷ 105 ∷ 110 ∷ []) ∷ []) ([]) ((Function 1 (Then NoTrees (OfSpecifier (Keyword 1 word.Int))) (FunctionDeclarator 1 (DeclaredName 1 0) (Then NoTrees (OfDeclaration (Parameter 1 (Then NoTrees (OfSpecifier (Keyword 1 word.Void))) Absent))) false) (Block 1 (Then NoTrees (OfStatement (Return 1 (Present (OfExpression (Number 1 1 true false 0)))))))) ∷ (Declaration 1 (Then NoTrees (OfSpecifier (Keyword 1 word.Int))) (Then NoTrees (OfDeclaration (InitDeclarator 1 (DeclaredName 1 1) (Present (OfInitializer (Initial 1 (Call 1 (Name 1 0) NoArguments)))))))) ∷ (Function 1 (Then NoTrees (OfSpecifier (Keyword 1 word.Int))) (FunctionDeclarator 1 (DeclaredName 1 2) (Then NoTrees (OfDeclaration (Parameter 1 (Then NoTrees (OfSpecifier (Keyword 1 word.Void))) Absent))) false) (Block 1 (Then NoTrees (OfStatement (Return 1 (Present (OfExpression (Number 1 0 false false 0)))))))) ∷ []) ≡ Refused 1)
    -- int main(void){static int n = 3; static int m = n; return m;}
    × (judged ((109 ∷ 97 ∷ 105 ∷ 110 ∷ []) ∷ (110 ∷ []) ∷ (109 ∷ []) ∷ []) ([]) ((Function 1 (Then NoTrees (OfSpecifier (Keyword 1 word.Int))) (FunctionDeclarator 1 (DeclaredName 1 0) (Then NoTrees (OfDeclaration (Parameter 1 (Then NoTrees (OfSpecifier (Keyword 1 word.Void))) Absent))) false) (Block 1 (Then (Then (Then NoTrees (OfDeclaration (Declaration 1 (Then (Then NoTrees (OfSpecifier (Keyword 1 word.Static))) (OfSpecifier (Keyword 1 word.Int))) (Then NoTrees (OfDeclaration (InitDeclarator 1 (DeclaredName 1 1) (Present (OfInitializer (Initial 1 (Number 1 3 true false 0)))))))))) (OfDeclaration (Declaration 1 (Then (Then NoTrees (OfSpecifier (Keyword 1 word.Static))) (OfSpecifier (Keyword 1 word.Int))) (Then NoTrees (OfDeclaration (InitDeclarator 1 (DeclaredName 1 2) (Present (OfInitializer (Initial 1 (Name 1 1)))))))))) (OfStatement (Return 1 (Present (OfExpression (Name 1 2)))))))) ∷ []) ≡ Refused 0)
    -- int main(void){static int *p; int k; static int *q = &k; return 0;}
    × (judged ((109 ∷ 97 ∷ 105 ∷ 110 ∷ []) ∷ (112 ∷ []) ∷ (107 ∷ []) ∷ (113 ∷ []) ∷ []) ([]) ((Function 1 (Then NoTrees (OfSpecifier (Keyword 1 word.Int))) (FunctionDeclarator 1 (DeclaredName 1 0) (Then NoTrees (OfDeclaration (Parameter 1 (Then NoTrees (OfSpecifier (Keyword 1 word.Void))) Absent))) false) (Block 1 (Then (Then (Then (Then NoTrees (OfDeclaration (Declaration 1 (Then (Then NoTrees (OfSpecifier (Keyword 1 word.Static))) (OfSpecifier (Keyword 1 word.Int))) (Then NoTrees (OfDeclaration (InitDeclarator 1 (Pointer 1 0 (DeclaredName 1 1)) Absent)))))) (OfDeclaration (Declaration 1 (Then NoTrees (OfSpecifier (Keyword 1 word.Int))) (Then NoTrees (OfDeclaration (InitDeclarator 1 (DeclaredName 1 2) Absent)))))) (OfDeclaration (Declaration 1 (Then (Then NoTrees (OfSpecifier (Keyword 1 word.Static))) (OfSpecifier (Keyword 1 word.Int))) (Then NoTrees (OfDeclaration (InitDeclarator 1 (Pointer 1 0 (DeclaredName 1 3)) (Present (OfInitializer (Initial 1 (Unary 1 unary.Address (Name 1 2))))))))))) (OfStatement (Return 1 (Present (OfExpression (Number 1 0 false false 0)))))))) ∷ []) ≡ Refused 0)
    -- int a[3]; int *p = a + 3; int main(void){return 0;}
    × (judged ((97 ∷ []) ∷ (112 ∷ []) ∷ (109 ∷ 97 ∷ 105 ∷ 110 ∷ []) ∷ []) ([]) ((Declaration 1 (Then NoTrees (OfSpecifier (Keyword 1 word.Int))) (Then NoTrees (OfDeclaration (InitDeclarator 1 (Array 1 (DeclaredName 1 0) (Present (OfExpression (Number 1 3 true false 0)))) Absent)))) ∷ (Declaration 1 (Then NoTrees (OfSpecifier (Keyword 1 word.Int))) (Then NoTrees (OfDeclaration (InitDeclarator 1 (Pointer 1 0 (DeclaredName 1 1)) (Present (OfInitializer (Initial 1 (Binary 1 op.Add (Name 1 0) (Number 1 3 true false 0))))))))) ∷ (Function 1 (Then NoTrees (OfSpecifier (Keyword 1 word.Int))) (FunctionDeclarator 1 (DeclaredName 1 2) (Then NoTrees (OfDeclaration (Parameter 1 (Then NoTrees (OfSpecifier (Keyword 1 word.Void))) Absent))) false) (Block 1 (Then NoTrees (OfStatement (Return 1 (Present (OfExpression (Number 1 0 false false 0)))))))) ∷ []) ≡ Accepted ((0 ∷ 0 ∷ []) ∷ (0 ∷ 1 ∷ 0 ∷ 8 ∷ 1 ∷ 0 ∷ []) ∷ []) (0 ∷ 1 ∷ []) ([]) ((1 ∷ 1 ∷ 0 ∷ 16 ∷ 1 ∷ 1 ∷ 99 ∷ []) ∷ []))
    -- int a[3]; int *p = a + 4; int main(void){return 0;}
    × (judged ((97 ∷ []) ∷ (112 ∷ []) ∷ (109 ∷ 97 ∷ 105 ∷ 110 ∷ []) ∷ []) ([]) ((Declaration 1 (Then NoTrees (OfSpecifier (Keyword 1 word.Int))) (Then NoTrees (OfDeclaration (InitDeclarator 1 (Array 1 (DeclaredName 1 0) (Present (OfExpression (Number 1 3 true false 0)))) Absent)))) ∷ (Declaration 1 (Then NoTrees (OfSpecifier (Keyword 1 word.Int))) (Then NoTrees (OfDeclaration (InitDeclarator 1 (Pointer 1 0 (DeclaredName 1 1)) (Present (OfInitializer (Initial 1 (Binary 1 op.Add (Name 1 0) (Number 1 4 true false 0))))))))) ∷ (Function 1 (Then NoTrees (OfSpecifier (Keyword 1 word.Int))) (FunctionDeclarator 1 (DeclaredName 1 2) (Then NoTrees (OfDeclaration (Parameter 1 (Then NoTrees (OfSpecifier (Keyword 1 word.Void))) Absent))) false) (Block 1 (Then NoTrees (OfStatement (Return 1 (Present (OfExpression (Number 1 0 false false 0)))))))) ∷ []) ≡ Refused 1)
    -- int a[3]; int *p = &a[1]; int *q = 1 + a; int main(void){return 0;}
    × (judged ((97 ∷ []) ∷ (112 ∷ []) ∷ (113 ∷ []) ∷ (109 ∷ 97 ∷ 105 ∷ 110 ∷ []) ∷ []) ([]) ((Declaration 1 (Then NoTrees (OfSpecifier (Keyword 1 word.Int))) (Then NoTrees (OfDeclaration (InitDeclarator 1 (Array 1 (DeclaredName 1 0) (Present (OfExpression (Number 1 3 true false 0)))) Absent)))) ∷ (Declaration 1 (Then NoTrees (OfSpecifier (Keyword 1 word.Int))) (Then NoTrees (OfDeclaration (InitDeclarator 1 (Pointer 1 0 (DeclaredName 1 1)) (Present (OfInitializer (Initial 1 (Unary 1 unary.Address (Index 1 (Name 1 0) (Number 1 1 true false 0)))))))))) ∷ (Declaration 1 (Then NoTrees (OfSpecifier (Keyword 1 word.Int))) (Then NoTrees (OfDeclaration (InitDeclarator 1 (Pointer 1 0 (DeclaredName 1 2)) (Present (OfInitializer (Initial 1 (Binary 1 op.Add (Number 1 1 true false 0) (Name 1 0))))))))) ∷ (Function 1 (Then NoTrees (OfSpecifier (Keyword 1 word.Int))) (FunctionDeclarator 1 (DeclaredName 1 3) (Then NoTrees (OfDeclaration (Parameter 1 (Then NoTrees (OfSpecifier (Keyword 1 word.Void))) Absent))) false) (Block 1 (Then NoTrees (OfStatement (Return 1 (Present (OfExpression (Number 1 0 false false 0)))))))) ∷ []) ≡ Accepted ((0 ∷ 0 ∷ []) ∷ (0 ∷ 1 ∷ 0 ∷ 8 ∷ 1 ∷ 0 ∷ []) ∷ (0 ∷ 1 ∷ 0 ∷ 8 ∷ 1 ∷ 0 ∷ []) ∷ []) (0 ∷ 1 ∷ 2 ∷ []) ([]) ((1 ∷ 1 ∷ 0 ∷ 16 ∷ 1 ∷ 1 ∷ 99 ∷ []) ∷ []))
    -- int x; _Bool b = &x; int main(void){return 0;}
    × (judged ((120 ∷ []) ∷ (98 ∷ []) ∷ (109 ∷ 97 ∷ 105 ∷ 110 ∷ []) ∷ []) ([]) ((Declaration 1 (Then NoTrees (OfSpecifier (Keyword 1 word.Int))) (Then NoTrees (OfDeclaration (InitDeclarator 1 (DeclaredName 1 0) Absent)))) ∷ (Declaration 1 (Then NoTrees (OfSpecifier (Keyword 1 word.Bool))) (Then NoTrees (OfDeclaration (InitDeclarator 1 (DeclaredName 1 1) (Present (OfInitializer (Initial 1 (Unary 1 unary.Address (Name 1 0))))))))) ∷ (Function 1 (Then NoTrees (OfSpecifier (Keyword 1 word.Int))) (FunctionDeclarator 1 (DeclaredName 1 2) (Then NoTrees (OfDeclaration (Parameter 1 (Then NoTrees (OfSpecifier (Keyword 1 word.Void))) Absent))) false) (Block 1 (Then NoTrees (OfStatement (Return 1 (Present (OfExpression (Number 1 0 false false 0)))))))) ∷ []) ≡ Accepted ((0 ∷ 0 ∷ []) ∷ (0 ∷ 1 ∷ 0 ∷ 1 ∷ 1 ∷ 0 ∷ []) ∷ []) (0 ∷ 1 ∷ []) ([]) ((1 ∷ 1 ∷ 0 ∷ 16 ∷ 1 ∷ 1 ∷ 99 ∷ []) ∷ []))
    -- int x; _Bool b = (_Bool)&x; int main(void){return 0;}
    × (judged ((120 ∷ []) ∷ (98 ∷ []) ∷ (109 ∷ 97 ∷ 105 ∷ 110 ∷ []) ∷ []) ([]) ((Declaration 1 (Then NoTrees (OfSpecifier (Keyword 1 word.Int))) (Then NoTrees (OfDeclaration (InitDeclarator 1 (DeclaredName 1 0) Absent)))) ∷ (Declaration 1 (Then NoTrees (OfSpecifier (Keyword 1 word.Bool))) (Then NoTrees (OfDeclaration (InitDeclarator 1 (DeclaredName 1 1) (Present (OfInitializer (Initial 1 (Cast 1 (TypeName 1 (Then NoTrees (OfSpecifier (Keyword 1 word.Bool))) Absent) (Unary 1 unary.Address (Name 1 0)))))))))) ∷ (Function 1 (Then NoTrees (OfSpecifier (Keyword 1 word.Int))) (FunctionDeclarator 1 (DeclaredName 1 2) (Then NoTrees (OfDeclaration (Parameter 1 (Then NoTrees (OfSpecifier (Keyword 1 word.Void))) Absent))) false) (Block 1 (Then NoTrees (OfStatement (Return 1 (Present (OfExpression (Number 1 0 false false 0)))))))) ∷ []) ≡ Refused 1)
    -- int a[3]; int *p = a + 4 - 2; int main(void){return 0;}
    × (judged ((97 ∷ []) ∷ (112 ∷ []) ∷ (109 ∷ 97 ∷ 105 ∷ 110 ∷ []) ∷ []) ([]) ((Declaration 1 (Then NoTrees (OfSpecifier (Keyword 1 word.Int))) (Then NoTrees (OfDeclaration (InitDeclarator 1 (Array 1 (DeclaredName 1 0) (Present (OfExpression (Number 1 3 true false 0)))) Absent)))) ∷ (Declaration 1 (Then NoTrees (OfSpecifier (Keyword 1 word.Int))) (Then NoTrees (OfDeclaration (InitDeclarator 1 (Pointer 1 0 (DeclaredName 1 1)) (Present (OfInitializer (Initial 1 (Binary 1 op.Subtract (Binary 1 op.Add (Name 1 0) (Number 1 4 true false 0)) (Number 1 2 true false 0))))))))) ∷ (Function 1 (Then NoTrees (OfSpecifier (Keyword 1 word.Int))) (FunctionDeclarator 1 (DeclaredName 1 2) (Then NoTrees (OfDeclaration (Parameter 1 (Then NoTrees (OfSpecifier (Keyword 1 word.Void))) Absent))) false) (Block 1 (Then NoTrees (OfStatement (Return 1 (Present (OfExpression (Number 1 0 false false 0)))))))) ∷ []) ≡ Refused 1)
    -- int a[3]; int *p = &a[3]; int *q = &*a; int main(void){return 0;}
    × (judged ((97 ∷ []) ∷ (112 ∷ []) ∷ (113 ∷ []) ∷ (109 ∷ 97 ∷ 105 ∷ 110 ∷ []) ∷ []) ([]) ((Declaration 1 (Then NoTrees (OfSpecifier (Keyword 1 word.Int))) (Then NoTrees (OfDeclaration (InitDeclarator 1 (Array 1 (DeclaredName 1 0) (Present (OfExpression (Number 1 3 true false 0)))) Absent)))) ∷ (Declaration 1 (Then NoTrees (OfSpecifier (Keyword 1 word.Int))) (Then NoTrees (OfDeclaration (InitDeclarator 1 (Pointer 1 0 (DeclaredName 1 1)) (Present (OfInitializer (Initial 1 (Unary 1 unary.Address (Index 1 (Name 1 0) (Number 1 3 true false 0)))))))))) ∷ (Declaration 1 (Then NoTrees (OfSpecifier (Keyword 1 word.Int))) (Then NoTrees (OfDeclaration (InitDeclarator 1 (Pointer 1 0 (DeclaredName 1 2)) (Present (OfInitializer (Initial 1 (Unary 1 unary.Address (Unary 1 unary.Indirection (Name 1 0)))))))))) ∷ (Function 1 (Then NoTrees (OfSpecifier (Keyword 1 word.Int))) (FunctionDeclarator 1 (DeclaredName 1 3) (Then NoTrees (OfDeclaration (Parameter 1 (Then NoTrees (OfSpecifier (Keyword 1 word.Void))) Absent))) false) (Block 1 (Then NoTrees (OfStatement (Return 1 (Present (OfExpression (Number 1 0 false false 0)))))))) ∷ []) ≡ Accepted ((0 ∷ 0 ∷ []) ∷ (0 ∷ 1 ∷ 0 ∷ 8 ∷ 1 ∷ 0 ∷ []) ∷ (0 ∷ 1 ∷ 0 ∷ 8 ∷ 1 ∷ 0 ∷ []) ∷ []) (0 ∷ 1 ∷ 2 ∷ []) ([]) ((1 ∷ 1 ∷ 0 ∷ 16 ∷ 1 ∷ 1 ∷ 99 ∷ []) ∷ []))
    -- struct s { int a; struct { char c[3]; } t; } x; char *p = x.t.c + 1; char *q = &(&x)->t.c[2]; int main(void){return 0;}
    × (judged ((115 ∷ []) ∷ (97 ∷ []) ∷ (99 ∷ []) ∷ (116 ∷ []) ∷ (120 ∷ []) ∷ (112 ∷ []) ∷ (113 ∷ []) ∷ (109 ∷ 97 ∷ 105 ∷ 110 ∷ []) ∷ []) ([]) ((Declaration 1 (Then NoTrees (OfSpecifier (Composite 1 word.Struct (Some 0) (Then (Then NoTrees (OfDeclaration (MemberDeclaration 1 (Then NoTrees (OfSpecifier (Keyword 1 word.Int))) (Then NoTrees (OfDeclarator (DeclaredName 1 1)))))) (OfDeclaration (MemberDeclaration 1 (Then NoTrees (OfSpecifier (Composite 1 word.Struct None (Then NoTrees (OfDeclaration (MemberDeclaration 1 (Then NoTrees (OfSpecifier (Keyword 1 word.Char))) (Then NoTrees (OfDeclarator (Array 1 (DeclaredName 1 2) (Present (OfExpression (Number 1 3 true false 0)))))))))))) (Then NoTrees (OfDeclarator (DeclaredName 1 3))))))))) (Then NoTrees (OfDeclaration (InitDeclarator 1 (DeclaredName 1 4) Absent)))) ∷ (Declaration 1 (Then NoTrees (OfSpecifier (Keyword 1 word.Char))) (Then NoTrees (OfDeclaration (InitDeclarator 1 (Pointer 1 0 (DeclaredName 1 5)) (Present (OfInitializer (Initial 1 (Binary 1 op.Add (Member 1 (Member 1 (Name 1 4) 3) 2) (Number 1 1 true false 0))))))))) ∷ (Declaration 1 (Then NoTrees (OfSpecifier (Keyword 1 word.Char))) (Then NoTrees (OfDeclaration (InitDeclarator 1 (Pointer 1 0 (DeclaredName 1 6)) (Present (OfInitializer (Initial 1 (Unary 1 unary.Address (Index 1 (Member 1 (Arrow 1 (Paren 1 (Unary 1 unary.Address (Name 1 4))) 3) 2) (Number 1 2 true false 0)))))))))) ∷ (Function 1 (Then NoTrees (OfSpecifier (Keyword 1 word.Int))) (FunctionDeclarator 1 (DeclaredName 1 7) (Then NoTrees (OfDeclaration (Parameter 1 (Then NoTrees (OfSpecifier (Keyword 1 word.Void))) Absent))) false) (Block 1 (Then NoTrees (OfStatement (Return 1 (Present (OfExpression (Number 1 0 false false 0)))))))) ∷ []) ≡ Accepted ((0 ∷ 0 ∷ []) ∷ (0 ∷ 1 ∷ 0 ∷ 8 ∷ 1 ∷ 0 ∷ []) ∷ (0 ∷ 1 ∷ 0 ∷ 8 ∷ 1 ∷ 0 ∷ []) ∷ []) (4 ∷ 5 ∷ 6 ∷ []) ([]) ((1 ∷ 1 ∷ 0 ∷ 16 ∷ 1 ∷ 1 ∷ 99 ∷ []) ∷ []))
    -- void *p = 0; void *q = (void *)0; char *r = (char *)0; int main(void){return 0;}
    × (judged ((112 ∷ []) ∷ (113 ∷ []) ∷ (114 ∷ []) ∷ (109 ∷ 97 ∷ 105 ∷ 110 ∷ []) ∷ []) ([]) ((Declaration 1 (Then NoTrees (OfSpecifier (Keyword 1 word.Void))) (Then NoTrees (OfDeclaration (InitDeclarator 1 (Pointer 1 0 (DeclaredName 1 0)) (Present (OfInitializer (Initial 1 (Number 1 0 false false 0)))))))) ∷ (Declaration 1 (Then NoTrees (OfSpecifier (Keyword 1 word.Void))) (Then NoTrees (OfDeclaration (InitDeclarator 1 (Pointer 1 0 (DeclaredName 1 1)) (Present (OfInitializer (Initial 1 (Cast 1 (TypeName 1 (Then NoTrees (OfSpecifier (Keyword 1 word.Void))) (Present (OfDeclarator (AbstractPointer 1 0 Absent)))) (Number 1 0 false false 0))))))))) ∷ (Declaration 1 (Then NoTrees (OfSpecifier (Keyword 1 word.Char))) (Then NoTrees (OfDeclaration (InitDeclarator 1 (Pointer 1 0 (DeclaredName 1 2)) (Present (OfInitializer (Initial 1 (Cast 1 (TypeName 1 (Then NoTrees (OfSpecifier (Keyword 1 word.Char))) (Present (OfDeclarator (AbstractPointer 1 0 Absent)))) (Number 1 0 false false 0))))))))) ∷ (Function 1 (Then NoTrees (OfSpecifier (Keyword 1 word.Int))) (FunctionDeclarator 1 (DeclaredName 1 3) (Then NoTrees (OfDeclaration (Parameter 1 (Then NoTrees (OfSpecifier (Keyword 1 word.Void))) Absent))) false) (Block 1 (Then NoTrees (OfStatement (Return 1 (Present (OfExpression (Number 1 0 false false 0)))))))) ∷ []) ≡ Accepted ((0 ∷ 1 ∷ 0 ∷ 8 ∷ 1 ∷ 0 ∷ []) ∷ (0 ∷ 1 ∷ 0 ∷ 8 ∷ 1 ∷ 0 ∷ []) ∷ (0 ∷ 1 ∷ 0 ∷ 8 ∷ 1 ∷ 0 ∷ []) ∷ []) (0 ∷ 1 ∷ 2 ∷ []) ([]) ((1 ∷ 1 ∷ 0 ∷ 16 ∷ 1 ∷ 1 ∷ 99 ∷ []) ∷ []))
    -- char *p = (char *)1; int main(void){return 0;}
    × (judged ((112 ∷ []) ∷ (109 ∷ 97 ∷ 105 ∷ 110 ∷ []) ∷ []) ([]) ((Declaration 1 (Then NoTrees (OfSpecifier (Keyword 1 word.Char))) (Then NoTrees (OfDeclaration (InitDeclarator 1 (Pointer 1 0 (DeclaredName 1 0)) (Present (OfInitializer (Initial 1 (Cast 1 (TypeName 1 (Then NoTrees (OfSpecifier (Keyword 1 word.Char))) (Present (OfDeclarator (AbstractPointer 1 0 Absent)))) (Number 1 1 true false 0))))))))) ∷ (Function 1 (Then NoTrees (OfSpecifier (Keyword 1 word.Int))) (FunctionDeclarator 1 (DeclaredName 1 1) (Then NoTrees (OfDeclaration (Parameter 1 (Then NoTrees (OfSpecifier (Keyword 1 word.Void))) Absent))) false) (Block 1 (Then NoTrees (OfStatement (Return 1 (Present (OfExpression (Number 1 0 false false 0)))))))) ∷ []) ≡ Refused 0)
    -- unsigned long n = (unsigned long)&n; int main(void){return 0;}
    × (judged ((110 ∷ []) ∷ (109 ∷ 97 ∷ 105 ∷ 110 ∷ []) ∷ []) ([]) ((Declaration 1 (Then (Then NoTrees (OfSpecifier (Keyword 1 word.Unsigned))) (OfSpecifier (Keyword 1 word.Long))) (Then NoTrees (OfDeclaration (InitDeclarator 1 (DeclaredName 1 0) (Present (OfInitializer (Initial 1 (Cast 1 (TypeName 1 (Then (Then NoTrees (OfSpecifier (Keyword 1 word.Unsigned))) (OfSpecifier (Keyword 1 word.Long))) Absent) (Unary 1 unary.Address (Name 1 0)))))))))) ∷ (Function 1 (Then NoTrees (OfSpecifier (Keyword 1 word.Int))) (FunctionDeclarator 1 (DeclaredName 1 1) (Then NoTrees (OfDeclaration (Parameter 1 (Then NoTrees (OfSpecifier (Keyword 1 word.Void))) Absent))) false) (Block 1 (Then NoTrees (OfStatement (Return 1 (Present (OfExpression (Number 1 0 false false 0)))))))) ∷ []) ≡ Refused 0)
    -- int main(void){static char *p = "a"; static char *q = &"bc"[1]; return 0;}
    × (judged ((109 ∷ 97 ∷ 105 ∷ 110 ∷ []) ∷ (112 ∷ []) ∷ (113 ∷ []) ∷ []) ((97 ∷ []) ∷ (98 ∷ 99 ∷ []) ∷ []) ((Function 1 (Then NoTrees (OfSpecifier (Keyword 1 word.Int))) (FunctionDeclarator 1 (DeclaredName 1 0) (Then NoTrees (OfDeclaration (Parameter 1 (Then NoTrees (OfSpecifier (Keyword 1 word.Void))) Absent))) false) (Block 1 (Then (Then (Then NoTrees (OfDeclaration (Declaration 1 (Then (Then NoTrees (OfSpecifier (Keyword 1 word.Static))) (OfSpecifier (Keyword 1 word.Char))) (Then NoTrees (OfDeclaration (InitDeclarator 1 (Pointer 1 0 (DeclaredName 1 1)) (Present (OfInitializer (Initial 1 (Text 1 0 0)))))))))) (OfDeclaration (Declaration 1 (Then (Then NoTrees (OfSpecifier (Keyword 1 word.Static))) (OfSpecifier (Keyword 1 word.Char))) (Then NoTrees (OfDeclaration (InitDeclarator 1 (Pointer 1 0 (DeclaredName 1 2)) (Present (OfInitializer (Initial 1 (Unary 1 unary.Address (Index 1 (Text 1 1 0) (Number 1 1 true false 0)))))))))))) (OfStatement (Return 1 (Present (OfExpression (Number 1 0 false false 0)))))))) ∷ []) ≡ Accepted ((0 ∷ 1 ∷ 0 ∷ 8 ∷ 1 ∷ 0 ∷ []) ∷ (0 ∷ 1 ∷ 0 ∷ 8 ∷ 1 ∷ 0 ∷ []) ∷ []) (1 ∷ 2 ∷ []) (2 ∷ 1 ∷ 3 ∷ 1 ∷ []) ((1 ∷ 1 ∷ 0 ∷ 16 ∷ 1 ∷ 1 ∷ 99 ∷ []) ∷ []))
    -- int x = 1 / 0; int main(void){return 0;}
    × (judged ((120 ∷ []) ∷ (109 ∷ 97 ∷ 105 ∷ 110 ∷ []) ∷ []) ([]) ((Declaration 1 (Then NoTrees (OfSpecifier (Keyword 1 word.Int))) (Then NoTrees (OfDeclaration (InitDeclarator 1 (DeclaredName 1 0) (Present (OfInitializer (Initial 1 (Binary 1 op.Divide (Number 1 1 true false 0) (Number 1 0 false false 0))))))))) ∷ (Function 1 (Then NoTrees (OfSpecifier (Keyword 1 word.Int))) (FunctionDeclarator 1 (DeclaredName 1 1) (Then NoTrees (OfDeclaration (Parameter 1 (Then NoTrees (OfSpecifier (Keyword 1 word.Void))) Absent))) false) (Block 1 (Then NoTrees (OfStatement (Return 1 (Present (OfExpression (Number 1 0 false false 0)))))))) ∷ []) ≡ Refused 0)
    -- int x = 0 ? 1 / 0 : 2; int main(void){return 0;}
    × (judged ((120 ∷ []) ∷ (109 ∷ 97 ∷ 105 ∷ 110 ∷ []) ∷ []) ([]) ((Declaration 1 (Then NoTrees (OfSpecifier (Keyword 1 word.Int))) (Then NoTrees (OfDeclaration (InitDeclarator 1 (DeclaredName 1 0) (Present (OfInitializer (Initial 1 (Conditional 1 (Number 1 0 false false 0) (Binary 1 op.Divide (Number 1 1 true false 0) (Number 1 0 false false 0)) (Number 1 2 true false 0))))))))) ∷ (Function 1 (Then NoTrees (OfSpecifier (Keyword 1 word.Int))) (FunctionDeclarator 1 (DeclaredName 1 1) (Then NoTrees (OfDeclaration (Parameter 1 (Then NoTrees (OfSpecifier (Keyword 1 word.Void))) Absent))) false) (Block 1 (Then NoTrees (OfStatement (Return 1 (Present (OfExpression (Number 1 0 false false 0)))))))) ∷ []) ≡ Accepted ((0 ∷ 1 ∷ 0 ∷ 4 ∷ 1 ∷ 0 ∷ []) ∷ []) (0 ∷ []) ([]) ((1 ∷ 1 ∷ 0 ∷ 16 ∷ 1 ∷ 1 ∷ 99 ∷ []) ∷ []))
    -- enum { A = 3 }; int a[A] = {A, sizeof(int)}; int main(void){return 0;}
    × (judged ((65 ∷ []) ∷ (97 ∷ []) ∷ (109 ∷ 97 ∷ 105 ∷ 110 ∷ []) ∷ []) ([]) ((Declaration 1 (Then NoTrees (OfSpecifier (Enumeration 1 None (Then NoTrees (OfDeclaration (Enumerator 1 0 (Present (OfExpression (Number 1 3 true false 0)))))) false))) NoTrees) ∷ (Declaration 1 (Then NoTrees (OfSpecifier (Keyword 1 word.Int))) (Then NoTrees (OfDeclaration (InitDeclarator 1 (Array 1 (DeclaredName 1 1) (Present (OfExpression (Name 1 0)))) (Present (OfInitializer (Braces 1 (Then (Then NoTrees (OfInitializer (Initial 1 (Name 1 0)))) (OfInitializer (Initial 1 (SizeofType 1 (TypeName 1 (Then NoTrees (OfSpecifier (Keyword 1 word.Int))) Absent))))) false))))))) ∷ (Function 1 (Then NoTrees (OfSpecifier (Keyword 1 word.Int))) (FunctionDeclarator 1 (DeclaredName 1 2) (Then NoTrees (OfDeclaration (Parameter 1 (Then NoTrees (OfSpecifier (Keyword 1 word.Void))) Absent))) false) (Block 1 (Then NoTrees (OfStatement (Return 1 (Present (OfExpression (Number 1 0 false false 0)))))))) ∷ []) ≡ Accepted ((1 ∷ 2 ∷ 0 ∷ 4 ∷ 1 ∷ 0 ∷ 4 ∷ 4 ∷ 1 ∷ 0 ∷ []) ∷ []) (1 ∷ []) ([]) ((1 ∷ 1 ∷ 0 ∷ 16 ∷ 1 ∷ 1 ∷ 99 ∷ []) ∷ []))
unfolding type_of_words library_named are_compatible layouts_of initialized_object values
constant_initializers = (refl, refl, refl, refl, refl, refl, refl, refl, refl, refl, refl, refl, refl, refl, refl, refl, refl, refl, refl, refl)

-- 6.7.9p16, p17, p22: lists in braces for arrays
arrays_in_braces :
    -- int a[3] = {1, 2, 3}; int main(void){return 0;}
    (judged ((97 ∷ []) ∷ (109 ∷ 97 ∷ 105 ∷ 110 ∷ []) ∷ []) ([]) ((Declaration 1 (Then NoTrees (OfSpecifier (Keyword 1 word.Int))) (Then NoTrees (OfDeclaration (InitDeclarator 1 (Array 1 (DeclaredName 1 0) (Present (OfExpression (Number 1 3 true false 0)))) (Present (OfInitializer (Braces 1 (Then (Then (Then NoTrees (OfInitializer (Initial 1 (Number 1 1 true false 0)))) (OfInitializer (Initial 1 (Number 1 2 true false 0)))) (OfInitializer (Initial 1 (Number 1 3 true false 0)))) false))))))) ∷ (Function 1 (Then NoTrees (OfSpecifier (Keyword 1 word.Int))) (FunctionDeclarator 1 (DeclaredName 1 1) (Then NoTrees (OfDeclaration (Parameter 1 (Then NoTrees (OfSpecifier (Keyword 1 word.Void))) Absent))) false) (Block 1 (Then NoTrees (OfStatement (Return 1 (Present (OfExpression (Number 1 0 false false 0)))))))) ∷ []) ≡ Accepted ((1 ∷ 3 ∷ 0 ∷ 4 ∷ 1 ∷ 0 ∷ 4 ∷ 4 ∷ 1 ∷ 0 ∷ 8 ∷ 4 ∷ 1 ∷ 0 ∷ []) ∷ []) (0 ∷ []) ([]) ((1 ∷ 1 ∷ 0 ∷ 16 ∷ 1 ∷ 1 ∷ 99 ∷ []) ∷ []))
    -- int a[3] = {1, 2, 3, 4}; int main(void){return 0;}
    × (judged ((97 ∷ []) ∷ (109 ∷ 97 ∷ 105 ∷ 110 ∷ []) ∷ []) ([]) ((Declaration 1 (Then NoTrees (OfSpecifier (Keyword 1 word.Int))) (Then NoTrees (OfDeclaration (InitDeclarator 1 (Array 1 (DeclaredName 1 0) (Present (OfExpression (Number 1 3 true false 0)))) (Present (OfInitializer (Braces 1 (Then (Then (Then (Then NoTrees (OfInitializer (Initial 1 (Number 1 1 true false 0)))) (OfInitializer (Initial 1 (Number 1 2 true false 0)))) (OfInitializer (Initial 1 (Number 1 3 true false 0)))) (OfInitializer (Initial 1 (Number 1 4 true false 0)))) false))))))) ∷ (Function 1 (Then NoTrees (OfSpecifier (Keyword 1 word.Int))) (FunctionDeclarator 1 (DeclaredName 1 1) (Then NoTrees (OfDeclaration (Parameter 1 (Then NoTrees (OfSpecifier (Keyword 1 word.Void))) Absent))) false) (Block 1 (Then NoTrees (OfStatement (Return 1 (Present (OfExpression (Number 1 0 false false 0)))))))) ∷ []) ≡ Refused 0)
    -- int a[3] = {1}; int main(void){return 0;}
    × (judged ((97 ∷ []) ∷ (109 ∷ 97 ∷ 105 ∷ 110 ∷ []) ∷ []) ([]) ((Declaration 1 (Then NoTrees (OfSpecifier (Keyword 1 word.Int))) (Then NoTrees (OfDeclaration (InitDeclarator 1 (Array 1 (DeclaredName 1 0) (Present (OfExpression (Number 1 3 true false 0)))) (Present (OfInitializer (Braces 1 (Then NoTrees (OfInitializer (Initial 1 (Number 1 1 true false 0)))) false))))))) ∷ (Function 1 (Then NoTrees (OfSpecifier (Keyword 1 word.Int))) (FunctionDeclarator 1 (DeclaredName 1 1) (Then NoTrees (OfDeclaration (Parameter 1 (Then NoTrees (OfSpecifier (Keyword 1 word.Void))) Absent))) false) (Block 1 (Then NoTrees (OfStatement (Return 1 (Present (OfExpression (Number 1 0 false false 0)))))))) ∷ []) ≡ Accepted ((1 ∷ 1 ∷ 0 ∷ 4 ∷ 1 ∷ 0 ∷ []) ∷ []) (0 ∷ []) ([]) ((1 ∷ 1 ∷ 0 ∷ 16 ∷ 1 ∷ 1 ∷ 99 ∷ []) ∷ []))
    -- int a[] = {1, 2, 3,}; int main(void){return sizeof a;}
    × (judged ((97 ∷ []) ∷ (109 ∷ 97 ∷ 105 ∷ 110 ∷ []) ∷ []) ([]) ((Declaration 1 (Then NoTrees (OfSpecifier (Keyword 1 word.Int))) (Then NoTrees (OfDeclaration (InitDeclarator 1 (Array 1 (DeclaredName 1 0) Absent) (Present (OfInitializer (Braces 1 (Then (Then (Then NoTrees (OfInitializer (Initial 1 (Number 1 1 true false 0)))) (OfInitializer (Initial 1 (Number 1 2 true false 0)))) (OfInitializer (Initial 1 (Number 1 3 true false 0)))) false))))))) ∷ (Function 1 (Then NoTrees (OfSpecifier (Keyword 1 word.Int))) (FunctionDeclarator 1 (DeclaredName 1 1) (Then NoTrees (OfDeclaration (Parameter 1 (Then NoTrees (OfSpecifier (Keyword 1 word.Void))) Absent))) false) (Block 1 (Then NoTrees (OfStatement (Return 1 (Present (OfExpression (SizeofExpr 1 (Name 1 0))))))))) ∷ []) ≡ Accepted ((1 ∷ 3 ∷ 0 ∷ 4 ∷ 1 ∷ 0 ∷ 4 ∷ 4 ∷ 1 ∷ 0 ∷ 8 ∷ 4 ∷ 1 ∷ 0 ∷ []) ∷ []) (0 ∷ []) ([]) ((1 ∷ 1 ∷ 0 ∷ 16 ∷ 1 ∷ 1 ∷ 99 ∷ []) ∷ []))
    -- int a[] = 1; int main(void){return 0;}
    × (judged ((97 ∷ []) ∷ (109 ∷ 97 ∷ 105 ∷ 110 ∷ []) ∷ []) ([]) ((Declaration 1 (Then NoTrees (OfSpecifier (Keyword 1 word.Int))) (Then NoTrees (OfDeclaration (InitDeclarator 1 (Array 1 (DeclaredName 1 0) Absent) (Present (OfInitializer (Initial 1 (Number 1 1 true false 0)))))))) ∷ (Function 1 (Then NoTrees (OfSpecifier (Keyword 1 word.Int))) (FunctionDeclarator 1 (DeclaredName 1 1) (Then NoTrees (OfDeclaration (Parameter 1 (Then NoTrees (OfSpecifier (Keyword 1 word.Void))) Absent))) false) (Block 1 (Then NoTrees (OfStatement (Return 1 (Present (OfExpression (Number 1 0 false false 0)))))))) ∷ []) ≡ Refused 0)
    -- int a[2] = 1; int main(void){return 0;}
    × (judged ((97 ∷ []) ∷ (109 ∷ 97 ∷ 105 ∷ 110 ∷ []) ∷ []) ([]) ((Declaration 1 (Then NoTrees (OfSpecifier (Keyword 1 word.Int))) (Then NoTrees (OfDeclaration (InitDeclarator 1 (Array 1 (DeclaredName 1 0) (Present (OfExpression (Number 1 2 true false 0)))) (Present (OfInitializer (Initial 1 (Number 1 1 true false 0)))))))) ∷ (Function 1 (Then NoTrees (OfSpecifier (Keyword 1 word.Int))) (FunctionDeclarator 1 (DeclaredName 1 1) (Then NoTrees (OfDeclaration (Parameter 1 (Then NoTrees (OfSpecifier (Keyword 1 word.Void))) Absent))) false) (Block 1 (Then NoTrees (OfStatement (Return 1 (Present (OfExpression (Number 1 0 false false 0)))))))) ∷ []) ≡ Refused 0)
    -- int a[2][2] = {{1, 2}, {3}}; int main(void){return 0;}
    × (judged ((97 ∷ []) ∷ (109 ∷ 97 ∷ 105 ∷ 110 ∷ []) ∷ []) ([]) ((Declaration 1 (Then NoTrees (OfSpecifier (Keyword 1 word.Int))) (Then NoTrees (OfDeclaration (InitDeclarator 1 (Array 1 (Array 1 (DeclaredName 1 0) (Present (OfExpression (Number 1 2 true false 0)))) (Present (OfExpression (Number 1 2 true false 0)))) (Present (OfInitializer (Braces 1 (Then (Then NoTrees (OfInitializer (Braces 1 (Then (Then NoTrees (OfInitializer (Initial 1 (Number 1 1 true false 0)))) (OfInitializer (Initial 1 (Number 1 2 true false 0)))) false))) (OfInitializer (Braces 1 (Then NoTrees (OfInitializer (Initial 1 (Number 1 3 true false 0)))) false))) false))))))) ∷ (Function 1 (Then NoTrees (OfSpecifier (Keyword 1 word.Int))) (FunctionDeclarator 1 (DeclaredName 1 1) (Then NoTrees (OfDeclaration (Parameter 1 (Then NoTrees (OfSpecifier (Keyword 1 word.Void))) Absent))) false) (Block 1 (Then NoTrees (OfStatement (Return 1 (Present (OfExpression (Number 1 0 false false 0)))))))) ∷ []) ≡ Accepted ((1 ∷ 3 ∷ 0 ∷ 4 ∷ 1 ∷ 0 ∷ 4 ∷ 4 ∷ 1 ∷ 0 ∷ 8 ∷ 4 ∷ 1 ∷ 0 ∷ []) ∷ []) (0 ∷ []) ([]) ((1 ∷ 1 ∷ 0 ∷ 16 ∷ 1 ∷ 1 ∷ 99 ∷ []) ∷ []))
    -- int a[2][2] = {1, 2, 3, 4}; int main(void){return 0;}
    × (judged ((97 ∷ []) ∷ (109 ∷ 97 ∷ 105 ∷ 110 ∷ []) ∷ []) ([]) ((Declaration 1 (Then NoTrees (OfSpecifier (Keyword 1 word.Int))) (Then NoTrees (OfDeclaration (InitDeclarator 1 (Array 1 (Array 1 (DeclaredName 1 0) (Present (OfExpression (Number 1 2 true false 0)))) (Present (OfExpression (Number 1 2 true false 0)))) (Present (OfInitializer (Braces 1 (Then (Then (Then (Then NoTrees (OfInitializer (Initial 1 (Number 1 1 true false 0)))) (OfInitializer (Initial 1 (Number 1 2 true false 0)))) (OfInitializer (Initial 1 (Number 1 3 true false 0)))) (OfInitializer (Initial 1 (Number 1 4 true false 0)))) false))))))) ∷ (Function 1 (Then NoTrees (OfSpecifier (Keyword 1 word.Int))) (FunctionDeclarator 1 (DeclaredName 1 1) (Then NoTrees (OfDeclaration (Parameter 1 (Then NoTrees (OfSpecifier (Keyword 1 word.Void))) Absent))) false) (Block 1 (Then NoTrees (OfStatement (Return 1 (Present (OfExpression (Number 1 0 false false 0)))))))) ∷ []) ≡ Refused 0)
    -- int a[][2] = {{1}, {2}, {3, 4}}; int main(void){return 0;}
    × (judged ((97 ∷ []) ∷ (109 ∷ 97 ∷ 105 ∷ 110 ∷ []) ∷ []) ([]) ((Declaration 1 (Then NoTrees (OfSpecifier (Keyword 1 word.Int))) (Then NoTrees (OfDeclaration (InitDeclarator 1 (Array 1 (Array 1 (DeclaredName 1 0) Absent) (Present (OfExpression (Number 1 2 true false 0)))) (Present (OfInitializer (Braces 1 (Then (Then (Then NoTrees (OfInitializer (Braces 1 (Then NoTrees (OfInitializer (Initial 1 (Number 1 1 true false 0)))) false))) (OfInitializer (Braces 1 (Then NoTrees (OfInitializer (Initial 1 (Number 1 2 true false 0)))) false))) (OfInitializer (Braces 1 (Then (Then NoTrees (OfInitializer (Initial 1 (Number 1 3 true false 0)))) (OfInitializer (Initial 1 (Number 1 4 true false 0)))) false))) false))))))) ∷ (Function 1 (Then NoTrees (OfSpecifier (Keyword 1 word.Int))) (FunctionDeclarator 1 (DeclaredName 1 1) (Then NoTrees (OfDeclaration (Parameter 1 (Then NoTrees (OfSpecifier (Keyword 1 word.Void))) Absent))) false) (Block 1 (Then NoTrees (OfStatement (Return 1 (Present (OfExpression (Number 1 0 false false 0)))))))) ∷ []) ≡ Accepted ((1 ∷ 4 ∷ 0 ∷ 4 ∷ 1 ∷ 0 ∷ 8 ∷ 4 ∷ 1 ∷ 0 ∷ 16 ∷ 4 ∷ 1 ∷ 0 ∷ 20 ∷ 4 ∷ 1 ∷ 0 ∷ []) ∷ []) (0 ∷ []) ([]) ((1 ∷ 1 ∷ 0 ∷ 16 ∷ 1 ∷ 1 ∷ 99 ∷ []) ∷ []))
    -- int a[2][2] = {{1, 2, 3}}; int main(void){return 0;}
    × (judged ((97 ∷ []) ∷ (109 ∷ 97 ∷ 105 ∷ 110 ∷ []) ∷ []) ([]) ((Declaration 1 (Then NoTrees (OfSpecifier (Keyword 1 word.Int))) (Then NoTrees (OfDeclaration (InitDeclarator 1 (Array 1 (Array 1 (DeclaredName 1 0) (Present (OfExpression (Number 1 2 true false 0)))) (Present (OfExpression (Number 1 2 true false 0)))) (Present (OfInitializer (Braces 1 (Then NoTrees (OfInitializer (Braces 1 (Then (Then (Then NoTrees (OfInitializer (Initial 1 (Number 1 1 true false 0)))) (OfInitializer (Initial 1 (Number 1 2 true false 0)))) (OfInitializer (Initial 1 (Number 1 3 true false 0)))) false))) false))))))) ∷ (Function 1 (Then NoTrees (OfSpecifier (Keyword 1 word.Int))) (FunctionDeclarator 1 (DeclaredName 1 1) (Then NoTrees (OfDeclaration (Parameter 1 (Then NoTrees (OfSpecifier (Keyword 1 word.Void))) Absent))) false) (Block 1 (Then NoTrees (OfStatement (Return 1 (Present (OfExpression (Number 1 0 false false 0)))))))) ∷ []) ≡ Refused 0)
    -- int main(void){int a[] = {1, 2}, i; i = sizeof a; return i;}
    × (judged ((109 ∷ 97 ∷ 105 ∷ 110 ∷ []) ∷ (97 ∷ []) ∷ (105 ∷ []) ∷ []) ([]) ((Function 1 (Then NoTrees (OfSpecifier (Keyword 1 word.Int))) (FunctionDeclarator 1 (DeclaredName 1 0) (Then NoTrees (OfDeclaration (Parameter 1 (Then NoTrees (OfSpecifier (Keyword 1 word.Void))) Absent))) false) (Block 1 (Then (Then (Then NoTrees (OfDeclaration (Declaration 1 (Then NoTrees (OfSpecifier (Keyword 1 word.Int))) (Then (Then NoTrees (OfDeclaration (InitDeclarator 1 (Array 1 (DeclaredName 1 1) Absent) (Present (OfInitializer (Braces 1 (Then (Then NoTrees (OfInitializer (Initial 1 (Number 1 1 true false 0)))) (OfInitializer (Initial 1 (Number 1 2 true false 0)))) false)))))) (OfDeclaration (InitDeclarator 1 (DeclaredName 1 2) Absent)))))) (OfStatement (ExpressionStatement 1 (Present (OfExpression (Assign 1 assign.Assign (Name 1 2) (SizeofExpr 1 (Name 1 1)))))))) (OfStatement (Return 1 (Present (OfExpression (Name 1 2)))))))) ∷ []) ≡ Accepted ((1 ∷ 2 ∷ 0 ∷ 4 ∷ 1 ∷ 0 ∷ 4 ∷ 4 ∷ 1 ∷ 0 ∷ []) ∷ (0 ∷ 0 ∷ []) ∷ []) ([]) ([]) ((1 ∷ 1 ∷ 2 ∷ 2 ∷ 1 ∷ 2 ∷ 1 ∷ 3 ∷ 1 ∷ 1 ∷ 16 ∷ 1 ∷ 1 ∷ 99 ∷ []) ∷ []))
    -- int main(void){int i = 2; int a[2] = {i, i + 1}; return a[0];}
    × (judged ((109 ∷ 97 ∷ 105 ∷ 110 ∷ []) ∷ (105 ∷ []) ∷ (97 ∷ []) ∷ []) ([]) ((Function 1 (Then NoTrees (OfSpecifier (Keyword 1 word.Int))) (FunctionDeclarator 1 (DeclaredName 1 0) (Then NoTrees (OfDeclaration (Parameter 1 (Then NoTrees (OfSpecifier (Keyword 1 word.Void))) Absent))) false) (Block 1 (Then (Then (Then NoTrees (OfDeclaration (Declaration 1 (Then NoTrees (OfSpecifier (Keyword 1 word.Int))) (Then NoTrees (OfDeclaration (InitDeclarator 1 (DeclaredName 1 1) (Present (OfInitializer (Initial 1 (Number 1 2 true false 0)))))))))) (OfDeclaration (Declaration 1 (Then NoTrees (OfSpecifier (Keyword 1 word.Int))) (Then NoTrees (OfDeclaration (InitDeclarator 1 (Array 1 (DeclaredName 1 2) (Present (OfExpression (Number 1 2 true false 0)))) (Present (OfInitializer (Braces 1 (Then (Then NoTrees (OfInitializer (Initial 1 (Name 1 1)))) (OfInitializer (Initial 1 (Binary 1 op.Add (Name 1 1) (Number 1 1 true false 0))))) false))))))))) (OfStatement (Return 1 (Present (OfExpression (Index 1 (Name 1 2) (Number 1 0 false false 0))))))))) ∷ []) ≡ Accepted ((0 ∷ 1 ∷ 0 ∷ 4 ∷ 1 ∷ 0 ∷ []) ∷ (1 ∷ 2 ∷ 0 ∷ 4 ∷ 1 ∷ 0 ∷ 4 ∷ 4 ∷ 1 ∷ 0 ∷ []) ∷ []) ([]) ([]) ((1 ∷ 1 ∷ 2 ∷ 2 ∷ 1 ∷ 2 ∷ 1 ∷ 16 ∷ 1 ∷ 1 ∷ 99 ∷ []) ∷ []))
unfolding type_of_words library_named are_compatible layouts_of initialized_object values
arrays_in_braces = (refl, refl, refl, refl, refl, refl, refl, refl, refl, refl, refl, refl)

-- 6.7.9p20, p21: the list `{0}`
zero_lists :
    -- int a[4] = {0}; int main(void){return 0;}
    (judged ((97 ∷ []) ∷ (109 ∷ 97 ∷ 105 ∷ 110 ∷ []) ∷ []) ([]) ((Declaration 1 (Then NoTrees (OfSpecifier (Keyword 1 word.Int))) (Then NoTrees (OfDeclaration (InitDeclarator 1 (Array 1 (DeclaredName 1 0) (Present (OfExpression (Number 1 4 true false 0)))) (Present (OfInitializer (Braces 1 (Then NoTrees (OfInitializer (Initial 1 (Number 1 0 false false 0)))) false))))))) ∷ (Function 1 (Then NoTrees (OfSpecifier (Keyword 1 word.Int))) (FunctionDeclarator 1 (DeclaredName 1 1) (Then NoTrees (OfDeclaration (Parameter 1 (Then NoTrees (OfSpecifier (Keyword 1 word.Void))) Absent))) false) (Block 1 (Then NoTrees (OfStatement (Return 1 (Present (OfExpression (Number 1 0 false false 0)))))))) ∷ []) ≡ Accepted ((1 ∷ 1 ∷ 0 ∷ 4 ∷ 1 ∷ 0 ∷ []) ∷ []) (0 ∷ []) ([]) ((1 ∷ 1 ∷ 0 ∷ 16 ∷ 1 ∷ 1 ∷ 99 ∷ []) ∷ []))
    -- int a[2][3] = {0}; int main(void){return 0;}
    × (judged ((97 ∷ []) ∷ (109 ∷ 97 ∷ 105 ∷ 110 ∷ []) ∷ []) ([]) ((Declaration 1 (Then NoTrees (OfSpecifier (Keyword 1 word.Int))) (Then NoTrees (OfDeclaration (InitDeclarator 1 (Array 1 (Array 1 (DeclaredName 1 0) (Present (OfExpression (Number 1 2 true false 0)))) (Present (OfExpression (Number 1 3 true false 0)))) (Present (OfInitializer (Braces 1 (Then NoTrees (OfInitializer (Initial 1 (Number 1 0 false false 0)))) false))))))) ∷ (Function 1 (Then NoTrees (OfSpecifier (Keyword 1 word.Int))) (FunctionDeclarator 1 (DeclaredName 1 1) (Then NoTrees (OfDeclaration (Parameter 1 (Then NoTrees (OfSpecifier (Keyword 1 word.Void))) Absent))) false) (Block 1 (Then NoTrees (OfStatement (Return 1 (Present (OfExpression (Number 1 0 false false 0)))))))) ∷ []) ≡ Accepted ((1 ∷ 1 ∷ 0 ∷ 4 ∷ 1 ∷ 0 ∷ []) ∷ []) (0 ∷ []) ([]) ((1 ∷ 1 ∷ 0 ∷ 16 ∷ 1 ∷ 1 ∷ 99 ∷ []) ∷ []))
    -- int a[][3] = {0}; int main(void){return sizeof a;}
    × (judged ((97 ∷ []) ∷ (109 ∷ 97 ∷ 105 ∷ 110 ∷ []) ∷ []) ([]) ((Declaration 1 (Then NoTrees (OfSpecifier (Keyword 1 word.Int))) (Then NoTrees (OfDeclaration (InitDeclarator 1 (Array 1 (Array 1 (DeclaredName 1 0) Absent) (Present (OfExpression (Number 1 3 true false 0)))) (Present (OfInitializer (Braces 1 (Then NoTrees (OfInitializer (Initial 1 (Number 1 0 false false 0)))) false))))))) ∷ (Function 1 (Then NoTrees (OfSpecifier (Keyword 1 word.Int))) (FunctionDeclarator 1 (DeclaredName 1 1) (Then NoTrees (OfDeclaration (Parameter 1 (Then NoTrees (OfSpecifier (Keyword 1 word.Void))) Absent))) false) (Block 1 (Then NoTrees (OfStatement (Return 1 (Present (OfExpression (SizeofExpr 1 (Name 1 0))))))))) ∷ []) ≡ Accepted ((1 ∷ 1 ∷ 0 ∷ 4 ∷ 1 ∷ 0 ∷ []) ∷ []) (0 ∷ []) ([]) ((1 ∷ 1 ∷ 0 ∷ 16 ∷ 1 ∷ 1 ∷ 99 ∷ []) ∷ []))
    -- int a[2][3] = {00}; int main(void){return 0;}
    × (judged ((97 ∷ []) ∷ (109 ∷ 97 ∷ 105 ∷ 110 ∷ []) ∷ []) ([]) ((Declaration 1 (Then NoTrees (OfSpecifier (Keyword 1 word.Int))) (Then NoTrees (OfDeclaration (InitDeclarator 1 (Array 1 (Array 1 (DeclaredName 1 0) (Present (OfExpression (Number 1 2 true false 0)))) (Present (OfExpression (Number 1 3 true false 0)))) (Present (OfInitializer (Braces 1 (Then NoTrees (OfInitializer (Initial 1 (Number 1 0 false false 0)))) false))))))) ∷ (Function 1 (Then NoTrees (OfSpecifier (Keyword 1 word.Int))) (FunctionDeclarator 1 (DeclaredName 1 1) (Then NoTrees (OfDeclaration (Parameter 1 (Then NoTrees (OfSpecifier (Keyword 1 word.Void))) Absent))) false) (Block 1 (Then NoTrees (OfStatement (Return 1 (Present (OfExpression (Number 1 0 false false 0)))))))) ∷ []) ≡ Accepted ((1 ∷ 1 ∷ 0 ∷ 4 ∷ 1 ∷ 0 ∷ []) ∷ []) (0 ∷ []) ([]) ((1 ∷ 1 ∷ 0 ∷ 16 ∷ 1 ∷ 1 ∷ 99 ∷ []) ∷ []))
    -- int a[2][3] = {0x0}; int main(void){return 0;}
    × (judged ((97 ∷ []) ∷ (109 ∷ 97 ∷ 105 ∷ 110 ∷ []) ∷ []) ([]) ((Declaration 1 (Then NoTrees (OfSpecifier (Keyword 1 word.Int))) (Then NoTrees (OfDeclaration (InitDeclarator 1 (Array 1 (Array 1 (DeclaredName 1 0) (Present (OfExpression (Number 1 2 true false 0)))) (Present (OfExpression (Number 1 3 true false 0)))) (Present (OfInitializer (Braces 1 (Then NoTrees (OfInitializer (Initial 1 (Number 1 0 false false 0)))) false))))))) ∷ (Function 1 (Then NoTrees (OfSpecifier (Keyword 1 word.Int))) (FunctionDeclarator 1 (DeclaredName 1 1) (Then NoTrees (OfDeclaration (Parameter 1 (Then NoTrees (OfSpecifier (Keyword 1 word.Void))) Absent))) false) (Block 1 (Then NoTrees (OfStatement (Return 1 (Present (OfExpression (Number 1 0 false false 0)))))))) ∷ []) ≡ Accepted ((1 ∷ 1 ∷ 0 ∷ 4 ∷ 1 ∷ 0 ∷ []) ∷ []) (0 ∷ []) ([]) ((1 ∷ 1 ∷ 0 ∷ 16 ∷ 1 ∷ 1 ∷ 99 ∷ []) ∷ []))
    -- int a[2][3] = {0u}; int main(void){return 0;}
    × (judged ((97 ∷ []) ∷ (109 ∷ 97 ∷ 105 ∷ 110 ∷ []) ∷ []) ([]) ((Declaration 1 (Then NoTrees (OfSpecifier (Keyword 1 word.Int))) (Then NoTrees (OfDeclaration (InitDeclarator 1 (Array 1 (Array 1 (DeclaredName 1 0) (Present (OfExpression (Number 1 2 true false 0)))) (Present (OfExpression (Number 1 3 true false 0)))) (Present (OfInitializer (Braces 1 (Then NoTrees (OfInitializer (Initial 1 (Number 1 0 false true 0)))) false))))))) ∷ (Function 1 (Then NoTrees (OfSpecifier (Keyword 1 word.Int))) (FunctionDeclarator 1 (DeclaredName 1 1) (Then NoTrees (OfDeclaration (Parameter 1 (Then NoTrees (OfSpecifier (Keyword 1 word.Void))) Absent))) false) (Block 1 (Then NoTrees (OfStatement (Return 1 (Present (OfExpression (Number 1 0 false false 0)))))))) ∷ []) ≡ Refused 0)
    -- int a[2][3] = {(0)}; int main(void){return 0;}
    × (judged ((97 ∷ []) ∷ (109 ∷ 97 ∷ 105 ∷ 110 ∷ []) ∷ []) ([]) ((Declaration 1 (Then NoTrees (OfSpecifier (Keyword 1 word.Int))) (Then NoTrees (OfDeclaration (InitDeclarator 1 (Array 1 (Array 1 (DeclaredName 1 0) (Present (OfExpression (Number 1 2 true false 0)))) (Present (OfExpression (Number 1 3 true false 0)))) (Present (OfInitializer (Braces 1 (Then NoTrees (OfInitializer (Initial 1 (Paren 1 (Number 1 0 false false 0))))) false))))))) ∷ (Function 1 (Then NoTrees (OfSpecifier (Keyword 1 word.Int))) (FunctionDeclarator 1 (DeclaredName 1 1) (Then NoTrees (OfDeclaration (Parameter 1 (Then NoTrees (OfSpecifier (Keyword 1 word.Void))) Absent))) false) (Block 1 (Then NoTrees (OfStatement (Return 1 (Present (OfExpression (Number 1 0 false false 0)))))))) ∷ []) ≡ Refused 0)
    -- int a[2][3] = {'\0'}; int main(void){return 0;}
    × (judged ((97 ∷ []) ∷ (109 ∷ 97 ∷ 105 ∷ 110 ∷ []) ∷ []) ([]) ((Declaration 1 (Then NoTrees (OfSpecifier (Keyword 1 word.Int))) (Then NoTrees (OfDeclaration (InitDeclarator 1 (Array 1 (Array 1 (DeclaredName 1 0) (Present (OfExpression (Number 1 2 true false 0)))) (Present (OfExpression (Number 1 3 true false 0)))) (Present (OfInitializer (Braces 1 (Then NoTrees (OfInitializer (Initial 1 (Character 1 (pos 0))))) false))))))) ∷ (Function 1 (Then NoTrees (OfSpecifier (Keyword 1 word.Int))) (FunctionDeclarator 1 (DeclaredName 1 1) (Then NoTrees (OfDeclaration (Parameter 1 (Then NoTrees (OfSpecifier (Keyword 1 word.Void))) Absent))) false) (Block 1 (Then NoTrees (OfStatement (Return 1 (Present (OfExpression (Number 1 0 false false 0)))))))) ∷ []) ≡ Refused 0)
    -- int a[2][3] = {1}; int main(void){return 0;}
    × (judged ((97 ∷ []) ∷ (109 ∷ 97 ∷ 105 ∷ 110 ∷ []) ∷ []) ([]) ((Declaration 1 (Then NoTrees (OfSpecifier (Keyword 1 word.Int))) (Then NoTrees (OfDeclaration (InitDeclarator 1 (Array 1 (Array 1 (DeclaredName 1 0) (Present (OfExpression (Number 1 2 true false 0)))) (Present (OfExpression (Number 1 3 true false 0)))) (Present (OfInitializer (Braces 1 (Then NoTrees (OfInitializer (Initial 1 (Number 1 1 true false 0)))) false))))))) ∷ (Function 1 (Then NoTrees (OfSpecifier (Keyword 1 word.Int))) (FunctionDeclarator 1 (DeclaredName 1 1) (Then NoTrees (OfDeclaration (Parameter 1 (Then NoTrees (OfSpecifier (Keyword 1 word.Void))) Absent))) false) (Block 1 (Then NoTrees (OfStatement (Return 1 (Present (OfExpression (Number 1 0 false false 0)))))))) ∷ []) ≡ Refused 0)
    -- int a[2][3] = {0, 0}; int main(void){return 0;}
    × (judged ((97 ∷ []) ∷ (109 ∷ 97 ∷ 105 ∷ 110 ∷ []) ∷ []) ([]) ((Declaration 1 (Then NoTrees (OfSpecifier (Keyword 1 word.Int))) (Then NoTrees (OfDeclaration (InitDeclarator 1 (Array 1 (Array 1 (DeclaredName 1 0) (Present (OfExpression (Number 1 2 true false 0)))) (Present (OfExpression (Number 1 3 true false 0)))) (Present (OfInitializer (Braces 1 (Then (Then NoTrees (OfInitializer (Initial 1 (Number 1 0 false false 0)))) (OfInitializer (Initial 1 (Number 1 0 false false 0)))) false))))))) ∷ (Function 1 (Then NoTrees (OfSpecifier (Keyword 1 word.Int))) (FunctionDeclarator 1 (DeclaredName 1 1) (Then NoTrees (OfDeclaration (Parameter 1 (Then NoTrees (OfSpecifier (Keyword 1 word.Void))) Absent))) false) (Block 1 (Then NoTrees (OfStatement (Return 1 (Present (OfExpression (Number 1 0 false false 0)))))))) ∷ []) ≡ Refused 0)
    -- int a[2][3] = {{0}, {0}}; int main(void){return 0;}
    × (judged ((97 ∷ []) ∷ (109 ∷ 97 ∷ 105 ∷ 110 ∷ []) ∷ []) ([]) ((Declaration 1 (Then NoTrees (OfSpecifier (Keyword 1 word.Int))) (Then NoTrees (OfDeclaration (InitDeclarator 1 (Array 1 (Array 1 (DeclaredName 1 0) (Present (OfExpression (Number 1 2 true false 0)))) (Present (OfExpression (Number 1 3 true false 0)))) (Present (OfInitializer (Braces 1 (Then (Then NoTrees (OfInitializer (Braces 1 (Then NoTrees (OfInitializer (Initial 1 (Number 1 0 false false 0)))) false))) (OfInitializer (Braces 1 (Then NoTrees (OfInitializer (Initial 1 (Number 1 0 false false 0)))) false))) false))))))) ∷ (Function 1 (Then NoTrees (OfSpecifier (Keyword 1 word.Int))) (FunctionDeclarator 1 (DeclaredName 1 1) (Then NoTrees (OfDeclaration (Parameter 1 (Then NoTrees (OfSpecifier (Keyword 1 word.Void))) Absent))) false) (Block 1 (Then NoTrees (OfStatement (Return 1 (Present (OfExpression (Number 1 0 false false 0)))))))) ∷ []) ≡ Accepted ((1 ∷ 2 ∷ 0 ∷ 4 ∷ 1 ∷ 0 ∷ 12 ∷ 4 ∷ 1 ∷ 0 ∷ []) ∷ []) (0 ∷ []) ([]) ((1 ∷ 1 ∷ 0 ∷ 16 ∷ 1 ∷ 1 ∷ 99 ∷ []) ∷ []))
    -- struct s { int a[2]; int b; }; struct s x = {0}; int main(void){return 0;}
    × (judged ((115 ∷ []) ∷ (97 ∷ []) ∷ (98 ∷ []) ∷ (120 ∷ []) ∷ (109 ∷ 97 ∷ 105 ∷ 110 ∷ []) ∷ []) ([]) ((Declaration 1 (Then NoTrees (OfSpecifier (Composite 1 word.Struct (Some 0) (Then (Then NoTrees (OfDeclaration (MemberDeclaration 1 (Then NoTrees (OfSpecifier (Keyword 1 word.Int))) (Then NoTrees (OfDeclarator (Array 1 (DeclaredName 1 1) (Present (OfExpression (Number 1 2 true false 0))))))))) (OfDeclaration (MemberDeclaration 1 (Then NoTrees (OfSpecifier (Keyword 1 word.Int))) (Then NoTrees (OfDeclarator (DeclaredName 1 2))))))))) NoTrees) ∷ (Declaration 1 (Then NoTrees (OfSpecifier (Tag 1 word.Struct 0))) (Then NoTrees (OfDeclaration (InitDeclarator 1 (DeclaredName 1 3) (Present (OfInitializer (Braces 1 (Then NoTrees (OfInitializer (Initial 1 (Number 1 0 false false 0)))) false))))))) ∷ (Function 1 (Then NoTrees (OfSpecifier (Keyword 1 word.Int))) (FunctionDeclarator 1 (DeclaredName 1 4) (Then NoTrees (OfDeclaration (Parameter 1 (Then NoTrees (OfSpecifier (Keyword 1 word.Void))) Absent))) false) (Block 1 (Then NoTrees (OfStatement (Return 1 (Present (OfExpression (Number 1 0 false false 0)))))))) ∷ []) ≡ Accepted ((1 ∷ 1 ∷ 0 ∷ 4 ∷ 1 ∷ 0 ∷ []) ∷ []) (3 ∷ []) ([]) ((1 ∷ 1 ∷ 0 ∷ 16 ∷ 1 ∷ 1 ∷ 99 ∷ []) ∷ []))
    -- struct s { struct { char c; } a[2][2]; int b; }; struct s x[3] = {0}; int main(void){return 0;}
    × (judged ((115 ∷ []) ∷ (99 ∷ []) ∷ (97 ∷ []) ∷ (98 ∷ []) ∷ (120 ∷ []) ∷ (109 ∷ 97 ∷ 105 ∷ 110 ∷ []) ∷ []) ([]) ((Declaration 1 (Then NoTrees (OfSpecifier (Composite 1 word.Struct (Some 0) (Then (Then NoTrees (OfDeclaration (MemberDeclaration 1 (Then NoTrees (OfSpecifier (Composite 1 word.Struct None (Then NoTrees (OfDeclaration (MemberDeclaration 1 (Then NoTrees (OfSpecifier (Keyword 1 word.Char))) (Then NoTrees (OfDeclarator (DeclaredName 1 1))))))))) (Then NoTrees (OfDeclarator (Array 1 (Array 1 (DeclaredName 1 2) (Present (OfExpression (Number 1 2 true false 0)))) (Present (OfExpression (Number 1 2 true false 0))))))))) (OfDeclaration (MemberDeclaration 1 (Then NoTrees (OfSpecifier (Keyword 1 word.Int))) (Then NoTrees (OfDeclarator (DeclaredName 1 3))))))))) NoTrees) ∷ (Declaration 1 (Then NoTrees (OfSpecifier (Tag 1 word.Struct 0))) (Then NoTrees (OfDeclaration (InitDeclarator 1 (Array 1 (DeclaredName 1 4) (Present (OfExpression (Number 1 3 true false 0)))) (Present (OfInitializer (Braces 1 (Then NoTrees (OfInitializer (Initial 1 (Number 1 0 false false 0)))) false))))))) ∷ (Function 1 (Then NoTrees (OfSpecifier (Keyword 1 word.Int))) (FunctionDeclarator 1 (DeclaredName 1 5) (Then NoTrees (OfDeclaration (Parameter 1 (Then NoTrees (OfSpecifier (Keyword 1 word.Void))) Absent))) false) (Block 1 (Then NoTrees (OfStatement (Return 1 (Present (OfExpression (Number 1 0 false false 0)))))))) ∷ []) ≡ Accepted ((1 ∷ 1 ∷ 0 ∷ 1 ∷ 1 ∷ 0 ∷ []) ∷ []) (4 ∷ []) ([]) ((1 ∷ 1 ∷ 0 ∷ 16 ∷ 1 ∷ 1 ∷ 99 ∷ []) ∷ []))
    -- union u { struct { long n; int m; } s; char c; }; union u x = {0}; int main(void){return 0;}
    × (judged ((117 ∷ []) ∷ (110 ∷ []) ∷ (109 ∷ []) ∷ (115 ∷ []) ∷ (99 ∷ []) ∷ (120 ∷ []) ∷ (109 ∷ 97 ∷ 105 ∷ 110 ∷ []) ∷ []) ([]) ((Declaration 1 (Then NoTrees (OfSpecifier (Composite 1 word.Union (Some 0) (Then (Then NoTrees (OfDeclaration (MemberDeclaration 1 (Then NoTrees (OfSpecifier (Composite 1 word.Struct None (Then (Then NoTrees (OfDeclaration (MemberDeclaration 1 (Then NoTrees (OfSpecifier (Keyword 1 word.Long))) (Then NoTrees (OfDeclarator (DeclaredName 1 1)))))) (OfDeclaration (MemberDeclaration 1 (Then NoTrees (OfSpecifier (Keyword 1 word.Int))) (Then NoTrees (OfDeclarator (DeclaredName 1 2))))))))) (Then NoTrees (OfDeclarator (DeclaredName 1 3)))))) (OfDeclaration (MemberDeclaration 1 (Then NoTrees (OfSpecifier (Keyword 1 word.Char))) (Then NoTrees (OfDeclarator (DeclaredName 1 4))))))))) NoTrees) ∷ (Declaration 1 (Then NoTrees (OfSpecifier (Tag 1 word.Union 0))) (Then NoTrees (OfDeclaration (InitDeclarator 1 (DeclaredName 1 5) (Present (OfInitializer (Braces 1 (Then NoTrees (OfInitializer (Initial 1 (Number 1 0 false false 0)))) false))))))) ∷ (Function 1 (Then NoTrees (OfSpecifier (Keyword 1 word.Int))) (FunctionDeclarator 1 (DeclaredName 1 6) (Then NoTrees (OfDeclaration (Parameter 1 (Then NoTrees (OfSpecifier (Keyword 1 word.Void))) Absent))) false) (Block 1 (Then NoTrees (OfStatement (Return 1 (Present (OfExpression (Number 1 0 false false 0)))))))) ∷ []) ≡ Accepted ((1 ∷ 1 ∷ 0 ∷ 8 ∷ 1 ∷ 0 ∷ []) ∷ []) (5 ∷ []) ([]) ((1 ∷ 1 ∷ 0 ∷ 16 ∷ 1 ∷ 1 ∷ 99 ∷ []) ∷ []))
    -- struct s { int *p; }; struct s x[2] = {0}; int main(void){return 0;}
    × (judged ((115 ∷ []) ∷ (112 ∷ []) ∷ (120 ∷ []) ∷ (109 ∷ 97 ∷ 105 ∷ 110 ∷ []) ∷ []) ([]) ((Declaration 1 (Then NoTrees (OfSpecifier (Composite 1 word.Struct (Some 0) (Then NoTrees (OfDeclaration (MemberDeclaration 1 (Then NoTrees (OfSpecifier (Keyword 1 word.Int))) (Then NoTrees (OfDeclarator (Pointer 1 0 (DeclaredName 1 1)))))))))) NoTrees) ∷ (Declaration 1 (Then NoTrees (OfSpecifier (Tag 1 word.Struct 0))) (Then NoTrees (OfDeclaration (InitDeclarator 1 (Array 1 (DeclaredName 1 2) (Present (OfExpression (Number 1 2 true false 0)))) (Present (OfInitializer (Braces 1 (Then NoTrees (OfInitializer (Initial 1 (Number 1 0 false false 0)))) false))))))) ∷ (Function 1 (Then NoTrees (OfSpecifier (Keyword 1 word.Int))) (FunctionDeclarator 1 (DeclaredName 1 3) (Then NoTrees (OfDeclaration (Parameter 1 (Then NoTrees (OfSpecifier (Keyword 1 word.Void))) Absent))) false) (Block 1 (Then NoTrees (OfStatement (Return 1 (Present (OfExpression (Number 1 0 false false 0)))))))) ∷ []) ≡ Accepted ((1 ∷ 1 ∷ 0 ∷ 8 ∷ 1 ∷ 0 ∷ []) ∷ []) (2 ∷ []) ([]) ((1 ∷ 1 ∷ 0 ∷ 16 ∷ 1 ∷ 1 ∷ 99 ∷ []) ∷ []))
    -- struct s { int b; int a[2]; }; struct s x = {0}; int main(void){return 0;}
    × (judged ((115 ∷ []) ∷ (98 ∷ []) ∷ (97 ∷ []) ∷ (120 ∷ []) ∷ (109 ∷ 97 ∷ 105 ∷ 110 ∷ []) ∷ []) ([]) ((Declaration 1 (Then NoTrees (OfSpecifier (Composite 1 word.Struct (Some 0) (Then (Then NoTrees (OfDeclaration (MemberDeclaration 1 (Then NoTrees (OfSpecifier (Keyword 1 word.Int))) (Then NoTrees (OfDeclarator (DeclaredName 1 1)))))) (OfDeclaration (MemberDeclaration 1 (Then NoTrees (OfSpecifier (Keyword 1 word.Int))) (Then NoTrees (OfDeclarator (Array 1 (DeclaredName 1 2) (Present (OfExpression (Number 1 2 true false 0)))))))))))) NoTrees) ∷ (Declaration 1 (Then NoTrees (OfSpecifier (Tag 1 word.Struct 0))) (Then NoTrees (OfDeclaration (InitDeclarator 1 (DeclaredName 1 3) (Present (OfInitializer (Braces 1 (Then NoTrees (OfInitializer (Initial 1 (Number 1 0 false false 0)))) false))))))) ∷ (Function 1 (Then NoTrees (OfSpecifier (Keyword 1 word.Int))) (FunctionDeclarator 1 (DeclaredName 1 4) (Then NoTrees (OfDeclaration (Parameter 1 (Then NoTrees (OfSpecifier (Keyword 1 word.Void))) Absent))) false) (Block 1 (Then NoTrees (OfStatement (Return 1 (Present (OfExpression (Number 1 0 false false 0)))))))) ∷ []) ≡ Accepted ((1 ∷ 1 ∷ 0 ∷ 4 ∷ 1 ∷ 0 ∷ []) ∷ []) (3 ∷ []) ([]) ((1 ∷ 1 ∷ 0 ∷ 16 ∷ 1 ∷ 1 ∷ 99 ∷ []) ∷ []))
    -- int main(void){int a[2][2] = {{0}, 0}; return 0;}
    × (judged ((109 ∷ 97 ∷ 105 ∷ 110 ∷ []) ∷ (97 ∷ []) ∷ []) ([]) ((Function 1 (Then NoTrees (OfSpecifier (Keyword 1 word.Int))) (FunctionDeclarator 1 (DeclaredName 1 0) (Then NoTrees (OfDeclaration (Parameter 1 (Then NoTrees (OfSpecifier (Keyword 1 word.Void))) Absent))) false) (Block 1 (Then (Then NoTrees (OfDeclaration (Declaration 1 (Then NoTrees (OfSpecifier (Keyword 1 word.Int))) (Then NoTrees (OfDeclaration (InitDeclarator 1 (Array 1 (Array 1 (DeclaredName 1 1) (Present (OfExpression (Number 1 2 true false 0)))) (Present (OfExpression (Number 1 2 true false 0)))) (Present (OfInitializer (Braces 1 (Then (Then NoTrees (OfInitializer (Braces 1 (Then NoTrees (OfInitializer (Initial 1 (Number 1 0 false false 0)))) false))) (OfInitializer (Initial 1 (Number 1 0 false false 0)))) false))))))))) (OfStatement (Return 1 (Present (OfExpression (Number 1 0 false false 0)))))))) ∷ []) ≡ Refused 0)
unfolding type_of_words library_named are_compatible layouts_of initialized_object values
zero_lists = (refl, refl, refl, refl, refl, refl, refl, refl, refl, refl, refl, refl, refl, refl, refl, refl, refl)

-- 6.7.9p13, p17: structures and unions
structures :
    -- struct s { char c; long n; short h; }; struct s x = {1, 2, 3}; int main(void){return 0;}
    (judged ((115 ∷ []) ∷ (99 ∷ []) ∷ (110 ∷ []) ∷ (104 ∷ []) ∷ (120 ∷ []) ∷ (109 ∷ 97 ∷ 105 ∷ 110 ∷ []) ∷ []) ([]) ((Declaration 1 (Then NoTrees (OfSpecifier (Composite 1 word.Struct (Some 0) (Then (Then (Then NoTrees (OfDeclaration (MemberDeclaration 1 (Then NoTrees (OfSpecifier (Keyword 1 word.Char))) (Then NoTrees (OfDeclarator (DeclaredName 1 1)))))) (OfDeclaration (MemberDeclaration 1 (Then NoTrees (OfSpecifier (Keyword 1 word.Long))) (Then NoTrees (OfDeclarator (DeclaredName 1 2)))))) (OfDeclaration (MemberDeclaration 1 (Then NoTrees (OfSpecifier (Keyword 1 word.Short))) (Then NoTrees (OfDeclarator (DeclaredName 1 3))))))))) NoTrees) ∷ (Declaration 1 (Then NoTrees (OfSpecifier (Tag 1 word.Struct 0))) (Then NoTrees (OfDeclaration (InitDeclarator 1 (DeclaredName 1 4) (Present (OfInitializer (Braces 1 (Then (Then (Then NoTrees (OfInitializer (Initial 1 (Number 1 1 true false 0)))) (OfInitializer (Initial 1 (Number 1 2 true false 0)))) (OfInitializer (Initial 1 (Number 1 3 true false 0)))) false))))))) ∷ (Function 1 (Then NoTrees (OfSpecifier (Keyword 1 word.Int))) (FunctionDeclarator 1 (DeclaredName 1 5) (Then NoTrees (OfDeclaration (Parameter 1 (Then NoTrees (OfSpecifier (Keyword 1 word.Void))) Absent))) false) (Block 1 (Then NoTrees (OfStatement (Return 1 (Present (OfExpression (Number 1 0 false false 0)))))))) ∷ []) ≡ Accepted ((1 ∷ 3 ∷ 0 ∷ 1 ∷ 1 ∷ 0 ∷ 8 ∷ 8 ∷ 1 ∷ 0 ∷ 16 ∷ 2 ∷ 1 ∷ 0 ∷ []) ∷ []) (4 ∷ []) ([]) ((1 ∷ 1 ∷ 0 ∷ 16 ∷ 1 ∷ 1 ∷ 99 ∷ []) ∷ []))
    -- struct s { char c; long n; short h; }; struct s x = {1, 2, 3, 4}; int main(void){return 0;}
    × (judged ((115 ∷ []) ∷ (99 ∷ []) ∷ (110 ∷ []) ∷ (104 ∷ []) ∷ (120 ∷ []) ∷ (109 ∷ 97 ∷ 105 ∷ 110 ∷ []) ∷ []) ([]) ((Declaration 1 (Then NoTrees (OfSpecifier (Composite 1 word.Struct (Some 0) (Then (Then (Then NoTrees (OfDeclaration (MemberDeclaration 1 (Then NoTrees (OfSpecifier (Keyword 1 word.Char))) (Then NoTrees (OfDeclarator (DeclaredName 1 1)))))) (OfDeclaration (MemberDeclaration 1 (Then NoTrees (OfSpecifier (Keyword 1 word.Long))) (Then NoTrees (OfDeclarator (DeclaredName 1 2)))))) (OfDeclaration (MemberDeclaration 1 (Then NoTrees (OfSpecifier (Keyword 1 word.Short))) (Then NoTrees (OfDeclarator (DeclaredName 1 3))))))))) NoTrees) ∷ (Declaration 1 (Then NoTrees (OfSpecifier (Tag 1 word.Struct 0))) (Then NoTrees (OfDeclaration (InitDeclarator 1 (DeclaredName 1 4) (Present (OfInitializer (Braces 1 (Then (Then (Then (Then NoTrees (OfInitializer (Initial 1 (Number 1 1 true false 0)))) (OfInitializer (Initial 1 (Number 1 2 true false 0)))) (OfInitializer (Initial 1 (Number 1 3 true false 0)))) (OfInitializer (Initial 1 (Number 1 4 true false 0)))) false))))))) ∷ (Function 1 (Then NoTrees (OfSpecifier (Keyword 1 word.Int))) (FunctionDeclarator 1 (DeclaredName 1 5) (Then NoTrees (OfDeclaration (Parameter 1 (Then NoTrees (OfSpecifier (Keyword 1 word.Void))) Absent))) false) (Block 1 (Then NoTrees (OfStatement (Return 1 (Present (OfExpression (Number 1 0 false false 0)))))))) ∷ []) ≡ Refused 1)
    -- struct s { char c; long n; short h; }; struct s x = {1}; int main(void){return 0;}
    × (judged ((115 ∷ []) ∷ (99 ∷ []) ∷ (110 ∷ []) ∷ (104 ∷ []) ∷ (120 ∷ []) ∷ (109 ∷ 97 ∷ 105 ∷ 110 ∷ []) ∷ []) ([]) ((Declaration 1 (Then NoTrees (OfSpecifier (Composite 1 word.Struct (Some 0) (Then (Then (Then NoTrees (OfDeclaration (MemberDeclaration 1 (Then NoTrees (OfSpecifier (Keyword 1 word.Char))) (Then NoTrees (OfDeclarator (DeclaredName 1 1)))))) (OfDeclaration (MemberDeclaration 1 (Then NoTrees (OfSpecifier (Keyword 1 word.Long))) (Then NoTrees (OfDeclarator (DeclaredName 1 2)))))) (OfDeclaration (MemberDeclaration 1 (Then NoTrees (OfSpecifier (Keyword 1 word.Short))) (Then NoTrees (OfDeclarator (DeclaredName 1 3))))))))) NoTrees) ∷ (Declaration 1 (Then NoTrees (OfSpecifier (Tag 1 word.Struct 0))) (Then NoTrees (OfDeclaration (InitDeclarator 1 (DeclaredName 1 4) (Present (OfInitializer (Braces 1 (Then NoTrees (OfInitializer (Initial 1 (Number 1 1 true false 0)))) false))))))) ∷ (Function 1 (Then NoTrees (OfSpecifier (Keyword 1 word.Int))) (FunctionDeclarator 1 (DeclaredName 1 5) (Then NoTrees (OfDeclaration (Parameter 1 (Then NoTrees (OfSpecifier (Keyword 1 word.Void))) Absent))) false) (Block 1 (Then NoTrees (OfStatement (Return 1 (Present (OfExpression (Number 1 0 false false 0)))))))) ∷ []) ≡ Accepted ((1 ∷ 1 ∷ 0 ∷ 1 ∷ 1 ∷ 0 ∷ []) ∷ []) (4 ∷ []) ([]) ((1 ∷ 1 ∷ 0 ∷ 16 ∷ 1 ∷ 1 ∷ 99 ∷ []) ∷ []))
    -- struct s { int a[2]; int b; }; struct s x = {{1, 2}, 3}; int main(void){return 0;}
    × (judged ((115 ∷ []) ∷ (97 ∷ []) ∷ (98 ∷ []) ∷ (120 ∷ []) ∷ (109 ∷ 97 ∷ 105 ∷ 110 ∷ []) ∷ []) ([]) ((Declaration 1 (Then NoTrees (OfSpecifier (Composite 1 word.Struct (Some 0) (Then (Then NoTrees (OfDeclaration (MemberDeclaration 1 (Then NoTrees (OfSpecifier (Keyword 1 word.Int))) (Then NoTrees (OfDeclarator (Array 1 (DeclaredName 1 1) (Present (OfExpression (Number 1 2 true false 0))))))))) (OfDeclaration (MemberDeclaration 1 (Then NoTrees (OfSpecifier (Keyword 1 word.Int))) (Then NoTrees (OfDeclarator (DeclaredName 1 2))))))))) NoTrees) ∷ (Declaration 1 (Then NoTrees (OfSpecifier (Tag 1 word.Struct 0))) (Then NoTrees (OfDeclaration (InitDeclarator 1 (DeclaredName 1 3) (Present (OfInitializer (Braces 1 (Then (Then NoTrees (OfInitializer (Braces 1 (Then (Then NoTrees (OfInitializer (Initial 1 (Number 1 1 true false 0)))) (OfInitializer (Initial 1 (Number 1 2 true false 0)))) false))) (OfInitializer (Initial 1 (Number 1 3 true false 0)))) false))))))) ∷ (Function 1 (Then NoTrees (OfSpecifier (Keyword 1 word.Int))) (FunctionDeclarator 1 (DeclaredName 1 4) (Then NoTrees (OfDeclaration (Parameter 1 (Then NoTrees (OfSpecifier (Keyword 1 word.Void))) Absent))) false) (Block 1 (Then NoTrees (OfStatement (Return 1 (Present (OfExpression (Number 1 0 false false 0)))))))) ∷ []) ≡ Accepted ((1 ∷ 3 ∷ 0 ∷ 4 ∷ 1 ∷ 0 ∷ 4 ∷ 4 ∷ 1 ∷ 0 ∷ 8 ∷ 4 ∷ 1 ∷ 0 ∷ []) ∷ []) (3 ∷ []) ([]) ((1 ∷ 1 ∷ 0 ∷ 16 ∷ 1 ∷ 1 ∷ 99 ∷ []) ∷ []))
    -- struct s { int a[2]; int b; }; struct s x = {1, 2, 3}; int main(void){return 0;}
    × (judged ((115 ∷ []) ∷ (97 ∷ []) ∷ (98 ∷ []) ∷ (120 ∷ []) ∷ (109 ∷ 97 ∷ 105 ∷ 110 ∷ []) ∷ []) ([]) ((Declaration 1 (Then NoTrees (OfSpecifier (Composite 1 word.Struct (Some 0) (Then (Then NoTrees (OfDeclaration (MemberDeclaration 1 (Then NoTrees (OfSpecifier (Keyword 1 word.Int))) (Then NoTrees (OfDeclarator (Array 1 (DeclaredName 1 1) (Present (OfExpression (Number 1 2 true false 0))))))))) (OfDeclaration (MemberDeclaration 1 (Then NoTrees (OfSpecifier (Keyword 1 word.Int))) (Then NoTrees (OfDeclarator (DeclaredName 1 2))))))))) NoTrees) ∷ (Declaration 1 (Then NoTrees (OfSpecifier (Tag 1 word.Struct 0))) (Then NoTrees (OfDeclaration (InitDeclarator 1 (DeclaredName 1 3) (Present (OfInitializer (Braces 1 (Then (Then (Then NoTrees (OfInitializer (Initial 1 (Number 1 1 true false 0)))) (OfInitializer (Initial 1 (Number 1 2 true false 0)))) (OfInitializer (Initial 1 (Number 1 3 true false 0)))) false))))))) ∷ (Function 1 (Then NoTrees (OfSpecifier (Keyword 1 word.Int))) (FunctionDeclarator 1 (DeclaredName 1 4) (Then NoTrees (OfDeclaration (Parameter 1 (Then NoTrees (OfSpecifier (Keyword 1 word.Void))) Absent))) false) (Block 1 (Then NoTrees (OfStatement (Return 1 (Present (OfExpression (Number 1 0 false false 0)))))))) ∷ []) ≡ Refused 1)
    -- struct s { int a; }; struct s x[] = {{1}, {2}}; int main(void){return 0;}
    × (judged ((115 ∷ []) ∷ (97 ∷ []) ∷ (120 ∷ []) ∷ (109 ∷ 97 ∷ 105 ∷ 110 ∷ []) ∷ []) ([]) ((Declaration 1 (Then NoTrees (OfSpecifier (Composite 1 word.Struct (Some 0) (Then NoTrees (OfDeclaration (MemberDeclaration 1 (Then NoTrees (OfSpecifier (Keyword 1 word.Int))) (Then NoTrees (OfDeclarator (DeclaredName 1 1))))))))) NoTrees) ∷ (Declaration 1 (Then NoTrees (OfSpecifier (Tag 1 word.Struct 0))) (Then NoTrees (OfDeclaration (InitDeclarator 1 (Array 1 (DeclaredName 1 2) Absent) (Present (OfInitializer (Braces 1 (Then (Then NoTrees (OfInitializer (Braces 1 (Then NoTrees (OfInitializer (Initial 1 (Number 1 1 true false 0)))) false))) (OfInitializer (Braces 1 (Then NoTrees (OfInitializer (Initial 1 (Number 1 2 true false 0)))) false))) false))))))) ∷ (Function 1 (Then NoTrees (OfSpecifier (Keyword 1 word.Int))) (FunctionDeclarator 1 (DeclaredName 1 3) (Then NoTrees (OfDeclaration (Parameter 1 (Then NoTrees (OfSpecifier (Keyword 1 word.Void))) Absent))) false) (Block 1 (Then NoTrees (OfStatement (Return 1 (Present (OfExpression (Number 1 0 false false 0)))))))) ∷ []) ≡ Accepted ((1 ∷ 2 ∷ 0 ∷ 4 ∷ 1 ∷ 0 ∷ 4 ∷ 4 ∷ 1 ∷ 0 ∷ []) ∷ []) (2 ∷ []) ([]) ((1 ∷ 1 ∷ 0 ∷ 16 ∷ 1 ∷ 1 ∷ 99 ∷ []) ∷ []))
    -- union u { int i; char c[4]; }; union u x = {258}; int main(void){return 0;}
    × (judged ((117 ∷ []) ∷ (105 ∷ []) ∷ (99 ∷ []) ∷ (120 ∷ []) ∷ (109 ∷ 97 ∷ 105 ∷ 110 ∷ []) ∷ []) ([]) ((Declaration 1 (Then NoTrees (OfSpecifier (Composite 1 word.Union (Some 0) (Then (Then NoTrees (OfDeclaration (MemberDeclaration 1 (Then NoTrees (OfSpecifier (Keyword 1 word.Int))) (Then NoTrees (OfDeclarator (DeclaredName 1 1)))))) (OfDeclaration (MemberDeclaration 1 (Then NoTrees (OfSpecifier (Keyword 1 word.Char))) (Then NoTrees (OfDeclarator (Array 1 (DeclaredName 1 2) (Present (OfExpression (Number 1 4 true false 0)))))))))))) NoTrees) ∷ (Declaration 1 (Then NoTrees (OfSpecifier (Tag 1 word.Union 0))) (Then NoTrees (OfDeclaration (InitDeclarator 1 (DeclaredName 1 3) (Present (OfInitializer (Braces 1 (Then NoTrees (OfInitializer (Initial 1 (Number 1 258 true false 0)))) false))))))) ∷ (Function 1 (Then NoTrees (OfSpecifier (Keyword 1 word.Int))) (FunctionDeclarator 1 (DeclaredName 1 4) (Then NoTrees (OfDeclaration (Parameter 1 (Then NoTrees (OfSpecifier (Keyword 1 word.Void))) Absent))) false) (Block 1 (Then NoTrees (OfStatement (Return 1 (Present (OfExpression (Number 1 0 false false 0)))))))) ∷ []) ≡ Accepted ((1 ∷ 1 ∷ 0 ∷ 4 ∷ 1 ∷ 0 ∷ []) ∷ []) (3 ∷ []) ([]) ((1 ∷ 1 ∷ 0 ∷ 16 ∷ 1 ∷ 1 ∷ 99 ∷ []) ∷ []))
    -- union u { int i; char c[4]; }; union u x = {1, 2}; int main(void){return 0;}
    × (judged ((117 ∷ []) ∷ (105 ∷ []) ∷ (99 ∷ []) ∷ (120 ∷ []) ∷ (109 ∷ 97 ∷ 105 ∷ 110 ∷ []) ∷ []) ([]) ((Declaration 1 (Then NoTrees (OfSpecifier (Composite 1 word.Union (Some 0) (Then (Then NoTrees (OfDeclaration (MemberDeclaration 1 (Then NoTrees (OfSpecifier (Keyword 1 word.Int))) (Then NoTrees (OfDeclarator (DeclaredName 1 1)))))) (OfDeclaration (MemberDeclaration 1 (Then NoTrees (OfSpecifier (Keyword 1 word.Char))) (Then NoTrees (OfDeclarator (Array 1 (DeclaredName 1 2) (Present (OfExpression (Number 1 4 true false 0)))))))))))) NoTrees) ∷ (Declaration 1 (Then NoTrees (OfSpecifier (Tag 1 word.Union 0))) (Then NoTrees (OfDeclaration (InitDeclarator 1 (DeclaredName 1 3) (Present (OfInitializer (Braces 1 (Then (Then NoTrees (OfInitializer (Initial 1 (Number 1 1 true false 0)))) (OfInitializer (Initial 1 (Number 1 2 true false 0)))) false))))))) ∷ (Function 1 (Then NoTrees (OfSpecifier (Keyword 1 word.Int))) (FunctionDeclarator 1 (DeclaredName 1 4) (Then NoTrees (OfDeclaration (Parameter 1 (Then NoTrees (OfSpecifier (Keyword 1 word.Void))) Absent))) false) (Block 1 (Then NoTrees (OfStatement (Return 1 (Present (OfExpression (Number 1 0 false false 0)))))))) ∷ []) ≡ Refused 1)
    -- union u { char c[4]; int i; }; union u x = {{1, 2, 3, 4}}; int main(void){return 0;}
    × (judged ((117 ∷ []) ∷ (99 ∷ []) ∷ (105 ∷ []) ∷ (120 ∷ []) ∷ (109 ∷ 97 ∷ 105 ∷ 110 ∷ []) ∷ []) ([]) ((Declaration 1 (Then NoTrees (OfSpecifier (Composite 1 word.Union (Some 0) (Then (Then NoTrees (OfDeclaration (MemberDeclaration 1 (Then NoTrees (OfSpecifier (Keyword 1 word.Char))) (Then NoTrees (OfDeclarator (Array 1 (DeclaredName 1 1) (Present (OfExpression (Number 1 4 true false 0))))))))) (OfDeclaration (MemberDeclaration 1 (Then NoTrees (OfSpecifier (Keyword 1 word.Int))) (Then NoTrees (OfDeclarator (DeclaredName 1 2))))))))) NoTrees) ∷ (Declaration 1 (Then NoTrees (OfSpecifier (Tag 1 word.Union 0))) (Then NoTrees (OfDeclaration (InitDeclarator 1 (DeclaredName 1 3) (Present (OfInitializer (Braces 1 (Then NoTrees (OfInitializer (Braces 1 (Then (Then (Then (Then NoTrees (OfInitializer (Initial 1 (Number 1 1 true false 0)))) (OfInitializer (Initial 1 (Number 1 2 true false 0)))) (OfInitializer (Initial 1 (Number 1 3 true false 0)))) (OfInitializer (Initial 1 (Number 1 4 true false 0)))) false))) false))))))) ∷ (Function 1 (Then NoTrees (OfSpecifier (Keyword 1 word.Int))) (FunctionDeclarator 1 (DeclaredName 1 4) (Then NoTrees (OfDeclaration (Parameter 1 (Then NoTrees (OfSpecifier (Keyword 1 word.Void))) Absent))) false) (Block 1 (Then NoTrees (OfStatement (Return 1 (Present (OfExpression (Number 1 0 false false 0)))))))) ∷ []) ≡ Accepted ((1 ∷ 4 ∷ 0 ∷ 1 ∷ 1 ∷ 0 ∷ 1 ∷ 1 ∷ 1 ∷ 0 ∷ 2 ∷ 1 ∷ 1 ∷ 0 ∷ 3 ∷ 1 ∷ 1 ∷ 0 ∷ []) ∷ []) (3 ∷ []) ([]) ((1 ∷ 1 ∷ 0 ∷ 16 ∷ 1 ∷ 1 ∷ 99 ∷ []) ∷ []))
    -- struct s { int a; }; int main(void){struct s x = {1}; struct s y = x; return 0;}
    × (judged ((115 ∷ []) ∷ (97 ∷ []) ∷ (109 ∷ 97 ∷ 105 ∷ 110 ∷ []) ∷ (120 ∷ []) ∷ (121 ∷ []) ∷ []) ([]) ((Declaration 1 (Then NoTrees (OfSpecifier (Composite 1 word.Struct (Some 0) (Then NoTrees (OfDeclaration (MemberDeclaration 1 (Then NoTrees (OfSpecifier (Keyword 1 word.Int))) (Then NoTrees (OfDeclarator (DeclaredName 1 1))))))))) NoTrees) ∷ (Function 1 (Then NoTrees (OfSpecifier (Keyword 1 word.Int))) (FunctionDeclarator 1 (DeclaredName 1 2) (Then NoTrees (OfDeclaration (Parameter 1 (Then NoTrees (OfSpecifier (Keyword 1 word.Void))) Absent))) false) (Block 1 (Then (Then (Then NoTrees (OfDeclaration (Declaration 1 (Then NoTrees (OfSpecifier (Tag 1 word.Struct 0))) (Then NoTrees (OfDeclaration (InitDeclarator 1 (DeclaredName 1 3) (Present (OfInitializer (Braces 1 (Then NoTrees (OfInitializer (Initial 1 (Number 1 1 true false 0)))) false))))))))) (OfDeclaration (Declaration 1 (Then NoTrees (OfSpecifier (Tag 1 word.Struct 0))) (Then NoTrees (OfDeclaration (InitDeclarator 1 (DeclaredName 1 4) (Present (OfInitializer (Initial 1 (Name 1 3)))))))))) (OfStatement (Return 1 (Present (OfExpression (Number 1 0 false false 0)))))))) ∷ []) ≡ Accepted ((1 ∷ 1 ∷ 0 ∷ 4 ∷ 1 ∷ 0 ∷ []) ∷ (0 ∷ 1 ∷ 0 ∷ 4 ∷ 1 ∷ 0 ∷ []) ∷ []) ([]) ([]) ((1 ∷ 1 ∷ 2 ∷ 2 ∷ 1 ∷ 2 ∷ 1 ∷ 16 ∷ 1 ∷ 1 ∷ 99 ∷ []) ∷ []))
    -- struct s { int a; }; struct s x = {1}; struct s y = x; int main(void){return 0;}
    × (judged ((115 ∷ []) ∷ (97 ∷ []) ∷ (120 ∷ []) ∷ (121 ∷ []) ∷ (109 ∷ 97 ∷ 105 ∷ 110 ∷ []) ∷ []) ([]) ((Declaration 1 (Then NoTrees (OfSpecifier (Composite 1 word.Struct (Some 0) (Then NoTrees (OfDeclaration (MemberDeclaration 1 (Then NoTrees (OfSpecifier (Keyword 1 word.Int))) (Then NoTrees (OfDeclarator (DeclaredName 1 1))))))))) NoTrees) ∷ (Declaration 1 (Then NoTrees (OfSpecifier (Tag 1 word.Struct 0))) (Then NoTrees (OfDeclaration (InitDeclarator 1 (DeclaredName 1 2) (Present (OfInitializer (Braces 1 (Then NoTrees (OfInitializer (Initial 1 (Number 1 1 true false 0)))) false))))))) ∷ (Declaration 1 (Then NoTrees (OfSpecifier (Tag 1 word.Struct 0))) (Then NoTrees (OfDeclaration (InitDeclarator 1 (DeclaredName 1 3) (Present (OfInitializer (Initial 1 (Name 1 2)))))))) ∷ (Function 1 (Then NoTrees (OfSpecifier (Keyword 1 word.Int))) (FunctionDeclarator 1 (DeclaredName 1 4) (Then NoTrees (OfDeclaration (Parameter 1 (Then NoTrees (OfSpecifier (Keyword 1 word.Void))) Absent))) false) (Block 1 (Then NoTrees (OfStatement (Return 1 (Present (OfExpression (Number 1 0 false false 0)))))))) ∷ []) ≡ Refused 2)
    -- struct s { int a; }; struct t { struct s s; int b; }; int main(void){struct s x = {1}; struct t y = {x, 2}; return 0;}
    × (judged ((115 ∷ []) ∷ (97 ∷ []) ∷ (116 ∷ []) ∷ (98 ∷ []) ∷ (109 ∷ 97 ∷ 105 ∷ 110 ∷ []) ∷ (120 ∷ []) ∷ (121 ∷ []) ∷ []) ([]) ((Declaration 1 (Then NoTrees (OfSpecifier (Composite 1 word.Struct (Some 0) (Then NoTrees (OfDeclaration (MemberDeclaration 1 (Then NoTrees (OfSpecifier (Keyword 1 word.Int))) (Then NoTrees (OfDeclarator (DeclaredName 1 1))))))))) NoTrees) ∷ (Declaration 1 (Then NoTrees (OfSpecifier (Composite 1 word.Struct (Some 2) (Then (Then NoTrees (OfDeclaration (MemberDeclaration 1 (Then NoTrees (OfSpecifier (Tag 1 word.Struct 0))) (Then NoTrees (OfDeclarator (DeclaredName 1 0)))))) (OfDeclaration (MemberDeclaration 1 (Then NoTrees (OfSpecifier (Keyword 1 word.Int))) (Then NoTrees (OfDeclarator (DeclaredName 1 3))))))))) NoTrees) ∷ (Function 1 (Then NoTrees (OfSpecifier (Keyword 1 word.Int))) (FunctionDeclarator 1 (DeclaredName 1 4) (Then NoTrees (OfDeclaration (Parameter 1 (Then NoTrees (OfSpecifier (Keyword 1 word.Void))) Absent))) false) (Block 1 (Then (Then (Then NoTrees (OfDeclaration (Declaration 1 (Then NoTrees (OfSpecifier (Tag 1 word.Struct 0))) (Then NoTrees (OfDeclaration (InitDeclarator 1 (DeclaredName 1 5) (Present (OfInitializer (Braces 1 (Then NoTrees (OfInitializer (Initial 1 (Number 1 1 true false 0)))) false))))))))) (OfDeclaration (Declaration 1 (Then NoTrees (OfSpecifier (Tag 1 word.Struct 2))) (Then NoTrees (OfDeclaration (InitDeclarator 1 (DeclaredName 1 6) (Present (OfInitializer (Braces 1 (Then (Then NoTrees (OfInitializer (Initial 1 (Name 1 5)))) (OfInitializer (Initial 1 (Number 1 2 true false 0)))) false))))))))) (OfStatement (Return 1 (Present (OfExpression (Number 1 0 false false 0)))))))) ∷ []) ≡ Accepted ((1 ∷ 1 ∷ 0 ∷ 4 ∷ 1 ∷ 0 ∷ []) ∷ (1 ∷ 2 ∷ 0 ∷ 4 ∷ 1 ∷ 0 ∷ 4 ∷ 4 ∷ 1 ∷ 0 ∷ []) ∷ []) ([]) ([]) ((1 ∷ 1 ∷ 2 ∷ 2 ∷ 1 ∷ 2 ∷ 1 ∷ 16 ∷ 1 ∷ 1 ∷ 99 ∷ []) ∷ []))
    -- struct s { int a; }; struct t { int a; }; int main(void){struct s x = {1}; struct t y = x; return 0;}
    × (judged ((115 ∷ []) ∷ (97 ∷ []) ∷ (116 ∷ []) ∷ (109 ∷ 97 ∷ 105 ∷ 110 ∷ []) ∷ (120 ∷ []) ∷ (121 ∷ []) ∷ []) ([]) ((Declaration 1 (Then NoTrees (OfSpecifier (Composite 1 word.Struct (Some 0) (Then NoTrees (OfDeclaration (MemberDeclaration 1 (Then NoTrees (OfSpecifier (Keyword 1 word.Int))) (Then NoTrees (OfDeclarator (DeclaredName 1 1))))))))) NoTrees) ∷ (Declaration 1 (Then NoTrees (OfSpecifier (Composite 1 word.Struct (Some 2) (Then NoTrees (OfDeclaration (MemberDeclaration 1 (Then NoTrees (OfSpecifier (Keyword 1 word.Int))) (Then NoTrees (OfDeclarator (DeclaredName 1 1))))))))) NoTrees) ∷ (Function 1 (Then NoTrees (OfSpecifier (Keyword 1 word.Int))) (FunctionDeclarator 1 (DeclaredName 1 3) (Then NoTrees (OfDeclaration (Parameter 1 (Then NoTrees (OfSpecifier (Keyword 1 word.Void))) Absent))) false) (Block 1 (Then (Then (Then NoTrees (OfDeclaration (Declaration 1 (Then NoTrees (OfSpecifier (Tag 1 word.Struct 0))) (Then NoTrees (OfDeclaration (InitDeclarator 1 (DeclaredName 1 4) (Present (OfInitializer (Braces 1 (Then NoTrees (OfInitializer (Initial 1 (Number 1 1 true false 0)))) false))))))))) (OfDeclaration (Declaration 1 (Then NoTrees (OfSpecifier (Tag 1 word.Struct 2))) (Then NoTrees (OfDeclaration (InitDeclarator 1 (DeclaredName 1 5) (Present (OfInitializer (Initial 1 (Name 1 4)))))))))) (OfStatement (Return 1 (Present (OfExpression (Number 1 0 false false 0)))))))) ∷ []) ≡ Refused 2)
    -- struct s { int a; }; int main(void){struct s x = {1}; struct s y = {x}; return 0;}
    × (judged ((115 ∷ []) ∷ (97 ∷ []) ∷ (109 ∷ 97 ∷ 105 ∷ 110 ∷ []) ∷ (120 ∷ []) ∷ (121 ∷ []) ∷ []) ([]) ((Declaration 1 (Then NoTrees (OfSpecifier (Composite 1 word.Struct (Some 0) (Then NoTrees (OfDeclaration (MemberDeclaration 1 (Then NoTrees (OfSpecifier (Keyword 1 word.Int))) (Then NoTrees (OfDeclarator (DeclaredName 1 1))))))))) NoTrees) ∷ (Function 1 (Then NoTrees (OfSpecifier (Keyword 1 word.Int))) (FunctionDeclarator 1 (DeclaredName 1 2) (Then NoTrees (OfDeclaration (Parameter 1 (Then NoTrees (OfSpecifier (Keyword 1 word.Void))) Absent))) false) (Block 1 (Then (Then (Then NoTrees (OfDeclaration (Declaration 1 (Then NoTrees (OfSpecifier (Tag 1 word.Struct 0))) (Then NoTrees (OfDeclaration (InitDeclarator 1 (DeclaredName 1 3) (Present (OfInitializer (Braces 1 (Then NoTrees (OfInitializer (Initial 1 (Number 1 1 true false 0)))) false))))))))) (OfDeclaration (Declaration 1 (Then NoTrees (OfSpecifier (Tag 1 word.Struct 0))) (Then NoTrees (OfDeclaration (InitDeclarator 1 (DeclaredName 1 4) (Present (OfInitializer (Braces 1 (Then NoTrees (OfInitializer (Initial 1 (Name 1 3)))) false))))))))) (OfStatement (Return 1 (Present (OfExpression (Number 1 0 false false 0)))))))) ∷ []) ≡ Refused 1)
    -- struct s; struct s x = {1}; struct s { int a; }; int main(void){return 0;}
    × (judged ((115 ∷ []) ∷ (120 ∷ []) ∷ (97 ∷ []) ∷ (109 ∷ 97 ∷ 105 ∷ 110 ∷ []) ∷ []) ([]) ((Declaration 1 (Then NoTrees (OfSpecifier (Tag 1 word.Struct 0))) NoTrees) ∷ (Declaration 1 (Then NoTrees (OfSpecifier (Tag 1 word.Struct 0))) (Then NoTrees (OfDeclaration (InitDeclarator 1 (DeclaredName 1 1) (Present (OfInitializer (Braces 1 (Then NoTrees (OfInitializer (Initial 1 (Number 1 1 true false 0)))) false))))))) ∷ (Declaration 1 (Then NoTrees (OfSpecifier (Composite 1 word.Struct (Some 0) (Then NoTrees (OfDeclaration (MemberDeclaration 1 (Then NoTrees (OfSpecifier (Keyword 1 word.Int))) (Then NoTrees (OfDeclarator (DeclaredName 1 2))))))))) NoTrees) ∷ (Function 1 (Then NoTrees (OfSpecifier (Keyword 1 word.Int))) (FunctionDeclarator 1 (DeclaredName 1 3) (Then NoTrees (OfDeclaration (Parameter 1 (Then NoTrees (OfSpecifier (Keyword 1 word.Void))) Absent))) false) (Block 1 (Then NoTrees (OfStatement (Return 1 (Present (OfExpression (Number 1 0 false false 0)))))))) ∷ []) ≡ Refused 1)
    -- struct s { const int a; const char t[3]; }; const struct s x = {1, "ab"}; int main(void){return 0;}
    × (judged ((115 ∷ []) ∷ (97 ∷ []) ∷ (116 ∷ []) ∷ (120 ∷ []) ∷ (109 ∷ 97 ∷ 105 ∷ 110 ∷ []) ∷ []) ((97 ∷ 98 ∷ []) ∷ []) ((Declaration 1 (Then NoTrees (OfSpecifier (Composite 1 word.Struct (Some 0) (Then (Then NoTrees (OfDeclaration (MemberDeclaration 1 (Then (Then NoTrees (OfSpecifier (Keyword 1 word.Const))) (OfSpecifier (Keyword 1 word.Int))) (Then NoTrees (OfDeclarator (DeclaredName 1 1)))))) (OfDeclaration (MemberDeclaration 1 (Then (Then NoTrees (OfSpecifier (Keyword 1 word.Const))) (OfSpecifier (Keyword 1 word.Char))) (Then NoTrees (OfDeclarator (Array 1 (DeclaredName 1 2) (Present (OfExpression (Number 1 3 true false 0)))))))))))) NoTrees) ∷ (Declaration 1 (Then (Then NoTrees (OfSpecifier (Keyword 1 word.Const))) (OfSpecifier (Tag 1 word.Struct 0))) (Then NoTrees (OfDeclaration (InitDeclarator 1 (DeclaredName 1 3) (Present (OfInitializer (Braces 1 (Then (Then NoTrees (OfInitializer (Initial 1 (Number 1 1 true false 0)))) (OfInitializer (Initial 1 (Text 1 0 0)))) false))))))) ∷ (Function 1 (Then NoTrees (OfSpecifier (Keyword 1 word.Int))) (FunctionDeclarator 1 (DeclaredName 1 4) (Then NoTrees (OfDeclaration (Parameter 1 (Then NoTrees (OfSpecifier (Keyword 1 word.Void))) Absent))) false) (Block 1 (Then NoTrees (OfStatement (Return 1 (Present (OfExpression (Number 1 0 false false 0)))))))) ∷ []) ≡ Accepted ((1 ∷ 2 ∷ 0 ∷ 4 ∷ 1 ∷ 0 ∷ 4 ∷ 3 ∷ 1 ∷ 1 ∷ []) ∷ []) (3 ∷ []) ([]) ((1 ∷ 1 ∷ 0 ∷ 16 ∷ 1 ∷ 1 ∷ 99 ∷ []) ∷ []))
unfolding type_of_words library_named are_compatible layouts_of initialized_object values
structures = (refl, refl, refl, refl, refl, refl, refl, refl, refl, refl, refl, refl, refl, refl, refl, refl)

-- 6.7.9p14: string literals and arrays of characters
texts :
    -- char s[] = "abc"; int main(void){return sizeof s;}
    (judged ((115 ∷ []) ∷ (109 ∷ 97 ∷ 105 ∷ 110 ∷ []) ∷ []) ((97 ∷ 98 ∷ 99 ∷ []) ∷ []) ((Declaration 1 (Then NoTrees (OfSpecifier (Keyword 1 word.Char))) (Then NoTrees (OfDeclaration (InitDeclarator 1 (Array 1 (DeclaredName 1 0) Absent) (Present (OfInitializer (Initial 1 (Text 1 0 0)))))))) ∷ (Function 1 (Then NoTrees (OfSpecifier (Keyword 1 word.Int))) (FunctionDeclarator 1 (DeclaredName 1 1) (Then NoTrees (OfDeclaration (Parameter 1 (Then NoTrees (OfSpecifier (Keyword 1 word.Void))) Absent))) false) (Block 1 (Then NoTrees (OfStatement (Return 1 (Present (OfExpression (SizeofExpr 1 (Name 1 0))))))))) ∷ []) ≡ Accepted ((1 ∷ 1 ∷ 0 ∷ 4 ∷ 1 ∷ 1 ∷ []) ∷ []) (0 ∷ []) ([]) ((1 ∷ 1 ∷ 0 ∷ 16 ∷ 1 ∷ 1 ∷ 99 ∷ []) ∷ []))
    -- char s[3] = "abc"; int main(void){return 0;}
    × (judged ((115 ∷ []) ∷ (109 ∷ 97 ∷ 105 ∷ 110 ∷ []) ∷ []) ((97 ∷ 98 ∷ 99 ∷ []) ∷ []) ((Declaration 1 (Then NoTrees (OfSpecifier (Keyword 1 word.Char))) (Then NoTrees (OfDeclaration (InitDeclarator 1 (Array 1 (DeclaredName 1 0) (Present (OfExpression (Number 1 3 true false 0)))) (Present (OfInitializer (Initial 1 (Text 1 0 0)))))))) ∷ (Function 1 (Then NoTrees (OfSpecifier (Keyword 1 word.Int))) (FunctionDeclarator 1 (DeclaredName 1 1) (Then NoTrees (OfDeclaration (Parameter 1 (Then NoTrees (OfSpecifier (Keyword 1 word.Void))) Absent))) false) (Block 1 (Then NoTrees (OfStatement (Return 1 (Present (OfExpression (Number 1 0 false false 0)))))))) ∷ []) ≡ Accepted ((1 ∷ 1 ∷ 0 ∷ 3 ∷ 1 ∷ 1 ∷ []) ∷ []) (0 ∷ []) ([]) ((1 ∷ 1 ∷ 0 ∷ 16 ∷ 1 ∷ 1 ∷ 99 ∷ []) ∷ []))
    -- char s[2] = "abc"; int main(void){return 0;}
    × (judged ((115 ∷ []) ∷ (109 ∷ 97 ∷ 105 ∷ 110 ∷ []) ∷ []) ((97 ∷ 98 ∷ 99 ∷ []) ∷ []) ((Declaration 1 (Then NoTrees (OfSpecifier (Keyword 1 word.Char))) (Then NoTrees (OfDeclaration (InitDeclarator 1 (Array 1 (DeclaredName 1 0) (Present (OfExpression (Number 1 2 true false 0)))) (Present (OfInitializer (Initial 1 (Text 1 0 0)))))))) ∷ (Function 1 (Then NoTrees (OfSpecifier (Keyword 1 word.Int))) (FunctionDeclarator 1 (DeclaredName 1 1) (Then NoTrees (OfDeclaration (Parameter 1 (Then NoTrees (OfSpecifier (Keyword 1 word.Void))) Absent))) false) (Block 1 (Then NoTrees (OfStatement (Return 1 (Present (OfExpression (Number 1 0 false false 0)))))))) ∷ []) ≡ Refused 0)
    -- char s[5] = {"abc"}; int main(void){return 0;}
    × (judged ((115 ∷ []) ∷ (109 ∷ 97 ∷ 105 ∷ 110 ∷ []) ∷ []) ((97 ∷ 98 ∷ 99 ∷ []) ∷ []) ((Declaration 1 (Then NoTrees (OfSpecifier (Keyword 1 word.Char))) (Then NoTrees (OfDeclaration (InitDeclarator 1 (Array 1 (DeclaredName 1 0) (Present (OfExpression (Number 1 5 true false 0)))) (Present (OfInitializer (Braces 1 (Then NoTrees (OfInitializer (Initial 1 (Text 1 0 0)))) false))))))) ∷ (Function 1 (Then NoTrees (OfSpecifier (Keyword 1 word.Int))) (FunctionDeclarator 1 (DeclaredName 1 1) (Then NoTrees (OfDeclaration (Parameter 1 (Then NoTrees (OfSpecifier (Keyword 1 word.Void))) Absent))) false) (Block 1 (Then NoTrees (OfStatement (Return 1 (Present (OfExpression (Number 1 0 false false 0)))))))) ∷ []) ≡ Accepted ((1 ∷ 1 ∷ 0 ∷ 4 ∷ 1 ∷ 1 ∷ []) ∷ []) (0 ∷ []) ([]) ((1 ∷ 1 ∷ 0 ∷ 16 ∷ 1 ∷ 1 ∷ 99 ∷ []) ∷ []))
    -- char s[5] = ("abc"); int main(void){return 0;}
    × (judged ((115 ∷ []) ∷ (109 ∷ 97 ∷ 105 ∷ 110 ∷ []) ∷ []) ((97 ∷ 98 ∷ 99 ∷ []) ∷ []) ((Declaration 1 (Then NoTrees (OfSpecifier (Keyword 1 word.Char))) (Then NoTrees (OfDeclaration (InitDeclarator 1 (Array 1 (DeclaredName 1 0) (Present (OfExpression (Number 1 5 true false 0)))) (Present (OfInitializer (Initial 1 (Paren 1 (Text 1 0 0))))))))) ∷ (Function 1 (Then NoTrees (OfSpecifier (Keyword 1 word.Int))) (FunctionDeclarator 1 (DeclaredName 1 1) (Then NoTrees (OfDeclaration (Parameter 1 (Then NoTrees (OfSpecifier (Keyword 1 word.Void))) Absent))) false) (Block 1 (Then NoTrees (OfStatement (Return 1 (Present (OfExpression (Number 1 0 false false 0)))))))) ∷ []) ≡ Refused 0)
    -- char s[5] = {("abc")}; int main(void){return 0;}
    × (judged ((115 ∷ []) ∷ (109 ∷ 97 ∷ 105 ∷ 110 ∷ []) ∷ []) ((97 ∷ 98 ∷ 99 ∷ []) ∷ []) ((Declaration 1 (Then NoTrees (OfSpecifier (Keyword 1 word.Char))) (Then NoTrees (OfDeclaration (InitDeclarator 1 (Array 1 (DeclaredName 1 0) (Present (OfExpression (Number 1 5 true false 0)))) (Present (OfInitializer (Braces 1 (Then NoTrees (OfInitializer (Initial 1 (Paren 1 (Text 1 0 0))))) false))))))) ∷ (Function 1 (Then NoTrees (OfSpecifier (Keyword 1 word.Int))) (FunctionDeclarator 1 (DeclaredName 1 1) (Then NoTrees (OfDeclaration (Parameter 1 (Then NoTrees (OfSpecifier (Keyword 1 word.Void))) Absent))) false) (Block 1 (Then NoTrees (OfStatement (Return 1 (Present (OfExpression (Number 1 0 false false 0)))))))) ∷ []) ≡ Refused 0)
    -- unsigned char s[] = "a" "bc"; int main(void){return sizeof s;}
    × (judged ((115 ∷ []) ∷ (109 ∷ 97 ∷ 105 ∷ 110 ∷ []) ∷ []) ((97 ∷ []) ∷ (98 ∷ 99 ∷ []) ∷ []) ((Declaration 1 (Then (Then NoTrees (OfSpecifier (Keyword 1 word.Unsigned))) (OfSpecifier (Keyword 1 word.Char))) (Then NoTrees (OfDeclaration (InitDeclarator 1 (Array 1 (DeclaredName 1 0) Absent) (Present (OfInitializer (Initial 1 (Text 1 0 1)))))))) ∷ (Function 1 (Then NoTrees (OfSpecifier (Keyword 1 word.Int))) (FunctionDeclarator 1 (DeclaredName 1 1) (Then NoTrees (OfDeclaration (Parameter 1 (Then NoTrees (OfSpecifier (Keyword 1 word.Void))) Absent))) false) (Block 1 (Then NoTrees (OfStatement (Return 1 (Present (OfExpression (SizeofExpr 1 (Name 1 0))))))))) ∷ []) ≡ Accepted ((1 ∷ 1 ∷ 0 ∷ 4 ∷ 1 ∷ 1 ∷ []) ∷ []) (0 ∷ []) ([]) ((1 ∷ 1 ∷ 0 ∷ 16 ∷ 1 ∷ 1 ∷ 99 ∷ []) ∷ []))
    -- int s[4] = "abc"; int main(void){return 0;}
    × (judged ((115 ∷ []) ∷ (109 ∷ 97 ∷ 105 ∷ 110 ∷ []) ∷ []) ((97 ∷ 98 ∷ 99 ∷ []) ∷ []) ((Declaration 1 (Then NoTrees (OfSpecifier (Keyword 1 word.Int))) (Then NoTrees (OfDeclaration (InitDeclarator 1 (Array 1 (DeclaredName 1 0) (Present (OfExpression (Number 1 4 true false 0)))) (Present (OfInitializer (Initial 1 (Text 1 0 0)))))))) ∷ (Function 1 (Then NoTrees (OfSpecifier (Keyword 1 word.Int))) (FunctionDeclarator 1 (DeclaredName 1 1) (Then NoTrees (OfDeclaration (Parameter 1 (Then NoTrees (OfSpecifier (Keyword 1 word.Void))) Absent))) false) (Block 1 (Then NoTrees (OfStatement (Return 1 (Present (OfExpression (Number 1 0 false false 0)))))))) ∷ []) ≡ Refused 0)
    -- char s[2][4] = {"abc", "de"}; int main(void){return 0;}
    × (judged ((115 ∷ []) ∷ (109 ∷ 97 ∷ 105 ∷ 110 ∷ []) ∷ []) ((97 ∷ 98 ∷ 99 ∷ []) ∷ (100 ∷ 101 ∷ []) ∷ []) ((Declaration 1 (Then NoTrees (OfSpecifier (Keyword 1 word.Char))) (Then NoTrees (OfDeclaration (InitDeclarator 1 (Array 1 (Array 1 (DeclaredName 1 0) (Present (OfExpression (Number 1 2 true false 0)))) (Present (OfExpression (Number 1 4 true false 0)))) (Present (OfInitializer (Braces 1 (Then (Then NoTrees (OfInitializer (Initial 1 (Text 1 0 0)))) (OfInitializer (Initial 1 (Text 1 1 0)))) false))))))) ∷ (Function 1 (Then NoTrees (OfSpecifier (Keyword 1 word.Int))) (FunctionDeclarator 1 (DeclaredName 1 1) (Then NoTrees (OfDeclaration (Parameter 1 (Then NoTrees (OfSpecifier (Keyword 1 word.Void))) Absent))) false) (Block 1 (Then NoTrees (OfStatement (Return 1 (Present (OfExpression (Number 1 0 false false 0)))))))) ∷ []) ≡ Accepted ((1 ∷ 2 ∷ 0 ∷ 4 ∷ 1 ∷ 1 ∷ 4 ∷ 3 ∷ 1 ∷ 1 ∷ []) ∷ []) (0 ∷ []) ([]) ((1 ∷ 1 ∷ 0 ∷ 16 ∷ 1 ∷ 1 ∷ 99 ∷ []) ∷ []))
    -- char s[2][4] = {"abc", {"de"}, "f"}; int main(void){return 0;}
    × (judged ((115 ∷ []) ∷ (109 ∷ 97 ∷ 105 ∷ 110 ∷ []) ∷ []) ((97 ∷ 98 ∷ 99 ∷ []) ∷ (100 ∷ 101 ∷ []) ∷ (102 ∷ []) ∷ []) ((Declaration 1 (Then NoTrees (OfSpecifier (Keyword 1 word.Char))) (Then NoTrees (OfDeclaration (InitDeclarator 1 (Array 1 (Array 1 (DeclaredName 1 0) (Present (OfExpression (Number 1 2 true false 0)))) (Present (OfExpression (Number 1 4 true false 0)))) (Present (OfInitializer (Braces 1 (Then (Then (Then NoTrees (OfInitializer (Initial 1 (Text 1 0 0)))) (OfInitializer (Braces 1 (Then NoTrees (OfInitializer (Initial 1 (Text 1 1 0)))) false))) (OfInitializer (Initial 1 (Text 1 2 0)))) false))))))) ∷ (Function 1 (Then NoTrees (OfSpecifier (Keyword 1 word.Int))) (FunctionDeclarator 1 (DeclaredName 1 1) (Then NoTrees (OfDeclaration (Parameter 1 (Then NoTrees (OfSpecifier (Keyword 1 word.Void))) Absent))) false) (Block 1 (Then NoTrees (OfStatement (Return 1 (Present (OfExpression (Number 1 0 false false 0)))))))) ∷ []) ≡ Refused 0)
    -- char *p = "abc"; char *q = {"de"}; int main(void){return 0;}
    × (judged ((112 ∷ []) ∷ (113 ∷ []) ∷ (109 ∷ 97 ∷ 105 ∷ 110 ∷ []) ∷ []) ((97 ∷ 98 ∷ 99 ∷ []) ∷ (100 ∷ 101 ∷ []) ∷ []) ((Declaration 1 (Then NoTrees (OfSpecifier (Keyword 1 word.Char))) (Then NoTrees (OfDeclaration (InitDeclarator 1 (Pointer 1 0 (DeclaredName 1 0)) (Present (OfInitializer (Initial 1 (Text 1 0 0)))))))) ∷ (Declaration 1 (Then NoTrees (OfSpecifier (Keyword 1 word.Char))) (Then NoTrees (OfDeclaration (InitDeclarator 1 (Pointer 1 0 (DeclaredName 1 1)) (Present (OfInitializer (Braces 1 (Then NoTrees (OfInitializer (Initial 1 (Text 1 1 0)))) false))))))) ∷ (Function 1 (Then NoTrees (OfSpecifier (Keyword 1 word.Int))) (FunctionDeclarator 1 (DeclaredName 1 2) (Then NoTrees (OfDeclaration (Parameter 1 (Then NoTrees (OfSpecifier (Keyword 1 word.Void))) Absent))) false) (Block 1 (Then NoTrees (OfStatement (Return 1 (Present (OfExpression (Number 1 0 false false 0)))))))) ∷ []) ≡ Accepted ((0 ∷ 1 ∷ 0 ∷ 8 ∷ 1 ∷ 0 ∷ []) ∷ (1 ∷ 1 ∷ 0 ∷ 8 ∷ 1 ∷ 0 ∷ []) ∷ []) (0 ∷ 1 ∷ []) (4 ∷ 1 ∷ 3 ∷ 1 ∷ []) ((1 ∷ 1 ∷ 0 ∷ 16 ∷ 1 ∷ 1 ∷ 99 ∷ []) ∷ []))
    -- char *p[] = {"a", "bc"}; int main(void){return 0;}
    × (judged ((112 ∷ []) ∷ (109 ∷ 97 ∷ 105 ∷ 110 ∷ []) ∷ []) ((97 ∷ []) ∷ (98 ∷ 99 ∷ []) ∷ []) ((Declaration 1 (Then NoTrees (OfSpecifier (Keyword 1 word.Char))) (Then NoTrees (OfDeclaration (InitDeclarator 1 (Pointer 1 0 (Array 1 (DeclaredName 1 0) Absent)) (Present (OfInitializer (Braces 1 (Then (Then NoTrees (OfInitializer (Initial 1 (Text 1 0 0)))) (OfInitializer (Initial 1 (Text 1 1 0)))) false))))))) ∷ (Function 1 (Then NoTrees (OfSpecifier (Keyword 1 word.Int))) (FunctionDeclarator 1 (DeclaredName 1 1) (Then NoTrees (OfDeclaration (Parameter 1 (Then NoTrees (OfSpecifier (Keyword 1 word.Void))) Absent))) false) (Block 1 (Then NoTrees (OfStatement (Return 1 (Present (OfExpression (Number 1 0 false false 0)))))))) ∷ []) ≡ Accepted ((1 ∷ 2 ∷ 0 ∷ 8 ∷ 1 ∷ 0 ∷ 8 ∷ 8 ∷ 1 ∷ 0 ∷ []) ∷ []) (0 ∷ []) (2 ∷ 1 ∷ 3 ∷ 1 ∷ []) ((1 ∷ 1 ∷ 0 ∷ 16 ∷ 1 ∷ 1 ∷ 99 ∷ []) ∷ []))
    -- int main(void){char s[] = "x"; char *p = "yz"; return sizeof "abc";}
    × (judged ((109 ∷ 97 ∷ 105 ∷ 110 ∷ []) ∷ (115 ∷ []) ∷ (112 ∷ []) ∷ []) ((120 ∷ []) ∷ (121 ∷ 122 ∷ []) ∷ (97 ∷ 98 ∷ 99 ∷ []) ∷ []) ((Function 1 (Then NoTrees (OfSpecifier (Keyword 1 word.Int))) (FunctionDeclarator 1 (DeclaredName 1 0) (Then NoTrees (OfDeclaration (Parameter 1 (Then NoTrees (OfSpecifier (Keyword 1 word.Void))) Absent))) false) (Block 1 (Then (Then (Then NoTrees (OfDeclaration (Declaration 1 (Then NoTrees (OfSpecifier (Keyword 1 word.Char))) (Then NoTrees (OfDeclaration (InitDeclarator 1 (Array 1 (DeclaredName 1 1) Absent) (Present (OfInitializer (Initial 1 (Text 1 0 0)))))))))) (OfDeclaration (Declaration 1 (Then NoTrees (OfSpecifier (Keyword 1 word.Char))) (Then NoTrees (OfDeclaration (InitDeclarator 1 (Pointer 1 0 (DeclaredName 1 2)) (Present (OfInitializer (Initial 1 (Text 1 1 0)))))))))) (OfStatement (Return 1 (Present (OfExpression (SizeofExpr 1 (Text 1 2 0))))))))) ∷ []) ≡ Accepted ((1 ∷ 1 ∷ 0 ∷ 2 ∷ 1 ∷ 1 ∷ []) ∷ (0 ∷ 1 ∷ 0 ∷ 8 ∷ 1 ∷ 0 ∷ []) ∷ []) ([]) (3 ∷ 1 ∷ []) ((1 ∷ 1 ∷ 2 ∷ 2 ∷ 1 ∷ 2 ∷ 1 ∷ 16 ∷ 1 ∷ 1 ∷ 99 ∷ []) ∷ []))
    -- int main(void){static char s[4] = "ab"; return s[0];}
    × (judged ((109 ∷ 97 ∷ 105 ∷ 110 ∷ []) ∷ (115 ∷ []) ∷ []) ((97 ∷ 98 ∷ []) ∷ []) ((Function 1 (Then NoTrees (OfSpecifier (Keyword 1 word.Int))) (FunctionDeclarator 1 (DeclaredName 1 0) (Then NoTrees (OfDeclaration (Parameter 1 (Then NoTrees (OfSpecifier (Keyword 1 word.Void))) Absent))) false) (Block 1 (Then (Then NoTrees (OfDeclaration (Declaration 1 (Then (Then NoTrees (OfSpecifier (Keyword 1 word.Static))) (OfSpecifier (Keyword 1 word.Char))) (Then NoTrees (OfDeclaration (InitDeclarator 1 (Array 1 (DeclaredName 1 1) (Present (OfExpression (Number 1 4 true false 0)))) (Present (OfInitializer (Initial 1 (Text 1 0 0)))))))))) (OfStatement (Return 1 (Present (OfExpression (Index 1 (Name 1 1) (Number 1 0 false false 0))))))))) ∷ []) ≡ Accepted ((1 ∷ 1 ∷ 0 ∷ 3 ∷ 1 ∷ 1 ∷ []) ∷ []) (1 ∷ []) ([]) ((1 ∷ 1 ∷ 0 ∷ 16 ∷ 1 ∷ 1 ∷ 99 ∷ []) ∷ []))
    -- struct s { char c[4]; int n; }; struct s x = {"ab", 1}; int main(void){return 0;}
    × (judged ((115 ∷ []) ∷ (99 ∷ []) ∷ (110 ∷ []) ∷ (120 ∷ []) ∷ (109 ∷ 97 ∷ 105 ∷ 110 ∷ []) ∷ []) ((97 ∷ 98 ∷ []) ∷ []) ((Declaration 1 (Then NoTrees (OfSpecifier (Composite 1 word.Struct (Some 0) (Then (Then NoTrees (OfDeclaration (MemberDeclaration 1 (Then NoTrees (OfSpecifier (Keyword 1 word.Char))) (Then NoTrees (OfDeclarator (Array 1 (DeclaredName 1 1) (Present (OfExpression (Number 1 4 true false 0))))))))) (OfDeclaration (MemberDeclaration 1 (Then NoTrees (OfSpecifier (Keyword 1 word.Int))) (Then NoTrees (OfDeclarator (DeclaredName 1 2))))))))) NoTrees) ∷ (Declaration 1 (Then NoTrees (OfSpecifier (Tag 1 word.Struct 0))) (Then NoTrees (OfDeclaration (InitDeclarator 1 (DeclaredName 1 3) (Present (OfInitializer (Braces 1 (Then (Then NoTrees (OfInitializer (Initial 1 (Text 1 0 0)))) (OfInitializer (Initial 1 (Number 1 1 true false 0)))) false))))))) ∷ (Function 1 (Then NoTrees (OfSpecifier (Keyword 1 word.Int))) (FunctionDeclarator 1 (DeclaredName 1 4) (Then NoTrees (OfDeclaration (Parameter 1 (Then NoTrees (OfSpecifier (Keyword 1 word.Void))) Absent))) false) (Block 1 (Then NoTrees (OfStatement (Return 1 (Present (OfExpression (Number 1 0 false false 0)))))))) ∷ []) ≡ Accepted ((1 ∷ 2 ∷ 0 ∷ 3 ∷ 1 ∷ 1 ∷ 4 ∷ 4 ∷ 1 ∷ 0 ∷ []) ∷ []) (3 ∷ []) ([]) ((1 ∷ 1 ∷ 0 ∷ 16 ∷ 1 ∷ 1 ∷ 99 ∷ []) ∷ []))
    -- struct s { char c[4]; }; struct s x = {"ab"}; int main(void){return 0;}
    × (judged ((115 ∷ []) ∷ (99 ∷ []) ∷ (120 ∷ []) ∷ (109 ∷ 97 ∷ 105 ∷ 110 ∷ []) ∷ []) ((97 ∷ 98 ∷ []) ∷ []) ((Declaration 1 (Then NoTrees (OfSpecifier (Composite 1 word.Struct (Some 0) (Then NoTrees (OfDeclaration (MemberDeclaration 1 (Then NoTrees (OfSpecifier (Keyword 1 word.Char))) (Then NoTrees (OfDeclarator (Array 1 (DeclaredName 1 1) (Present (OfExpression (Number 1 4 true false 0)))))))))))) NoTrees) ∷ (Declaration 1 (Then NoTrees (OfSpecifier (Tag 1 word.Struct 0))) (Then NoTrees (OfDeclaration (InitDeclarator 1 (DeclaredName 1 2) (Present (OfInitializer (Braces 1 (Then NoTrees (OfInitializer (Initial 1 (Text 1 0 0)))) false))))))) ∷ (Function 1 (Then NoTrees (OfSpecifier (Keyword 1 word.Int))) (FunctionDeclarator 1 (DeclaredName 1 3) (Then NoTrees (OfDeclaration (Parameter 1 (Then NoTrees (OfSpecifier (Keyword 1 word.Void))) Absent))) false) (Block 1 (Then NoTrees (OfStatement (Return 1 (Present (OfExpression (Number 1 0 false false 0)))))))) ∷ []) ≡ Accepted ((1 ∷ 1 ∷ 0 ∷ 3 ∷ 1 ∷ 1 ∷ []) ∷ []) (2 ∷ []) ([]) ((1 ∷ 1 ∷ 0 ∷ 16 ∷ 1 ∷ 1 ∷ 99 ∷ []) ∷ []))
    -- char s[4] = {'a', 'b'}; int main(void){return 0;}
    × (judged ((115 ∷ []) ∷ (109 ∷ 97 ∷ 105 ∷ 110 ∷ []) ∷ []) ([]) ((Declaration 1 (Then NoTrees (OfSpecifier (Keyword 1 word.Char))) (Then NoTrees (OfDeclaration (InitDeclarator 1 (Array 1 (DeclaredName 1 0) (Present (OfExpression (Number 1 4 true false 0)))) (Present (OfInitializer (Braces 1 (Then (Then NoTrees (OfInitializer (Initial 1 (Character 1 (pos 97))))) (OfInitializer (Initial 1 (Character 1 (pos 98))))) false))))))) ∷ (Function 1 (Then NoTrees (OfSpecifier (Keyword 1 word.Int))) (FunctionDeclarator 1 (DeclaredName 1 1) (Then NoTrees (OfDeclaration (Parameter 1 (Then NoTrees (OfSpecifier (Keyword 1 word.Void))) Absent))) false) (Block 1 (Then NoTrees (OfStatement (Return 1 (Present (OfExpression (Number 1 0 false false 0)))))))) ∷ []) ≡ Accepted ((1 ∷ 2 ∷ 0 ∷ 1 ∷ 1 ∷ 0 ∷ 1 ∷ 1 ∷ 1 ∷ 0 ∷ []) ∷ []) (0 ∷ []) ([]) ((1 ∷ 1 ∷ 0 ∷ 16 ∷ 1 ∷ 1 ∷ 99 ∷ []) ∷ []))
    -- char *p = "ab" + 1; char *q = "ab" + 4; int main(void){return 0;}
    × (judged ((112 ∷ []) ∷ (113 ∷ []) ∷ (109 ∷ 97 ∷ 105 ∷ 110 ∷ []) ∷ []) ((97 ∷ 98 ∷ []) ∷ (97 ∷ 98 ∷ []) ∷ []) ((Declaration 1 (Then NoTrees (OfSpecifier (Keyword 1 word.Char))) (Then NoTrees (OfDeclaration (InitDeclarator 1 (Pointer 1 0 (DeclaredName 1 0)) (Present (OfInitializer (Initial 1 (Binary 1 op.Add (Text 1 0 0) (Number 1 1 true false 0))))))))) ∷ (Declaration 1 (Then NoTrees (OfSpecifier (Keyword 1 word.Char))) (Then NoTrees (OfDeclaration (InitDeclarator 1 (Pointer 1 0 (DeclaredName 1 1)) (Present (OfInitializer (Initial 1 (Binary 1 op.Add (Text 1 1 0) (Number 1 4 true false 0))))))))) ∷ (Function 1 (Then NoTrees (OfSpecifier (Keyword 1 word.Int))) (FunctionDeclarator 1 (DeclaredName 1 2) (Then NoTrees (OfDeclaration (Parameter 1 (Then NoTrees (OfSpecifier (Keyword 1 word.Void))) Absent))) false) (Block 1 (Then NoTrees (OfStatement (Return 1 (Present (OfExpression (Number 1 0 false false 0)))))))) ∷ []) ≡ Refused 1)
unfolding type_of_words library_named are_compatible layouts_of initialized_object values
texts = (refl, refl, refl, refl, refl, refl, refl, refl, refl, refl, refl, refl, refl, refl, refl, refl, refl, refl)

-- 6.8.4.1, 6.8.5: selections and iterations
loops :
    -- int main(void){int i = 0; if (i) i = 1; else i = 2; while (i) i--; do i++; while (i < 3); for (i = 0; i < 3; i++) ; for (;;) break; return i;}
    (judged ((109 ∷ 97 ∷ 105 ∷ 110 ∷ []) ∷ (105 ∷ []) ∷ []) ([]) ((Function 1 (Then NoTrees (OfSpecifier (Keyword 1 word.Int))) (FunctionDeclarator 1 (DeclaredName 1 0) (Then NoTrees (OfDeclaration (Parameter 1 (Then NoTrees (OfSpecifier (Keyword 1 word.Void))) Absent))) false) (Block 1 (Then (Then (Then (Then (Then (Then (Then NoTrees (OfDeclaration (Declaration 1 (Then NoTrees (OfSpecifier (Keyword 1 word.Int))) (Then NoTrees (OfDeclaration (InitDeclarator 1 (DeclaredName 1 1) (Present (OfInitializer (Initial 1 (Number 1 0 false false 0)))))))))) (OfStatement (IfElse 1 (Name 1 1) (ExpressionStatement 1 (Present (OfExpression (Assign 1 assign.Assign (Name 1 1) (Number 1 1 true false 0))))) (ExpressionStatement 1 (Present (OfExpression (Assign 1 assign.Assign (Name 1 1) (Number 1 2 true false 0)))))))) (OfStatement (While 1 (Name 1 1) (ExpressionStatement 1 (Present (OfExpression (PostDecrement 1 (Name 1 1)))))))) (OfStatement (DoWhile 1 (ExpressionStatement 1 (Present (OfExpression (PostIncrement 1 (Name 1 1))))) (Binary 1 op.Less (Name 1 1) (Number 1 3 true false 0))))) (OfStatement (For 1 (Present (OfExpression (Assign 1 assign.Assign (Name 1 1) (Number 1 0 false false 0)))) (Present (OfExpression (Binary 1 op.Less (Name 1 1) (Number 1 3 true false 0)))) (Present (OfExpression (PostIncrement 1 (Name 1 1)))) (ExpressionStatement 1 Absent)))) (OfStatement (For 1 Absent Absent Absent (Break 1)))) (OfStatement (Return 1 (Present (OfExpression (Name 1 1)))))))) ∷ []) ≡ Accepted ((0 ∷ 1 ∷ 0 ∷ 4 ∷ 1 ∷ 0 ∷ []) ∷ []) ([]) ([]) ((1 ∷ 1 ∷ 1 ∷ 2 ∷ 1 ∷ 6 ∷ 1 ∷ 1 ∷ 3 ∷ 1 ∷ 1 ∷ 3 ∷ 1 ∷ 1 ∷ 10 ∷ 1 ∷ 1 ∷ 3 ∷ 1 ∷ 1 ∷ 11 ∷ 1 ∷ 3 ∷ 1 ∷ 1 ∷ 1 ∷ 12 ∷ 1 ∷ 1 ∷ 1 ∷ 1 ∷ 4 ∷ 1 ∷ 12 ∷ 1 ∷ 0 ∷ 0 ∷ 0 ∷ 14 ∷ 1 ∷ 16 ∷ 1 ∷ 1 ∷ 99 ∷ []) ∷ []))
    -- int main(void){int *p; while (p) p = 0; return !p;}
    × (judged ((109 ∷ 97 ∷ 105 ∷ 110 ∷ []) ∷ (112 ∷ []) ∷ []) ([]) ((Function 1 (Then NoTrees (OfSpecifier (Keyword 1 word.Int))) (FunctionDeclarator 1 (DeclaredName 1 0) (Then NoTrees (OfDeclaration (Parameter 1 (Then NoTrees (OfSpecifier (Keyword 1 word.Void))) Absent))) false) (Block 1 (Then (Then (Then NoTrees (OfDeclaration (Declaration 1 (Then NoTrees (OfSpecifier (Keyword 1 word.Int))) (Then NoTrees (OfDeclaration (InitDeclarator 1 (Pointer 1 0 (DeclaredName 1 1)) Absent)))))) (OfStatement (While 1 (Name 1 1) (ExpressionStatement 1 (Present (OfExpression (Assign 1 assign.Assign (Name 1 1) (Number 1 0 false false 0)))))))) (OfStatement (Return 1 (Present (OfExpression (Unary 1 unary.Not (Name 1 1))))))))) ∷ []) ≡ Accepted ((0 ∷ 0 ∷ []) ∷ []) ([]) ([]) ((1 ∷ 1 ∷ 1 ∷ 2 ∷ 1 ∷ 10 ∷ 1 ∷ 1 ∷ 3 ∷ 1 ∷ 1 ∷ 16 ∷ 1 ∷ 1 ∷ 99 ∷ []) ∷ []))
    -- int main(void){"abc"; return 0;}
    × (judged ((109 ∷ 97 ∷ 105 ∷ 110 ∷ []) ∷ []) ((97 ∷ 98 ∷ 99 ∷ []) ∷ []) ((Function 1 (Then NoTrees (OfSpecifier (Keyword 1 word.Int))) (FunctionDeclarator 1 (DeclaredName 1 0) (Then NoTrees (OfDeclaration (Parameter 1 (Then NoTrees (OfSpecifier (Keyword 1 word.Void))) Absent))) false) (Block 1 (Then (Then NoTrees (OfStatement (ExpressionStatement 1 (Present (OfExpression (Text 1 0 0)))))) (OfStatement (Return 1 (Present (OfExpression (Number 1 0 false false 0)))))))) ∷ []) ≡ Accepted ([]) ([]) (4 ∷ 1 ∷ []) ((1 ∷ 1 ∷ 0 ∷ 3 ∷ 1 ∷ 1 ∷ 16 ∷ 1 ∷ 1 ∷ 99 ∷ []) ∷ []))
unfolding type_of_words library_named are_compatible layouts_of initialized_object values
loops = (refl, refl, refl)

-- 6.8.5p3, p5: a `for` with a declaration
for_declarations :
    -- int main(void){for (int i = 0, j = 1; i < 3; i++) {int k = j;} return 0;}
    (judged ((109 ∷ 97 ∷ 105 ∷ 110 ∷ []) ∷ (105 ∷ []) ∷ (106 ∷ []) ∷ (107 ∷ []) ∷ []) ([]) ((Function 1 (Then NoTrees (OfSpecifier (Keyword 1 word.Int))) (FunctionDeclarator 1 (DeclaredName 1 0) (Then NoTrees (OfDeclaration (Parameter 1 (Then NoTrees (OfSpecifier (Keyword 1 word.Void))) Absent))) false) (Block 1 (Then (Then NoTrees (OfStatement (ForDeclaration 1 (Declaration 1 (Then NoTrees (OfSpecifier (Keyword 1 word.Int))) (Then (Then NoTrees (OfDeclaration (InitDeclarator 1 (DeclaredName 1 1) (Present (OfInitializer (Initial 1 (Number 1 0 false false 0))))))) (OfDeclaration (InitDeclarator 1 (DeclaredName 1 2) (Present (OfInitializer (Initial 1 (Number 1 1 true false 0)))))))) (Present (OfExpression (Binary 1 op.Less (Name 1 1) (Number 1 3 true false 0)))) (Present (OfExpression (PostIncrement 1 (Name 1 1)))) (Block 1 (Then NoTrees (OfDeclaration (Declaration 1 (Then NoTrees (OfSpecifier (Keyword 1 word.Int))) (Then NoTrees (OfDeclaration (InitDeclarator 1 (DeclaredName 1 3) (Present (OfInitializer (Initial 1 (Name 1 2)))))))))))))) (OfStatement (Return 1 (Present (OfExpression (Number 1 0 false false 0)))))))) ∷ []) ≡ Accepted ((0 ∷ 1 ∷ 0 ∷ 4 ∷ 1 ∷ 0 ∷ []) ∷ (0 ∷ 1 ∷ 0 ∷ 4 ∷ 1 ∷ 0 ∷ []) ∷ (0 ∷ 1 ∷ 0 ∷ 4 ∷ 1 ∷ 0 ∷ []) ∷ []) ([]) ([]) ((1 ∷ 1 ∷ 0 ∷ 13 ∷ 1 ∷ 2 ∷ 2 ∷ 1 ∷ 2 ∷ 1 ∷ 1 ∷ 1 ∷ 1 ∷ 1 ∷ 1 ∷ 2 ∷ 1 ∷ 99 ∷ 16 ∷ 1 ∷ 1 ∷ 99 ∷ []) ∷ []))
    -- int main(void){for (static int i = 0; i < 3; i++) ; return 0;}
    × (judged ((109 ∷ 97 ∷ 105 ∷ 110 ∷ []) ∷ (105 ∷ []) ∷ []) ([]) ((Function 1 (Then NoTrees (OfSpecifier (Keyword 1 word.Int))) (FunctionDeclarator 1 (DeclaredName 1 0) (Then NoTrees (OfDeclaration (Parameter 1 (Then NoTrees (OfSpecifier (Keyword 1 word.Void))) Absent))) false) (Block 1 (Then (Then NoTrees (OfStatement (ForDeclaration 1 (Declaration 1 (Then (Then NoTrees (OfSpecifier (Keyword 1 word.Static))) (OfSpecifier (Keyword 1 word.Int))) (Then NoTrees (OfDeclaration (InitDeclarator 1 (DeclaredName 1 1) (Present (OfInitializer (Initial 1 (Number 1 0 false false 0)))))))) (Present (OfExpression (Binary 1 op.Less (Name 1 1) (Number 1 3 true false 0)))) (Present (OfExpression (PostIncrement 1 (Name 1 1)))) (ExpressionStatement 1 Absent)))) (OfStatement (Return 1 (Present (OfExpression (Number 1 0 false false 0)))))))) ∷ []) ≡ Refused 0)
    -- int main(void){for (struct s { int a; } x; ;) break; return 0;}
    × (judged ((109 ∷ 97 ∷ 105 ∷ 110 ∷ []) ∷ (115 ∷ []) ∷ (97 ∷ []) ∷ (120 ∷ []) ∷ []) ([]) ((Function 1 (Then NoTrees (OfSpecifier (Keyword 1 word.Int))) (FunctionDeclarator 1 (DeclaredName 1 0) (Then NoTrees (OfDeclaration (Parameter 1 (Then NoTrees (OfSpecifier (Keyword 1 word.Void))) Absent))) false) (Block 1 (Then (Then NoTrees (OfStatement (ForDeclaration 1 (Declaration 1 (Then NoTrees (OfSpecifier (Composite 1 word.Struct (Some 1) (Then NoTrees (OfDeclaration (MemberDeclaration 1 (Then NoTrees (OfSpecifier (Keyword 1 word.Int))) (Then NoTrees (OfDeclarator (DeclaredName 1 2))))))))) (Then NoTrees (OfDeclaration (InitDeclarator 1 (DeclaredName 1 3) Absent)))) Absent Absent (Break 1)))) (OfStatement (Return 1 (Present (OfExpression (Number 1 0 false false 0)))))))) ∷ []) ≡ Refused 0)
    -- int main(void){for (enum { A } x = 0; x < 1; x++) ; return 0;}
    × (judged ((109 ∷ 97 ∷ 105 ∷ 110 ∷ []) ∷ (65 ∷ []) ∷ (120 ∷ []) ∷ []) ([]) ((Function 1 (Then NoTrees (OfSpecifier (Keyword 1 word.Int))) (FunctionDeclarator 1 (DeclaredName 1 0) (Then NoTrees (OfDeclaration (Parameter 1 (Then NoTrees (OfSpecifier (Keyword 1 word.Void))) Absent))) false) (Block 1 (Then (Then NoTrees (OfStatement (ForDeclaration 1 (Declaration 1 (Then NoTrees (OfSpecifier (Enumeration 1 None (Then NoTrees (OfDeclaration (Enumerator 1 1 Absent))) false))) (Then NoTrees (OfDeclaration (InitDeclarator 1 (DeclaredName 1 2) (Present (OfInitializer (Initial 1 (Number 1 0 false false 0)))))))) (Present (OfExpression (Binary 1 op.Less (Name 1 2) (Number 1 1 true false 0)))) (Present (OfExpression (PostIncrement 1 (Name 1 2)))) (ExpressionStatement 1 Absent)))) (OfStatement (Return 1 (Present (OfExpression (Number 1 0 false false 0)))))))) ∷ []) ≡ Refused 0)
    -- int main(void){for (int i = 0; ; ) break; return i;}
    × (judged ((109 ∷ 97 ∷ 105 ∷ 110 ∷ []) ∷ (105 ∷ []) ∷ []) ([]) ((Function 1 (Then NoTrees (OfSpecifier (Keyword 1 word.Int))) (FunctionDeclarator 1 (DeclaredName 1 0) (Then NoTrees (OfDeclaration (Parameter 1 (Then NoTrees (OfSpecifier (Keyword 1 word.Void))) Absent))) false) (Block 1 (Then (Then NoTrees (OfStatement (ForDeclaration 1 (Declaration 1 (Then NoTrees (OfSpecifier (Keyword 1 word.Int))) (Then NoTrees (OfDeclaration (InitDeclarator 1 (DeclaredName 1 1) (Present (OfInitializer (Initial 1 (Number 1 0 false false 0)))))))) Absent Absent (Break 1)))) (OfStatement (Return 1 (Present (OfExpression (Name 1 1)))))))) ∷ []) ≡ Refused 0)
unfolding type_of_words library_named are_compatible layouts_of initialized_object values
for_declarations = (refl, refl, refl, refl, refl)

-- 6.8.6.2p1, 6.8.6.3p1: `break` and `continue`
jumps :
    -- int main(void){break; return 0;}
    (judged ((109 ∷ 97 ∷ 105 ∷ 110 ∷ []) ∷ []) ([]) ((Function 1 (Then NoTrees (OfSpecifier (Keyword 1 word.Int))) (FunctionDeclarator 1 (DeclaredName 1 0) (Then NoTrees (OfDeclaration (Parameter 1 (Then NoTrees (OfSpecifier (Keyword 1 word.Void))) Absent))) false) (Block 1 (Then (Then NoTrees (OfStatement (Break 1))) (OfStatement (Return 1 (Present (OfExpression (Number 1 0 false false 0)))))))) ∷ []) ≡ Refused 0)
    -- int main(void){continue; return 0;}
    × (judged ((109 ∷ 97 ∷ 105 ∷ 110 ∷ []) ∷ []) ([]) ((Function 1 (Then NoTrees (OfSpecifier (Keyword 1 word.Int))) (FunctionDeclarator 1 (DeclaredName 1 0) (Then NoTrees (OfDeclaration (Parameter 1 (Then NoTrees (OfSpecifier (Keyword 1 word.Void))) Absent))) false) (Block 1 (Then (Then NoTrees (OfStatement (Continue 1))) (OfStatement (Return 1 (Present (OfExpression (Number 1 0 false false 0)))))))) ∷ []) ≡ Refused 0)
    -- int main(void){switch (1) {case 1: continue;} return 0;}
    × (judged ((109 ∷ 97 ∷ 105 ∷ 110 ∷ []) ∷ []) ([]) ((Function 1 (Then NoTrees (OfSpecifier (Keyword 1 word.Int))) (FunctionDeclarator 1 (DeclaredName 1 0) (Then NoTrees (OfDeclaration (Parameter 1 (Then NoTrees (OfSpecifier (Keyword 1 word.Void))) Absent))) false) (Block 1 (Then (Then NoTrees (OfStatement (Switch 1 (Number 1 1 true false 0) (SwitchBlock 1 (Then NoTrees (OfStatement (Labelled 1 (Then NoTrees (OfStatement (Case 1 (Number 1 1 true false 0)))) (Continue 1)))))))) (OfStatement (Return 1 (Present (OfExpression (Number 1 0 false false 0)))))))) ∷ []) ≡ Refused 0)
    -- int main(void){while (1) switch (1) {case 1: continue; default: break;} return 0;}
    × (judged ((109 ∷ 97 ∷ 105 ∷ 110 ∷ []) ∷ []) ([]) ((Function 1 (Then NoTrees (OfSpecifier (Keyword 1 word.Int))) (FunctionDeclarator 1 (DeclaredName 1 0) (Then NoTrees (OfDeclaration (Parameter 1 (Then NoTrees (OfSpecifier (Keyword 1 word.Void))) Absent))) false) (Block 1 (Then (Then NoTrees (OfStatement (While 1 (Number 1 1 true false 0) (Switch 1 (Number 1 1 true false 0) (SwitchBlock 1 (Then (Then NoTrees (OfStatement (Labelled 1 (Then NoTrees (OfStatement (Case 1 (Number 1 1 true false 0)))) (Continue 1)))) (OfStatement (Labelled 1 (Then NoTrees (OfStatement (Default 1))) (Break 1))))))))) (OfStatement (Return 1 (Present (OfExpression (Number 1 0 false false 0)))))))) ∷ []) ≡ Accepted ([]) ([]) ([]) ((1 ∷ 1 ∷ 0 ∷ 10 ∷ 1 ∷ 1 ∷ 7 ∷ 1 ∷ 1 ∷ 1 ∷ 1 ∷ 0 ∷ 8 ∷ 1 ∷ 15 ∷ 1 ∷ 9 ∷ 14 ∷ 1 ∷ 99 ∷ 16 ∷ 1 ∷ 1 ∷ 99 ∷ []) ∷ []))
    -- int main(void){if (1) break; return 0;}
    × (judged ((109 ∷ 97 ∷ 105 ∷ 110 ∷ []) ∷ []) ([]) ((Function 1 (Then NoTrees (OfSpecifier (Keyword 1 word.Int))) (FunctionDeclarator 1 (DeclaredName 1 0) (Then NoTrees (OfDeclaration (Parameter 1 (Then NoTrees (OfSpecifier (Keyword 1 word.Void))) Absent))) false) (Block 1 (Then (Then NoTrees (OfStatement (If 1 (Number 1 1 true false 0) (Break 1)))) (OfStatement (Return 1 (Present (OfExpression (Number 1 0 false false 0)))))))) ∷ []) ≡ Refused 0)
unfolding type_of_words library_named are_compatible layouts_of initialized_object values
jumps = (refl, refl, refl, refl, refl)

-- 6.8.4.2: a `switch` and its labels
switches :
    -- int main(void){switch (3) {case 1: case 2: return 1; default: return 2; case 3: ;} return 0;}
    (judged ((109 ∷ 97 ∷ 105 ∷ 110 ∷ []) ∷ []) ([]) ((Function 1 (Then NoTrees (OfSpecifier (Keyword 1 word.Int))) (FunctionDeclarator 1 (DeclaredName 1 0) (Then NoTrees (OfDeclaration (Parameter 1 (Then NoTrees (OfSpecifier (Keyword 1 word.Void))) Absent))) false) (Block 1 (Then (Then NoTrees (OfStatement (Switch 1 (Number 1 3 true false 0) (SwitchBlock 1 (Then (Then (Then NoTrees (OfStatement (Labelled 1 (Then (Then NoTrees (OfStatement (Case 1 (Number 1 1 true false 0)))) (OfStatement (Case 1 (Number 1 2 true false 0)))) (Return 1 (Present (OfExpression (Number 1 1 true false 0))))))) (OfStatement (Labelled 1 (Then NoTrees (OfStatement (Default 1))) (Return 1 (Present (OfExpression (Number 1 2 true false 0))))))) (OfStatement (Labelled 1 (Then NoTrees (OfStatement (Case 1 (Number 1 3 true false 0)))) (ExpressionStatement 1 Absent)))))))) (OfStatement (Return 1 (Present (OfExpression (Number 1 0 false false 0)))))))) ∷ []) ≡ Accepted ([]) ([]) ([]) ((1 ∷ 1 ∷ 0 ∷ 7 ∷ 1 ∷ 1 ∷ 1 ∷ 1 ∷ 0 ∷ 8 ∷ 1 ∷ 8 ∷ 2 ∷ 16 ∷ 1 ∷ 1 ∷ 9 ∷ 16 ∷ 1 ∷ 1 ∷ 8 ∷ 3 ∷ 4 ∷ 1 ∷ 99 ∷ 16 ∷ 1 ∷ 1 ∷ 99 ∷ []) ∷ []))
    -- int main(void){switch (3) {case 1: ; case 1: ;} return 0;}
    × (judged ((109 ∷ 97 ∷ 105 ∷ 110 ∷ []) ∷ []) ([]) ((Function 1 (Then NoTrees (OfSpecifier (Keyword 1 word.Int))) (FunctionDeclarator 1 (DeclaredName 1 0) (Then NoTrees (OfDeclaration (Parameter 1 (Then NoTrees (OfSpecifier (Keyword 1 word.Void))) Absent))) false) (Block 1 (Then (Then NoTrees (OfStatement (Switch 1 (Number 1 3 true false 0) (SwitchBlock 1 (Then (Then NoTrees (OfStatement (Labelled 1 (Then NoTrees (OfStatement (Case 1 (Number 1 1 true false 0)))) (ExpressionStatement 1 Absent)))) (OfStatement (Labelled 1 (Then NoTrees (OfStatement (Case 1 (Number 1 1 true false 0)))) (ExpressionStatement 1 Absent)))))))) (OfStatement (Return 1 (Present (OfExpression (Number 1 0 false false 0)))))))) ∷ []) ≡ Refused 0)
    -- int main(void){switch (3) {default: ; default: ;} return 0;}
    × (judged ((109 ∷ 97 ∷ 105 ∷ 110 ∷ []) ∷ []) ([]) ((Function 1 (Then NoTrees (OfSpecifier (Keyword 1 word.Int))) (FunctionDeclarator 1 (DeclaredName 1 0) (Then NoTrees (OfDeclaration (Parameter 1 (Then NoTrees (OfSpecifier (Keyword 1 word.Void))) Absent))) false) (Block 1 (Then (Then NoTrees (OfStatement (Switch 1 (Number 1 3 true false 0) (SwitchBlock 1 (Then (Then NoTrees (OfStatement (Labelled 1 (Then NoTrees (OfStatement (Default 1))) (ExpressionStatement 1 Absent)))) (OfStatement (Labelled 1 (Then NoTrees (OfStatement (Default 1))) (ExpressionStatement 1 Absent)))))))) (OfStatement (Return 1 (Present (OfExpression (Number 1 0 false false 0)))))))) ∷ []) ≡ Refused 0)
    -- int main(void){switch (3) {case 4294967299: ; case 3: ;} return 0;}
    × (judged ((109 ∷ 97 ∷ 105 ∷ 110 ∷ []) ∷ []) ([]) ((Function 1 (Then NoTrees (OfSpecifier (Keyword 1 word.Int))) (FunctionDeclarator 1 (DeclaredName 1 0) (Then NoTrees (OfDeclaration (Parameter 1 (Then NoTrees (OfSpecifier (Keyword 1 word.Void))) Absent))) false) (Block 1 (Then (Then NoTrees (OfStatement (Switch 1 (Number 1 3 true false 0) (SwitchBlock 1 (Then (Then NoTrees (OfStatement (Labelled 1 (Then NoTrees (OfStatement (Case 1 (Number 1 4294967299 true false 0)))) (ExpressionStatement 1 Absent)))) (OfStatement (Labelled 1 (Then NoTrees (OfStatement (Case 1 (Number 1 3 true false 0)))) (ExpressionStatement 1 Absent)))))))) (OfStatement (Return 1 (Present (OfExpression (Number 1 0 false false 0)))))))) ∷ []) ≡ Refused 0)
    -- int main(void){long n = 3; switch (n) {case 4294967299: ; case 3: ;} return 0;}
    × (judged ((109 ∷ 97 ∷ 105 ∷ 110 ∷ []) ∷ (110 ∷ []) ∷ []) ([]) ((Function 1 (Then NoTrees (OfSpecifier (Keyword 1 word.Int))) (FunctionDeclarator 1 (DeclaredName 1 0) (Then NoTrees (OfDeclaration (Parameter 1 (Then NoTrees (OfSpecifier (Keyword 1 word.Void))) Absent))) false) (Block 1 (Then (Then (Then NoTrees (OfDeclaration (Declaration 1 (Then NoTrees (OfSpecifier (Keyword 1 word.Long))) (Then NoTrees (OfDeclaration (InitDeclarator 1 (DeclaredName 1 1) (Present (OfInitializer (Initial 1 (Number 1 3 true false 0)))))))))) (OfStatement (Switch 1 (Name 1 1) (SwitchBlock 1 (Then (Then NoTrees (OfStatement (Labelled 1 (Then NoTrees (OfStatement (Case 1 (Number 1 4294967299 true false 0)))) (ExpressionStatement 1 Absent)))) (OfStatement (Labelled 1 (Then NoTrees (OfStatement (Case 1 (Number 1 3 true false 0)))) (ExpressionStatement 1 Absent)))))))) (OfStatement (Return 1 (Present (OfExpression (Number 1 0 false false 0)))))))) ∷ []) ≡ Accepted ((0 ∷ 1 ∷ 0 ∷ 8 ∷ 1 ∷ 0 ∷ []) ∷ []) ([]) ([]) ((1 ∷ 1 ∷ 1 ∷ 2 ∷ 1 ∷ 7 ∷ 1 ∷ 1 ∷ 1 ∷ 1 ∷ 0 ∷ 8 ∷ 4294967299 ∷ 4 ∷ 1 ∷ 8 ∷ 3 ∷ 4 ∷ 1 ∷ 99 ∷ 16 ∷ 1 ∷ 1 ∷ 99 ∷ []) ∷ []))
    -- int main(void){char c = 1; switch (c) {case 257: ; case 1: ;} return 0;}
    × (judged ((109 ∷ 97 ∷ 105 ∷ 110 ∷ []) ∷ (99 ∷ []) ∷ []) ([]) ((Function 1 (Then NoTrees (OfSpecifier (Keyword 1 word.Int))) (FunctionDeclarator 1 (DeclaredName 1 0) (Then NoTrees (OfDeclaration (Parameter 1 (Then NoTrees (OfSpecifier (Keyword 1 word.Void))) Absent))) false) (Block 1 (Then (Then (Then NoTrees (OfDeclaration (Declaration 1 (Then NoTrees (OfSpecifier (Keyword 1 word.Char))) (Then NoTrees (OfDeclaration (InitDeclarator 1 (DeclaredName 1 1) (Present (OfInitializer (Initial 1 (Number 1 1 true false 0)))))))))) (OfStatement (Switch 1 (Name 1 1) (SwitchBlock 1 (Then (Then NoTrees (OfStatement (Labelled 1 (Then NoTrees (OfStatement (Case 1 (Number 1 257 true false 0)))) (ExpressionStatement 1 Absent)))) (OfStatement (Labelled 1 (Then NoTrees (OfStatement (Case 1 (Number 1 1 true false 0)))) (ExpressionStatement 1 Absent)))))))) (OfStatement (Return 1 (Present (OfExpression (Number 1 0 false false 0)))))))) ∷ []) ≡ Accepted ((0 ∷ 1 ∷ 0 ∷ 1 ∷ 1 ∷ 0 ∷ []) ∷ []) ([]) ([]) ((1 ∷ 1 ∷ 1 ∷ 2 ∷ 1 ∷ 7 ∷ 1 ∷ 1 ∷ 1 ∷ 1 ∷ 0 ∷ 8 ∷ 257 ∷ 4 ∷ 1 ∷ 8 ∷ 1 ∷ 4 ∷ 1 ∷ 99 ∷ 16 ∷ 1 ∷ 1 ∷ 99 ∷ []) ∷ []))
    -- int main(void){int k = 1; switch (3) {case k: ;} return 0;}
    × (judged ((109 ∷ 97 ∷ 105 ∷ 110 ∷ []) ∷ (107 ∷ []) ∷ []) ([]) ((Function 1 (Then NoTrees (OfSpecifier (Keyword 1 word.Int))) (FunctionDeclarator 1 (DeclaredName 1 0) (Then NoTrees (OfDeclaration (Parameter 1 (Then NoTrees (OfSpecifier (Keyword 1 word.Void))) Absent))) false) (Block 1 (Then (Then (Then NoTrees (OfDeclaration (Declaration 1 (Then NoTrees (OfSpecifier (Keyword 1 word.Int))) (Then NoTrees (OfDeclaration (InitDeclarator 1 (DeclaredName 1 1) (Present (OfInitializer (Initial 1 (Number 1 1 true false 0)))))))))) (OfStatement (Switch 1 (Number 1 3 true false 0) (SwitchBlock 1 (Then NoTrees (OfStatement (Labelled 1 (Then NoTrees (OfStatement (Case 1 (Name 1 1)))) (ExpressionStatement 1 Absent)))))))) (OfStatement (Return 1 (Present (OfExpression (Number 1 0 false false 0)))))))) ∷ []) ≡ Refused 0)
    -- int main(void){switch (3) {case 1: switch (2) {case 1: ; default: ;} default: ;} return 0;}
    × (judged ((109 ∷ 97 ∷ 105 ∷ 110 ∷ []) ∷ []) ([]) ((Function 1 (Then NoTrees (OfSpecifier (Keyword 1 word.Int))) (FunctionDeclarator 1 (DeclaredName 1 0) (Then NoTrees (OfDeclaration (Parameter 1 (Then NoTrees (OfSpecifier (Keyword 1 word.Void))) Absent))) false) (Block 1 (Then (Then NoTrees (OfStatement (Switch 1 (Number 1 3 true false 0) (SwitchBlock 1 (Then (Then NoTrees (OfStatement (Labelled 1 (Then NoTrees (OfStatement (Case 1 (Number 1 1 true false 0)))) (Switch 1 (Number 1 2 true false 0) (SwitchBlock 1 (Then (Then NoTrees (OfStatement (Labelled 1 (Then NoTrees (OfStatement (Case 1 (Number 1 1 true false 0)))) (ExpressionStatement 1 Absent)))) (OfStatement (Labelled 1 (Then NoTrees (OfStatement (Default 1))) (ExpressionStatement 1 Absent))))))))) (OfStatement (Labelled 1 (Then NoTrees (OfStatement (Default 1))) (ExpressionStatement 1 Absent)))))))) (OfStatement (Return 1 (Present (OfExpression (Number 1 0 false false 0)))))))) ∷ []) ≡ Accepted ([]) ([]) ([]) ((1 ∷ 1 ∷ 0 ∷ 7 ∷ 1 ∷ 1 ∷ 1 ∷ 1 ∷ 0 ∷ 8 ∷ 1 ∷ 7 ∷ 1 ∷ 1 ∷ 1 ∷ 1 ∷ 0 ∷ 8 ∷ 1 ∷ 4 ∷ 1 ∷ 9 ∷ 4 ∷ 1 ∷ 99 ∷ 9 ∷ 4 ∷ 1 ∷ 99 ∷ 16 ∷ 1 ∷ 1 ∷ 99 ∷ []) ∷ []))
    -- int main(void){int *p = 0; switch (p) {case 0: ;} return 0;}
    × (judged ((109 ∷ 97 ∷ 105 ∷ 110 ∷ []) ∷ (112 ∷ []) ∷ []) ([]) ((Function 1 (Then NoTrees (OfSpecifier (Keyword 1 word.Int))) (FunctionDeclarator 1 (DeclaredName 1 0) (Then NoTrees (OfDeclaration (Parameter 1 (Then NoTrees (OfSpecifier (Keyword 1 word.Void))) Absent))) false) (Block 1 (Then (Then (Then NoTrees (OfDeclaration (Declaration 1 (Then NoTrees (OfSpecifier (Keyword 1 word.Int))) (Then NoTrees (OfDeclaration (InitDeclarator 1 (Pointer 1 0 (DeclaredName 1 1)) (Present (OfInitializer (Initial 1 (Number 1 0 false false 0)))))))))) (OfStatement (Switch 1 (Name 1 1) (SwitchBlock 1 (Then NoTrees (OfStatement (Labelled 1 (Then NoTrees (OfStatement (Case 1 (Number 1 0 false false 0)))) (ExpressionStatement 1 Absent)))))))) (OfStatement (Return 1 (Present (OfExpression (Number 1 0 false false 0)))))))) ∷ []) ≡ Refused 0)
    -- int main(void){switch (3) {int a; case 1: a = 2; int b; default: b = 3;} return 0;}
    × (judged ((109 ∷ 97 ∷ 105 ∷ 110 ∷ []) ∷ (97 ∷ []) ∷ (98 ∷ []) ∷ []) ([]) ((Function 1 (Then NoTrees (OfSpecifier (Keyword 1 word.Int))) (FunctionDeclarator 1 (DeclaredName 1 0) (Then NoTrees (OfDeclaration (Parameter 1 (Then NoTrees (OfSpecifier (Keyword 1 word.Void))) Absent))) false) (Block 1 (Then (Then NoTrees (OfStatement (Switch 1 (Number 1 3 true false 0) (SwitchBlock 1 (Then (Then (Then (Then NoTrees (OfDeclaration (Declaration 1 (Then NoTrees (OfSpecifier (Keyword 1 word.Int))) (Then NoTrees (OfDeclaration (InitDeclarator 1 (DeclaredName 1 1) Absent)))))) (OfStatement (Labelled 1 (Then NoTrees (OfStatement (Case 1 (Number 1 1 true false 0)))) (ExpressionStatement 1 (Present (OfExpression (Assign 1 assign.Assign (Name 1 1) (Number 1 2 true false 0)))))))) (OfDeclaration (Declaration 1 (Then NoTrees (OfSpecifier (Keyword 1 word.Int))) (Then NoTrees (OfDeclaration (InitDeclarator 1 (DeclaredName 1 2) Absent)))))) (OfStatement (Labelled 1 (Then NoTrees (OfStatement (Default 1))) (ExpressionStatement 1 (Present (OfExpression (Assign 1 assign.Assign (Name 1 2) (Number 1 3 true false 0)))))))))))) (OfStatement (Return 1 (Present (OfExpression (Number 1 0 false false 0)))))))) ∷ []) ≡ Accepted ((0 ∷ 0 ∷ []) ∷ (0 ∷ 0 ∷ []) ∷ []) ([]) ([]) ((1 ∷ 1 ∷ 0 ∷ 7 ∷ 1 ∷ 1 ∷ 1 ∷ 1 ∷ 2 ∷ 2 ∷ 1 ∷ 8 ∷ 1 ∷ 3 ∷ 1 ∷ 1 ∷ 2 ∷ 1 ∷ 9 ∷ 3 ∷ 1 ∷ 1 ∷ 99 ∷ 16 ∷ 1 ∷ 1 ∷ 99 ∷ []) ∷ []))
    -- int main(void){switch (sizeof(enum { A, B })) {case B: return A;} return 0;}
    × (judged ((109 ∷ 97 ∷ 105 ∷ 110 ∷ []) ∷ (65 ∷ []) ∷ (66 ∷ []) ∷ []) ([]) ((Function 1 (Then NoTrees (OfSpecifier (Keyword 1 word.Int))) (FunctionDeclarator 1 (DeclaredName 1 0) (Then NoTrees (OfDeclaration (Parameter 1 (Then NoTrees (OfSpecifier (Keyword 1 word.Void))) Absent))) false) (Block 1 (Then (Then NoTrees (OfStatement (Switch 1 (SizeofType 1 (TypeName 1 (Then NoTrees (OfSpecifier (Enumeration 1 None (Then (Then NoTrees (OfDeclaration (Enumerator 1 1 Absent))) (OfDeclaration (Enumerator 1 2 Absent))) false))) Absent)) (SwitchBlock 1 (Then NoTrees (OfStatement (Labelled 1 (Then NoTrees (OfStatement (Case 1 (Name 1 2)))) (Return 1 (Present (OfExpression (Name 1 1))))))))))) (OfStatement (Return 1 (Present (OfExpression (Number 1 0 false false 0)))))))) ∷ []) ≡ Accepted ([]) ([]) ([]) ((1 ∷ 1 ∷ 0 ∷ 7 ∷ 1 ∷ 1 ∷ 1 ∷ 1 ∷ 0 ∷ 8 ∷ 1 ∷ 16 ∷ 1 ∷ 1 ∷ 99 ∷ 16 ∷ 1 ∷ 1 ∷ 99 ∷ []) ∷ []))
unfolding type_of_words library_named are_compatible layouts_of initialized_object values
switches = (refl, refl, refl, refl, refl, refl, refl, refl, refl, refl, refl)

-- 6.8.2p2, 6.8.4p3, 6.2.1p4: scopes of statements
scopes :
    -- struct s { int a; } x; int main(void){if (x) ; return 0;}
    (judged ((115 ∷ []) ∷ (97 ∷ []) ∷ (120 ∷ []) ∷ (109 ∷ 97 ∷ 105 ∷ 110 ∷ []) ∷ []) ([]) ((Declaration 1 (Then NoTrees (OfSpecifier (Composite 1 word.Struct (Some 0) (Then NoTrees (OfDeclaration (MemberDeclaration 1 (Then NoTrees (OfSpecifier (Keyword 1 word.Int))) (Then NoTrees (OfDeclarator (DeclaredName 1 1))))))))) (Then NoTrees (OfDeclaration (InitDeclarator 1 (DeclaredName 1 2) Absent)))) ∷ (Function 1 (Then NoTrees (OfSpecifier (Keyword 1 word.Int))) (FunctionDeclarator 1 (DeclaredName 1 3) (Then NoTrees (OfDeclaration (Parameter 1 (Then NoTrees (OfSpecifier (Keyword 1 word.Void))) Absent))) false) (Block 1 (Then (Then NoTrees (OfStatement (If 1 (Name 1 2) (ExpressionStatement 1 Absent)))) (OfStatement (Return 1 (Present (OfExpression (Number 1 0 false false 0)))))))) ∷ []) ≡ Refused 1)
    -- int main(void){if (sizeof(struct t { int a; }) == 4) {struct t y; y.a = 1;} return 0;}
    × (judged ((109 ∷ 97 ∷ 105 ∷ 110 ∷ []) ∷ (116 ∷ []) ∷ (97 ∷ []) ∷ (121 ∷ []) ∷ []) ([]) ((Function 1 (Then NoTrees (OfSpecifier (Keyword 1 word.Int))) (FunctionDeclarator 1 (DeclaredName 1 0) (Then NoTrees (OfDeclaration (Parameter 1 (Then NoTrees (OfSpecifier (Keyword 1 word.Void))) Absent))) false) (Block 1 (Then (Then NoTrees (OfStatement (If 1 (Binary 1 op.Equal (SizeofType 1 (TypeName 1 (Then NoTrees (OfSpecifier (Composite 1 word.Struct (Some 1) (Then NoTrees (OfDeclaration (MemberDeclaration 1 (Then NoTrees (OfSpecifier (Keyword 1 word.Int))) (Then NoTrees (OfDeclarator (DeclaredName 1 2))))))))) Absent)) (Number 1 4 true false 0)) (Block 1 (Then (Then NoTrees (OfDeclaration (Declaration 1 (Then NoTrees (OfSpecifier (Tag 1 word.Struct 1))) (Then NoTrees (OfDeclaration (InitDeclarator 1 (DeclaredName 1 3) Absent)))))) (OfStatement (ExpressionStatement 1 (Present (OfExpression (Assign 1 assign.Assign (Member 1 (Name 1 3) 2) (Number 1 1 true false 0))))))))))) (OfStatement (Return 1 (Present (OfExpression (Number 1 0 false false 0)))))))) ∷ []) ≡ Accepted ((0 ∷ 0 ∷ []) ∷ []) ([]) ([]) ((1 ∷ 1 ∷ 0 ∷ 5 ∷ 1 ∷ 1 ∷ 1 ∷ 1 ∷ 1 ∷ 2 ∷ 1 ∷ 3 ∷ 1 ∷ 1 ∷ 99 ∷ 16 ∷ 1 ∷ 1 ∷ 99 ∷ []) ∷ []))
    -- int main(void){if (sizeof(struct t { int a; }) == 4) ; struct t y; return 0;}
    × (judged ((109 ∷ 97 ∷ 105 ∷ 110 ∷ []) ∷ (116 ∷ []) ∷ (97 ∷ []) ∷ (121 ∷ []) ∷ []) ([]) ((Function 1 (Then NoTrees (OfSpecifier (Keyword 1 word.Int))) (FunctionDeclarator 1 (DeclaredName 1 0) (Then NoTrees (OfDeclaration (Parameter 1 (Then NoTrees (OfSpecifier (Keyword 1 word.Void))) Absent))) false) (Block 1 (Then (Then (Then NoTrees (OfStatement (If 1 (Binary 1 op.Equal (SizeofType 1 (TypeName 1 (Then NoTrees (OfSpecifier (Composite 1 word.Struct (Some 1) (Then NoTrees (OfDeclaration (MemberDeclaration 1 (Then NoTrees (OfSpecifier (Keyword 1 word.Int))) (Then NoTrees (OfDeclarator (DeclaredName 1 2))))))))) Absent)) (Number 1 4 true false 0)) (ExpressionStatement 1 Absent)))) (OfDeclaration (Declaration 1 (Then NoTrees (OfSpecifier (Tag 1 word.Struct 1))) (Then NoTrees (OfDeclaration (InitDeclarator 1 (DeclaredName 1 3) Absent)))))) (OfStatement (Return 1 (Present (OfExpression (Number 1 0 false false 0)))))))) ∷ []) ≡ Refused 0)
    -- int main(void){int a; {int a; a = 1;} a = 2; return a;}
    × (judged ((109 ∷ 97 ∷ 105 ∷ 110 ∷ []) ∷ (97 ∷ []) ∷ []) ([]) ((Function 1 (Then NoTrees (OfSpecifier (Keyword 1 word.Int))) (FunctionDeclarator 1 (DeclaredName 1 0) (Then NoTrees (OfDeclaration (Parameter 1 (Then NoTrees (OfSpecifier (Keyword 1 word.Void))) Absent))) false) (Block 1 (Then (Then (Then (Then NoTrees (OfDeclaration (Declaration 1 (Then NoTrees (OfSpecifier (Keyword 1 word.Int))) (Then NoTrees (OfDeclaration (InitDeclarator 1 (DeclaredName 1 1) Absent)))))) (OfStatement (Block 1 (Then (Then NoTrees (OfDeclaration (Declaration 1 (Then NoTrees (OfSpecifier (Keyword 1 word.Int))) (Then NoTrees (OfDeclaration (InitDeclarator 1 (DeclaredName 1 1) Absent)))))) (OfStatement (ExpressionStatement 1 (Present (OfExpression (Assign 1 assign.Assign (Name 1 1) (Number 1 1 true false 0)))))))))) (OfStatement (ExpressionStatement 1 (Present (OfExpression (Assign 1 assign.Assign (Name 1 1) (Number 1 2 true false 0))))))) (OfStatement (Return 1 (Present (OfExpression (Name 1 1)))))))) ∷ []) ≡ Accepted ((0 ∷ 0 ∷ []) ∷ (0 ∷ 0 ∷ []) ∷ []) ([]) ([]) ((1 ∷ 1 ∷ 1 ∷ 2 ∷ 1 ∷ 1 ∷ 1 ∷ 1 ∷ 2 ∷ 1 ∷ 3 ∷ 1 ∷ 1 ∷ 99 ∷ 3 ∷ 1 ∷ 1 ∷ 16 ∷ 1 ∷ 1 ∷ 99 ∷ []) ∷ []))
    -- int main(void){int a; int a; return 0;}
    × (judged ((109 ∷ 97 ∷ 105 ∷ 110 ∷ []) ∷ (97 ∷ []) ∷ []) ([]) ((Function 1 (Then NoTrees (OfSpecifier (Keyword 1 word.Int))) (FunctionDeclarator 1 (DeclaredName 1 0) (Then NoTrees (OfDeclaration (Parameter 1 (Then NoTrees (OfSpecifier (Keyword 1 word.Void))) Absent))) false) (Block 1 (Then (Then (Then NoTrees (OfDeclaration (Declaration 1 (Then NoTrees (OfSpecifier (Keyword 1 word.Int))) (Then NoTrees (OfDeclaration (InitDeclarator 1 (DeclaredName 1 1) Absent)))))) (OfDeclaration (Declaration 1 (Then NoTrees (OfSpecifier (Keyword 1 word.Int))) (Then NoTrees (OfDeclaration (InitDeclarator 1 (DeclaredName 1 1) Absent)))))) (OfStatement (Return 1 (Present (OfExpression (Number 1 0 false false 0)))))))) ∷ []) ≡ Refused 0)
unfolding type_of_words library_named are_compatible layouts_of initialized_object values
scopes = (refl, refl, refl, refl, refl)

-- 6.8.6.4: `return`
returns :
    -- void f(void){return;} int main(void){f(); return 0;}
    (judged ((102 ∷ []) ∷ (109 ∷ 97 ∷ 105 ∷ 110 ∷ []) ∷ []) ([]) ((Function 1 (Then NoTrees (OfSpecifier (Keyword 1 word.Void))) (FunctionDeclarator 1 (DeclaredName 1 0) (Then NoTrees (OfDeclaration (Parameter 1 (Then NoTrees (OfSpecifier (Keyword 1 word.Void))) Absent))) false) (Block 1 (Then NoTrees (OfStatement (Return 1 Absent))))) ∷ (Function 1 (Then NoTrees (OfSpecifier (Keyword 1 word.Int))) (FunctionDeclarator 1 (DeclaredName 1 1) (Then NoTrees (OfDeclaration (Parameter 1 (Then NoTrees (OfSpecifier (Keyword 1 word.Void))) Absent))) false) (Block 1 (Then (Then NoTrees (OfStatement (ExpressionStatement 1 (Present (OfExpression (Call 1 (Name 1 0) NoArguments)))))) (OfStatement (Return 1 (Present (OfExpression (Number 1 0 false false 0)))))))) ∷ []) ≡ Accepted ([]) ([]) ([]) ((1 ∷ 1 ∷ 0 ∷ 16 ∷ 1 ∷ 0 ∷ 99 ∷ []) ∷ (1 ∷ 1 ∷ 0 ∷ 3 ∷ 1 ∷ 1 ∷ 16 ∷ 1 ∷ 1 ∷ 99 ∷ []) ∷ []))
    -- void f(void){return 1;} int main(void){return 0;}
    × (judged ((102 ∷ []) ∷ (109 ∷ 97 ∷ 105 ∷ 110 ∷ []) ∷ []) ([]) ((Function 1 (Then NoTrees (OfSpecifier (Keyword 1 word.Void))) (FunctionDeclarator 1 (DeclaredName 1 0) (Then NoTrees (OfDeclaration (Parameter 1 (Then NoTrees (OfSpecifier (Keyword 1 word.Void))) Absent))) false) (Block 1 (Then NoTrees (OfStatement (Return 1 (Present (OfExpression (Number 1 1 true false 0)))))))) ∷ (Function 1 (Then NoTrees (OfSpecifier (Keyword 1 word.Int))) (FunctionDeclarator 1 (DeclaredName 1 1) (Then NoTrees (OfDeclaration (Parameter 1 (Then NoTrees (OfSpecifier (Keyword 1 word.Void))) Absent))) false) (Block 1 (Then NoTrees (OfStatement (Return 1 (Present (OfExpression (Number 1 0 false false 0)))))))) ∷ []) ≡ Refused 0)
    -- int f(void){return;} int main(void){return 0;}
    × (judged ((102 ∷ []) ∷ (109 ∷ 97 ∷ 105 ∷ 110 ∷ []) ∷ []) ([]) ((Function 1 (Then NoTrees (OfSpecifier (Keyword 1 word.Int))) (FunctionDeclarator 1 (DeclaredName 1 0) (Then NoTrees (OfDeclaration (Parameter 1 (Then NoTrees (OfSpecifier (Keyword 1 word.Void))) Absent))) false) (Block 1 (Then NoTrees (OfStatement (Return 1 Absent))))) ∷ (Function 1 (Then NoTrees (OfSpecifier (Keyword 1 word.Int))) (FunctionDeclarator 1 (DeclaredName 1 1) (Then NoTrees (OfDeclaration (Parameter 1 (Then NoTrees (OfSpecifier (Keyword 1 word.Void))) Absent))) false) (Block 1 (Then NoTrees (OfStatement (Return 1 (Present (OfExpression (Number 1 0 false false 0)))))))) ∷ []) ≡ Refused 0)
    -- void g(void){} void f(void){return g();} int main(void){return 0;}
    × (judged ((103 ∷ []) ∷ (102 ∷ []) ∷ (109 ∷ 97 ∷ 105 ∷ 110 ∷ []) ∷ []) ([]) ((Function 1 (Then NoTrees (OfSpecifier (Keyword 1 word.Void))) (FunctionDeclarator 1 (DeclaredName 1 0) (Then NoTrees (OfDeclaration (Parameter 1 (Then NoTrees (OfSpecifier (Keyword 1 word.Void))) Absent))) false) (Block 1 NoTrees)) ∷ (Function 1 (Then NoTrees (OfSpecifier (Keyword 1 word.Void))) (FunctionDeclarator 1 (DeclaredName 1 1) (Then NoTrees (OfDeclaration (Parameter 1 (Then NoTrees (OfSpecifier (Keyword 1 word.Void))) Absent))) false) (Block 1 (Then NoTrees (OfStatement (Return 1 (Present (OfExpression (Call 1 (Name 1 0) NoArguments)))))))) ∷ (Function 1 (Then NoTrees (OfSpecifier (Keyword 1 word.Int))) (FunctionDeclarator 1 (DeclaredName 1 2) (Then NoTrees (OfDeclaration (Parameter 1 (Then NoTrees (OfSpecifier (Keyword 1 word.Void))) Absent))) false) (Block 1 (Then NoTrees (OfStatement (Return 1 (Present (OfExpression (Number 1 0 false false 0)))))))) ∷ []) ≡ Refused 1)
    -- char f(int n){return n;} int main(void){return f(3);}
    × (judged ((102 ∷ []) ∷ (110 ∷ []) ∷ (109 ∷ 97 ∷ 105 ∷ 110 ∷ []) ∷ []) ([]) ((Function 1 (Then NoTrees (OfSpecifier (Keyword 1 word.Char))) (FunctionDeclarator 1 (DeclaredName 1 0) (Then NoTrees (OfDeclaration (Parameter 1 (Then NoTrees (OfSpecifier (Keyword 1 word.Int))) (Present (OfDeclarator (DeclaredName 1 1)))))) false) (Block 1 (Then NoTrees (OfStatement (Return 1 (Present (OfExpression (Name 1 1)))))))) ∷ (Function 1 (Then NoTrees (OfSpecifier (Keyword 1 word.Int))) (FunctionDeclarator 1 (DeclaredName 1 2) (Then NoTrees (OfDeclaration (Parameter 1 (Then NoTrees (OfSpecifier (Keyword 1 word.Void))) Absent))) false) (Block 1 (Then NoTrees (OfStatement (Return 1 (Present (OfExpression (Call 1 (Name 1 0) (Argument NoArguments (Number 1 3 true false 0)))))))))) ∷ []) ≡ Accepted ((0 ∷ 0 ∷ []) ∷ []) ([]) ([]) ((1 ∷ 1 ∷ 0 ∷ 16 ∷ 1 ∷ 1 ∷ 99 ∷ []) ∷ (1 ∷ 1 ∷ 0 ∷ 16 ∷ 1 ∷ 1 ∷ 99 ∷ []) ∷ []))
    -- int *f(void){return 0;} int main(void){return 0;}
    × (judged ((102 ∷ []) ∷ (109 ∷ 97 ∷ 105 ∷ 110 ∷ []) ∷ []) ([]) ((Function 1 (Then NoTrees (OfSpecifier (Keyword 1 word.Int))) (Pointer 1 0 (FunctionDeclarator 1 (DeclaredName 1 0) (Then NoTrees (OfDeclaration (Parameter 1 (Then NoTrees (OfSpecifier (Keyword 1 word.Void))) Absent))) false)) (Block 1 (Then NoTrees (OfStatement (Return 1 (Present (OfExpression (Number 1 0 false false 0)))))))) ∷ (Function 1 (Then NoTrees (OfSpecifier (Keyword 1 word.Int))) (FunctionDeclarator 1 (DeclaredName 1 1) (Then NoTrees (OfDeclaration (Parameter 1 (Then NoTrees (OfSpecifier (Keyword 1 word.Void))) Absent))) false) (Block 1 (Then NoTrees (OfStatement (Return 1 (Present (OfExpression (Number 1 0 false false 0)))))))) ∷ []) ≡ Accepted ([]) ([]) ([]) ((1 ∷ 1 ∷ 0 ∷ 16 ∷ 1 ∷ 1 ∷ 99 ∷ []) ∷ (1 ∷ 1 ∷ 0 ∷ 16 ∷ 1 ∷ 1 ∷ 99 ∷ []) ∷ []))
    -- int *f(void){return 1;} int main(void){return 0;}
    × (judged ((102 ∷ []) ∷ (109 ∷ 97 ∷ 105 ∷ 110 ∷ []) ∷ []) ([]) ((Function 1 (Then NoTrees (OfSpecifier (Keyword 1 word.Int))) (Pointer 1 0 (FunctionDeclarator 1 (DeclaredName 1 0) (Then NoTrees (OfDeclaration (Parameter 1 (Then NoTrees (OfSpecifier (Keyword 1 word.Void))) Absent))) false)) (Block 1 (Then NoTrees (OfStatement (Return 1 (Present (OfExpression (Number 1 1 true false 0)))))))) ∷ (Function 1 (Then NoTrees (OfSpecifier (Keyword 1 word.Int))) (FunctionDeclarator 1 (DeclaredName 1 1) (Then NoTrees (OfDeclaration (Parameter 1 (Then NoTrees (OfSpecifier (Keyword 1 word.Void))) Absent))) false) (Block 1 (Then NoTrees (OfStatement (Return 1 (Present (OfExpression (Number 1 0 false false 0)))))))) ∷ []) ≡ Refused 0)
    -- struct s { int a; }; struct s f(void){struct s x = {1}; return x;} int main(void){return f().a;}
    × (judged ((115 ∷ []) ∷ (97 ∷ []) ∷ (102 ∷ []) ∷ (120 ∷ []) ∷ (109 ∷ 97 ∷ 105 ∷ 110 ∷ []) ∷ []) ([]) ((Declaration 1 (Then NoTrees (OfSpecifier (Composite 1 word.Struct (Some 0) (Then NoTrees (OfDeclaration (MemberDeclaration 1 (Then NoTrees (OfSpecifier (Keyword 1 word.Int))) (Then NoTrees (OfDeclarator (DeclaredName 1 1))))))))) NoTrees) ∷ (Function 1 (Then NoTrees (OfSpecifier (Tag 1 word.Struct 0))) (FunctionDeclarator 1 (DeclaredName 1 2) (Then NoTrees (OfDeclaration (Parameter 1 (Then NoTrees (OfSpecifier (Keyword 1 word.Void))) Absent))) false) (Block 1 (Then (Then NoTrees (OfDeclaration (Declaration 1 (Then NoTrees (OfSpecifier (Tag 1 word.Struct 0))) (Then NoTrees (OfDeclaration (InitDeclarator 1 (DeclaredName 1 3) (Present (OfInitializer (Braces 1 (Then NoTrees (OfInitializer (Initial 1 (Number 1 1 true false 0)))) false))))))))) (OfStatement (Return 1 (Present (OfExpression (Name 1 3)))))))) ∷ (Function 1 (Then NoTrees (OfSpecifier (Keyword 1 word.Int))) (FunctionDeclarator 1 (DeclaredName 1 4) (Then NoTrees (OfDeclaration (Parameter 1 (Then NoTrees (OfSpecifier (Keyword 1 word.Void))) Absent))) false) (Block 1 (Then NoTrees (OfStatement (Return 1 (Present (OfExpression (Member 1 (Call 1 (Name 1 2) NoArguments) 1)))))))) ∷ []) ≡ Accepted ((1 ∷ 1 ∷ 0 ∷ 4 ∷ 1 ∷ 0 ∷ []) ∷ []) ([]) ([]) ((1 ∷ 1 ∷ 1 ∷ 2 ∷ 1 ∷ 16 ∷ 1 ∷ 1 ∷ 99 ∷ []) ∷ (1 ∷ 1 ∷ 0 ∷ 16 ∷ 1 ∷ 1 ∷ 99 ∷ []) ∷ []))
    -- struct s; struct s f(void){return 0;} int main(void){return 0;}
    × (judged ((115 ∷ []) ∷ (102 ∷ []) ∷ (109 ∷ 97 ∷ 105 ∷ 110 ∷ []) ∷ []) ([]) ((Declaration 1 (Then NoTrees (OfSpecifier (Tag 1 word.Struct 0))) NoTrees) ∷ (Function 1 (Then NoTrees (OfSpecifier (Tag 1 word.Struct 0))) (FunctionDeclarator 1 (DeclaredName 1 1) (Then NoTrees (OfDeclaration (Parameter 1 (Then NoTrees (OfSpecifier (Keyword 1 word.Void))) Absent))) false) (Block 1 (Then NoTrees (OfStatement (Return 1 (Present (OfExpression (Number 1 0 false false 0)))))))) ∷ (Function 1 (Then NoTrees (OfSpecifier (Keyword 1 word.Int))) (FunctionDeclarator 1 (DeclaredName 1 2) (Then NoTrees (OfDeclaration (Parameter 1 (Then NoTrees (OfSpecifier (Keyword 1 word.Void))) Absent))) false) (Block 1 (Then NoTrees (OfStatement (Return 1 (Present (OfExpression (Number 1 0 false false 0)))))))) ∷ []) ≡ Refused 1)
unfolding type_of_words library_named are_compatible layouts_of initialized_object values
returns = (refl, refl, refl, refl, refl, refl, refl, refl, refl)

-- 6.9.1: definitions of functions, and their parameters
definitions :
    -- int f(int){return 0;} int main(void){return 0;}
    (judged ((102 ∷ []) ∷ (109 ∷ 97 ∷ 105 ∷ 110 ∷ []) ∷ []) ([]) ((Function 1 (Then NoTrees (OfSpecifier (Keyword 1 word.Int))) (FunctionDeclarator 1 (DeclaredName 1 0) (Then NoTrees (OfDeclaration (Parameter 1 (Then NoTrees (OfSpecifier (Keyword 1 word.Int))) Absent))) false) (Block 1 (Then NoTrees (OfStatement (Return 1 (Present (OfExpression (Number 1 0 false false 0)))))))) ∷ (Function 1 (Then NoTrees (OfSpecifier (Keyword 1 word.Int))) (FunctionDeclarator 1 (DeclaredName 1 1) (Then NoTrees (OfDeclaration (Parameter 1 (Then NoTrees (OfSpecifier (Keyword 1 word.Void))) Absent))) false) (Block 1 (Then NoTrees (OfStatement (Return 1 (Present (OfExpression (Number 1 0 false false 0)))))))) ∷ []) ≡ Refused 0)
    -- int f(struct s *p){return 0;} int main(void){return 0;}
    × (judged ((102 ∷ []) ∷ (115 ∷ []) ∷ (112 ∷ []) ∷ (109 ∷ 97 ∷ 105 ∷ 110 ∷ []) ∷ []) ([]) ((Function 1 (Then NoTrees (OfSpecifier (Keyword 1 word.Int))) (FunctionDeclarator 1 (DeclaredName 1 0) (Then NoTrees (OfDeclaration (Parameter 1 (Then NoTrees (OfSpecifier (Tag 1 word.Struct 1))) (Present (OfDeclarator (Pointer 1 0 (DeclaredName 1 2))))))) false) (Block 1 (Then NoTrees (OfStatement (Return 1 (Present (OfExpression (Number 1 0 false false 0)))))))) ∷ (Function 1 (Then NoTrees (OfSpecifier (Keyword 1 word.Int))) (FunctionDeclarator 1 (DeclaredName 1 3) (Then NoTrees (OfDeclaration (Parameter 1 (Then NoTrees (OfSpecifier (Keyword 1 word.Void))) Absent))) false) (Block 1 (Then NoTrees (OfStatement (Return 1 (Present (OfExpression (Number 1 0 false false 0)))))))) ∷ []) ≡ Accepted ((0 ∷ 0 ∷ []) ∷ []) ([]) ([]) ((1 ∷ 1 ∷ 0 ∷ 16 ∷ 1 ∷ 1 ∷ 99 ∷ []) ∷ (1 ∷ 1 ∷ 0 ∷ 16 ∷ 1 ∷ 1 ∷ 99 ∷ []) ∷ []))
    -- int f(struct s { int a; } *p){struct s x; x.a = 1; return x.a;} int main(void){return 0;}
    × (judged ((102 ∷ []) ∷ (115 ∷ []) ∷ (97 ∷ []) ∷ (112 ∷ []) ∷ (120 ∷ []) ∷ (109 ∷ 97 ∷ 105 ∷ 110 ∷ []) ∷ []) ([]) ((Function 1 (Then NoTrees (OfSpecifier (Keyword 1 word.Int))) (FunctionDeclarator 1 (DeclaredName 1 0) (Then NoTrees (OfDeclaration (Parameter 1 (Then NoTrees (OfSpecifier (Composite 1 word.Struct (Some 1) (Then NoTrees (OfDeclaration (MemberDeclaration 1 (Then NoTrees (OfSpecifier (Keyword 1 word.Int))) (Then NoTrees (OfDeclarator (DeclaredName 1 2))))))))) (Present (OfDeclarator (Pointer 1 0 (DeclaredName 1 3))))))) false) (Block 1 (Then (Then (Then NoTrees (OfDeclaration (Declaration 1 (Then NoTrees (OfSpecifier (Tag 1 word.Struct 1))) (Then NoTrees (OfDeclaration (InitDeclarator 1 (DeclaredName 1 4) Absent)))))) (OfStatement (ExpressionStatement 1 (Present (OfExpression (Assign 1 assign.Assign (Member 1 (Name 1 4) 2) (Number 1 1 true false 0))))))) (OfStatement (Return 1 (Present (OfExpression (Member 1 (Name 1 4) 2)))))))) ∷ (Function 1 (Then NoTrees (OfSpecifier (Keyword 1 word.Int))) (FunctionDeclarator 1 (DeclaredName 1 5) (Then NoTrees (OfDeclaration (Parameter 1 (Then NoTrees (OfSpecifier (Keyword 1 word.Void))) Absent))) false) (Block 1 (Then NoTrees (OfStatement (Return 1 (Present (OfExpression (Number 1 0 false false 0)))))))) ∷ []) ≡ Accepted ((0 ∷ 0 ∷ []) ∷ (0 ∷ 0 ∷ []) ∷ []) ([]) ([]) ((1 ∷ 1 ∷ 1 ∷ 2 ∷ 1 ∷ 3 ∷ 1 ∷ 1 ∷ 16 ∷ 1 ∷ 1 ∷ 99 ∷ []) ∷ (1 ∷ 1 ∷ 0 ∷ 16 ∷ 1 ∷ 1 ∷ 99 ∷ []) ∷ []))
    -- int f(int n){int n; return n;} int main(void){return 0;}
    × (judged ((102 ∷ []) ∷ (110 ∷ []) ∷ (109 ∷ 97 ∷ 105 ∷ 110 ∷ []) ∷ []) ([]) ((Function 1 (Then NoTrees (OfSpecifier (Keyword 1 word.Int))) (FunctionDeclarator 1 (DeclaredName 1 0) (Then NoTrees (OfDeclaration (Parameter 1 (Then NoTrees (OfSpecifier (Keyword 1 word.Int))) (Present (OfDeclarator (DeclaredName 1 1)))))) false) (Block 1 (Then (Then NoTrees (OfDeclaration (Declaration 1 (Then NoTrees (OfSpecifier (Keyword 1 word.Int))) (Then NoTrees (OfDeclaration (InitDeclarator 1 (DeclaredName 1 1) Absent)))))) (OfStatement (Return 1 (Present (OfExpression (Name 1 1)))))))) ∷ (Function 1 (Then NoTrees (OfSpecifier (Keyword 1 word.Int))) (FunctionDeclarator 1 (DeclaredName 1 2) (Then NoTrees (OfDeclaration (Parameter 1 (Then NoTrees (OfSpecifier (Keyword 1 word.Void))) Absent))) false) (Block 1 (Then NoTrees (OfStatement (Return 1 (Present (OfExpression (Number 1 0 false false 0)))))))) ∷ []) ≡ Refused 0)
    -- int f(int n){{int n; n = 1;} return n;} int main(void){return 0;}
    × (judged ((102 ∷ []) ∷ (110 ∷ []) ∷ (109 ∷ 97 ∷ 105 ∷ 110 ∷ []) ∷ []) ([]) ((Function 1 (Then NoTrees (OfSpecifier (Keyword 1 word.Int))) (FunctionDeclarator 1 (DeclaredName 1 0) (Then NoTrees (OfDeclaration (Parameter 1 (Then NoTrees (OfSpecifier (Keyword 1 word.Int))) (Present (OfDeclarator (DeclaredName 1 1)))))) false) (Block 1 (Then (Then NoTrees (OfStatement (Block 1 (Then (Then NoTrees (OfDeclaration (Declaration 1 (Then NoTrees (OfSpecifier (Keyword 1 word.Int))) (Then NoTrees (OfDeclaration (InitDeclarator 1 (DeclaredName 1 1) Absent)))))) (OfStatement (ExpressionStatement 1 (Present (OfExpression (Assign 1 assign.Assign (Name 1 1) (Number 1 1 true false 0)))))))))) (OfStatement (Return 1 (Present (OfExpression (Name 1 1)))))))) ∷ (Function 1 (Then NoTrees (OfSpecifier (Keyword 1 word.Int))) (FunctionDeclarator 1 (DeclaredName 1 2) (Then NoTrees (OfDeclaration (Parameter 1 (Then NoTrees (OfSpecifier (Keyword 1 word.Void))) Absent))) false) (Block 1 (Then NoTrees (OfStatement (Return 1 (Present (OfExpression (Number 1 0 false false 0)))))))) ∷ []) ≡ Accepted ((0 ∷ 0 ∷ []) ∷ (0 ∷ 0 ∷ []) ∷ []) ([]) ([]) ((1 ∷ 1 ∷ 0 ∷ 1 ∷ 1 ∷ 1 ∷ 2 ∷ 1 ∷ 3 ∷ 1 ∷ 1 ∷ 99 ∷ 16 ∷ 1 ∷ 1 ∷ 99 ∷ []) ∷ (1 ∷ 1 ∷ 0 ∷ 16 ∷ 1 ∷ 1 ∷ 99 ∷ []) ∷ []))
    -- int f(int a[3], int b){return a[0] + b;} int main(void){int x[3] = {1, 2, 3}; return f(x, 2);}
    × (judged ((102 ∷ []) ∷ (97 ∷ []) ∷ (98 ∷ []) ∷ (109 ∷ 97 ∷ 105 ∷ 110 ∷ []) ∷ (120 ∷ []) ∷ []) ([]) ((Function 1 (Then NoTrees (OfSpecifier (Keyword 1 word.Int))) (FunctionDeclarator 1 (DeclaredName 1 0) (Then (Then NoTrees (OfDeclaration (Parameter 1 (Then NoTrees (OfSpecifier (Keyword 1 word.Int))) (Present (OfDeclarator (Array 1 (DeclaredName 1 1) (Present (OfExpression (Number 1 3 true false 0))))))))) (OfDeclaration (Parameter 1 (Then NoTrees (OfSpecifier (Keyword 1 word.Int))) (Present (OfDeclarator (DeclaredName 1 2)))))) false) (Block 1 (Then NoTrees (OfStatement (Return 1 (Present (OfExpression (Binary 1 op.Add (Index 1 (Name 1 1) (Number 1 0 false false 0)) (Name 1 2))))))))) ∷ (Function 1 (Then NoTrees (OfSpecifier (Keyword 1 word.Int))) (FunctionDeclarator 1 (DeclaredName 1 3) (Then NoTrees (OfDeclaration (Parameter 1 (Then NoTrees (OfSpecifier (Keyword 1 word.Void))) Absent))) false) (Block 1 (Then (Then NoTrees (OfDeclaration (Declaration 1 (Then NoTrees (OfSpecifier (Keyword 1 word.Int))) (Then NoTrees (OfDeclaration (InitDeclarator 1 (Array 1 (DeclaredName 1 4) (Present (OfExpression (Number 1 3 true false 0)))) (Present (OfInitializer (Braces 1 (Then (Then (Then NoTrees (OfInitializer (Initial 1 (Number 1 1 true false 0)))) (OfInitializer (Initial 1 (Number 1 2 true false 0)))) (OfInitializer (Initial 1 (Number 1 3 true false 0)))) false))))))))) (OfStatement (Return 1 (Present (OfExpression (Call 1 (Name 1 0) (Argument (Argument NoArguments (Name 1 4)) (Number 1 2 true false 0)))))))))) ∷ []) ≡ Accepted ((0 ∷ 0 ∷ []) ∷ (0 ∷ 0 ∷ []) ∷ (1 ∷ 3 ∷ 0 ∷ 4 ∷ 1 ∷ 0 ∷ 4 ∷ 4 ∷ 1 ∷ 0 ∷ 8 ∷ 4 ∷ 1 ∷ 0 ∷ []) ∷ []) ([]) ([]) ((1 ∷ 1 ∷ 0 ∷ 16 ∷ 1 ∷ 1 ∷ 99 ∷ []) ∷ (1 ∷ 1 ∷ 1 ∷ 2 ∷ 1 ∷ 16 ∷ 1 ∷ 1 ∷ 99 ∷ []) ∷ []))
    -- int f(void){return 1;} int f(void){return 2;} int main(void){return 0;}
    × (judged ((102 ∷ []) ∷ (109 ∷ 97 ∷ 105 ∷ 110 ∷ []) ∷ []) ([]) ((Function 1 (Then NoTrees (OfSpecifier (Keyword 1 word.Int))) (FunctionDeclarator 1 (DeclaredName 1 0) (Then NoTrees (OfDeclaration (Parameter 1 (Then NoTrees (OfSpecifier (Keyword 1 word.Void))) Absent))) false) (Block 1 (Then NoTrees (OfStatement (Return 1 (Present (OfExpression (Number 1 1 true false 0)))))))) ∷ (Function 1 (Then NoTrees (OfSpecifier (Keyword 1 word.Int))) (FunctionDeclarator 1 (DeclaredName 1 0) (Then NoTrees (OfDeclaration (Parameter 1 (Then NoTrees (OfSpecifier (Keyword 1 word.Void))) Absent))) false) (Block 1 (Then NoTrees (OfStatement (Return 1 (Present (OfExpression (Number 1 2 true false 0)))))))) ∷ (Function 1 (Then NoTrees (OfSpecifier (Keyword 1 word.Int))) (FunctionDeclarator 1 (DeclaredName 1 1) (Then NoTrees (OfDeclaration (Parameter 1 (Then NoTrees (OfSpecifier (Keyword 1 word.Void))) Absent))) false) (Block 1 (Then NoTrees (OfStatement (Return 1 (Present (OfExpression (Number 1 0 false false 0)))))))) ∷ []) ≡ Refused 1)
    -- int f(void); int main(void){return f();} int f(void){return 1;}
    × (judged ((102 ∷ []) ∷ (109 ∷ 97 ∷ 105 ∷ 110 ∷ []) ∷ []) ([]) ((Declaration 1 (Then NoTrees (OfSpecifier (Keyword 1 word.Int))) (Then NoTrees (OfDeclaration (InitDeclarator 1 (FunctionDeclarator 1 (DeclaredName 1 0) (Then NoTrees (OfDeclaration (Parameter 1 (Then NoTrees (OfSpecifier (Keyword 1 word.Void))) Absent))) false) Absent)))) ∷ (Function 1 (Then NoTrees (OfSpecifier (Keyword 1 word.Int))) (FunctionDeclarator 1 (DeclaredName 1 1) (Then NoTrees (OfDeclaration (Parameter 1 (Then NoTrees (OfSpecifier (Keyword 1 word.Void))) Absent))) false) (Block 1 (Then NoTrees (OfStatement (Return 1 (Present (OfExpression (Call 1 (Name 1 0) NoArguments)))))))) ∷ (Function 1 (Then NoTrees (OfSpecifier (Keyword 1 word.Int))) (FunctionDeclarator 1 (DeclaredName 1 0) (Then NoTrees (OfDeclaration (Parameter 1 (Then NoTrees (OfSpecifier (Keyword 1 word.Void))) Absent))) false) (Block 1 (Then NoTrees (OfStatement (Return 1 (Present (OfExpression (Number 1 1 true false 0)))))))) ∷ []) ≡ Accepted ([]) ([]) ([]) ((1 ∷ 1 ∷ 0 ∷ 16 ∷ 1 ∷ 1 ∷ 99 ∷ []) ∷ (1 ∷ 1 ∷ 0 ∷ 16 ∷ 1 ∷ 1 ∷ 99 ∷ []) ∷ []))
    -- int f(int n){return n ? f(n - 1) : 0;} int main(void){return f(3);}
    × (judged ((102 ∷ []) ∷ (110 ∷ []) ∷ (109 ∷ 97 ∷ 105 ∷ 110 ∷ []) ∷ []) ([]) ((Function 1 (Then NoTrees (OfSpecifier (Keyword 1 word.Int))) (FunctionDeclarator 1 (DeclaredName 1 0) (Then NoTrees (OfDeclaration (Parameter 1 (Then NoTrees (OfSpecifier (Keyword 1 word.Int))) (Present (OfDeclarator (DeclaredName 1 1)))))) false) (Block 1 (Then NoTrees (OfStatement (Return 1 (Present (OfExpression (Conditional 1 (Name 1 1) (Call 1 (Name 1 0) (Argument NoArguments (Binary 1 op.Subtract (Name 1 1) (Number 1 1 true false 0)))) (Number 1 0 false false 0))))))))) ∷ (Function 1 (Then NoTrees (OfSpecifier (Keyword 1 word.Int))) (FunctionDeclarator 1 (DeclaredName 1 2) (Then NoTrees (OfDeclaration (Parameter 1 (Then NoTrees (OfSpecifier (Keyword 1 word.Void))) Absent))) false) (Block 1 (Then NoTrees (OfStatement (Return 1 (Present (OfExpression (Call 1 (Name 1 0) (Argument NoArguments (Number 1 3 true false 0)))))))))) ∷ []) ≡ Accepted ((0 ∷ 0 ∷ []) ∷ []) ([]) ([]) ((1 ∷ 1 ∷ 0 ∷ 16 ∷ 1 ∷ 1 ∷ 99 ∷ []) ∷ (1 ∷ 1 ∷ 0 ∷ 16 ∷ 1 ∷ 1 ∷ 99 ∷ []) ∷ []))
    -- void free(void *p){} int main(void){return 0;}
    × (judged ((102 ∷ 114 ∷ 101 ∷ 101 ∷ []) ∷ (112 ∷ []) ∷ (109 ∷ 97 ∷ 105 ∷ 110 ∷ []) ∷ []) ([]) ((Function 1 (Then NoTrees (OfSpecifier (Keyword 1 word.Void))) (FunctionDeclarator 1 (DeclaredName 1 0) (Then NoTrees (OfDeclaration (Parameter 1 (Then NoTrees (OfSpecifier (Keyword 1 word.Void))) (Present (OfDeclarator (Pointer 1 0 (DeclaredName 1 1))))))) false) (Block 1 NoTrees)) ∷ (Function 1 (Then NoTrees (OfSpecifier (Keyword 1 word.Int))) (FunctionDeclarator 1 (DeclaredName 1 2) (Then NoTrees (OfDeclaration (Parameter 1 (Then NoTrees (OfSpecifier (Keyword 1 word.Void))) Absent))) false) (Block 1 (Then NoTrees (OfStatement (Return 1 (Present (OfExpression (Number 1 0 false false 0)))))))) ∷ []) ≡ Refused 0)
    -- int main(int argc){return 0;}
    × (judged ((109 ∷ 97 ∷ 105 ∷ 110 ∷ []) ∷ (97 ∷ 114 ∷ 103 ∷ 99 ∷ []) ∷ []) ([]) ((Function 1 (Then NoTrees (OfSpecifier (Keyword 1 word.Int))) (FunctionDeclarator 1 (DeclaredName 1 0) (Then NoTrees (OfDeclaration (Parameter 1 (Then NoTrees (OfSpecifier (Keyword 1 word.Int))) (Present (OfDeclarator (DeclaredName 1 1)))))) false) (Block 1 (Then NoTrees (OfStatement (Return 1 (Present (OfExpression (Number 1 0 false false 0)))))))) ∷ []) ≡ Refused 0)
    -- static int main(void){return 0;}
    × (judged ((109 ∷ 97 ∷ 105 ∷ 110 ∷ []) ∷ []) ([]) ((Function 1 (Then (Then NoTrees (OfSpecifier (Keyword 1 word.Static))) (OfSpecifier (Keyword 1 word.Int))) (FunctionDeclarator 1 (DeclaredName 1 0) (Then NoTrees (OfDeclaration (Parameter 1 (Then NoTrees (OfSpecifier (Keyword 1 word.Void))) Absent))) false) (Block 1 (Then NoTrees (OfStatement (Return 1 (Present (OfExpression (Number 1 0 false false 0)))))))) ∷ []) ≡ Accepted ([]) ([]) ([]) ((1 ∷ 1 ∷ 0 ∷ 16 ∷ 1 ∷ 1 ∷ 99 ∷ []) ∷ []))
    -- int f(struct t x){return 0;} struct t { int a; }; int main(void){return 0;}
    × (judged ((102 ∷ []) ∷ (116 ∷ []) ∷ (120 ∷ []) ∷ (97 ∷ []) ∷ (109 ∷ 97 ∷ 105 ∷ 110 ∷ []) ∷ []) ([]) ((Function 1 (Then NoTrees (OfSpecifier (Keyword 1 word.Int))) (FunctionDeclarator 1 (DeclaredName 1 0) (Then NoTrees (OfDeclaration (Parameter 1 (Then NoTrees (OfSpecifier (Tag 1 word.Struct 1))) (Present (OfDeclarator (DeclaredName 1 2)))))) false) (Block 1 (Then NoTrees (OfStatement (Return 1 (Present (OfExpression (Number 1 0 false false 0)))))))) ∷ (Declaration 1 (Then NoTrees (OfSpecifier (Composite 1 word.Struct (Some 1) (Then NoTrees (OfDeclaration (MemberDeclaration 1 (Then NoTrees (OfSpecifier (Keyword 1 word.Int))) (Then NoTrees (OfDeclarator (DeclaredName 1 3))))))))) NoTrees) ∷ (Function 1 (Then NoTrees (OfSpecifier (Keyword 1 word.Int))) (FunctionDeclarator 1 (DeclaredName 1 4) (Then NoTrees (OfDeclaration (Parameter 1 (Then NoTrees (OfSpecifier (Keyword 1 word.Void))) Absent))) false) (Block 1 (Then NoTrees (OfStatement (Return 1 (Present (OfExpression (Number 1 0 false false 0)))))))) ∷ []) ≡ Refused 0)
unfolding type_of_words library_named are_compatible layouts_of initialized_object values
definitions = (refl, refl, refl, refl, refl, refl, refl, refl, refl, refl, refl, refl, refl)

-- 6.9p5: names without a definition, and 5.1.2.2.1p1: no `main`
unresolved_names :
    -- int f(void);
    (judged ((102 ∷ []) ∷ []) ([]) ((Declaration 1 (Then NoTrees (OfSpecifier (Keyword 1 word.Int))) (Then NoTrees (OfDeclaration (InitDeclarator 1 (FunctionDeclarator 1 (DeclaredName 1 0) (Then NoTrees (OfDeclaration (Parameter 1 (Then NoTrees (OfSpecifier (Keyword 1 word.Void))) Absent))) false) Absent)))) ∷ []) ≡ Mainless)
    -- int f(void); int main(void){return f();}
    × (judged ((102 ∷ []) ∷ (109 ∷ 97 ∷ 105 ∷ 110 ∷ []) ∷ []) ([]) ((Declaration 1 (Then NoTrees (OfSpecifier (Keyword 1 word.Int))) (Then NoTrees (OfDeclaration (InitDeclarator 1 (FunctionDeclarator 1 (DeclaredName 1 0) (Then NoTrees (OfDeclaration (Parameter 1 (Then NoTrees (OfSpecifier (Keyword 1 word.Void))) Absent))) false) Absent)))) ∷ (Function 1 (Then NoTrees (OfSpecifier (Keyword 1 word.Int))) (FunctionDeclarator 1 (DeclaredName 1 1) (Then NoTrees (OfDeclaration (Parameter 1 (Then NoTrees (OfSpecifier (Keyword 1 word.Void))) Absent))) false) (Block 1 (Then NoTrees (OfStatement (Return 1 (Present (OfExpression (Call 1 (Name 1 0) NoArguments)))))))) ∷ []) ≡ Named 0)
    -- extern int y; int main(void){return y;}
    × (judged ((121 ∷ []) ∷ (109 ∷ 97 ∷ 105 ∷ 110 ∷ []) ∷ []) ([]) ((Declaration 1 (Then (Then NoTrees (OfSpecifier (Keyword 1 word.Extern))) (OfSpecifier (Keyword 1 word.Int))) (Then NoTrees (OfDeclaration (InitDeclarator 1 (DeclaredName 1 0) Absent)))) ∷ (Function 1 (Then NoTrees (OfSpecifier (Keyword 1 word.Int))) (FunctionDeclarator 1 (DeclaredName 1 1) (Then NoTrees (OfDeclaration (Parameter 1 (Then NoTrees (OfSpecifier (Keyword 1 word.Void))) Absent))) false) (Block 1 (Then NoTrees (OfStatement (Return 1 (Present (OfExpression (Name 1 0)))))))) ∷ []) ≡ Named 0)
    -- extern int y; int main(void){return sizeof y;}
    × (judged ((121 ∷ []) ∷ (109 ∷ 97 ∷ 105 ∷ 110 ∷ []) ∷ []) ([]) ((Declaration 1 (Then (Then NoTrees (OfSpecifier (Keyword 1 word.Extern))) (OfSpecifier (Keyword 1 word.Int))) (Then NoTrees (OfDeclaration (InitDeclarator 1 (DeclaredName 1 0) Absent)))) ∷ (Function 1 (Then NoTrees (OfSpecifier (Keyword 1 word.Int))) (FunctionDeclarator 1 (DeclaredName 1 1) (Then NoTrees (OfDeclaration (Parameter 1 (Then NoTrees (OfSpecifier (Keyword 1 word.Void))) Absent))) false) (Block 1 (Then NoTrees (OfStatement (Return 1 (Present (OfExpression (SizeofExpr 1 (Name 1 0))))))))) ∷ []) ≡ Named 0)
    -- extern int y; int main(void){return 0;}
    × (judged ((121 ∷ []) ∷ (109 ∷ 97 ∷ 105 ∷ 110 ∷ []) ∷ []) ([]) ((Declaration 1 (Then (Then NoTrees (OfSpecifier (Keyword 1 word.Extern))) (OfSpecifier (Keyword 1 word.Int))) (Then NoTrees (OfDeclaration (InitDeclarator 1 (DeclaredName 1 0) Absent)))) ∷ (Function 1 (Then NoTrees (OfSpecifier (Keyword 1 word.Int))) (FunctionDeclarator 1 (DeclaredName 1 1) (Then NoTrees (OfDeclaration (Parameter 1 (Then NoTrees (OfSpecifier (Keyword 1 word.Void))) Absent))) false) (Block 1 (Then NoTrees (OfStatement (Return 1 (Present (OfExpression (Number 1 0 false false 0)))))))) ∷ []) ≡ Accepted ((0 ∷ 0 ∷ []) ∷ []) ([]) ([]) ((1 ∷ 1 ∷ 0 ∷ 16 ∷ 1 ∷ 1 ∷ 99 ∷ []) ∷ []))
    -- extern int y, z; int f(void); int main(void){return z + f() + y;}
    × (judged ((121 ∷ []) ∷ (122 ∷ []) ∷ (102 ∷ []) ∷ (109 ∷ 97 ∷ 105 ∷ 110 ∷ []) ∷ []) ([]) ((Declaration 1 (Then (Then NoTrees (OfSpecifier (Keyword 1 word.Extern))) (OfSpecifier (Keyword 1 word.Int))) (Then (Then NoTrees (OfDeclaration (InitDeclarator 1 (DeclaredName 1 0) Absent))) (OfDeclaration (InitDeclarator 1 (DeclaredName 1 1) Absent)))) ∷ (Declaration 1 (Then NoTrees (OfSpecifier (Keyword 1 word.Int))) (Then NoTrees (OfDeclaration (InitDeclarator 1 (FunctionDeclarator 1 (DeclaredName 1 2) (Then NoTrees (OfDeclaration (Parameter 1 (Then NoTrees (OfSpecifier (Keyword 1 word.Void))) Absent))) false) Absent)))) ∷ (Function 1 (Then NoTrees (OfSpecifier (Keyword 1 word.Int))) (FunctionDeclarator 1 (DeclaredName 1 3) (Then NoTrees (OfDeclaration (Parameter 1 (Then NoTrees (OfSpecifier (Keyword 1 word.Void))) Absent))) false) (Block 1 (Then NoTrees (OfStatement (Return 1 (Present (OfExpression (Binary 1 op.Add (Binary 1 op.Add (Name 1 1) (Call 1 (Name 1 2) NoArguments)) (Name 1 0))))))))) ∷ []) ≡ Named 0)
    -- int f(void); extern int y; int main(void){return y + f();}
    × (judged ((102 ∷ []) ∷ (121 ∷ []) ∷ (109 ∷ 97 ∷ 105 ∷ 110 ∷ []) ∷ []) ([]) ((Declaration 1 (Then NoTrees (OfSpecifier (Keyword 1 word.Int))) (Then NoTrees (OfDeclaration (InitDeclarator 1 (FunctionDeclarator 1 (DeclaredName 1 0) (Then NoTrees (OfDeclaration (Parameter 1 (Then NoTrees (OfSpecifier (Keyword 1 word.Void))) Absent))) false) Absent)))) ∷ (Declaration 1 (Then (Then NoTrees (OfSpecifier (Keyword 1 word.Extern))) (OfSpecifier (Keyword 1 word.Int))) (Then NoTrees (OfDeclaration (InitDeclarator 1 (DeclaredName 1 1) Absent)))) ∷ (Function 1 (Then NoTrees (OfSpecifier (Keyword 1 word.Int))) (FunctionDeclarator 1 (DeclaredName 1 2) (Then NoTrees (OfDeclaration (Parameter 1 (Then NoTrees (OfSpecifier (Keyword 1 word.Void))) Absent))) false) (Block 1 (Then NoTrees (OfStatement (Return 1 (Present (OfExpression (Binary 1 op.Add (Name 1 1) (Call 1 (Name 1 0) NoArguments))))))))) ∷ []) ≡ Named 0)
    -- void free(void *); int main(void){free(0); return 0;}
    × (judged ((102 ∷ 114 ∷ 101 ∷ 101 ∷ []) ∷ (109 ∷ 97 ∷ 105 ∷ 110 ∷ []) ∷ []) ([]) ((Declaration 1 (Then NoTrees (OfSpecifier (Keyword 1 word.Void))) (Then NoTrees (OfDeclaration (InitDeclarator 1 (FunctionDeclarator 1 (DeclaredName 1 0) (Then NoTrees (OfDeclaration (Parameter 1 (Then NoTrees (OfSpecifier (Keyword 1 word.Void))) (Present (OfDeclarator (AbstractPointer 1 0 Absent)))))) false) Absent)))) ∷ (Function 1 (Then NoTrees (OfSpecifier (Keyword 1 word.Int))) (FunctionDeclarator 1 (DeclaredName 1 1) (Then NoTrees (OfDeclaration (Parameter 1 (Then NoTrees (OfSpecifier (Keyword 1 word.Void))) Absent))) false) (Block 1 (Then (Then NoTrees (OfStatement (ExpressionStatement 1 (Present (OfExpression (Call 1 (Name 1 0) (Argument NoArguments (Number 1 0 false false 0)))))))) (OfStatement (Return 1 (Present (OfExpression (Number 1 0 false false 0)))))))) ∷ []) ≡ Accepted ([]) ([]) ([]) ((1 ∷ 1 ∷ 0 ∷ 3 ∷ 1 ∷ 1 ∷ 16 ∷ 1 ∷ 1 ∷ 99 ∷ []) ∷ []))
    -- extern int free; int main(void){return free;}
    × (judged ((102 ∷ 114 ∷ 101 ∷ 101 ∷ []) ∷ (109 ∷ 97 ∷ 105 ∷ 110 ∷ []) ∷ []) ([]) ((Declaration 1 (Then (Then NoTrees (OfSpecifier (Keyword 1 word.Extern))) (OfSpecifier (Keyword 1 word.Int))) (Then NoTrees (OfDeclaration (InitDeclarator 1 (DeclaredName 1 0) Absent)))) ∷ (Function 1 (Then NoTrees (OfSpecifier (Keyword 1 word.Int))) (FunctionDeclarator 1 (DeclaredName 1 1) (Then NoTrees (OfDeclaration (Parameter 1 (Then NoTrees (OfSpecifier (Keyword 1 word.Void))) Absent))) false) (Block 1 (Then NoTrees (OfStatement (Return 1 (Present (OfExpression (Name 1 0)))))))) ∷ []) ≡ Named 0)
unfolding type_of_words library_named are_compatible layouts_of initialized_object values
unresolved_names = (refl, refl, refl, refl, refl, refl, refl, refl, refl)

-- 6.2.4p3: static objects
static_objects :
    -- extern int x; static int y; int x; int main(void){static int z; return x + y + z;}
    (judged ((120 ∷ []) ∷ (121 ∷ []) ∷ (109 ∷ 97 ∷ 105 ∷ 110 ∷ []) ∷ (122 ∷ []) ∷ []) ([]) ((Declaration 1 (Then (Then NoTrees (OfSpecifier (Keyword 1 word.Extern))) (OfSpecifier (Keyword 1 word.Int))) (Then NoTrees (OfDeclaration (InitDeclarator 1 (DeclaredName 1 0) Absent)))) ∷ (Declaration 1 (Then (Then NoTrees (OfSpecifier (Keyword 1 word.Static))) (OfSpecifier (Keyword 1 word.Int))) (Then NoTrees (OfDeclaration (InitDeclarator 1 (DeclaredName 1 1) Absent)))) ∷ (Declaration 1 (Then NoTrees (OfSpecifier (Keyword 1 word.Int))) (Then NoTrees (OfDeclaration (InitDeclarator 1 (DeclaredName 1 0) Absent)))) ∷ (Function 1 (Then NoTrees (OfSpecifier (Keyword 1 word.Int))) (FunctionDeclarator 1 (DeclaredName 1 2) (Then NoTrees (OfDeclaration (Parameter 1 (Then NoTrees (OfSpecifier (Keyword 1 word.Void))) Absent))) false) (Block 1 (Then (Then NoTrees (OfDeclaration (Declaration 1 (Then (Then NoTrees (OfSpecifier (Keyword 1 word.Static))) (OfSpecifier (Keyword 1 word.Int))) (Then NoTrees (OfDeclaration (InitDeclarator 1 (DeclaredName 1 3) Absent)))))) (OfStatement (Return 1 (Present (OfExpression (Binary 1 op.Add (Binary 1 op.Add (Name 1 0) (Name 1 1)) (Name 1 3))))))))) ∷ []) ≡ Accepted ((0 ∷ 0 ∷ []) ∷ (0 ∷ 0 ∷ []) ∷ (0 ∷ 0 ∷ []) ∷ []) (0 ∷ 1 ∷ 3 ∷ []) ([]) ((1 ∷ 1 ∷ 0 ∷ 16 ∷ 1 ∷ 1 ∷ 99 ∷ []) ∷ []))
unfolding type_of_words library_named are_compatible layouts_of initialized_object values
static_objects = refl

-- 6.9.2p2, p3: what the end of a unit asks
ends :
    -- extern int a[]; int main(void){return 0;}
    (judged ((97 ∷ []) ∷ (109 ∷ 97 ∷ 105 ∷ 110 ∷ []) ∷ []) ([]) ((Declaration 1 (Then (Then NoTrees (OfSpecifier (Keyword 1 word.Extern))) (OfSpecifier (Keyword 1 word.Int))) (Then NoTrees (OfDeclaration (InitDeclarator 1 (Array 1 (DeclaredName 1 0) Absent) Absent)))) ∷ (Function 1 (Then NoTrees (OfSpecifier (Keyword 1 word.Int))) (FunctionDeclarator 1 (DeclaredName 1 1) (Then NoTrees (OfDeclaration (Parameter 1 (Then NoTrees (OfSpecifier (Keyword 1 word.Void))) Absent))) false) (Block 1 (Then NoTrees (OfStatement (Return 1 (Present (OfExpression (Number 1 0 false false 0)))))))) ∷ []) ≡ Refused 1)
    -- int a[]; int a[2]; int main(void){return 0;}
    × (judged ((97 ∷ []) ∷ (109 ∷ 97 ∷ 105 ∷ 110 ∷ []) ∷ []) ([]) ((Declaration 1 (Then NoTrees (OfSpecifier (Keyword 1 word.Int))) (Then NoTrees (OfDeclaration (InitDeclarator 1 (Array 1 (DeclaredName 1 0) Absent) Absent)))) ∷ (Declaration 1 (Then NoTrees (OfSpecifier (Keyword 1 word.Int))) (Then NoTrees (OfDeclaration (InitDeclarator 1 (Array 1 (DeclaredName 1 0) (Present (OfExpression (Number 1 2 true false 0)))) Absent)))) ∷ (Function 1 (Then NoTrees (OfSpecifier (Keyword 1 word.Int))) (FunctionDeclarator 1 (DeclaredName 1 1) (Then NoTrees (OfDeclaration (Parameter 1 (Then NoTrees (OfSpecifier (Keyword 1 word.Void))) Absent))) false) (Block 1 (Then NoTrees (OfStatement (Return 1 (Present (OfExpression (Number 1 0 false false 0)))))))) ∷ []) ≡ Accepted ((0 ∷ 0 ∷ []) ∷ []) (0 ∷ []) ([]) ((1 ∷ 1 ∷ 0 ∷ 16 ∷ 1 ∷ 1 ∷ 99 ∷ []) ∷ []))
    -- typedef int t[]; int main(void){return 0;}
    × (judged ((116 ∷ []) ∷ (109 ∷ 97 ∷ 105 ∷ 110 ∷ []) ∷ []) ([]) ((Declaration 1 (Then (Then NoTrees (OfSpecifier (Keyword 1 word.Typedef))) (OfSpecifier (Keyword 1 word.Int))) (Then NoTrees (OfDeclaration (InitDeclarator 1 (Array 1 (DeclaredName 1 0) Absent) Absent)))) ∷ (Function 1 (Then NoTrees (OfSpecifier (Keyword 1 word.Int))) (FunctionDeclarator 1 (DeclaredName 1 1) (Then NoTrees (OfDeclaration (Parameter 1 (Then NoTrees (OfSpecifier (Keyword 1 word.Void))) Absent))) false) (Block 1 (Then NoTrees (OfStatement (Return 1 (Present (OfExpression (Number 1 0 false false 0)))))))) ∷ []) ≡ Refused 1)
    -- struct s x; struct s { int a; }; int main(void){return 0;}
    × (judged ((115 ∷ []) ∷ (120 ∷ []) ∷ (97 ∷ []) ∷ (109 ∷ 97 ∷ 105 ∷ 110 ∷ []) ∷ []) ([]) ((Declaration 1 (Then NoTrees (OfSpecifier (Tag 1 word.Struct 0))) (Then NoTrees (OfDeclaration (InitDeclarator 1 (DeclaredName 1 1) Absent)))) ∷ (Declaration 1 (Then NoTrees (OfSpecifier (Composite 1 word.Struct (Some 0) (Then NoTrees (OfDeclaration (MemberDeclaration 1 (Then NoTrees (OfSpecifier (Keyword 1 word.Int))) (Then NoTrees (OfDeclarator (DeclaredName 1 2))))))))) NoTrees) ∷ (Function 1 (Then NoTrees (OfSpecifier (Keyword 1 word.Int))) (FunctionDeclarator 1 (DeclaredName 1 3) (Then NoTrees (OfDeclaration (Parameter 1 (Then NoTrees (OfSpecifier (Keyword 1 word.Void))) Absent))) false) (Block 1 (Then NoTrees (OfStatement (Return 1 (Present (OfExpression (Number 1 0 false false 0)))))))) ∷ []) ≡ Accepted ((0 ∷ 0 ∷ []) ∷ []) (1 ∷ []) ([]) ((1 ∷ 1 ∷ 0 ∷ 16 ∷ 1 ∷ 1 ∷ 99 ∷ []) ∷ []))
    -- struct s x; int main(void){return 0;}
    × (judged ((115 ∷ []) ∷ (120 ∷ []) ∷ (109 ∷ 97 ∷ 105 ∷ 110 ∷ []) ∷ []) ([]) ((Declaration 1 (Then NoTrees (OfSpecifier (Tag 1 word.Struct 0))) (Then NoTrees (OfDeclaration (InitDeclarator 1 (DeclaredName 1 1) Absent)))) ∷ (Function 1 (Then NoTrees (OfSpecifier (Keyword 1 word.Int))) (FunctionDeclarator 1 (DeclaredName 1 2) (Then NoTrees (OfDeclaration (Parameter 1 (Then NoTrees (OfSpecifier (Keyword 1 word.Void))) Absent))) false) (Block 1 (Then NoTrees (OfStatement (Return 1 (Present (OfExpression (Number 1 0 false false 0)))))))) ∷ []) ≡ Refused 1)
    -- int main(void){return 0;} int a[];
    × (judged ((109 ∷ 97 ∷ 105 ∷ 110 ∷ []) ∷ (97 ∷ []) ∷ []) ([]) ((Function 1 (Then NoTrees (OfSpecifier (Keyword 1 word.Int))) (FunctionDeclarator 1 (DeclaredName 1 0) (Then NoTrees (OfDeclaration (Parameter 1 (Then NoTrees (OfSpecifier (Keyword 1 word.Void))) Absent))) false) (Block 1 (Then NoTrees (OfStatement (Return 1 (Present (OfExpression (Number 1 0 false false 0)))))))) ∷ (Declaration 1 (Then NoTrees (OfSpecifier (Keyword 1 word.Int))) (Then NoTrees (OfDeclaration (InitDeclarator 1 (Array 1 (DeclaredName 1 1) Absent) Absent)))) ∷ []) ≡ Refused 1)
    -- int a; int b = c; int main(void){return 0;}
    × (judged ((97 ∷ []) ∷ (98 ∷ []) ∷ (99 ∷ []) ∷ (109 ∷ 97 ∷ 105 ∷ 110 ∷ []) ∷ []) ([]) ((Declaration 1 (Then NoTrees (OfSpecifier (Keyword 1 word.Int))) (Then NoTrees (OfDeclaration (InitDeclarator 1 (DeclaredName 1 0) Absent)))) ∷ (Declaration 1 (Then NoTrees (OfSpecifier (Keyword 1 word.Int))) (Then NoTrees (OfDeclaration (InitDeclarator 1 (DeclaredName 1 1) (Present (OfInitializer (Initial 1 (Name 1 2)))))))) ∷ (Function 1 (Then NoTrees (OfSpecifier (Keyword 1 word.Int))) (FunctionDeclarator 1 (DeclaredName 1 3) (Then NoTrees (OfDeclaration (Parameter 1 (Then NoTrees (OfSpecifier (Keyword 1 word.Void))) Absent))) false) (Block 1 (Then NoTrees (OfStatement (Return 1 (Present (OfExpression (Number 1 0 false false 0)))))))) ∷ []) ≡ Refused 1)
unfolding type_of_words library_named are_compatible layouts_of initialized_object values
ends = (refl, refl, refl, refl, refl, refl, refl)

-- 6.4.5p6: which literals get an object
literal_instances :
    -- char *p = "a"; int main(void){char *q = "b"; char r[] = "c"; return 0 ? sizeof "d" : *"e";}
    (judged ((112 ∷ []) ∷ (109 ∷ 97 ∷ 105 ∷ 110 ∷ []) ∷ (113 ∷ []) ∷ (114 ∷ []) ∷ []) ((97 ∷ []) ∷ (98 ∷ []) ∷ (99 ∷ []) ∷ (100 ∷ []) ∷ (101 ∷ []) ∷ []) ((Declaration 1 (Then NoTrees (OfSpecifier (Keyword 1 word.Char))) (Then NoTrees (OfDeclaration (InitDeclarator 1 (Pointer 1 0 (DeclaredName 1 0)) (Present (OfInitializer (Initial 1 (Text 1 0 0)))))))) ∷ (Function 1 (Then NoTrees (OfSpecifier (Keyword 1 word.Int))) (FunctionDeclarator 1 (DeclaredName 1 1) (Then NoTrees (OfDeclaration (Parameter 1 (Then NoTrees (OfSpecifier (Keyword 1 word.Void))) Absent))) false) (Block 1 (Then (Then (Then NoTrees (OfDeclaration (Declaration 1 (Then NoTrees (OfSpecifier (Keyword 1 word.Char))) (Then NoTrees (OfDeclaration (InitDeclarator 1 (Pointer 1 0 (DeclaredName 1 2)) (Present (OfInitializer (Initial 1 (Text 1 1 0)))))))))) (OfDeclaration (Declaration 1 (Then NoTrees (OfSpecifier (Keyword 1 word.Char))) (Then NoTrees (OfDeclaration (InitDeclarator 1 (Array 1 (DeclaredName 1 3) Absent) (Present (OfInitializer (Initial 1 (Text 1 2 0)))))))))) (OfStatement (Return 1 (Present (OfExpression (Conditional 1 (Number 1 0 false false 0) (SizeofExpr 1 (Text 1 3 0)) (Unary 1 unary.Indirection (Text 1 4 0)))))))))) ∷ []) ≡ Accepted ((0 ∷ 1 ∷ 0 ∷ 8 ∷ 1 ∷ 0 ∷ []) ∷ (0 ∷ 1 ∷ 0 ∷ 8 ∷ 1 ∷ 0 ∷ []) ∷ (1 ∷ 1 ∷ 0 ∷ 2 ∷ 1 ∷ 1 ∷ []) ∷ []) (0 ∷ []) (2 ∷ 1 ∷ 2 ∷ 1 ∷ 2 ∷ 1 ∷ []) ((1 ∷ 1 ∷ 2 ∷ 2 ∷ 1 ∷ 2 ∷ 1 ∷ 16 ∷ 1 ∷ 1 ∷ 99 ∷ []) ∷ []))
    -- int f(void){static char *s = "one"; return 0;} char *p = "two"; int main(void){return 0;}
    × (judged ((102 ∷ []) ∷ (115 ∷ []) ∷ (112 ∷ []) ∷ (109 ∷ 97 ∷ 105 ∷ 110 ∷ []) ∷ []) ((111 ∷ 110 ∷ 101 ∷ []) ∷ (116 ∷ 119 ∷ 111 ∷ []) ∷ []) ((Function 1 (Then NoTrees (OfSpecifier (Keyword 1 word.Int))) (FunctionDeclarator 1 (DeclaredName 1 0) (Then NoTrees (OfDeclaration (Parameter 1 (Then NoTrees (OfSpecifier (Keyword 1 word.Void))) Absent))) false) (Block 1 (Then (Then NoTrees (OfDeclaration (Declaration 1 (Then (Then NoTrees (OfSpecifier (Keyword 1 word.Static))) (OfSpecifier (Keyword 1 word.Char))) (Then NoTrees (OfDeclaration (InitDeclarator 1 (Pointer 1 0 (DeclaredName 1 1)) (Present (OfInitializer (Initial 1 (Text 1 0 0)))))))))) (OfStatement (Return 1 (Present (OfExpression (Number 1 0 false false 0)))))))) ∷ (Declaration 1 (Then NoTrees (OfSpecifier (Keyword 1 word.Char))) (Then NoTrees (OfDeclaration (InitDeclarator 1 (Pointer 1 0 (DeclaredName 1 2)) (Present (OfInitializer (Initial 1 (Text 1 1 0)))))))) ∷ (Function 1 (Then NoTrees (OfSpecifier (Keyword 1 word.Int))) (FunctionDeclarator 1 (DeclaredName 1 3) (Then NoTrees (OfDeclaration (Parameter 1 (Then NoTrees (OfSpecifier (Keyword 1 word.Void))) Absent))) false) (Block 1 (Then NoTrees (OfStatement (Return 1 (Present (OfExpression (Number 1 0 false false 0)))))))) ∷ []) ≡ Accepted ((0 ∷ 1 ∷ 0 ∷ 8 ∷ 1 ∷ 0 ∷ []) ∷ (0 ∷ 1 ∷ 0 ∷ 8 ∷ 1 ∷ 0 ∷ []) ∷ []) (1 ∷ 2 ∷ []) (4 ∷ 1 ∷ 4 ∷ 1 ∷ []) ((1 ∷ 1 ∷ 0 ∷ 16 ∷ 1 ∷ 1 ∷ 99 ∷ []) ∷ (1 ∷ 1 ∷ 0 ∷ 16 ∷ 1 ∷ 1 ∷ 99 ∷ []) ∷ []))
unfolding type_of_words library_named are_compatible layouts_of initialized_object values
literal_instances = (refl, refl)
