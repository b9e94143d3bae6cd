-- Structures and unions that a unit completes at file scope, with their layouts as worked out apart from these definitions.
use Rattle.std.proofs.Common.{◌≡◌, ℕ, true, false, List, [], ◌∷◌, Option, Some, None, refl}
use Rattle.pv_token.specs.declared.words.Word.TheVariants as word
use Rattle.pv_tree.specs.Syntax.{Number, SizeofType, DeclarationTree, Function, Declaration, InitDeclarator, MemberDeclaration, Parameter, TypeName, DeclaredName, Pointer, Array, FunctionDeclarator, Keyword, Composite, Tag, Block, Return, OfExpression, OfDeclaration, OfDeclarator, OfSpecifier, OfStatement, NoTrees, Then, Absent, Present}
use Rattle.pv_types.specs.Compatible.{are_compatible}
use Rattle.pv_check.specs.Words.{type_of_words}
use Rattle.pv_typed.specs.TypedUnits.{WholeUnit, layouts}
use Rattle.pv_library.specs.LibraryNames.{library_named}
use Rattle.pv_unit.specs.Redeclarations.{UnitState}
use Rattle.pv_unit.specs.Initializers.{initialized_object}
use Rattle.pv_unit.specs.Functions.{typed_external}
use Rattle.pv_unit.specs.ValueRules.{values}
use Rattle.pv_types.specs.Ty.{Ty, StructTag, UnionTag}
use Rattle.pv_types.specs.Known.{heading_at}
use Rattle.pv_types.specs.Layouts.{Named, Placed, layout_in, layouts_of}
use Rattle.pv_types.specs.Members.{placed_in}
use Rattle.pv_unit.proofs.WorkedAnswers.{nothing}

-- the members where they begin (6.7.2.1p15, p16): the number of each name among the tokens, its offset and its size
abbrev members : List (Placed Named) → List ℕ
members [] = []
members (p ∷ ps) = p.member.name ∷ p.offset ∷ p.layout.size ∷ members ps

-- the number of a tag's name among the tokens
abbrev name_of : Option ℕ → ℕ
name_of None = 0
name_of (Some n) = n

-- a structure (0) or a union (1): its name, size and alignment (6.2.8p1), and its members
abbrev layout : WholeUnit → Ty → List ℕ
layout u (StructTag n) =
    0 ∷ name_of (heading_at u.headings n).name ∷ (layout_in (layouts u) (StructTag n)).size ∷ (layout_in (layouts u) (StructTag n)).align
    ∷ members (placed_in u.completed (StructTag n))
layout u (UnionTag n) =
    1 ∷ name_of (heading_at u.headings n).name ∷ (layout_in (layouts u) (UnionTag n)).size ∷ (layout_in (layouts u) (UnionTag n)).align
    ∷ members (placed_in u.completed (UnionTag n))
layout u _ = []

-- those with a tag that are completed at file scope (6.7.2.3), in that order
abbrev all_layouts : WholeUnit → List Ty → List (List ℕ)
all_layouts u [] = []
all_layouts u (t ∷ ts) = layout u t ∷ all_layouts u ts

abbrev laid_from : List DeclarationTree → Option UnitState → Option (List (List ℕ))
laid_from ds None = None
laid_from [] (Some u) = Some (all_layouts u.state.unit u.state.unit.tags)
laid_from (d ∷ ds) (Some u) = laid_from ds (typed_external d u)

abbrev laid : List (List ℕ) → List (List ℕ) → List DeclarationTree → Option (List (List ℕ))
laid names texts ds = laid_from ds (Some (nothing names texts))

-- 6.7.2.1p15, p16, 6.7.2.3: which have a tag and are completed at file scope, and how they are laid out
layouts_at_file_scope :
    -- struct s { char c; long n; short h; }; int main(void){return 0;}
    (laid ((115 ∷ []) ∷ (99 ∷ []) ∷ (110 ∷ []) ∷ (104 ∷ []) ∷ (109 ∷ 97 ∷ 105 ∷ 110 ∷ []) ∷ []) ([]) ((Declaration 1 (Then NoTrees (OfSpecifier (Composite 1 word.Struct (Some 0) (Then (Then (Then NoTrees (OfDeclaration (MemberDeclaration 1 (Then NoTrees (OfSpecifier (Keyword 1 word.Char))) (Then NoTrees (OfDeclarator (DeclaredName 1 1)))))) (OfDeclaration (MemberDeclaration 1 (Then NoTrees (OfSpecifier (Keyword 1 word.Long))) (Then NoTrees (OfDeclarator (DeclaredName 1 2)))))) (OfDeclaration (MemberDeclaration 1 (Then NoTrees (OfSpecifier (Keyword 1 word.Short))) (Then NoTrees (OfDeclarator (DeclaredName 1 3))))))))) NoTrees) ∷ (Function 1 (Then NoTrees (OfSpecifier (Keyword 1 word.Int))) (FunctionDeclarator 1 (DeclaredName 1 4) (Then NoTrees (OfDeclaration (Parameter 1 (Then NoTrees (OfSpecifier (Keyword 1 word.Void))) Absent))) false) (Block 1 (Then NoTrees (OfStatement (Return 1 (Present (OfExpression (Number 1 0 false false 0)))))))) ∷ []) ≡ Some ((0 ∷ 0 ∷ 24 ∷ 8 ∷ 1 ∷ 0 ∷ 1 ∷ 2 ∷ 8 ∷ 8 ∷ 3 ∷ 16 ∷ 2 ∷ []) ∷ []))
    -- union u { int i; char c[5]; }; struct t { union u u; char d; } x; int main(void){return 0;}
    × (laid ((117 ∷ []) ∷ (105 ∷ []) ∷ (99 ∷ []) ∷ (116 ∷ []) ∷ (100 ∷ []) ∷ (120 ∷ []) ∷ (109 ∷ 97 ∷ 105 ∷ 110 ∷ []) ∷ []) ([]) ((Declaration 1 (Then NoTrees (OfSpecifier (Composite 1 word.Union (Some 0) (Then (Then NoTrees (OfDeclaration (MemberDeclaration 1 (Then NoTrees (OfSpecifier (Keyword 1 word.Int))) (Then NoTrees (OfDeclarator (DeclaredName 1 1)))))) (OfDeclaration (MemberDeclaration 1 (Then NoTrees (OfSpecifier (Keyword 1 word.Char))) (Then NoTrees (OfDeclarator (Array 1 (DeclaredName 1 2) (Present (OfExpression (Number 1 5 true false 0)))))))))))) NoTrees) ∷ (Declaration 1 (Then NoTrees (OfSpecifier (Composite 1 word.Struct (Some 3) (Then (Then NoTrees (OfDeclaration (MemberDeclaration 1 (Then NoTrees (OfSpecifier (Tag 1 word.Union 0))) (Then NoTrees (OfDeclarator (DeclaredName 1 0)))))) (OfDeclaration (MemberDeclaration 1 (Then NoTrees (OfSpecifier (Keyword 1 word.Char))) (Then NoTrees (OfDeclarator (DeclaredName 1 4))))))))) (Then NoTrees (OfDeclaration (InitDeclarator 1 (DeclaredName 1 5) Absent)))) ∷ (Function 1 (Then NoTrees (OfSpecifier (Keyword 1 word.Int))) (FunctionDeclarator 1 (DeclaredName 1 6) (Then NoTrees (OfDeclaration (Parameter 1 (Then NoTrees (OfSpecifier (Keyword 1 word.Void))) Absent))) false) (Block 1 (Then NoTrees (OfStatement (Return 1 (Present (OfExpression (Number 1 0 false false 0)))))))) ∷ []) ≡ Some ((1 ∷ 0 ∷ 8 ∷ 4 ∷ 1 ∷ 0 ∷ 4 ∷ 2 ∷ 0 ∷ 5 ∷ []) ∷ (0 ∷ 3 ∷ 12 ∷ 4 ∷ 0 ∷ 0 ∷ 8 ∷ 4 ∷ 8 ∷ 1 ∷ []) ∷ []))
    -- struct s; struct s *p; struct s { struct { char a; } i[3]; int *q; }; int main(void){return 0;}
    × (laid ((115 ∷ []) ∷ (112 ∷ []) ∷ (97 ∷ []) ∷ (105 ∷ []) ∷ (113 ∷ []) ∷ (109 ∷ 97 ∷ 105 ∷ 110 ∷ []) ∷ []) ([]) ((Declaration 1 (Then NoTrees (OfSpecifier (Tag 1 word.Struct 0))) NoTrees) ∷ (Declaration 1 (Then NoTrees (OfSpecifier (Tag 1 word.Struct 0))) (Then NoTrees (OfDeclaration (InitDeclarator 1 (Pointer 1 0 (DeclaredName 1 1)) Absent)))) ∷ (Declaration 1 (Then NoTrees (OfSpecifier (Composite 1 word.Struct (Some 0) (Then (Then NoTrees (OfDeclaration (MemberDeclaration 1 (Then NoTrees (OfSpecifier (Composite 1 word.Struct None (Then NoTrees (OfDeclaration (MemberDeclaration 1 (Then NoTrees (OfSpecifier (Keyword 1 word.Char))) (Then NoTrees (OfDeclarator (DeclaredName 1 2))))))))) (Then NoTrees (OfDeclarator (Array 1 (DeclaredName 1 3) (Present (OfExpression (Number 1 3 true false 0))))))))) (OfDeclaration (MemberDeclaration 1 (Then NoTrees (OfSpecifier (Keyword 1 word.Int))) (Then NoTrees (OfDeclarator (Pointer 1 0 (DeclaredName 1 4)))))))))) NoTrees) ∷ (Function 1 (Then NoTrees (OfSpecifier (Keyword 1 word.Int))) (FunctionDeclarator 1 (DeclaredName 1 5) (Then NoTrees (OfDeclaration (Parameter 1 (Then NoTrees (OfSpecifier (Keyword 1 word.Void))) Absent))) false) (Block 1 (Then NoTrees (OfStatement (Return 1 (Present (OfExpression (Number 1 0 false false 0)))))))) ∷ []) ≡ Some ((0 ∷ 0 ∷ 16 ∷ 8 ∷ 3 ∷ 0 ∷ 3 ∷ 4 ∷ 8 ∷ 8 ∷ []) ∷ []))
    -- int main(void){struct l { int a; }; return 0;}
    × (laid ((109 ∷ 97 ∷ 105 ∷ 110 ∷ []) ∷ (108 ∷ []) ∷ (97 ∷ []) ∷ []) ([]) ((Function 1 (Then NoTrees (OfSpecifier (Keyword 1 word.Int))) (FunctionDeclarator 1 (DeclaredName 1 0) (Then NoTrees (OfDeclaration (Parameter 1 (Then NoTrees (OfSpecifier (Keyword 1 word.Void))) Absent))) false) (Block 1 (Then (Then NoTrees (OfDeclaration (Declaration 1 (Then NoTrees (OfSpecifier (Composite 1 word.Struct (Some 1) (Then NoTrees (OfDeclaration (MemberDeclaration 1 (Then NoTrees (OfSpecifier (Keyword 1 word.Int))) (Then NoTrees (OfDeclarator (DeclaredName 1 2))))))))) NoTrees))) (OfStatement (Return 1 (Present (OfExpression (Number 1 0 false false 0)))))))) ∷ []) ≡ Some [])
    -- struct { int a; } x; typedef struct n { struct m { char c; } m; } n; int main(void){return sizeof(struct k { int a; });}
    × (laid ((97 ∷ []) ∷ (120 ∷ []) ∷ (110 ∷ []) ∷ (109 ∷ []) ∷ (99 ∷ []) ∷ (109 ∷ 97 ∷ 105 ∷ 110 ∷ []) ∷ (107 ∷ []) ∷ []) ([]) ((Declaration 1 (Then NoTrees (OfSpecifier (Composite 1 word.Struct None (Then NoTrees (OfDeclaration (MemberDeclaration 1 (Then NoTrees (OfSpecifier (Keyword 1 word.Int))) (Then NoTrees (OfDeclarator (DeclaredName 1 0))))))))) (Then NoTrees (OfDeclaration (InitDeclarator 1 (DeclaredName 1 1) Absent)))) ∷ (Declaration 1 (Then (Then NoTrees (OfSpecifier (Keyword 1 word.Typedef))) (OfSpecifier (Composite 1 word.Struct (Some 2) (Then NoTrees (OfDeclaration (MemberDeclaration 1 (Then NoTrees (OfSpecifier (Composite 1 word.Struct (Some 3) (Then NoTrees (OfDeclaration (MemberDeclaration 1 (Then NoTrees (OfSpecifier (Keyword 1 word.Char))) (Then NoTrees (OfDeclarator (DeclaredName 1 4))))))))) (Then NoTrees (OfDeclarator (DeclaredName 1 3))))))))) (Then NoTrees (OfDeclaration (InitDeclarator 1 (DeclaredName 1 2) Absent)))) ∷ (Function 1 (Then NoTrees (OfSpecifier (Keyword 1 word.Int))) (FunctionDeclarator 1 (DeclaredName 1 5) (Then NoTrees (OfDeclaration (Parameter 1 (Then NoTrees (OfSpecifier (Keyword 1 word.Void))) Absent))) false) (Block 1 (Then NoTrees (OfStatement (Return 1 (Present (OfExpression (SizeofType 1 (TypeName 1 (Then NoTrees (OfSpecifier (Composite 1 word.Struct (Some 6) (Then NoTrees (OfDeclaration (MemberDeclaration 1 (Then NoTrees (OfSpecifier (Keyword 1 word.Int))) (Then NoTrees (OfDeclarator (DeclaredName 1 0))))))))) Absent))))))))) ∷ []) ≡ Some ((0 ∷ 3 ∷ 1 ∷ 1 ∷ 4 ∷ 0 ∷ 1 ∷ []) ∷ (0 ∷ 2 ∷ 1 ∷ 1 ∷ 3 ∷ 0 ∷ 1 ∷ []) ∷ []))
    -- struct a { char c; }; union b { struct a a[7]; short h; }; int main(void){return 0;}
    × (laid ((97 ∷ []) ∷ (99 ∷ []) ∷ (98 ∷ []) ∷ (104 ∷ []) ∷ (109 ∷ 97 ∷ 105 ∷ 110 ∷ []) ∷ []) ([]) ((Declaration 1 (Then NoTrees (OfSpecifier (Composite 1 word.Struct (Some 0) (Then NoTrees (OfDeclaration (MemberDeclaration 1 (Then NoTrees (OfSpecifier (Keyword 1 word.Char))) (Then NoTrees (OfDeclarator (DeclaredName 1 1))))))))) NoTrees) ∷ (Declaration 1 (Then NoTrees (OfSpecifier (Composite 1 word.Union (Some 2) (Then (Then NoTrees (OfDeclaration (MemberDeclaration 1 (Then NoTrees (OfSpecifier (Tag 1 word.Struct 0))) (Then NoTrees (OfDeclarator (Array 1 (DeclaredName 1 0) (Present (OfExpression (Number 1 7 true false 0))))))))) (OfDeclaration (MemberDeclaration 1 (Then NoTrees (OfSpecifier (Keyword 1 word.Short))) (Then NoTrees (OfDeclarator (DeclaredName 1 3))))))))) NoTrees) ∷ (Function 1 (Then NoTrees (OfSpecifier (Keyword 1 word.Int))) (FunctionDeclarator 1 (DeclaredName 1 4) (Then NoTrees (OfDeclaration (Parameter 1 (Then NoTrees (OfSpecifier (Keyword 1 word.Void))) Absent))) false) (Block 1 (Then NoTrees (OfStatement (Return 1 (Present (OfExpression (Number 1 0 false false 0)))))))) ∷ []) ≡ Some ((0 ∷ 0 ∷ 1 ∷ 1 ∷ 1 ∷ 0 ∷ 1 ∷ []) ∷ (1 ∷ 2 ∷ 8 ∷ 2 ∷ 0 ∷ 0 ∷ 7 ∷ 3 ∷ 0 ∷ 2 ∷ []) ∷ []))
    -- int main(void){return 0;}
    × (laid ((109 ∷ 97 ∷ 105 ∷ 110 ∷ []) ∷ []) ([]) ((Function 1 (Then NoTrees (OfSpecifier (Keyword 1 word.Int))) (FunctionDeclarator 1 (DeclaredName 1 0) (Then NoTrees (OfDeclaration (Parameter 1 (Then NoTrees (OfSpecifier (Keyword 1 word.Void))) Absent))) false) (Block 1 (Then NoTrees (OfStatement (Return 1 (Present (OfExpression (Number 1 0 false false 0)))))))) ∷ []) ≡ Some [])
unfolding type_of_words library_named are_compatible layouts_of initialized_object values
layouts_at_file_scope = (refl, refl, refl, refl, refl, refl, refl)
