-- The reader of declarations on rows worked by hand.
use Rattle.std.proofs.Common.{List, ◌≡◌, ℕ, false, [], ◌∷◌, Some, None, refl}
use Rattle.pv_token.specs.declared.token_table.Token.{Token}
use Rattle.pv_token.specs.declared.token_table.TokenKind.{TokenKind}
use Rattle.pv_token.specs.declared.token_table.TokenKind.TheVariants as kind
use Rattle.pv_token.specs.declared.words.Word.TheVariants as word
use Rattle.pv_token.specs.declared.marks.Mark.TheVariants as mark
use Rattle.pv_tree.specs.Syntax.{Name, Declaration, InitDeclarator, MemberDeclaration, Parameter, TypeName, DeclaredName, FunctionDeclarator, AbstractParen, AbstractPointer, AbstractFunction, Keyword, Composite, Initial, OfDeclaration, OfDeclarator, OfSpecifier, OfInitializer, Trees, NoTrees, Then, Absent, Present}
use Rattle.pv_tree.specs.Spells.{Names}
use Rattle.pv_expr_forms.specs.Reader.{read, deeper, head, head_of, longest_tree, grown_for, longer_tree, tree_on}
use Rattle.pv_decl_forms.specs.Pieces.{value, row, row_for, after_comma, comma_list}
use Rattle.pv_decl_forms.specs.Declarators.{variadic_at, behind_parameters, with_parameters, parameters_behind, pointer_tree, pointer, in_parentheses, behind_paren, head_of as first_of, head as first, declarator_on as gone, longer_declarator as next, grown_for as gone_for, longest_declarator as all, declarator}
use Rattle.pv_decl_forms.specs.Reader.{row_in_braces, behind_open_brace, with_tag, specifier_of, specifier, behind_specifiers, parameter, semicolon_behind, with_members, member_with, member, initializer, declarator_and_value, init_declarator, node_readers, leaves, with_parts, readers, type_name, behind_declarators, after_declarator, after_specifiers, declaration_with, declaration}

abbrev token : TokenKind → Token
token k = record { kind = k; start = 0; line = 1 }

abbrev no_types : Names
no_types = record { is_type = λ n. false; type_at = λ here. None }

abbrev word_int : Token
word_int = token (kind.Word word.Int)

abbrev name : ℕ → Token
name n = token (kind.Name n)

abbrev open_paren : Token
open_paren = token (kind.Mark mark.OpenParen)

abbrev close_paren : Token
close_paren = token (kind.Mark mark.CloseParen)

abbrev ints : Trees
ints = Then NoTrees (OfSpecifier (Keyword 1 word.Int))

-- `int a = 0;`
initializes : declaration no_types 4 (word_int ∷ name 7 ∷ token (kind.Mark mark.Assign) ∷ name 8 ∷ token (kind.Mark mark.Semicolon) ∷ name 9 ∷ [])
    ≡ Some (OfDeclaration (Declaration 1 ints (Then NoTrees (OfDeclaration (InitDeclarator 1 (DeclaredName 1 7) (Present (OfInitializer (Initial 1 (Name 1 8)))))))), name 9 ∷ [])
unfolding declaration declaration_with after_specifiers leaves after_declarator behind_declarators semicolon_behind readers with_parts node_readers specifier specifier_of row row_for declarator first first_of all gone_for next gone declarator_and_value value initializer read deeper head head_of longest_tree grown_for longer_tree tree_on after_comma init_declarator
initializes = refl

-- `int f(int (*)(int)) {`: the head of a function
heads : declaration no_types 6 (word_int ∷ name 7 ∷ open_paren ∷ word_int ∷ open_paren ∷ token (kind.Mark mark.Star) ∷ close_paren ∷ open_paren ∷ word_int ∷ close_paren ∷ close_paren ∷ token (kind.Mark mark.OpenBrace) ∷ [])
    ≡ Some (OfDeclaration (Parameter 1 ints (Present (OfDeclarator (FunctionDeclarator 1 (DeclaredName 1 7) (Then NoTrees (OfDeclaration (Parameter 1 ints (Present (OfDeclarator (AbstractFunction 1 (Present (OfDeclarator (AbstractParen 1 (AbstractPointer 1 0 Absent)))) (Then NoTrees (OfDeclaration (Parameter 1 ints Absent))) false)))))) false)))), token (kind.Mark mark.OpenBrace) ∷ [])
unfolding declaration declaration_with after_specifiers leaves after_declarator behind_declarators semicolon_behind readers with_parts node_readers specifier specifier_of row row_for declarator first first_of all gone_for next gone comma_list parameters_behind with_parameters variadic_at behind_parameters parameter behind_specifiers behind_paren in_parentheses pointer pointer_tree after_comma
heads = refl

-- the same where it is too deep: what is read of it is followed by no block
too_deep : declaration no_types 5 (word_int ∷ name 7 ∷ open_paren ∷ word_int ∷ open_paren ∷ token (kind.Mark mark.Star) ∷ close_paren ∷ open_paren ∷ word_int ∷ close_paren ∷ close_paren ∷ token (kind.Mark mark.OpenBrace) ∷ [])
    ≡ None
unfolding declaration declaration_with after_specifiers leaves after_declarator behind_declarators semicolon_behind readers with_parts node_readers specifier specifier_of row row_for declarator first first_of all gone_for next gone comma_list parameters_behind with_parameters variadic_at behind_parameters parameter behind_specifiers behind_paren in_parentheses pointer pointer_tree after_comma declarator_and_value value
too_deep = refl

-- `struct 5 { int 6; } )`: a type name, and the tag alone where braces are too deep
composes : type_name no_types 2 (token (kind.Word word.Struct) ∷ name 5 ∷ token (kind.Mark mark.OpenBrace) ∷ word_int ∷ name 6 ∷ token (kind.Mark mark.Semicolon) ∷ token (kind.Mark mark.CloseBrace) ∷ close_paren ∷ [])
    ≡ Some (OfDeclaration (TypeName 1 (Then NoTrees (OfSpecifier (Composite 1 word.Struct (Some 5) (Then NoTrees (OfDeclaration (MemberDeclaration 1 ints (Then NoTrees (OfDeclarator (DeclaredName 1 6))))))))) Absent), close_paren ∷ [])
unfolding type_name leaves readers with_parts node_readers specifier specifier_of with_tag behind_open_brace row_in_braces row row_for member member_with with_members semicolon_behind comma_list after_comma declarator first first_of all gone_for next gone behind_specifiers
composes = refl

-- `int 7(int);`, and where it is too deep: the parameter's specifiers are read where no depth is left
abbrev function_tokens : List Token
function_tokens = word_int ∷ name 7 ∷ open_paren ∷ word_int ∷ close_paren ∷ token (kind.Mark mark.Semicolon) ∷ []

declares : declaration no_types 3 function_tokens
    ≡ Some (OfDeclaration (Declaration 1 ints (Then NoTrees (OfDeclaration (InitDeclarator 1 (FunctionDeclarator 1 (DeclaredName 1 7) (Then NoTrees (OfDeclaration (Parameter 1 ints Absent))) false) Absent)))), [])
unfolding declaration declaration_with after_specifiers leaves after_declarator behind_declarators semicolon_behind readers with_parts node_readers specifier specifier_of row row_for declarator first first_of all gone_for next gone comma_list parameters_behind with_parameters variadic_at behind_parameters parameter behind_specifiers behind_paren in_parentheses pointer pointer_tree after_comma declarator_and_value value init_declarator
declares = refl

declares_none : declaration no_types 2 function_tokens ≡ None
unfolding declaration declaration_with after_specifiers leaves after_declarator behind_declarators semicolon_behind readers with_parts node_readers specifier specifier_of row row_for declarator first first_of all gone_for next gone comma_list parameters_behind with_parameters variadic_at behind_parameters parameter behind_specifiers behind_paren in_parentheses pointer pointer_tree after_comma declarator_and_value value init_declarator
declares_none = refl
