-- Where a part ends, and what begins none.
use Rattle.std.proofs.Common.{◌≡◌, ◌≤◌, ℕ, zero, suc, Bool, true, false, cond, List, [], ◌∷◌, length, Some, None, refl, ap, ◌∙◌, arith}
use Rattle.std.proofs.lemmas.Bool.{false≢true, true≢false}
use Rattle.pv_token.specs.declared.token_table.Token.{Token}
use Rattle.pv_token.specs.declared.token_table.TokenKind.{TokenKind}
use Rattle.pv_token.specs.declared.token_table.TokenKind.TheVariants as kind
use Rattle.pv_token.specs.declared.words.Word.{Word}
use Rattle.pv_token.specs.declared.words.Word.TheVariants as word
use Rattle.pv_token.specs.declared.marks.Mark.TheVariants as mark
use Rattle.pv_tree.specs.Syntax.{TypedefName, Tree, OfSpecifier, Trees, NoTrees}
use Rattle.pv_tree.specs.Spells.{Names, begins_specifiers, kind_begins_type, begins_type}
use Rattle.pv_tree.specs.Places.{Place, Specifiers, InitDeclarators, Members, MemberDeclarators, Enumerators, Parameters, Initializers, Constants, AbstractDeclarators, ParameterDeclarators, is_plain_word, is_tag_word}
use Rattle.pv_expr_forms.specs.Reader.{Reads as Expressing, head_of as begun_of, head as begun, deeper, prefix_behind, read}
use Rattle.pv_expr_forms.proofs.Ends.{goes_level, Stops as Ends}
use Rattle.pv_decl_forms.specs.declared.forms.Form.{Form}
use Rattle.pv_decl_forms.specs.Pieces.{Piece, Reads, is_open_brace, row_on, row_for, row}
use Rattle.pv_decl_forms.specs.Declarators.{head_of, head, declarator_on, longer_declarator, declarator}
use Rattle.pv_decl_forms.specs.Reader.{name_of, specifier_of, specifier, behind_specifiers, parameter, member_with, member, enumerator_of, enumerator, initializer, init_declarator, node_readers, nothing, leaves, with_parts, readers}

-- ---- tokens that close, or that stand between parts

abbrev pub closes : TokenKind → Bool
closes (kind.Mark mark.Comma) = true
closes (kind.Mark mark.CloseParen) = true
closes (kind.Mark mark.CloseBracket) = true
closes (kind.Mark mark.CloseBrace) = true
closes (kind.Mark mark.Semicolon) = true
closes _ = false

-- these begin no part
abbrev pub shuts : TokenKind → Bool
shuts (kind.Mark mark.Assign) = true
shuts (kind.Mark mark.Ellipsis) = true
shuts k = closes k

-- a declarator with a name ends before these
abbrev pub ends_named : TokenKind → Bool
ends_named (kind.Mark mark.Assign) = true
ends_named (kind.Mark mark.OpenBrace) = true
ends_named k = closes k

abbrev pub no_brace : TokenKind → Bool
no_brace (kind.Mark mark.OpenBrace) = false
no_brace _ = true

pub brace_not : (k : TokenKind) → no_brace k ≡ true → is_open_brace k ≡ false
brace_not (kind.Mark mark.OpenBrace) e = absurd cc
brace_not _ e = refl

-- what stands at a place ends before these
abbrev pub stops_at : Place → TokenKind → Bool
stops_at Specifiers k = no_brace k
stops_at Members k = true
stops_at MemberDeclarators k = ends_named k
stops_at _ k = closes k

abbrev pub Stops : Place → List Token → Type 0
Stops place [] = Unit {0}
Stops place (t ∷ ts) = stops_at place t.kind ≡ true

abbrev pub Closes : List Token → Type 0
Closes [] = Unit {0}
Closes (t ∷ ts) = closes t.kind ≡ true

abbrev pub Shuts : List Token → Type 0
Shuts [] = Unit {0}
Shuts (t ∷ ts) = shuts t.kind ≡ true

pub closes_shuts : (k : TokenKind) → closes k ≡ true → shuts k ≡ true
closes_shuts (kind.Mark mark.Comma) e = refl
closes_shuts (kind.Mark mark.CloseParen) e = refl
closes_shuts (kind.Mark mark.CloseBracket) e = refl
closes_shuts (kind.Mark mark.CloseBrace) e = refl
closes_shuts (kind.Mark mark.Semicolon) e = refl
closes_shuts _ e = absurd (false≢true e)

closes_named : (k : TokenKind) → closes k ≡ true → ends_named k ≡ true
closes_named (kind.Mark mark.Comma) e = refl
closes_named (kind.Mark mark.CloseParen) e = refl
closes_named (kind.Mark mark.CloseBracket) e = refl
closes_named (kind.Mark mark.CloseBrace) e = refl
closes_named (kind.Mark mark.Semicolon) e = refl
closes_named _ e = absurd (false≢true e)

closes_no_brace : (k : TokenKind) → closes k ≡ true → no_brace k ≡ true
closes_no_brace (kind.Mark mark.OpenBrace) e = absurd cc
closes_no_brace _ e = refl

closes_at : (place : Place) (k : TokenKind) → closes k ≡ true → stops_at place k ≡ true
closes_at Specifiers k e = closes_no_brace k e
closes_at Members k e = refl
closes_at MemberDeclarators k e = closes_named k e
closes_at _ k e = e

-- what closes ends each part
pub closes_stops : (place : Place) (ts : List Token) → Closes ts → Stops place ts
closes_stops place [] c = tt
closes_stops place (t ∷ ts) c = closes_at place t.kind c

pub closed_shuts : (ts : List Token) → Closes ts → Shuts ts
closed_shuts [] c = tt
closed_shuts (t ∷ ts) c = closes_shuts t.kind c

-- a token of a kind
pub stops_on : (place : Place) (k : TokenKind) (t : Token) (ts : List Token) → t.kind ≡ k → stops_at place k ≡ true → Stops place (t ∷ ts)
stops_on place k t ts e s = ap (stops_at place) e ∙ s

pub closes_on : (k : TokenKind) (t : Token) (ts : List Token) → t.kind ≡ k → closes k ≡ true → Closes (t ∷ ts)
closes_on k t ts e s = ap closes e ∙ s

pub shuts_on : (k : TokenKind) (t : Token) (ts : List Token) → t.kind ≡ k → shuts k ≡ true → Shuts (t ∷ ts)
shuts_on k t ts e s = ap shuts e ∙ s

closed_level : (k : TokenKind) → closes k ≡ true → goes_level k ≤ 2
closed_level (kind.Mark mark.Comma) e = omega arith
closed_level (kind.Mark mark.CloseParen) e = omega arith
closed_level (kind.Mark mark.CloseBracket) e = omega arith
closed_level (kind.Mark mark.CloseBrace) e = omega arith
closed_level (kind.Mark mark.Semicolon) e = omega arith
closed_level _ e = absurd (false≢true e)

-- an assignment expression, and a conditional one, end there
pub closes_ends : (level : ℕ) (ts : List Token) → 2 ≤ level → Closes ts → Ends level ts
closes_ends level [] l c = tt
closes_ends level (t ∷ ts) l c = omega (arith, closed_level t.kind c)

-- ---- what begins no part

shut_no_type : (names : Names) (k : TokenKind) → shuts k ≡ true → kind_begins_type names k ≡ false
shut_no_type names (kind.Name n) e = absurd (false≢true e)
shut_no_type names (kind.Word w) e = absurd (false≢true e)
shut_no_type names _ e = refl

pub shuts_no_type : (names : Names) (ts : List Token) → Shuts ts → begins_type names ts ≡ false
shuts_no_type names [] s = refl
shuts_no_type names (t ∷ ts) s = shut_no_type names t.kind s

begun_shut : (names : Names) (r : Expressing) (below line : ℕ) (k : TokenKind) (ts : List Token) → shuts k ≡ true
    → begun_of names r below line k ts ≡ None
unfolding begun_of prefix_behind
begun_shut names r below line (kind.Mark mark.Comma) ts e = refl
begun_shut names r below line (kind.Mark mark.CloseParen) ts e = refl
begun_shut names r below line (kind.Mark mark.CloseBracket) ts e = refl
begun_shut names r below line (kind.Mark mark.CloseBrace) ts e = refl
begun_shut names r below line (kind.Mark mark.Semicolon) ts e = refl
begun_shut names r below line (kind.Mark mark.Assign) ts e = refl
begun_shut names r below line (kind.Mark mark.Ellipsis) ts e = refl
begun_shut names r below line _ ts e = absurd (false≢true e)

read_shut : (names : Names) (depth level : ℕ) (ts : List Token) → Shuts ts → read names depth level ts ≡ None
unfolding read deeper begun
read_shut names zero level ts s = refl
read_shut names (suc depth) level [] s = refl
read_shut names (suc depth) level (t ∷ ts) s = rw (begun_shut names (read names depth) depth t.line t.kind ts s) refl

begun_brace : (names : Names) (r : Expressing) (below line : ℕ) (k : TokenKind) (ts : List Token) → is_open_brace k ≡ true
    → begun_of names r below line k ts ≡ None
unfolding begun_of prefix_behind
begun_brace names r below line (kind.Mark mark.OpenBrace) ts e = refl
begun_brace names r below line _ ts e = absurd (false≢true e)

-- no expression begins with a brace
pub read_brace : (names : Names) (depth level : ℕ) (t : Token) (ts : List Token) → is_open_brace t.kind ≡ true
    → read names depth level (t ∷ ts) ≡ None
unfolding read deeper begun
read_brace names zero level t ts s = refl
read_brace names (suc depth) level t ts s = rw (begun_brace names (read names depth) depth t.line t.kind ts s) refl

no_specifier_word : (w : Word) → begins_specifiers w ≡ false → (is_plain_word w ≡ false) × (is_tag_word w ≡ false)
no_specifier_word word.Typedef e = absurd (true≢false e)
no_specifier_word word.Extern e = absurd (true≢false e)
no_specifier_word word.Static e = absurd (true≢false e)
no_specifier_word word.Const e = absurd (true≢false e)
no_specifier_word word.Void e = absurd (true≢false e)
no_specifier_word word.Char e = absurd (true≢false e)
no_specifier_word word.Short e = absurd (true≢false e)
no_specifier_word word.Int e = absurd (true≢false e)
no_specifier_word word.Long e = absurd (true≢false e)
no_specifier_word word.Signed e = absurd (true≢false e)
no_specifier_word word.Unsigned e = absurd (true≢false e)
no_specifier_word word.Bool e = absurd (true≢false e)
no_specifier_word word.Struct e = absurd (true≢false e)
no_specifier_word word.Union e = absurd (true≢false e)
no_specifier_word word.Enum e = absurd (true≢false e)
no_specifier_word _ e = (refl, refl)

specifier_of_none : (names : Names) (below : Reads) (line : ℕ) (k : TokenKind) (ts : List Token) → kind_begins_type names k ≡ false
    → specifier_of names below line k ts ≡ None
unfolding specifier_of
specifier_of_none names below line (kind.Name n) ts e = ap (λ (b : Bool). cond {A = Piece} b (Some (OfSpecifier (TypedefName line n), ts)) None) e
specifier_of_none names below line (kind.Word w) ts e = let p = no_specifier_word w e in rw (p.0, p.1) refl
specifier_of_none names below line _ ts e = refl

specifier_none : (names : Names) (below : Reads) (ts : List Token) → begins_type names ts ≡ false → specifier names below ts ≡ None
unfolding specifier
specifier_none names below [] e = refl
specifier_none names below (t ∷ ts) e = specifier_of_none names below t.line t.kind ts e

pub specifiers_none : (names : Names) (depth : ℕ) (ts : List Token) → begins_type names ts ≡ false → readers names depth Specifiers ts ≡ None
unfolding readers with_parts node_readers leaves
specifiers_none names zero ts e = specifier_none names nothing ts e
specifiers_none names (suc depth) ts e = specifier_none names (readers names depth) ts e

pub made_none : (names : Names) (depth : ℕ) (ts : List Token) → begins_type names ts ≡ false
    → node_readers names (readers names depth) depth Specifiers ts ≡ None
unfolding node_readers
made_none names depth ts e = specifier_none names (readers names depth) ts e

pub leaves_none : (names : Names) (ts : List Token) → begins_type names ts ≡ false → leaves names Specifiers ts ≡ None
unfolding leaves
leaves_none names ts e = specifier_none names nothing ts e

head_of_shut : (names : Names) (below : Reads) (f : Form) (line : ℕ) (k : TokenKind) (ts : List Token) → shuts k ≡ true
    → head_of names below f line k ts ≡ None
unfolding head_of
head_of_shut names below f line (kind.Name n) ts e = absurd (false≢true e)
head_of_shut names below f line (kind.Mark mark.Star) ts e = absurd (false≢true e)
head_of_shut names below f line (kind.Mark mark.OpenParen) ts e = absurd (false≢true e)
head_of_shut names below f line (kind.Mark mark.OpenBracket) ts e = absurd (false≢true e)
head_of_shut names below f line _ ts e = refl

declarator_shut : (names : Names) (below : Reads) (depth : ℕ) (f : Form) (ts : List Token) → Shuts ts → declarator names below depth f ts ≡ None
unfolding declarator head
declarator_shut names below depth f [] s = refl
declarator_shut names below depth f (t ∷ ts) s = rw (head_of_shut names below f t.line t.kind ts s) refl

-- a row that can't begin
pub row_quits : (read : List Token → Piece) (before : Trees) (ts : List Token) → read ts ≡ None → row read before ts ≡ (before, ts)
unfolding row row_for
row_quits read before [] e = refl
row_quits read before (t ∷ ts) e = ap (row_on (row_for (length ts) read) before (t ∷ ts)) e

parameter_shut : (below : Reads) (ts : List Token) → below Specifiers ts ≡ None → parameter below ts ≡ None
unfolding parameter behind_specifiers
parameter_shut below ts e = rw (row_quits (below Specifiers) NoTrees ts e) refl

member_shut : (reads : Reads) (ts : List Token) → reads Specifiers ts ≡ None → member reads ts ≡ None
unfolding member member_with
member_shut reads ts e = rw (row_quits (reads Specifiers) NoTrees ts e) refl

no_name : (k : TokenKind) → shuts k ≡ true → name_of k ≡ None
no_name (kind.Name n) e = absurd (false≢true e)
no_name _ e = refl

enumerator_shut : (names : Names) (reads : Reads) (ts : List Token) → Shuts ts → enumerator names reads ts ≡ None
unfolding enumerator enumerator_of
enumerator_shut names reads [] s = refl
enumerator_shut names reads (t ∷ ts) s = rw (no_name t.kind s) refl

no_open_brace : (k : TokenKind) → shuts k ≡ true → is_open_brace k ≡ false
no_open_brace (kind.Mark mark.OpenBrace) e = absurd cc
no_open_brace _ e = refl

initializer_shut : (names : Names) (below : Reads) (depth : ℕ) (ts : List Token) → Shuts ts → initializer names below depth ts ≡ None
unfolding initializer
initializer_shut names below depth [] s = refl
initializer_shut names below depth (t ∷ ts) s = rw (no_open_brace t.kind s, read_shut names depth 2 (t ∷ ts) s) refl

init_declarator_shut : (reads : Reads) (ts : List Token) → reads MemberDeclarators ts ≡ None → init_declarator reads ts ≡ None
unfolding init_declarator
init_declarator_shut reads ts e = rw e refl

made_shut : (names : Names) (below : Reads) (depth : ℕ) → ((ts : List Token) → Shuts ts → below Specifiers ts ≡ None)
    → (place : Place) (ts : List Token) → Shuts ts
    → node_readers names below depth place ts ≡ None
unfolding node_readers
made_shut names below depth none Specifiers ts s = specifier_none names below ts (shuts_no_type names ts s)
made_shut names below depth none MemberDeclarators ts s = declarator_shut names below depth _ ts s
made_shut names below depth none AbstractDeclarators ts s = declarator_shut names below depth _ ts s
made_shut names below depth none ParameterDeclarators ts s = declarator_shut names below depth _ ts s
made_shut names below depth none Parameters ts s = parameter_shut below ts (none ts s)
made_shut names below depth none Initializers ts s = initializer_shut names below depth ts s
made_shut names below depth none Constants ts s = rw (read_shut names (suc depth) 3 ts s) refl
made_shut names below depth none _ ts s = refl

parts_shut : (names : Names) (reads : Reads) → ((place : Place) (ts : List Token) → Shuts ts → reads place ts ≡ None)
    → (place : Place) (ts : List Token) → Shuts ts
    → with_parts names reads place ts ≡ None
unfolding with_parts
parts_shut names reads none InitDeclarators ts s = init_declarator_shut reads ts (none MemberDeclarators ts s)
parts_shut names reads none Members ts s = member_shut reads ts (none Specifiers ts s)
parts_shut names reads none Enumerators ts s = enumerator_shut names reads ts s
parts_shut names reads none place ts s = none place ts s

pub none_made : (names : Names) (depth : ℕ) (place : Place) (ts : List Token) → Shuts ts → node_readers names (readers names depth) depth place ts ≡ None
none_made names depth place ts s = made_shut names (readers names depth) depth (λ here k. specifiers_none names depth here (shuts_no_type names here k)) place ts s

pub leaves_shut : (names : Names) (place : Place) (ts : List Token) → Shuts ts → leaves names place ts ≡ None
unfolding leaves
leaves_shut names Specifiers ts s = specifier_none names nothing ts (shuts_no_type names ts s)
leaves_shut names _ ts s = refl

-- nothing begins where a part ends
pub readers_shut : (names : Names) (depth : ℕ) (place : Place) (ts : List Token) → Shuts ts → readers names depth place ts ≡ None
unfolding readers
readers_shut names zero place ts s = parts_shut names (leaves names) (leaves_shut names) place ts s
readers_shut names (suc depth) place ts s = parts_shut names (node_readers names (readers names depth) depth) (none_made names depth) place ts s

-- ---- where a declarator goes on no further

tried_stops : (below : Reads) (line : ℕ) (left : Tree) (k : TokenKind) (ts : List Token) → ends_named k ≡ true → declarator_on below line left k ts ≡ None
unfolding declarator_on
tried_stops below line left (kind.Mark mark.OpenBracket) ts e = absurd (false≢true e)
tried_stops below line left (kind.Mark mark.OpenParen) ts e = absurd (false≢true e)
tried_stops below line left _ ts e = refl

either_none : (b : Bool) → ◌≡◌ {A = Piece} (cond b None None) None
either_none true = refl
either_none false = refl

pub longer_stops : (below : Reads) (depth line : ℕ) (left : Tree) (ts : List Token) → Stops MemberDeclarators ts
    → longer_declarator below depth line left ts ≡ None
unfolding longer_declarator
longer_stops below depth line left [] s = refl
longer_stops below depth line left (t ∷ ts) s = rw (tried_stops below line left t.kind ts s) (either_none _)
