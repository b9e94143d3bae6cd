-- The first token of a declarator, of specifiers and of parameters.
use Rattle.std.proofs.Common.{◌≡◌, ◌||◌, Bool, true, false, List, [], ◌∷◌, ◌++◌, refl, ap, ◌∙◌}
use Rattle.std.proofs.lemmas.Bool.{false≢true}
use Rattle.pv_token.specs.declared.token_table.Token.{Token}
use Rattle.pv_token.specs.declared.token_table.TokenKind.{TokenKind}
use Rattle.pv_token.specs.declared.token_table.TokenKind.TheVariants as kind
use Rattle.pv_token.specs.declared.words.Word.{Word}
use Rattle.pv_token.specs.declared.words.Word.TheVariants as word
use Rattle.pv_token.specs.declared.marks.Mark.TheVariants as mark
use Rattle.pv_tree.specs.Syntax.{InitDeclarator, Parameter, DeclaratorTree, DeclaredName, ParenDeclarator, Pointer, Array, FunctionDeclarator, AbstractParen, AbstractPointer, AbstractArray, AbstractFunction, SpecifierTree, Keyword, Composite, Enumeration, Tag, TypedefName, OfDeclaration, OfDeclarator, OfSpecifier, Trees, NoTrees, Then, Absent, Present}
use Rattle.pv_tree.specs.Spelling.{declarator_tokens, specifier_tokens, trees_tokens, listed_tokens, variadic_tokens, optional_tokens, value_tokens}
use Rattle.pv_tree.specs.Spells.{Names, begins_specifiers, kind_begins_type, begins_type, Fits}
use Rattle.pv_tree.specs.Places.{Specifiers, InitDeclarators, MemberDeclarators, Parameters, is_plain_word, is_composite_word, is_tag_word, some, may_be_variadic}
use Rattle.pv_tree.specs.Fitting.{DeclaratorFits, SpecifierFits, RowFits, ListFits}
use Rattle.pv_expr_forms.specs.Reader.{is_close}
use Rattle.pv_expr_forms.proofs.Runs.{Takes, takes_parts}
use Rattle.pv_decl_forms.specs.Pieces.{is_semicolon, is_const}
use Rattle.pv_decl_forms.specs.Declarators.{opens_parameters, consts_in_row}
use Rattle.pv_decl_forms.proofs.Stops.{no_brace, Stops}

-- ---- declarators

pub record First (names : Names) (k : TokenKind) : Type 0 where
  pub no_type : kind_begins_type names k ≡ false
  pub no_close : is_close k ≡ false
  pub not_brace : no_brace k ≡ true
  pub no_semicolon : is_semicolon k ≡ false

first_at : (names : Names) (k known : TokenKind) → k ≡ known → kind_begins_type names known ≡ false → is_close known ≡ false → no_brace known ≡ true
    → is_semicolon known ≡ false → First names k
first_at names k known e t c b s = record { no_type = ap (kind_begins_type names) e ∙ t; no_close = ap is_close e ∙ c; not_brace = ap no_brace e ∙ b; no_semicolon = ap is_semicolon e ∙ s }

pub first_token : (names : Names) (d : DeclaratorTree) (t : Token) (ts rest : List Token) → DeclaratorFits names.is_type (Fits names) d (t ∷ ts)
    → Takes (declarator_tokens d) (t ∷ ts) rest → First names t.kind
first_token names (DeclaredName line n) t ts rest f h = first_at names t.kind (kind.Name n) h.0 f.1 refl refl refl
first_token names (ParenDeclarator line d) t ts rest f h = first_at names t.kind _ h.0 refl refl refl refl
first_token names (Pointer line consts d) t ts rest f h = first_at names t.kind _ h.0 refl refl refl refl
first_token names (Array line d size) t ts rest f h = let p = takes_parts (declarator_tokens d) _ (t ∷ ts) rest h in first_token names d t ts p.0 f.3 p.1
first_token names (FunctionDeclarator line d parameters variadic) t ts rest f h = let p = takes_parts (declarator_tokens d) _ (t ∷ ts) rest h in first_token names d t ts p.0 f.4 p.1
first_token names (AbstractParen line d) t ts rest f h = first_at names t.kind _ h.0 refl refl refl refl
first_token names (AbstractPointer line consts d) t ts rest f h = first_at names t.kind _ h.0 refl refl refl refl
first_token names (AbstractArray line Absent size) t ts rest f h = first_at names t.kind _ h.0 refl refl refl refl
first_token names (AbstractArray line (Present (OfDeclarator d)) size) t ts rest f h = let p = takes_parts (declarator_tokens d) _ (t ∷ ts) rest h in first_token names d t ts p.0 f.1.1 p.1
first_token names (AbstractArray line (Present _) size) t ts rest f h = absurd (false≢true f.1.0)
first_token names (AbstractFunction line Absent parameters variadic) t ts rest f h = first_at names t.kind _ h.0 refl refl refl refl
first_token names (AbstractFunction line (Present (OfDeclarator d)) parameters variadic) t ts rest f h = let p = takes_parts (declarator_tokens d) _ (t ∷ ts) rest h in first_token names d t ts p.0 f.2.1 p.1
first_token names (AbstractFunction line (Present _) parameters variadic) t ts rest f h = absurd (false≢true f.2.0)

type_not_const : (names : Names) (k : TokenKind) → kind_begins_type names k ≡ false → is_const k ≡ false
type_not_const names (kind.Word word.Const) e = absurd cc
type_not_const names _ e = refl

or_false : (a b : Bool) → a ≡ false → b ≡ false → (a || b) ≡ false
or_false a b e f = rw (e, f) refl

or_second : (a b : Bool) → b ≡ true → (a || b) ≡ true
or_second true b e = refl
or_second false b e = e

pub record Opening (names : Names) (here : List Token) : Type 0 where
  pub no_type : begins_type names here ≡ false
  pub no_parameters : opens_parameters names here ≡ false
  pub no_consts : consts_in_row here ≡ 0
  pub stops : Stops Specifiers here

pub opening : (names : Names) (d : DeclaratorTree) (here rest : List Token) → DeclaratorFits names.is_type (Fits names) d here
    → Takes (declarator_tokens d) here rest → Opening names here
opening names d [] rest f h = record { no_type = refl; no_parameters = refl; no_consts = refl; stops = tt }
opening names d (t ∷ ts) rest f h =
    let k = first_token names d t ts rest f h in
    record {
      no_type = k.no_type;
      no_parameters = or_false (is_close t.kind) (kind_begins_type names t.kind) k.no_close k.no_type;
      no_consts = rw (type_not_const names t.kind k.no_type) refl;
      stops = k.not_brace;
    }

-- declarators of members, and those of a declaration
pub first_member : (names : Names) (declarators : Trees) (here rest : List Token) → some declarators ≡ true
    → ListFits names.is_type (Fits names) MemberDeclarators declarators here
    → Takes (listed_tokens declarators) here rest → Opening names here
first_member names NoTrees here rest s f h = absurd cc
first_member names (Then NoTrees (OfDeclarator d)) here rest s f h = opening names d here rest f.2 h
first_member names (Then NoTrees _) here rest s f h = absurd (false≢true f.1)
first_member names (Then (Then before other) last) here rest s f h =
    let p = takes_parts (listed_tokens (Then before other) ++ kind.Mark mark.Comma ∷ []) _ here rest h in
    let q = takes_parts (listed_tokens (Then before other)) (kind.Mark mark.Comma ∷ []) here p.0 p.1 in
    first_member names (Then before other) here q.0 refl f.0 q.1

pub first_declared : (names : Names) (declared : Trees) (t : Token) (ts rest : List Token) → some declared ≡ true
    → ListFits names.is_type (Fits names) InitDeclarators declared (t ∷ ts)
    → Takes (listed_tokens declared) (t ∷ ts) rest → First names t.kind
first_declared names NoTrees t ts rest s f h = absurd cc
first_declared names (Then NoTrees (OfDeclaration (InitDeclarator line d init))) t ts rest s f h =
    let p = takes_parts (declarator_tokens d) (value_tokens init) (t ∷ ts) rest h in
    first_token names d t ts p.0 f.2.2 p.1
first_declared names (Then NoTrees _) t ts rest s f h = absurd (false≢true f.1)
first_declared names (Then (Then before other) last) t ts rest s f h =
    let p = takes_parts (listed_tokens (Then before other) ++ kind.Mark mark.Comma ∷ []) _ (t ∷ ts) rest h in
    let q = takes_parts (listed_tokens (Then before other)) (kind.Mark mark.Comma ∷ []) (t ∷ ts) p.0 p.1 in
    first_declared names (Then before other) t ts q.0 refl f.0 q.1

-- ---- specifiers

plain_begins : (w : Word) → is_plain_word w ≡ true → begins_specifiers w ≡ true
plain_begins word.Typedef e = refl
plain_begins word.Extern e = refl
plain_begins word.Static e = refl
plain_begins word.Const e = refl
plain_begins word.Void e = refl
plain_begins word.Char e = refl
plain_begins word.Short e = refl
plain_begins word.Int e = refl
plain_begins word.Long e = refl
plain_begins word.Signed e = refl
plain_begins word.Unsigned e = refl
plain_begins word.Bool e = refl
plain_begins _ e = absurd (false≢true e)

composite_begins : (w : Word) → is_composite_word w ≡ true → begins_specifiers w ≡ true
composite_begins word.Struct e = refl
composite_begins word.Union e = refl
composite_begins _ e = absurd (false≢true e)

tag_begins : (w : Word) → is_tag_word w ≡ true → begins_specifiers w ≡ true
tag_begins word.Struct e = refl
tag_begins word.Union e = refl
tag_begins word.Enum e = refl
tag_begins _ e = absurd (false≢true e)

first_specifier : (names : Names) (s : SpecifierTree) (here rest : List Token) → SpecifierFits names.is_type (Fits names) s here
    → Takes (specifier_tokens s) here rest
    → begins_type names here ≡ true
first_specifier names (Keyword line w) [] rest f h = absurd h
first_specifier names (Keyword line w) (t ∷ ts) rest f h = ap (kind_begins_type names) h.0 ∙ plain_begins w f.1
first_specifier names (Composite line w tag members) [] rest f h = absurd h
first_specifier names (Composite line w tag members) (t ∷ ts) rest f h = ap (kind_begins_type names) h.0 ∙ composite_begins w f.1
first_specifier names (Enumeration line tag enumerators comma) [] rest f h = absurd h
first_specifier names (Enumeration line tag enumerators comma) (t ∷ ts) rest f h = ap (kind_begins_type names) h.0
first_specifier names (Tag line w n) [] rest f h = absurd h
first_specifier names (Tag line w n) (t ∷ ts) rest f h = ap (kind_begins_type names) h.0 ∙ tag_begins w f.1
first_specifier names (TypedefName line n) [] rest f h = absurd h
first_specifier names (TypedefName line n) (t ∷ ts) rest f h = ap (kind_begins_type names) h.0 ∙ f.1

pub first_specifiers : (names : Names) (specs : Trees) (here rest : List Token) → some specs ≡ true
    → RowFits names.is_type (Fits names) Specifiers specs here
    → Takes (trees_tokens specs) here rest → begins_type names here ≡ true
first_specifiers names NoTrees here rest s f h = absurd cc
first_specifiers names (Then NoTrees (OfSpecifier x)) here rest s f h = first_specifier names x here rest f.2 h
first_specifiers names (Then NoTrees _) here rest s f h = absurd (false≢true f.1)
first_specifiers names (Then (Then before other) last) here rest s f h =
    let p = takes_parts (trees_tokens (Then before other)) _ here rest h in
    first_specifiers names (Then before other) here p.0 refl f.0 p.1

type_no_brace : (names : Names) (k : TokenKind) → kind_begins_type names k ≡ true → no_brace k ≡ true
type_no_brace names (kind.Mark mark.OpenBrace) e = absurd cc
type_no_brace names _ e = refl

-- a specifier ends before what begins another
pub type_stops : (names : Names) (here : List Token) → begins_type names here ≡ true → Stops Specifiers here
type_stops names [] e = tt
type_stops names (t ∷ ts) e = type_no_brace names t.kind e

pub specifier_begins : (names : Names) (s : SpecifierTree) (here rest : List Token) → SpecifierFits names.is_type (Fits names) s here
    → Takes (specifier_tokens s) here rest
    → Stops Specifiers here
specifier_begins names s here rest f h = type_stops names here (first_specifier names s here rest f h)

-- ---- parameters

first_listed : (names : Names) (parameters : Trees) (here rest : List Token) → some parameters ≡ true
    → ListFits names.is_type (Fits names) Parameters parameters here
    → Takes (listed_tokens parameters) here rest → begins_type names here ≡ true
first_listed names NoTrees here rest s f h = absurd cc
first_listed names (Then NoTrees (OfDeclaration (Parameter line specs d))) here rest s f h =
    let p = takes_parts (trees_tokens specs) (optional_tokens d) here rest h in
    first_specifiers names specs here p.0 f.2.1 f.2.2 p.1
first_listed names (Then NoTrees _) here rest s f h = absurd (false≢true f.1)
first_listed names (Then (Then before other) last) here rest s f h =
    let p = takes_parts (listed_tokens (Then before other) ++ kind.Mark mark.Comma ∷ []) _ here rest h in
    let q = takes_parts (listed_tokens (Then before other)) (kind.Mark mark.Comma ∷ []) here p.0 p.1 in
    first_listed names (Then before other) here q.0 refl f.0 q.1

type_opens : (names : Names) (here : List Token) → begins_type names here ≡ true → opens_parameters names here ≡ true
type_opens names [] e = absurd cc
type_opens names (t ∷ ts) e = or_second (is_close t.kind) (kind_begins_type names t.kind) e

-- what begins parameters begins no declarator
pub first_parameters : (names : Names) (parameters : Trees) (variadic : Bool) (here rest : List Token)
    → ListFits names.is_type (Fits names) Parameters parameters here
    → may_be_variadic parameters variadic ≡ true
    → Takes ((listed_tokens parameters ++ variadic_tokens variadic) ++ kind.Mark mark.CloseParen ∷ []) here rest
    → opens_parameters names here ≡ true
first_parameters names NoTrees true here rest f m h = absurd cc
first_parameters names NoTrees false [] rest f m h = absurd h
first_parameters names NoTrees false (t ∷ ts) rest f m h = let e : is_close t.kind ≡ true = ap is_close h.0 in rw e refl
first_parameters names (Then before last) variadic here rest f m h =
    let p = takes_parts (listed_tokens (Then before last) ++ variadic_tokens variadic) (kind.Mark mark.CloseParen ∷ []) here rest h in
    let q = takes_parts (listed_tokens (Then before last)) (variadic_tokens variadic) here p.0 p.1 in
    type_opens names here (first_listed names (Then before last) here q.0 refl f q.1)
