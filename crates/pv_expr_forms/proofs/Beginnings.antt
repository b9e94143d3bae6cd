-- The first token of an expression: it begins no type name, and closes no parenthesis.
use Rattle.std.proofs.Common.{◌≡◌, ◌≤◌, false, ◌&&◌, List, [], ◌∷◌, ◌++◌, refl, ap, ◌∙◌, arith}
use Rattle.std.proofs.lemmas.Bool.{and_left, and_right}
use Rattle.pv_token.specs.declared.token_table.Token.{Token}
use Rattle.pv_token.specs.declared.token_table.TokenKind.{TokenKind}
use Rattle.pv_token.specs.declared.token_table.TokenKind.TheVariants as kind
use Rattle.pv_token.specs.declared.marks.Mark.TheVariants as mark
use Rattle.pv_tree.specs.declared.operators.UnaryOperator.{UnaryOperator}
use Rattle.pv_tree.specs.declared.operators.UnaryOperator.TheVariants as unary
use Rattle.pv_tree.specs.Syntax.{ExpressionTree, Name, Number, Character, Text, Paren, Index, Call, Member, Arrow, PostIncrement, PostDecrement, PreIncrement, PreDecrement, Unary, SizeofExpr, SizeofType, Cast, Binary, Conditional, Assign, Comma, ArgumentTrees, NoArguments, Argument}
use Rattle.pv_tree.specs.Levels.{unary_mark, rank}
use Rattle.pv_tree.specs.Spelling.{expression_tokens, arguments_tokens}
use Rattle.pv_tree.specs.Spells.{Names, kind_begins_type, begins_type, Fits, FitsArguments}
use Rattle.pv_expr_forms.specs.Reader.{is_open, is_close, opens_type}
use Rattle.pv_expr_forms.proofs.Runs.{Takes, takes_parts}
use Rattle.pv_expr_forms.proofs.Operators.{binary_rank_in}

pub record First (names : Names) (k : TokenKind) : Type 0 where
  pub no_type : kind_begins_type names k ≡ false
  pub no_close : is_close k ≡ false

first_at : (names : Names) (k known : TokenKind) → k ≡ known → kind_begins_type names known ≡ false → is_close known ≡ false → First names k
first_at names k known e t c = record { no_type = ap (kind_begins_type names) e ∙ t; no_close = ap is_close e ∙ c }

unary_no_close : (op : UnaryOperator) → is_close (kind.Mark (unary_mark op)) ≡ false
unary_no_close unary.Address = refl
unary_no_close unary.Indirection = refl
unary_no_close unary.Plus = refl
unary_no_close unary.Minus = refl
unary_no_close unary.Complement = refl
unary_no_close unary.Not = refl

unary_no_open : (op : UnaryOperator) → is_open (kind.Mark (unary_mark op)) ≡ false
unary_no_open unary.Address = refl
unary_no_open unary.Indirection = refl
unary_no_open unary.Plus = refl
unary_no_open unary.Minus = refl
unary_no_open unary.Complement = refl
unary_no_open unary.Not = refl

pub first_token : (names : Names) (a : ExpressionTree) (t : Token) (ts rest : List Token) → Fits names a (t ∷ ts) → Takes (expression_tokens a) (t ∷ ts) rest
    → First names t.kind
first_token names (Name line n) t ts rest f h = first_at names t.kind (kind.Name n) h.0 f.1 refl
first_token names (Number line value decimal unsigned longs) t ts rest f h = first_at names t.kind (kind.Number value decimal unsigned longs) h.0 refl refl
first_token names (Character line value) t ts rest f h = first_at names t.kind (kind.Character value) h.0 refl refl
first_token names (Text line first more) t ts rest f h = first_at names t.kind (kind.Text first) h.0 refl refl
first_token names (Paren line a) t ts rest f h = first_at names t.kind _ h.0 refl refl
first_token names (Index line a i) t ts rest f h = let p = takes_parts (expression_tokens a) _ (t ∷ ts) rest h in first_token names a t ts p.0 f.3 p.1
first_token names (Call line callee args) t ts rest f h = let p = takes_parts (expression_tokens callee) _ (t ∷ ts) rest h in first_token names callee t ts p.0 f.2 p.1
first_token names (Member line a n) t ts rest f h = let p = takes_parts (expression_tokens a) _ (t ∷ ts) rest h in first_token names a t ts p.0 f.3 p.1
first_token names (Arrow line a n) t ts rest f h = let p = takes_parts (expression_tokens a) _ (t ∷ ts) rest h in first_token names a t ts p.0 f.3 p.1
first_token names (PostIncrement line a) t ts rest f h = let p = takes_parts (expression_tokens a) _ (t ∷ ts) rest h in first_token names a t ts p.0 f.2 p.1
first_token names (PostDecrement line a) t ts rest f h = let p = takes_parts (expression_tokens a) _ (t ∷ ts) rest h in first_token names a t ts p.0 f.2 p.1
first_token names (PreIncrement line a) t ts rest f h = first_at names t.kind _ h.0 refl refl
first_token names (PreDecrement line a) t ts rest f h = first_at names t.kind _ h.0 refl refl
first_token names (Unary line op a) t ts rest f h = first_at names t.kind (kind.Mark (unary_mark op)) h.0 refl (unary_no_close op)
first_token names (SizeofExpr line a) t ts rest f h = first_at names t.kind _ h.0 refl refl
first_token names (SizeofType line type) t ts rest f h = first_at names t.kind _ h.0 refl refl
first_token names (Cast line type a) t ts rest f h = first_at names t.kind _ h.0 refl refl
first_token names (Binary line op a b) t ts rest f h = let p = takes_parts (expression_tokens a) _ (t ∷ ts) rest h in first_token names a t ts p.0 f.3 p.1
first_token names (Conditional line a b c) t ts rest f h = let p = takes_parts (expression_tokens a) _ (t ∷ ts) rest h in first_token names a t ts p.0 f.4 p.1
first_token names (Assign line op a b) t ts rest f h = let p = takes_parts (expression_tokens a) _ (t ∷ ts) rest h in first_token names a t ts p.0 f.3 p.1
first_token names (Comma line a b) t ts rest f h = let p = takes_parts (expression_tokens a) _ (t ∷ ts) rest h in first_token names a t ts p.0 f.3 p.1

-- what begins an expression begins no type name
pub begins_none : (names : Names) (a : ExpressionTree) (here rest : List Token) → Fits names a here → Takes (expression_tokens a) here rest
    → begins_type names here ≡ false
begins_none names a [] rest f h = refl
begins_none names a (t ∷ ts) rest f h = (first_token names a t ts rest f h).no_type

-- a first argument doesn't close the arguments
pub first_argument : (names : Names) (before : ArgumentTrees) (last : ExpressionTree) (t : Token) (ts rest : List Token)
    → FitsArguments names (Argument before last) (t ∷ ts) → Takes (arguments_tokens (Argument before last)) (t ∷ ts) rest → is_close t.kind ≡ false
first_argument names NoArguments last t ts rest f h = (first_token names last t ts rest f.2 h).no_close
first_argument names (Argument before other) last t ts rest f h =
    let p = takes_parts (arguments_tokens (Argument before other) ++ kind.Mark mark.Comma ∷ []) (expression_tokens last) (t ∷ ts) rest h in
    let q = takes_parts (arguments_tokens (Argument before other)) (kind.Mark mark.Comma ∷ []) (t ∷ ts) p.0 p.1 in
    first_argument names before other t ts q.0 f.0 q.1

shut_by : (names : Names) (k known : TokenKind) (ts : List Token) → k ≡ known → is_open known ≡ false → (is_open k && begins_type names ts) ≡ false
shut_by names k known ts e c = and_left (is_open k) (begins_type names ts) (ap is_open e ∙ c)

opens_at : (names : Names) (a : ExpressionTree) (t : Token) (ts rest : List Token) → 15 ≤ rank a → Fits names a (t ∷ ts) → Takes (expression_tokens a) (t ∷ ts) rest
    → (is_open t.kind && begins_type names ts) ≡ false
opens_at names (Name line n) t ts rest l f h = shut_by names t.kind (kind.Name n) ts h.0 refl
opens_at names (Number line value decimal unsigned longs) t ts rest l f h = shut_by names t.kind (kind.Number value decimal unsigned longs) ts h.0 refl
opens_at names (Character line value) t ts rest l f h = shut_by names t.kind (kind.Character value) ts h.0 refl
opens_at names (Text line first more) t ts rest l f h = shut_by names t.kind (kind.Text first) ts h.0 refl
opens_at names (Paren line a) t ts rest l f h =
    let p = takes_parts (expression_tokens a) (kind.Mark mark.CloseParen ∷ []) ts rest h.1 in
    and_right (is_open t.kind) (begins_type names ts) (begins_none names a ts p.0 f.2 p.1)
opens_at names (Index line a i) t ts rest l f h = let p = takes_parts (expression_tokens a) _ (t ∷ ts) rest h in opens_at names a t ts p.0 (omega (arith, f.1)) f.3 p.1
opens_at names (Call line callee args) t ts rest l f h = let p = takes_parts (expression_tokens callee) _ (t ∷ ts) rest h in opens_at names callee t ts p.0 (omega (arith, f.1)) f.2 p.1
opens_at names (Member line a n) t ts rest l f h = let p = takes_parts (expression_tokens a) _ (t ∷ ts) rest h in opens_at names a t ts p.0 (omega (arith, f.1)) f.3 p.1
opens_at names (Arrow line a n) t ts rest l f h = let p = takes_parts (expression_tokens a) _ (t ∷ ts) rest h in opens_at names a t ts p.0 (omega (arith, f.1)) f.3 p.1
opens_at names (PostIncrement line a) t ts rest l f h = let p = takes_parts (expression_tokens a) _ (t ∷ ts) rest h in opens_at names a t ts p.0 (omega (arith, f.1)) f.2 p.1
opens_at names (PostDecrement line a) t ts rest l f h = let p = takes_parts (expression_tokens a) _ (t ∷ ts) rest h in opens_at names a t ts p.0 (omega (arith, f.1)) f.2 p.1
opens_at names (PreIncrement line a) t ts rest l f h = shut_by names t.kind _ ts h.0 refl
opens_at names (PreDecrement line a) t ts rest l f h = shut_by names t.kind _ ts h.0 refl
opens_at names (Unary line op a) t ts rest l f h = shut_by names t.kind (kind.Mark (unary_mark op)) ts h.0 (unary_no_open op)
opens_at names (SizeofExpr line a) t ts rest l f h = shut_by names t.kind _ ts h.0 refl
opens_at names (SizeofType line type) t ts rest l f h = shut_by names t.kind _ ts h.0 refl
opens_at names (Cast line type a) t ts rest l f h = absurd (omega arith)
opens_at names (Binary line op a b) t ts rest l f h = absurd (omega (arith, (binary_rank_in op).1))
opens_at names (Conditional line a b c) t ts rest l f h = absurd (omega arith)
opens_at names (Assign line op a b) t ts rest l f h = absurd (omega arith)
opens_at names (Comma line a b) t ts rest l f h = absurd (omega arith)

-- a unary expression is no type name in parentheses
pub opens_none : (names : Names) (a : ExpressionTree) (here rest : List Token) → 15 ≤ rank a → Fits names a here → Takes (expression_tokens a) here rest
    → opens_type names here ≡ false
opens_none names a [] rest l f h = refl
opens_none names a (t ∷ ts) rest l f h = opens_at names a t ts rest l f h
