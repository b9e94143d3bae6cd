-- What reading gives where a form stands.
use Rattle.std.proofs.Common.{◌≡◌, ◌≤◌, ℕ, ℤ, suc, Bool, true, false, cond, List, ◌∷◌, length, drop, Some, None, refl, sym, ap, ◌∙◌}
use Rattle.std.proofs.lemmas.Bool.{le-leb}
use Rattle.pv_token.specs.declared.token_table.Token.{Token}
use Rattle.pv_token.specs.declared.token_table.TokenKind.{TokenKind}
use Rattle.pv_token.specs.declared.token_table.TokenKind.TheVariants as kind
use Rattle.pv_token.specs.declared.words.Word.TheVariants as word
use Rattle.pv_token.specs.declared.marks.Mark.TheVariants as mark
use Rattle.pv_tree.specs.declared.operators.UnaryOperator.TheVariants as unary
use Rattle.pv_tree.specs.Syntax.{ExpressionTree, Name, Number, Character, Text, Paren, Index, Call, Member, Arrow, PostIncrement, PostDecrement, SizeofType, Cast, Conditional, ArgumentTrees, NoArguments, Argument, DeclarationTree}
use Rattle.pv_tree.specs.Depths.{expression_depth, declaration_depth}
use Rattle.pv_tree.specs.Lines.{expression_line}
use Rattle.pv_tree.specs.Levels.{rank}
use Rattle.pv_tree.specs.Spells.{Names, begins_type}
use Rattle.pv_expr_forms.specs.declared.follows.Prefix.{Prefix}
use Rattle.pv_expr_forms.specs.declared.follows.Prefix.TheVariants as prefix
use Rattle.pv_expr_forms.specs.declared.follows.Join.{Join}
use Rattle.pv_expr_forms.specs.declared.follows.Follow.{Follow}
use Rattle.pv_expr_forms.specs.declared.follows.Follow.TheVariants as follow
use Rattle.pv_expr_forms.specs.Follows.{prefix_token, prefix_operand, prefix_tree, join_right, join_tree, follow_of, follow_mark, follow_rank, follow_left}
use Rattle.pv_expr_forms.specs.Reader.{Read, Reads, is_open, is_close, is_comma, is_bracket, is_colon, texts_in_row, paren_end, cast_to, behind_open, prefix_behind, sizeof_named_type, opens_type, sizeof_behind, head_of, head, index_end, third_operand, more_arguments, arguments_for, arguments, call_behind, selected_by, selection_behind, goes_on, tree_on, longer_tree, longest_tree, deeper, read}
use Rattle.pv_expr_forms.proofs.Operators.{follow_of_mark_is}
use Rattle.pv_expr_forms.proofs.Marks.{after_test}

-- behind `sizeof`, no parenthesis opens with a type name behind it
abbrev pub Clear : Names → (ts : List Token) → Prefix → Type 0
Clear names ts prefix.Sizeof = opens_type names ts ≡ false
Clear names ts _ = Unit {0}

-- on the line of the first token
pub on_line : (make : ℕ → ExpressionTree) (line first : ℕ) (rest : List Token) → line ≡ first → ◌≡◌ {A = Read} (Some (make first, rest)) (Some (make line, rest))
on_line make line first rest e = ap (λ (l : ℕ). let y : Read = Some (make l, rest) in y) (sym e)

-- ---- forms that begin with a token of their own

module _ (names : Names) (r : Reads) (below : ℕ) (t : Token) (ts : List Token) where
  head_as : (k : TokenKind) → t.kind ≡ k → head names r below (t ∷ ts) ≡ head_of names r below t.line k ts
  unfolding head
  head_as k e = ap (λ (x : TokenKind). head_of names r below t.line x ts) e

  pub head_name : (n : ℕ) → t.kind ≡ kind.Name n → names.is_type n ≡ false → head names r below (t ∷ ts) ≡ Some (Name t.line n, ts)
  unfolding head_of
  head_name n e free = head_as (kind.Name n) e ∙ ap (λ (b : Bool). cond {A = Read} b None (Some (Name t.line n, ts))) free

  pub head_number : (value : ℕ) (decimal unsigned : Bool) (longs : ℕ) → t.kind ≡ kind.Number value decimal unsigned longs
      → head names r below (t ∷ ts) ≡ Some (Number t.line value decimal unsigned longs, ts)
  unfolding head_of
  head_number value decimal unsigned longs e = head_as (kind.Number value decimal unsigned longs) e

  pub head_character : (value : ℤ) → t.kind ≡ kind.Character value → head names r below (t ∷ ts) ≡ Some (Character t.line value, ts)
  unfolding head_of
  head_character value e = head_as (kind.Character value) e

  pub head_text : (first more : ℕ) (rest : List Token) → t.kind ≡ kind.Text first → texts_in_row (suc first) ts ≡ more → drop more ts ≡ rest
      → head names r below (t ∷ ts) ≡ Some (Text t.line first more, rest)
  unfolding head_of
  head_text first more rest e m d =
      head_as (kind.Text first) e
      ∙ ap (λ (x : ℕ). let y : Read = Some (Text t.line first x, drop x ts) in y) m
      ∙ ap (λ (x : List Token). let y : Read = Some (Text t.line first more, x) in y) d

  pub head_paren : (a : ExpressionTree) (c : Token) (rest : List Token) → t.kind ≡ kind.Mark mark.OpenParen → begins_type names ts ≡ false → r 1 ts ≡ Some (a, c ∷ rest)
      → c.kind ≡ kind.Mark mark.CloseParen → head names r below (t ∷ ts) ≡ Some (Paren t.line a, rest)
  unfolding head_of behind_open paren_end
  head_paren a c rest o b e k = head_as (kind.Mark mark.OpenParen) o ∙ rw (b, e, after_test is_close (kind.Mark mark.CloseParen) c rest refl k) refl

  pub head_cast : (type : DeclarationTree) (c : Token) (inner : List Token) (a : ExpressionTree) (rest : List Token) → t.kind ≡ kind.Mark mark.OpenParen
      → begins_type names ts ≡ true → names.type_at ts ≡ Some (type, c ∷ inner) → declaration_depth type ≤ below → c.kind ≡ kind.Mark mark.CloseParen
      → r 14 inner ≡ Some (a, rest) → head names r below (t ∷ ts) ≡ Some (Cast t.line type a, rest)
  unfolding head_of behind_open cast_to
  head_cast type c inner a rest o b is d k e =
      head_as (kind.Mark mark.OpenParen) o ∙ rw (b, is, le-leb (declaration_depth type) below d, after_test is_close (kind.Mark mark.CloseParen) c inner refl k, e) refl

  head_of_prefix : (op : Prefix) → Clear names ts op → head_of names r below t.line (prefix_token op) ts ≡ prefix_behind r t.line (Some op) ts
  unfolding head_of sizeof_behind
  head_of_prefix prefix.Increment c = refl
  head_of_prefix prefix.Decrement c = refl
  head_of_prefix prefix.Sizeof c = rw c refl
  head_of_prefix (prefix.Unary unary.Address) c = refl
  head_of_prefix (prefix.Unary unary.Indirection) c = refl
  head_of_prefix (prefix.Unary unary.Plus) c = refl
  head_of_prefix (prefix.Unary unary.Minus) c = refl
  head_of_prefix (prefix.Unary unary.Complement) c = refl
  head_of_prefix (prefix.Unary unary.Not) c = refl

  pub head_front : (op : Prefix) (a : ExpressionTree) (rest : List Token) → t.kind ≡ prefix_token op → Clear names ts op → r (prefix_operand op) ts ≡ Some (a, rest)
      → head names r below (t ∷ ts) ≡ Some (prefix_tree t.line op a, rest)
  unfolding prefix_behind
  head_front op a rest o c e = head_as (prefix_token op) o ∙ head_of_prefix op c ∙ rw e refl

pub head_sizeof_type : (names : Names) (r : Reads) (below : ℕ) (t p : Token) (ts : List Token) (type : DeclarationTree) (c : Token) (rest : List Token)
    → t.kind ≡ kind.Word word.Sizeof → p.kind ≡ kind.Mark mark.OpenParen → begins_type names ts ≡ true → names.type_at ts ≡ Some (type, c ∷ rest)
    → declaration_depth type ≤ below → c.kind ≡ kind.Mark mark.CloseParen → head names r below (t ∷ p ∷ ts) ≡ Some (SizeofType t.line type, rest)
unfolding head_of sizeof_behind sizeof_named_type
head_sizeof_type names r below t p ts type c rest w o b is d k =
    let opens : is_open p.kind ≡ true = ap is_open o in
    head_as names r below t (p ∷ ts) (kind.Word word.Sizeof) w ∙ rw (opens, b, is, le-leb (declaration_depth type) below d, after_test is_close (kind.Mark mark.CloseParen) c rest refl k) refl

-- ---- forms that go on

pub longer_on : (names : Names) (r : Reads) (level below : ℕ) (left : ExpressionTree) (f : Follow) (t : Token) (ts : List Token) → t.kind ≡ kind.Mark (follow_mark f)
    → level ≤ follow_rank f → follow_left f ≤ rank left → expression_depth left ≤ below → longer_tree names r level below left (t ∷ ts) ≡ goes_on names r left f ts
unfolding longer_tree tree_on
longer_on names r level below left f t ts e l k d =
    let follows : follow_of t.kind ≡ Some f = ap follow_of e ∙ follow_of_mark_is f in
    rw (le-leb (expression_depth left) below d, follows, le-leb level (follow_rank f) l, le-leb (follow_left f) (rank left) k) refl

module _ (names : Names) (r : Reads) (a : ExpressionTree) (ts : List Token) where
  pub goes_join : (op : Join) (b : ExpressionTree) (rest : List Token) → r (join_right op) ts ≡ Some (b, rest)
      → goes_on names r a (follow.Join op) ts ≡ Some (join_tree op a b, rest)
  unfolding goes_on
  goes_join op b rest e = rw e refl

  pub goes_ask : (b : ExpressionTree) (c : Token) (inner : List Token) (d : ExpressionTree) (rest : List Token) → r 1 ts ≡ Some (b, c ∷ inner)
      → c.kind ≡ kind.Mark mark.Colon → r 3 inner ≡ Some (d, rest) → goes_on names r a follow.Ask ts ≡ Some (Conditional (expression_line a) a b d, rest)
  unfolding goes_on third_operand
  goes_ask b c inner d rest e k h = rw (e, after_test is_colon (kind.Mark mark.Colon) c inner refl k, h) refl

  pub goes_index : (i : ExpressionTree) (c : Token) (rest : List Token) → r 1 ts ≡ Some (i, c ∷ rest) → c.kind ≡ kind.Mark mark.CloseBracket
      → goes_on names r a follow.Index ts ≡ Some (Index (expression_line a) a i, rest)
  unfolding goes_on index_end
  goes_index i c rest e k = rw (e, after_test is_bracket (kind.Mark mark.CloseBracket) c rest refl k) refl

  pub goes_increment : goes_on names r a follow.Increment ts ≡ Some (PostIncrement (expression_line a) a, ts)
  unfolding goes_on
  goes_increment = refl

  pub goes_decrement : goes_on names r a follow.Decrement ts ≡ Some (PostDecrement (expression_line a) a, ts)
  unfolding goes_on
  goes_decrement = refl

selected_name : (names : Names) (make : ℕ → ExpressionTree) (n : ℕ) (t : Token) (ts : List Token) → t.kind ≡ kind.Name n → names.is_type n ≡ false
    → selection_behind names make (t ∷ ts) ≡ Some (make n, ts)
unfolding selection_behind selected_by
selected_name names make n t ts e free =
    ap (λ (k : TokenKind). selected_by names make k ts) e ∙ ap (λ (b : Bool). cond {A = Read} b None (Some (make n, ts))) free

pub goes_dot : (names : Names) (r : Reads) (a : ExpressionTree) (n : ℕ) (t : Token) (ts : List Token) → t.kind ≡ kind.Name n → names.is_type n ≡ false
    → goes_on names r a follow.Dot (t ∷ ts) ≡ Some (Member (expression_line a) a n, ts)
unfolding goes_on
goes_dot names r a n t ts e free = selected_name names (Member (expression_line a) a) n t ts e free

pub goes_arrow : (names : Names) (r : Reads) (a : ExpressionTree) (n : ℕ) (t : Token) (ts : List Token) → t.kind ≡ kind.Name n → names.is_type n ≡ false
    → goes_on names r a follow.Arrow (t ∷ ts) ≡ Some (Arrow (expression_line a) a n, ts)
unfolding goes_on
goes_arrow names r a n t ts e free = selected_name names (Arrow (expression_line a) a) n t ts e free

pub goes_call_none : (names : Names) (r : Reads) (a : ExpressionTree) (c : Token) (rest : List Token) → c.kind ≡ kind.Mark mark.CloseParen
    → goes_on names r a follow.Call (c ∷ rest) ≡ Some (Call (expression_line a) a NoArguments, rest)
unfolding goes_on call_behind
goes_call_none names r a c rest k = let closes : is_close c.kind ≡ true = ap is_close k in rw closes refl

pub goes_call : (names : Names) (r : Reads) (a : ExpressionTree) (args : ArgumentTrees) (c : Token) (ts rest : List Token) → is_close c.kind ≡ false
    → arguments r NoArguments (c ∷ ts) ≡ Some (args, rest) → goes_on names r a follow.Call (c ∷ ts) ≡ Some (Call (expression_line a) a args, rest)
unfolding goes_on call_behind
goes_call names r a args c ts rest k e = rw (k, e) refl

-- ---- arguments

-- with a comma behind, and so many steps left
pub arguments_more : (r : Reads) (steps : ℕ) (before : ArgumentTrees) (x : ExpressionTree) (ts : List Token) (c : Token) (rest : List Token) → r 2 ts ≡ Some (x, c ∷ rest)
    → c.kind ≡ kind.Mark mark.Comma → arguments_for (suc steps) r before ts ≡ arguments_for steps r (Argument before x) rest
unfolding arguments_for more_arguments
arguments_more r steps before x ts c rest e k = let comma : is_comma c.kind ≡ true = ap is_comma k in rw (e, comma) refl

pub arguments_last : (r : Reads) (steps : ℕ) (before : ArgumentTrees) (x : ExpressionTree) (ts : List Token) (c : Token) (rest : List Token) → r 2 ts ≡ Some (x, c ∷ rest)
    → c.kind ≡ kind.Mark mark.CloseParen → arguments_for (suc steps) r before ts ≡ Some (Argument before x, rest)
unfolding arguments_for more_arguments
arguments_last r steps before x ts c rest e k =
    let comma : is_comma c.kind ≡ false = ap is_comma k in
    let close : is_close c.kind ≡ true = ap is_close k in
    rw (e, comma, close) refl

pub arguments_by : (r : Reads) (ts : List Token) → arguments r NoArguments ts ≡ arguments_for (suc (length ts)) r NoArguments ts
unfolding arguments
arguments_by r ts = refl

-- ---- all of it

pub read_head : (names : Names) (below level : ℕ) (ts : List Token) (a : ExpressionTree) (rest : List Token) → head names (read names below) below ts ≡ Some (a, rest)
    → level ≤ rank a → read names (suc below) level ts ≡ Some (longest_tree names (read names below) level below a rest)
unfolding read deeper
read_head names below level ts a rest e l = rw (e, le-leb level (rank a) l) refl
