-- A bridge: reading an expression from the left, on lists: the longest of a level and of at most so much depth (6.5).
use Rattle.std.specs.Prelude.{ℕ, zero, suc, Bool, true, false, ◌&&◌, ◌==◌, nat_le, List, [], ◌∷◌, length, drop, Option, Some, None, option_map, option_and_then, if◌then◌else◌}
use Rattle.pv_token.specs.declared.token_table.Token.{Token}
use Rattle.pv_token.specs.declared.token_table.TokenKind.{TokenKind}
use Rattle.pv_token.specs.declared.token_table.TokenKind.TheVariants as kind
use Rattle.pv_token.specs.declared.words.Word.TheVariants as word
use Rattle.pv_token.specs.declared.marks.Mark.TheVariants as mark
use Rattle.pv_tree.specs.Syntax.{ExpressionTree, Name, Number, Character, Text, Paren, Index, Call, Member, Arrow, PostIncrement, PostDecrement, SizeofType, Cast, Conditional, ArgumentTrees, NoArguments, Argument, DeclarationTree}
use Rattle.pv_tree.specs.Depths.{expression_depth, declaration_depth}
use Rattle.pv_tree.specs.Lines.{expression_line}
use Rattle.pv_tree.specs.Levels.{rank}
use Rattle.pv_tree.specs.Spells.{Names, begins_type}
use Rattle.pv_expr_forms.specs.declared.follows.Prefix.{Prefix}
use Rattle.pv_expr_forms.specs.declared.follows.Prefix.TheVariants as prefix
use Rattle.pv_expr_forms.specs.declared.follows.Follow.{Follow}
use Rattle.pv_expr_forms.specs.declared.follows.Follow.TheVariants as follow
use Rattle.pv_expr_forms.specs.Follows.{prefix_of, prefix_operand, prefix_tree, join_right, join_tree, follow_of, follow_rank, follow_left}

-- what reading gives: a tree, and the tokens behind it
abbrev pub Read : Type 0
Read = Option (ExpressionTree × List Token)

-- reads a tree of a level
abbrev pub Reads : Type 0
Reads = ℕ → List Token → Read

-- ---- tokens that a form ends with or goes on with

-- `(` (6.4.6)
abbrev pub is_open : TokenKind → Bool
is_open (kind.Mark mark.OpenParen) = true
is_open _ = false

-- `)` (6.4.6)
abbrev pub is_close : TokenKind → Bool
is_close (kind.Mark mark.CloseParen) = true
is_close _ = false

-- `]` (6.4.6)
abbrev pub is_bracket : TokenKind → Bool
is_bracket (kind.Mark mark.CloseBracket) = true
is_bracket _ = false

-- `:` (6.4.6)
abbrev pub is_colon : TokenKind → Bool
is_colon (kind.Mark mark.Colon) = true
is_colon _ = false

-- `,` (6.4.6)
abbrev pub is_comma : TokenKind → Bool
is_comma (kind.Mark mark.Comma) = true
is_comma _ = false

-- the string literal of a number (6.4.5)
abbrev pub is_text : (n : ℕ) → TokenKind → Bool
is_text n (kind.Text m) = m == n
is_text n _ = false

-- the tokens behind the first, where it is one of a kind
abbrev pub after : (TokenKind → Bool) → List Token → Option (List Token)
after test [] = None
after test (t ∷ ts) = if test t.kind then Some ts else None

-- ---- forms that begin with a token of their own

-- how many string literals stand in a row, from a number on (6.4.5p5)
abbrev pub texts_in_row : (next : ℕ) → List Token → ℕ
texts_in_row next [] = 0
texts_in_row next (t ∷ ts) = if is_text next t.kind then suc (texts_in_row (suc next) ts) else 0

-- what stands in parentheses, once it is read (6.5.1p1)
unfoldable pub paren_end : (line : ℕ) → ExpressionTree → List Token → Read
paren_end line a ts = option_map (λ rest. (Paren line a, rest)) (after is_close ts)

-- a cast, once its type name is read (6.5.4)
unfoldable pub cast_to : Reads → (below line : ℕ) → DeclarationTree → List Token → Read
cast_to read below line type ts =
    if nat_le (declaration_depth type) below
    then option_and_then (λ rest. option_map (λ x. (Cast line type x.0, x.1)) (read 14 rest)) (after is_close ts)
    else None

-- behind an opening parenthesis: a cast where a type name begins, else an expression (6.5.1p1, 6.5.4p1)
unfoldable pub behind_open : Names → Reads → (below line : ℕ) → List Token → Read
behind_open names read below line ts =
    if begins_type names ts
    then option_and_then (λ x. cast_to read below line x.0 x.1) (names.type_at ts)
    else option_and_then (λ x. paren_end line x.0 x.1) (read 1 ts)

-- behind an operator that stands before its operand (6.5.3p1)
unfoldable pub prefix_behind : Reads → (line : ℕ) → Option Prefix → List Token → Read
prefix_behind read line None ts = None
prefix_behind read line (Some op) ts = option_map (λ x. (prefix_tree line op x.0, x.1)) (read (prefix_operand op) ts)

-- the size of a type, once its name is read (6.5.3.4)
unfoldable pub sizeof_named_type : (below line : ℕ) → DeclarationTree → List Token → Read
sizeof_named_type below line type ts =
    if nat_le (declaration_depth type) below then option_map (λ rest. (SizeofType line type, rest)) (after is_close ts) else None

-- a parenthesis opens, and a type name begins behind it (6.5.3p1)
abbrev pub opens_type : Names → List Token → Bool
opens_type names [] = false
opens_type names (t ∷ ts) = is_open t.kind && begins_type names ts

-- behind `sizeof` (6.5.3p1)
unfoldable pub sizeof_behind : Names → Reads → (below line : ℕ) → List Token → Read
sizeof_behind names read below line ts =
    if opens_type names ts
    then option_and_then (λ x. sizeof_named_type below line x.0 x.1) (names.type_at (drop 1 ts))
    else prefix_behind read line (Some prefix.Sizeof) ts

-- what a token begins (6.5.1p1, 6.5.3p1, 6.5.4p1)
unfoldable pub head_of : Names → Reads → (below line : ℕ) → TokenKind → List Token → Read
head_of names read below line (kind.Name n) ts = if names.is_type n then None else Some (Name line n, ts)
head_of names read below line (kind.Number value decimal unsigned longs) ts = Some (Number line value decimal unsigned longs, ts)
head_of names read below line (kind.Character value) ts = Some (Character line value, ts)
head_of names read below line (kind.Text n) ts = Some (Text line n (texts_in_row (suc n) ts), drop (texts_in_row (suc n) ts) ts)
head_of names read below line (kind.Word word.Sizeof) ts = sizeof_behind names read below line ts
head_of names read below line (kind.Mark mark.OpenParen) ts = behind_open names read below line ts
head_of names read below line k ts = prefix_behind read line (prefix_of k) ts

-- a tree that nothing went on from yet (6.5.1p1, 6.5.3p1, 6.5.4p1)
unfoldable pub head : Names → Reads → (below : ℕ) → List Token → Read
head names read below [] = None
head names read below (t ∷ ts) = head_of names read below t.line t.kind ts

-- ---- forms that go on from a tree

-- behind the index of an element (6.5.2p1)
unfoldable pub index_end : (left i : ExpressionTree) → List Token → Read
index_end left i ts = option_map (λ rest. (Index (expression_line left) left i, rest)) (after is_bracket ts)

-- behind the second operand of `?` (6.5.15p1)
unfoldable pub third_operand : Reads → (left b : ExpressionTree) → List Token → Read
third_operand read left b ts = option_and_then (λ rest. option_map (λ x. (Conditional (expression_line left) left b x.0, x.1)) (read 3 rest)) (after is_colon ts)

-- the arguments from one on, to the closing parenthesis, behind those before it (6.5.2p1)
unfoldable pub more_arguments : (ArgumentTrees → List Token → Option (ArgumentTrees × List Token)) → ArgumentTrees → List Token → Option (ArgumentTrees × List Token)
more_arguments go before [] = None
more_arguments go before (t ∷ ts) = if is_comma t.kind then go before ts else if is_close t.kind then Some (before, ts) else None

-- the same in at most so many steps
unfoldable pub arguments_for : (steps : ℕ) → Reads → ArgumentTrees → List Token → Option (ArgumentTrees × List Token)
arguments_for zero read before ts = None
arguments_for (suc steps) read before ts = option_and_then (λ x. more_arguments (arguments_for steps read) (Argument before x.0) x.1) (read 2 ts)

-- the arguments of a call (6.5.2p1)
unfoldable pub arguments : Reads → ArgumentTrees → List Token → Option (ArgumentTrees × List Token)
arguments read before ts = arguments_for (suc (length ts)) read before ts

-- behind the parenthesis that opens a call's arguments (6.5.2p1)
unfoldable pub call_behind : Reads → (left : ExpressionTree) → List Token → Read
call_behind read left [] = None
call_behind read left (t ∷ ts) =
    if is_close t.kind
    then Some (Call (expression_line left) left NoArguments, ts)
    else option_map (λ x. (Call (expression_line left) left x.0, x.1)) (arguments read NoArguments (t ∷ ts))

-- behind `.` and `->` stands a name (6.5.2p1)
unfoldable pub selected_by : Names → (ℕ → ExpressionTree) → TokenKind → List Token → Read
selected_by names make (kind.Name n) ts = if names.is_type n then None else Some (make n, ts)
selected_by names make _ ts = None

-- the same of the next token
unfoldable pub selection_behind : Names → (ℕ → ExpressionTree) → List Token → Read
selection_behind names make [] = None
selection_behind names make (t ∷ ts) = selected_by names make t.kind ts

-- the tree that goes on from left so (6.5.2p1, 6.5.5p1 to 6.5.17p1)
unfoldable pub goes_on : Names → Reads → (left : ExpressionTree) → Follow → List Token → Read
goes_on names read left (follow.Join op) ts = option_map (λ x. (join_tree op left x.0, x.1)) (read (join_right op) ts)
goes_on names read left follow.Ask ts = option_and_then (λ x. third_operand read left x.0 x.1) (read 1 ts)
goes_on names read left follow.Index ts = option_and_then (λ x. index_end left x.0 x.1) (read 1 ts)
goes_on names read left follow.Call ts = call_behind read left ts
goes_on names read left follow.Dot ts = selection_behind names (Member (expression_line left) left) ts
goes_on names read left follow.Arrow ts = selection_behind names (Arrow (expression_line left) left) ts
goes_on names read left follow.Increment ts = Some (PostIncrement (expression_line left) left, ts)
goes_on names read left follow.Decrement ts = Some (PostDecrement (expression_line left) left, ts)

-- the same, where the level of the whole and that of left are such as the grammar has
unfoldable pub tree_on : Names → Reads → (level : ℕ) → (left : ExpressionTree) → Option Follow → List Token → Read
tree_on names read level left None ts = None
tree_on names read level left (Some f) ts =
    if nat_le level (follow_rank f) && nat_le (follow_left f) (rank left) then goes_on names read left f ts else None

-- the next longer tree that begins with left
unfoldable pub longer_tree : Names → Reads → (level below : ℕ) → (left : ExpressionTree) → List Token → Read
longer_tree names read level below left [] = None
longer_tree names read level below left (t ∷ ts) =
    if nat_le (expression_depth left) below then tree_on names read level left (follow_of t.kind) ts else None

-- goes on with what was read, if anything was
abbrev pub on_with_tree : {A : Type 0} → (ExpressionTree → List Token → A) → A → Read → A
on_with_tree go stop None = stop
on_with_tree go stop (Some x) = go x.0 x.1

-- the longest tree that begins with left, in so many steps at most
unfoldable pub grown_for : (steps : ℕ) → Names → Reads → (level below : ℕ) → (left : ExpressionTree) → List Token → ExpressionTree × List Token
grown_for zero names read level below left ts = (left, ts)
grown_for (suc steps) names read level below left ts =
    on_with_tree (grown_for steps names read level below) (left, ts) (longer_tree names read level below left ts)

-- the longest tree that begins with left
unfoldable pub longest_tree : Names → Reads → (level below : ℕ) → (left : ExpressionTree) → List Token → ExpressionTree × List Token
longest_tree names read level below left ts = grown_for (suc below) names read level below left ts

-- ---- all of it

-- one level of depth more
unfoldable pub deeper : Names → Reads → (below : ℕ) → Reads
deeper names read below level ts =
    option_and_then (λ x. if nat_le level (rank x.0) then Some (longest_tree names read level below x.0 x.1) else None) (head names read below ts)

-- the longest tree of a level, of at most so much depth
unfoldable pub read : Names → (depth : ℕ) → Reads
read names zero level ts = None
read names (suc below) level ts = deeper names (read names below) below level ts
