-- Where an expression ends: the tokens behind it go on with no operand at its right end.
use Rattle.std.proofs.Common.{◌≡◌, ◌≤◌, ◌<◌, ◌⊎◌, ℕ, suc, Bool, true, false, cond, List, [], ◌∷◌, Option, Some, None, refl, ap, ◌∙◌, arith, leb, inl, inr}
use Rattle.std.proofs.lemmas.Bool.{lt-leb, cases_eq}
use Rattle.pv_token.specs.declared.token_table.Token.{Token}
use Rattle.pv_token.specs.declared.token_table.TokenKind.{TokenKind}
use Rattle.pv_token.specs.declared.token_table.TokenKind.TheVariants as kind
use Rattle.pv_tree.specs.Syntax.{ExpressionTree, Name, Number, Character, Text, Paren, Index, Call, Member, Arrow, PostIncrement, PostDecrement, PreIncrement, PreDecrement, Unary, SizeofExpr, SizeofType, Cast, Binary, Conditional, Assign, Comma}
use Rattle.pv_tree.specs.Levels.{rank, binary_rank}
use Rattle.pv_tree.specs.Depths.{expression_depth}
use Rattle.pv_tree.specs.Spells.{Names}
use Rattle.pv_expr_forms.specs.declared.follows.Prefix.{Prefix}
use Rattle.pv_expr_forms.specs.declared.follows.Prefix.TheVariants as prefix
use Rattle.pv_expr_forms.specs.declared.follows.Join.{Join}
use Rattle.pv_expr_forms.specs.declared.follows.Join.TheVariants as join
use Rattle.pv_expr_forms.specs.declared.follows.Follow.{Follow}
use Rattle.pv_expr_forms.specs.Follows.{prefix_tree, join_right, join_tree, follow_of_mark, follow_of, follow_mark, follow_rank, follow_left}
use Rattle.pv_expr_forms.specs.Reader.{Read, Reads, tree_on, longer_tree}
use Rattle.pv_expr_forms.proofs.Operators.{follow_law, follow_of_mark_is}

-- one more than the level on which an expression goes on with a token, or 0; a string literal goes on with a further one
abbrev pub level_behind : Option Follow → ℕ
level_behind None = 0
level_behind (Some f) = suc (follow_rank f)

abbrev pub goes_level : TokenKind → ℕ
goes_level (kind.Mark m) = level_behind (follow_of_mark m)
goes_level (kind.Text n) = 18
goes_level _ = 0

-- no expression of a level, or of a tighter one, goes on with these tokens
abbrev pub Stops : (level : ℕ) → List Token → Type 0
Stops level [] = Unit {0}
Stops level (t ∷ ts) = goes_level t.kind ≤ level

-- the loosest level at the right end of an expression: 17 is string literals in a row, 18 that nothing goes on
abbrev pub right_of : ExpressionTree → ℕ
right_of (Text line first more) = 17
right_of (PreIncrement line a) = 14
right_of (PreDecrement line a) = 14
right_of (Unary line op a) = 14
right_of (SizeofExpr line a) = 14
right_of (Cast line type a) = 14
right_of (Binary line op a b) = suc (binary_rank op)
right_of (Conditional line a b c) = 3
right_of (Assign line op a b) = 2
right_of (Comma line a b) = 2
right_of _ = 18

pub data Edge (a : ExpressionTree) : Type 0 where
  Shut : 17 ≤ right_of a → rank a ≤ right_of a → Edge a
  Tight : right_of a ≡ 14 → rank a ≤ 15 → Edge a
  ToLeft : right_of a ≡ suc (rank a) → Edge a
  ToRight : right_of a ≡ rank a → (rank a ≡ 2) ⊎ (rank a ≡ 3) → Edge a

pub edge : (a : ExpressionTree) → Edge a
edge (Name line n) = Shut (omega arith) (omega arith)
edge (Number line value decimal unsigned longs) = Shut (omega arith) (omega arith)
edge (Character line value) = Shut (omega arith) (omega arith)
edge (Text line first more) = Shut (omega arith) (omega arith)
edge (Paren line a) = Shut (omega arith) (omega arith)
edge (Index line a i) = Shut (omega arith) (omega arith)
edge (Call line callee args) = Shut (omega arith) (omega arith)
edge (Member line a n) = Shut (omega arith) (omega arith)
edge (Arrow line a n) = Shut (omega arith) (omega arith)
edge (PostIncrement line a) = Shut (omega arith) (omega arith)
edge (PostDecrement line a) = Shut (omega arith) (omega arith)
edge (PreIncrement line a) = Tight refl (omega arith)
edge (PreDecrement line a) = Tight refl (omega arith)
edge (Unary line op a) = Tight refl (omega arith)
edge (SizeofExpr line a) = Tight refl (omega arith)
edge (SizeofType line type) = Shut (omega arith) (omega arith)
edge (Cast line type a) = Tight refl (omega arith)
edge (Binary line op a b) = ToLeft refl
edge (Conditional line a b c) = ToRight refl (inr refl)
edge (Assign line op a b) = ToRight refl (inl refl)
edge (Comma line a b) = ToLeft refl

-- ---- levels of tokens

behind_in : (o : Option Follow) → (level_behind o ≤ 14) ⊎ (17 ≤ level_behind o)
behind_in None = inl (omega arith)
behind_in (Some f) = elim (follow_law f).low [ inl g ↦ inl (omega (arith, g)) | inr g ↦ inr (omega (arith, g.0)) ]

level_in : (k : TokenKind) → (goes_level k ≤ 14) ⊎ (17 ≤ goes_level k)
level_in (kind.Mark m) = behind_in (follow_of_mark m)
level_in (kind.Text n) = inr (omega arith)
level_in _ = inl (omega arith)

level_of : (k : TokenKind) (f : Follow) → follow_of k ≡ Some f → goes_level k ≡ suc (follow_rank f)
level_of (kind.Mark m) f e = ap level_behind e
level_of _ f e = absurd cc

pub follow_level : (f : Follow) → goes_level (kind.Mark (follow_mark f)) ≡ suc (follow_rank f)
follow_level f = ap level_behind (follow_of_mark_is f)

pub stops_more : (level more : ℕ) (ts : List Token) → level ≤ more → Stops level ts → Stops more ts
stops_more level more [] h s = tt
stops_more level more (t ∷ ts) h s = omega arith

-- ---- right ends

stops_by : (a : ExpressionTree) (level : ℕ) (k : TokenKind) → Edge a → level ≤ rank a → goes_level k ≤ level → goes_level k ≤ right_of a
stops_by a level k (Shut h w) l s = omega arith
stops_by a level k (Tight h w) l s = elim (level_in k) [ inl g ↦ omega arith | inr g ↦ absurd (omega arith) ]
stops_by a level k (ToLeft h) l s = omega arith
stops_by a level k (ToRight h w) l s = omega arith

-- tokens that go on with nothing of a level go on with no right end of an expression of that level
pub stops_right : (a : ExpressionTree) (level : ℕ) (ts : List Token) → level ≤ rank a → Stops level ts → Stops (right_of a) ts
stops_right a level [] l s = tt
stops_right a level (t ∷ ts) l s = stops_by a level t.kind (edge a) l s

below_level : (level : ℕ) (f : Follow) → (follow_rank f ≡ level → level < follow_left f) → follow_left f ≤ level → follow_rank f < level
below_level level f strict h =
    let le = (follow_law f).le in
    elim (cases_eq (follow_rank f) level) [ inl e ↦ (let s = strict e in absurd (omega arith)) | inr ne ↦ omega arith ]

right_to_right : (f : Follow) (level : ℕ) → (level ≡ 2) ⊎ (level ≡ 3) → follow_left f ≤ level → follow_rank f < level
right_to_right f level (inl e) h = let k = below_level 2 f (follow_law f).two (omega arith) in omega arith
right_to_right f level (inr e) h = let k = below_level 3 f (follow_law f).three (omega arith) in omega arith

closes_by : (a : ExpressionTree) (f : Follow) → Edge a → follow_left f ≤ rank a → follow_rank f < right_of a
closes_by a f (Shut h w) l = elim (follow_law f).low [ inl g ↦ omega arith | inr g ↦ omega (arith, g.0) ]
closes_by a f (Tight h w) l = elim (follow_law f).low [ inl g ↦ omega arith | inr g ↦ absurd (omega (arith, g.1)) ]
closes_by a f (ToLeft h) l = omega (arith, (follow_law f).le)
closes_by a f (ToRight h w) l = omega (arith, right_to_right f (rank a) w l)

-- what may follow an expression as a whole doesn't go on with its right end
pub closes : (a : ExpressionTree) (f : Follow) (t : Token) (ts : List Token) → t.kind ≡ kind.Mark (follow_mark f) → follow_left f ≤ rank a → Stops (right_of a) (t ∷ ts)
closes a f t ts e l = omega (arith, ap goes_level e, follow_level f, closes_by a f (edge a) l)

-- ---- one step of growth

tried_stops : (names : Names) (r : Reads) (level : ℕ) (left : ExpressionTree) (o : Option Follow) (ts : List Token) → ((f : Follow) → o ≡ Some f → follow_rank f < level)
    → tree_on names r level left o ts ≡ None
unfolding tree_on
tried_stops names r level left None ts s = refl
tried_stops names r level left (Some f) ts s =
    let e : leb level (follow_rank f) ≡ false = lt-leb level (follow_rank f) (s f refl) in
    rw e refl

either_none : (b : Bool) → ◌≡◌ {A = Read} (cond b None None) None
either_none true = refl
either_none false = refl

pub longer_stops : (names : Names) (r : Reads) (level below : ℕ) (left : ExpressionTree) (ts : List Token) → Stops level ts → longer_tree names r level below left ts ≡ None
unfolding longer_tree
longer_stops names r level below left [] s = refl
longer_stops names r level below left (t ∷ ts) s =
    let none : tree_on names r level left (follow_of t.kind) ts ≡ None = tried_stops names r level left (follow_of t.kind) ts (λ f e. omega (arith, s, level_of t.kind f e)) in
    ap (λ (o : Read). cond (leb (expression_depth left) below) o None) none ∙ either_none (leb (expression_depth left) below)

-- ---- what an operator makes

pub right_prefixed : (line : ℕ) (op : Prefix) (a : ExpressionTree) → right_of (prefix_tree line op a) ≡ 14
right_prefixed line prefix.Increment a = refl
right_prefixed line prefix.Decrement a = refl
right_prefixed line prefix.Sizeof a = refl
right_prefixed line (prefix.Unary op) a = refl

pub right_joined : (op : Join) (a b : ExpressionTree) → right_of (join_tree op a b) ≡ join_right op
right_joined (join.Binary op) a b = refl
right_joined (join.Assign op) a b = refl
right_joined join.Comma a b = refl

-- a token with which nothing of a level goes on
pub stops_at : (k : TokenKind) (level : ℕ) (t : Token) (ts : List Token) → t.kind ≡ k → goes_level k ≤ level → Stops level (t ∷ ts)
stops_at k level t ts e h = omega (arith, ap goes_level e)

behind_most : (o : Option Follow) → level_behind o ≤ 17
behind_most None = omega arith
behind_most (Some f) = elim (follow_law f).low [ inl g ↦ omega (arith, g) | inr g ↦ omega (arith, g.0) ]

level_most : (k : TokenKind) → goes_level k ≤ 18
level_most (kind.Mark m) = omega (arith, behind_most (follow_of_mark m))
level_most (kind.Text n) = omega arith
level_most _ = omega arith

-- nothing goes on with what has no operand at its right end
pub stops_always : (ts : List Token) → Stops 18 ts
stops_always [] = tt
stops_always (t ∷ ts) = level_most t.kind
