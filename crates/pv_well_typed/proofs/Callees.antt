-- The function that a call names (C17 6.5.2.2p1).
use Rattle.std.proofs.Common.{◌≡◌, ℕ, ◌<◌, Option, Some, None, length, refl, subst}
use Rattle.pv_tree.specs.Syntax.{ExpressionTree, Name, Number, Character, Text, Paren, Index, Call, Member, Arrow, PostIncrement, PostDecrement, PreIncrement, PreDecrement, Unary, SizeofExpr, SizeofType, Cast, Binary, Conditional, Assign, Comma}
use Rattle.pv_check.specs.Rows.{function_in, callee}
use Rattle.pv_check.specs.State.{State, Meaning, ObjectName, FunctionName, TypedefOf, ConstantOf}
use Rattle.pv_check.specs.Scopes.{look}
use Rattle.pv_well_typed.proofs.Operands.{some-same}

-- 6.5.2.2p1: a function that is called by its name
pub called-function : (s : State) → ((n f : ℕ) → look s.scopes n ≡ Some (FunctionName f) → f < length s.unit.functions) → (e : ExpressionTree) (f : ℕ) → callee s.scopes e ≡ Some f → f < length s.unit.functions
called-function s g (Name line n) f e = by (look s.scopes n) refl e
  where
    by : (o : Option Meaning) → look s.scopes n ≡ o → function_in o ≡ Some f → f < length s.unit.functions
    by None p e = absurd cc
    by (Some (FunctionName k)) p e = subst (λ i. i < length s.unit.functions) (some-same k f e) (g n k p)
    by (Some (ObjectName o)) p e = absurd cc
    by (Some (TypedefOf t)) p e = absurd cc
    by (Some (ConstantOf k)) p e = absurd cc
called-function s g (Paren line a) f e = called-function s g a f e
called-function s g (Number line value decimal unsigned longs) f e = absurd cc
called-function s g (Character line value) f e = absurd cc
called-function s g (Text line first more) f e = absurd cc
called-function s g (Index line a b) f e = absurd cc
called-function s g (Call line a args) f e = absurd cc
called-function s g (Member line a n) f e = absurd cc
called-function s g (Arrow line a n) f e = absurd cc
called-function s g (PostIncrement line a) f e = absurd cc
called-function s g (PostDecrement line a) f e = absurd cc
called-function s g (PreIncrement line a) f e = absurd cc
called-function s g (PreDecrement line a) f e = absurd cc
called-function s g (Unary line op a) f e = absurd cc
called-function s g (SizeofExpr line a) f e = absurd cc
called-function s g (SizeofType line t) f e = absurd cc
called-function s g (Cast line t a) f e = absurd cc
called-function s g (Binary line op a b) f e = absurd cc
called-function s g (Conditional line a b c) f e = absurd cc
called-function s g (Assign line op a b) f e = absurd cc
called-function s g (Comma line a b) f e = absurd cc
