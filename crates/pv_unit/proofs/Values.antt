-- Typing the value of an expression leaves as many scopes as there were.
use Rattle.std.proofs.Common.{◌≡◌, ℕ, Option, Some, None, false, List, length, refl, sym, ap, ◌∙◌, IfSome}
use Rattle.std.proofs.lemmas.List.{length-map}
use Rattle.pv_tree.specs.declared.nodes.NodeId.{NodeId}
use Rattle.pv_tree.specs.Syntax.{ExpressionTree}
use Rattle.pv_typed.specs.TypedTree.{TypedTree}
use Rattle.pv_typed.specs.Tables.{Stored}
use Rattle.pv_check.specs.Arms.{after_node, OpenIf}
use Rattle.pv_check.specs.Open.{state_of, Goes}
use Rattle.pv_check.specs.Raw.{Raw, scope_shown, scopes_shown}
use Rattle.pv_check.specs.State.{State, After, give}
use Rattle.pv_typed.specs.Constants.{and_then}
use Rattle.pv_check.specs.Rows.{operand}
use Rattle.pv_check.specs.Typing.{types}
use Rattle.pv_check.proofs.Leaving.{Leaves, types_leave}
use Rattle.pv_unit.specs.Stated.{Moves}

-- what scopes and tables stand for has as many scopes
pub deep_shown : {A : Type 0} (texts : List (List ℕ)) (a b : Stored) (s t : Raw) (x : A) (o : Option (After A)) → Leaves (length (scopes_shown a.known s.scopes)) o
    → Some (record { value = x; state = state_of texts false t b }) ≡ o → length t.scopes ≡ length s.scopes
deep_shown texts a b s t x o h e =
    sym (length-map t.scopes (scope_shown b.known)) ∙ h.held (record { value = x; state = state_of texts false t b }) (sym e) ∙ length-map s.scopes (scope_shown a.known)

pub none_leaves : {A : Type 0} (n : ℕ) → Leaves {A = A} n None
none_leaves n = record { held = λ a e. absurd cc }

pub some_leaves : {A : Type 0} (n : ℕ) (x : A) (s : State) → length s.scopes ≡ n → Leaves n (Some (record { value = x; state = s }))
some_leaves {A} n x s h = record { held = λ a e. same a e }
  where
    same : (a : After A) → Some (record { value = x; state = s }) ≡ Some a → length a.state.scopes ≡ n
    same a e = let f : record { value = x; state = s } ≡ a = cc in sym (ap (λ (y : After A). length y.state.scopes) f) ∙ h

pub give_leaves : {A : Type 0} (n : ℕ) (o : Option A) (s : State) → length s.scopes ≡ n → Leaves n (give o s)
give_leaves n None s h = none_leaves n
give_leaves n (Some x) s h = some_leaves n x s h

pub then_leaves : {A B : Type 0} (n : ℕ) (o : Option (After A)) (f : After A → Option (After B)) → Leaves n o → ((a : After A) → length a.state.scopes ≡ n → Leaves n (f a)) → Leaves n (and_then o f)
then_leaves n None f h k = none_leaves n
then_leaves n (Some a) f h k = k a (h.held a refl)

-- something that is no state before
pub value_then : {A B : Type 0} (n : ℕ) (o : Option A) (f : A → Option (After B)) → ((a : A) → Leaves n (f a)) → Leaves n (and_then o f)
value_then n None f k = none_leaves n
value_then n (Some a) f k = k a

operand_leaves : (n : ℕ) (o : Option (After TypedTree)) → Leaves n o → Leaves n (operand o)
operand_leaves n None h = none_leaves n
operand_leaves n (Some a) h = give_leaves n _ a.state (h.held a refl)

-- ---- the value of an expression

pub value_leaves : (e : ExpressionTree) (n : ℕ) (s : State) → length s.scopes ≡ n → Leaves n (operand (types e s))
value_leaves e n s h = operand_leaves n (types e s) (types_leave e n s h)

pub value_moves : (texts : List (List ℕ)) (e : ExpressionTree) (a b : Stored) (s t : Raw) (r : Option NodeId) → OpenIf b t r → IfSome r (λ v. Goes a b)
    → after_node texts false t b r ≡ operand (types e (state_of texts false s a)) → IfSome r (λ v. Moves a s b t)
value_moves texts e a b s t None h g is = tt
value_moves texts e a b s t (Some n) h g is = record {
  opened = h.1;
  goes = g;
  deep = deep_shown texts a b s t _ (operand (types e (state_of texts false s a))) (value_leaves e (length (scopes_shown a.known s.scopes)) (state_of texts false s a) refl) is;
}
