-- Values within statements: what the code's answers come to.
use Rattle.std.proofs.Common.{◌≡◌, ℕ, true, false, List, Option, Some, None, IfSome, sym, ◌∙◌, ap}
use Rattle.std.specs.Prelude.{if◌then◌else◌}
use Rattle.pv_num.specs.declared.kinds.IntKind.{IntKind}
use Rattle.pv_tree.specs.declared.nodes.NodeId.{NodeId}
use Rattle.pv_types.specs.Ty.{Ty}
use Rattle.pv_typed.specs.TypedTree.{TypedTree, type_of}
use Rattle.pv_typed.specs.TypedStatement.{TypedStatement, Return}
use Rattle.pv_typed.specs.Tables.{Stored}
use Rattle.pv_typed.specs.NodeTrees.{expression_at, IsExpression}
use Rattle.pv_check.specs.Arms.{OpenIf}
use Rattle.pv_check.specs.Open.{state_of}
use Rattle.pv_check.specs.Raw.{Raw}
use Rattle.pv_types.specs.Sorts.{kind_of, is_scalar, is_void}
use Rattle.pv_check.specs.State.{State, After, give}
use Rattle.pv_typed.specs.Constants.{and_then}
use Rattle.pv_check.specs.Values.{as_if_assigned, promoted_value}
use Rattle.pv_unit.specs.declared.rows.Controlling.{Controlling}
use Rattle.pv_unit.specs.StatementParts.{if_scalar, value_returned, switched_by}
use Rattle.pv_unit.specs.Switching.{switched_if}
use Rattle.pv_unit.proofs.Moving.{step_on}

pub open_there : (m : Stored) (s : Raw) (r : Option NodeId) → OpenIf m s r → IfSome r (IsExpression m)
open_there m s None h = tt
open_there m s (Some n) h = h.0

-- ---- `switch`

abbrev pub controlling : NodeId → Option IntKind → Option Controlling
controlling v None = None
controlling v (Some k) = Some (record { value = v; kind = k })

pub promoted_done : (texts : List (List ℕ)) (s : Raw) (a b : Stored) (found value : NodeId) (k : Option IntKind) → expression_at b value ≡ promoted_value (expression_at a found)
    → k ≡ kind_of (type_of (expression_at b value)) → state_of texts false s b ≡ state_of texts false s a
    → switched_if texts s b (controlling value k) ≡ switched_by (record { value = expression_at a found; state = state_of texts false s a })
promoted_done texts s a b found value k is kind same = by k (kind ∙ ap (λ e. kind_of (type_of e)) is)
  where
    by : (o : Option IntKind) → o ≡ kind_of (type_of (promoted_value (expression_at a found))) → switched_if texts s b (controlling value o) ≡ switched_by (record { value = expression_at a found; state = state_of texts false s a })
    by None e = ap (λ q. and_then q (λ l. give (Some (record { value = promoted_value (expression_at a found); kind = l })) (state_of texts false s a))) e
    by (Some l) e =
        ap (λ (x : TypedTree). Some (record { value = record { value = x; kind = l }; state = state_of texts false s b })) is
        ∙ ap (λ (z : State). Some (record { value = record { value = promoted_value (expression_at a found); kind = l }; state = z })) same
        ∙ ap (λ q. and_then q (λ l. give (Some (record { value = promoted_value (expression_at a found); kind = l })) (state_of texts false s a))) e

-- ---- `return`

pub returned_not : (t : Ty) (line : ℕ) (x : After TypedTree) (r : Option (After TypedStatement)) → is_void t ≡ false → r ≡ and_then (as_if_assigned t x.value) (λ e. give (Some (Return line (Some e))) x.state) → r ≡ value_returned t line x
returned_not t line x r h e = e ∙ sym (ap (λ b. if b then None else and_then (as_if_assigned t x.value) (λ e. give (Some (Return line (Some e))) x.state)) h)
