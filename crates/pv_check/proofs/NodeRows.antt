-- An expression that is typed as the tree of its node.
use Rattle.std.proofs.Common.{◌≡◌, ℕ, Bool, List, Option, IfOk, Result, sym, subst}
use Rattle.pv_tree.specs.declared.nodes.NodeId.{NodeId}
use Rattle.pv_tree.specs.Syntax.{ExpressionTree}
use Rattle.std.specs.declared.alloc.AllocError.{AllocError}
use Rattle.pv_typed.specs.Tables.{Stored}
use Rattle.pv_check.specs.Arms.{after_node}
use Rattle.pv_check.specs.Open.{state_of}
use Rattle.pv_check.specs.Raw.{Raw}
use Rattle.pv_check.specs.Typing.{types}

pub typed_as : (texts : List (List ℕ)) (hidden : Bool) (before after : Raw) (a b : Stored) (r : Result (Option NodeId) AllocError) {x y : ExpressionTree} → y ≡ x
    → IfOk r (λ v. after_node texts hidden after b v ≡ types x (state_of texts hidden before a)) → IfOk r (λ v. after_node texts hidden after b v ≡ types y (state_of texts hidden before a))
typed_as texts hidden before after a b r e h =
    subst (λ (z : ExpressionTree). IfOk r (λ v. after_node texts hidden after b v ≡ types z (state_of texts hidden before a))) (sym e) h
