-- What adds 1 or takes it off, for a pointer and for an integer.
use Rattle.std.proofs.Common.{◌≡◌, ℕ, ap}
use Rattle.std.specs.Prelude.{true, false, if◌then◌else◌, pos}
use Rattle.pv_num.specs.declared.operators.BinOp.TheVariants as op
use Rattle.pv_types.specs.Ty.{Ty}
use Rattle.pv_typed.specs.declared.nodes.IncrementOperator.{IncrementOperator}
use Rattle.pv_world.specs.Worlds.{Worth}
use Rattle.pv_world.specs.Worths.{int}
use Rattle.pv_eval.specs.States.{Setting, State}
use Rattle.pv_eval.specs.TypeForms.{kind_of, element_size}
use Rattle.pv_types.specs.Sorts.{is_pointer}
use Rattle.pv_num.specs.Kinds.{promotion_of}
use Rattle.pv_eval.specs.Operations.{Moves, act}
use Rattle.pv_eval.specs.Steps.{is_down}
use Rattle.pv_eval.specs.OfRuns.{combining, stepping}

module _ (b : Setting) (line : ℕ) (t : Ty) (o : IncrementOperator) (v : Worth) (s : State) where
  pub step-pointer : is_pointer t ≡ true → stepping b line t o v s ≡ act b line (Moves (is_down o) true (element_size b t) v (int (pos 1))) s
  step-pointer e = ap (λ p. if p then act b line (Moves (is_down o) true (element_size b t) v (int (pos 1))) s else combining b line (if is_down o then op.Sub else op.Add) (promotion_of (kind_of t)) (kind_of t) v (int (pos 1)) s) e

  pub step-integer : is_pointer t ≡ false → stepping b line t o v s ≡ combining b line (if is_down o then op.Sub else op.Add) (promotion_of (kind_of t)) (kind_of t) v (int (pos 1)) s
  step-integer e = ap (λ p. if p then act b line (Moves (is_down o) true (element_size b t) v (int (pos 1))) s else combining b line (if is_down o then op.Sub else op.Add) (promotion_of (kind_of t)) (kind_of t) v (int (pos 1)) s) e
