-- What plain expressions give, converted as if by assignment, and handed on.
use Rattle.std.proofs.Common.{◌≡◌, ℕ, List, refl, ap, ◌∙◌}
use Rattle.pv_tree.specs.declared.nodes.NodeId.{NodeId}
use Rattle.pv_typed.specs.Tables.{Stored}
use Rattle.pv_typed.specs.NodeTrees.{expression_at}
use Rattle.pv_world.specs.Worlds.{World}
use Rattle.pv_world.specs.Telling.{no_telling}
use Rattle.pv_world.specs.Doing.{Answers}
use Rattle.pv_eval.specs.declared.marked.Marked.{Marked}
use Rattle.pv_eval.specs.declared.plain.Found.{Found}
use Rattle.pv_eval.specs.declared.plain.Found.TheVariants as found
use Rattle.pv_eval.specs.States.{Setting, Gives, then_do}
use Rattle.pv_eval.specs.Operations.{Accepts, act, does}
use Rattle.pv_eval.specs.Pieces.{handed_at}
use Rattle.pv_eval.specs.Plainly.{state_with, IsConverted, found_worth}
use Rattle.pv_eval.proofs.PlainNumbers.{act_gives}

-- each value that is found is there
accepts_found : (b : Setting) (w : World) (v : Found) → does b (Accepts (found_worth v)) w ≡ Answers (found_worth v) w no_telling
accepts_found b w (found.Number k) = refl
accepts_found b w (found.Place p) = refl
accepts_found b w found.Null = refl

pub handed_found : (u : Stored) (n : NodeId) (first v : Found) (w : World) (out : List ℕ) (es : List Marked) (k : ℕ) (b : Setting) (line : ℕ) → IsConverted (expression_at u n) (found_worth first) (found_worth v)
    → handed_at b line (expression_at u n) (found_worth first) (state_with w out es k) ≡ Gives (found_worth v) (state_with w out es k)
handed_found u n first v w out es k b line h =
    ap (λ r. then_do r (λ v s. act b line (Accepts v) s)) (h b w out es k)
    ∙ act_gives w out es k b line (Accepts (found_worth v)) (found_worth v) (accepts_found b w v)
