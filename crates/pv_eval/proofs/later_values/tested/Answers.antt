use Rattle.std.proofs.Common.{ap, sym, ◌∙◌}
use Rattle.pv_seq.specs.Rivals.{top}
use Rattle.pv_eval.specs.Sequenced.{node_value}
use Rattle.pv_world.specs.Worths.{truth_int}
use Rattle.pv_eval.specs.Moments.{state_of}
use Rattle.pv_eval.proofs.Cases.{then-gives, tested-stops}
use Rattle.pv_eval.proofs.later_values.tested.Goals as goal

pub returns-in-Ok-clause-led : goal.returns-in-Ok-clause-led
returns-in-Ok-clause-led c = λ b out es hs hl call js. then-gives _ _ (truth_int c.in-Ok.t) _ (c.in-Ok.ensures.tested b out es hs hl) ∙ ap (λ v. node_value (top js) v (state_of c.test.new.self out es)) (sym c.truth.ensures)

pub returns-in-Err-clause-led : goal.returns-in-Err-clause-led
returns-in-Err-clause-led c = λ b out es hs hl call js. tested-stops b call c.args.unit.now _ _ c.in-Err.e js _ (c.in-Err.ensures.tested b out es hs hl)
