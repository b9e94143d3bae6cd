use Rattle.std.proofs.Common.{refl, ap, ◌∙◌}
use Rattle.pv_world.specs.Coming.{worth_of}
use Rattle.pv_eval.specs.Operations.{Follows}
use Rattle.pv_eval.specs.Acting.{pair_count}
use Rattle.pv_eval.specs.Moments.{Moment, Came, state_of}
use Rattle.pv_eval.proofs.Chosen.{closing}
use Rattle.pv_eval.proofs.moment.Moment.follow.Goals as goal

pub returns-clause-acted : goal.returns-clause-acted
returns-clause-acted c = λ b out es hs hf.
    closing worth_of (λ z. Came z c.close.result (state_of c.close.new.self out es)) b c.args.unit.now
    (Follows c.args.nothing (worth_of c.args.v)) (Follows c.args.nothing (worth_of c.args.v)) c.args.line c.follow-answer.result c.args.self.now c.args.self.now _ _ _ _ out es
    refl hs hf c.new-told.ensures.items c.deref.ensures.value
    refl
    (c.follow-answer.ensures.did c.args.self.now.world)
    (λ op s f d. c.close.ensures.acted b _ op out es s (c.pairs_made-before.ensures ∙ ap (λ (m : Moment). pair_count m.world) c.self.view_is) f d)
