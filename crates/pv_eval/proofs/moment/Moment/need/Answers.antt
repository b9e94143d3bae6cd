use Rattle.std.proofs.Common.{refl, ap, ◌∙◌}
use Rattle.pv_world.specs.Worths.{int}
use Rattle.pv_world.specs.Coming.{worth_of}
use Rattle.pv_eval.specs.Operations.{Needs}
use Rattle.pv_eval.specs.Acting.{pair_count}
use Rattle.pv_eval.specs.Moments.{Moment, Needed, state_of}
use Rattle.pv_eval.proofs.Chosen.{closing}
use Rattle.pv_eval.proofs.moment.Moment.need.Goals as goal

pub returns-clause-needed : goal.returns-clause-needed
returns-clause-needed c = λ u b out es hs hf.
    closing int (λ z. Needed z c.close_number.result (state_of c.close_number.new.self out es)) b u
    (Needs (worth_of c.args.v)) (Needs (worth_of c.args.v)) c.args.line c.need-answer.result c.args.self.now c.args.self.now _ _ _ _ out es
    refl hs hf c.new-told.ensures.items c.deref.ensures.value
    refl
    (c.need-answer.ensures.did c.args.self.now.world)
    (λ op s f d. c.close_number.ensures.needed b _ op out es s (c.pairs_made-before.ensures ∙ ap (λ (m : Moment). pair_count m.world) c.self.view_is) f d)
