use Rattle.std.proofs.Common.{refl, ap, Ok}
use Rattle.pv_world.specs.Coming.{no_worth}
use Rattle.pv_eval.specs.Operations.{BeginsBody}
use Rattle.pv_eval.specs.Moments.{Made, state_of}
use Rattle.pv_eval.proofs.Chosen.{closing}
use Rattle.pv_eval.proofs.Possible.{quietly}
use Rattle.pv_eval.specs.Acting.{pair_count}
use Rattle.pv_eval.proofs.moment.Moment.begin_body.Goals as goal

pub returns-in-Ok-clause-made : goal.returns-in-Ok-clause-made
returns-in-Ok-clause-made c = λ u b out es hs hf line.
    let many = ap pair_count c.in-Ok.ensures in
    closing no_worth (λ z. Made z c.close_done.result (state_of c.close_done.new.self out es)) b u
    (BeginsBody c.args.function c.args.line) (BeginsBody c.args.function c.args.line) line (Ok tt) _ _ _ _ _ _ out es
    c.self.view_is hs hf c.new-told.ensures.items c.deref.ensures.value refl
    (quietly c.self.inside.world c.begin_body.new.self _ c.new-told.result.items c.in-Ok.ensures)
    (λ op s f d. c.close_done.ensures.made b _ op out es s many f d line)
