use Rattle.std.proofs.Common.{refl, ap, sym}
use Rattle.pv_types.specs.Known.{tree}
use Rattle.pv_world.specs.Coming.{worth_of}
use Rattle.pv_eval.specs.TypeForms.{lvalue, shape_of}
use Rattle.pv_eval.specs.Operations.{TakesPart}
use Rattle.pv_eval.specs.Moments.{Came, state_of}
use Rattle.pv_eval.proofs.Chosen.{closing}
use Rattle.pv_eval.proofs.Settings.{size_is}
use Rattle.pv_eval.proofs.moment.Moment.part.Goals as goal

pub returns-clause-acted : goal.returns-clause-acted
returns-clause-acted c = λ b out es hs hf.
    closing worth_of (λ z. Came z c.close.result (state_of c.close.new.self out es)) b c.args.unit.now
    (TakesPart c.args.offset (lvalue b (tree c.args.unit.now.known c.args.t.0)) (worth_of c.args.v)) (TakesPart c.args.offset (lvalue b (tree c.args.unit.now.known c.args.t.0)) (worth_of c.args.v)) c.args.line c.part_of-answer.result _ _ _ _ _ _ out es
    c.self.view_is hs hf c.new-told.ensures.items c.deref.ensures.value
    refl
    (c.part_of-answer.ensures b (lvalue b (tree c.args.unit.now.known c.args.t.0)) (sym (size_is b c.args.unit.now c.types-types.result.now hs.unit c.types-types.ensures c.args.t.0)) (sym (ap (λ k. shape_of (tree k c.args.t.0)) c.types-types.ensures)))
    (λ op s f d. c.close.ensures.acted b _ op out es s c.pairs_made-before.ensures f d)
