use Rattle.std.proofs.Common.{◌∙◌, ap, sym, subst, Err, ℕ}
use Rattle.pv_typed.specs.TypedUnits.{TypedObject, WholeUnit, object_at}
use Rattle.pv_world.specs.Worlds.{Worth}
use Rattle.pv_eval.specs.States.{Res, then_do}
use Rattle.pv_eval.specs.Moments.{state_of}
use Rattle.pv_eval.specs.Operations.{Makes, Fills, act}
use Rattle.pv_eval.specs.Moments.{Made}
use Rattle.pv_exec.specs.OfRuns.{make_static}
use Rattle.std.specs.Prelude.{Some}
use Rattle.pv_exec.proofs.Pieces.{setting-stays, before-stays, made-is, made-stops, stays_both}
use Rattle.pv_exec.proofs.preparing.make_static.Goals as goal

pub returns-in-Ok-clause-made : goal.returns-in-Ok-clause-made
returns-in-Ok-clause-made c = λ b out es hs hl.
    let u = c.args.unit.now in
    let old = c.args.machine.now.moment in
    let mid = c.make.new.self.moment in
    let new = c.fill.new.self.moment in
    let o = c.args.o in
    let st = c.in-Ok.ensures.stays in
    let line = c.object.ensures.object in
    let same = ap (λ (x : TypedObject). x.line) (ap (λ (q : WholeUnit). object_at q o) hs.unit ∙ line) in
    made-is (act b (object_at b.unit o).line (Fills o (Some 0)) (state_of mid out es)) (make_static b o (state_of old out es)) c.fill.result (state_of new out es)
    (ap (λ (n : ℕ). then_do (act b n (Makes o) (state_of old out es)) (λ v s. act b (object_at b.unit o).line (Fills o (Some 0)) s)) same
    ∙ ap (λ (r : Res Worth). then_do r (λ v s. act b (object_at b.unit o).line (Fills o (Some 0)) s)) (c.in-Ok.ensures.made b out es hs hl))
    (c.fill.ensures.made b out es (setting-stays b u old mid st hs) (before-stays old mid out st hl) (object_at b.unit o).line)

pub returns-in-Ok-clause-stays : goal.returns-in-Ok-clause-stays
returns-in-Ok-clause-stays c = stays_both c.args.machine.now.moment c.make.new.self.moment c.fill.new.self.moment c.in-Ok.ensures.stays c.fill.ensures.stays

pub returns-in-Err-clause-made : goal.returns-in-Err-clause-made
returns-in-Err-clause-made c = λ b out es hs hl.
    let old = c.args.machine.now.moment in
    let new = c.make.new.self.moment in
    let o = c.args.o in
    let same = ap (λ (x : TypedObject). x.line) (ap (λ (q : WholeUnit). object_at q o) hs.unit ∙ c.object.ensures.object) in
    made-stops (act b (object_at b.unit o).line (Makes o) (state_of old out es)) (λ v s. act b (object_at b.unit o).line (Fills o (Some 0)) s) c.in-Err.e (state_of new out es)
    (subst (λ (n : ℕ). Made (act b n (Makes o) (state_of old out es)) (Err c.in-Err.e) (state_of new out es)) (sym same) (c.in-Err.ensures.made b out es hs hl))
