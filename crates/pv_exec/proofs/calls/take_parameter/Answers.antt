use Rattle.std.proofs.Common.{◌∙◌, ap}
use Rattle.pv_types.specs.Known.{tree}
use Rattle.pv_typed.specs.TypedUnits.{WholeUnit, TypedObject, object_at}
use Rattle.pv_world.specs.Coming.{worth_of}
use Rattle.pv_eval.specs.Moments.{state_of}
use Rattle.pv_exec.proofs.Pieces.{setting-stays, before-stays, stays_both}
use Rattle.pv_exec.proofs.Params.{took-one, none-to-make}
use Rattle.pv_exec.proofs.calls.take_parameter.Goals as goal

pub returns-in-Ok-clause-made : goal.returns-in-Ok-clause-made
returns-in-Ok-clause-made c = λ b out es hs hl.
    let u = c.args.unit.now in
    let o = c.args.o in
    let old = c.args.machine.now.moment in
    let mid = c.make.new.self.moment in
    let new = c.put.new.self.moment in
    let st = c.in-Ok.ensures.stays in
    let t = ap (λ (x : TypedObject). x.t) (ap (λ (q : WholeUnit). object_at q o) hs.unit ∙ c.object.ensures.object) in
    took-one b c.args.line o (tree u.known c.object.result.t.0) (worth_of c.args.v.now) c.put.result (state_of old out es) (state_of mid out es) (state_of new out es) t (c.in-Ok.ensures.made b out es hs hl) (c.put.ensures.made b out es (setting-stays b u old mid st hs) (before-stays old mid out st hl) c.args.line)

pub returns-in-Ok-clause-stays : goal.returns-in-Ok-clause-stays
returns-in-Ok-clause-stays c = stays_both c.args.machine.now.moment c.make.new.self.moment c.put.new.self.moment c.in-Ok.ensures.stays c.put.ensures.stays

pub returns-in-Err-clause-made : goal.returns-in-Err-clause-made
returns-in-Err-clause-made c = λ b out es hs hl.
    none-to-make b c.args.line c.args.o (worth_of c.args.v.now) c.in-Err.e (state_of c.args.machine.now.moment out es) (state_of c.make.new.self.moment out es) (c.in-Err.ensures.made b out es hs hl)
