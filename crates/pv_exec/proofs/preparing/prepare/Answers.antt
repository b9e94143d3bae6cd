use Rattle.pv_eval.specs.Moments.{state_of}
use Rattle.pv_exec.specs.OfRuns.{prepare}
use Rattle.pv_exec.specs.Lists.{initialize_statics}
use Rattle.pv_exec.proofs.Pieces.{setting-stays, before-stays, made-is, stays_both}
use Rattle.pv_exec.proofs.Readying.{prepare-after, prepare-stops, prepare-stops-later, prepare-stops-last}
use Rattle.pv_exec.proofs.preparing.prepare.Goals as goal

pub returns-in-Err-clause-made : goal.returns-in-Err-clause-made
returns-in-Err-clause-made c = λ b out es hs hl. prepare-stops b c.in-Err.e (state_of c.args.machine.now.moment out es) (state_of c.make_statics.new.machine.moment out es) (c.in-Err.ensures.made b out es hs hl)

pub returns-in-Err-make_literals-clause-made : goal.returns-in-Err-make_literals-clause-made
returns-in-Err-make_literals-clause-made c = λ b out es hs hl.
    let u = c.args.unit.now in
    let old = c.args.machine.now.moment in
    let m1 = c.make_statics.new.machine.moment in
    let m2 = c.make_literals.new.machine.moment in
    let st = c.in-Ok.ensures.stays in
    prepare-stops-later b c.in-Err-make_literals.e (state_of old out es) (state_of m1 out es) (state_of m2 out es) (c.in-Ok.ensures.made b out es hs hl)
    (c.in-Err-make_literals.ensures.made b out es (setting-stays b u old m1 st hs) (before-stays old m1 out st hl))

pub returns-in-Err-make_literals-clause-stays : goal.returns-in-Err-make_literals-clause-stays
returns-in-Err-make_literals-clause-stays c = stays_both c.args.machine.now.moment c.make_statics.new.machine.moment c.make_literals.new.machine.moment c.in-Ok.ensures.stays c.in-Err-make_literals.ensures.stays

pub returns-in-Err-make_functions-clause-made : goal.returns-in-Err-make_functions-clause-made
returns-in-Err-make_functions-clause-made c = λ b out es hs hl.
    let u = c.args.unit.now in
    let old = c.args.machine.now.moment in
    let m1 = c.make_statics.new.machine.moment in
    let m2 = c.make_literals.new.machine.moment in
    let m3 = c.make_functions.new.machine.moment in
    let st1 = c.in-Ok.ensures.stays in
    let st = stays_both old m1 m2 st1 c.in-Ok-make_literals.ensures.stays in
    prepare-stops-last b c.in-Err-make_functions.e (state_of old out es) (state_of m1 out es) (state_of m2 out es) (state_of m3 out es) (c.in-Ok.ensures.made b out es hs hl)
    (c.in-Ok-make_literals.ensures.made b out es (setting-stays b u old m1 st1 hs) (before-stays old m1 out st1 hl))
    (c.in-Err-make_functions.ensures.made b out es (setting-stays b u old m2 st hs) (before-stays old m2 out st hl))

pub returns-in-Err-make_functions-clause-stays : goal.returns-in-Err-make_functions-clause-stays
returns-in-Err-make_functions-clause-stays c =
    let old = c.args.machine.now.moment in
    let m1 = c.make_statics.new.machine.moment in
    let m2 = c.make_literals.new.machine.moment in
    stays_both old m2 c.make_functions.new.machine.moment (stays_both old m1 m2 c.in-Ok.ensures.stays c.in-Ok-make_literals.ensures.stays) c.in-Err-make_functions.ensures.stays

pub returns-clause-made : goal.returns-clause-made
returns-clause-made c = λ b out es hs hl.
    let u = c.args.unit.now in
    let old = c.args.machine.now.moment in
    let m1 = c.make_statics.new.machine.moment in
    let m2 = c.make_literals.new.machine.moment in
    let m3 = c.make_functions.new.machine.moment in
    let m4 = c.initialize_statics.new.machine.moment in
    let st1 = c.in-Ok.ensures.stays in
    let st2 = stays_both old m1 m2 st1 c.in-Ok-make_literals.ensures.stays in
    let st3 = stays_both old m2 m3 st2 c.in-Ok-make_functions.ensures.stays in
    made-is (initialize_statics b b.unit.statics (state_of m3 out es)) (prepare b (state_of old out es)) c.initialize_statics.result (state_of m4 out es)
    (prepare-after b (state_of old out es) (state_of m1 out es) (state_of m2 out es) (state_of m3 out es) (c.in-Ok.ensures.made b out es hs hl)
    (c.in-Ok-make_literals.ensures.made b out es (setting-stays b u old m1 st1 hs) (before-stays old m1 out st1 hl))
    (c.in-Ok-make_functions.ensures.made b out es (setting-stays b u old m2 st2 hs) (before-stays old m2 out st2 hl)))
    (c.initialize_statics.ensures.made b out es (setting-stays b u old m3 st3 hs) (before-stays old m3 out st3 hl))

pub returns-clause-stays : goal.returns-clause-stays
returns-clause-stays c =
    let old = c.args.machine.now.moment in
    let m1 = c.make_statics.new.machine.moment in
    let m2 = c.make_literals.new.machine.moment in
    let m3 = c.make_functions.new.machine.moment in
    stays_both old m3 c.initialize_statics.new.machine.moment
    (stays_both old m2 m3 (stays_both old m1 m2 c.in-Ok.ensures.stays c.in-Ok-make_literals.ensures.stays) c.in-Ok-make_functions.ensures.stays) c.initialize_statics.ensures.stays
