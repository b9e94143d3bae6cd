use Rattle.std.proofs.Common.{◌+◌, ◌<◌, arith}
use Rattle.pv_typed.specs.Nodes.{statements_in}
use Rattle.pv_typed.specs.Tables.{nodes}
use Rattle.pv_typed.specs.NodeTrees.{list_at}
use Rattle.pv_eval.specs.Moments.{state_of}
use Rattle.pv_exec.proofs.Enters.{block-enters, block-stops, started-same}
use Rattle.pv_exec.proofs.enter.begin_block.Goals as goal

pub returns-in-Ok-clause-led : goal.returns-in-Ok-clause-led
returns-in-Ok-clause-led c = λ b out es hs hl k lt.
    let u = c.args.unit.now in
    let old = c.args.machine.now.moment in
    let new = c.make_objects.new.machine.moment in
    let room : b.bound < new.taken + k = omega (arith, lt, c.in-Ok.ensures.stays.taken) in
    started-same b u _ _ c.args.machine.now.started c.make_objects.new.machine.started _ c.in-Ok.ensures.started
    (block-enters b u k c.args.n c.args.l _ _ c.args.machine.now.started (state_of old out es) (state_of new out es) room c.requires.form (c.in-Ok.ensures.made b out es hs hl))

pub returns-in-Err-clause-led : goal.returns-in-Err-clause-led
returns-in-Err-clause-led c = λ b out es hs hl k lt.
    let u = c.args.unit.now in
    block-stops b u k c.args.n (statements_in (nodes u) (list_at u c.args.l)) _ _ c.in-Err.e c.args.machine.now.started c.make_objects.new.machine.started (state_of c.args.machine.now.moment out es) (state_of c.make_objects.new.machine.moment out es) c.requires.form (c.in-Err.ensures.made b out es hs hl)
