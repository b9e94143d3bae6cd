use Rattle.std.proofs.Common.{◌<◌, length, ap, ◌∙◌, arith}
use Rattle.std.specs.FinMap.{from_entries}
use Rattle.pv_inst.proofs.Counts.{one_said}
use Rattle.pv_world.specs.BoundParts.{with_bindings}
use Rattle.pv_world.proofs.Bindings.{oldest_laid}
use Rattle.pv_world.proofs.bound.make_room.Goals as goal

pub returns-clause-same : goal.returns-clause-same
returns-clause-same c =
    let es = c.args.instances.now.entries in
    let fs = c.insert.new.self.entries in
    let xs = c.args.few.now.items in
    let e = c.remove-oldest.result in
    let some : 0 < length xs = omega (arith, c.remove-oldest.ensures.len) in
    ap (with_bindings (from_entries fs)) c.remove-oldest.ensures.items
    ∙ oldest_laid xs e (from_entries es) (from_entries fs) some c.remove-oldest.ensures.value (one_said es fs e.0 e.1 c.in_ok-insert.ensures.updates.0)

pub returns-clause-room : goal.returns-clause-room
returns-clause-room c = omega (arith, c.len.ensures.value, c.len.ensures.fits, c.remove-oldest.ensures.len)
