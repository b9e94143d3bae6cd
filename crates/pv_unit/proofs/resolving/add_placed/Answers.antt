use Rattle.std.proofs.Common.{◌<◌, length, arith}
use Rattle.std.proofs.lemmas.List.{length-map}
use Rattle.pv_typed.specs.Tables.{nodes, whole_unit, function_in}
use Rattle.pv_unit.proofs.Resolutions.{placing_next}
use Rattle.pv_unit.proofs.resolving.add_placed.Goals as goal

pub loop-f-preserved : goal.loop-f-preserved
loop-f-preserved c =
    let m = c.args.into.now in
    let long = length-map m.functions (function_in m.known (nodes m)) in
    let lt : c.loop-f.f < length (whole_unit m).functions = omega (arith, long) in
    placing_next m c.loop-f.into c.place_one.new.into c.args.s.now.used c.loop-f.f lt c.loop-f.invariant c.in_ok-place_one.ensures.grown c.in_ok-place_one.ensures.types c.in_ok-place_one.ensures.whole
