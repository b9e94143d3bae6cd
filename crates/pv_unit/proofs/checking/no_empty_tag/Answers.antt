use Rattle.std.proofs.Common.{◌<◌, length, arith}
use Rattle.std.proofs.lemmas.List.{length-map}
use Rattle.pv_typed.specs.Tables.{nodes, whole_unit, function_in}
use Rattle.pv_unit.proofs.Resolutions.{some_function}
use Rattle.pv_unit.proofs.checking.no_empty_tag.Goals as goal

pub function-function-requires : goal.function-function-requires
function-function-requires c =
    let m = c.args.into.now in
    let long = length-map m.functions (function_in m.known (nodes m)) in
    let some : 0 < length (whole_unit m).functions = some_function m.names (whole_unit m).functions c.requires.main in
    omega (arith, long, some)
