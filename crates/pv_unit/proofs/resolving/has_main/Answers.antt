use Rattle.std.proofs.Common.{rules, ◌≡◌, ◌∙◌, ◌<◌, ◌≤◌, length, true, false, sym, arith}
use Rattle.std.proofs.lemmas.List.{length-map}
use Rattle.pv_typed.specs.Tables.{nodes, whole_unit, function_in}
use Rattle.pv_typed.specs.TypedUnits.{function_at}
use Rattle.pv_typed.specs.UnitParts.{no_function}
use Rattle.pv_unit.specs.UnitParts.{is_main_function}
use Rattle.pv_unit.proofs.Resolutions.{main_here, main_next, no_main}
use Rattle.pv_unit.proofs.resolving.has_main.Goals as goal

pub returns-then-is_main_function : goal.returns-then-is_main_function
returns-then-is_main_function c =
    let m = c.args.into.now in
    let fs = (whole_unit m).functions in
    let long = length-map m.functions (function_in m.known (nodes m)) in
    let lt : c.loop-f.f < length fs = omega (arith, long) in
    let is : c.is_main_function.result ≡ true = search rules in
    main_here m.names fs c.loop-f.f no_function lt (sym c.is_main_function.ensures ∙ is) ∙ c.loop-f.invariant

pub loop-f-preserved : goal.loop-f-preserved
loop-f-preserved c =
    let m = c.args.into.now in
    let fs = (whole_unit m).functions in
    let long = length-map m.functions (function_in m.known (nodes m)) in
    let lt : c.loop-f.f < length fs = omega (arith, long) in
    let is : c.is_main_function.result ≡ false = search rules in
    main_next m.names fs c.loop-f.f no_function lt (sym c.is_main_function.ensures ∙ is) ∙ c.loop-f.invariant

pub returns : goal.returns
returns c =
    let m = c.args.into.now in
    let fs = (whole_unit m).functions in
    let long = length-map m.functions (function_in m.known (nodes m)) in
    let le : length fs ≤ c.loop-f.f = omega (arith, long) in
    no_main m.names fs c.loop-f.f le ∙ c.loop-f.invariant
