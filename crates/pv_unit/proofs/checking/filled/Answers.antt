use Rattle.std.proofs.Common.{subst}
use Rattle.pv_typed.specs.Tables.{whole_unit}
use Rattle.pv_unit.specs.Checking.{externals_in}
use Rattle.pv_unit.specs.Redeclarations.{UnitState}
use Rattle.pv_unit.specs.Outside.{unit_state}
use Rattle.pv_unit.specs.Units.{IsTyped, unit_at_first}
use Rattle.pv_unit.proofs.Causes.{known_on, lack_refused, main_on, small_on, stop_cause, stop_named, unit_comes}
use Rattle.pv_unit.proofs.checking.filled.Goals as goal

pub returns-in-Ok-clause-typed : goal.returns-in-Ok-clause-typed
returns-in-Ok-clause-typed c =
    let t = c.args.t.now in
    let ds = externals_in c.args.u.now in
    let m = c.all_declarations.new.into in
    let u = unit_state t.texts c.all_declarations.new.s m c.all_declarations.new.outer in
    let typed : IsTyped ds (unit_at_first t) u = subst (λ (v : UnitState). IsTyped ds v u) c.requires.first c.in-Ok.ensures.typed in
    unit_comes t ds u (whole_unit c.finished.new.into) c.finished.result typed c.finished.ensures.fine c.finished.ensures.whole

pub returns-in-Ok-clause-known : goal.returns-in-Ok-clause-known
returns-in-Ok-clause-known c = known_on c.all_declarations.new.into c.finished.new.into c.finished.result c.in-Ok.ensures.opened.known c.finished.ensures.grown

pub returns-in-Ok-clause-main : goal.returns-in-Ok-clause-main
returns-in-Ok-clause-main c =
    let u = unit_state c.args.t.now.texts c.all_declarations.new.s c.all_declarations.new.into c.all_declarations.new.outer in
    main_on u (whole_unit c.finished.new.into) c.finished.result c.finished.ensures.fine c.finished.ensures.whole

pub returns-in-Ok-clause-small : goal.returns-in-Ok-clause-small
returns-in-Ok-clause-small c = small_on c.all_declarations.new.into.known c.finished.new.into.known c.finished.result c.in-Ok.ensures.opened.sized c.finished.ensures.types

pub returns-in-Ok-clause-refused : goal.returns-in-Ok-clause-refused
returns-in-Ok-clause-refused c =
    let t = c.args.t.now in
    let ds = externals_in c.args.u.now in
    let m = c.all_declarations.new.into in
    let u = unit_state t.texts c.all_declarations.new.s m c.all_declarations.new.outer in
    let typed : IsTyped ds (unit_at_first t) u = subst (λ (v : UnitState). IsTyped ds v u) c.requires.first c.in-Ok.ensures.typed in
    lack_refused t ds u c.finished.result typed c.finished.ensures.refused

pub returns-in-Err-clause-refused : goal.returns-in-Err-clause-refused
returns-in-Err-clause-refused c =
    let t = c.args.t.now in
    let before = unit_state t.texts c.args.s.now c.args.into.now c.args.outer.now in
    stop_cause t (externals_in c.args.u.now) before c.in-Err.e c.requires.first c.in-Err.ensures.refused

pub returns-in-Err-clause-named : goal.returns-in-Err-clause-named
returns-in-Err-clause-named c =
    let t = c.args.t.now in
    let before = unit_state t.texts c.args.s.now c.args.into.now c.args.outer.now in
    stop_named t (externals_in c.args.u.now) before c.in-Err.e c.in-Err.ensures.refused
