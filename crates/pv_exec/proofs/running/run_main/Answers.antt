use Rattle.std.proofs.Common.{◌∙◌, ap, sym}
use Rattle.pv_typed.specs.TypedUnits.{TypedFunction}
use Rattle.pv_exec.proofs.Mains.{runs-first}
use Rattle.pv_exec.proofs.Turns.{due-asked}
use Rattle.pv_exec.proofs.MainPieces.{piece-left, piece-valued, piece-turns, piece-broken, piece-unbegun, led-as, cause-same, cause-calm}
use Rattle.pv_exec.proofs.running.run_main.Goals as goal

pub run_statements-requires-clause-runs : goal.run_statements-requires-clause-runs
run_statements-requires-clause-runs g c = runs-first c.args.unit.now c.args.f c.body_of.result c.begin_function.new.machine.started c.body_of.ensures.does

pub returns-in-Err-clause-ended : goal.returns-in-Err-clause-ended
returns-in-Err-clause-ended g c =
    let line = sym (ap (λ (x : TypedFunction). x.line) c.function.ensures.function) in
    piece-unbegun _ c.args.unit.now c.args.bound c.args.f c.function.result.line c.args.machine.now c.begin_function.new.machine c.in-Err.e c.in-Err.ensures.made line (c.in-Err.ensures.stays.taken ∙ c.requires.fresh)

pub returns-in-Err-clause-cause : goal.returns-in-Err-clause-cause
returns-in-Err-clause-cause g c = cause-same c.in-Err.e _

pub returns-in-Ok-Left-clause-ended : goal.returns-in-Ok-Left-clause-ended
returns-in-Ok-Left-clause-ended g c =
    let u = c.args.unit.now in
    let m1 = c.begin_function.new.machine in
    let m2 = c.run_statements.new.machine in
    let line = sym (ap (λ (x : TypedFunction). x.line) c.function.ensures.function) in
    piece-left _ _ u c.args.bound c.args.f c.function.result.line c.body_of.result c.args.machine.now m1 m2 c.in-Ok.ensures.made line c.in-Ok.ensures.stays c.requires.fresh (c.in-Ok.ensures.started ∙ c.requires.none) c.body_of.ensures.does
    c.in-Ok-Left.flow c.end_main.result c.end_main.new.machine (led-as u c.args.bound c.body_of.result _ _ m1 m2 c.in-Ok-Left.field-0-is c.in-Ok-Left.ensures.ended) c.end_main.ensures.ended c.end_main.ensures.calm c.end_main.ensures.taken

pub returns-in-Ok-Valued-clause-ended : goal.returns-in-Ok-Valued-clause-ended
returns-in-Ok-Valued-clause-ended g c =
    let u = c.args.unit.now in
    let m1 = c.begin_function.new.machine in
    let m2 = c.run_statements.new.machine in
    let line = sym (ap (λ (x : TypedFunction). x.line) c.function.ensures.function) in
    piece-valued _ _ u c.args.bound c.args.f c.function.result.line c.body_of.result c.args.machine.now m1 m2 c.in-Ok.ensures.made line c.in-Ok.ensures.stays c.requires.fresh (c.in-Ok.ensures.started ∙ c.requires.none) c.body_of.ensures.does
    _ (led-as u c.args.bound c.body_of.result _ _ m1 m2 c.in-Ok-Valued.field-0-is c.in-Ok-Valued.ensures.ended) tt

pub returns-in-Ok-Turns-clause-ended : goal.returns-in-Ok-Turns-clause-ended
returns-in-Ok-Turns-clause-ended g c =
    let u = c.args.unit.now in
    let m1 = c.begin_function.new.machine in
    let m2 = c.run_statements.new.machine in
    let line = sym (ap (λ (x : TypedFunction). x.line) c.function.ensures.function) in
    piece-turns _ _ u c.args.bound c.args.f c.function.result.line c.body_of.result c.args.machine.now m1 m2 c.in-Ok.ensures.made line c.in-Ok.ensures.stays c.requires.fresh (c.in-Ok.ensures.started ∙ c.requires.none) c.body_of.ensures.does
    (led-as u c.args.bound c.body_of.result _ _ m1 m2 c.in-Ok-Turns.field-0-is c.in-Ok-Turns.ensures.ended)

pub returns-in-Err-run_statements-clause-ended : goal.returns-in-Err-run_statements-clause-ended
returns-in-Err-run_statements-clause-ended g c =
    let m1 = c.begin_function.new.machine in
    let m2 = c.run_statements.new.machine in
    let line = sym (ap (λ (x : TypedFunction). x.line) c.function.ensures.function) in
    piece-broken _ _ c.args.unit.now c.args.bound c.args.f c.function.result.line c.body_of.result c.args.machine.now m1 m2 c.in-Ok.ensures.made line c.in-Ok.ensures.stays c.requires.fresh (c.in-Ok.ensures.started ∙ c.requires.none) c.body_of.ensures.does
    c.in-Err-run_statements.e c.in-Err-run_statements.ensures.ended

pub returns-in-Ok-Left-clause-cause : goal.returns-in-Ok-Left-clause-cause
returns-in-Ok-Left-clause-cause g c = cause-calm c.end_main.result _ _ c.end_main.ensures.calm c.in-Ok-Left.ensures.cause

pub run_statements-requires-clause-asked : goal.run_statements-requires-clause-asked
run_statements-requires-clause-asked g c = due-asked c.begin_function.new.machine.started c.body_of.result (c.body_of.ensures.does.counts c.begin_function.new.machine.started)

pub run_statements-requires-clause-fresh : goal.run_statements-requires-clause-fresh
run_statements-requires-clause-fresh g c = c.in-Ok.ensures.stays.taken ∙ c.requires.fresh
