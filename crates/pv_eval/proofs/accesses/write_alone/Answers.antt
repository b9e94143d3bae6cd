use Rattle.std.proofs.Common.{sym, ap, ◌∙◌}
use Rattle.pv_fault.specs.declared.faults.Clause.TheVariants.{OverlappingAssignment}
use Rattle.pv_fault.specs.declared.faults.Reason.TheVariants.{Overlap}
use Rattle.pv_types.specs.Known.{Known, tree}
use Rattle.std.proofs.Common.{Some}
use Rattle.pv_world.specs.declared.got.Shape.{Shape}
use Rattle.pv_world.specs.Worths.{undefined_behaviour}
use Rattle.pv_world.specs.Telling.{telling}
use Rattle.pv_world.specs.Doing.{Fails}
use Rattle.pv_world.specs.Objects.{put_at}
use Rattle.pv_world.specs.Accesses.{is_inexact, stored_as}
use Rattle.pv_world.specs.Coming.{worth_of}
use Rattle.pv_eval.specs.TypeForms.{shape_of}
use Rattle.pv_eval.specs.Sizes.{size_in, number_in}
use Rattle.pv_eval.proofs.Reaches.{stored_alone}
use Rattle.pv_eval.proofs.accesses.write_alone.Goals as goal

pub returns-else-inexact : goal.returns-else-inexact
returns-else-inexact c = λ w0 es us blamed told.
    let m = c.args.unit.now.known in
    let i = c.args.l.t.0 in
    let w = c.args.world.now in
    let a = c.args.at.now.address in
    let v = worth_of c.args.v in
    let test = ap (λ n. is_inexact c.args.from c.args.p.address n) (sym c.requires.complete.size) ∙ sym c.inexact.ensures ∙ c.if-inexact.false in
    let numbered = c.number.ensures ∙ ap (λ (k : Known). number_in k (tree k i)) c.types-types.ensures in
    let shaped = c.shape.ensures ∙ ap (λ (k : Known). shape_of (tree k i)) c.types-types.ensures in
    let stored =
    c.store.ensures
    ∙ ap (λ n. put_at w a (stored_as n c.shape.result v)) numbered
    ∙ ap (λ (s : Shape). put_at w a (stored_as (number_in m (tree m i)) s v)) shaped in
    stored_alone (is_inexact c.args.from c.args.p.address (size_in m (tree m i))) (Fails (undefined_behaviour OverlappingAssignment Overlap) (Some c.args.p.prov) w (telling us)) v w0
    (put_at w a (stored_as (number_in m (tree m i)) (shape_of (tree m i)) v)) c.store.new.self es us c.args.told.now.items test stored told
