use Rattle.std.proofs.Common.{◌≡◌, ◌∙◌, ap, sym, subst, Some}
use Rattle.pv_typed.specs.TypedTree.{Function}
use Rattle.pv_typed.specs.TypedUnits.{function_at}
use Rattle.pv_typed.specs.Tables.{whole_unit}
use Rattle.pv_check.specs.Primary.{with_use}
use Rattle.pv_check.specs.PrimaryParts.{designator_of}
use Rattle.pv_check.specs.State.{Used, give}
use Rattle.pv_check.specs.Values.{source_node}
use Rattle.pv_check.specs.Raw.{Raw}
use Rattle.pv_check.specs.Open.{state_of, IsOpen}
use Rattle.pv_check.specs.Arms.{after_node, OpenIf}
use Rattle.pv_check.proofs.ArmLaws.{row_given, open_kept, goes_kept}
use Rattle.pv_check.proofs.Noting.{open_noted, state_noted}
use Rattle.pv_check.proofs.names.placed_function.Goals as goal

pub returns-clause-open : goal.returns-clause-open
returns-clause-open c =
    let P : Raw → Type 0 = λ s. OpenIf c.designator.new.into s c.in_ok-r.r in
    subst P (sym c.in_ok-note.ensures) (open_kept _ _ _ _ c.in_ok-r.ensures.kept (open_noted _ _ c.as_named.result c.requires.open) c.in_ok-r.ensures.node)

pub returns-clause-typed : goal.returns-clause-typed
returns-clause-typed c = λ texts.
    let m = c.args.into.now in
    let st = state_of texts c.args.hidden c.args.s.now m in
    let x = source_node c.args.line (function_at (whole_unit m) c.args.f).t (Function c.args.f) in
    let P : Raw → Type 0 = λ s. after_node texts c.args.hidden s c.designator.new.into c.in_ok-r.r ≡ Some (designator_of c.args.line c.args.f st) in
    subst P (sym c.in_ok-note.ensures)
    (row_given texts _ _ _ _ _ _ c.in_ok-r.ensures.kept (open_noted m c.args.s.now c.as_named.result c.requires.open) c.in_ok-r.ensures.typed
    ∙ ap (give (Some x)) (state_noted texts c.args.hidden m c.args.s.now c.as_named.result ∙ ap (λ (u : Used). with_use st u) c.as_named.ensures))

pub returns-clause-goes : goal.returns-clause-goes
returns-clause-goes c = goes_kept _ _ c.in_ok-r.ensures.kept
