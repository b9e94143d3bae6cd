use Rattle.std.proofs.Common.{Some, None, ap, ◌∙◌, false}
use Rattle.std.specs.Prelude.{if◌then◌else◌}
use Rattle.pv_types.specs.Known.{tree}
use Rattle.pv_typed.specs.TypedTree.{type_of}
use Rattle.pv_typed.specs.NodeTrees.{expression_at}
use Rattle.pv_types.specs.Sorts.{bare_type}
use Rattle.pv_check.specs.Values.{may_assign, conversion_to}
use Rattle.pv_check.proofs.ArmLaws.{goes_kept}
use Rattle.pv_check.proofs.Opening.{state_stays}
use Rattle.pv_unit.proofs.Moving.{moves_tables}
use Rattle.pv_unit.proofs.rows.assigned.Goals as goal

pub returns-clause-moves : goal.returns-clause-moves
returns-clause-moves c = moves_tables c.args.into.now c.assigned_as.new.into c.args.s.now c.requires.opened (goes_kept c.args.into.now c.assigned_as.new.into c.in_ok-r.ensures.kept)

pub returns-clause-state : goal.returns-clause-state
returns-clause-state c = λ texts. state_stays texts false c.args.into.now c.assigned_as.new.into c.args.s.now c.requires.opened (goes_kept c.args.into.now c.assigned_as.new.into c.in_ok-r.ensures.kept) c.in_ok-r.ensures.kept.whole

pub returns-clause-typed : goal.returns-clause-typed
returns-clause-typed c =
    let t = bare_type (tree c.args.into.now.known c.args.wanted.0) in
    let e = expression_at c.args.into.now c.args.a in
    c.in_ok-r.ensures.typed ∙ ap (λ b. if may_assign t (type_of e) b then Some (conversion_to t e) else None) c.is_null_constant-null.ensures
